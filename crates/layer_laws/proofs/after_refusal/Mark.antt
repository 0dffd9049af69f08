-- No call clears the give-up mark. Assumes nothing.
use Rattle.std.specs.Prelude.{◌≡◌}
use Rattle.layer.proofs.Prelude.{true, ℕ, Outcome, ask_memory}
use Rattle.layer_laws.specs.after_refusal.Mark.{MarkStays}
use Rattle.layer_laws.proofs.after_refusal.Forms.{step-forms}

pub mark-stays : (S : ℕ) → MarkStays S
unfolding ask_memory
mark-stays S w ns settings c set = step-forms S w ns settings c (λ (o : Outcome). o.world.state.mark ≡ true) (record {
  as_it_was = λ r a. set;
  ended = λ r a m t n gave-up stand kept. kept set;
  commits = λ m t count i s n address stand a b. set;
  purges = λ m i j address v stand. set;
  reserves = λ size page commit large exclusive waiting a. set;
  gives_back = λ chunks bytes commit exclusive waiting kind base cause a b d. set;
})
