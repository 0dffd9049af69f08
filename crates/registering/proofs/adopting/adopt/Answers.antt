-- An adopt: the arena that grows stands in the table, and has room for the block's chunks.
use Rattle.std.specs.Prelude.{◌≡◌, ◌+◌, ◌≤◌}
use Rattle.state.proofs.Prelude.{sym, subst, ◌∙◌, Bool, true, ℕ, arith, Some, First, first_says, Arena, at, grows}
use Rattle.registering.proofs.adopting.adopt.Goals as goal

grows-fits : (S : ℕ) (a : Arena) (address n : ℕ) → grows S a address n ≡ true → a.chunks + n ≤ 1024
unfolding grows
grows-fits S a address n e = grind arith

pub grow_at-requires : goal.grow_at-requires
grow_at-requires c =
    let a = c.args in
    let S = c.chunk_size-chunk_size.result.bytes in
    let n = c.chunks_in-chunks.result in
    let i = c.in-Some.i in
    let p : ℕ → Bool = λ j. grows S (at a.records.now j) a.address n in
    let h : First p 0 a.state.count (Some i) = subst (First p 0 a.state.count) (sym c.find_growing.ensures ∙ c.in-Some.is) (first_says p 0 a.state.count) in
    let r = c.requires.0.0 in
    (omega (arith, h.1, r.lent, r.few), grows-fits S (at a.records.now i) a.address n h.2)
