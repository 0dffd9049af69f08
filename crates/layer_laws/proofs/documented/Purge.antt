-- Option 5: a sweep's questions say whether to decommit as the option said at its first call, and a yes does what is documented. Assumes nothing.
use Rattle.std.specs.Prelude.{◌≡◌, ◌∷◌, ◌+◌, ◌-◌, ◌<◌}
use Rattle.layer.proofs.Prelude.{refl, sym, ap, ◌∙◌, subst, Bool, true, false, true≢false, List, [], ℕ, zero, suc, arith, ℕ_discrete, set, bit_at, within, by_cond, Stands, before, inside, stands, within-before, within-after, Option, Some, None, Arena, take_run, give_back_run, tell_run, sweep_due, disarm, next_asked, borrow_chunk, unpend_chunk, return_chunk, next_wait, rearm_at, rearm, stamps_of, Rows, bit_in, bit-out, World, Outcome, at, sound, ask_memory, purge_reply, swept_reply, visit_at, visit, sweep_from, is_for, counted, answer_to, Call, sweep, answer, act, rules}
use Rattle.bitmap.proofs.words.RowLaws.{beyond}
use Rattle.layer.specs.declared.Settings.{Settings}
use Rattle.layer.specs.declared.Sweep.{Sweep}
use Rattle.layer.specs.declared.Question.{Question}
use Rattle.layer.specs.declared.Question.TheVariants.{Idle, Purging}
use Rattle.layer.specs.declared.Kind.TheVariants.{ForPurge}
use Rattle.layer.specs.declared.Ask.TheVariants.{AskPurge}
use Rattle.layer.specs.declared.Answer.TheVariants.{Asks}
use Rattle.layer.proofs.Tools.{at_same, at_other}
use Rattle.layer.proofs.Facts.{SoundQuestion}
use Rattle.layer.proofs.Stepped.{Words, sound-facts}
use Rattle.layer.proofs.Calls.{past-3}
use Rattle.layer_laws.proofs.after_refusal.Forms.{is_ask, set-as, set_keeps, step-forms}
use Rattle.layer_laws.specs.sweep_runs.Run.{Made, Run, is_open, more, go_on, run_sweep}
use Rattle.layer_laws.proofs.sweep_runs.Swept.{sweep-keeps}
use Rattle.layer_laws.specs.documented.Options.{decommit, documented_purge, answered}

-- ---- what a purge question says

-- a purge question says what its sweep keeps, whichever call puts it
record Says (flag : Bool) (w : World) : Type 0 where
  id : ℕ
  chunk : ℕ
  kept : Sweep
  waits : w.state.question ≡ Purging id chunk kept
  as-kept : kept.decommit ≡ flag

abbrev AllSay : ℕ → ℕ → Bool → Outcome → Type 0
AllSay address many flag o = o.answer ≡ Asks (AskPurge address many flag) → Says flag o.world

asks-purge : (S : ℕ) (address many : ℕ) (flag : Bool) (w : World) (ns : ℕ) (settings : Settings) (c : Call) → AllSay address many flag (rules S w ns settings c)
unfolding ask_memory
asks-purge S address many flag w ns settings c = step-forms S w ns settings c (AllSay address many flag) (record {
  as_it_was = λ r a e. absurd (true≢false (sym (ap is_ask e) ∙ a));
  ended = λ r a m t n gave-up stand kept e. absurd (true≢false (sym (ap is_ask e) ∙ a));
  commits = λ m t count i s n x stand a b e. absurd (let z : ◌≡◌ {A = ℕ} 0 1 = cc in omega arith);
  purges = λ m i j x v stand e. record { id = i; chunk = j; kept = v; waits = refl; as-kept = same x S v.decommit e };
  reserves = λ size page commit large exclusive waiting a e. absurd (let z : ◌≡◌ {A = ℕ} 0 1 = cc in omega arith);
  gives_back = λ chunks bytes commit exclusive waiting kind base cause a b g e. absurd (let z : ◌≡◌ {A = ℕ} 0 1 = cc in omega arith);
})
  where
    same : (x y : ℕ) (f : Bool) → Asks (AskPurge x y f) ≡ Asks (AskPurge address many flag) → f ≡ flag
    same x y f e = cc

-- what holds of every call's outcome holds of the last in a sweep's run
module _ (S : ℕ) (P : Outcome → Type 0) (each : (w : World) (ns : ℕ) (settings : Settings) (c : Call) → P (rules S w ns settings c)) where
  last_goes : (cs : List Made) (r : Run) → P r.last → P (go_on S r cs).last
  unfolding go_on
  last_goes [] r h = h
  last_goes (c ∷ cs) r h = last_goes cs (more S r c) (by_cond (λ (x : Run). P x.last) (is_open r) _ _ (λ e. each _ _ _ _) (λ e. h))

  last_of : (w : World) (ns : ℕ) (settings : Settings) (force : Bool) (calls : List Made) → P (run_sweep S w ns settings force calls).last
  last_of w ns settings force calls = last_goes calls _ (each w ns settings (act (sweep force)))

-- a sweep's own call on a world that row 1 lets pass and where no question is open, and then any calls until it ends
module _ (S : ℕ) (some : 0 < S) (w : World) (ns : ℕ) (settings : Settings) (force : Bool) (calls : List Made) (words : Words w) (passed : sound S w settings.page ≡ true)
    (idle : w.state.question ≡ Idle) where
  -- the settings of the sweep's first call
  first-setting : (id chunk : ℕ) (kept : Sweep) → (run_sweep S w ns settings force calls).last.world.state.question ≡ Purging id chunk kept → kept.decommit ≡ settings.decommits
  first-setting id chunk kept e = ap (λ (x : Sweep). x.decommit) (sweep-keeps S some w ns settings force calls words passed idle id chunk kept e)

  pub purge-says : (address many : ℕ) (flag : Bool) → (run_sweep S w ns settings force calls).last.answer ≡ Asks (AskPurge address many flag) → flag ≡ settings.decommits
  purge-says address many flag e =
      let s = last_of S (AllSay address many flag) (asks-purge S address many flag) w ns settings force calls e in
      sym s.as-kept ∙ first-setting s.id s.chunk s.kept s.waits

-- ---- what a yes does

-- a sweep leaves every committed bit
borrow-committed : (a : Arena) (j : ℕ) → (borrow_chunk a j).committed ≡ a.committed
unfolding borrow_chunk take_run
borrow-committed a j = refl

rearm-at-committed : (a : Arena) (now : ℕ) (f : Option ℕ) → (rearm_at a now f).committed ≡ a.committed
rearm-at-committed a now (Some x) = refl
rearm-at-committed a now None = refl

rearm-committed : (a : Arena) (stamps : List ℕ) (force : Bool) (now delay : ℕ) → (rearm a stamps force now delay).committed ≡ a.committed
unfolding rearm
rearm-committed a stamps true now delay = refl
rearm-committed a stamps false now delay = rearm-at-committed a now (next_wait a stamps now delay)

disarm-committed : (a : Arena) → (disarm a).committed ≡ a.committed
unfolding disarm
disarm-committed a = refl

abbrev committed : Arena → List ℕ
committed a = a.committed

module _ (S : ℕ) (stamps : List ℕ) (k : ℕ) (mark : Bool) (w : Sweep) (m : ℕ) where
  visit-committed : (l : List Arena) (i : ℕ) (a : Arena) (from : ℕ) (rest : List Arena → Outcome) → ((n : List Arena) → committed (at (rest n).world.records m) ≡ committed (at n m))
      → committed (at (visit S stamps k mark w l i a from rest).world.records m) ≡ committed (at (set l i a) m)
  unfolding visit purge_reply
  visit-committed l i a from rest on = go (next_asked a (stamps_of stamps i) w.force w.now w.delay from)
    where
      go : (f : Option ℕ) → committed (at (visit_at S stamps k mark w l i a rest f).world.records m) ≡ committed (at (set l i a) m)
      go (Some j) = set-as committed l i (borrow_chunk a j) a m (borrow-committed a j)
      go None = on _ ∙ set-as committed l i (rearm a (stamps_of stamps i) w.force w.now w.delay) a m (rearm-committed a (stamps_of stamps i) w.force w.now w.delay)

  sweep-committed : (f i : ℕ) (l : List Arena) → committed (at (sweep_from S stamps k mark w f i l).world.records m) ≡ committed (at l m)
  unfolding sweep_from swept_reply
  sweep-committed zero i l = refl
  sweep-committed (suc f) i l =
      by_cond (λ (o : Outcome). committed (at o.world.records m) ≡ committed (at l m)) (sweep_due (at l i) w.force w.now) _ _
      (λ e. visit-committed l i (disarm (at l i)) 0 (sweep_from S stamps k mark w f (i + 1)) (λ n. sweep-committed f (i + 1) n) ∙ set_keeps committed l i (disarm (at l i)) m (disarm-committed (at l i)))
      (λ e. sweep-committed f (i + 1) l)

-- the chunk that was asked about, and the others of its arena
module _ (a : Arena) (j : ℕ) (granted flag : Bool) (r : Rows a) (h : j < 1024) where
  returned : bit_at (return_chunk a j granted flag).committed j ≡ answered granted (documented_purge flag) (bit_at a.committed j)
  returned = go granted flag
    where
      go : (g f : Bool) → bit_at (return_chunk a j g f).committed j ≡ answered g (documented_purge f) (bit_at a.committed j)
      go true true = unfold return_chunk tell_run give_back_run unpend_chunk documented_purge in (bit_in false a.committed j 1 r.committed (omega arith) j (omega arith) (omega arith))
      go true false = unfold return_chunk give_back_run unpend_chunk documented_purge in refl
      go false f = unfold return_chunk give_back_run unpend_chunk in refl

  returned-others : (c : ℕ) → (c ≡ j → ⊥) → bit_at (return_chunk a j granted flag).committed c ≡ bit_at a.committed c
  returned-others c d = go granted flag
    where
      out : Stands j 1 c → within j 1 c ≡ false
      out (before p) = within-before j 1 c p
      out (inside p q) = absurd (d (omega arith))
      out (beyond p) = within-after j 1 c p

      go : (g f : Bool) → bit_at (return_chunk a j g f).committed c ≡ bit_at a.committed c
      go true true = unfold return_chunk tell_run give_back_run unpend_chunk in (bit-out false a.committed j 1 r.committed (omega arith) c (out (stands j 1 c)))
      go true false = unfold return_chunk give_back_run unpend_chunk in refl
      go false f = unfold return_chunk give_back_run unpend_chunk in refl

-- an answer to an open purge question, on a world that row 1 lets pass
module _ (S : ℕ) (v : World) (later : ℕ) (others : Settings) (i j : ℕ) (kept : Sweep) (granted : Bool) (base : ℕ) (words : Words v) (passed : sound S v others.page ≡ true)
    (waits : v.state.question ≡ Purging i j kept) where
  abbrev left : World
  left = (rules S v later others (answer ForPurge granted base)).world

  asked-about : SoundQuestion v.records v.state.count (Purging i j kept)
  asked-about = subst (SoundQuestion v.records v.state.count) waits (sound-facts S v others.page words passed).0.question

  few : j < 1024
  few = omega (arith, asked-about.1, ((sound-facts S v others.page words passed).0.table.each i asked-about.0).range.few)

  committed-left : (m : ℕ) → committed (at left.records m) ≡ committed (at (set v.records i (return_chunk (at v.records i) j granted kept.decommit)) m)
  unfolding is_for
  committed-left m =
      ap (λ (o : Outcome). committed (at o.world.records m))
      (past-3 S v later others passed ForPurge (ap (λ (q : Question). is_for q ForPurge) waits) granted base
      ∙ ap (λ (q : Question). answer_to S v.records v.stamps v.state.count v.state.mark q granted base) waits)
      ∙ visit-committed S v.stamps v.state.count v.state.mark (counted kept granted) m v.records i (return_chunk (at v.records i) j granted kept.decommit) (j + 1) _
      (λ n. sweep-committed S v.stamps v.state.count v.state.mark (counted kept granted) m (v.state.count - (i + 1)) (i + 1) n)

  in-arena : committed (at left.records i) ≡ (return_chunk (at v.records i) j granted kept.decommit).committed
  in-arena =
      let t = (sound-facts S v others.page words passed).0.table in
      committed-left i ∙ ap committed (at_same v.records i _ (omega (arith, asked-about.0, t.long, t.few)))

  -- the chunk that was asked about is committed or not as is documented of the option that the sweep keeps
  pub purge-does : bit_at (at left.records i).committed j ≡ answered granted (documented_purge kept.decommit) (bit_at (at v.records i).committed j)
  purge-does = ap (λ (ws : List ℕ). bit_at ws j) in-arena ∙ returned (at v.records i) j granted kept.decommit (words i asked-about.0) few

  -- and every other as it was
  pub purge-leaves : (m c : ℕ) → ((m ≡ i) × (c ≡ j) → ⊥) → bit_at (at left.records m).committed c ≡ bit_at (at v.records m).committed c
  purge-leaves m c d = go (ℕ_discrete m i)
    where
      go : Dec (m ≡ i) → bit_at (at left.records m).committed c ≡ bit_at (at v.records m).committed c
      go (yes e) =
          ap (λ (x : ℕ). bit_at (at left.records x).committed c) e ∙ ap (λ (ws : List ℕ). bit_at ws c) in-arena
          ∙ returned-others (at v.records i) j granted kept.decommit (words i asked-about.0) few c (λ f. d (e, f)) ∙ ap (λ (x : ℕ). bit_at (at v.records x).committed c) (sym e)
      go (no e) = ap (λ (ws : List ℕ). bit_at ws c) (committed-left m ∙ ap committed (at_other v.records i m _ e))

-- an answer in a sweep's run: the option is the one of the sweep's first call
pub purge-run : (S : ℕ) → 0 < S → (w : World) (ns : ℕ) (settings : Settings) (force : Bool) (calls : List Made) → Words w → sound S w settings.page ≡ true → w.state.question ≡ Idle
    → let v = (run_sweep S w ns settings force calls).last.world in
    (later : ℕ) (others : Settings) (i j : ℕ) (kept : Sweep) (granted : Bool) (base : ℕ) → Words v → sound S v others.page ≡ true → v.state.question ≡ Purging i j kept
    → bit_at (at (rules S v later others (answer ForPurge granted base)).world.records i).committed j
    ≡ answered granted (documented_purge settings.decommits) (bit_at (at v.records i).committed j)
purge-run S some w ns settings force calls words passed idle later others i j kept granted base u t waits =
    let v = (run_sweep S w ns settings force calls).last.world in
    purge-does S v later others i j kept granted base u t waits
    ∙ ap (λ (f : Bool). answered granted (documented_purge f) (bit_at (at v.records i).committed j)) (first-setting S some w ns settings force calls words passed idle i j kept waits)
