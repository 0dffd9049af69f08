-- A sweep puts at most as many questions as bits were pending at its start, and counts its yes answers. Each answer clears one pending bit that was set and
-- sets none, so the questions put and the bits still pending, the asked chunk's left out, are never more than the bits at the start. Assumes nothing.
use Rattle.std.specs.Prelude.{◌≡◌, ◌&&◌, ◌∷◌, ◌+◌, ◌-◌, ◌<◌, ◌≤◌}
use Rattle.layer.proofs.Prelude.{refl, sym, ap, ◌∙◌, subst, Bool, true, false, cond, not, true≢false, List, [], ℕ, suc, arith, ltb, ℤ, pos, negsuc, length, bit_at, by_cond, when, unless, Refusal, Broken, QuestionOpen, NoSuchQuestion, Arena, return_chunk, World, Outcome, state_with, world_of, outcome, at, is_some, find_arena, sound, sweep_from, is_for, counted, answer_purge, answer_of, Call, reserve, manage, adopt, claim, release, sweep, answer, owns, area, area_of, sweep_of, step_on, act, query, rules, sweeps_none, act_on}
use native.Mathlib.Nat.{zero-add}
use Rattle.layer.specs.declared.Settings.{Settings}
use Rattle.layer.specs.declared.Sweep.{Sweep}
use Rattle.layer.specs.declared.Question.{Question}
use Rattle.layer.specs.declared.Question.TheVariants.{Idle, Purging}
use Rattle.layer.specs.declared.Kind.TheVariants.{ForCommit, ForPurge, ForMemory, ForGiveBack, ForNone}
use Rattle.layer.specs.declared.Answer.{Answer}
use Rattle.layer.specs.declared.Answer.TheVariants.{Refused, Swept, Owns}
use Rattle.layer.proofs.Tools.{by-not}
use Rattle.layer.proofs.Calls.{past-1}
use Rattle.layer.proofs.Kept.{SoundWorld}
use Rattle.layer.proofs.Stepped.{Words, sound-facts, step-on-kept}
use Rattle.layer_laws.specs.sweep_runs.Run.{pending_in, pending_bits, asks_purge, is_refused, is_yes, says_yes, is_purging, Made, Run, is_open, more, go_on, with_count, run_sweep}
use Rattle.layer_laws.proofs.sweep_runs.Counts.{count-some, bits-some}
use Rattle.layer_laws.proofs.sweep_runs.Goes.{Goes, asks, ends, visit-goes, sweep-goes, return-less}
use Rattle.layer.proofs.Sweeps.{all-or-none}

-- ---- a sweep under way

-- its question is open: the asked chunk is pending, its clock and settings are the first and its count is that of the yes answers, and the questions put
-- and the bits still pending are at most one more than the bits at the start
pub record Going (first : Sweep) (S bits : ℕ) (v : World) (questions yeses : ℕ) : Type 0 where
  pub id : ℕ
  pub chunk : ℕ
  pub sweep : Sweep
  pub fit : SoundWorld S v
  pub asked : v.state.question ≡ Purging id chunk sweep
  pub pending : bit_at (at v.records id).pending chunk ≡ true
  pub kept : sweep ≡ with_count first yeses
  pub most : questions + pending_bits v.records v.state.count ≤ bits + 1

pub data Fares (first : Sweep) (S bits : ℕ) (r : Run) : Type 0 where
  going : Going first S bits r.last.world r.questions r.yes → Fares first S bits r
  ended : is_open r ≡ false → r.last.answer ≡ Swept r.yes → r.questions ≤ bits → Fares first S bits r

-- at least the asked chunk is pending
asked-one : (S : ℕ) (l : List Arena) (stamps : List ℕ) (k : ℕ) (mark : Bool) (i j : ℕ) (w : Sweep) → SoundWorld S (world_of l stamps (state_with k mark (Purging i j w)))
    → bit_at (at l i).pending j ≡ true → 1 ≤ pending_bits l k
unfolding pending_in
asked-one S l stamps k mark i j w t d =
    let q = t.question in
    let a : 1 ≤ pending_in (at l i) = count-some (bit_at (at l i).pending) 0 (at l i).chunks j (omega arith) (omega (arith, q.1)) d in
    omega (arith, a, bits-some l i k q.0)

-- where a sweep goes, it fares
fares : (first : Sweep) (S bits left : ℕ) (stamps : List ℕ) (k : ℕ) (mark : Bool) (w : Sweep) (questions yeses : ℕ) → w ≡ with_count first yeses → questions + left ≤ bits → (o : Outcome) → SoundWorld S o.world
    → Goes S stamps k mark w left o → Fares first S bits (record { questions = questions + asks_purge o.answer; yes = yeses; last = o })
fares first S bits left stamps k mark w questions yeses c h o t (asks l i j address decommit a b d n e) =
    subst (λ (x : Outcome). Fares first S bits (record { questions = questions + asks_purge x.answer; yes = yeses; last = x })) (sym e)
    (going (record {
      id = i;
      chunk = j;
      sweep = w;
      fit = subst (λ (x : Outcome). SoundWorld S x.world) e t;
      asked = refl;
      pending = d;
      kept = c;
      most = omega (arith, h, n);
    }))
fares first S bits left stamps k mark w questions yeses c h o t (ends l e) =
    subst (λ (x : Outcome). Fares first S bits (record { questions = questions + asks_purge x.answer; yes = yeses; last = x })) (sym e)
    (ended refl (ap (λ (x : Sweep). Swept x.purged) c) (omega (arith, h)))

-- a sweep that goes on is not refused
goes_on : (S bits : ℕ) (stamps : List ℕ) (k : ℕ) (mark : Bool) (w : Sweep) (o : Outcome) → Goes S stamps k mark w bits o → is_refused o.answer ≡ false
goes_on S bits stamps k mark w o (asks l i j address decommit a b d n e) = ap (λ (x : Outcome). is_refused x.answer) e
goes_on S bits stamps k mark w o (ends l e) = ap (λ (x : Outcome). is_refused x.answer) e

-- ---- a call while the question is open

abbrev FaresAfter : Sweep → ℕ → ℕ → ℕ → ℕ → Call → Outcome → Type 0
FaresAfter first S bits questions yeses call o = Fares first S bits (record { questions = questions + asks_purge o.answer; yes = yeses + says_yes call o.answer; last = o })

module _ (first : Sweep) (S bits : ℕ) (some : 0 < S) (l : List Arena) (stamps : List ℕ) (k : ℕ) (mark : Bool) (i j : ℕ) (w : Sweep) (ns : ℕ) (settings : Settings) (questions yeses : ℕ)
    (t : SoundWorld S (world_of l stamps (state_with k mark (Purging i j w)))) (d : bit_at (at l i).pending j ≡ true) (c : w ≡ with_count first yeses) (h : questions + pending_bits l k ≤ bits + 1) where
  abbrev After : Call → Outcome → Type 0
  After = FaresAfter first S bits questions yeses

  -- a refusal or a query: nothing changes
  stays : (call : Call) (a : Answer) → asks_purge a ≡ 0 → says_yes call a ≡ 0 → After call (outcome a (world_of l stamps (state_with k mark (Purging i j w))))
  stays call a x y = going (record { id = i; chunk = j; sweep = w; fit = t; asked = refl; pending = d; kept = c ∙ ap (with_count first) (let z : yeses ≡ yeses + says_yes call a = omega (arith, y) in z); most = omega (arith, h, x) })

  -- the answer: one bit less is pending
  goes : (granted : Bool) → Goes S stamps k mark (counted w granted) (pending_bits l k - 1) (answer_purge S l stamps k mark i j w granted)
  unfolding pending_in
  goes granted =
      let q = t.question in
      let less : suc (pending_in (return_chunk (at l i) j granted w.decommit)) ≡ pending_in (at l i) =
      return-less (at l i) j granted w.decommit (t.table.rows i q.0) q.1 (t.table.each i q.0).range.few d in
      let most : pending_in (at l i) ≤ pending_bits l k = bits-some l i k q.0 in
      let long : k ≤ length l = omega (arith, t.table.long, t.table.few) in
      visit-goes S stamps k mark (counted w granted) (pending_bits l k - 1) l i (j + 1) (return_chunk (at l i) j granted w.decommit)
      (sweep_from S stamps k mark (counted w granted) (k - (i + 1)) (i + 1)) q.0 long (omega (arith, less, most))
      (λ m u p. sweep-goes S stamps k mark (counted w granted) (pending_bits l k - 1) (k - (i + 1)) (i + 1) m (omega (arith, q.0)) u p)

  answered : (granted : Bool) (base : ℕ) → SoundWorld S (answer_purge S l stamps k mark i j w granted).world → After (answer ForPurge granted base) (answer_purge S l stamps k mark i j w granted)
  answered granted base x =
      subst (λ (n : ℕ). Fares first S bits (record { questions = questions + asks_purge (answer_purge S l stamps k mark i j w granted).answer; yes = yeses + n; last = answer_purge S l stamps k mark i j w granted }))
      (sym (taken granted (answer_purge S l stamps k mark i j w granted).answer (goes_on S (pending_bits l k - 1) stamps k mark (counted w granted) (answer_purge S l stamps k mark i j w granted) (goes granted))))
      (fares first S bits (pending_bits l k - 1) stamps k mark (counted w granted) questions (yeses + cond granted 1 0) (ap (λ (x : Sweep). counted x granted) c) (omega (arith, h, asked-one S l stamps k mark i j w t d))
      (answer_purge S l stamps k mark i j w granted) x (goes granted))
    where
      taken : (g : Bool) (a : Answer) → is_refused a ≡ false → says_yes (answer ForPurge g base) a ≡ cond g 1 0
      taken true a e = ap (λ (b : Bool). cond (not b) 1 0) e
      taken false a e = refl

  no-purge : (id : ℤ) → asks_purge (area_of S l k id) ≡ 0
  no-purge (pos x) = by_cond (λ (a : Answer). asks_purge a ≡ 0) (ltb x k) _ _ (λ e. refl) (λ e. refl)
  no-purge (negsuc x) = refl

  -- a refusal counts as no yes
  refused : (call : Call) (why : Refusal) → After call (outcome (Refused why) (world_of l stamps (state_with k mark (Purging i j w))))
  refused call why = stays call (Refused why) refl (none (is_yes call))
    where
      none : (b : Bool) → ◌≡◌ {A = ℕ} (cond (b && false) 1 0) 0
      none true = refl
      none false = refl

  during : (call : Call) → SoundWorld S (step_on S l stamps k mark (Purging i j w) ns settings call).world → After call (step_on S l stamps k mark (Purging i j w) ns settings call)
  unfolding answer_of is_for
  during (act (reserve size commit large exclusive)) x = refused (act (reserve size commit large exclusive)) QuestionOpen
  during (act (manage start size exclusive node mapped reserved)) x = refused (act (manage start size exclusive node mapped reserved)) QuestionOpen
  during (act (adopt address size)) x = refused (act (adopt address size)) QuestionOpen
  during (act (claim id n commits)) x = refused (act (claim id n commits)) QuestionOpen
  during (act (release address n told pending)) x = refused (act (release address n told pending)) QuestionOpen
  during (act (sweep force)) x = refused (act (sweep force)) QuestionOpen
  during (answer ForCommit granted base) x = refused (answer ForCommit granted base) NoSuchQuestion
  during (answer ForPurge granted base) x = answered granted base x
  during (answer ForMemory granted base) x = refused (answer ForMemory granted base) NoSuchQuestion
  during (answer ForGiveBack granted base) x = refused (answer ForGiveBack granted base) NoSuchQuestion
  during (answer ForNone granted base) x = refused (answer ForNone granted base) NoSuchQuestion
  during (query (owns address)) x = stays (query (owns address)) (Owns (is_some (find_arena S l k address))) refl refl
  during (query (area id)) x = stays (query (area id)) (area_of S l k id) (no-purge id) refl

  called : (call : Call) → After call (rules S (world_of l stamps (state_with k mark (Purging i j w))) ns settings call)
  unfolding rules
  called call =
      by-not (After call) (sound S (world_of l stamps (state_with k mark (Purging i j w))) settings.page) _ _
      (λ e. during call (step-on-kept S some l stamps k mark t.table t.stamps (Purging i j w) ns settings call t.question)) (λ e. refused call Broken)

-- ---- call after call

more-fares : (first : Sweep) (S bits : ℕ) → 0 < S → (r : Run) (c : Made) → Fares first S bits r → Fares first S bits (more S r c)
more-fares first S bits some r c (ended e f g) = subst (Fares first S bits) (sym (unless (is_open r) _ _ e)) (ended e f g)
more-fares first S bits some r c (going g) =
    subst (Fares first S bits) (sym (when (is_open r) _ _ (ap is_purging g.asked)))
    (let v = r.last.world in
    subst
    (λ (q : Question). FaresAfter first S bits r.questions r.yes c.call (rules S (world_of v.records v.stamps (state_with v.state.count v.state.mark q)) c.ns c.settings c.call))
    (sym g.asked)
    (called first S bits some v.records v.stamps v.state.count v.state.mark g.id g.chunk g.sweep c.ns c.settings r.questions r.yes
    (subst (λ (q : Question). SoundWorld S (world_of v.records v.stamps (state_with v.state.count v.state.mark q))) g.asked g.fit) g.pending g.kept g.most c.call))

goes-fares : (first : Sweep) (S bits : ℕ) → 0 < S → (cs : List Made) (r : Run) → Fares first S bits r → Fares first S bits (go_on S r cs)
unfolding go_on
goes-fares first S bits some [] r f = f
goes-fares first S bits some (c ∷ cs) r f = goes-fares first S bits some cs (more S r c) (more-fares first S bits some r c f)

-- ---- the theorems

-- the first call, on a world that row 1 lets pass and where no question is open
module _ (S : ℕ) (some : 0 < S) (w : World) (ns : ℕ) (settings : Settings) (force : Bool) (calls : List Made) (words : Words w) (passed : sound S w settings.page ≡ true)
    (idle : w.state.question ≡ Idle) where
  abbrev first : Sweep
  first = sweep_of force ns settings

  begins : Fares first S (pending_bits w.records w.state.count)
      (record { questions = asks_purge (rules S w ns settings (act (sweep force))).answer; yes = 0; last = rules S w ns settings (act (sweep force)) })
  unfolding rules
  begins =
      let f = (sound-facts S w settings.page words passed).0 in
      let l = w.records in
      let k = w.state.count in
      let m = w.state.mark in
      subst (λ (o : Outcome). Fares first S (pending_bits l k) (record { questions = asks_purge o.answer; yes = 0; last = o }))
      (sym (past-1 S w ns settings passed (act (sweep force)) ∙ ap (λ (q : Question). step_on S l w.stamps k m q ns settings (act (sweep force))) idle))
      (let o = act_on S l w.stamps k m Idle ns settings (sweep force) in
      subst (λ (n : ℕ). Fares first S (pending_bits l k) (record { questions = n; yes = 0; last = o })) (zero-add (asks_purge o.answer))
      (fares first S (pending_bits l k) (pending_bits l k) w.stamps k m (sweep_of force ns settings) 0 0 refl (omega arith) o
      (step-on-kept S some l w.stamps k m f.table f.stamps Idle ns settings (act (sweep force)) tt)
      (all-or-none S w.stamps k m (sweep_of force ns settings) (Goes S w.stamps k m (sweep_of force ns settings) (pending_bits l k)) (sweeps_none settings force) l
      (λ g h. sweep-goes S w.stamps k m (sweep_of force ns settings) (pending_bits l k) g 0 l (omega (arith, h)) (omega (arith, f.table.long, f.table.few)) refl))))

  through : Fares first S (pending_bits w.records w.state.count) (run_sweep S w ns settings force calls)
  through = goes-fares first S (pending_bits w.records w.state.count) some calls _ begins

  -- "It puts at most as many questions as bits were pending at its start."
  pub sweep-asks : (run_sweep S w ns settings force calls).questions ≤ pending_bits w.records w.state.count
  sweep-asks = go (run_sweep S w ns settings force calls) through
    where
      go : (r : Run) → Fares first S (pending_bits w.records w.state.count) r → r.questions ≤ pending_bits w.records w.state.count
      go r (ended e f g) = g
      go r (going g) =
          let v = r.last.world in
          let t = subst (λ (q : Question). SoundWorld S (world_of v.records v.stamps (state_with v.state.count v.state.mark q))) g.asked g.fit in
          omega (arith, g.most, asked-one S v.records v.stamps v.state.count v.state.mark g.id g.chunk g.sweep t g.pending)

  -- "The count is the number of yes answers.": once no question of it is open, the sweep has answered with it
  pub sweep-counts : is_open (run_sweep S w ns settings force calls) ≡ false
      → (run_sweep S w ns settings force calls).last.answer ≡ Swept (run_sweep S w ns settings force calls).yes
  sweep-counts = go (run_sweep S w ns settings force calls) through
    where
      go : (r : Run) → Fares first S (pending_bits w.records w.state.count) r → is_open r ≡ false → r.last.answer ≡ Swept r.yes
      go r (ended e f g) x = f
      go r (going g) x = absurd (true≢false (sym (ap is_purging g.asked) ∙ x))

  -- "A sweep keeps its first clock and settings until it ends."
  pub sweep-keeps : (id chunk : ℕ) (now : Sweep) → (run_sweep S w ns settings force calls).last.world.state.question ≡ Purging id chunk now
      → now ≡ with_count (sweep_of force ns settings) (run_sweep S w ns settings force calls).yes
  sweep-keeps = go (run_sweep S w ns settings force calls) through
    where
      one : (i j id chunk : ℕ) (x now : Sweep) → Purging i j x ≡ Purging id chunk now → x ≡ now
      one i j id chunk x now e = cc

      go : (r : Run) → Fares first S (pending_bits w.records w.state.count) r → (id chunk : ℕ) (now : Sweep) → r.last.world.state.question ≡ Purging id chunk now
          → now ≡ with_count first r.yes
      go r (ended e f g) id chunk now x = absurd (true≢false (sym (ap is_purging x) ∙ e))
      go r (going g) id chunk now x = one id chunk g.id g.chunk now g.sweep (sym x ∙ g.asked) ∙ g.kept
