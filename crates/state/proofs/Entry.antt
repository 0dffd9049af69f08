-- Rows 1 and 2 of every call, and what they say of the table that they let pass. Assumes nothing.
use Rattle.std.specs.Prelude.{◌≡◌, ◌<◌, ◌≤◌, Result, Ok, Err}
use Rattle.layer.proofs.Prelude.{sym, ap, subst, ◌∙◌, true, false, not, List, ℕ, arith, eqb-true, leb-true, eqb, leb, length, Broken, QuestionOpen, when, unless, all, all-free-of, and_both, by_cond, cond, page_size_sound, Refusal, Arena, sound_arena, SoundArena, arena-facts, Outcome, state_with, world_of, after, turn_down, calm, at, apart, sound_table, sound_lent, Act, Call, act, act_on, step_on, rules, step}
use Rattle.layer.specs.declared.Settings.{Settings}
use Rattle.layer.specs.declared.State.{State}
use Rattle.layer.specs.declared.Reply.{Reply}
use Rattle.layer.specs.World.{size_of, reply_in, Leaves}
use Rattle.layer.specs.Answering.{is_idle}
pub use Rattle.layer.proofs.ChunkLaws.{size_fits}
use Rattle.layer.proofs.Calls.{idle-is, past-1}
use Rattle.state.specs.Ready.{Standing, Ready, Stamped, Asked, SoundArenas}

-- what an outcome leaves, by what it is
pub comes : (o : Outcome) (r : Reply) (l : List Arena) (stamps : List ℕ) → o ≡ after r l stamps → Leaves o r l stamps
comes o r l stamps e = (sym (ap reply_in e), sym (ap (λ (p : Outcome). p.world.records) e), sym (ap (λ (p : Outcome). p.world.stamps) e))

-- what a core is handed
module _ (l : List Arena) (state : State) where
  -- a state with no question open
  pub calm-is : Ready l state → state ≡ calm state.count state.mark
  calm-is ready = ap (state_with state.count state.mark) ready.1

  -- each arena that stands
  pub stands : Standing l state → (i : ℕ) → i < state.count → SoundArena (size_of state) (at l i)
  stands ready i h =
      arena-facts (size_of state) (at l i)
      (all-free-of (λ j. sound_arena (size_of state) (at l j)) 0 state.count ready.each i (omega arith) (omega arith))

  -- what a search of the table requires
  pub arenas : Standing l state → SoundArenas (size_of state) l state.count
  arenas ready = let m : length l ≡ 32 = ready.lent in let k : state.count ≤ 32 = ready.few in (omega (arith, m, k), ready.each)

module _ (l : List Arena) (stamps : List ℕ) (state : State) (ns : ℕ) (settings : Settings) where
  abbrev pub Passes : Type 0
  Passes = sound_lent (size_of state) l (length stamps) state settings.page ≡ true

  -- past row 1
  pub goes : Passes → (c : Call)
      → step (world_of l stamps state) ns settings c ≡ step_on (size_of state) l stamps state.count state.mark state.question ns settings c
  goes e c = past-1 (size_of state) (world_of l stamps state) ns settings e c

  -- row 1
  pub broken-row : sound_lent (size_of state) l (length stamps) state settings.page ≡ false → (c : Call)
      → Leaves (step (world_of l stamps state) ns settings c) (turn_down Broken state) l stamps
  unfolding rules
  broken-row e c = comes _ _ l stamps (when _ _ _ (ap not e))

  -- row 2
  pub open_row : Passes → is_idle state.question ≡ false → (a : Act)
      → Leaves (step (world_of l stamps state) ns settings (act a)) (turn_down QuestionOpen state) l stamps
  open_row e i a = comes _ _ l stamps (goes e (act a) ∙ when _ _ _ (ap not i))

  -- past rows 1 and 2 the core
  pub acted : Passes → is_idle state.question ≡ true → (a : Act) (r : Reply) (m : List Arena) (t : List ℕ)
      → Leaves (act_on (size_of state) l stamps state.count state.mark state.question ns settings a) r m t
      → Leaves (step (world_of l stamps state) ns settings (act a)) r m t
  acted e i a r m t = subst (λ (o : Outcome). Leaves o r m t) (sym (goes e (act a) ∙ unless _ _ _ (ap not i)))

  -- what row 1 says
  pub standing : Passes → Standing l state
  unfolding sound_lent sound_table
  standing e =
      let a = and_both (eqb (length l) 32) _ e in
      let b = and_both (eqb (length stamps) 32768) _ a.1 in
      let c = and_both (page_size_sound settings.page) _ b.1 in
      let d = and_both (leb state.count 32) _ c.1 in
      record {
        lent = eqb-true (length l) 32 a.0;
        few = leb-true state.count 32 d.0;
        each = (and_both (all (λ i. sound_arena (size_of state) (at l i)) 0 state.count) _ d.1).0;
      }

  pub ready : Passes → is_idle state.question ≡ true → Ready l state
  ready e i = (standing e, idle-is state.question i)

  pub stamps-lent : Passes → Stamped stamps
  unfolding sound_lent
  stamps-lent e = eqb-true (length stamps) 32768 (and_both (eqb (length stamps) 32768) _ (and_both (eqb (length l) 32) _ e).1).0

  pub asked : Passes → Asked l stamps state
  unfolding sound_lent sound_table
  asked e =
      let a = and_both (eqb (length l) 32) _ e in
      let b = and_both (eqb (length stamps) 32768) _ a.1 in
      let c = and_both (page_size_sound settings.page) _ b.1 in
      let d = and_both (leb state.count 32) _ c.1 in
      let f = and_both (all (λ i. sound_arena (size_of state) (at l i)) 0 state.count) _ d.1 in
      record { standing = standing e; stamped = stamps-lent e; question = (and_both (apart (size_of state) l state.count) _ f.1).1 }

  -- ---- both rows, as one function tests them
  abbrev rows : Result Unit Refusal
  rows =
      cond (sound_lent (size_of state) l (length stamps) state settings.page)
      (cond (is_idle state.question) (Ok tt) (Err QuestionOpen))
      (Err Broken)

  abbrev Told : Result Unit Refusal → Type 0
  Told (Ok u) = Passes × (is_idle state.question ≡ true)
  Told (Err why) = (a : Act) → Leaves (step (world_of l stamps state) ns settings (act a)) (turn_down why state) l stamps

  told : Told rows
  told =
      by_cond Told (sound_lent (size_of state) l (length stamps) state settings.page) _ _
      (λ e. by_cond Told (is_idle state.question) _ _ (λ i. (e, i)) (λ i a. open_row e i a))
      (λ e a. broken-row e (act a))

  -- a row that holds turns every act down
  pub turned-down : (why : Refusal) → rows ≡ Err why → (a : Act)
      → Leaves (step (world_of l stamps state) ns settings (act a)) (turn_down why state) l stamps
  turned-down why e = subst Told e told

  module _ (u : Unit) (e : rows ≡ Ok u) where
    let-pass : Passes × (is_idle state.question ≡ true)
    let-pass = subst Told e told

    -- else the core is handed a table that is sound and idle
    pub handed : Ready l state × Stamped stamps
    handed = (ready let-pass.0 let-pass.1, stamps-lent let-pass.0)

    -- and what it leaves is what the call leaves
    pub let-act : (a : Act) (r : Reply) (m : List Arena) (t : List ℕ)
        → Leaves (act_on (size_of state) l stamps state.count state.mark state.question ns settings a) r m t
        → Leaves (step (world_of l stamps state) ns settings (act a)) r m t
    let-act a r m t = acted let-pass.0 let-pass.1 a r m t
