-- A join row by row: what its loops know, and that each return is the definition's. Assumes nothing.
use Rattle.std.specs.Prelude.{◌≡◌, ◌&&◌, ◌+◌, ◌*◌, ◌<◌, ◌≤◌, Result, Ok, Err}
use Rattle.refusals.specs.declared.Refusal.{Refusal}
use Rattle.state.proofs.Prelude.{refl, sym, ap, ap₂, ◌∙◌, subst, Bool, true, false, not, List, ℕ, arith, le-ltb, lt-ltb, length, replicate, Broken, QuestionOpen, when, unless, and_both, Arena, bytes_of, State, Settings, Question, World, world_of, size_of, calm, blank, at, is_some, overlaps, is_idle, sound}
use lib.ListN.{take, get_or}
use lib.Seq.{length-take-le, get_or-take}
use Rattle.std.proofs.lemmas.List.{get_or_default}
use Rattle.refusals.specs.declared.Refusal.TheVariants.{TablesOverlap, TooManyArenas}
use Rattle.arena.specs.Moving.{overwritten}
use Rattle.arena.specs.Soundness.{sound_range}
use Rattle.arena.specs.Stamps.{no_stamps}
use Rattle.layer.specs.declared.JoinReply.{JoinReply}
use Rattle.layer.specs.World.{empty}
use Rattle.layer.specs.Joining.{JoinOutcome, join_outcome, tables_overlap, join_on, join_rules, join, join_reply, join_reply_in, LeavesBoth}
use Rattle.state.specs.Ready.{Ready, Stamped, SoundArenas}
use Rattle.state.proofs.Entry.{ready, stamps-lent}
use Rattle.table.proofs.TableLaws.{range_at}
use Rattle.table.proofs.TurnLaws.{Passed, found_at, found_none}

-- ---- row 17

-- a place of the first c records
pub at-turn : (m : List Arena) (c j : ℕ) (d : Arena) → c ≤ length m → j < length (take c m) → (j < c) × (get_or (take c m) j d ≡ at m j)
at-turn m c j d lent h =
    let t = length-take-le c m lent in
    let lt : j < c = omega (arith, t, h) in
    (lt, get_or-take c m j d lt ∙ get_or_default m j d blank (omega (arith, lt, lent)))

-- its range
pub range-turn : (S : ℕ) (m : List Arena) (c j : ℕ) (d : Arena) → SoundArenas S m c → j < length (take c m)
    → sound_range S (get_or (take c m) j d).base (get_or (take c m) j d).chunks ≡ true
range-turn S m c j d sound h =
    let here = at-turn m c j d sound.0 h in
    subst (λ (a : Arena). sound_range S a.base a.chunks ≡ true) (sym here.1) (range_at S m c sound j here.0)

-- an arena of the second against the first k of the first
module _ (S : ℕ) (l m : List Arena) (k : ℕ) where
  abbrev pub crossed : ℕ → Bool
  crossed j = overlaps S l k (at m j).base (bytes_of S (at m j))

  -- by the record's range, as it is read
  pub crossed-is : (a : Arena) (j base bytes : ℕ) → a ≡ at m j → (base ≡ a.base) × (bytes ≡ bytes_of S a) → overlaps S l k base bytes ≡ crossed j
  crossed-is a j base bytes e r = ap₂ (overlaps S l k) (r.0 ∙ ap (λ (x : Arena). x.base) e) (r.1 ∙ ap (bytes_of S) e)

  pub one-crossed : (c j : ℕ) → j < c → Passed false crossed j → crossed j ≡ true → true ≡ tables_overlap S l k m c
  unfolding tables_overlap
  one-crossed c j h p e = ap is_some (found_at crossed c j h p e)

  pub none-crossed : (c : ℕ) → Passed false crossed c → false ≡ tables_overlap S l k m c
  unfolding tables_overlap
  none-crossed c p = ap is_some (found_none crossed c p)

-- ---- the second is left empty

pub records-empty : replicate 32 blank ≡ empty.records
unfolding empty
records-empty = refl

pub stamps-empty : no_stamps ≡ empty.stamps
unfolding empty
stamps-empty = refl

-- ---- the rows

-- what an outcome leaves, by what it is
comes : (o : JoinOutcome) (answer : Result ℕ Refusal) (w v : World) → o ≡ join_outcome answer w v
    → LeavesBoth o (join_reply answer w.state v.state) w.records w.stamps v.records v.stamps
comes o answer w v e =
    (sym (ap join_reply_in e), sym (ap (λ (p : JoinOutcome). p.first.records) e), sym (ap (λ (p : JoinOutcome). p.first.stamps) e), sym (ap (λ (p : JoinOutcome). p.second.records) e), sym (ap (λ (p : JoinOutcome). p.second.stamps) e))

module _ (l : List Arena) (stamps : List ℕ) (m : List Arena) (second-stamps : List ℕ) (state second : State) where
  abbrev w : World
  w = world_of l stamps state

  abbrev v : World
  v = world_of m second-stamps second

  abbrev S : ℕ
  S = size_of state

  abbrev k : ℕ
  k = state.count

  abbrev c : ℕ
  c = second.count

  abbrev Refuses : JoinOutcome → Refusal → Type 0
  Refuses o why = LeavesBoth o (join_reply (Err why) state second) l stamps m second-stamps

  -- past rows 1 and 2
  module _ (first-ready : Ready l state) (second-ready : Ready m second) where
    none_open : not (is_idle state.question && is_idle second.question) ≡ false
    none_open = ap₂ (λ (p q : Question). not (is_idle p && is_idle q)) first-ready.1 second-ready.1

    pub overlap-row : tables_overlap S l k m c ≡ true → Refuses (join_on S w v) TablesOverlap
    unfolding join_on
    overlap-row e = comes _ _ w v (unless _ _ _ none_open ∙ when _ _ _ e)

    module _ (apart : tables_overlap S l k m c ≡ false) where
      pub many-row : 32 < k + c → Refuses (join_on S w v) TooManyArenas
      unfolding join_on
      many-row h = comes _ _ w v (unless _ _ _ none_open ∙ unless _ _ _ apart ∙ when _ _ _ (lt-ltb 32 (k + c) h))

      pub joined-row : k + c ≤ 32
          → LeavesBoth (join_on S w v) (join_reply (Ok k) (calm (k + c) (state.mark && second.mark)) (calm 0 false)) (overwritten l k m c)
          (overwritten stamps (1024 * k) second-stamps (1024 * c)) empty.records empty.stamps
      unfolding join_on empty
      joined-row h = comes _ _ _ _ (unless _ _ _ none_open ∙ unless _ _ _ apart ∙ unless _ _ _ (le-ltb 32 (k + c) h))

  -- the entry
  module _ (ns : ℕ) (settings : Settings) where
    abbrev out : JoinOutcome
    out = join w v ns settings

    abbrev both-sound : Bool
    both-sound = sound S w settings.page && sound S v settings.page

    pub broken-row : both-sound ≡ false → Refuses out Broken
    unfolding join_rules
    broken-row e = comes _ _ w v (when _ _ _ (ap not e))

    module _ (passes : both-sound ≡ true) where
      goes : out ≡ join_on S w v
      unfolding join_rules
      goes = unless _ _ _ (ap not passes)

      pub open_row : is_idle state.question && is_idle second.question ≡ false → Refuses out QuestionOpen
      unfolding join_on
      open_row e = comes _ _ w v (goes ∙ when _ _ _ (ap not e))

      -- past rows 1 and 2 the core
      pub joins : (r : JoinReply) (a : List Arena) (s : List ℕ) (b : List Arena) (t : List ℕ) → LeavesBoth (join_on S w v) r a s b t → LeavesBoth out r a s b t
      joins r a s b t = subst (λ (o : JoinOutcome). LeavesBoth o r a s b t) (sym goes)

      pub both-ready : is_idle state.question && is_idle second.question ≡ true → Ready l state × Stamped stamps × Ready m second × Stamped second-stamps
      both-ready e =
          let p = and_both (sound S w settings.page) (sound S v settings.page) passes in
          let i = and_both (is_idle state.question) (is_idle second.question) e in
          (ready l stamps state ns settings p.0 i.0, stamps-lent l stamps state ns settings p.0, ready m second-stamps second ns settings p.1 i.1, stamps-lent m second-stamps second ns settings p.1)
