-- A release row by row: what is known of the arena that the address lies in, and that each return is the definition's. Assumes nothing.
use Rattle.std.specs.Prelude.{◌≡◌, ◌≢◌, ◌∷◌, ◌+◌, ◌-◌, ◌*◌, ◌/◌, ◌%◌, ◌<◌, ◌≤◌}
use Rattle.state.proofs.Prelude.{sym, ap, ◌∙◌, subst, Bool, true, false, not, cond, List, [], ℕ, div-lt_iff_lt-mul, arith, eq-eqb, ne_eqb, lt-leb, le-leb, eqb, leb, length, get_or, set, pos, blank, Refusal, Zero, NotInside, NotWhole, PastEnd, when, unless, now_ms, delay_ms, Option, Some, None, First, first_says, Arena, Commitment, stays_pending, release_run, stamp_run, is_inside, inside-facts, Released, Settings, State, Outcome, size_of, world_of, after, Leaves, reply, turn_down, calm, at, is_some, unwrap_or, find_arena, release_of}
use Rattle.std.proofs.lemmas.List.{get_or_default}
use Rattle.arena.proofs.PlaceLaws.{Within}
use Rattle.layer.specs.World.{refuse, first_of}
use Rattle.state.specs.Ready.{Standing, Ready}
use Rattle.state.proofs.Entry.{size_fits, calm-is, stands, comes}

-- what an index past the end of the records stands for
abbrev unread : Arena
unread = record { base = 0; chunks = 0; exclusive = 0; owned = 0; node = pos 0; deadline = 0; used = []; dirty = []; committed = []; pending = [] }

-- the arena that the address lies in
module _ (l : List Arena) (state : State) (stand : Standing l state) (address i : ℕ) (found : find_arena (size_of state) l state.count address ≡ Some i) where
  abbrev lies : ℕ → Bool
  lies j = is_inside (size_of state) (at l j) address

  first : First lies 0 state.count (Some i)
  unfolding find_arena
  first = subst (First lies 0 state.count) found (first_says lies 0 state.count)

  within : Within (size_of state) (at l i) address
  within = inside-facts (size_of state) (at l i) address first.2

  low : i < 32
  low = let h : i < 0 + state.count = first.1 in let k : state.count ≤ 32 = stand.few in omega (arith, h, k)

  pub is-lent : i < length l
  is-lent = omega (arith, low, stand.lent)

  -- the record, as the code reads it where it lies
  pub is-read : get_or l i unread ≡ at l i
  is-read = get_or_default l i unread blank is-lent

  pub chunks-read : (get_or l i unread).chunks ≡ (at l i).chunks
  chunks-read = ap (λ (a : Arena). a.chunks) is-read

  from : (at l i).base ≤ address
  from = within.from

  pub from-base : (get_or l i unread).base ≤ address
  from-base = rw is-read from

  abbrev start : Arena → ℕ
  start a = (address - a.base) / size_of state

  -- the run starts in the arena
  starts : start (at l i) ≤ (at l i).chunks
  starts =
      let h : address < (at l i).base + (at l i).chunks * size_of state = within.before in
      let d : address - (at l i).base < (at l i).chunks * size_of state = omega (arith, h, from) in
      let s : start (at l i) < (at l i).chunks = (div-lt_iff_lt-mul (size_fits state).0).1 d in
      omega (arith, s)

  pub starts-in : start (get_or l i unread) ≤ (get_or l i unread).chunks
  starts-in = rw is-read starts

  -- the run of n ends in it, as the code tells it
  pub ends_in : (s n : ℕ) → s ≡ start (at l i) → n ≤ (get_or l i unread).chunks - s → start (at l i) + n ≤ (at l i).chunks
  ends_in s n e h = omega (arith, e, h, starts, chunks-read)

  pub ends-past : (s n : ℕ) → s ≡ start (at l i) → (get_or l i unread).chunks - s < n → (at l i).chunks < start (at l i) + n
  ends-past s n e h = omega (arith, e, h, starts, chunks-read)

  pub releasable : (n : ℕ) → start (at l i) + n ≤ (at l i).chunks → (i < 32) × (length l ≡ 32) × (start (at l i) + n ≤ 1024)
  releasable n t =
      let h : i < 0 + state.count = first.1 in
      let c : (at l i).chunks ≤ 1024 = (stands l state stand i (omega (arith, h))).range.few in
      (low, stand.lent, omega (arith, t, c))

-- the returns
module _ (l : List Arena) (stamps : List ℕ) (state : State) (ns : ℕ) (settings : Settings) (address n : ℕ) (told : Commitment) (pending : Bool) (ready : Ready l state) where
  abbrev S : ℕ
  S = size_of state

  abbrev k : ℕ
  k = state.count

  abbrev ms : ℕ
  ms = now_ms ns

  abbrev delay : ℕ
  delay = delay_ms settings.delay

  abbrev stays : Bool
  stays = stays_pending settings pending

  abbrev out : Outcome
  out = release_of S l stamps k state.mark address n told stays ms delay

  down : (why : Refusal) → after (turn_down why (calm k state.mark)) l stamps ≡ after (turn_down why state) l stamps
  down why = ap (λ (s : State). after (turn_down why s) l stamps) (sym (calm-is l state ready))

  pub zero_row : n ≡ 0 → Leaves out (turn_down Zero state) l stamps
  unfolding release_of
  zero_row e = comes out _ l stamps (when _ _ _ (eq-eqb n 0 e) ∙ down Zero)

  -- the call, by where the address is found
  abbrev by : Option ℕ → Outcome
  by f =
      let w = world_of l stamps (calm k state.mark) in
      let i = unwrap_or f 0 in
      let offset = address - (at l i).base in
      first_of
      (refuse w Zero (eqb n 0)
      ∷ refuse w NotInside (not (is_some f))
      ∷ refuse w NotWhole (not (eqb (offset % S) 0))
      ∷ refuse w PastEnd (not (leb (offset / S + n) (at l i).chunks))
      ∷ [])
      (after (reply Released (calm k state.mark)) (set l i (release_run (at l i) (offset / S) n told stays ms delay))
      (cond stays (stamp_run stamps (1024 * i + offset / S) n ms) stamps))

  by_place : (f : Option ℕ) → find_arena S l k address ≡ f → out ≡ by f
  unfolding release_of
  by_place f e = ap by e

  module _ (some : n ≢ 0) where
    past-zero : eqb n 0 ≡ false
    past-zero = ne_eqb n 0 some

    pub outside-row : find_arena S l k address ≡ None → Leaves out (turn_down NotInside state) l stamps
    outside-row e = comes out _ l stamps (by_place None e ∙ unless _ _ _ past-zero ∙ down NotInside)

    module _ (i : ℕ) (found : find_arena S l k address ≡ Some i) where
      abbrev offset : ℕ
      offset = address - (at l i).base

      pub part-row : eqb (offset % S) 0 ≡ false → Leaves out (turn_down NotWhole state) l stamps
      part-row e = comes out _ l stamps (by_place (Some i) found ∙ unless _ _ _ past-zero ∙ when _ _ _ (ap not e) ∙ down NotWhole)

      module _ (whole : eqb (offset % S) 0 ≡ true) where
        pub end_row : (at l i).chunks < offset / S + n → Leaves out (turn_down PastEnd state) l stamps
        end_row e = comes out _ l stamps (by_place (Some i) found ∙ unless _ _ _ past-zero ∙ unless _ _ _ (ap not whole) ∙ when _ _ _ (ap not (lt-leb (offset / S + n) (at l i).chunks e)) ∙ down PastEnd)

        abbrev new : List Arena
        new = set l i (release_run (at l i) (offset / S) n told stays ms delay)

        abbrev stamped : List ℕ
        stamped = cond stays (stamp_run stamps (1024 * i + offset / S) n ms) stamps

        pub released : offset / S + n ≤ (at l i).chunks → Leaves out (reply Released (calm k state.mark)) new stamped
        released e = comes out _ new stamped (by_place (Some i) found ∙ unless _ _ _ past-zero ∙ unless _ _ _ (ap not whole) ∙ unless _ _ _ (ap not (le-leb (offset / S + n) (at l i).chunks e)))
