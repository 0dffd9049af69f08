-- Each return of a claim's core leaves what the definition of a claim says. Assumes nothing.
use Rattle.std.specs.Prelude.{◌≡◌, ◌+◌, ◌<◌, ◌≤◌}
use Rattle.state.proofs.Prelude.{sym, ap, ◌∙◌, Bool, true, false, not, List, ℕ, arith, eqb, ℤ, Some, None, length, set, Refusal, Zero, ArenasOff, when, unless, arena_allowed, Arena, found_inside, SoundArena, Settings, State, Reply, Outcome, size_of, after, Leaves, turn_down, calm, at, grant_arena, grant_reply, miss_reply, search_of, claim_of}
use Rattle.state.specs.Ready.{Standing, Ready}
use Rattle.state.proofs.Entry.{calm-is, stands, comes}
use Rattle.claiming.specs.declared.searching.Place.{Place}
use Rattle.claiming.specs.Search.{search_from, Searchable, RunAt}
use Rattle.claiming.proofs.SearchLaws.{Finds, finds, in-a-run, in-vain}

-- what the search and the grant require
module _ (l : List Arena) (state : State) (ready : Standing l state) where
  pub searchable : Searchable l state.count
  searchable = let m : length l ≡ 32 = ready.lent in let k : state.count ≤ 32 = ready.few in (omega (arith, m, k), λ i h. (stands l state ready i h).range.few)

  pub grantable : (id : ℤ) (n : ℕ) (p : Place) → search_from l id n 0 state.count ≡ Some p → RunAt (size_of state) l p.id p.start n
  grantable id n p e =
      let m : length l ≡ 32 = ready.lent in
      let k : state.count ≤ 32 = ready.few in
      let found : Finds l id n 0 state.count p = finds l id n 0 state.count p e in
      let h : p.id < 0 + state.count = found.0 in
      let a : SoundArena (size_of state) (at l p.id) = stands l state ready p.id (omega (arith, h)) in
      (omega (arith, h, m, k), found_inside (at l p.id) n p.start found.1, a.range.few, a.range.ends)

-- the returns
module _ (l : List Arena) (stamps : List ℕ) (state : State) (settings : Settings) (id : ℤ) (n : ℕ) (commits : Bool) (ready : Ready l state) where
  abbrev out : Outcome
  out = claim_of (size_of state) l stamps state.count state.mark id n commits settings

  down : (why : Refusal) → after (turn_down why (calm state.count state.mark)) l stamps ≡ after (turn_down why state) l stamps
  down why = ap (λ (s : State). after (turn_down why s) l stamps) (sym (calm-is l state ready))

  pub zero_row : eqb n 0 ≡ true → Leaves out (turn_down Zero state) l stamps
  unfolding claim_of
  zero_row e = comes out _ l stamps (when _ _ _ e ∙ down Zero)

  module _ (some : eqb n 0 ≡ false) where
    pub off-row : arena_allowed settings.off id ≡ false → Leaves out (turn_down ArenasOff state) l stamps
    unfolding claim_of
    off-row e = comes out _ l stamps (unless _ _ _ some ∙ when _ _ _ (ap not e) ∙ down ArenasOff)

    module _ (allowed : arena_allowed settings.off id ≡ true) where
      abbrev waits : Reply
      waits = miss_reply (size_of state) state.count state.mark id n commits settings

      searched : out ≡ search_of (size_of state) l stamps state.count state.mark id n commits waits
      unfolding claim_of
      searched = unless _ _ _ some ∙ unless _ _ _ (ap not allowed)

      pub granted : (p : Place) → search_from l id n 0 state.count ≡ Some p
          → Leaves out (grant_reply (size_of state) state.count state.mark p.id (at l p.id) p.start n commits) (set l p.id (grant_arena (at l p.id) p.start n commits)) stamps
      granted p e = comes out _ _ stamps (searched ∙ in-a-run l id n (size_of state) stamps state.count state.mark commits waits p e)

      pub missed : search_from l id n 0 state.count ≡ None → Leaves out waits l stamps
      missed e = comes out _ l stamps (searched ∙ in-vain l id n (size_of state) stamps state.count state.mark commits waits e)
