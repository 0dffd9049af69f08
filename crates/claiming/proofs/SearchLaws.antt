-- What a claim's search finds is what the definition of a claim looks for. Assumes nothing.
use Rattle.std.specs.Prelude.{◌≡◌, ◌&&◌, ◌+◌, ◌-◌, ◌<◌, ◌≤◌, take, get_or}
use Rattle.state.proofs.Prelude.{refl, sym, ap, ◌∙◌, Bool, true, false, cond, List, ℕ, zero, suc, arith, ltb-true, le-leb, le-ltb, ltb, ℤ, length, set, Option, Some, None, is_some, all, least, lowest_run, Arena, find_run, found_inside, Reply, Outcome, after, blank, at, eligible, grant_arena, grant_reply, search_of}
use Rattle.std.proofs.lemmas.List.{get_or-take, get_or_default, length-take}
use native.Mathlib.Numerals.{add-one}
use Rattle.layer.specs.Claiming.{serves, grant_found, search_at}
use Rattle.claiming.specs.declared.searching.Place.{Place}
use Rattle.claiming.specs.Search.{run_in, or_later, search_from}

-- a run of none starts at the first chunk
pub none-wanted : (id : ℤ) (i : ℕ) (a : Arena) (b : Bool) → eligible id i a ≡ b → run_in id 0 i a ≡ cond b (Some 0) None
unfolding run_in find_run lowest_run least all
none-wanted id i a b e = rw (e, le-ltb a.chunks 0 (omega arith), le-leb 0 a.chunks (omega arith)) refl

module _ (l : List Arena) (id : ℤ) (n : ℕ) where
  abbrev here : ℕ → Option ℕ
  here i = run_in id n i (at l i)

  -- ---- what is left to search of the first k, from arena to arena

  module _ (k i : ℕ) (d : Arena) (h : i < length (take k l)) where
    below : (i < k) × (i < length l)
    below = (omega (arith, length-take k l), omega (arith, length-take k l))

    one-more : k - i ≡ suc (k - (i + 1))
    one-more = omega (arith, below.0)

    -- what is read of the first k is read of the table
    here-is : run_in id n i (get_or (take k l) i d) ≡ here i
    here-is = ap (run_in id n i) (get_or-take k l i d below.0 ∙ get_or_default l i d blank below.1)

    pub ends-here : (s : ℕ) → run_in id n i (get_or (take k l) i d) ≡ Some s → Some (record { id = i; start = s }) ≡ search_from l id n i (k - i)
    unfolding search_from
    ends-here s e = let r : here i ≡ Some s = sym here-is ∙ e in rw (one-more, r) refl

    pub goes-on : run_in id n i (get_or (take k l) i d) ≡ None → search_from l id n (i + 1) (k - (i + 1)) ≡ search_from l id n i (k - i)
    unfolding search_from
    goes-on e = let r : here i ≡ None = sym here-is ∙ e in rw (one-more, r, add-one) refl

  pub none-left : (k i : ℕ) → length (take k l) ≤ i → k ≤ length l → None ≡ search_from l id n i (k - i)
  unfolding search_from
  none-left k i h m = let over : k - i ≡ 0 = omega (arith, length-take k l) in rw over refl

  -- ---- what was found

  -- the run is its arena's lowest
  run-is : (i s : ℕ) → here i ≡ Some s → find_run (at l i) n ≡ Some s
  unfolding run_in
  run-is i s = go (eligible id i (at l i)) (ltb (at l i).chunks n)
    where
      go : (b c : Bool) → cond b (cond c None (find_run (at l i) n)) None ≡ Some s → find_run (at l i) n ≡ Some s
      go true true e = cc
      go true false e = e
      go false c e = cc

  -- what the search found, if it found a run
  abbrev pub Finds : ℕ → ℕ → Place → Type 0
  Finds i m p = (p.id < i + m) × (find_run (at l p.id) n ≡ Some p.start)

  pub finds : (i m : ℕ) (p : Place) → search_from l id n i m ≡ Some p → Finds i m p
  unfolding search_from
  finds i zero p e = cc
  finds i (suc m) p e = go (here i) refl e (finds (suc i) m p)
    where
      go : (r : Option ℕ) → here i ≡ r → or_later i r (search_from l id n (suc i) m) ≡ Some p
          → (search_from l id n (suc i) m ≡ Some p → Finds (suc i) m p) → Finds i (suc m) p
      go (Some s) g e further =
          let same : i ≡ p.id = cc in
          let start : s ≡ p.start = cc in
          rw (← same, ← start) (omega arith, run-is i s g)
      go None g e further = let r : Finds (suc i) m p = further e in (omega (arith, r.0), r.1)

  module _ (S : ℕ) (stamps : List ℕ) (k : ℕ) (mark commits : Bool) (missed : Reply) where
    -- the run that the search found is granted; a search in vain is answered by `missed`
    abbrev pub ends : Option Place → Outcome
    ends (Some p) = after (grant_reply S k mark p.id (at l p.id) p.start n commits) (set l p.id (grant_arena (at l p.id) p.start n commits)) stamps
    ends None = after missed l stamps

    step : (i : ℕ) (v : Option Place) (f : Option ℕ) → ends v ≡ search_at S l stamps k mark n commits missed f
        → ends (or_later i (here i) v) ≡ search_at S l stamps k mark n commits missed (cond (serves id n l i) (Some i) f)
    unfolding run_in serves
    step i v f same = go (eligible id i (at l i)) (ltb (at l i).chunks n) refl (find_run (at l i) n) refl
      where
        -- a run that is found lies in an arena of enough chunks
        go : (b c : Bool) → ltb (at l i).chunks n ≡ c → (r : Option ℕ) → find_run (at l i) n ≡ r
            → ends (or_later i (cond b (cond c None r) None) v) ≡ search_at S l stamps k mark n commits missed (cond (b && is_some r) (Some i) f)
        go false c e r g = same
        go true true e (Some s) g =
            let inside : s + n ≤ (at l i).chunks = found_inside (at l i) n s g in let short : (at l i).chunks < n = ltb-true (at l i).chunks n e in absurd (omega (arith, inside, short))
        go true true e None g = same
        go true false e (Some s) g = sym (ap (grant_found S l stamps k mark i n commits) g)
        go true false e None g = same

    as-defined : (i m : ℕ) → ends (search_from l id n i m) ≡ search_at S l stamps k mark n commits missed (least (serves id n l) i m)
    unfolding search_from least
    as-defined i zero = refl
    as-defined i (suc m) = step i (search_from l id n (suc i) m) (least (serves id n l) (suc i) m) (as-defined (suc i) m)

    -- what the search comes to
    pub in-a-run : (p : Place) → search_from l id n 0 k ≡ Some p
        → search_of S l stamps k mark id n commits missed
        ≡ after (grant_reply S k mark p.id (at l p.id) p.start n commits) (set l p.id (grant_arena (at l p.id) p.start n commits)) stamps
    unfolding search_of
    in-a-run p e = sym (as-defined 0 k) ∙ ap ends e

    pub in-vain : search_from l id n 0 k ≡ None → search_of S l stamps k mark id n commits missed ≡ after missed l stamps
    unfolding search_of
    in-vain e = sym (as-defined 0 k) ∙ ap ends e
