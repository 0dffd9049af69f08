-- What single rules say, each as a short fact: a layer that breaks one of them fails demand 3. Assumes nothing.
use Rattle.std.specs.Prelude.{◌≡◌, ◌&&◌, ◌+◌, ◌≤◌}
use Rattle.layer.proofs.Prelude.{refl, sym, ap, ◌∙◌, Bool, true, false, not, true≢false, List, ℕ, zero, suc, arith, eqb-true, eqb-false, leb-true, ltb-false, eqb, leb, ℤ, pos, negsuc, NoRun, and_both, Arena, is_on, find_run, end_of, never, Claim, turn_down, calm, at, is_some, grows, bad_count, with_record, with_stamps, eligible, serves, search_of, answer_commit, resume, Eligible}
use Rattle.layer.proofs.Tools.{or-false, at_other}

-- ---- claims

-- a negative id passes an exclusive arena over
shared-only : (x i : ℕ) (a : Arena) → is_on a.exclusive ≡ true → eligible (negsuc x) i a ≡ false
unfolding eligible
shared-only x i a e = ap not e

-- another id names one arena
named-only : (x i : ℕ) (a : Arena) → eligible (pos x) i a ≡ true → i ≡ x
unfolding eligible
named-only x i a e = eqb-true i x e

-- what serves a claim is eligible
serves-eligible : (id : ℤ) (n : ℕ) (l : List Arena) (i : ℕ) → serves id n l i ≡ true → eligible id i (at l i) ≡ true
unfolding serves
serves-eligible id n l i e = (and_both (eligible id i (at l i)) (is_some (find_run (at l i) n)) e).0

-- so an exclusive arena j serves no claim with a negative id, and a claim at its own id alone
pub not-shared : (x n : ℕ) (l : List Arena) (i j : ℕ) → is_on (at l j).exclusive ≡ true → serves (negsuc x) n l i ≡ true → i ≡ j → ⊥
not-shared x n l i j e f d =
    true≢false (sym (serves-eligible (negsuc x) n l i f) ∙ shared-only x i (at l i) (ap (λ (z : ℕ). is_on (at l z).exclusive) d ∙ e))

pub served-named : (x n : ℕ) (l : List Arena) (i : ℕ) → serves (pos x) n l i ≡ true → i ≡ x
served-named x n l i f = named-only x i (at l i) (serves-eligible (pos x) n l i f)

-- in the words of refusal 10
pub served-eligible : (id : ℤ) (n : ℕ) (l : List Arena) (i : ℕ) → serves id n l i ≡ true → Eligible id i (at l i)
served-eligible (pos x) n l i e = served-named x n l i e
served-eligible (negsuc x) n l i e = never (is_on (at l i).exclusive) (λ f. not-shared x n l i i f e refl)

-- what serves a claim has the run
pub served-found : (id : ℤ) (n : ℕ) (l : List Arena) (i : ℕ) → serves id n l i ≡ true → is_some (find_run (at l i) n) ≡ true
unfolding serves
served-found id n l i e = (and_both (eligible id i (at l i)) (is_some (find_run (at l i) n)) e).1

-- ---- growth

-- an exclusive arena does not grow
never-grows : (S : ℕ) (a : Arena) (address n : ℕ) → is_on a.exclusive ≡ true → grows S a address n ≡ false
unfolding grows
never-grows S a address n e = go (is_on a.owned) refl
  where
    go : (o : Bool) → is_on a.owned ≡ o → grows S a address n ≡ false
    go true f = rw e (rw f refl)
    go false f = rw e (rw f refl)

-- what grows is not exclusive, ends at the block, and stays within 1,024 chunks
pub grows-facts : (S : ℕ) (a : Arena) (address n : ℕ) → grows S a address n ≡ true → (is_on a.exclusive ≡ false) × (end_of S a ≡ address) × (a.chunks + n ≤ 1024)
unfolding grows
grows-facts S a address n g =
    let r = go (is_on a.owned) (is_on a.exclusive) refl refl g in
    let t = and_both (eqb (end_of S a) address) (leb (a.chunks + n) 1024) r.1 in
    (r.0, eqb-true (end_of S a) address t.0, leb-true (a.chunks + n) 1024 t.1)
  where
    go : (o x : Bool) → is_on a.owned ≡ o → is_on a.exclusive ≡ x → grows S a address n ≡ true → (is_on a.exclusive ≡ false) × (eqb (end_of S a) address && leb (a.chunks + n) 1024 ≡ true)
    go o true p q = λ g. absurd (true≢false (sym g ∙ never-grows S a address n q))
    go true false p q = rw q (rw p (λ g. (refl, g)))
    go false false p q = rw q (rw p (λ g. absurd (true≢false (sym g))))

pub grows-owned : (S : ℕ) (a : Arena) (address n : ℕ) → grows S a address n ≡ true → is_on a.owned ≡ true
unfolding grows
grows-owned S a address n g = (and_both (is_on a.owned) _ g).0

-- ---- answers

module _ (S : ℕ) (l : List Arena) (stamps : List ℕ) (k : ℕ) (mark : Bool) where
  -- an answer to a commit question leaves every other arena as it was
  pub others-left : (i s n : ℕ) (granted : Bool) (j : ℕ) → (j ≡ i → ⊥) → at (answer_commit S l stamps k mark i s n granted).world.records j ≡ at l j
  others-left i s n true j d = at_other l i j _ d
  others-left i s n false j d = at_other l i j _ d

  -- a claim that waited for memory "searches once more", and passes every exclusive arena over
  pub record Again (a : Arena) (n : ℕ) (commits : Bool) : Type 0 where
    pub id : ℤ
    pub is : resume S l stamps k mark a (Claim n commits)
        ≡ search_of S (with_record l k a) (with_stamps stamps k) (suc k) mark id n commits (turn_down NoRun (calm (suc k) mark))
    pub passes_over : (i j : ℕ) → is_on (at (with_record l k a) j).exclusive ≡ true → serves id n (with_record l k a) i ≡ true → i ≡ j → ⊥

  pub again : (a : Arena) (n : ℕ) (commits : Bool) → Again a n commits
  again a n commits = record { id = _; is = refl; passes_over = λ i j e f. not-shared 0 n (with_record l k a) i j e f }

-- ---- registering

-- what row 12 lets pass
pub count-facts : (chunks : ℕ) → bad_count chunks ≡ false → (1 ≤ chunks) × (chunks ≤ 1024)
unfolding bad_count
count-facts chunks e = let c = or-false (eqb chunks 0) _ e in (some chunks (eqb-false chunks 0 c.0), ltb-false 1024 chunks c.1)
  where
    some : (n : ℕ) → (n ≡ 0 → ⊥) → 1 ≤ n
    some zero h = absurd (h refl)
    some (suc n) h = omega arith
