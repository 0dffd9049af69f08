-- A line counted, by whether its answer is the recorded one. Assumes nothing.
use Rattle.std.specs.Prelude.{◌≡◌}
use Rattle.walks.proofs.Prelude.{refl, Bool, true, false, cond, ℕ, eqb}
use Rattle.samples.specs.declared.tally.Tally.{Tally}
use Rattle.samples.specs.Counting.{one_more, after_answer}

counts : Tally → ℕ → ℕ → ℕ → ℕ → ℕ → Tally
counts t n a d f m = record { lines = n; answers = a; differences = d; first = f; malformed = m; over = t.over }

same-counts : (t : Tally) {n a d f m n' a' d' f' m' : ℕ} → n ≡ n' → a ≡ a' → d ≡ d' → f ≡ f' → m ≡ m' → counts t n a d f m ≡ counts t n' a' d' f' m'
same-counts t p q r s u = cc

module _ (t : Tally) (same : Bool) (n a : ℕ) (lines : n ≡ one_more t.lines) (answers : a ≡ one_more t.answers) where
  pub agreeing : same ≡ true
      → ◌≡◌ {A = Tally} (record { lines = n; answers = a; differences = t.differences; first = t.first; malformed = t.malformed; over = t.over }) (after_answer t same)
  unfolding after_answer counts
  agreeing e = rw e (same-counts t lines answers refl refl refl)

  pub differing : same ≡ false → (d f : ℕ) → d ≡ one_more t.differences → f ≡ cond (eqb t.first 0) (one_more t.lines) t.first
      → ◌≡◌ {A = Tally} (record { lines = n; answers = a; differences = d; first = f; malformed = t.malformed; over = t.over }) (after_answer t same)
  unfolding after_answer counts
  differing e d f p q = rw e (same-counts t lines answers p q refl)
