-- The slice pool's definitions, case by case: which test decides. Assumes nothing.
use Rattle.std.specs.Prelude.{◌≡◌, ◌&&◌, ◌+◌, ◌/◌, ◌%◌, ◌≤◌, ◌<◌, Option, Some, Ok}
use Rattle.walks.proofs.Prelude.{sym, ap, ◌∙◌, subst, Bool, true, List, ℕ, eq-eqb, ne_eqb, lt-ltb, le-ltb, eqb, length}
use Rattle.refusals.specs.declared.Refusal.TheVariants.{Broken, Zero, NotWhole, NotInside, PastEnd}
use Rattle.bitmap.specs.Bits.{bit_at}
use Rattle.bitmap.specs.Rows.{set_run}
use Rattle.bitmap.proofs.words.Tests.{when, unless}
use Rattle.bitmap.specs.Lowest.{Lowest, lowest_run}
use Rattle.bitmap.proofs.runs.LowestLaws.{lowest-says}
use Rattle.slice_pool.specs.Pool.{not_run, alloc_found, alloc_run, not_done, free_range}

module _ (ws : List ℕ) (n : ℕ) where
  pub alloc-broken : (length ws ≡ 2048 → ⊥) → alloc_run ws n ≡ not_run ws Broken
  unfolding alloc_run
  alloc-broken h = unless _ _ _ (ne_eqb (length ws) 2048 h)

  pub alloc-zero : length ws ≡ 2048 → n ≡ 0 → alloc_run ws n ≡ not_run ws Zero
  unfolding alloc_run
  alloc-zero l h = when _ _ _ (eq-eqb (length ws) 2048 l) ∙ when _ _ _ (eq-eqb n 0 h)

  pub alloc-found : length ws ≡ 2048 → (n ≡ 0 → ⊥) → alloc_run ws n ≡ alloc_found ws n (lowest_run (bit_at ws) 65536 n)
  unfolding alloc_run
  alloc-found l h = when _ _ _ (eq-eqb (length ws) 2048 l) ∙ unless _ _ _ (ne_eqb n 0 h)

  -- a run that was found lies inside the pool
  pub found_inside : (s : ℕ) (f : Option ℕ) → f ≡ lowest_run (bit_at ws) 65536 n → f ≡ Some s → s + n ≤ 65536
  found_inside s f e g =
      let k : Lowest (bit_at ws) 65536 n (Some s) = subst (Lowest (bit_at ws) 65536 n) (sym e ∙ g) (lowest-says (bit_at ws) 65536 n) in
      k.0.room

module _ (ws : List ℕ) (base size : ℕ) where
  pub free-broken : (length ws ≡ 2048 → ⊥) → free_range ws base size ≡ not_done ws Broken
  unfolding free_range
  free-broken h = unless _ _ _ (ne_eqb (length ws) 2048 h)

  module _ (long : length ws ≡ 2048) where
    pub free-zero : size ≡ 0 → free_range ws base size ≡ not_done ws Zero
    unfolding free_range
    free-zero h = when _ _ _ (eq-eqb (length ws) 2048 long) ∙ when _ _ _ (eq-eqb size 0 h)

    module _ (some : size ≡ 0 → ⊥) where
      pub free-base : (base % 65536 ≡ 0 → ⊥) → free_range ws base size ≡ not_done ws NotWhole
      unfolding free_range
      free-base h =
          when _ _ _ (eq-eqb (length ws) 2048 long) ∙ unless _ _ _ (ne_eqb size 0 some)
          ∙ unless _ _ _ (ap (λ (b : Bool). b && eqb (size % 65536) 0) (ne_eqb (base % 65536) 0 h))

      module _ (whole : base % 65536 ≡ 0) where
        pub free-size : (size % 65536 ≡ 0 → ⊥) → free_range ws base size ≡ not_done ws NotWhole
        unfolding free_range
        free-size h =
            when _ _ _ (eq-eqb (length ws) 2048 long) ∙ unless _ _ _ (ne_eqb size 0 some)
            ∙ unless _ _ _ (ap (λ (b : Bool). b && eqb (size % 65536) 0) (eq-eqb (base % 65536) 0 whole) ∙ ne_eqb (size % 65536) 0 h)

        module _ (wholes : size % 65536 ≡ 0) where
          both : eqb (base % 65536) 0 && eqb (size % 65536) 0 ≡ true
          both = ap (λ (b : Bool). b && eqb (size % 65536) 0) (eq-eqb (base % 65536) 0 whole) ∙ eq-eqb (size % 65536) 0 wholes

          pub free-below : base < 65536 → free_range ws base size ≡ not_done ws NotInside
          unfolding free_range
          free-below h =
              when _ _ _ (eq-eqb (length ws) 2048 long) ∙ unless _ _ _ (ne_eqb size 0 some) ∙ when _ _ _ both
              ∙ when _ _ _ (lt-ltb base 65536 h)

          pub free-past : 65536 ≤ base → 65536 < base / 65536 + size / 65536 → free_range ws base size ≡ not_done ws PastEnd
          unfolding free_range
          free-past l h =
              when _ _ _ (eq-eqb (length ws) 2048 long) ∙ unless _ _ _ (ne_eqb size 0 some) ∙ when _ _ _ both
              ∙ unless _ _ _ (le-ltb base 65536 l) ∙ when _ _ _ (lt-ltb 65536 (base / 65536 + size / 65536) h)

          pub free-done : 65536 ≤ base → base / 65536 + size / 65536 ≤ 65536
              → free_range ws base size ≡ record { answer = (Ok tt); words = set_run ws (base / 65536) (size / 65536) }
          unfolding free_range
          free-done l h =
              when _ _ _ (eq-eqb (length ws) 2048 long) ∙ unless _ _ _ (ne_eqb size 0 some) ∙ when _ _ _ both
              ∙ unless _ _ _ (le-ltb base 65536 l) ∙ unless _ _ _ (le-ltb 65536 (base / 65536 + size / 65536) h)
