-- The documented purge delay (option 15) against the port's: from 0 on they agree up to the longest delay of the clock; -1 means never to both, and so does to the port
-- what lies below it, of which nothing is documented. Assumes nothing.
use Rattle.std.specs.Prelude.{◌≡◌, ◌≤◌, ◌<◌}
use Rattle.walks.proofs.Prelude.{refl, sym, ap, Bool, true, false, true≢false, ℕ, suc, arith, ℤ, pos, negsuc}
use Rattle.clock.specs.Clock.{delay_ms, never_purges}
use Rattle.options.specs.Options.{Purging, never, delayed, unsaid, documented_delay}

-- up to the longest delay of the clock the two agree
pub delay-agrees : (n : ℕ) → n ≤ 1073741823 → (documented_delay (pos n) ≡ delayed n) × (delay_ms (pos n) ≡ n)
unfolding documented_delay delay_ms
delay-agrees n h = (refl, omega arith)

-- above it the port's delay is the longest
pub delay-clamped : (n : ℕ) → 1073741823 < n → (documented_delay (pos n) ≡ delayed n) × (delay_ms (pos n) ≡ 1073741823)
unfolding documented_delay delay_ms
delay-clamped n h = (refl, omega arith)

-- no delay from 0 on means never
pub delay-purges : (n : ℕ) → never_purges (pos n) ≡ false
unfolding never_purges
delay-purges n = refl

-- -1 is documented as no purging at all, and so it is to the port
pub minus-one-is-never : (documented_delay (negsuc 0) ≡ never) × (never_purges (negsuc 0) ≡ true)
unfolding documented_delay never_purges
minus-one-is-never = (refl, refl)

-- nothing from 0 on is documented so
abbrev is_never : Purging → Bool
is_never never = true
is_never (delayed n) = false
is_never unsaid = false

pub never-is-negative : (d : ℤ) → documented_delay d ≡ never → (m : ℕ) × (d ≡ negsuc m)
unfolding documented_delay
never-is-negative (pos n) e = absurd (true≢false (sym (ap is_never e)))
never-is-negative (negsuc m) e = (m, refl)

-- below -1 nothing is documented, and the port purges nothing either
pub unsaid-is-never : (n : ℕ) → (documented_delay (negsuc (suc n)) ≡ unsaid) × (never_purges (negsuc (suc n)) ≡ true)
unfolding documented_delay never_purges
unsaid-is-never n = (refl, refl)

-- the clamp of every negative delay is 0, which a forced sweep keeps
pub negative-is-zero : (n : ℕ) → delay_ms (negsuc n) ≡ 0
unfolding delay_ms
negative-is-zero n = refl
