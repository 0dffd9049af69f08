-- The clock and the deadlines of document 01, "Clock" and "Sweeping". Assumes nothing.
use Rattle.std.specs.Prelude.{ℕ, zero, suc, ◌+◌, ◌-◌, ◌/◌, ◌%◌, ◌^◌, min, Bool, true, false, cond, not, ◌&&◌, ◌||◌, ℤ, pos, negsuc, ◌==◌, nat_le, nat_lt}

-- "0 becomes 1"
unfoldable pub or_one : ℕ → ℕ
or_one zero = 1
or_one (suc n) = suc n

-- "Milliseconds are ns / 1,000,000 modulo 2^32, then 0 becomes 1."
unfoldable pub now_ms : ℕ → ℕ
now_ms ns = or_one (ns / 1000000 % 2 ^ 32)

-- "The delay is clamped to 0 .. 1,073,741,823", with exact meaning below zero: every negative delay is 0.
unfoldable pub delay_ms : ℤ → ℕ
delay_ms (pos n) = min n 1073741823
delay_ms (negsuc n) = 0

-- document 02, wish 2, "minus one means never": a negative delay means that nothing is purged
unfoldable pub never_purges : ℤ → Bool
never_purges (pos n) = false
never_purges (negsuc n) = true

-- "wrapping at 2^32": the difference and the sum of two readings of the clock
abbrev pub minus : ℕ → ℕ → ℕ
minus a b = (a + 2 ^ 32 - b) % 2 ^ 32

abbrev pub plus : ℕ → ℕ → ℕ
plus a b = (a + b) % 2 ^ 32

-- "a non-zero deadline is kept if deadline minus due, wrapping at 2^32, exceeds 2,147,483,647"
unfoldable pub keeps : ℕ → ℕ → Bool
keeps deadline due = not (deadline == 0) && nat_lt 2147483647 (minus deadline due)

-- "`arm`: due 0 becomes 1; [the deadline is kept as above]; otherwise due replaces it."
unfoldable pub armed : ℕ → ℕ → ℕ
armed deadline due = cond (keeps deadline (or_one due)) deadline (or_one due)

-- "skipped if due differs from now and due − now, wrapping, is below 2,147,483,647": the deadline has come where neither holds
unfoldable pub is_due : ℕ → ℕ → Bool
is_due due now = due == now || nat_le 2147483647 (minus due now)

-- the age of a stamp: "now − stamp, wrapping"
abbrev pub age_of : ℕ → ℕ → ℕ
age_of now stamp = minus now stamp

-- a release's deadline: "clock + delay, wrapping"
abbrev pub due_at : ℕ → ℕ → ℕ
due_at now delay = plus now delay
