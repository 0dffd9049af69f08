-- What one word of free bits says to the search by words, after `carry` free places before it. Assumes nothing.
use Rattle.std.specs.Prelude.{◌≡◌, false, ℕ, ◌+◌, ◌-◌, ◌<◌, min}
use Rattle.bitmap.specs.Bits.{bit}
use Rattle.bitmap.specs.Lowest.{Free}
use Rattle.bitmap.specs.declared.runs.Step.{Step}
use Rattle.bitmap.specs.declared.runs.Step.TheVariants.{Before, From, Whole, Carry}

-- the run of free places before the word does not reach n in it
abbrev pub Short : ℕ → ℕ → ℕ → Type 0
Short w carry n = Free (bit w) 0 (min 32 (n - carry)) → ⊥

abbrev pub Stepped : ℕ → ℕ → ℕ → Step → Type 0
Stepped w carry n Before = Free (bit w) 0 (n - carry)
Stepped w carry n (From i) = (i < 32) × Short w carry n × Free (bit w) i n × ((t : ℕ) → t < i → Free (bit w) t n → ⊥)
Stepped w carry n Whole = (carry + 32 < n) × Free (bit w) 0 32
Stepped w carry n (Carry k) = (k < 32) × Short w carry n × ((t : ℕ) → Free (bit w) t n → ⊥) × (bit w (31 - k) ≡ false) × Free (bit w) (32 - k) k
