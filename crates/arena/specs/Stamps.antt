-- One arena's stamps in the lent slice of all stamps. Document 01, "Forms that stand in the way": "An arena's 1,024 stamps are the part that starts at
-- 1,024 × its id." Assumes nothing.
use Rattle.std.specs.Prelude.{List, ℕ, ◌*◌, take, drop, replicate}

unfoldable pub stamps_of : List ℕ → ℕ → List ℕ
stamps_of stamps id = take 1024 (drop (1024 * id) stamps)

-- all 32,768 of them 0, as the empty layer has them
abbrev pub no_stamps : List ℕ
no_stamps = replicate 32768 0
