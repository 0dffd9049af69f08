-- What is counted. Assumes nothing.
use Rattle.std.specs.Prelude.{Bool, true, false, cond, ℕ, ◌+◌, min, eqb}
use Rattle.samples.specs.declared.tally.Tally.{Tally}

abbrev pub none : Tally
none = record { lines = 0; answers = 0; differences = 0; first = 0; malformed = 0; over = false }

-- the largest number stays as it is
abbrev pub one_more : ℕ → ℕ
one_more n = min (n + 1) 18446744073709551615

-- a line whose answer was replayed: the first difference keeps its line
unfoldable pub after_answer : Tally → Bool → Tally
after_answer t same = record {
  lines = one_more t.lines;
  answers = one_more t.answers;
  differences = cond same t.differences (one_more t.differences);
  first = cond same t.first (cond (eqb t.first 0) (one_more t.lines) t.first);
  malformed = t.malformed;
  over = t.over;
}

-- a line that was not
abbrev pub after_malformed : Tally → Tally
after_malformed t = record {
  lines = one_more t.lines;
  answers = t.answers;
  differences = t.differences;
  first = t.first;
  malformed = one_more t.malformed;
  over = t.over;
}

-- the input has ended
abbrev pub after_end : Tally → Tally
after_end t = record {
  lines = t.lines;
  answers = t.answers;
  differences = t.differences;
  first = t.first;
  malformed = t.malformed;
  over = true;
}
