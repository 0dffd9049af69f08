-- Rows 1 and 2 of document 01's "Turned down", by whether the table is sound and whether no question is open. Assumes nothing.
use Rattle.std.specs.Prelude.{Bool, cond, Result, Ok, Err}
use Rattle.refusals.specs.declared.Refusal.{Refusal}
use Rattle.refusals.specs.declared.Refusal.TheVariants.{Broken, QuestionOpen}

abbrev pub first_rows : Bool → Bool → Result Unit Refusal
first_rows sound idle = cond sound (cond idle (Ok tt) (Err QuestionOpen)) (Err Broken)
