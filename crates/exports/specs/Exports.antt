-- An exported answer holds numbers, since an enum cannot be exported: document 01's number and values for each case. Assumes nothing.
use Rattle.std.specs.Prelude.{Result, ℕ}
use Rattle.refusals.specs.declared.Refusal.{Refusal}
use Rattle.refusals.specs.Number.{number_in}
use Rattle.slice_pool.specs.Pool.{alloc_address}
use Rattle.exports.specs.declared.c_leaves.SliceAnswer.{SliceAnswer}

-- 0 and the run's address, or the refusal's number and 0
abbrev pub slice_answer : Result ℕ Refusal → SliceAnswer
slice_answer a = record { number = number_in a; address = alloc_address a }
