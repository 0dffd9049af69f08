-- What proofs over one arena's record cite of the kit and of the crates below, passed on by one name. Assumes nothing.
pub use Prim.Native.Nat.{suc, zero, ℕ}
pub use borrow.Author.Tests.{eq-eqb, eqb-true, le-leb, leb-true, lt-ltb, ltb-true}
pub use lib.Bits.{bit_and}
pub use lib.Dec.{eqb, leb, ltb}
pub use lib.IntN.{ℤ}
pub use lib.ListN.{drop, get_or, length, length-replicate, replicate, set, take}
pub use mathlib.Core.Bool.{Bool, cond, false, not, true}
pub use mathlib.Core.List.{List, []}
pub use mathlib.Core.Logic.{⊎_elim}
pub use mathlib.Core.Path.{◌∙◌, ap, ap₂, refl, subst, sym}
pub use native.Mathlib.Omega.{arith}
pub use Rattle.bitmap.proofs.runs.LowestLaws.{First}
pub use Rattle.bitmap.proofs.runs.SearchLaws.{and_both, same}
pub use Rattle.bitmap.proofs.words.BitLaws.{bit_high}
pub use Rattle.bitmap.proofs.words.RowLaws.{lt-or-le, within-after, write_run-length}
unfoldable pub use Rattle.bitmap.specs.Bits.{bit, bit_at, within}
unfoldable pub use Rattle.bitmap.specs.Lowest.{least}
pub use Rattle.bitmap.specs.Rows.{clear_run, set_run}
unfoldable pub use Rattle.bitmap.specs.Rows.{write_run}
pub use Rattle.std.specs.Prelude.{Option, Some, None}
unfoldable pub use Rattle.arena.specs.Claiming.{commit_run, dirty_run, finish_grant, give_back_run, take_run}
pub use Rattle.arena.specs.Maps.{armed_for}
unfoldable pub use Rattle.arena.specs.Maps.{next_deadline, wait_in}
pub use Rattle.arena.specs.Record.{with_deadline}
pub use Rattle.arena.specs.Registering.{each_bit, no_bits}
unfoldable pub use Rattle.arena.specs.Registering.{grown_arena, new_arena}
unfoldable pub use Rattle.arena.specs.Releasing.{pend_run, release_run, stamp_run, tell_run}
pub use Rattle.arena.specs.Rows.{IsRow, Rows}
unfoldable pub use Rattle.arena.specs.Soundness.{clear_past, sound_range}
pub use Rattle.arena.specs.Sweeping.{nearer, rearm_at}
unfoldable pub use Rattle.arena.specs.Sweeping.{borrow_chunk, disarm, next_wait, rearm, return_chunk, unpend_chunk, young}
pub use Rattle.arena.specs.declared.Arena.{Arena}
pub use Rattle.arena.specs.declared.Commitment.{Commitment}
pub use Rattle.arena.specs.declared.Commitment.TheVariants.{Committed, Uncommitted, Untold}
