-- What the layer's definition uses of the libraries and of the parts below it, passed on by one name. Assumes nothing.
pub use Rattle.std.specs.Prelude.{◌≡◌, Bool, true, false, cond, not, ◌&&◌, ◌||◌, List, [], ◌∷◌, ℕ, zero, suc, ◌+◌, ◌-◌, ◌*◌, ◌/◌, ◌%◌, ◌^◌, eqb, leb, ltb, ℤ, pos, negsuc, length, get_or, set, replicate}
pub use Rattle.refusals.specs.declared.Refusal.{Refusal}
pub use Rattle.refusals.specs.declared.Refusal.TheVariants.{Broken, QuestionOpen, NoSuchQuestion, Zero, ArenasOff, Range, NotWhole, NotInside, PastEnd, NoRun, CommitRefused, ChunkCount, TableFull, MemoryRefused, NoWholeChunk, HostRefused, TablesOverlap, TooManyArenas, ListLength}
pub use Rattle.clock.specs.Clock.{now_ms, delay_ms, never_purges}
pub use Rattle.options.specs.Options.{page_size_sound, arena_allowed}
pub use Rattle.bitmap.specs.Bits.{bit_at}
pub use Rattle.std.specs.Prelude.{Option, Some, None, Result, Ok, Err}
pub use Rattle.bitmap.specs.Lowest.{all, least}
pub use Rattle.arena.specs.declared.Arena.{Arena}
pub use Rattle.arena.specs.declared.Commitment.{Commitment}
pub use Rattle.arena.specs.declared.Commitment.TheVariants.{Untold}
pub use Rattle.arena.specs.Flags.{is_on}
pub use Rattle.arena.specs.Registering.{no_bits, reserved_arena, managed_arena, adopted_arena, grown_arena}
pub use Rattle.arena.specs.Claiming.{find_run, run_committed, run_fresh, take_run, dirty_run, give_back_run, finish_grant}
pub use Rattle.arena.specs.Releasing.{release_run, stamp_run}
pub use Rattle.arena.specs.Sweeping.{sweep_due, disarm, next_asked, borrow_chunk, return_chunk, rearm}
pub use Rattle.arena.specs.Stamps.{stamps_of}
pub use Rattle.arena.specs.Moving.{overwritten}
pub use Rattle.arena.specs.Place.{bytes_of, end_of, is_inside}
pub use Rattle.arena.specs.Soundness.{sound_arena}
pub use Rattle.layer.specs.declared.State.{State}
pub use Rattle.layer.specs.declared.Settings.{Settings}
pub use Rattle.layer.specs.declared.Sweep.{Sweep}
pub use Rattle.layer.specs.declared.Question.{Question}
pub use Rattle.layer.specs.declared.Question.TheVariants.{Idle, Committing, Purging, Reserving, GivingBack}
pub use Rattle.layer.specs.declared.Waiting.{Waiting}
pub use Rattle.layer.specs.declared.Waiting.TheVariants.{Reserve, Claim}
pub use Rattle.layer.specs.declared.Unusable.{Unusable}
pub use Rattle.layer.specs.declared.Unusable.TheVariants.{Count, Misaligned, Full}
pub use Rattle.layer.specs.declared.Kind.{Kind}
pub use Rattle.layer.specs.declared.Kind.TheVariants.{ForCommit, ForPurge, ForMemory, ForGiveBack, ForNone}
pub use Rattle.layer.specs.declared.Ask.TheVariants.{AskCommit, AskPurge, AskMemory, AskGiveBack}
pub use Rattle.layer.specs.declared.Answer.{Answer}
pub use Rattle.layer.specs.declared.Answer.TheVariants.{Refused, Asks, Registered, Claimed, Released, Swept, Owns, Area}
pub use Rattle.layer.specs.declared.Reply.{Reply}
pub use Rattle.layer.specs.declared.JoinReply.{JoinReply}
