-- What proofs over the lent table cite of the kit and of the crates below, passed on by one name. Assumes nothing.
pub use Prim.Native.Nat.{◌%◌, ◌*◌, ◌+◌, ◌-◌, ◌/◌, ◌<◌, ◌^◌, ◌≤◌, suc, zero, ℕ}
pub use borrow.Author.Tests.{eq-eqb, eqb-true, le-leb, le-ltb, leb-false, leb-true, lt-leb, lt-ltb, ltb-false, ltb-true, ne_eqb, not-false, not-true}
pub use lib.Dec.{T, eqb, leb, lit<, ltb, ltb→lt, nltb→le}
pub use lib.IntN.{nat_abs, negsuc, pos, ℤ}
pub use lib.ListN.{get_or, length, length-replicate, length-set, replicate, set}
pub use lib.Seq.{set-get_or}
pub use lib.Signed.{le_z, lt_z, non_neg}
pub use mathlib.Core.Bool.{Bool, ◌&&◌, ◌||◌, cond, false, not, true, true≢false}
pub use mathlib.Core.List.{List, [], ◌∷◌}
pub use mathlib.Core.Logic.{⊎_elim}
pub use mathlib.Core.Path.{◌∙◌, ◌≡◌, ap, ap₂, refl, subst, sym}
pub use native.Mathlib.Nat.{div-lt_iff_lt-mul, div-mul-le_self, mul-le-mul, not-suc-le-zero}
pub use native.Mathlib.Numerals.{add-one}
pub use native.Mathlib.Omega.{arith}
pub use Rattle.refusals.specs.declared.Refusal.{Refusal}
pub use Rattle.refusals.specs.declared.Refusal.TheVariants.{ArenasOff, Broken, ChunkCount, CommitRefused, HostRefused, MemoryRefused, NoRun, NoSuchQuestion, NoWholeChunk, NotInside, NotWhole, PastEnd, QuestionOpen, Range, TableFull, Zero}
unfoldable pub use Rattle.clock.specs.Clock.{delay_ms, never_purges, now_ms}
unfoldable pub use Rattle.options.specs.Options.{arena_allowed, page_size_sound}
pub use Rattle.bitmap.proofs.runs.LowestLaws.{First, all-free-of, first_says, free_all, least-none}
pub use Rattle.bitmap.proofs.runs.SearchLaws.{and_both, same}
pub use Rattle.bitmap.proofs.words.Tests.{by_cond, unless, when}
unfoldable pub use Rattle.bitmap.specs.Bits.{bit_at}
unfoldable pub use Rattle.bitmap.specs.Lowest.{all, least, lowest_run}
pub use Rattle.std.specs.Prelude.{Option, Some, None, is_some, unwrap_or}
pub use Rattle.arena.proofs.Changes.{found_inside}
pub use Rattle.arena.proofs.PlaceLaws.{inside-facts}
pub use Rattle.arena.proofs.SoundLaws.{SoundArena, never, range-facts}
unfoldable pub use Rattle.arena.specs.Claiming.{find_run, give_back_run, run_committed, run_fresh}
pub use Rattle.arena.specs.Flags.{as_flag, is_on}
unfoldable pub use Rattle.arena.specs.Maps.{next_deadline}
unfoldable pub use Rattle.arena.specs.Place.{bytes_of, end_of, is_inside}
pub use Rattle.arena.specs.Record.{with_deadline}
unfoldable pub use Rattle.arena.specs.Releasing.{release_run, stamp_run}
unfoldable pub use Rattle.arena.specs.Soundness.{clear_past, clear_past_all, sound_arena}
unfoldable pub use Rattle.arena.specs.Stamps.{stamps_of}
unfoldable pub use Rattle.arena.specs.Sweeping.{borrow_chunk, disarm, sweep_due}
pub use Rattle.arena.specs.declared.Arena.{Arena}
pub use Rattle.arena.specs.declared.Commitment.{Commitment}
pub use Rattle.layer.specs.Answering.{answer_commit, answer_memory, answer_purge, answer_to, cause_refusal, counted, fail_reply, is_idle, resume}
unfoldable pub use Rattle.layer.specs.Answering.{answer_of, is_for}
pub use Rattle.layer.specs.Claiming.{is_negative}
unfoldable pub use Rattle.layer.specs.Claiming.{claim_of, eligible, grant_arena, grant_reply, miss_reply, search_of}
pub use Rattle.layer.specs.Registering.{first_whole, growing, past_whole, with_record, with_stamps}
unfoldable pub use Rattle.layer.specs.Registering.{ask_memory, bad_count, chunks_for, grows, no_whole_chunk, reserve_reply, too_large}
unfoldable pub use Rattle.layer.specs.Releasing.{release_of}
pub use Rattle.layer.specs.Step.{Act, Call, Query, act, act_on, answer, claim, query, query_on, release, stays_pending, step, sweep, sweep_of, sweeps_none}
unfoldable pub use Rattle.layer.specs.Step.{rules}
pub use Rattle.layer.specs.Sweeping.{visit_at}
unfoldable pub use Rattle.layer.specs.Sweeping.{purge_reply, sweep_from, swept_reply, visit}
pub use Rattle.layer.specs.Table.{asked_id, at, sound}
unfoldable pub use Rattle.layer.specs.Table.{bad_range, find_arena, meets, overlaps, sound_lent, sound_question}
pub use Rattle.layer.specs.World.{Leaves, Outcome, World, after, blank, calm, reply, reply_in, size_of, state_with, turn_down, world_of}
pub use Rattle.layer.specs.declared.Answer.{Answer}
pub use Rattle.layer.specs.declared.Answer.TheVariants.{Area, Asks, Claimed, Registered, Released}
pub use Rattle.layer.specs.declared.Ask.TheVariants.{AskCommit, AskMemory, AskPurge}
pub use Rattle.layer.specs.declared.Kind.{Kind}
pub use Rattle.layer.specs.declared.Kind.TheVariants.{ForCommit, ForGiveBack, ForMemory, ForPurge}
pub use Rattle.layer.specs.declared.Question.{Question}
pub use Rattle.layer.specs.declared.Question.TheVariants.{Committing, GivingBack, Idle, Purging, Reserving}
pub use Rattle.layer.specs.declared.Reply.{Reply}
pub use Rattle.layer.specs.declared.Settings.{Settings}
pub use Rattle.layer.specs.declared.State.{State}
pub use Rattle.layer.specs.declared.Sweep.{Sweep}
pub use Rattle.layer.specs.declared.Unusable.{Unusable}
pub use Rattle.layer.specs.declared.Unusable.TheVariants.{Count, Full, Misaligned}
pub use Rattle.layer.specs.declared.Waiting.{Waiting}
pub use Rattle.layer.specs.declared.Waiting.TheVariants.{Claim, Reserve}
