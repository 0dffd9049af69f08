-- What proofs over the layer cite of the kit and of the crates below, passed on by one name. Assumes nothing.
pub use Prim.Native.Nat.{◌%◌, ◌*◌, ◌+◌, ◌-◌, ◌/◌, ◌<◌, ◌^◌, ◌≤◌, suc, zero, ℕ}
pub use borrow.Author.Tests.{eq-eqb, eqb-false, eqb-true, le-leb, leb-false, leb-true, lt-leb, lt-ltb, ltb-false, ltb-true, ne_eqb, not-true}
pub use lib.Dec.{eqb, leb, lit<, ltb}
pub use lib.IntN.{negsuc, pos, ℤ}
pub use lib.ListN.{drop, get_or, length, length-replicate, length-set, replicate, set, take}
pub use lib.Seq.{set-get_or}
pub use mathlib.Core.Bool.{Bool, ◌&&◌, ◌||◌, cond, false, not, true, true≢false}
pub use mathlib.Core.List.{List, [], ◌++◌, ◌∷◌, append_assoc, append-nil}
pub use mathlib.Core.Logic.{◌↔◌, ◌⊎◌, inl, inr, ⊎_elim}
pub use mathlib.Core.Path.{◌∙◌, ◌≡◌, ap, ap₂, refl, subst, sym}
pub use native.Mathlib.Decide.{ℕ_discrete}
pub use native.Mathlib.Nat.{add-mul, div-add-mod', eq-or-lt_of_le, mul_comm, mul-div_cancel, mul-le-mul_right, mul-mod_left, mul-sub, suc-mul}
pub use native.Mathlib.Omega.{arith}
pub use Rattle.refusals.specs.declared.Refusal.{Refusal}
pub use Rattle.refusals.specs.declared.Refusal.TheVariants.{ArenasOff, Broken, ChunkCount, CommitRefused, ListLength, MemoryRefused, NoRun, NoSuchQuestion, NoWholeChunk, NotWhole, PastEnd, QuestionOpen, Range, TableFull, Zero}
pub use Rattle.clock.specs.Clock.{age_of}
unfoldable pub use Rattle.clock.specs.Clock.{armed, delay_ms, is_due, keeps, never_purges, now_ms, or_one}
unfoldable pub use Rattle.options.specs.Options.{arena_allowed, page_size_sound}
pub use Rattle.bitmap.proofs.runs.LowestLaws.{First, all-free-of, first_says, free_all, lowest-says}
pub use Rattle.bitmap.proofs.runs.SearchLaws.{and_both}
pub use Rattle.bitmap.proofs.words.RowLaws.{Stands, before, inside, lt-or-le, stands, within-after, within-before}
pub use Rattle.bitmap.proofs.words.Tests.{by_cond, unless, when}
unfoldable pub use Rattle.bitmap.specs.Bits.{bit, bit_at, within}
pub use Rattle.bitmap.specs.Lowest.{Lowest, Starts}
unfoldable pub use Rattle.bitmap.specs.Lowest.{all, least, lowest_run}
pub use Rattle.bitmap.specs.Rows.{clear_run}
unfoldable pub use Rattle.bitmap.specs.Rows.{as_number, pack, write_run}
pub use Rattle.std.specs.Prelude.{Option, Some, None, Result, Ok, Err, is_some}
pub use Rattle.arena.proofs.Changes.{disarm-rows, found_inside, rearm-rows, return-rows}
pub use Rattle.arena.proofs.FlagLaws.{flag-read}
pub use Rattle.arena.proofs.RowLaws.{bit_in, bit-out, bit_at-no_bits, no-bits-row}
pub use Rattle.arena.proofs.SoundLaws.{SoundArena, SoundRange, arena-facts, never}
pub use Rattle.arena.specs.Claiming.{free}
unfoldable pub use Rattle.arena.specs.Claiming.{commit_run, dirty_run, find_run, finish_grant, give_back_run, run_committed, run_fresh, take_run}
pub use Rattle.arena.specs.Flags.{is_on}
unfoldable pub use Rattle.arena.specs.Place.{bytes_of, end_of, is_inside}
pub use Rattle.arena.specs.Registering.{each_bit, no_bits}
unfoldable pub use Rattle.arena.specs.Registering.{adopted_arena, grown_arena, managed_arena, new_arena, reserved_arena}
unfoldable pub use Rattle.arena.specs.Releasing.{pend_run, release_run, stamp_run, tell_run}
pub use Rattle.arena.specs.Rows.{Rows}
unfoldable pub use Rattle.arena.specs.Soundness.{clear_past, clear_past_all, sound_arena, sound_range}
unfoldable pub use Rattle.arena.specs.Stamps.{stamps_of}
unfoldable pub use Rattle.arena.specs.Moving.{overwritten}
pub use Rattle.arena.specs.Sweeping.{rearm_at}
unfoldable pub use Rattle.arena.specs.Sweeping.{borrow_chunk, disarm, next_asked, next_wait, rearm, return_chunk, sweep_due, to_ask, unpend_chunk, young}
pub use Rattle.arena.specs.declared.Arena.{Arena}
pub use Rattle.arena.specs.declared.Commitment.{Commitment}
pub use Rattle.arena.specs.declared.Commitment.TheVariants.{Committed, Uncommitted, Untold}
pub use Rattle.layer.specs.Answering.{answer_commit, answer_memory, answer_purge, answer_to, cause_refusal, counted, fail_reply, give_back_reply, resume}
unfoldable pub use Rattle.layer.specs.Answering.{answer_of, is_for}
pub use Rattle.layer.specs.Book.{Book, Fed, Say, Turn, claimed, claims, enter_all, granted, hold, lowest, opened, refused, released, releases, say_all, turn, unheld, unhold}
unfoldable pub use Rattle.layer.specs.Book.{enter}
pub use Rattle.layer.specs.Claiming.{grant_found, is_negative, search_at}
unfoldable pub use Rattle.layer.specs.Claiming.{asks_commit, claim_of, eligible, grant_arena, grant_reply, miss_reply, search_of, serves}
pub use Rattle.layer.specs.Demand.{ByTheBook, Demand3, book_of, chunks_of, claimant}
pub use Rattle.layer.specs.History.{History, Keeps, Layer, Lent, ListPremises, Marked, MarkedJoin, MarkedList, OpensAt, Place, Premises, Registrable, Side, Trail, Where, begin, both_sound, by_rules, declines, entries, entries_in, entries_of, entries_of_list, fed, fed_by, fed_by_list, feeds, follow, follow_join, follow_list, goes_on, hears, is_answer, is_broken, is_broken_join, is_idle, is_joined, is_none, is_sound, is_sound_list, is_taken, join_by, join_of, joining, leaving, left, list_by, list_of, listing, next, number_says, of_first, of_second, open_at, outcome_by, place, risen, ruled, said, said_of_list, side_of, standing, start, tells, told, told_by, told_by_list, unites, waits}
unfoldable pub use Rattle.layer.specs.History.{in_range}
pub use Rattle.layer.specs.Joining.{JoinOutcome, join, join_outcome, joined_world}
unfoldable pub use Rattle.layer.specs.Joining.{join_on, join_rules, tables_overlap}
pub use Rattle.layer.specs.Listing.{Items, ListOutcome, item_number, list_outcome, release_each, release_item}
unfoldable pub use Rattle.layer.specs.Listing.{list_fits, release_list}
pub use Rattle.layer.specs.Registering.{first_whole, past_whole, with_record, with_stamps}
unfoldable pub use Rattle.layer.specs.Registering.{adopt_of, ask_memory, bad_count, bytes_asked, chunks_for, grows, manage_of, no_whole_chunk, reserve_of, reserve_reply, too_large}
unfoldable pub use Rattle.layer.specs.Releasing.{release_of}
pub use Rattle.layer.specs.Step.{Act, Call, act, act_on, adopt, answer, area, area_of, claim, manage, owns, query, release, reserve, step, stays_pending, step_on, sweep, sweep_of, sweeps_none}
unfoldable pub use Rattle.layer.specs.Step.{rules}
pub use Rattle.layer.specs.Sweeping.{visit_at}
unfoldable pub use Rattle.layer.specs.Sweeping.{purge_reply, sweep_from, swept_reply, visit}
pub use Rattle.layer.specs.Table.{asked_id, at, sound}
unfoldable pub use Rattle.layer.specs.Table.{apart, bad_range, find_arena, meets, overlaps, sound_lent, sound_question, sound_table}
pub use Rattle.layer.specs.Ten.{Eligible, TenExactly}
pub use Rattle.layer.specs.World.{Outcome, Row, World, after, blank, calm, first_of, outcome, refuse, reply, state_with, turn_down, world_of}
unfoldable pub use Rattle.layer.specs.World.{empty}
pub use Rattle.layer.specs.declared.Answer.{Answer}
pub use Rattle.layer.specs.declared.Answer.TheVariants.{Area, Asks, Claimed, Owns, Refused, Registered, Released, Swept}
pub use Rattle.layer.specs.declared.Ask.TheVariants.{AskCommit}
pub use Rattle.layer.specs.declared.Kind.{Kind}
pub use Rattle.layer.specs.declared.Kind.TheVariants.{ForCommit, ForGiveBack, ForMemory, ForNone, ForPurge}
pub use Rattle.layer.specs.declared.Question.{Question}
pub use Rattle.layer.specs.declared.Question.TheVariants.{Committing, GivingBack, Idle, Purging, Reserving}
pub use Rattle.layer.specs.declared.Reply.{Reply}
pub use Rattle.layer.specs.declared.Settings.{Settings}
pub use Rattle.layer.specs.declared.Sweep.{Sweep}
pub use Rattle.layer.specs.declared.Unusable.{Unusable}
pub use Rattle.layer.specs.declared.Unusable.TheVariants.{Count, Full, Misaligned}
pub use Rattle.layer.specs.declared.Waiting.{Waiting}
pub use Rattle.layer.specs.declared.Waiting.TheVariants.{Claim, Reserve}
