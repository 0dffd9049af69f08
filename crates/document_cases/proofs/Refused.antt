-- The examples of document 01's table of refusals hold of the definitions: one statement, which antt computes. Assumes nothing.
use Rattle.std.specs.Prelude.{◌≡◌}
use Rattle.layer.proofs.Prelude.{refl, bit, bit_at, within, as_number, pack, write_run, all, least, lowest_run, or_one, now_ms, delay_ms, never_purges, keeps, armed, is_due, arena_allowed, page_size_sound, new_arena, reserved_arena, managed_arena, adopted_arena, grown_arena, find_run, run_committed, run_fresh, take_run, give_back_run, commit_run, dirty_run, finish_grant, tell_run, pend_run, release_run, stamp_run, bytes_of, end_of, is_inside, sound_range, clear_past, clear_past_all, sound_arena, meets, overlaps, bad_range, find_arena, apart, sound_question, sound_table, sound_lent, chunks_for, too_large, bytes_asked, ask_memory, reserve_reply, bad_count, no_whole_chunk, grows, reserve_of, manage_of, adopt_of, eligible, serves, asks_commit, grant_arena, grant_reply, miss_reply, search_of, claim_of, release_of, purge_reply, swept_reply, visit, sweep_from, is_for, answer_of, rules}
use Rattle.document_cases.specs.Refused.{blocks, computed, stated}

pub refused : computed ≡ stated
unfolding blocks computed stated bit bit_at within as_number pack write_run all least lowest_run or_one now_ms delay_ms never_purges keeps armed is_due arena_allowed page_size_sound new_arena reserved_arena managed_arena adopted_arena grown_arena find_run run_committed run_fresh take_run give_back_run commit_run dirty_run finish_grant tell_run pend_run release_run stamp_run bytes_of end_of is_inside sound_range clear_past clear_past_all sound_arena meets overlaps bad_range find_arena apart sound_question sound_table sound_lent chunks_for too_large bytes_asked ask_memory reserve_reply bad_count no_whole_chunk grows reserve_of manage_of adopt_of eligible serves asks_commit grant_arena grant_reply miss_reply search_of claim_of release_of purge_reply swept_reply visit sweep_from is_for answer_of rules
refused = refl
