-- The worked cases of wish 2 hold of the rules: computed. Assumes nothing.
use Rattle.layer.proofs.Prelude.{refl, bit, bit_at, within, as_number, pack, write_run, all, least, or_one, now_ms, delay_ms, never_purges, keeps, armed, is_due, page_size_sound, take_run, give_back_run, commit_run, tell_run, pend_run, release_run, stamp_run, sweep_due, disarm, young, to_ask, next_asked, borrow_chunk, unpend_chunk, return_chunk, rearm, stamps_of, bytes_of, end_of, is_inside, sound_range, clear_past, clear_past_all, sound_arena, meets, overlaps, find_arena, apart, sound_question, sound_table, sound_lent, release_of, purge_reply, swept_reply, visit, sweep_from, is_for, answer_of, rules, new_arena, reserved_arena}
use Rattle.document_cases.specs.Never.{NeverCases}

pub never-cases : NeverCases
unfolding bit bit_at within as_number pack write_run all least or_one now_ms delay_ms never_purges keeps armed is_due page_size_sound take_run give_back_run commit_run tell_run pend_run release_run stamp_run sweep_due disarm young to_ask next_asked borrow_chunk unpend_chunk return_chunk rearm stamps_of bytes_of end_of is_inside sound_range clear_past clear_past_all sound_arena meets overlaps find_arena apart sound_question sound_table sound_lent release_of purge_reply swept_reply visit sweep_from is_for answer_of rules new_arena reserved_arena
never-cases = record {
  marks-nothing = (refl, refl, refl);
  arms-nothing = (refl, refl, refl);
  unmarks-nothing = (refl, refl, refl);
  told-committed = (refl, refl, refl);
  told-uncommitted = (refl, refl, refl);
  zero-marks = refl;
  zero-arms = refl;
  leaves-due = (refl, refl, refl);
  zero-asks = refl;
  forced-asks = (refl, refl, refl);
  forced-finds-none = (refl, refl, refl);
  goes_on = (refl, refl, refl);
  broken-release = (refl, refl, refl);
  broken-sweep = (refl, refl, refl);
  open-release = (refl, refl, refl);
  open-sweep = (refl, refl, refl);
  none-released = (refl, refl, refl);
  outside = (refl, refl, refl);
  part = (refl, refl, refl);
  past_the_end = (refl, refl, refl);
}
