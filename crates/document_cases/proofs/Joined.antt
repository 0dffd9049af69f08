-- The worked cases of wish 1 hold of the definitions: computed. Assumes nothing.
use Rattle.layer.proofs.Prelude.{refl, bit, bit_at, within, as_number, pack, write_run, all, least, or_one, now_ms, delay_ms, never_purges, keeps, armed, is_due, page_size_sound, new_arena, reserved_arena, adopted_arena, grown_arena, overwritten, sweep_due, disarm, young, to_ask, next_asked, borrow_chunk, unpend_chunk, rearm, stamps_of, bytes_of, end_of, sound_range, clear_past, clear_past_all, sound_arena, meets, overlaps, bad_range, apart, sound_question, sound_table, sound_lent, empty, bad_count, grows, adopt_of, purge_reply, swept_reply, visit, sweep_from, rules, tables_overlap, join_on, join_rules}
use Rattle.document_cases.specs.Refused.{blocks}
use Rattle.document_cases.specs.Joined.{Cases}

pub cases : Cases
unfolding blocks bit bit_at within as_number pack write_run all least or_one now_ms delay_ms never_purges keeps armed is_due page_size_sound new_arena reserved_arena adopted_arena grown_arena overwritten sweep_due disarm young to_ask next_asked borrow_chunk unpend_chunk rearm stamps_of bytes_of end_of sound_range clear_past clear_past_all sound_arena meets overlaps bad_range apart sound_question sound_table sound_lent empty bad_count grows adopt_of purge_reply swept_reply visit sweep_from rules tables_overlap join_on join_rules
cases = record {
  apart = refl;
  below = refl;
  not-yet-due = refl;
  due = refl;
  neighbours = refl;
  neighbours-below = refl;
  seam = refl;
  between = refl;
  last-shared = refl;
  first-shared = refl;
  all-shared = refl;
  last-of-both = refl;
  overlap-of-33 = refl;
  many = refl;
  many-behind = refl;
  as_many = refl;
  commit-open = (refl, refl);
  purge-open = (refl, refl);
  memory-open = (refl, refl);
  give-back-open = (refl, refl);
  open-and-overlap = (refl, refl);
  broken-second = refl;
  broken-first = refl;
  short-second = refl;
  short-first = refl;
  bad-page = refl;
  no-mark = refl;
  first-mark = refl;
  second-mark = refl;
  both-marks = refl;
  empty-first = refl;
  empty-second = refl;
  both-empty = refl;
  mark-unmet = refl;
  past-counts = refl;
}
