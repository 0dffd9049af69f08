-- The lines with ◆ of document 01 hold of the definitions: one statement, which antt computes. Assumes nothing.
use Rattle.std.specs.Prelude.{◌≡◌}
use Rattle.layer.proofs.Prelude.{refl, bit, bit_at, within, as_number, pack, write_run, all, least, lowest_run, or_one, now_ms, delay_ms, keeps, armed, is_due, new_arena, managed_arena, stamp_run, bytes_of, end_of, empty, meets, overlaps, bad_range, chunks_for, bad_count, no_whole_chunk, manage_of}
use Rattle.sizes.specs.Sizes.{zero_as_one, lowest_bit, lowest_set_bit, round_up, page_align_up}
use Rattle.slice_pool.specs.Pool.{alloc_run, free_range}
use Rattle.document_cases.specs.Worked.{computed, stated}

pub worked : computed ≡ stated
unfolding computed stated lowest_run least all bit_at bit within as_number pack write_run zero_as_one lowest_bit lowest_set_bit round_up page_align_up or_one now_ms delay_ms keeps armed is_due alloc_run free_range new_arena managed_arena stamp_run bytes_of end_of empty meets overlaps bad_range chunks_for bad_count no_whole_chunk manage_of
worked = refl
