-- The worked cases of wish 3 hold of the rules: each item is computed by itself, on the table that the item before it leaves. Assumes nothing.
use Rattle.std.specs.Prelude.{◌≡◌, ◌∷◌}
use Rattle.layer.proofs.Prelude.{refl, list_fits, release_list, bit, bit_at, within, as_number, pack, write_run, all, least, or_one, now_ms, delay_ms, never_purges, keeps, armed, is_due, page_size_sound, take_run, give_back_run, commit_run, tell_run, pend_run, release_run, stamp_run, sweep_due, disarm, young, to_ask, next_asked, borrow_chunk, unpend_chunk, return_chunk, rearm, stamps_of, bytes_of, end_of, is_inside, sound_range, clear_past, clear_past_all, sound_arena, meets, overlaps, find_arena, apart, sound_question, sound_table, sound_lent, release_of, purge_reply, swept_reply, visit, sweep_from, is_for, answer_of, rules, new_arena, reserved_arena, Bool, true, false, [], ℕ, ℤ, pos, negsuc, replicate, World, outcome, sound, release_item}
use Rattle.refusals.specs.declared.Refusal.TheVariants.{Broken, QuestionOpen, Zero, NotWhole, NotInside, PastEnd, ListLength}
use Rattle.document_cases.specs.Refused.{short}
use Rattle.layer.specs.declared.Question.TheVariants.{Idle}
use Rattle.layer.specs.declared.Answer.{Answer}
use Rattle.layer.specs.declared.Answer.TheVariants.{Refused, Released}
use Rattle.layer.specs.World.{size_of}
use Rattle.layer.specs.Listing.{items}
use Rattle.document_cases.specs.Joined.{stamp_in0}
use Rattle.document_cases.specs.Never.{table_of, older, calmer, purge_at, at_delay}
use Rattle.document_cases.proofs.Runs.{then-items, past-rows}
use Rattle.document_cases.specs.Listed.{Refuses, chunk, part, not_pending, both_held, ListedCases}

-- one item at 50 ms
abbrev Item : ℤ → Bool → World → ℕ → ℕ → Answer → World → Type 0
Item d pending w x n a v = release_item 50000000 (at_delay d) pending w x n ≡ outcome a v

-- ---- the items, computed

-- on the table after the release of chunk 0
abbrev less : World
less = table_of 4 7 2 20 stamp_in0 Idle

abbrev pended : World
pended = table_of 4 7 1 60 (50 ∷ 10 ∷ replicate 32766 0) Idle

record Computed : Type 0 where
  sound-older : sound (size_of older.state) older 4096 ≡ true
  sound-calmer : sound (size_of calmer.state) calmer 4096 ≡ true
  sound-both : sound (size_of (both_held 15 15).state) (both_held 15 15) 4096 ≡ true
  first : Item (pos 10) false older (chunk 0) 1 Released less
  third : Item (pos 10) false less (chunk 2) 1 Released (table_of 0 7 2 20 stamp_in0 Idle)
  third-alone : Item (pos 10) false older (chunk 2) 1 Released (table_of 1 7 2 20 stamp_in0 Idle)
  nowhere : Item (pos 10) false older 5 1 (Refused NotInside) older
  nowhere-then : Item (pos 10) false less 5 1 (Refused NotInside) less
  no_chunk : Item (pos 10) false older (chunk 0) 0 (Refused Zero) older
  behind : Item (pos 10) false older (chunk 4) 1 (Refused NotInside) older
  inside : Item (pos 10) false older part 1 (Refused NotWhole) older
  too_long : Item (pos 10) false older (chunk 0) 5 (Refused PastEnd) older
  again : Item (pos 10) false less (chunk 0) 1 Released less
  first_two : Item (pos 10) false older (chunk 0) 2 Released less
  last-three : Item (pos 10) false less (chunk 1) 3 Released (table_of 0 7 2 20 stamp_in0 Idle)
  in-second : Item (pos 10) false (both_held 15 15) (chunk 33) 1 Released (both_held 15 13)
  in-first : Item (pos 10) false (both_held 15 13) (chunk 0) 2 Released (both_held 12 13)
  pends-first : Item (pos 10) true calmer (chunk 0) 1 Released pended
  pends-third : Item (pos 10) true pended (chunk 2) 1 Released (table_of 0 7 5 60 (50 ∷ 10 ∷ 50 ∷ replicate 32765 0) Idle)
  never_first : Item (negsuc 0) true calmer (chunk 0) 1 Released (table_of 4 7 0 0 stamp_in0 Idle)
  never-third : Item (negsuc 0) true (table_of 4 7 0 0 stamp_in0 Idle) (chunk 2) 1 Released (table_of 0 7 0 0 stamp_in0 Idle)

computed : Computed
unfolding bit bit_at within as_number pack write_run all least or_one now_ms delay_ms never_purges keeps armed is_due page_size_sound take_run give_back_run commit_run tell_run pend_run release_run stamp_run sweep_due disarm young to_ask next_asked borrow_chunk unpend_chunk return_chunk rearm stamps_of bytes_of end_of is_inside sound_range clear_past clear_past_all sound_arena meets overlaps find_arena apart sound_question sound_table sound_lent release_of purge_reply swept_reply visit sweep_from is_for answer_of rules new_arena reserved_arena
computed = record {
  sound-older = refl;
  sound-calmer = refl;
  sound-both = refl;
  first = refl;
  third = refl;
  third-alone = refl;
  nowhere = refl;
  nowhere-then = refl;
  no_chunk = refl;
  behind = refl;
  inside = refl;
  too_long = refl;
  again = refl;
  first_two = refl;
  last-three = refl;
  in-second = refl;
  in-first = refl;
  pends-first = refl;
  pends-third = refl;
  never_first = refl;
  never-third = refl;
}

-- ---- what is refused as a whole, computed

record AsAWhole : Type 0 where
  few-counts : Refuses older (not_pending (chunk 0 ∷ chunk 0 ∷ []) (1 ∷ []) (99 ∷ 98 ∷ [])) ListLength
  few-answers : Refuses older (not_pending (chunk 0 ∷ chunk 0 ∷ []) (1 ∷ 1 ∷ []) (99 ∷ [])) ListLength
  few-addresses : Refuses older (not_pending (chunk 0 ∷ []) (1 ∷ 1 ∷ []) (99 ∷ 98 ∷ [])) ListLength
  no-answers : Refuses older (not_pending (chunk 0 ∷ []) (1 ∷ []) []) ListLength
  two-first : Refuses (table_of 7 7 2 0 stamp_in0 (purge_at true 1 0)) (not_pending (chunk 0 ∷ []) [] (99 ∷ [])) QuestionOpen
  one-first : Refuses short (not_pending (chunk 0 ∷ []) [] (99 ∷ [])) Broken

as-a-whole : AsAWhole
unfolding bit bit_at within as_number pack write_run all least or_one now_ms delay_ms never_purges keeps armed is_due page_size_sound take_run give_back_run commit_run tell_run pend_run release_run stamp_run sweep_due disarm young to_ask next_asked borrow_chunk unpend_chunk return_chunk rearm stamps_of bytes_of end_of is_inside sound_range clear_past clear_past_all sound_arena meets overlaps find_arena apart sound_question sound_table sound_lent release_of purge_reply swept_reply visit sweep_from is_for answer_of rules list_fits release_list new_arena reserved_arena
as-a-whole = record {
  few-counts = refl;
  few-answers = refl;
  few-addresses = refl;
  no-answers = refl;
  two-first = refl;
  one-first = refl;
}

-- ---- the cases

pub listed-cases : ListedCases
unfolding list_fits
listed-cases = record {
  closes = past-rows 50000000 (at_delay (pos 10)) older (items ((chunk 0) ∷ (chunk 2) ∷ []) (1 ∷ 1 ∷ []) (99 ∷ 99 ∷ []) false) (table_of 0 7 2 20 stamp_in0 Idle) (0 ∷ 0 ∷ []) computed.sound-older refl refl (then-items 50000000 (at_delay (pos 10)) false older (chunk 0) 1 Released less ((chunk 2) ∷ []) (1 ∷ []) (table_of 0 7 2 20 stamp_in0 Idle) (0 ∷ []) computed.first (then-items 50000000 (at_delay (pos 10)) false less (chunk 2) 1 Released (table_of 0 7 2 20 stamp_in0 Idle) [] [] (table_of 0 7 2 20 stamp_in0 Idle) [] computed.third refl));
  passes-refused = past-rows 50000000 (at_delay (pos 10)) older (items ((chunk 0) ∷ 5 ∷ (chunk 2) ∷ []) (1 ∷ 1 ∷ 1 ∷ []) (99 ∷ 99 ∷ 99 ∷ []) false) (table_of 0 7 2 20 stamp_in0 Idle) (0 ∷ 8 ∷ 0 ∷ []) computed.sound-older refl refl (then-items 50000000 (at_delay (pos 10)) false older (chunk 0) 1 Released less (5 ∷ (chunk 2) ∷ []) (1 ∷ 1 ∷ []) (table_of 0 7 2 20 stamp_in0 Idle) (8 ∷ 0 ∷ []) computed.first (then-items 50000000 (at_delay (pos 10)) false less 5 1 (Refused NotInside) less ((chunk 2) ∷ []) (1 ∷ []) (table_of 0 7 2 20 stamp_in0 Idle) (0 ∷ []) computed.nowhere-then (then-items 50000000 (at_delay (pos 10)) false less (chunk 2) 1 Released (table_of 0 7 2 20 stamp_in0 Idle) [] [] (table_of 0 7 2 20 stamp_in0 Idle) [] computed.third refl)));
  first-refused = past-rows 50000000 (at_delay (pos 10)) older (items (5 ∷ (chunk 0) ∷ []) (1 ∷ 1 ∷ []) (99 ∷ 99 ∷ []) false) less (8 ∷ 0 ∷ []) computed.sound-older refl refl (then-items 50000000 (at_delay (pos 10)) false older 5 1 (Refused NotInside) older ((chunk 0) ∷ []) (1 ∷ []) less (0 ∷ []) computed.nowhere (then-items 50000000 (at_delay (pos 10)) false older (chunk 0) 1 Released less [] [] less [] computed.first refl));
  all-refused = past-rows 50000000 (at_delay (pos 10)) older (items (5 ∷ (chunk 0) ∷ []) (1 ∷ 0 ∷ []) (99 ∷ 99 ∷ []) false) older (8 ∷ 4 ∷ []) computed.sound-older refl refl (then-items 50000000 (at_delay (pos 10)) false older 5 1 (Refused NotInside) older ((chunk 0) ∷ []) (0 ∷ []) older (4 ∷ []) computed.nowhere (then-items 50000000 (at_delay (pos 10)) false older (chunk 0) 0 (Refused Zero) older [] [] older [] computed.no_chunk refl));
  each_number = past-rows 50000000 (at_delay (pos 10)) older (items ((chunk 0) ∷ (chunk 4) ∷ part ∷ (chunk 0) ∷ (chunk 2) ∷ []) (0 ∷ 1 ∷ 1 ∷ 5 ∷ 1 ∷ []) (99 ∷ 99 ∷ 99 ∷ 99 ∷ 99 ∷ []) false) (table_of 1 7 2 20 stamp_in0 Idle) (4 ∷ 8 ∷ 7 ∷ 9 ∷ 0 ∷ []) computed.sound-older refl refl (then-items 50000000 (at_delay (pos 10)) false older (chunk 0) 0 (Refused Zero) older ((chunk 4) ∷ part ∷ (chunk 0) ∷ (chunk 2) ∷ []) (1 ∷ 1 ∷ 5 ∷ 1 ∷ []) (table_of 1 7 2 20 stamp_in0 Idle) (8 ∷ 7 ∷ 9 ∷ 0 ∷ []) computed.no_chunk (then-items 50000000 (at_delay (pos 10)) false older (chunk 4) 1 (Refused NotInside) older (part ∷ (chunk 0) ∷ (chunk 2) ∷ []) (1 ∷ 5 ∷ 1 ∷ []) (table_of 1 7 2 20 stamp_in0 Idle) (7 ∷ 9 ∷ 0 ∷ []) computed.behind (then-items 50000000 (at_delay (pos 10)) false older part 1 (Refused NotWhole) older ((chunk 0) ∷ (chunk 2) ∷ []) (5 ∷ 1 ∷ []) (table_of 1 7 2 20 stamp_in0 Idle) (9 ∷ 0 ∷ []) computed.inside (then-items 50000000 (at_delay (pos 10)) false older (chunk 0) 5 (Refused PastEnd) older ((chunk 2) ∷ []) (1 ∷ []) (table_of 1 7 2 20 stamp_in0 Idle) (0 ∷ []) computed.too_long (then-items 50000000 (at_delay (pos 10)) false older (chunk 2) 1 Released (table_of 1 7 2 20 stamp_in0 Idle) [] [] (table_of 1 7 2 20 stamp_in0 Idle) [] computed.third-alone refl)))));
  twice = past-rows 50000000 (at_delay (pos 10)) older (items ((chunk 0) ∷ (chunk 0) ∷ []) (1 ∷ 1 ∷ []) (99 ∷ 99 ∷ []) false) less (0 ∷ 0 ∷ []) computed.sound-older refl refl (then-items 50000000 (at_delay (pos 10)) false older (chunk 0) 1 Released less ((chunk 0) ∷ []) (1 ∷ []) less (0 ∷ []) computed.first (then-items 50000000 (at_delay (pos 10)) false less (chunk 0) 1 Released less [] [] less [] computed.again refl));
  overlapping = past-rows 50000000 (at_delay (pos 10)) older (items ((chunk 0) ∷ (chunk 1) ∷ []) (2 ∷ 3 ∷ []) (99 ∷ 99 ∷ []) false) (table_of 0 7 2 20 stamp_in0 Idle) (0 ∷ 0 ∷ []) computed.sound-older refl refl (then-items 50000000 (at_delay (pos 10)) false older (chunk 0) 2 Released less ((chunk 1) ∷ []) (3 ∷ []) (table_of 0 7 2 20 stamp_in0 Idle) (0 ∷ []) computed.first_two (then-items 50000000 (at_delay (pos 10)) false less (chunk 1) 3 Released (table_of 0 7 2 20 stamp_in0 Idle) [] [] (table_of 0 7 2 20 stamp_in0 Idle) [] computed.last-three refl));
  both-arenas = past-rows 50000000 (at_delay (pos 10)) (both_held 15 15) (items ((chunk 33) ∷ (chunk 0) ∷ []) (1 ∷ 2 ∷ []) (99 ∷ 99 ∷ []) false) (both_held 12 13) (0 ∷ 0 ∷ []) computed.sound-both refl refl (then-items 50000000 (at_delay (pos 10)) false (both_held 15 15) (chunk 33) 1 Released (both_held 15 13) ((chunk 0) ∷ []) (2 ∷ []) (both_held 12 13) (0 ∷ []) computed.in-second (then-items 50000000 (at_delay (pos 10)) false (both_held 15 13) (chunk 0) 2 Released (both_held 12 13) [] [] (both_held 12 13) [] computed.in-first refl));
  pends = past-rows 50000000 (at_delay (pos 10)) calmer (items ((chunk 0) ∷ (chunk 2) ∷ []) (1 ∷ 1 ∷ []) (99 ∷ 99 ∷ []) true) (table_of 0 7 5 60 (50 ∷ 10 ∷ 50 ∷ replicate 32765 0) Idle) (0 ∷ 0 ∷ []) computed.sound-calmer refl refl (then-items 50000000 (at_delay (pos 10)) true calmer (chunk 0) 1 Released pended ((chunk 2) ∷ []) (1 ∷ []) (table_of 0 7 5 60 (50 ∷ 10 ∷ 50 ∷ replicate 32765 0) Idle) (0 ∷ []) computed.pends-first (then-items 50000000 (at_delay (pos 10)) true pended (chunk 2) 1 Released (table_of 0 7 5 60 (50 ∷ 10 ∷ 50 ∷ replicate 32765 0) Idle) [] [] (table_of 0 7 5 60 (50 ∷ 10 ∷ 50 ∷ replicate 32765 0) Idle) [] computed.pends-third refl));
  pends-never = past-rows 50000000 (at_delay (negsuc 0)) calmer (items ((chunk 0) ∷ (chunk 2) ∷ []) (1 ∷ 1 ∷ []) (99 ∷ 99 ∷ []) true) (table_of 0 7 0 0 stamp_in0 Idle) (0 ∷ 0 ∷ []) computed.sound-calmer refl refl (then-items 50000000 (at_delay (negsuc 0)) true calmer (chunk 0) 1 Released (table_of 4 7 0 0 stamp_in0 Idle) ((chunk 2) ∷ []) (1 ∷ []) (table_of 0 7 0 0 stamp_in0 Idle) (0 ∷ []) computed.never_first (then-items 50000000 (at_delay (negsuc 0)) true (table_of 4 7 0 0 stamp_in0 Idle) (chunk 2) 1 Released (table_of 0 7 0 0 stamp_in0 Idle) [] [] (table_of 0 7 0 0 stamp_in0 Idle) [] computed.never-third refl));
  empty-list = past-rows 50000000 (at_delay (pos 10)) calmer (items [] [] [] true) calmer [] computed.sound-calmer refl refl refl;
  few-counts = as-a-whole.few-counts;
  few-answers = as-a-whole.few-answers;
  few-addresses = as-a-whole.few-addresses;
  no-answers = as-a-whole.no-answers;
  two-first = as-a-whole.two-first;
  one-first = as-a-whole.one-first;
}
