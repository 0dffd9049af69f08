-- The history of the ring meets the premises of demand 3, and program 7 is told what its share book says: computed. Assumes nothing.
use Rattle.std.specs.Prelude.{◌≡◌, ◌∷◌, ◌+◌, ◌&&◌}
use Rattle.layer.proofs.Prelude.{refl, true, false, [], bit, bit_at, within, as_number, pack, write_run, all, least, lowest_run, or_one, now_ms, delay_ms, never_purges, keeps, armed, is_due, arena_allowed, page_size_sound, new_arena, reserved_arena, managed_arena, adopted_arena, grown_arena, find_run, run_committed, run_fresh, take_run, give_back_run, commit_run, dirty_run, finish_grant, tell_run, pend_run, release_run, stamp_run, sweep_due, disarm, young, to_ask, next_asked, borrow_chunk, unpend_chunk, return_chunk, rearm, bytes_of, end_of, is_inside, sound_range, clear_past, clear_past_all, sound_arena, empty, meets, overlaps, bad_range, find_arena, apart, sound_question, sound_table, sound_lent, chunks_for, too_large, bytes_asked, ask_memory, reserve_reply, bad_count, no_whole_chunk, grows, reserve_of, manage_of, adopt_of, eligible, serves, asks_commit, grant_arena, grant_reply, miss_reply, search_of, claim_of, release_of, purge_reply, swept_reply, visit, sweep_from, is_for, answer_of, rules, overwritten, outcome, tables_overlap, join_on, join_rules, join, lowest, claims, releases as frees, granted, released, enter, say_all, in_range, book_of, by_rules, list_fits, release_list, release_item, list_outcome, sound, is_sound_list, World, ℕ, ap, Bool, cond, is_none, feeds, entries_of_list, arith}
use Rattle.refusals.specs.declared.Refusal.TheVariants.{NotInside, ListLength}
use Rattle.layer.specs.declared.Question.TheVariants.{Idle}
use Rattle.layer.specs.declared.Answer.TheVariants.{Refused, Claimed, Released}
use Rattle.document_cases.specs.Example.{S, base, elsewhere, plain, own, one, w₂, c₂, arena}
use Rattle.document_cases.specs.Ring.{r₁, r₂, r₃, holds, closes, anothers, holds_again, history, feeding, telling, Ring}
use Rattle.document_cases.proofs.Runs.{After, Made, after-made, after_list, then-items, past-rows, own-call, own-list, others-list}
use Rattle.document_cases.proofs.Example.{stand, begun, computed as example-calls}

-- after the first item
abbrev one-back : World
one-back = one (own 2 3 0 0 0) 0 Idle

-- ---- what each call and each item is answered, and leaves

record Calls : Type 0 where
  k₀ : Made by_rules (stand w₂ 7 c₂) holds (outcome (Claimed (base + S) true false) r₁) (outcome (Claimed (base + S) true false) r₁)
  sound-lent : is_sound_list closes ≡ true
  i₀ : release_item 0 plain false r₁ base 1 ≡ outcome Released one-back
  i₁ : release_item 0 plain false one-back elsewhere 1 ≡ outcome (Refused NotInside) one-back
  i₂ : release_item 0 plain false one-back (base + S) 2 ≡ outcome Released r₂
  i₃ : release_item 0 plain false r₂ (base + S) 1 ≡ outcome Released r₂
  sound-others : is_sound_list anothers ≡ true
  turned_down : release_list r₂ 0 plain anothers.items ≡ list_outcome (outcome (Refused ListLength) r₂) (9 ∷ [])
  k₁ : Made by_rules (stand r₂ 7 holds) holds_again (outcome (Claimed base false false) r₃) (outcome (Claimed base false false) r₃)

computed : Calls
unfolding enter in_range bit bit_at within as_number pack write_run all least lowest_run or_one now_ms delay_ms never_purges keeps armed is_due arena_allowed page_size_sound new_arena reserved_arena managed_arena adopted_arena grown_arena find_run run_committed run_fresh take_run give_back_run commit_run dirty_run finish_grant tell_run pend_run release_run stamp_run sweep_due disarm young to_ask next_asked borrow_chunk unpend_chunk return_chunk rearm bytes_of end_of is_inside sound_range clear_past clear_past_all sound_arena empty meets overlaps bad_range find_arena apart sound_question sound_table sound_lent chunks_for too_large bytes_asked ask_memory reserve_reply bad_count no_whole_chunk grows reserve_of manage_of adopt_of eligible serves asks_commit grant_arena grant_reply miss_reply search_of claim_of release_of purge_reply swept_reply visit sweep_from is_for answer_of rules overwritten tables_overlap join_on join_rules list_fits release_list
computed = record {
  k₀ = record { sound = refl; by-rules = refl; by-layer = refl; passed = refl };
  sound-lent = refl;
  i₀ = refl;
  i₁ = refl;
  i₂ = refl;
  i₃ = refl;
  sound-others = refl;
  turned_down = refl;
  k₁ = record { sound = refl; by-rules = refl; by-layer = refl; passed = refl };
}

-- ---- one after the other

closed : release_list r₁ 0 plain closes.items ≡ list_outcome (outcome Released r₂) (0 ∷ 8 ∷ 0 ∷ 0 ∷ [])
unfolding list_fits
closed =
    past-rows 0 plain r₁ closes.items r₂ (0 ∷ 8 ∷ 0 ∷ 0 ∷ []) computed.sound-lent refl refl
    (then-items 0 plain false r₁ base 1 Released one-back (elsewhere ∷ (base + S) ∷ (base + S) ∷ []) (1 ∷ 2 ∷ 1 ∷ []) r₂ (8 ∷ 0 ∷ 0 ∷ []) computed.i₀
    (then-items 0 plain false one-back elsewhere 1 (Refused NotInside) one-back ((base + S) ∷ (base + S) ∷ []) (2 ∷ 1 ∷ []) r₂ (0 ∷ 0 ∷ []) computed.i₁
    (then-items 0 plain false one-back (base + S) 2 Released r₂ ((base + S) ∷ []) (1 ∷ []) r₂ (0 ∷ []) computed.i₂
    (then-items 0 plain false r₂ (base + S) 1 Released r₂ [] [] r₂ [] computed.i₃ refl))))

other : ◌≡◌ {A = ℕ} 9 7 → ⊥
other e = omega arith

after-all : After by_rules 7 arena history (stand r₃ 7 holds_again) r₃ feeding telling
unfolding in_range list_fits
after-all =
    let q₀ = begun join example-calls in
    let q₁ = after-made by_rules 7 arena _ (stand w₂ 7 c₂) w₂ _ _ q₀ holds (outcome (Claimed (base + S) true false) r₁) (outcome (Claimed (base + S) true false) r₁) (claims lowest 1 ∷ []) (granted (base + S) true ∷ []) computed.k₀ refl
    (own-call 7 arena (stand w₂ 7 c₂) holds refl refl refl) refl refl in
    let q₂ = after_list by_rules 7 arena _ (stand r₁ 7 holds) r₁ _ _ q₁ closes (list_outcome (outcome Released r₂) (0 ∷ 8 ∷ 0 ∷ 0 ∷ [])) (list_outcome (outcome Released r₂) (0 ∷ 8 ∷ 0 ∷ 0 ∷ [])) true
    (frees base 1 ∷ frees (base + S) 2 ∷ frees (base + S) 1 ∷ []) (released ∷ released ∷ released ∷ []) (record { sound = computed.sound-lent; by-rules = closed; by-layer = closed; passed = refl; takes = refl }) refl
    (own-list 7 arena (stand r₁ 7 holds) closes refl refl computed.sound-lent) refl refl in
    let q₃ = after_list by_rules 7 arena _ (stand r₂ 7 holds) r₂ _ _ q₂ anothers (list_outcome (outcome (Refused ListLength) r₂) (9 ∷ [])) (list_outcome (outcome (Refused ListLength) r₂) (9 ∷ [])) false [] []
    (record { sound = computed.sound-others; by-rules = computed.turned_down; by-layer = computed.turned_down; passed = refl; takes = refl }) refl
    (others-list 7 arena (stand r₂ 7 holds) anothers other (ap (λ (b : Bool). is_none (cond (b && false) (feeds arena (entries_of_list anothers)) [])) computed.sound-others)) refl refl in
    after-made by_rules 7 arena _ (stand r₂ 7 holds) r₂ _ _ q₃ holds_again (outcome (Claimed base false false) r₃) (outcome (Claimed base false false) r₃) (claims lowest 1 ∷ []) (granted base false ∷ []) computed.k₁ refl
    (own-call 7 arena (stand r₂ 7 holds) holds_again refl refl refl) refl refl

says : say_all (book_of arena) feeding ≡ telling
unfolding enter within all least lowest_run
says = refl

pub ring : Ring
ring = record {
  after = after-all.opens;
  id-after = after-all.place_is;
  lent = after-all.stands.lent;
  keeps = after-all.keeps;
  fed-is = after-all.fed-is;
  told_is = after-all.told_is;
  book-says = says;
}
