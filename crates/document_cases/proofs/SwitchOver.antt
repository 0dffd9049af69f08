-- The two histories and the one that they become meet the premises of demand 3, and program 7 is told what its share book says: computed. Assumes nothing.
use Rattle.std.specs.Prelude.{◌≡◌, ◌∷◌, ◌+◌, Ok}
use Rattle.layer.proofs.Prelude.{refl, true, false, [], bit, bit_at, within, as_number, pack, write_run, all, least, lowest_run, or_one, now_ms, delay_ms, never_purges, keeps, armed, is_due, arena_allowed, page_size_sound, new_arena, reserved_arena, managed_arena, adopted_arena, grown_arena, find_run, run_committed, run_fresh, take_run, give_back_run, commit_run, dirty_run, finish_grant, tell_run, pend_run, release_run, stamp_run, sweep_due, disarm, young, to_ask, next_asked, borrow_chunk, unpend_chunk, return_chunk, rearm, bytes_of, end_of, is_inside, sound_range, clear_past, clear_past_all, sound_arena, empty, meets, overlaps, bad_range, find_arena, apart, sound_question, sound_table, sound_lent, chunks_for, too_large, bytes_asked, ask_memory, reserve_reply, bad_count, no_whole_chunk, grows, reserve_of, manage_of, adopt_of, eligible, serves, asks_commit, grant_arena, grant_reply, miss_reply, search_of, claim_of, release_of, purge_reply, swept_reply, visit, sweep_from, is_for, answer_of, rules, overwritten, outcome, JoinOutcome, join_outcome, tables_overlap, join_on, join_rules, join, lowest, claims, releases as frees, granted, released, enter, say_all, of_first, begin, joining, is_broken_join, start, in_range, book_of, both_sound, by_rules}
use Rattle.layer.specs.declared.Answer.TheVariants.{Registered, Claimed, Released}
use Rattle.document_cases.specs.Example.{S, base, elsewhere, w₂, c₂, arena}
use Rattle.document_cases.specs.SwitchOver.{v₀, v₁, d₀, d₁, in_first, in_second, switch, u₀, u₁, u₂, e₀, e₁, e₂, history, moved, feeding, telling, SwitchOver}
use Rattle.document_cases.proofs.Runs.{Joining, joins_by, at-start, Before, After, Made, before-made, after-made, after-join, own-call}
use Rattle.document_cases.proofs.Example.{stand, also, begun, computed as example-calls}

-- ---- what each call is answered, and leaves

pub record Calls : Type 0 where
  pub k₀ : Made by_rules start d₀ (outcome (Registered 0) v₀) (outcome (Registered 0) v₀)
  pub k₁ : Made by_rules (stand v₀ 9 d₀) d₁ (outcome (Claimed elsewhere false true) v₁) (outcome (Claimed elsewhere false true) v₁)
  pub both-sound : both_sound switch ≡ true
  pub joined : join v₁ w₂ 0 switch.settings ≡ join_outcome (Ok 1) u₀ empty
  pub k₂ : Made by_rules (stand u₀ 9 d₁) e₀ (outcome (Claimed (base + S) true false) u₁) (outcome (Claimed (base + S) true false) u₁)
  pub k₃ : Made by_rules (stand u₁ 7 e₀) e₁ (outcome Released u₂) (outcome Released u₂)
  pub k₄ : Made by_rules (stand u₂ 7 e₁) e₂ (outcome (Claimed base false false) u₁) (outcome (Claimed base false false) u₁)

pub computed : Calls
unfolding enter in_range bit bit_at within as_number pack write_run all least lowest_run or_one now_ms delay_ms never_purges keeps armed is_due arena_allowed page_size_sound new_arena reserved_arena managed_arena adopted_arena grown_arena find_run run_committed run_fresh take_run give_back_run commit_run dirty_run finish_grant tell_run pend_run release_run stamp_run sweep_due disarm young to_ask next_asked borrow_chunk unpend_chunk return_chunk rearm bytes_of end_of is_inside sound_range clear_past clear_past_all sound_arena empty meets overlaps bad_range find_arena apart sound_question sound_table sound_lent chunks_for too_large bytes_asked ask_memory reserve_reply bad_count no_whole_chunk grows reserve_of manage_of adopt_of eligible serves asks_commit grant_arena grant_reply miss_reply search_of claim_of release_of purge_reply swept_reply visit sweep_from is_for answer_of rules overwritten tables_overlap join_on join_rules
computed = record {
  k₀ = record { sound = refl; by-rules = refl; by-layer = refl; passed = refl };
  k₁ = record { sound = refl; by-rules = refl; by-layer = refl; passed = refl };
  both-sound = refl;
  joined = refl;
  k₂ = record { sound = refl; by-rules = refl; by-layer = refl; passed = refl };
  k₃ = record { sound = refl; by-rules = refl; by-layer = refl; passed = refl };
  k₄ = record { sound = refl; by-rules = refl; by-layer = refl; passed = refl };
}

-- ---- one after the other

-- the first's calls, whatever a layer joins
pub first_runs : (J : Joining) → Calls → Before (joins_by J) in_first (stand v₁ 9 d₁) v₁
unfolding empty
first_runs J c =
    let L = joins_by J in
    let b₀ = before-made L begin start empty (at-start L) d₀ (outcome (Registered 0) v₀) (outcome (Registered 0) v₀) (also J _ _ _ _ c.k₀) refl in
    before-made L _ (stand v₀ 9 d₀) v₀ b₀ d₁ (outcome (Claimed elsewhere false true) v₁) (outcome (Claimed elsewhere false true) v₁) (also J _ _ _ _ c.k₁) refl

-- the join, in whatever way: the rules make one table of the two
pub switched : (J : Joining) (c : Calls) (o : JoinOutcome) → J v₁ w₂ 0 switch.settings ≡ o → is_broken_join o.answer ≡ false
    → After (joins_by J) 7 moved (joining of_first in_first in_second switch) (stand u₀ 9 d₁) o.first (claims lowest 1 ∷ []) (granted base true ∷ [])
switched J c o e passed =
    after-join (joins_by J) 7 arena in_first in_second (stand v₁ 9 d₁) (stand w₂ 7 c₂) v₁ w₂ _ _ (first_runs J c) (begun J example-calls) switch (join_outcome (Ok 1) u₀ empty) o
    (record { sound = c.both-sound; by-rules = c.joined; by-layer = e; passed = passed }) refl refl refl

after-all : Calls → After by_rules 7 moved history (stand u₁ 7 e₂) u₁ feeding telling
unfolding in_range
after-all c =
    let r₁ = switched join c (join_outcome (Ok 1) u₀ empty) c.joined refl in
    let r₂ = after-made by_rules 7 moved _ (stand u₀ 9 d₁) u₀ _ _ r₁ e₀ (outcome (Claimed (base + S) true false) u₁) (outcome (Claimed (base + S) true false) u₁) (claims lowest 1 ∷ []) (granted (base + S) true ∷ []) c.k₂ refl (own-call 7 moved (stand u₀ 9 d₁) e₀ refl refl refl) refl refl in
    let r₃ = after-made by_rules 7 moved _ (stand u₁ 7 e₀) u₁ _ _ r₂ e₁ (outcome Released u₂) (outcome Released u₂) (frees base 1 ∷ []) (released ∷ []) c.k₃ refl (own-call 7 moved (stand u₁ 7 e₀) e₁ refl refl refl) refl refl in
    after-made by_rules 7 moved _ (stand u₂ 7 e₁) u₂ _ _ r₃ e₂ (outcome (Claimed base false false) u₁) (outcome (Claimed base false false) u₁) (claims lowest 1 ∷ []) (granted base false ∷ []) c.k₄ refl (own-call 7 moved (stand u₂ 7 e₁) e₂ refl refl refl) refl refl

says : say_all (book_of moved) feeding ≡ telling
unfolding enter within all least lowest_run
says = refl

pub switch-over : SwitchOver
switch-over =
    let b = begun join example-calls in
    let r = after-all computed in
    record {
      before = b.opens;
      id-before = b.place_is;
      after = r.opens;
      id-after = r.place_is;
      lent = r.stands.lent;
      keeps = r.keeps;
      fed-is = r.fed-is;
      told_is = r.told_is;
      book-says = says;
    }
