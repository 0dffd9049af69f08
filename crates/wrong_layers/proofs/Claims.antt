-- Wrong claims and releases, each on a short history: a managed arena of one chunk at S, claimed and released by program 7. Assumes nothing.
use Rattle.std.specs.Prelude.{◌≡◌, ◌∷◌}
use Rattle.layer.proofs.Prelude.{refl, ap, ◌∙◌, true, false, [], ℕ, arith, negsuc, replicate, NoRun, bit, bit_at, within, as_number, pack, write_run, all, least, lowest_run, or_one, now_ms, delay_ms, never_purges, keeps, armed, is_due, arena_allowed, page_size_sound, Untold, new_arena, reserved_arena, managed_arena, adopted_arena, grown_arena, find_run, run_committed, run_fresh, take_run, give_back_run, commit_run, dirty_run, finish_grant, tell_run, pend_run, release_run, stamp_run, sweep_due, disarm, young, to_ask, next_asked, borrow_chunk, unpend_chunk, return_chunk, rearm, bytes_of, end_of, is_inside, sound_range, clear_past, clear_past_all, sound_arena, World, Outcome, blank, state_with, world_of, outcome, empty, meets, overlaps, bad_range, find_arena, apart, sound_question, sound_table, sound_lent, chunks_for, too_large, bytes_asked, ask_memory, reserve_reply, bad_count, no_whole_chunk, grows, reserve_of, manage_of, adopt_of, eligible, serves, asks_commit, grant_arena, grant_reply, miss_reply, search_of, claim_of, release_of, purge_reply, swept_reply, visit, sweep_from, is_for, answer_of, release, act, answer, rules, step, lowest, claims, releases as frees, refused, granted, released, enter, say_all, Marked, is_sound, in_range, book_of, Demand3, TenExactly}
use Rattle.layer.specs.declared.Question.TheVariants.{Idle}
use Rattle.layer.specs.declared.Answer.TheVariants.{Refused, Claimed, Released}
use Rattle.document_cases.specs.Example.{S, plain, row, by}
use Rattle.document_cases.proofs.Runs.{after-made, by-book, own-call}
use Rattle.wrong_layers.proofs.Ground.{stand, clash, clear, held, claims_on, arena, ground, opened, opens}
use Rattle.wrong_layers.specs.Wrong.{ten_always, ten_before_looking, chunk_zero, releases_nothing, ClaimsFail}

abbrev releases_on : World → Marked
releases_on w = by 7 w 0 (act (release S 1 Untold false))

-- a shared arena of one chunk, for the claim with a negative id
abbrev shared : World
shared = world_of (record { base = S; chunks = 1; exclusive = 0; owned = 0; node = negsuc 0; deadline = 0; used = row 0; dirty = row 1; committed = row 1; pending = row 0 } ∷ replicate 31 blank) (replicate 32768 0) (state_with 1 false Idle)

record Facts : Type 0 where
  sound-held : is_sound (claims_on held) ≡ true
  sound-shared : is_sound (claims_on shared) ≡ true
  none_left : step held 0 plain (claims_on held).call ≡ outcome (Refused NoRun) held
  given_back : step held 0 plain (releases_on held).call ≡ outcome Released clear
  says_two : say_all (book_of arena) (claims lowest 1 ∷ claims lowest 1 ∷ []) ≡ granted S false ∷ refused 10 ∷ []
  says-again : say_all (book_of arena) (claims lowest 1 ∷ frees S 1 ∷ claims lowest 1 ∷ []) ≡ granted S false ∷ released ∷ granted S false ∷ []

facts : Facts
unfolding enter in_range bit bit_at within as_number pack write_run all least lowest_run or_one now_ms delay_ms never_purges keeps armed is_due arena_allowed page_size_sound new_arena reserved_arena managed_arena adopted_arena grown_arena find_run run_committed run_fresh take_run give_back_run commit_run dirty_run finish_grant tell_run pend_run release_run stamp_run sweep_due disarm young to_ask next_asked borrow_chunk unpend_chunk return_chunk rearm bytes_of end_of is_inside sound_range clear_past clear_past_all sound_arena empty meets overlaps bad_range find_arena apart sound_question sound_table sound_lent chunks_for too_large bytes_asked ask_memory reserve_reply bad_count no_whole_chunk grows reserve_of manage_of adopt_of eligible serves asks_commit grant_arena grant_reply miss_reply search_of claim_of release_of purge_reply swept_reply visit sweep_from is_for answer_of rules
facts = record {
  sound-held = refl;
  sound-shared = refl;
  none_left = refl;
  given_back = refl;
  says_two = refl;
  says-again = refl;
}

-- ---- each fails

ten-always : Demand3 ten_always → ⊥
unfolding in_range
ten-always d =
    let r = opens ten_always ground.registered in
    let q = after-made ten_always 7 arena _ opened clear _ _ r (claims_on clear) (outcome (Claimed S false true) held) (outcome (Refused NoRun) clear) (claims lowest 1 ∷ []) (refused 10 ∷ [])
    (record { sound = ground.sound-clear; by-rules = ground.claimed; by-layer = refl; passed = refl }) refl (own-call 7 arena opened (claims_on clear) refl refl refl) refl refl in
    let b = by-book ten_always 7 arena _ (stand held 7 (claims_on clear)) clear _ _ q d in
    clash 10 S false b.0 [] (b.1 ∙ ground.says-one)

chunk-zero : Demand3 chunk_zero → ⊥
unfolding in_range
chunk-zero d =
    let r = opens chunk_zero ground.registered in
    let q = after-made chunk_zero 7 arena _ opened clear _ _ r (claims_on clear) (outcome (Claimed S false true) held) (outcome (Claimed S false true) held) (claims lowest 1 ∷ []) (granted S false ∷ [])
    (record { sound = ground.sound-clear; by-rules = ground.claimed; by-layer = ap (λ (o : Outcome). outcome (Claimed S false true) o.world) ground.claimed; passed = refl }) refl (own-call 7 arena opened (claims_on clear) refl refl refl) refl refl in
    let v = after-made chunk_zero 7 arena _ (stand held 7 (claims_on clear)) held _ _ q (claims_on held) (outcome (Refused NoRun) held) (outcome (Claimed S false true) held) (claims lowest 1 ∷ []) (granted S false ∷ [])
    (record { sound = facts.sound-held; by-rules = facts.none_left; by-layer = ap (λ (o : Outcome). outcome (Claimed S false true) o.world) facts.none_left; passed = refl }) refl (own-call 7 arena (stand held 7 (claims_on clear)) (claims_on held) refl refl refl) refl refl in
    let b = by-book chunk_zero 7 arena _ (stand held 7 (claims_on held)) held _ _ v d in
    let e : granted S false ∷ granted S false ∷ b.0 ≡ granted S false ∷ refused 10 ∷ [] = b.1 ∙ facts.says_two in
    absurd (let z : ◌≡◌ {A = ℕ} 0 1 = cc in omega arith)

releases-nothing : Demand3 releases_nothing → ⊥
unfolding in_range
releases-nothing d =
    let r = opens releases_nothing ground.registered in
    let q = after-made releases_nothing 7 arena _ opened clear _ _ r (claims_on clear) (outcome (Claimed S false true) held) (outcome (Claimed S false true) held) (claims lowest 1 ∷ []) (granted S false ∷ [])
    (record { sound = ground.sound-clear; by-rules = ground.claimed; by-layer = ground.claimed; passed = refl }) refl (own-call 7 arena opened (claims_on clear) refl refl refl) refl refl in
    let v = after-made releases_nothing 7 arena _ (stand held 7 (claims_on clear)) held _ _ q (releases_on held) (outcome Released clear) (outcome Released held) (frees S 1 ∷ []) (released ∷ [])
    (record { sound = facts.sound-held; by-rules = facts.given_back; by-layer = ap (λ (o : Outcome). outcome o.answer held) facts.given_back; passed = refl }) refl (own-call 7 arena (stand held 7 (claims_on clear)) (releases_on held) refl refl refl) refl refl in
    let u = after-made releases_nothing 7 arena _ (stand clear 7 (releases_on held)) held _ _ v (claims_on held) (outcome (Claimed S false true) held) (outcome (Refused NoRun) held) (claims lowest 1 ∷ []) (refused 10 ∷ [])
    (record { sound = facts.sound-held; by-rules = ground.claimed; by-layer = facts.none_left; passed = refl }) refl (own-call 7 arena (stand clear 7 (releases_on held)) (claims_on held) refl refl refl) refl refl in
    let b = by-book releases_nothing 7 arena _ (stand held 7 (claims_on held)) held _ _ u d in
    let e : granted S false ∷ released ∷ refused 10 ∷ b.0 ≡ granted S false ∷ released ∷ granted S false ∷ [] = b.1 ∙ facts.says-again in
    absurd (let z : ◌≡◌ {A = ℕ} 0 1 = cc in omega arith)

-- chunk 0 of the shared arena is free
ten-before-looking : TenExactly ten_before_looking → ⊥
unfolding arena_allowed
ten-before-looking d =
    (d shared 0 plain (negsuc 0) 1 false facts.sound-shared refl (omega arith) refl).0 refl 0 (omega arith) refl 0 (omega arith, λ j lo hi. ap (bit_at (row 0)) (let z : j ≡ 0 = omega arith in z) ∙ clear-bit)
  where
    clear-bit : bit_at (row 0) 0 ≡ false
    clear-bit = unfold bit_at bit in refl

pub claims-fail : ClaimsFail
claims-fail = record { ten-always = ten-always; chunk-zero = chunk-zero; releases-nothing = releases-nothing; ten-before-looking = ten-before-looking }
