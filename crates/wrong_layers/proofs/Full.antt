-- The table that n calls of manage leave, n up to 32: arenas of 1,024 chunks side by side; and the history that leads there. Assumes nothing.
use Rattle.std.specs.Prelude.{◌≡◌, ◌∷◌, ◌++◌, ◌-◌, ◌*◌, ◌≤◌, ◌<◌}
use Rattle.layer.proofs.Prelude.{refl, sym, ap, ◌∙◌, subst, Bool, true, false, not, true≢false, List, [], ⊎_elim, ℕ, zero, suc, eq-or-lt_of_le, arith, negsuc, replicate, Arena, World, Outcome, blank, state_with, world_of, outcome, Call, step, manage, act, Marked, History, begin, next, is_broken, Trail, start, bit, bit_at, within, as_number, pack, write_run, all, least, lowest_run, or_one, now_ms, delay_ms, never_purges, keeps, armed, is_due, arena_allowed, page_size_sound, new_arena, reserved_arena, managed_arena, adopted_arena, grown_arena, find_run, run_committed, run_fresh, take_run, give_back_run, commit_run, dirty_run, finish_grant, tell_run, pend_run, release_run, stamp_run, sweep_due, disarm, young, to_ask, next_asked, borrow_chunk, unpend_chunk, return_chunk, rearm, bytes_of, end_of, is_inside, sound_range, clear_past, clear_past_all, sound_arena, empty, meets, overlaps, bad_range, find_arena, apart, sound_question, sound_table, sound_lent, chunks_for, too_large, bytes_asked, ask_memory, reserve_reply, bad_count, no_whole_chunk, grows, reserve_of, manage_of, adopt_of, eligible, serves, asks_commit, grant_arena, grant_reply, miss_reply, search_of, claim_of, release_of, purge_reply, swept_reply, visit, sweep_from, is_for, answer_of, rules}
use Rattle.layer.specs.declared.Question.TheVariants.{Idle}
use Rattle.layer.specs.declared.Answer.TheVariants.{Registered}
use Rattle.layer.proofs.Trails.{row-1}
use Rattle.document_cases.specs.Example.{plain, row, by}
use Rattle.document_cases.proofs.Runs.{Joining, joins_by, Before, at-start, before-made}

-- ---- a list of what stands at each number below n, the highest first

abbrev listed : {A : Type 0} → (ℕ → A) → ℕ → List A
listed f zero = []
listed f (suc n) = f n ∷ listed f n

abbrev head_or : {A : Type 0} → A → List A → A
head_or d [] = d
head_or d (x ∷ l) = x

abbrev rest : {A : Type 0} → List A → List A
rest [] = []
rest (x ∷ l) = l

-- two such lists are equal at each
each : {A : Type 0} (f g : ℕ → A) (n : ℕ) → listed f n ≡ listed g n → (k : ℕ) → k < n → f k ≡ g k
each f g zero e k h = absurd (omega (arith, h))
each f g (suc n) e k h =
    ⊎_elim (λ (q : k ≡ n). subst (λ (z : ℕ). f z ≡ g z) (sym q) (ap (head_or (f n)) e)) (λ (q : suc k ≤ n). each f g n (ap rest e) k q) (eq-or-lt_of_le (let z : k ≤ n = omega (arith, h) in z))

-- ---- the tables

-- 2^35 bytes: 1,024 chunks
abbrev pub range : ℕ
range = 34359738368

abbrev wide : ℕ → Arena
wide i =
    record {
      base = suc i * range;
      chunks = 1024;
      exclusive = 0;
      owned = 0;
      node = negsuc 0;
      deadline = 0;
      used = row 0;
      dirty = replicate 32 4294967295;
      committed = replicate 32 4294967295;
      pending = row 0;
    }

-- k of them from the i-th on
abbrev wides : ℕ → ℕ → List Arena
wides zero i = []
wides (suc k) i = wide i ∷ wides k (suc i)

abbrev pub table : ℕ → World
table n = world_of (wides n 0 ++ replicate (32 - n) blank) (replicate 32768 0) (state_with n false Idle)

abbrev pub manages : ℕ → Marked
manages n = by 9 (table n) 0 (act (manage (suc n * range) range false (negsuc 0) false true))

abbrev made : ℕ → Outcome
made n = step (table n) 0 plain (manages n).call

abbrev due : ℕ → Outcome
due n = outcome (Registered n) (table (suc n))

computed : listed made 32 ≡ listed due 32
unfolding bit bit_at within as_number pack write_run all least lowest_run or_one now_ms delay_ms never_purges keeps armed is_due arena_allowed page_size_sound new_arena reserved_arena managed_arena adopted_arena grown_arena find_run run_committed run_fresh take_run give_back_run commit_run dirty_run finish_grant tell_run pend_run release_run stamp_run sweep_due disarm young to_ask next_asked borrow_chunk unpend_chunk return_chunk rearm bytes_of end_of is_inside sound_range clear_past clear_past_all sound_arena empty meets overlaps bad_range find_arena apart sound_question sound_table sound_lent chunks_for too_large bytes_asked ask_memory reserve_reply bad_count no_whole_chunk grows reserve_of manage_of adopt_of eligible serves asks_commit grant_arena grant_reply miss_reply search_of claim_of release_of purge_reply swept_reply visit sweep_from is_for answer_of rules
computed = refl

-- ---- the history

abbrev pub filling : ℕ → History
filling zero = begin
filling (suc n) = next (filling n) (manages n)

abbrev asker : ℕ → ℕ
asker zero = 0
asker (suc n) = 9

abbrev asked : ℕ → Call
asked zero = start.asked
asked (suc n) = (manages n).call

abbrev pub filled : ℕ → Trail
filled n = record { world = table n; asker = asker n; asked = asked n }

-- whatever a layer joins
pub fills : (J : Joining) (n : ℕ) → n ≤ 32 → Before (joins_by J) (filling n) (filled n) (table n)
unfolding empty
fills J zero h = at-start (joins_by J)
fills J (suc n) h =
    let e : made n ≡ due n = each made due 32 computed n h in
    before-made (joins_by J) (filling n) (filled n) (table n) (fills J n (omega (arith, h))) (manages n) (due n) (due n)
    (record { sound = by-not-false _ (sym (row-1 (manages n)) ∙ ap (λ (o : Outcome). is_broken o.answer) e); by-rules = e; by-layer = e; passed = refl }) refl
  where
    by-not-false : (b : Bool) → not b ≡ false → b ≡ true
    by-not-false true e = refl
    by-not-false false e = absurd (true≢false e)
