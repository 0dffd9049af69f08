-- Wrong layers that demand 2 alone rules out: each differs from the rules on one call. Assumes nothing.
use Rattle.std.specs.Prelude.{◌≡◌, ◌∷◌, ◌+◌}
use Rattle.layer.proofs.Prelude.{refl, sym, ap, ◌∙◌, true, false, List, [], ℕ, arith, pos, negsuc, replicate, set, bit, bit_at, within, as_number, pack, write_run, all, least, lowest_run, or_one, now_ms, delay_ms, never_purges, keeps, armed, is_due, arena_allowed, page_size_sound, Arena, no_bits, new_arena, reserved_arena, managed_arena, adopted_arena, grown_arena, find_run, run_committed, run_fresh, take_run, give_back_run, commit_run, dirty_run, finish_grant, tell_run, pend_run, release_run, stamp_run, sweep_due, disarm, young, to_ask, next_asked, borrow_chunk, unpend_chunk, return_chunk, rearm, bytes_of, end_of, is_inside, sound_range, clear_past, clear_past_all, sound_arena, World, Outcome, blank, state_with, world_of, outcome, empty, at, meets, overlaps, bad_range, find_arena, apart, sound_question, sound_table, sound_lent, chunks_for, too_large, bytes_asked, ask_memory, reserve_reply, bad_count, no_whole_chunk, grows, reserve_of, manage_of, adopt_of, eligible, serves, asks_commit, grant_arena, grant_reply, miss_reply, search_of, claim_of, release_of, purge_reply, swept_reply, visit, sweep_from, is_for, answer_of, claim, sweep, Call, act, answer, rules, step, enter, in_range}
use Rattle.arena.specs.Record.{with_pending}
use Rattle.layer.specs.declared.Settings.{Settings}
use Rattle.layer.specs.declared.Question.{Question}
use Rattle.layer.specs.declared.Question.TheVariants.{Idle, Committing, Purging}
use Rattle.layer.specs.declared.Kind.TheVariants.{ForPurge}
use Rattle.layer.specs.declared.Ask.TheVariants.{AskCommit, AskPurge}
use Rattle.layer.specs.declared.Answer.TheVariants.{Asks, Swept}
use Rattle.document_cases.specs.Example.{S, plain, row}
use Rattle.wrong_layers.specs.Wrong.{dirtied, dirty_before_yes, one_more, invents_count, asks_once, clears_pending, SweepsFail}

-- ---- an arena of two chunks, and what is called there

abbrev one : ℕ → ℕ → ℕ → ℕ → Arena
one used dirty pending deadline = record { base = S; chunks = 2; exclusive = 0; owned = 1; node = negsuc 0; deadline = deadline; used = row used; dirty = row dirty; committed = row 0; pending = row pending }

abbrev world : Arena → Question → World
world a q = world_of (a ∷ replicate 31 blank) (replicate 32768 0) (state_with 1 false q)

abbrev sweeping : Question
sweeping = Purging 0 0 (record { force = true; now = 1; delay = 0; decommit = false; purged = 0 })

record Facts : Type 0 where
  claimed : step (world (one 0 0 0 0) Idle) 0 plain (act (claim (pos 0) 1 true)) ≡ outcome (Asks (AskCommit S S)) (world (one 1 0 0 0) (Committing 0 0 1))
  dirtied-row : (dirty_run (one 1 0 0 0) 0 1).dirty ≡ row 1
  swept : step empty 0 plain (act (sweep true)) ≡ outcome (Swept 0) empty
  asked-again : (step (world (one 1 0 3 0) sweeping) 0 plain (answer ForPurge true 0)).answer ≡ Asks (AskPurge (S + S) S false)
  passed_over : step (world (one 3 0 1 1) Idle) 0 plain (act (sweep true)) ≡ outcome (Swept 0) (world (one 3 0 1 0) Idle)

facts : Facts
unfolding enter in_range bit bit_at within as_number pack write_run all least lowest_run or_one now_ms delay_ms never_purges keeps armed is_due arena_allowed page_size_sound new_arena reserved_arena managed_arena adopted_arena grown_arena find_run run_committed run_fresh take_run give_back_run commit_run dirty_run finish_grant tell_run pend_run release_run stamp_run sweep_due disarm young to_ask next_asked borrow_chunk unpend_chunk return_chunk rearm bytes_of end_of is_inside sound_range clear_past clear_past_all sound_arena empty meets overlaps bad_range find_arena apart sound_question sound_table sound_lent chunks_for too_large bytes_asked ask_memory reserve_reply bad_count no_whole_chunk grows reserve_of manage_of adopt_of eligible serves asks_commit grant_arena grant_reply miss_reply search_of claim_of release_of purge_reply swept_reply visit sweep_from is_for answer_of rules
facts = record { claimed = refl; dirtied-row = refl; swept = refl; asked-again = refl; passed_over = refl }

-- the first word of a map
abbrev word : List ℕ → ℕ
word [] = 0
word (w ∷ ws) = w

dirty-before-yes : ((w : World) (ns : ℕ) (settings : Settings) (c : Call) → dirty_before_yes.does w ns settings c ≡ step w ns settings c) → ⊥
dirty-before-yes same =
    let e : ◌≡◌ {A = ℕ} (word (dirty_run (one 1 0 0 0) 0 1).dirty) 0 =
    sym (ap (λ (o : Outcome). word (at (dirtied o.world.records o.world.state.question) 0).dirty) facts.claimed)
    ∙ ap (λ (o : Outcome). word (at o.world.records 0).dirty) (same (world (one 0 0 0 0) Idle) 0 plain (act (claim (pos 0) 1 true)) ∙ facts.claimed) in
    let z : ◌≡◌ {A = ℕ} 1 0 = sym (ap word facts.dirtied-row) ∙ e in
    omega (arith, z)

invents-count : ((w : World) (ns : ℕ) (settings : Settings) (c : Call) → invents_count.does w ns settings c ≡ step w ns settings c) → ⊥
invents-count same =
    let e : Swept 1 ≡ Swept 0 = sym (ap (λ (o : Outcome). one_more o.answer) facts.swept) ∙ ap (λ (o : Outcome). o.answer) (same empty 0 plain (act (sweep true)) ∙ facts.swept) in
    let z : ◌≡◌ {A = ℕ} 1 0 = cc in
    omega (arith, z)

asks-once : ((w : World) (ns : ℕ) (settings : Settings) (c : Call) → asks_once.does w ns settings c ≡ step w ns settings c) → ⊥
asks-once same =
    let e : Swept 2 ≡ Asks (AskPurge (S + S) S false) = ap (λ (o : Outcome). o.answer) (same (world (one 1 0 3 0) sweeping) 0 plain (answer ForPurge true 0)) ∙ facts.asked-again in
    let z : ◌≡◌ {A = ℕ} 0 1 = cc in
    omega arith

clears-pending : ((w : World) (ns : ℕ) (settings : Settings) (c : Call) → clears_pending.does w ns settings c ≡ step w ns settings c) → ⊥
clears-pending same =
    let e : ◌≡◌ {A = ℕ} 0 1 =
    sym (ap (λ (o : Outcome). word (at (set o.world.records 0 (with_pending (at o.world.records 0) no_bits)) 0).pending) facts.passed_over)
    ∙ ap (λ (o : Outcome). word (at o.world.records 0).pending) (same (world (one 3 0 1 1) Idle) 0 plain (act (sweep true)) ∙ facts.passed_over) in
    omega (arith, e)

pub sweeps-fail : SweepsFail
sweeps-fail = record { dirty-before-yes = dirty-before-yes; invents-count = invents-count; asks-once = asks-once; clears-pending = clears-pending }
