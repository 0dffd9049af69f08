-- Wrong layers that keep a question open that the rules close, or put one that they do not, or tell a claim that waited another address. Assumes nothing.
use Rattle.std.specs.Prelude.{◌≡◌, ◌∷◌, ◌+◌, ◌*◌, ◌≤◌, ◌<◌}
use Rattle.layer.proofs.Prelude.{refl, sym, ap, ◌∙◌, true, false, true≢false, [], ℕ, arith, lit<, pos, negsuc, replicate, QuestionOpen, NoSuchQuestion, NotWhole, bit, bit_at, within, as_number, pack, write_run, all, least, lowest_run, or_one, now_ms, delay_ms, never_purges, keeps, armed, is_due, arena_allowed, page_size_sound, Arena, new_arena, reserved_arena, managed_arena, adopted_arena, grown_arena, find_run, run_committed, run_fresh, take_run, give_back_run, commit_run, dirty_run, finish_grant, tell_run, pend_run, release_run, stamp_run, sweep_due, disarm, young, to_ask, next_asked, borrow_chunk, unpend_chunk, return_chunk, rearm, bytes_of, end_of, is_inside, sound_range, clear_past, clear_past_all, sound_arena, World, Outcome, blank, state_with, world_of, outcome, empty, at, meets, overlaps, bad_range, find_arena, apart, sound_question, sound_table, sound_lent, chunks_for, too_large, bytes_asked, ask_memory, reserve_reply, bad_count, no_whole_chunk, grows, reserve_of, manage_of, adopt_of, eligible, serves, asks_commit, grant_arena, grant_reply, miss_reply, search_of, claim_of, release_of, purge_reply, swept_reply, visit, sweep_from, is_for, answer_of, reserve, manage, claim, owns, act, query, answer, rules, step, lowest, claims, refused, granted, enter, say_all, Marked, begin, is_sound, start, Place, in_range, OpensAt, book_of, Demand3}
use Rattle.layer.specs.declared.Settings.{Settings}
use Rattle.layer.specs.declared.Question.{Question}
use Rattle.layer.specs.declared.Question.TheVariants.{Idle, Committing, Reserving, GivingBack}
use Rattle.layer.specs.declared.Waiting.TheVariants.{Reserve, Claim}
use Rattle.layer.specs.declared.Unusable.TheVariants.{Count, Misaligned}
use Rattle.layer.specs.declared.Kind.TheVariants.{ForCommit, ForMemory, ForGiveBack}
use Rattle.layer.specs.declared.Ask.TheVariants.{AskCommit, AskMemory, AskGiveBack}
use Rattle.layer.specs.declared.Answer.TheVariants.{Refused, Asks, Registered, Claimed, Owns}
use Rattle.document_cases.specs.Example.{S, plain, row, by}
use Rattle.document_cases.proofs.Runs.{at-start, before-made, open_made, after-made, by-book, elsewhere-at, own-call, others-call}
use Rattle.wrong_layers.proofs.Ground.{stand, other, clash, own, clear, held, claims_on, arena, ground, opened, opens}
use Rattle.wrong_layers.specs.Wrong.{three_for_yes, gives_back_for_ever, nagging, raised, last_chunk, QuestionsFail}

-- ---- a query leaves a question open: program 7 then gets 2

-- the arena with a question open
abbrev asking : Question → World
asking q = world_of (own 0 ∷ replicate 31 blank) (replicate 32768 0) (state_with 1 false q)

abbrev looks : Marked
looks = by 9 clear 0 (query (owns 0))

-- ---- a give-back question never closes

abbrev reserves : Marked
reserves = by 9 clear 0 (act (reserve S false false false))

abbrev memory : Question
memory = Reserving 1 S false false Reserve

abbrev gives : Marked
gives = by 9 (asking memory) 0 (answer ForMemory true (3 * S + 1))

abbrev back : Question
back = GivingBack Misaligned Reserve

abbrev given_back : Marked
given_back = by 9 (asking back) 0 (answer ForGiveBack true 0)

-- ---- a yes about a shared arena gets 3: arena 0 is reserved at 2 S and shared, arena 1 is program 7's

abbrev lent : ℕ → ℕ → ℕ → Arena
lent used dirty committed =
    record {
      base = 2 * S;
      chunks = 1;
      exclusive = 0;
      owned = 1;
      node = negsuc 0;
      deadline = 0;
      used = row used;
      dirty = row dirty;
      committed = row committed;
      pending = row 0;
    }

abbrev asked : World
asked = world_of (replicate 32 blank) (replicate 32768 0) (state_with 0 false memory)

abbrev alone : World
alone = world_of (lent 0 0 0 ∷ replicate 31 blank) (replicate 32768 0) (state_with 1 false Idle)

abbrev both : Arena → ℕ → Question → World
both a used q = world_of (a ∷ own used ∷ replicate 30 blank) (replicate 32768 0) (state_with 2 false q)

abbrev first : Marked
first = by 9 empty 0 (act (reserve S false false false))

abbrev second : Marked
second = by 9 asked 0 (answer ForMemory true (2 * S))

abbrev third : Marked
third = by 9 alone 0 (act (manage S S true (negsuc 0) false true))

abbrev fourth : Marked
fourth = by 9 (both (lent 0 0 0) 0 Idle) 0 (act (claim (pos 0) 1 true))

abbrev waiting : World
waiting = both (lent 1 0 0) 0 (Committing 0 0 1)

abbrev fifth : Marked
fifth = by 9 waiting 0 (answer ForCommit true 0)

abbrev last : Marked
last = by 7 waiting 0 (act (claim (pos 1) 1 false))

abbrev next-door : Place
next-door = record { id = 1; size = S; base = S; chunks = 1; managed = true }

-- ---- a claim of two that waited: arena 0 at 3 S is program 7's, and the memory comes at S

abbrev reserving : Settings
reserving = record { delay = pos 0; decommits = false; off = false; reserve = 67108864; page = 4096 }

abbrev high : Arena
high = record { base = 3 * S; chunks = 1; exclusive = 1; owned = 0; node = negsuc 0; deadline = 0; used = row 0; dirty = row 1; committed = row 1; pending = row 0 }

abbrev below : Question → World
below q = world_of (high ∷ replicate 31 blank) (replicate 32768 0) (state_with 1 false q)

abbrev taken : World
taken = world_of (high ∷ record { base = S; chunks = 2; exclusive = 0; owned = 1; node = negsuc 0; deadline = 0; used = row 3; dirty = row 3; committed = row 0; pending = row 0 } ∷ replicate 30 blank) (replicate 32768 0) (state_with 2 false Idle)

abbrev manages_high : Marked
manages_high = by 9 empty 0 (act (manage (3 * S) S true (negsuc 0) false true))

abbrev misses : Marked
misses = record { who = 9; lent = below Idle; ns = 0; settings = reserving; call = act (claim (negsuc 0) 2 false) }

abbrev waits : Question
waits = Reserving 2 67108864 false false (Claim 2 false)

abbrev brings : Marked
brings = by 9 (below waits) 0 (answer ForMemory true S)

abbrev upper : Place
upper = record { id = 0; size = S; base = 3 * S; chunks = 1; managed = true }

-- ---- what the rules make of them

record Facts : Type 0 where
  sound-nagged : is_sound (claims_on (asking (GivingBack Count Reserve))) ≡ true
  looked : step clear 0 plain looks.call ≡ outcome (Owns false) clear
  nagged : step (asking (GivingBack Count Reserve)) 0 plain (claims_on clear).call ≡ outcome (Refused QuestionOpen) (asking (GivingBack Count Reserve))
  sound-memory : is_sound gives ≡ true
  sound_back : is_sound given_back ≡ true
  reserved : step clear 0 plain reserves.call ≡ outcome (Asks (AskMemory S S false false)) (asking memory)
  given : step (asking memory) 0 plain gives.call ≡ outcome (Asks (AskGiveBack (3 * S + 1) S)) (asking back)
  closed : step (asking back) 0 plain given_back.call ≡ outcome (Refused NotWhole) clear
  still_open : step (asking back) 0 plain (claims_on clear).call ≡ outcome (Refused QuestionOpen) (asking back)
  sound-first : is_sound first ≡ true
  sound-second : is_sound second ≡ true
  sound-third : is_sound third ≡ true
  sound-fourth : is_sound fourth ≡ true
  sound-fifth : is_sound fifth ≡ true
  one : step empty 0 plain first.call ≡ outcome (Asks (AskMemory S S false false)) asked
  two : step asked 0 plain second.call ≡ outcome (Registered 0) alone
  three : step alone 0 plain third.call ≡ outcome (Registered 1) (both (lent 0 0 0) 0 Idle)
  four : step (both (lent 0 0 0) 0 Idle) 0 plain fourth.call ≡ outcome (Asks (AskCommit (2 * S) S)) waiting
  five : step waiting 0 plain fifth.call ≡ outcome (Claimed (2 * S) true true) (both (lent 1 1 1) 0 Idle)
  six : step (both (lent 1 1 1) 0 Idle) 0 plain last.call ≡ outcome (Claimed S false true) (both (lent 1 1 1) 1 Idle)
  shut : step waiting 0 plain last.call ≡ outcome (Refused QuestionOpen) waiting
  says-next-door : say_all (book_of next-door) (claims lowest 1 ∷ []) ≡ granted S false ∷ []
  sound-below : is_sound misses ≡ true
  sound-waits : is_sound brings ≡ true
  registered-high : step empty 0 plain manages_high.call ≡ outcome (Registered 0) (below Idle)
  missed : step (below Idle) 0 reserving misses.call ≡ outcome (Asks (AskMemory 67108864 S false false)) (below waits)
  brought : step (below waits) 0 plain brings.call ≡ outcome (Claimed S true false) taken

facts : Facts
unfolding enter in_range bit bit_at within as_number pack write_run all least lowest_run or_one now_ms delay_ms never_purges keeps armed is_due arena_allowed page_size_sound new_arena reserved_arena managed_arena adopted_arena grown_arena find_run run_committed run_fresh take_run give_back_run commit_run dirty_run finish_grant tell_run pend_run release_run stamp_run sweep_due disarm young to_ask next_asked borrow_chunk unpend_chunk return_chunk rearm bytes_of end_of is_inside sound_range clear_past clear_past_all sound_arena empty meets overlaps bad_range find_arena apart sound_question sound_table sound_lent chunks_for too_large bytes_asked ask_memory reserve_reply bad_count no_whole_chunk grows reserve_of manage_of adopt_of eligible serves asks_commit grant_arena grant_reply miss_reply search_of claim_of release_of purge_reply swept_reply visit sweep_from is_for answer_of rules
facts = record {
  sound-nagged = refl;
  looked = refl;
  nagged = refl;
  sound-memory = refl;
  sound_back = refl;
  reserved = refl;
  given = refl;
  closed = refl;
  still_open = refl;
  sound-first = refl;
  sound-second = refl;
  sound-third = refl;
  sound-fourth = refl;
  sound-fifth = refl;
  one = refl;
  two = refl;
  three = refl;
  four = refl;
  five = refl;
  six = refl;
  shut = refl;
  says-next-door = refl;
  sound-below = refl;
  sound-waits = refl;
  registered-high = refl;
  missed = refl;
  brought = refl;
}

-- ---- each fails

nagging-one : Demand3 nagging → ⊥
unfolding in_range
nagging-one d =
    let nag = asking (GivingBack Count Reserve) in
    let r = opens nagging ground.registered in
    let v = after-made nagging 7 arena _ opened clear _ _ r looks (outcome (Owns false) clear) (outcome (Owns false) nag) [] []
    (record { sound = ground.sound-clear; by-rules = facts.looked; by-layer = ap (λ (o : Outcome). outcome o.answer nag) facts.looked; passed = refl }) refl (others-call 7 arena opened looks other refl refl) refl refl in
    let u = after-made nagging 7 arena _ (stand clear 9 looks) nag _ _ v (claims_on nag) (outcome (Claimed S false true) held) (outcome (Refused QuestionOpen) nag) (claims lowest 1 ∷ []) (refused 2 ∷ [])
    (record { sound = facts.sound-nagged; by-rules = ground.claimed; by-layer = facts.nagged; passed = refl }) refl (own-call 7 arena (stand clear 9 looks) (claims_on nag) refl refl refl) refl refl in
    let b = by-book nagging 7 arena _ (stand held 7 (claims_on nag)) nag _ _ u d in
    clash 2 S false b.0 [] (b.1 ∙ ground.says-one)

gives-back-for-ever : Demand3 gives_back_for_ever → ⊥
unfolding in_range is_for
gives-back-for-ever d =
    let L = gives_back_for_ever in
    let r = opens L ground.registered in
    let v₁ = after-made L 7 arena _ opened clear _ _ r reserves (outcome (Asks (AskMemory S S false false)) (asking memory)) (outcome (Asks (AskMemory S S false false)) (asking memory)) [] []
    (record { sound = ground.sound-clear; by-rules = facts.reserved; by-layer = facts.reserved; passed = refl }) refl (others-call 7 arena opened reserves other refl refl) refl refl in
    let v₂ = after-made L 7 arena _ (stand (asking memory) 9 reserves) (asking memory) _ _ v₁ gives (outcome (Asks (AskGiveBack (3 * S + 1) S)) (asking back)) (outcome (Asks (AskGiveBack (3 * S + 1) S)) (asking back)) [] []
    (record { sound = facts.sound-memory; by-rules = facts.given; by-layer = facts.given; passed = refl }) refl (others-call 7 arena (stand (asking memory) 9 reserves) gives other refl refl) refl refl in
    let v₃ = after-made L 7 arena _ (stand (asking back) 9 reserves) (asking back) _ _ v₂ given_back (outcome (Refused NotWhole) clear) (outcome (Refused NotWhole) (asking back)) [] []
    (record { sound = facts.sound_back; by-rules = facts.closed; by-layer = ap (λ (o : Outcome). outcome o.answer (asking back)) facts.closed; passed = refl }) refl (others-call 7 arena (stand (asking back) 9 reserves) given_back other refl refl) refl refl in
    let u = after-made L 7 arena _ (stand clear 9 reserves) (asking back) _ _ v₃ (claims_on (asking back)) (outcome (Claimed S false true) held) (outcome (Refused QuestionOpen) (asking back)) (claims lowest 1 ∷ []) (refused 2 ∷ [])
    (record { sound = facts.sound_back; by-rules = ground.claimed; by-layer = facts.still_open; passed = refl }) refl (own-call 7 arena (stand clear 9 reserves) (claims_on (asking back)) refl refl refl) refl refl in
    let b = by-book L 7 arena _ (stand held 7 (claims_on (asking back))) (asking back) _ _ u d in
    clash 2 S false b.0 [] (b.1 ∙ ground.says-one)

-- arena 1 is registered beside arena 0
beside : OpensAt (stand alone 9 first) third
beside = record {
  base = S;
  chunks = 1;
  managed = true;
  is-sound = facts.sound-third;
  registrable = record { some = omega arith; few = omega arith; whole = refl; somewhere = omega arith; ends = lit< tt; apart = λ i h x c lo hi. go i h x c lo hi; room = omega arith };
  registers = record { from = S; bytes = S; node = negsuc 0; is_call = refl; none_open = refl; some-start = omega arith; first = (omega arith, omega arith); last = (omega arith, omega arith); sum_fits = lit< tt };
}
  where
    go : (i : ℕ) → i < 1 → (x : ℕ) → ((at alone.records i).base ≤ x) × (x < (at alone.records i).base + (at alone.records i).chunks * S) → S ≤ x → x < S + 1 * S → ⊥
    go i h x c lo hi = let z : i ≡ 0 = omega arith in let b : (at alone.records i).base ≡ 67108864 = ap (λ (j : ℕ). (at alone.records j).base) z in omega (arith, c.0, b)

three-for-yes : Demand3 three_for_yes → ⊥
unfolding in_range is_for empty beside
three-for-yes d =
    let L = three_for_yes in
    let b₁ = before-made L begin start empty (at-start L) first (outcome (Asks (AskMemory S S false false)) asked) (outcome (Asks (AskMemory S S false false)) asked)
    (record { sound = facts.sound-first; by-rules = facts.one; by-layer = facts.one; passed = refl }) refl in
    let b₂ = before-made L _ (stand asked 9 first) asked b₁ second (outcome (Registered 0) alone) (outcome (Registered 0) alone)
    (record { sound = facts.sound-second; by-rules = facts.two; by-layer = facts.two; passed = refl }) refl in
    let r = open_made L 7 _ (stand alone 9 first) alone b₂ third (outcome (Registered 1) (both (lent 0 0 0) 0 Idle)) (outcome (Registered 1) (both (lent 0 0 0) 0 Idle)) beside
    (record { sound = facts.sound-third; by-rules = facts.three; by-layer = facts.three; passed = refl }) refl in
    let v₁ = after-made L 7 next-door _ (stand (both (lent 0 0 0) 0 Idle) 9 third) (both (lent 0 0 0) 0 Idle) _ _ r fourth (outcome (Asks (AskCommit (2 * S) S)) waiting) (outcome (Asks (AskCommit (2 * S) S)) waiting) [] []
    (record { sound = facts.sound-fourth; by-rules = facts.four; by-layer = facts.four; passed = refl }) refl (others-call 7 next-door (stand (both (lent 0 0 0) 0 Idle) 9 third) fourth other refl refl) refl refl in
    let v₂ = after-made L 7 next-door _ (stand waiting 9 fourth) waiting _ _ v₁ fifth (outcome (Claimed (2 * S) true true) (both (lent 1 1 1) 0 Idle)) (outcome (Refused NoSuchQuestion) waiting) [] []
    (record { sound = facts.sound-fifth; by-rules = facts.five; by-layer = refl; passed = refl }) refl (others-call 7 next-door (stand waiting 9 fourth) fifth other refl refl) refl refl in
    let u = after-made L 7 next-door _ (stand (both (lent 1 1 1) 0 Idle) 9 fourth) waiting _ _ v₂ last (outcome (Claimed S false true) (both (lent 1 1 1) 1 Idle)) (outcome (Refused QuestionOpen) waiting) (claims lowest 1 ∷ []) (refused 2 ∷ [])
    (record { sound = facts.sound-fifth; by-rules = facts.six; by-layer = facts.shut; passed = refl }) refl (own-call 7 next-door (stand (both (lent 1 1 1) 0 Idle) 9 fourth) last refl refl refl) refl refl in
    let b = by-book L 7 next-door _ (stand (both (lent 1 1 1) 1 Idle) 7 last) waiting _ _ u d in
    clash 2 S false b.0 [] (b.1 ∙ facts.says-next-door)

high-opens : OpensAt start manages_high
unfolding empty
high-opens = record {
  base = 3 * S;
  chunks = 1;
  managed = true;
  is-sound = ground.sound_empty;
  registrable = record { some = omega arith; few = omega arith; whole = refl; somewhere = omega arith; ends = lit< tt; apart = λ i h. absurd (omega arith); room = omega arith };
  registers = record { from = 3 * S; bytes = S; node = negsuc 0; is_call = refl; none_open = refl; some-start = omega arith; first = (omega arith, omega arith); last = (omega arith, omega arith); sum_fits = lit< tt };
}

-- told the second chunk's address, the claim's two chunks reach into the arena above
last-chunk : Demand3 last_chunk → ⊥
unfolding in_range is_for empty high-opens
last-chunk d =
    let L = last_chunk in
    let r = open_made L 7 begin start empty (at-start L) manages_high (outcome (Registered 0) (below Idle)) (outcome (Registered 0) (below Idle)) high-opens
    (record { sound = ground.sound_empty; by-rules = facts.registered-high; by-layer = facts.registered-high; passed = refl }) refl in
    let v = after-made L 7 upper _ (stand (below Idle) 9 manages_high) (below Idle) _ _ r misses (outcome (Asks (AskMemory 67108864 S false false)) (below waits)) (outcome (Asks (AskMemory 67108864 S false false)) (below waits)) [] []
    (record { sound = facts.sound-below; by-rules = facts.missed; by-layer = facts.missed; passed = refl }) refl (others-call 7 upper (stand (below Idle) 9 manages_high) misses other refl refl) refl refl in
    let away : false ≡ true = sym (elsewhere-at L 7 upper _ (stand (below waits) 9 misses) (below waits) _ _ v brings (outcome (Claimed S true false) taken) (outcome (Claimed (S + S) true false) taken)
    (record { sound = facts.sound-waits; by-rules = facts.brought; by-layer = ap (λ (o : Outcome). outcome (raised S o.answer) o.world) facts.brought; passed = refl }) refl
    (others-call 7 upper (stand (below waits) 9 misses) brings other refl refl facts.sound-waits) d other (S + S) true false refl (3 * S) (omega arith) (omega arith)) in
    true≢false (sym away)

pub questions-fail : QuestionsFail
questions-fail = record { three-for-yes = three-for-yes; gives-back-for-ever = gives-back-for-ever; nagging-one = nagging-one; last-chunk = last-chunk }
