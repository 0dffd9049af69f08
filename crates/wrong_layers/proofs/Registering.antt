-- Wrong layers that turn an exclusive arena down which Registering's rules register: program 7's claim there then gets 10. Assumes nothing.
use Rattle.std.specs.Prelude.{◌≡◌, ◌∷◌, ◌++◌, ◌+◌, ◌*◌, ◌≤◌, ◌<◌}
use Rattle.layer.proofs.Prelude.{refl, sym, ap, ◌∙◌, true, false, true≢false, List, [], ℕ, arith, lit<, pos, negsuc, replicate, Range, NoRun, ChunkCount, TableFull, bit, bit_at, within, as_number, pack, write_run, all, least, lowest_run, or_one, now_ms, delay_ms, never_purges, keeps, armed, is_due, arena_allowed, page_size_sound, Arena, new_arena, reserved_arena, managed_arena, adopted_arena, grown_arena, find_run, run_committed, run_fresh, take_run, give_back_run, commit_run, dirty_run, finish_grant, tell_run, pend_run, release_run, stamp_run, sweep_due, disarm, young, to_ask, next_asked, borrow_chunk, unpend_chunk, return_chunk, rearm, bytes_of, end_of, is_inside, sound_range, clear_past, clear_past_all, sound_arena, World, Outcome, blank, state_with, world_of, outcome, empty, at, meets, overlaps, bad_range, find_arena, apart, sound_question, sound_table, sound_lent, sound, chunks_for, too_large, bytes_asked, ask_memory, reserve_reply, bad_count, no_whole_chunk, grows, reserve_of, manage_of, adopt_of, eligible, serves, asks_commit, grant_arena, grant_reply, miss_reply, search_of, claim_of, release_of, purge_reply, swept_reply, visit, sweep_from, is_for, answer_of, reserve, manage, claim, owns, act, query, answer, rules, step, lowest, claims, refused, granted, enter, say_all, Marked, begin, next, is_sound, start, Place, in_range, OpensAt, book_of, Demand3}
use Rattle.layer.specs.declared.Question.TheVariants.{Idle, Reserving}
use Rattle.layer.specs.declared.Ask.TheVariants.{AskMemory}
use Rattle.layer.specs.declared.Waiting.TheVariants.{Reserve}
use Rattle.layer.specs.declared.Kind.TheVariants.{ForMemory}
use Rattle.layer.specs.declared.Answer.{Answer}
use Rattle.layer.specs.declared.Answer.TheVariants.{Refused, Asks, Registered, Claimed, Owns}
use Rattle.document_cases.specs.Example.{S, plain, row, by}
use Rattle.document_cases.proofs.Runs.{Before, at-start, before-made, open_made, after-made, by-book, own-call}
use Rattle.wrong_layers.proofs.Ground.{stand, clash, ground}
use Rattle.wrong_layers.specs.Wrong.{small_only, low_only, full_at_one, dummies, fills_the_table, none_reserved, breaks_its_table, RegisteringFails}

-- ---- 513 chunks at S; one chunk at 2^42; one chunk at 3 S beside a shared arena at S

abbrev most : List ℕ
most = replicate 16 4294967295 ++ 1 ∷ replicate 15 0

abbrev large : ℕ → World
large used = world_of (record { base = S; chunks = 513; exclusive = 1; owned = 0; node = negsuc 0; deadline = 0; used = row used; dirty = most; committed = most; pending = row 0 } ∷ replicate 31 blank) (replicate 32768 0) (state_with 1 false Idle)

abbrev far : ℕ → World
far used = world_of (record { base = 4398046511104; chunks = 1; exclusive = 1; owned = 0; node = negsuc 0; deadline = 0; used = row used; dirty = row 1; committed = row 1; pending = row 0 } ∷ replicate 31 blank) (replicate 32768 0) (state_with 1 false Idle)

abbrev shared : Arena
shared = record { base = S; chunks = 1; exclusive = 0; owned = 0; node = negsuc 0; deadline = 0; used = row 0; dirty = row 1; committed = row 1; pending = row 0 }

abbrev alone : World
alone = world_of (shared ∷ replicate 31 blank) (replicate 32768 0) (state_with 1 false Idle)

abbrev both : ℕ → World
both used = world_of (shared ∷ record { base = 3 * S; chunks = 1; exclusive = 1; owned = 0; node = negsuc 0; deadline = 0; used = row used; dirty = row 1; committed = row 1; pending = row 0 } ∷ replicate 30 blank) (replicate 32768 0) (state_with 2 false Idle)

abbrev manages_large : Marked
manages_large = by 9 empty 0 (act (manage S (513 * S) true (negsuc 0) false true))

abbrev manages_far : Marked
manages_far = by 9 empty 0 (act (manage 4398046511104 S true (negsuc 0) false true))

abbrev shares_one : Marked
shares_one = by 9 empty 0 (act (manage S S false (negsuc 0) false true))

abbrev manages_next : Marked
manages_next = by 9 alone 0 (act (manage (3 * S) S true (negsuc 0) false true))

abbrev claims_at : ℕ → World → Marked
claims_at id w = by 7 w 0 (act (claim (pos id) 1 false))

abbrev at-large : Place
at-large = record { id = 0; size = S; base = S; chunks = 513; managed = true }

abbrev at-far : Place
at-far = record { id = 0; size = S; base = 4398046511104; chunks = 1; managed = true }

abbrev at_next : Place
at_next = record { id = 1; size = S; base = 3 * S; chunks = 1; managed = true }

record Facts : Type 0 where
  large-registered : step empty 0 plain manages_large.call ≡ outcome (Registered 0) (large 0)
  large-claimed : step (large 0) 0 plain (claims_at 0 empty).call ≡ outcome (Claimed S false true) (large 1)
  large-says : say_all (book_of at-large) (claims lowest 1 ∷ []) ≡ granted S false ∷ []
  far-registered : step empty 0 plain manages_far.call ≡ outcome (Registered 0) (far 0)
  far-claimed : step (far 0) 0 plain (claims_at 0 empty).call ≡ outcome (Claimed 4398046511104 false true) (far 1)
  far-says : say_all (book_of at-far) (claims lowest 1 ∷ []) ≡ granted 4398046511104 false ∷ []
  none-there : step empty 0 plain (claims_at 0 empty).call ≡ outcome (Refused NoRun) empty
  sound-alone : is_sound manages_next ≡ true
  shared-registered : step empty 0 plain shares_one.call ≡ outcome (Registered 0) alone
  next-registered : step alone 0 plain manages_next.call ≡ outcome (Registered 1) (both 0)
  next-claimed : step (both 0) 0 plain (claims_at 1 alone).call ≡ outcome (Claimed (3 * S) false true) (both 1)
  none-next : step alone 0 plain (claims_at 1 alone).call ≡ outcome (Refused NoRun) alone
  next-says : say_all (book_of at_next) (claims lowest 1 ∷ []) ≡ granted (3 * S) false ∷ []

facts : Facts
unfolding enter in_range bit bit_at within as_number pack write_run all least lowest_run or_one now_ms delay_ms never_purges keeps armed is_due arena_allowed page_size_sound new_arena reserved_arena managed_arena adopted_arena grown_arena find_run run_committed run_fresh take_run give_back_run commit_run dirty_run finish_grant tell_run pend_run release_run stamp_run sweep_due disarm young to_ask next_asked borrow_chunk unpend_chunk return_chunk rearm bytes_of end_of is_inside sound_range clear_past clear_past_all sound_arena empty meets overlaps bad_range find_arena apart sound_question sound_table sound_lent chunks_for too_large bytes_asked ask_memory reserve_reply bad_count no_whole_chunk grows reserve_of manage_of adopt_of eligible serves asks_commit grant_arena grant_reply miss_reply search_of claim_of release_of purge_reply swept_reply visit sweep_from is_for answer_of rules
facts = record {
  large-registered = refl;
  large-claimed = refl;
  large-says = refl;
  far-registered = refl;
  far-claimed = refl;
  far-says = refl;
  none-there = refl;
  sound-alone = refl;
  shared-registered = refl;
  next-registered = refl;
  next-claimed = refl;
  none-next = refl;
  next-says = refl;
}

-- ---- each fails

large-opens : OpensAt start manages_large
unfolding empty
large-opens = record {
  base = S;
  chunks = 513;
  managed = true;
  is-sound = ground.sound_empty;
  registrable = record { some = omega arith; few = omega arith; whole = refl; somewhere = omega arith; ends = lit< tt; apart = λ i h. absurd (omega arith); room = omega arith };
  registers = record { from = S; bytes = 513 * S; node = negsuc 0; is_call = refl; none_open = refl; some-start = omega arith; first = (omega arith, omega arith); last = (omega arith, omega arith); sum_fits = lit< tt };
}

small-only : Demand3 small_only → ⊥
unfolding in_range empty large-opens
small-only d =
    let L = small_only in
    let r = open_made L 7 begin start empty (at-start L) manages_large (outcome (Registered 0) (large 0)) (outcome (Refused ChunkCount) empty) large-opens
    (record { sound = ground.sound_empty; by-rules = facts.large-registered; by-layer = refl; passed = refl }) refl in
    let u = after-made L 7 at-large _ (stand (large 0) 9 manages_large) empty _ _ r (claims_at 0 empty) (outcome (Claimed S false true) (large 1)) (outcome (Refused NoRun) empty) (claims lowest 1 ∷ []) (refused 10 ∷ [])
    (record { sound = ground.sound_empty; by-rules = facts.large-claimed; by-layer = facts.none-there; passed = refl }) refl (own-call 7 at-large (stand (large 0) 9 manages_large) (claims_at 0 empty) refl refl refl) refl refl in
    let b = by-book L 7 at-large _ (stand (large 1) 7 (claims_at 0 empty)) empty _ _ u d in
    clash 10 S false b.0 [] (b.1 ∙ facts.large-says)

far-opens : OpensAt start manages_far
unfolding empty
far-opens = record {
  base = 4398046511104;
  chunks = 1;
  managed = true;
  is-sound = ground.sound_empty;
  registrable = record { some = omega arith; few = omega arith; whole = refl; somewhere = omega arith; ends = lit< tt; apart = λ i h. absurd (omega arith); room = omega arith };
  registers = record { from = 4398046511104; bytes = S; node = negsuc 0; is_call = refl; none_open = refl; some-start = omega arith; first = (omega arith, omega arith); last = (omega arith, omega arith); sum_fits = lit< tt };
}

low-only : Demand3 low_only → ⊥
unfolding in_range empty far-opens
low-only d =
    let L = low_only in
    let r = open_made L 7 begin start empty (at-start L) manages_far (outcome (Registered 0) (far 0)) (outcome (Refused Range) empty) far-opens
    (record { sound = ground.sound_empty; by-rules = facts.far-registered; by-layer = refl; passed = refl }) refl in
    let u = after-made L 7 at-far _ (stand (far 0) 9 manages_far) empty _ _ r (claims_at 0 empty) (outcome (Claimed 4398046511104 false true) (far 1)) (outcome (Refused NoRun) empty) (claims lowest 1 ∷ []) (refused 10 ∷ [])
    (record { sound = ground.sound_empty; by-rules = facts.far-claimed; by-layer = facts.none-there; passed = refl }) refl (own-call 7 at-far (stand (far 0) 9 manages_far) (claims_at 0 empty) refl refl refl) refl refl in
    let b = by-book L 7 at-far _ (stand (far 1) 7 (claims_at 0 empty)) empty _ _ u d in
    clash 10 4398046511104 false b.0 [] (b.1 ∙ facts.far-says)

next-opens : OpensAt (stand alone 9 shares_one) manages_next
next-opens = record {
  base = 3 * S;
  chunks = 1;
  managed = true;
  is-sound = facts.sound-alone;
  registrable = record { some = omega arith; few = omega arith; whole = refl; somewhere = omega arith; ends = lit< tt; apart = λ i h x c lo hi. apart-there i h x c lo hi; room = omega arith };
  registers = record { from = 3 * S; bytes = S; node = negsuc 0; is_call = refl; none_open = refl; some-start = omega arith; first = (omega arith, omega arith); last = (omega arith, omega arith); sum_fits = lit< tt };
}
  where
    apart-there : (i : ℕ) → i < 1 → (x : ℕ) → ((at alone.records i).base ≤ x) × (x < (at alone.records i).base + (at alone.records i).chunks * S) → 3 * S ≤ x → x < 3 * S + 1 * S → ⊥
    apart-there i h x c lo hi =
        let z : i ≡ 0 = omega arith in
        let b : (at alone.records i).base + (at alone.records i).chunks * S ≡ 67108864 = ap (λ (j : ℕ). (at alone.records j).base + (at alone.records j).chunks * S) z in
        omega (arith, c.1, b)

full-at-one : Demand3 full_at_one → ⊥
unfolding in_range empty next-opens
full-at-one d =
    let L = full_at_one in
    let b₁ = before-made L begin start empty (at-start L) shares_one (outcome (Registered 0) alone) (outcome (Registered 0) alone)
    (record { sound = ground.sound_empty; by-rules = facts.shared-registered; by-layer = facts.shared-registered; passed = refl }) refl in
    let r = open_made L 7 _ (stand alone 9 shares_one) alone b₁ manages_next (outcome (Registered 1) (both 0)) (outcome (Refused TableFull) alone) next-opens
    (record { sound = facts.sound-alone; by-rules = facts.next-registered; by-layer = refl; passed = refl }) refl in
    let u = after-made L 7 at_next _ (stand (both 0) 9 manages_next) alone _ _ r (claims_at 1 alone) (outcome (Claimed (3 * S) false true) (both 1)) (outcome (Refused NoRun) alone) (claims lowest 1 ∷ []) (refused 10 ∷ [])
    (record { sound = facts.sound-alone; by-rules = facts.next-claimed; by-layer = facts.none-next; passed = refl }) refl (own-call 7 at_next (stand (both 0) 9 manages_next) (claims_at 1 alone) refl refl refl) refl refl in
    let b = by-book L 7 at_next _ (stand (both 1) 7 (claims_at 1 alone)) alone _ _ u d in
    clash 10 (3 * S) false b.0 [] (b.1 ∙ facts.next-says)

-- ---- a table that a query filled

abbrev filled : World
filled = world_of (dummies 32 1) (replicate 32768 0) (state_with 32 false Idle)

abbrev looks : Marked
looks = by 9 empty 0 (query (owns 0))

abbrev manages_then : Marked
manages_then = by 9 filled 0 (act (manage 4398046511104 S true (negsuc 0) false true))

record Filled : Type 0 where
  looked : step empty 0 plain looks.call ≡ outcome (Owns false) empty
  sound-filled : is_sound manages_then ≡ true
  thirteen : step filled 0 plain manages_then.call ≡ outcome (Refused TableFull) filled
  elsewhere : (step filled 0 plain (claims_at 0 filled).call).answer ≡ Claimed S true false

filled-facts : Filled
unfolding enter in_range bit bit_at within as_number pack write_run all least lowest_run or_one now_ms delay_ms never_purges keeps armed is_due arena_allowed page_size_sound new_arena reserved_arena managed_arena adopted_arena grown_arena find_run run_committed run_fresh take_run give_back_run commit_run dirty_run finish_grant tell_run pend_run release_run stamp_run sweep_due disarm young to_ask next_asked borrow_chunk unpend_chunk return_chunk rearm bytes_of end_of is_inside sound_range clear_past clear_past_all sound_arena empty meets overlaps bad_range find_arena apart sound_question sound_table sound_lent chunks_for too_large bytes_asked ask_memory reserve_reply bad_count no_whole_chunk grows reserve_of manage_of adopt_of eligible serves asks_commit grant_arena grant_reply miss_reply search_of claim_of release_of purge_reply swept_reply visit sweep_from is_for answer_of rules
filled-facts = record { looked = refl; sound-filled = refl; thirteen = refl; elsewhere = refl }

then-opens : OpensAt (stand empty 9 looks) manages_then
unfolding empty
then-opens = record {
  base = 4398046511104;
  chunks = 1;
  managed = true;
  is-sound = filled-facts.sound-filled;
  registrable = record { some = omega arith; few = omega arith; whole = refl; somewhere = omega arith; ends = lit< tt; apart = λ i h. absurd (omega arith); room = omega arith };
  registers = record { from = 4398046511104; bytes = S; node = negsuc 0; is_call = refl; none_open = refl; some-start = omega arith; first = (omega arith, omega arith); last = (omega arith, omega arith); sum_fits = lit< tt };
}

-- the id that the rules gave is a dummy's: another address is told
fills-the-table : Demand3 fills_the_table → ⊥
unfolding in_range empty then-opens
fills-the-table d =
    let L = fills_the_table in
    let o : Outcome = step filled 0 plain (claims_at 0 filled).call in
    let b₁ = before-made L begin start empty (at-start L) looks (outcome (Owns false) empty) (outcome (Owns false) filled)
    (record { sound = ground.sound_empty; by-rules = filled-facts.looked; by-layer = ap (λ (z : Outcome). outcome z.answer filled) filled-facts.looked; passed = refl }) refl in
    let r = open_made L 7 _ (stand empty 9 looks) filled b₁ manages_then (outcome (Registered 0) (far 0)) (outcome (Refused TableFull) filled) then-opens
    (record { sound = filled-facts.sound-filled; by-rules = facts.far-registered; by-layer = filled-facts.thirteen; passed = refl }) refl in
    let u = after-made L 7 at-far _ (stand (far 0) 9 manages_then) filled _ _ r (claims_at 0 filled) (outcome (Claimed 4398046511104 false true) (far 1)) (outcome (Claimed S true false) o.world) (claims lowest 1 ∷ []) (granted S true ∷ [])
    (record { sound = filled-facts.sound-filled; by-rules = facts.far-claimed; by-layer = ap (λ (x : Answer). outcome x o.world) filled-facts.elsewhere; passed = refl }) refl (own-call 7 at-far (stand (far 0) 9 manages_then) (claims_at 0 filled) refl refl refl) refl refl in
    let b = by-book L 7 at-far _ (stand (far 1) 7 (claims_at 0 filled)) o.world _ _ u d in
    let e : granted S true ∷ b.0 ≡ granted 4398046511104 false ∷ [] = b.1 ∙ facts.far-says in
    let z : ◌≡◌ {A = ℕ} S 4398046511104 = cc in
    omega (arith, z)

-- ---- memory for an exclusive arena

abbrev reserved : ℕ → ℕ → World
reserved used dirty =
    world_of (record { base = S; chunks = 1; exclusive = 1; owned = 1; node = negsuc 0; deadline = 0; used = row used; dirty = row dirty; committed = row 0; pending = row 0 } ∷ replicate 31 blank)
    (replicate 32768 0) (state_with 1 false Idle)

abbrev waiting : World
waiting = world_of (replicate 32 blank) (replicate 32768 0) (state_with 0 false (Reserving 1 S false true Reserve))

abbrev asks : Marked
asks = by 9 empty 0 (act (reserve S false false true))

abbrev brings : Marked
brings = by 9 waiting 0 (answer ForMemory true S)

abbrev at-reserved : Place
at-reserved = record { id = 0; size = S; base = S; chunks = 1; managed = false }

record Asked : Type 0 where
  asked : step empty 0 plain asks.call ≡ outcome (Asks (AskMemory S S false false)) waiting
  sound-waiting : is_sound brings ≡ true
  brought : step waiting 0 plain brings.call ≡ outcome (Registered 0) (reserved 0 0)
  reserved-claimed : step (reserved 0 0) 0 plain (claims_at 0 empty).call ≡ outcome (Claimed S true false) (reserved 1 1)
  reserved-says : say_all (book_of at-reserved) (claims lowest 1 ∷ []) ≡ granted S true ∷ []

asked-facts : Asked
unfolding enter in_range bit bit_at within as_number pack write_run all least lowest_run or_one now_ms delay_ms never_purges keeps armed is_due arena_allowed page_size_sound new_arena reserved_arena managed_arena adopted_arena grown_arena find_run run_committed run_fresh take_run give_back_run commit_run dirty_run finish_grant tell_run pend_run release_run stamp_run sweep_due disarm young to_ask next_asked borrow_chunk unpend_chunk return_chunk rearm bytes_of end_of is_inside sound_range clear_past clear_past_all sound_arena empty meets overlaps bad_range find_arena apart sound_question sound_table sound_lent chunks_for too_large bytes_asked ask_memory reserve_reply bad_count no_whole_chunk grows reserve_of manage_of adopt_of eligible serves asks_commit grant_arena grant_reply miss_reply search_of claim_of release_of purge_reply swept_reply visit sweep_from is_for answer_of rules
asked-facts = record { asked = refl; sound-waiting = refl; brought = refl; reserved-claimed = refl; reserved-says = refl }

reserved-opens : OpensAt (stand waiting 9 asks) brings
unfolding is_for
reserved-opens = record {
  base = S;
  chunks = 1;
  managed = false;
  is-sound = asked-facts.sound-waiting;
  registrable = record { some = omega arith; few = omega arith; whole = refl; somewhere = omega arith; ends = lit< tt; apart = λ i h. absurd (omega arith); room = omega arith };
  registers = record { bytes = S; commit = false; large = false; is_call = refl; memory-open = refl; asked_by = refl; rounds = (omega arith, omega arith) };
}

none-reserved : Demand3 none_reserved → ⊥
unfolding in_range empty is_for reserved-opens
none-reserved d =
    let L = none_reserved in
    let b₁ = before-made L begin start empty (at-start L) asks (outcome (Asks (AskMemory S S false false)) waiting) (outcome (Asks (AskMemory S S false false)) waiting)
    (record { sound = ground.sound_empty; by-rules = asked-facts.asked; by-layer = asked-facts.asked; passed = refl }) refl in
    let r = open_made L 7 _ (stand waiting 9 asks) waiting b₁ brings (outcome (Registered 0) (reserved 0 0)) (outcome (Refused TableFull) empty) reserved-opens
    (record { sound = asked-facts.sound-waiting; by-rules = asked-facts.brought; by-layer = refl; passed = refl }) refl in
    let u = after-made L 7 at-reserved _ (stand (reserved 0 0) 9 asks) empty _ _ r (claims_at 0 empty) (outcome (Claimed S true false) (reserved 1 1)) (outcome (Refused NoRun) empty) (claims lowest 1 ∷ []) (refused 10 ∷ [])
    (record { sound = ground.sound_empty; by-rules = asked-facts.reserved-claimed; by-layer = facts.none-there; passed = refl }) refl (own-call 7 at-reserved (stand (reserved 0 0) 9 asks) (claims_at 0 empty) refl refl refl) refl refl in
    let b = by-book L 7 at-reserved _ (stand (reserved 1 1) 7 (claims_at 0 empty)) empty _ _ u d in
    clash 10 S true b.0 [] (b.1 ∙ asked-facts.reserved-says)

-- ---- a table of 33 arenas

abbrev broken : World
broken = world_of (replicate 32 blank) (replicate 32768 0) (state_with 33 false Idle)

broken-is : sound S broken 4096 ≡ false
unfolding page_size_sound sound_lent sound_table
broken-is = refl

breaks-its-table : Demand3 breaks_its_table → ⊥
unfolding empty page_size_sound
breaks-its-table d =
    let L = breaks_its_table in
    let b : Before L (next begin looks) (stand empty 9 looks) broken = before-made L begin start empty (at-start L) looks (outcome (Owns false) empty) (outcome (Owns false) broken)
    (record { sound = ground.sound_empty; by-rules = filled-facts.looked; by-layer = ap (λ (z : Outcome). outcome z.answer broken) filled-facts.looked; passed = refl }) refl in
    true≢false (sym (ap (λ (w : World). sound S w 4096) (sym b.left_is) ∙ d.stays-sound (next begin looks) b.lent 4096 refl) ∙ broken-is)

pub registering-fails : RegisteringFails
registering-fails = record {
  small-only = small-only;
  low-only = low-only;
  full-at-one = full-at-one;
  fills-the-table = fills-the-table;
  none-reserved = none-reserved;
  breaks-its-table = breaks-its-table;
}
