-- Wrong joins that demand 3 rules out, each on a short history. Most on the switch-over of document_cases: program 7 holds chunk 0 of its arena, the tables are joined, and its next claim, at the new
-- id, is told what the share book does not say. Assumes nothing.
use Rattle.std.specs.Prelude.{◌≡◌, ◌∷◌, ◌+◌, Ok, Err}
use Rattle.layer.proofs.Prelude.{refl, sym, ap, ◌∙◌, Bool, true, false, true≢false, List, [], ℕ, arith, lit<, pos, negsuc, replicate, World, blank, state_with, world_of, outcome, step, manage, claim, act, JoinOutcome, join_outcome, joined_world, join, lowest, claims, Say, refused, granted, released, say_all, Marked, MarkedJoin, of_first, of_second, begin, next, joining, is_sound, both_sound, is_broken, is_broken_join, said, start, Place, entries, hears, OpensAt, book_of, sound, Demand3, NoRun, Range, enter, in_range, bit, bit_at, within, as_number, pack, write_run, all, least, lowest_run, or_one, now_ms, delay_ms, never_purges, keeps, armed, is_due, arena_allowed, page_size_sound, new_arena, reserved_arena, managed_arena, adopted_arena, grown_arena, find_run, run_committed, run_fresh, take_run, give_back_run, commit_run, dirty_run, finish_grant, tell_run, pend_run, release_run, stamp_run, sweep_due, disarm, young, to_ask, next_asked, borrow_chunk, unpend_chunk, return_chunk, rearm, bytes_of, end_of, is_inside, sound_range, clear_past, clear_past_all, sound_arena, empty, meets, overlaps, bad_range, find_arena, apart, sound_question, sound_table, sound_lent, chunks_for, too_large, bytes_asked, ask_memory, reserve_reply, bad_count, no_whole_chunk, grows, reserve_of, manage_of, adopt_of, eligible, serves, asks_commit, grant_arena, grant_reply, miss_reply, search_of, claim_of, release_of, purge_reply, swept_reply, visit, sweep_from, is_for, answer_of, rules, overwritten, tables_overlap, join_on, join_rules}
use Rattle.refusals.specs.declared.Refusal.TheVariants.{TablesOverlap, TooManyArenas}
use Rattle.layer.specs.declared.Question.TheVariants.{Idle}
use Rattle.layer.specs.declared.Answer.{Answer}
use Rattle.layer.specs.declared.Answer.TheVariants.{Refused, Registered, Claimed}
use Rattle.layer_laws.specs.joined.Join.{Join}
use Rattle.document_cases.specs.Example.{S, base, elsewhere, plain, row, own as held, shared, one as alone, w₂, c₂, by, arena}
use Rattle.document_cases.specs.SwitchOver.{v₁, d₁, in_second, united, u₀, u₁, moved}
use Rattle.document_cases.proofs.Runs.{at-start, before-made, before-join, open_made, after-made, after-refusal, by-book, own-call}
use Rattle.document_cases.proofs.Example.{begun, computed as example-calls}
use Rattle.document_cases.proofs.SwitchOver.{switched, computed as calls}
use Rattle.wrong_layers.proofs.Ground.{stand, ground}
use Rattle.wrong_layers.proofs.Full.{table, filling, filled, fills}
use Rattle.wrong_layers.specs.Joins.{but_joins, comes_free, comes_dirty, second_before, ids_by_base, seventeen_always, stays_behind, empties_always, no_seventeen, no_eighteen, JoinsFail}

-- ---- what is told

abbrev address : Say → ℕ
address (granted x fresh) = x
address (refused why) = 0
address released = 0

abbrev is_fresh : Say → Bool
is_fresh (granted x fresh) = fresh
is_fresh (refused why) = false
is_fresh released = false

-- the last of two sayings
abbrev latter : List Say → Say
latter [] = released
latter (s ∷ []) = released
latter (s ∷ r ∷ ss) = r

-- ---- the next claim at the new id, on what a join left

abbrev claims_on : World → Marked
claims_on x = by 7 x 0 (act (claim (pos 1) 1 false))

record Leads (J : Join) (o : JoinOutcome) (r : Answer) : Type 0 where
  makes : J v₁ w₂ 0 plain ≡ o
  passed : is_broken_join o.answer ≡ false
  sound-then : is_sound (claims_on o.first) ≡ true
  answered : (step o.first 0 plain (claims_on u₀).call).answer ≡ r

record Facts : Type 0 where
  free : Leads comes_free (join_outcome (Ok 1) (united (shared 1) (held 0 1 0 0 0)) empty) (Claimed base false false)
  dirty : Leads comes_dirty (join_outcome (Ok 1) (united (shared 1) (held 1 7 0 0 0)) empty) (Claimed (base + S) false false)
  behind : Leads second_before (join_outcome (Ok 1) (united (held 1 1 0 0 0) (shared 1)) empty) (Claimed (elsewhere + S) false true)
  by-base : Leads ids_by_base (join_outcome (Ok 1) (united (held 1 1 0 0 0) (shared 1)) empty) (Claimed (elsewhere + S) false true)
  turned_down : Leads seventeen_always (join_outcome (Err TablesOverlap) v₁ w₂) (Refused NoRun)
  says_two : say_all (book_of moved) (claims lowest 1 ∷ claims lowest 1 ∷ []) ≡ granted base true ∷ granted (base + S) true ∷ []

facts : Facts
unfolding enter in_range bit bit_at within as_number pack write_run all least lowest_run or_one now_ms delay_ms never_purges keeps armed is_due arena_allowed page_size_sound new_arena reserved_arena managed_arena adopted_arena grown_arena find_run run_committed run_fresh take_run give_back_run commit_run dirty_run finish_grant tell_run pend_run release_run stamp_run sweep_due disarm young to_ask next_asked borrow_chunk unpend_chunk return_chunk rearm bytes_of end_of is_inside sound_range clear_past clear_past_all sound_arena empty meets overlaps bad_range find_arena apart sound_question sound_table sound_lent chunks_for too_large bytes_asked ask_memory reserve_reply bad_count no_whole_chunk grows reserve_of manage_of adopt_of eligible serves asks_commit grant_arena grant_reply miss_reply search_of claim_of release_of purge_reply swept_reply visit sweep_from is_for answer_of rules overwritten tables_overlap join_on join_rules
facts = record {
  free = record { makes = refl; passed = refl; sound-then = refl; answered = refl };
  dirty = record { makes = refl; passed = refl; sound-then = refl; answered = refl };
  behind = record { makes = refl; passed = refl; sound-then = refl; answered = refl };
  by-base = record { makes = refl; passed = refl; sound-then = refl; answered = refl };
  turned_down = record { makes = refl; passed = refl; sound-then = refl; answered = refl };
  says_two = refl;
}

next-claim : (J : Join) (o : JoinOutcome) (r : Answer) (s : Say) → Leads J o r → is_broken r ≡ false → said r ≡ s ∷ [] → Demand3 (but_joins J) → s ≡ granted (base + S) true
unfolding in_range
next-claim J o r s k passed e d =
    let L = but_joins J in
    let left : World = (step o.first 0 plain (claims_on u₀).call).world in
    let q = after-made L 7 moved _ (stand u₀ 9 d₁) o.first _ _ (switched J calls o k.makes k.passed) (claims_on o.first) (outcome (Claimed (base + S) true false) u₁) (outcome r left) (claims lowest 1 ∷ []) (s ∷ [])
    (record { sound = k.sound-then; by-rules = calls.k₂.by-rules; by-layer = ap (λ (x : Answer). outcome x left) k.answered; passed = passed }) refl
    (own-call 7 moved (stand u₀ 9 d₁) (claims_on o.first) refl refl refl) refl (ap (hears moved (entries (claims_on u₀).call)) e) in
    let b = by-book L 7 moved _ (stand u₁ 7 (claims_on o.first)) left _ _ q d in
    ap latter (b.1 ∙ facts.says_two)

-- ---- what the tables of the switch-over come to, joined twice, or with the empty one

abbrev own : World → Marked
own x = by 7 x 0 (act (claim (pos 0) 1 false))

-- the emptied second has an arena of one chunk where the other stood
abbrev near : ℕ → World
near used = world_of (record { base = base; chunks = 1; exclusive = 1; owned = 0; node = negsuc 0; deadline = 0; used = row used; dirty = row 1; committed = row 1; pending = row 0 } ∷ replicate 31 blank) (replicate 32768 0) (state_with 1 false Idle)

abbrev anew : Marked
anew = by 9 w₂ 0 (act (manage base S true (negsuc 0) false true))

abbrev at-near : Place
at-near = record { id = 0; size = S; base = base; chunks = 1; managed = true }

abbrev parting : MarkedJoin
parting = record { first = empty; second = w₂; ns = 0; settings = plain }

abbrev twice : MarkedJoin
twice = record { first = w₂; second = w₂; ns = 0; settings = plain }

record Emptied : Type 0 where
  sound-parting : both_sound parting ≡ true
  parted : join empty w₂ 0 plain ≡ join_outcome (Ok 0) (joined_world empty w₂) empty
  left_there : stays_behind empty w₂ 0 plain ≡ join_outcome (Ok 0) (joined_world empty w₂) w₂
  sound-behind : is_sound anew ≡ true
  registered : step empty 0 plain anew.call ≡ outcome (Registered 0) (near 0)
  turned_down : step w₂ 0 plain anew.call ≡ outcome (Refused Range) w₂
  claimed : step (near 0) 0 plain (own w₂).call ≡ outcome (Claimed base false true) (near 1)
  says-near : say_all (book_of at-near) (claims lowest 1 ∷ []) ≡ granted base false ∷ []
  sound-twice : both_sound twice ≡ true
  overlapping : join w₂ w₂ 0 plain ≡ join_outcome (Err TablesOverlap) w₂ w₂
  next-there : step w₂ 0 plain (own w₂).call ≡ outcome (Claimed (base + S) true false) (alone (held 3 3 0 0 0) 0 Idle)
  none-there : step empty 0 plain (own w₂).call ≡ outcome (Refused NoRun) empty
  both-there : no_seventeen w₂ w₂ 0 plain ≡ join_outcome (Ok 1) (united (held 1 1 0 0 0) (held 1 1 0 0 0)) empty
  broken : sound S (united (held 1 1 0 0 0) (held 1 1 0 0 0)) 4096 ≡ false

emptied : Emptied
unfolding enter in_range bit bit_at within as_number pack write_run all least lowest_run or_one now_ms delay_ms never_purges keeps armed is_due arena_allowed page_size_sound new_arena reserved_arena managed_arena adopted_arena grown_arena find_run run_committed run_fresh take_run give_back_run commit_run dirty_run finish_grant tell_run pend_run release_run stamp_run sweep_due disarm young to_ask next_asked borrow_chunk unpend_chunk return_chunk rearm bytes_of end_of is_inside sound_range clear_past clear_past_all sound_arena empty meets overlaps bad_range find_arena apart sound_question sound_table sound_lent chunks_for too_large bytes_asked ask_memory reserve_reply bad_count no_whole_chunk grows reserve_of manage_of adopt_of eligible serves asks_commit grant_arena grant_reply miss_reply search_of claim_of release_of purge_reply swept_reply visit sweep_from is_for answer_of rules overwritten tables_overlap join_on join_rules
emptied = record {
  sound-parting = refl;
  parted = refl;
  left_there = refl;
  sound-behind = refl;
  registered = refl;
  turned_down = refl;
  claimed = refl;
  says-near = refl;
  sound-twice = refl;
  overlapping = refl;
  next-there = refl;
  none-there = refl;
  both-there = refl;
  broken = refl;
}

near-opens : OpensAt (stand empty 7 c₂) anew
unfolding empty
near-opens = record {
  base = base;
  chunks = 1;
  managed = true;
  is-sound = emptied.sound-behind;
  registrable = record { some = omega arith; few = omega arith; whole = refl; somewhere = omega arith; ends = lit< tt; apart = λ i h. absurd (omega arith); room = omega arith };
  registers = record { from = base; bytes = S; node = negsuc 0; is_call = refl; none_open = refl; some-start = omega arith; first = (omega arith, omega arith); last = (omega arith, omega arith); sum_fits = lit< tt };
}

-- ---- a table of 33 arenas

abbrev lone : World
lone = world_of (record { base = base; chunks = 1; exclusive = 0; owned = 0; node = negsuc 0; deadline = 0; used = row 0; dirty = row 1; committed = row 1; pending = row 0 } ∷ replicate 31 blank) (replicate 32768 0) (state_with 1 false Idle)

abbrev shares : Marked
shares = by 9 empty 0 (act (manage base S false (negsuc 0) false true))

abbrev overfull : MarkedJoin
overfull = record { first = table 32; second = lone; ns = 0; settings = plain }

record Overfull : Type 0 where
  shared-one : step empty 0 plain shares.call ≡ outcome (Registered 0) lone
  sound-both : both_sound overfull ≡ true
  refused-18 : join (table 32) lone 0 plain ≡ join_outcome (Err TooManyArenas) (table 32) lone
  joined-33 : no_eighteen (table 32) lone 0 plain ≡ join_outcome (Ok 32) (joined_world (table 32) lone) empty
  broken-33 : sound S (joined_world (table 32) lone) 4096 ≡ false

overfull-facts : Overfull
unfolding enter in_range bit bit_at within as_number pack write_run all least lowest_run or_one now_ms delay_ms never_purges keeps armed is_due arena_allowed page_size_sound new_arena reserved_arena managed_arena adopted_arena grown_arena find_run run_committed run_fresh take_run give_back_run commit_run dirty_run finish_grant tell_run pend_run release_run stamp_run sweep_due disarm young to_ask next_asked borrow_chunk unpend_chunk return_chunk rearm bytes_of end_of is_inside sound_range clear_past clear_past_all sound_arena empty meets overlaps bad_range find_arena apart sound_question sound_table sound_lent chunks_for too_large bytes_asked ask_memory reserve_reply bad_count no_whole_chunk grows reserve_of manage_of adopt_of eligible serves asks_commit grant_arena grant_reply miss_reply search_of claim_of release_of purge_reply swept_reply visit sweep_from is_for answer_of rules overwritten tables_overlap join_on join_rules
overfull-facts = record { shared-one = refl; sound-both = refl; refused-18 = refl; joined-33 = refl; broken-33 = refl }

-- ---- each fails

comes-free : Demand3 (but_joins comes_free) → ⊥
comes-free d = let z : ◌≡◌ {A = ℕ} base (base + S) = ap address (next-claim comes_free _ _ (granted base false) facts.free refl refl d) in omega (arith, z)

comes-dirty : Demand3 (but_joins comes_dirty) → ⊥
comes-dirty d = true≢false (sym (ap is_fresh (next-claim comes_dirty _ _ (granted (base + S) false) facts.dirty refl refl d)))

second-before : Demand3 (but_joins second_before) → ⊥
second-before d = let z : ◌≡◌ {A = ℕ} (elsewhere + S) (base + S) = ap address (next-claim second_before _ _ (granted (elsewhere + S) false) facts.behind refl refl d) in omega (arith, z)

ids-by-base : Demand3 (but_joins ids_by_base) → ⊥
ids-by-base d = let z : ◌≡◌ {A = ℕ} (elsewhere + S) (base + S) = ap address (next-claim ids_by_base _ _ (granted (elsewhere + S) false) facts.by-base refl refl d) in omega (arith, z)

seventeen-always : Demand3 (but_joins seventeen_always) → ⊥
seventeen-always d = let z : ◌≡◌ {A = ℕ} 0 (base + S) = ap address (next-claim seventeen_always _ _ (refused 10) facts.turned_down refl refl d) in omega (arith, z)

-- the second's new sequence is told of the old arena's chunks
stays-behind : Demand3 (but_joins stays_behind) → ⊥
unfolding in_range empty near-opens
stays-behind d =
    let L = but_joins stays_behind in
    let b₁ = before-join L of_second begin in_second start (stand w₂ 7 c₂) empty w₂ (at-start L) (begun stays_behind example-calls).stands parting (join_outcome (Ok 0) (joined_world empty w₂) empty) (join_outcome (Ok 0) (joined_world empty w₂) w₂)
    (record { sound = emptied.sound-parting; by-rules = emptied.parted; by-layer = emptied.left_there; passed = refl }) refl refl in
    let r = open_made L 7 _ (stand empty 7 c₂) w₂ b₁ anew (outcome (Registered 0) (near 0)) (outcome (Refused Range) w₂) near-opens
    (record { sound = emptied.sound-behind; by-rules = emptied.registered; by-layer = emptied.turned_down; passed = refl }) refl in
    let q = after-made L 7 at-near _ (stand (near 0) 9 anew) w₂ _ _ r (own w₂) (outcome (Claimed base false true) (near 1)) (outcome (Claimed (base + S) true false) (alone (held 3 3 0 0 0) 0 Idle)) (claims lowest 1 ∷ []) (granted (base + S) true ∷ [])
    (record { sound = emptied.sound-behind; by-rules = emptied.claimed; by-layer = emptied.next-there; passed = refl }) refl (own-call 7 at-near (stand (near 0) 9 anew) (own w₂) refl refl refl) refl refl in
    let b = by-book L 7 at-near _ (stand (near 1) 7 (own w₂)) (alone (held 3 3 0 0 0) 0 Idle) _ _ q d in
    let z : ◌≡◌ {A = ℕ} (base + S) base = ap (λ (ss : List Say). address (latter (released ∷ ss))) (b.1 ∙ emptied.says-near) in
    omega (arith, z)

-- a join that 17 turned down took the arena away
empties-always : Demand3 (but_joins empties_always) → ⊥
unfolding in_range
empties-always d =
    let L = but_joins empties_always in
    let k = begun empties_always example-calls in
    let r = after-refusal L 7 arena in_second in_second (stand w₂ 7 c₂) (stand w₂ 7 c₂) w₂ w₂ _ _ k.stands k twice (join_outcome (Err TablesOverlap) w₂ w₂) (join_outcome (Err TablesOverlap) w₂ empty)
    (record { sound = emptied.sound-twice; by-rules = emptied.overlapping; by-layer = ap (λ (o : JoinOutcome). join_outcome o.answer o.first empty) emptied.overlapping; passed = refl }) refl refl refl in
    let q = after-made L 7 arena _ (stand w₂ 7 c₂) empty _ _ r (own empty) (outcome (Claimed (base + S) true false) (alone (held 3 3 0 0 0) 0 Idle)) (outcome (Refused NoRun) empty) (claims lowest 1 ∷ []) (refused 10 ∷ [])
    (record { sound = ground.sound_empty; by-rules = emptied.next-there; by-layer = emptied.none-there; passed = refl }) refl (own-call 7 arena (stand w₂ 7 c₂) (own empty) refl refl refl) refl refl in
    let b = by-book L 7 arena _ (stand (alone (held 3 3 0 0 0) 0 Idle) 7 (own empty)) empty _ _ q d in
    let z : ◌≡◌ {A = ℕ} 0 (base + S) = ap (λ (ss : List Say). address (latter ss)) (b.1 ∙ facts.says_two) in
    omega (arith, z)

-- one range stands in two arenas
no-seventeen : Demand3 (but_joins no_seventeen) → ⊥
unfolding page_size_sound
no-seventeen d =
    let L = but_joins no_seventeen in
    let k = (begun no_seventeen example-calls).stands in
    let b = before-join L of_first in_second in_second (stand w₂ 7 c₂) (stand w₂ 7 c₂) w₂ w₂ k k twice (join_outcome (Err TablesOverlap) w₂ w₂) (join_outcome (Ok 1) (united (held 1 1 0 0 0) (held 1 1 0 0 0)) empty)
    (record { sound = emptied.sound-twice; by-rules = emptied.overlapping; by-layer = emptied.both-there; passed = refl }) refl refl in
    true≢false (sym (ap (λ (w : World). sound S w 4096) (sym b.left_is) ∙ d.stays-sound (joining of_first in_second in_second twice) b.lent 4096 refl) ∙ emptied.broken)

no-eighteen : Demand3 (but_joins no_eighteen) → ⊥
unfolding page_size_sound empty
no-eighteen d =
    let L = but_joins no_eighteen in
    let b₁ = before-made L begin start empty (at-start L) shares (outcome (Registered 0) lone) (outcome (Registered 0) lone)
    (record { sound = ground.sound_empty; by-rules = overfull-facts.shared-one; by-layer = overfull-facts.shared-one; passed = refl }) refl in
    let b = before-join L of_first (filling 32) (next begin shares) (filled 32) (stand lone 9 shares) (table 32) lone (fills no_eighteen 32 (omega arith)) b₁ overfull (join_outcome (Err TooManyArenas) (table 32) lone) (join_outcome (Ok 32) (joined_world (table 32) lone) empty)
    (record { sound = overfull-facts.sound-both; by-rules = overfull-facts.refused-18; by-layer = overfull-facts.joined-33; passed = refl }) refl refl in
    true≢false (sym (ap (λ (w : World). sound S w 4096) (sym b.left_is) ∙ d.stays-sound (joining of_first (filling 32) (next begin shares) overfull) b.lent 4096 refl) ∙ overfull-facts.broken-33)

pub joins-fail : JoinsFail
joins-fail = record {
  comes-free = comes-free;
  comes-dirty = comes-dirty;
  second-before = second-before;
  ids-by-base = ids-by-base;
  seventeen-always = seventeen-always;
  stays-behind = stays-behind;
  empties-always = empties-always;
  no-seventeen = no-seventeen;
  no-eighteen = no-eighteen;
}
