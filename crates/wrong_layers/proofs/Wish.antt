-- Wrong joins that a sentence of wish 1 rules out, each on two tables with which it does not do what the sentence says. Assumes nothing.
use Rattle.std.specs.Prelude.{◌≡◌, ◌∷◌, ◌+◌, ◌*◌, ◌≤◌, ◌<◌, Result, Ok, Err}
use Rattle.refusals.specs.declared.Refusal.{Refusal}
use Rattle.layer.proofs.Prelude.{refl, sym, ap, ◌∙◌, Bool, true, false, true≢false, List, [], ℕ, zero, suc, arith, negsuc, replicate, stamps_of, Arena, World, blank, state_with, world_of, at, sound, join, is_idle, enter, in_range, bit, bit_at, within, as_number, pack, write_run, all, least, lowest_run, or_one, now_ms, delay_ms, never_purges, keeps, armed, is_due, arena_allowed, page_size_sound, new_arena, reserved_arena, managed_arena, adopted_arena, grown_arena, find_run, run_committed, run_fresh, take_run, give_back_run, commit_run, dirty_run, finish_grant, tell_run, pend_run, release_run, stamp_run, sweep_due, disarm, young, to_ask, next_asked, borrow_chunk, unpend_chunk, return_chunk, rearm, bytes_of, end_of, is_inside, sound_range, clear_past, clear_past_all, sound_arena, empty, meets, overlaps, bad_range, find_arena, apart, sound_question, sound_table, sound_lent, chunks_for, too_large, bytes_asked, ask_memory, reserve_reply, bad_count, no_whole_chunk, grows, reserve_of, manage_of, adopt_of, eligible, serves, asks_commit, grant_arena, grant_reply, miss_reply, search_of, claim_of, release_of, purge_reply, swept_reply, visit, sweep_from, is_for, answer_of, rules, overwritten, tables_overlap, join_on, join_rules}
use Rattle.refusals.specs.Number.{number}
use Rattle.refusals.specs.declared.Refusal.TheVariants.{QuestionOpen, TablesOverlap, TooManyArenas}
use Rattle.layer.specs.declared.Settings.{Settings}
use Rattle.layer.specs.declared.Question.TheVariants.{Idle}
use Rattle.layer.specs.History.{Covers}
use Rattle.layer_laws.specs.joined.Join.{Overlap, ByTheWish}
use Rattle.document_cases.specs.Example.{S, base, plain, row, own, one, short, w₀}
use Rattle.wrong_layers.proofs.Full.{range, table}
use Rattle.wrong_layers.specs.Joins.{right_rows, right_grant, by_rows, stamps_stay, deadlines_stay, either_mark, behind_zero, rise_of_second, one_of_first, one_of_second, two_of_first, two_of_second, table_by_table, spans_only, neighbours_too, eighteen_first, eighteen_at32, JoinsAgainstTheWish}

-- ---- the tables

-- nothing in it, with and without the give-up mark
abbrev bare : Bool → World
bare mark = world_of (replicate 32 blank) (replicate 32768 0) (state_with 0 mark Idle)

-- an arena that is due at 9, and a stamp of 5
abbrev due : World
due = one (own 0 0 0 0 9) 5 Idle

-- a chunk each, at S and 3 S, and at 2 S between them
abbrev chunk_at : ℕ → Arena
chunk_at n = record { base = n * S; chunks = 1; exclusive = 0; owned = 0; node = negsuc 0; deadline = 0; used = row 0; dirty = row 1; committed = row 1; pending = row 0 }

abbrev outer : World
outer = world_of (chunk_at 1 ∷ chunk_at 3 ∷ replicate 30 blank) (replicate 32768 0) (state_with 2 false Idle)

abbrev between : World
between = one (chunk_at 2) 0 Idle

-- ---- what comes of them

-- the answer in numbers: the refusal's, or 0 and the rise
abbrev number_of : Result ℕ Refusal → ℕ
number_of (Err why) = number why
number_of (Ok rise) = 0

abbrev rise_of : Result ℕ Refusal → ℕ
rise_of (Err why) = 0
rise_of (Ok rise) = rise

abbrev front : List ℕ → ℕ
front [] = 0
front (x ∷ l) = x

record Facts : Type 0 where
  sound-bare : sound S (bare false) 4096 ≡ true
  sound-due : sound S due 4096 ≡ true
  sound-asking : sound S w₀ 4096 ≡ true
  not_sound : sound S short 4096 ≡ false
  sound-outer : sound S outer 4096 ≡ true
  sound-between : sound S between 4096 ≡ true
  sound-full : sound S (table 32) 4096 ≡ true
  sound-one : sound S (table 1) 4096 ≡ true
  stamps-joined : (stamps_stay (bare false) due 0 plain).answer ≡ Ok 0
  stamp-left : front (stamps_of (stamps_stay (bare false) due 0 plain).first.stamps 0) ≡ 0
  stamp-there : front (stamps_of due.stamps 0) ≡ 5
  deadlines-joined : (deadlines_stay (bare false) due 0 plain).answer ≡ Ok 0
  deadline-left : (at (deadlines_stay (bare false) due 0 plain).first.records 0).deadline ≡ 0
  marks-joined : (either_mark (bare true) (bare false) 0 plain).answer ≡ Ok 0
  mark-left : (either_mark (bare true) (bare false) 0 plain).first.state.mark ≡ true
  zero-joined : (behind_zero (bare false) due 0 plain).answer ≡ Ok 0
  base-behind : (at (behind_zero (bare false) due 0 plain).second.records 0).base ≡ base
  none-empty : (at empty.records 0).base ≡ 0
  rise : (rise_of_second due (bare false) 0 plain).answer ≡ Ok 0
  first_passes : (one_of_first (bare false) short 0 plain).answer ≡ Ok 0
  second-passes : (one_of_second short (bare false) 0 plain).answer ≡ Ok 0
  first-calm : (two_of_first (bare false) w₀ 0 plain).answer ≡ Ok 0
  second-calm : (two_of_second w₀ (bare false) 0 plain).answer ≡ Ok 0
  two-before-one : (table_by_table w₀ short 0 plain).answer ≡ Err QuestionOpen
  spans : (spans_only outer between 0 plain).answer ≡ Err TablesOverlap
  neighbours : (neighbours_too outer between 0 plain).answer ≡ Err TablesOverlap
  eighteen-before : (eighteen_first (table 32) (table 1) 0 plain).answer ≡ Err TooManyArenas
  full : (eighteen_at32 (table 32) (bare false) 0 plain).answer ≡ Err TooManyArenas

facts : Facts
unfolding enter in_range bit bit_at within as_number pack write_run all least lowest_run or_one now_ms delay_ms never_purges keeps armed is_due arena_allowed page_size_sound new_arena reserved_arena managed_arena adopted_arena grown_arena find_run run_committed run_fresh take_run give_back_run commit_run dirty_run finish_grant tell_run pend_run release_run stamp_run sweep_due disarm young to_ask next_asked borrow_chunk unpend_chunk return_chunk rearm bytes_of end_of is_inside sound_range clear_past clear_past_all sound_arena empty meets overlaps bad_range find_arena apart sound_question sound_table sound_lent chunks_for too_large bytes_asked ask_memory reserve_reply bad_count no_whole_chunk grows reserve_of manage_of adopt_of eligible serves asks_commit grant_arena grant_reply miss_reply search_of claim_of release_of purge_reply swept_reply visit sweep_from is_for answer_of rules overwritten tables_overlap join_on join_rules stamps_of
facts = record {
  sound-bare = refl;
  sound-due = refl;
  sound-asking = refl;
  not_sound = refl;
  sound-outer = refl;
  sound-between = refl;
  sound-full = refl;
  sound-one = refl;
  stamps-joined = refl;
  stamp-left = refl;
  stamp-there = refl;
  deadlines-joined = refl;
  deadline-left = refl;
  marks-joined = refl;
  mark-left = refl;
  zero-joined = refl;
  base-behind = refl;
  none-empty = refl;
  rise = refl;
  first_passes = refl;
  second-passes = refl;
  first-calm = refl;
  second-calm = refl;
  two-before-one = refl;
  spans = refl;
  neighbours = refl;
  eighteen-before = refl;
  full = refl;
}

-- ---- what a granted join leaves

stamps-stay : ByTheWish stamps_stay → ⊥
stamps-stay d =
    let e : ◌≡◌ {A = ℕ} 0 5 = sym facts.stamp-left ∙ ap front ((d.grant-leaves (bare false) due 0 plain 0 facts.stamps-joined).0.second-stamps 0 (omega arith)) ∙ facts.stamp-there in
    omega (arith, e)

deadlines-stay : ByTheWish deadlines_stay → ⊥
deadlines-stay d =
    let e : ◌≡◌ {A = ℕ} 0 9 = sym facts.deadline-left ∙ ap (λ (a : Arena). a.deadline) ((d.grant-leaves (bare false) due 0 plain 0 facts.deadlines-joined).0.second-ids 0 (omega arith)) in
    omega (arith, e)

either-mark : ByTheWish either_mark → ⊥
either-mark d = true≢false (sym facts.mark-left ∙ (d.grant-leaves (bare true) (bare false) 0 plain 0 facts.marks-joined).0.mark)

behind-zero : ByTheWish behind_zero → ⊥
behind-zero d =
    let e : ◌≡◌ {A = ℕ} base 0 = sym facts.base-behind ∙ ap (λ (w : World). (at w.records 0).base) (d.grant-leaves (bare false) due 0 plain 0 facts.zero-joined).1 ∙ facts.none-empty in
    omega (arith, e)

rise-of-second : ByTheWish rise_of_second → ⊥
rise-of-second d =
    let e : ◌≡◌ {A = ℕ} 0 1 =
    ap rise_of (sym facts.rise ∙ d.otherwise due (bare false) 0 plain (facts.sound-due, facts.sound-bare) (refl, refl) (λ o. let h = o.of-second in absurd (omega (arith, h))) (omega arith)) in
    omega (arith, e)

-- ---- rows 1 and 2

one-of-first : ByTheWish one_of_first → ⊥
one-of-first d =
    let e : ◌≡◌ {A = ℕ} 0 1 = ap number_of (sym facts.first_passes ∙ (d.one-exactly (bare false) short 0 plain).1 (λ s. true≢false (sym s.1 ∙ facts.not_sound))) in
    omega (arith, e)

one-of-second : ByTheWish one_of_second → ⊥
one-of-second d =
    let e : ◌≡◌ {A = ℕ} 0 1 = ap number_of (sym facts.second-passes ∙ (d.one-exactly short (bare false) 0 plain).1 (λ s. true≢false (sym s.0 ∙ facts.not_sound))) in
    omega (arith, e)

two-of-first : ByTheWish two_of_first → ⊥
two-of-first d =
    let e : ◌≡◌ {A = ℕ} 0 2 =
    ap number_of (sym facts.first-calm ∙ (d.two-exactly (bare false) w₀ 0 plain (facts.sound-bare, facts.sound-asking)).1 (λ c. true≢false (sym (ap is_idle c.1)))) in
    omega (arith, e)

two-of-second : ByTheWish two_of_second → ⊥
two-of-second d =
    let e : ◌≡◌ {A = ℕ} 0 2 =
    ap number_of (sym facts.second-calm ∙ (d.two-exactly w₀ (bare false) 0 plain (facts.sound-asking, facts.sound-bare)).1 (λ c. true≢false (sym (ap is_idle c.0)))) in
    omega (arith, e)

-- a question on the first, and a broken second: 1
table-by-table : ByTheWish table_by_table → ⊥
table-by-table d =
    let e : ◌≡◌ {A = ℕ} 2 1 = ap number_of (sym facts.two-before-one ∙ (d.one-exactly w₀ short 0 plain).1 (λ s. true≢false (sym s.1 ∙ facts.not_sound))) in
    omega (arith, e)

-- ---- 17 and 18

-- neighbours share no address
none-shared : Overlap outer between → ⊥
none-shared o = go o.i o.j o.x o.of-first o.of-second o.in-first o.in-second
  where
    go : (i j x : ℕ) → i < 2 → j < 1 → Covers outer i x → Covers between j x → ⊥
    go zero zero x h g a b = let s : x < 1 * S + 1 * S = a.1 in let t : 2 * S ≤ x = b.0 in omega (arith, s, t)
    go (suc zero) zero x h g a b = let s : 3 * S ≤ x = a.0 in let t : x < 2 * S + 1 * S = b.1 in omega (arith, s, t)
    go (suc (suc i)) zero x h g a b = absurd (omega (arith, h))
    go i (suc j) x h g a b = absurd (omega (arith, g))

spans-only : ByTheWish spans_only → ⊥
spans-only d = none-shared ((d.seventeen-exactly outer between 0 plain (facts.sound-outer, facts.sound-between) (refl, refl)).0 facts.spans)

neighbours-too : ByTheWish neighbours_too → ⊥
neighbours-too d = none-shared ((d.seventeen-exactly outer between 0 plain (facts.sound-outer, facts.sound-between) (refl, refl)).0 facts.neighbours)

-- arena 0 stands in both
eighteen-first : ByTheWish eighteen_first → ⊥
eighteen-first d =
    let o : Overlap (table 32) (table 1) = record { i = 0; j = 0; x = range; of-first = omega arith; of-second = omega arith; in-first = (omega arith, omega arith); in-second = (omega arith, omega arith) } in
    let e : ◌≡◌ {A = ℕ} 18 17 = ap number_of (sym facts.eighteen-before ∙ (d.seventeen-exactly (table 32) (table 1) 0 plain (facts.sound-full, facts.sound-one) (refl, refl)).1 o) in
    omega (arith, e)

eighteen-at-32 : ByTheWish eighteen_at32 → ⊥
eighteen-at-32 d =
    let e : ◌≡◌ {A = ℕ} 18 0 =
    ap number_of (sym facts.full ∙ d.otherwise (table 32) (bare false) 0 plain (facts.sound-full, facts.sound-bare) (refl, refl) (λ o. let h = o.of-second in absurd (omega (arith, h))) (omega arith)) in
    omega (arith, e)

right : (w v : World) (ns : ℕ) (settings : Settings) → by_rows right_rows right_grant w v ns settings ≡ join w v ns settings
unfolding join_rules join_on
right w v ns settings = refl

pub joins-against-the-wish : JoinsAgainstTheWish
joins-against-the-wish = record {
  right = right;
  stamps-stay = stamps-stay;
  deadlines-stay = deadlines-stay;
  either-mark = either-mark;
  behind-zero = behind-zero;
  rise-of-second = rise-of-second;
  one-of-first = one-of-first;
  one-of-second = one-of-second;
  two-of-first = two-of-first;
  two-of-second = two-of-second;
  table-by-table = table-by-table;
  spans-only = spans-only;
  neighbours-too = neighbours-too;
  eighteen-first = eighteen-first;
  eighteen-at-32 = eighteen-at-32;
}
