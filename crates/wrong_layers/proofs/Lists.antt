-- Wrong lists of releases, each on a list that it does not answer, or whose items it does not release, as the rules do. Assumes nothing.
use Rattle.std.specs.Prelude.{◌≡◌, ◌∷◌, ◌≤◌, ◌&&◌}
use Rattle.layer.proofs.Prelude.{refl, Bool, true, false, List, [], ℕ, arith, negsuc, replicate, bit, bit_at, within, as_number, pack, write_run, all, least, lowest_run, or_one, now_ms, delay_ms, never_purges, keeps, armed, is_due, arena_allowed, page_size_sound, new_arena, reserved_arena, managed_arena, adopted_arena, grown_arena, find_run, run_committed, run_fresh, take_run, give_back_run, commit_run, dirty_run, finish_grant, tell_run, pend_run, release_run, stamp_run, sweep_due, disarm, young, to_ask, next_asked, borrow_chunk, unpend_chunk, return_chunk, rearm, bytes_of, end_of, is_inside, sound_range, clear_past, clear_past_all, sound_arena, World, blank, state_with, world_of, outcome, empty, meets, overlaps, bad_range, find_arena, apart, sound_question, sound_table, sound_lent, chunks_for, too_large, bytes_asked, ask_memory, reserve_reply, bad_count, no_whole_chunk, grows, reserve_of, manage_of, adopt_of, eligible, serves, asks_commit, grant_arena, grant_reply, miss_reply, search_of, claim_of, release_of, purge_reply, swept_reply, visit, sweep_from, is_for, answer_of, rules, step, lowest, claims, Say, refused, granted, enter, say_all, begin, next, is_sound, Trail, in_range, book_of, sym, ap, ◌∙◌, not, true≢false, length, get_or, length-replicate, unless, at, sound, by_rules, Items, ListOutcome, list_outcome, item_number, list_fits, release_list, MarkedList, is_sound_list, Demand3, releases as frees, released, ltb, eqb, eq-eqb, ap₂, listing, is_broken, hears, entries_of_list, said_of_list, cond, first_of}
use Rattle.refusals.specs.declared.Refusal.TheVariants.{Broken, ListLength, NoRun}
use Rattle.layer.specs.declared.Question.TheVariants.{Idle, Committing}
use Rattle.layer.specs.declared.Answer.TheVariants.{Refused, Released, Claimed}
use Rattle.layer.specs.World.{size_of}
use Rattle.layer.specs.Listing.{items}
use Rattle.layer.proofs.Lists.{each-granted}
use Rattle.layer_laws.specs.listed.Releases.{ReleasesLists, OneLength}
use Rattle.layer_laws.proofs.listed.Releases.{releases-lists, determined}
use Rattle.document_cases.specs.Example.{S, plain, by, row}
use Rattle.document_cases.specs.Refused.{short}
use Rattle.document_cases.proofs.Runs.{After, after-made, after_list, by-book, own-call, own-list}
use Rattle.wrong_layers.proofs.Ground.{stand, own, clear, held, manages, claims_on, arena, ground, opened, opens}
use Rattle.wrong_layers.specs.Lists.{Listing, but_lists, one, two, nineteen, right_items, nineteen_before_two, nineteen_before_one, limit_refused, no_limit, answers_unlooked, answers_are_one, empty_is_four, always_nineteen, nineteen_written, moves_refused, stops_at_refusal, all_or_nothing, last_skipped, uncommits, commits, pends_none, pends_all, last_counts, says_only, answers_left, refused_by_item, Fails, ListsFail}

-- a list that keeps the sentences is the rules' list
is-rules : (lists : Listing) → ReleasesLists (but_lists lists) → (w : World) (t : Items) → lists w 0 plain t ≡ release_list w 0 plain t
is-rules lists r w t = determined (but_lists lists) by_rules (λ w ns settings c. refl) r releases-lists w 0 plain t

-- ---- what is seen of a list: the number that it is answered, the number at a place, and the first words of the used, the committed and the pending map of the first arena

abbrev answered : ListOutcome → ℕ
answered o = item_number o.whole.answer

abbrev place : ℕ → ListOutcome → ℕ
place j o = get_or o.numbers j 0

abbrev used : ListOutcome → ℕ
used o = get_or (at o.whole.world.records 0).used 0 0

abbrev committed : ListOutcome → ℕ
committed o = get_or (at o.whole.world.records 0).committed 0 0

abbrev pending : ListOutcome → ℕ
pending o = get_or (at o.whole.world.records 0).pending 0 0

-- seen otherwise than of the rules
record Differs (lists : Listing) (w : World) (t : Items) (sees : ListOutcome → ℕ) : Type 0 where
  wrong : ℕ
  right : ℕ
  by-it : sees (lists w 0 plain t) ≡ wrong
  by-rules : sees (release_list w 0 plain t) ≡ right
  differ : wrong ≡ right → ⊥

fails : (lists : Listing) (w : World) (t : Items) (sees : ListOutcome → ℕ) → Differs lists w t sees → Fails lists
fails lists w t sees d r = d.differ (sym d.by-it ∙ ap sees (is-rules lists r w t) ∙ d.by-rules)

-- ---- the lists, on the table where program 7 holds the chunk at S

abbrev release-it : Bool → Items
release-it later = items (S ∷ []) (1 ∷ []) (99 ∷ []) later

-- an item of no arena before it, and behind it
abbrev outside-first : Items
outside-first = items (5 ∷ S ∷ []) (1 ∷ 1 ∷ []) (99 ∷ 99 ∷ []) false

abbrev outside-last : Items
outside-last = items (S ∷ 5 ∷ []) (1 ∷ 1 ∷ []) (99 ∷ 99 ∷ []) false

abbrev few-counts : Items
few-counts = items (S ∷ S ∷ []) (1 ∷ []) (99 ∷ 98 ∷ []) false

abbrev no-answers : Items
no-answers = items (S ∷ []) (1 ∷ []) [] false

-- a commit of the chunk is asked for
abbrev asked : World
asked = world_of (own 1 ∷ replicate 31 blank) (replicate 32768 0) (state_with 1 false (Committing 0 0 1))

record Computed : Type 0 where
  before-two : (answered (nineteen_before_two asked 0 plain few-counts) ≡ 19) × (answered (release_list asked 0 plain few-counts) ≡ 2)
  before-one : (answered (nineteen_before_one short 0 plain few-counts) ≡ 19) × (answered (release_list short 0 plain few-counts) ≡ 1)
  unlooked : (answered (answers_unlooked held 0 plain no-answers) ≡ 0) × (answered (release_list held 0 plain no-answers) ≡ 19)
  are-one : answered (answers_are_one held 0 plain no-answers) ≡ 1
  empty-four : (answered (empty_is_four held 0 plain (items [] [] [] false)) ≡ 4) × (answered (release_list held 0 plain (items [] [] [] false)) ≡ 0)
  always : answered (always_nineteen held 0 plain (release-it false)) ≡ 19
  written : (place 0 (nineteen_written held 0 plain few-counts) ≡ 19) × (place 0 (release_list held 0 plain few-counts) ≡ 99)
  moves : (used (moves_refused held 0 plain few-counts) ≡ 0) × (used (release_list held 0 plain few-counts) ≡ 1)
  skipped : used (last_skipped held 0 plain (release-it false)) ≡ 1
  says : used (says_only held 0 plain (release-it false)) ≡ 1
  left : place 0 (answers_left held 0 plain (release-it false)) ≡ 99
  un : committed (uncommits held 0 plain (release-it false)) ≡ 0
  pend-none : pending (pends_none held 0 plain (release-it true)) ≡ 0
  pend-all : pending (pends_all held 0 plain (release-it false)) ≡ 1
  right : (answered (release_list held 0 plain (release-it false)) ≡ 0) × (used (release_list held 0 plain (release-it false)) ≡ 0) × (place 0 (release_list held 0 plain (release-it false)) ≡ 0)
      × (committed (release_list held 0 plain (release-it false)) ≡ 1) × (pending (release_list held 0 plain (release-it false)) ≡ 0) × (pending (release_list held 0 plain (release-it true)) ≡ 1)

computed : Computed
unfolding enter in_range bit bit_at within as_number pack write_run all least lowest_run or_one now_ms delay_ms never_purges keeps armed is_due arena_allowed page_size_sound new_arena reserved_arena managed_arena adopted_arena grown_arena find_run run_committed run_fresh take_run give_back_run commit_run dirty_run finish_grant tell_run pend_run release_run stamp_run sweep_due disarm young to_ask next_asked borrow_chunk unpend_chunk return_chunk rearm bytes_of end_of is_inside sound_range clear_past clear_past_all sound_arena empty meets overlaps bad_range find_arena apart sound_question sound_table sound_lent chunks_for too_large bytes_asked ask_memory reserve_reply bad_count no_whole_chunk grows reserve_of manage_of adopt_of eligible serves asks_commit grant_arena grant_reply miss_reply search_of claim_of release_of purge_reply swept_reply visit sweep_from is_for answer_of rules list_fits release_list
computed = record {
  before-two = (refl, refl);
  before-one = (refl, refl);
  unlooked = (refl, refl);
  are-one = refl;
  empty-four = (refl, refl);
  always = refl;
  written = (refl, refl);
  moves = (refl, refl);
  skipped = refl;
  says = refl;
  left = refl;
  un = refl;
  pend-none = refl;
  pend-all = refl;
  right = (refl, refl, refl, refl, refl, refl);
}

-- ---- lists of two items

-- the chunk at S is not committed
abbrev bare : World
bare =
    world_of (record { base = S; chunks = 1; exclusive = 1; owned = 0; node = negsuc 0; deadline = 0; used = row 1; dirty = row 1; committed = row 0; pending = row 0 } ∷ replicate 31 blank) (replicate 32768 0)
    (state_with 1 false Idle)

record OfTwo : Type 0 where
  stops : place 1 (stops_at_refusal held 0 plain outside-first) ≡ 99
  right-first : place 1 (release_list held 0 plain outside-first) ≡ 0
  commits-it : (committed (commits bare 0 plain (release-it false)) ≡ 1) × (committed (release_list bare 0 plain (release-it false)) ≡ 0)

of_two : OfTwo
unfolding enter in_range bit bit_at within as_number pack write_run all least lowest_run or_one now_ms delay_ms never_purges keeps armed is_due arena_allowed page_size_sound new_arena reserved_arena managed_arena adopted_arena grown_arena find_run run_committed run_fresh take_run give_back_run commit_run dirty_run finish_grant tell_run pend_run release_run stamp_run sweep_due disarm young to_ask next_asked borrow_chunk unpend_chunk return_chunk rearm bytes_of end_of is_inside sound_range clear_past clear_past_all sound_arena empty meets overlaps bad_range find_arena apart sound_question sound_table sound_lent chunks_for too_large bytes_asked ask_memory reserve_reply bad_count no_whole_chunk grows reserve_of manage_of adopt_of eligible serves asks_commit grant_arena grant_reply miss_reply search_of claim_of release_of purge_reply swept_reply visit sweep_from is_for answer_of rules list_fits release_list
of_two = record { stops = refl; right-first = refl; commits-it = (refl, refl) }

record Behind : Type 0 where
  none_moves : used (all_or_nothing held 0 plain outside-last) ≡ 1
  last-alone : used (last_counts held 0 plain outside-last) ≡ 1
  refused-too : answered (refused_by_item held 0 plain outside-last) ≡ 19
  right-last : (used (release_list held 0 plain outside-last) ≡ 0) × (answered (release_list held 0 plain outside-last) ≡ 0)

behind : Behind
unfolding enter in_range bit bit_at within as_number pack write_run all least lowest_run or_one now_ms delay_ms never_purges keeps armed is_due arena_allowed page_size_sound new_arena reserved_arena managed_arena adopted_arena grown_arena find_run run_committed run_fresh take_run give_back_run commit_run dirty_run finish_grant tell_run pend_run release_run stamp_run sweep_due disarm young to_ask next_asked borrow_chunk unpend_chunk return_chunk rearm bytes_of end_of is_inside sound_range clear_past clear_past_all sound_arena empty meets overlaps bad_range find_arena apart sound_question sound_table sound_lent chunks_for too_large bytes_asked ask_memory reserve_reply bad_count no_whole_chunk grows reserve_of manage_of adopt_of eligible serves asks_commit grant_arena grant_reply miss_reply search_of claim_of release_of purge_reply swept_reply visit sweep_from is_for answer_of rules list_fits release_list
behind = record { none_moves = refl; last-alone = refl; refused-too = refl; right-last = (refl, refl) }

-- ---- lists of 32,768 items, and of one more

abbrev as_long : ℕ → Items
as_long k = items (replicate k 0) (replicate k 0) (replicate k 99) false

long : (k x : ℕ) → length (replicate k x) ≡ k
long k x = length-replicate {A = ℕ} k x

same-lengths : (k : ℕ) → k ≤ 32768 → OneLength (as_long k)
same-lengths k h = record { as-counts = refl; as-answers = long k 99 ∙ sym (long k 0); most = omega (arith, h, long k 0) }

and-false : (b : Bool) → (b && false) ≡ false
and-false true = refl
and-false false = refl

record Rows : Type 0 where
  sound-held : sound (size_of held.state) held 4096 ≡ true

rows : Rows
unfolding enter in_range bit bit_at within as_number pack write_run all least lowest_run or_one now_ms delay_ms never_purges keeps armed is_due arena_allowed page_size_sound new_arena reserved_arena managed_arena adopted_arena grown_arena find_run run_committed run_fresh take_run give_back_run commit_run dirty_run finish_grant tell_run pend_run release_run stamp_run sweep_due disarm young to_ask next_asked borrow_chunk unpend_chunk return_chunk rearm bytes_of end_of is_inside sound_range clear_past clear_past_all sound_arena empty meets overlaps bad_range find_arena apart sound_question sound_table sound_lent chunks_for too_large bytes_asked ask_memory reserve_reply bad_count no_whole_chunk grows reserve_of manage_of adopt_of eligible serves asks_commit grant_arena grant_reply miss_reply search_of claim_of release_of purge_reply swept_reply visit sweep_from is_for answer_of rules list_fits release_list
rows = record { sound-held = refl }

-- a list on that table, whatever is 19's test
nineteen-says : (t : Items) (fits : Bool) → ListOutcome
nineteen-says t fits = first_of (one held plain t ∷ two held t ∷ nineteen held t fits ∷ []) (right_items held 0 plain t)

says-nineteen : (t : Items) (fits : Bool) → fits ≡ false → answered (nineteen-says t fits) ≡ 19
unfolding nineteen-says
says-nineteen t fits e =
    ap answered (unless (not (sound (size_of held.state) held 4096)) (list_outcome (outcome (Refused Broken) held) t.answers) (cond (not fits) (list_outcome (outcome (Refused ListLength) held) t.answers) (right_items held 0 plain t)) (ap not rows.sound-held))
    ∙ ap (λ (b : Bool). answered (cond (not b) (list_outcome (outcome (Refused ListLength) held) t.answers) (right_items held 0 plain t))) e

says_none : (t : Items) (fits : Bool) → fits ≡ true → answered (nineteen-says t fits) ≡ 0
unfolding nineteen-says
says_none t fits e =
    ap answered (unless (not (sound (size_of held.state) held 4096)) (list_outcome (outcome (Refused Broken) held) t.answers) (cond (not fits) (list_outcome (outcome (Refused ListLength) held) t.answers) (right_items held 0 plain t)) (ap not rows.sound-held))
    ∙ ap (λ (b : Bool). answered (cond (not b) (list_outcome (outcome (Refused ListLength) held) t.answers) (right_items held 0 plain t))) e
    ∙ ap item_number (each-granted 0 plain t.pending held t.addresses t.counts)

abbrev len : ℕ → ℕ → ℕ
len k x = length (replicate k x)

limit-fits : (list_fits (as_long 32768) && ltb (len 32768 0) 32768) ≡ false
limit-fits = ap (λ (k : ℕ). list_fits (as_long 32768) && ltb k 32768) (long 32768 0) ∙ and-false (list_fits (as_long 32768))

past_fits : (eqb (len 32769 0) (len 32769 0) && eqb (len 32769 99) (len 32769 0)) ≡ true
past_fits = ap₂ ◌&&◌ (eq-eqb (len 32769 0) (len 32769 0) refl) (eq-eqb (len 32769 99) (len 32769 0) (long 32769 99 ∙ sym (long 32769 0)))

at-the-limit : Differs limit_refused held (as_long 32768) answered
unfolding nineteen-says
at-the-limit = record {
  wrong = 19;
  right = 0;
  by-it = says-nineteen (as_long 32768) (list_fits (as_long 32768) && ltb (len 32768 0) 32768) limit-fits;
  by-rules = ap item_number (releases-lists.granted-else held 0 plain (as_long 32768) rows.sound-held refl (same-lengths 32768 (omega arith)));
  differ = λ e. omega (arith, e);
}

past-the-limit : Differs no_limit held (as_long 32769) answered
unfolding nineteen-says
past-the-limit = record {
  wrong = 0;
  right = 19;
  by-it = says_none (as_long 32769) (eqb (len 32769 0) (len 32769 0) && eqb (len 32769 99) (len 32769 0)) past_fits;
  by-rules = ap item_number ((releases-lists.nineteen-exactly held 0 plain (as_long 32769) rows.sound-held refl).1 (λ l. omega (arith, l.most, long 32769 0)));
  differ = λ e. omega (arith, e);
}

-- ---- demand 3, on the history of the ground: the chunk is managed, claimed, and given back by a list

abbrev gives_back : MarkedList
gives_back = record { who = 7; lent = held; ns = 0; settings = plain; items = release-it false }

abbrev holding : Trail
holding = stand held 7 (claims_on clear)

abbrev freed : ListOutcome
freed = list_outcome (outcome Released clear) (0 ∷ [])

record Given : Type 0 where
  sound-list : is_sound_list gives_back ≡ true
  by-rules : release_list held 0 plain (release-it false) ≡ freed
  nineteen : always_nineteen held 0 plain (release-it false) ≡ list_outcome (outcome (Refused ListLength) held) (99 ∷ [])
  words-alone : says_only held 0 plain (release-it false) ≡ list_outcome (outcome Released held) (0 ∷ [])
  sound-held : is_sound (claims_on held) ≡ true
  none_left : step held 0 plain (claims_on held).call ≡ outcome (Refused NoRun) held
  says_two : say_all (book_of arena) (claims lowest 1 ∷ frees S 1 ∷ []) ≡ granted S false ∷ released ∷ []
  says_three : say_all (book_of arena) (claims lowest 1 ∷ frees S 1 ∷ claims lowest 1 ∷ []) ≡ granted S false ∷ released ∷ granted S false ∷ []

given : Given
unfolding enter in_range bit bit_at within as_number pack write_run all least lowest_run or_one now_ms delay_ms never_purges keeps armed is_due arena_allowed page_size_sound new_arena reserved_arena managed_arena adopted_arena grown_arena find_run run_committed run_fresh take_run give_back_run commit_run dirty_run finish_grant tell_run pend_run release_run stamp_run sweep_due disarm young to_ask next_asked borrow_chunk unpend_chunk return_chunk rearm bytes_of end_of is_inside sound_range clear_past clear_past_all sound_arena empty meets overlaps bad_range find_arena apart sound_question sound_table sound_lent chunks_for too_large bytes_asked ask_memory reserve_reply bad_count no_whole_chunk grows reserve_of manage_of adopt_of eligible serves asks_commit grant_arena grant_reply miss_reply search_of claim_of release_of purge_reply swept_reply visit sweep_from is_for answer_of rules list_fits release_list
given = record { sound-list = refl; by-rules = refl; nineteen = refl; words-alone = refl; sound-held = refl; none_left = refl; says_two = refl; says_three = refl }

held-by-7 : (lists : Listing) → After (but_lists lists) 7 arena (next (next begin manages) (claims_on clear)) holding held (claims lowest 1 ∷ []) (granted S false ∷ [])
unfolding in_range
held-by-7 lists =
    after-made (but_lists lists) 7 arena _ opened clear [] [] (opens (but_lists lists) ground.registered) (claims_on clear) (outcome (Claimed S false true) held) (outcome (Claimed S false true) held)
    (claims lowest 1 ∷ []) (granted S false ∷ []) (record { sound = ground.sound-clear; by-rules = ground.claimed; by-layer = ground.claimed; passed = refl }) refl
    (own-call 7 arena opened (claims_on clear) refl refl refl) refl refl

-- what a list leaves and says
given_back : (lists : Listing) (o : ListOutcome) (rs : List Say) → lists held 0 plain (release-it false) ≡ o → is_broken o.whole.answer ≡ false
    → hears arena (entries_of_list gives_back) (said_of_list (entries_of_list gives_back) o.whole.answer o.numbers) ≡ rs
    → After (but_lists lists) 7 arena (listing (next (next begin manages) (claims_on clear)) gives_back) (stand clear 7 (claims_on clear)) o.whole.world (claims lowest 1 ∷ frees S 1 ∷ []) (granted S false ∷ rs)
unfolding in_range list_fits
given_back lists o rs e passed s =
    after_list (but_lists lists) 7 arena _ holding held _ _ (held-by-7 lists) gives_back freed o true (frees S 1 ∷ []) rs
    (record { sound = given.sound-list; by-rules = given.by-rules; by-layer = e; passed = passed; takes = refl }) refl (own-list 7 arena holding gives_back refl refl given.sound-list) refl s

-- the second and the third of what is said
abbrev is_released : Say → Bool
is_released released = true
is_released (granted x fresh) = false
is_released (refused why) = false

abbrev second : List Say → Say
second (s ∷ r ∷ ss) = r
second (s ∷ []) = s
second [] = released

abbrev third : List Say → Say
third (s ∷ r ∷ q ∷ ss) = q
third (s ∷ r ∷ []) = released
third (s ∷ []) = released
third [] = released

abbrev is_granted : Say → Bool
is_granted released = false
is_granted (granted x fresh) = true
is_granted (refused why) = false

book-says-released : Demand3 (but_lists always_nineteen) → ⊥
unfolding in_range
book-says-released d =
    let r = given_back always_nineteen (list_outcome (outcome (Refused ListLength) held) (99 ∷ [])) (refused 19 ∷ []) given.nineteen refl refl in
    let b = by-book (but_lists always_nineteen) 7 arena _ (stand clear 7 (claims_on clear)) held _ _ r d in
    true≢false (sym (ap (λ (l : List Say). is_released (second l)) (b.1 ∙ given.says_two)))

book-says-free : Demand3 (but_lists says_only) → ⊥
unfolding in_range
book-says-free d =
    let L = but_lists says_only in
    let r = given_back says_only (list_outcome (outcome Released held) (0 ∷ [])) (released ∷ []) given.words-alone refl refl in
    let q = after-made L 7 arena _ (stand clear 7 (claims_on clear)) held _ _ r (claims_on held) (outcome (Claimed S false true) held) (outcome (Refused NoRun) held) (claims lowest 1 ∷ []) (refused 10 ∷ [])
    (record { sound = given.sound-held; by-rules = ground.claimed; by-layer = given.none_left; passed = refl }) refl (own-call 7 arena (stand clear 7 (claims_on clear)) (claims_on held) refl refl refl) refl refl in
    let b = by-book L 7 arena _ (stand held 7 (claims_on held)) held _ _ q d in
    true≢false (sym (ap (λ (l : List Say). is_granted (third l)) (b.1 ∙ given.says_three)))

-- ---- that each fails

abbrev differing : (lists : Listing) (w : World) (t : Items) (sees : ListOutcome → ℕ) (wrong right : ℕ) → sees (lists w 0 plain t) ≡ wrong → sees (release_list w 0 plain t) ≡ right → (wrong ≡ right → ⊥) → Fails lists
differing lists w t sees wrong right e f d = fails lists w t sees (record { wrong = wrong; right = right; by-it = e; by-rules = f; differ = d })

pub lists-fail : ListsFail
lists-fail = record {
  nineteen-before-two = differing nineteen_before_two asked few-counts answered 19 2 computed.before-two.0 computed.before-two.1 (λ e. omega (arith, e));
  nineteen-before-one = differing nineteen_before_one short few-counts answered 19 1 computed.before-one.0 computed.before-one.1 (λ e. omega (arith, e));
  limit-refused = fails limit_refused held (as_long 32768) answered at-the-limit;
  no-limit = fails no_limit held (as_long 32769) answered past-the-limit;
  answers-unlooked = differing answers_unlooked held no-answers answered 0 19 computed.unlooked.0 computed.unlooked.1 (λ e. omega (arith, e));
  answers-are-one = differing answers_are_one held no-answers answered 1 19 computed.are-one computed.unlooked.1 (λ e. omega (arith, e));
  empty-is-four = differing empty_is_four held (items [] [] [] false) answered 4 0 computed.empty-four.0 computed.empty-four.1 (λ e. omega (arith, e));
  always-nineteen = differing always_nineteen held (release-it false) answered 19 0 computed.always computed.right.0 (λ e. omega (arith, e));
  nineteen-written = differing nineteen_written held few-counts (place 0) 19 99 computed.written.0 computed.written.1 (λ e. omega (arith, e));
  moves-refused = differing moves_refused held few-counts used 0 1 computed.moves.0 computed.moves.1 (λ e. omega (arith, e));
  stops-at-refusal = differing stops_at_refusal held outside-first (place 1) 99 0 of_two.stops of_two.right-first (λ e. omega (arith, e));
  all-or-nothing = differing all_or_nothing held outside-last used 1 0 behind.none_moves behind.right-last.0 (λ e. omega (arith, e));
  last-skipped = differing last_skipped held (release-it false) used 1 0 computed.skipped computed.right.1 (λ e. omega (arith, e));
  uncommits-them = differing uncommits held (release-it false) committed 0 1 computed.un computed.right.3 (λ e. omega (arith, e));
  commits-them = differing commits bare (release-it false) committed 1 0 of_two.commits-it.0 of_two.commits-it.1 (λ e. omega (arith, e));
  pends-none = differing pends_none held (release-it true) pending 0 1 computed.pend-none computed.right.5 (λ e. omega (arith, e));
  pends-all = differing pends_all held (release-it false) pending 1 0 computed.pend-all computed.right.4 (λ e. omega (arith, e));
  last-counts = differing last_counts held outside-last used 1 0 behind.last-alone behind.right-last.0 (λ e. omega (arith, e));
  says-only = differing says_only held (release-it false) used 1 0 computed.says computed.right.1 (λ e. omega (arith, e));
  answers-left = differing answers_left held (release-it false) (place 0) 99 0 computed.left computed.right.2 (λ e. omega (arith, e));
  refused-by-item = differing refused_by_item held outside-last answered 19 0 behind.refused-too behind.right-last.1 (λ e. omega (arith, e));
  book-says-released = book-says-released;
  book-says-free = book-says-free;
}
