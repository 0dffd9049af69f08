-- The history meets the premises of demand 3, and its program is told what its share book says: computed. Assumes nothing.
use Rattle.std.specs.Prelude.{◌≡◌, ◌∷◌, ◌++◌, ◌+◌, ◌*◌}
use Rattle.layer.proofs.Prelude.{refl, ap, ◌∙◌, true, false, not, List, [], ℕ, arith, lit<, bit, bit_at, within, as_number, pack, write_run, all, least, lowest_run, or_one, now_ms, delay_ms, never_purges, keeps, armed, is_due, arena_allowed, page_size_sound, new_arena, reserved_arena, managed_arena, adopted_arena, grown_arena, find_run, run_committed, run_fresh, take_run, give_back_run, commit_run, dirty_run, finish_grant, tell_run, pend_run, release_run, stamp_run, sweep_due, disarm, young, to_ask, next_asked, borrow_chunk, unpend_chunk, return_chunk, rearm, bytes_of, end_of, is_inside, sound_range, clear_past, clear_past_all, sound_arena, NoRun, World, Outcome, outcome, empty, meets, overlaps, bad_range, find_arena, apart, sound_question, sound_table, sound_lent, chunks_for, too_large, bytes_asked, ask_memory, reserve_reply, bad_count, no_whole_chunk, grows, reserve_of, manage_of, adopt_of, eligible, serves, asks_commit, grant_arena, grant_reply, miss_reply, search_of, claim_of, release_of, purge_reply, swept_reply, visit, sweep_from, is_for, answer_of, join, rules, lowest, Fed, claims, releases as frees, Say, refused, granted, released, enter, say_all, Marked, begin, is_sound, by_rules, Trail, start, in_range, waits, book_of}
use Rattle.layer.specs.declared.Ask.TheVariants.{AskCommit, AskPurge, AskMemory}
use Rattle.layer.specs.declared.Answer.TheVariants.{Refused, Asks, Registered, Claimed, Released, Swept}
use Rattle.layer.proofs.Trails.{row-1}
use Rattle.document_cases.specs.Example.{S, base, elsewhere, w₀, w₁, w₂, w₃, w₄, w₅, w₆, w₇, w₈, w₉, w₁₀, w₁₁, c₀, c₁, c₂, c₃, c₄, c₅, c₆, c₇, c₈, c₉, c₁₀, c₁₁, c₁₂, c₁₃, go_on, history, arena, feeding, telling, owing, Example}
use Rattle.document_cases.proofs.Runs.{Joining, joins_by, at-start, After, Made, before-made, open_made, after-made, after-broken, own-call, own-answer, others-call, broken-call}

-- the rules' own run after a call
abbrev pub stand : World → ℕ → Marked → Trail
stand w who m = record { world = w; asker = who; asked = m.call }

other : ◌≡◌ {A = ℕ} 9 7 → ⊥
other e = omega arith

-- ---- what each call is answered, and leaves

pub record Calls : Type 0 where
  pub k₀ : Made by_rules start c₀ (outcome (Asks (AskMemory 100663296 S false false)) w₀) (outcome (Asks (AskMemory 100663296 S false false)) w₀)
  pub k₁ : Made by_rules (stand w₀ 9 c₀) c₁ (outcome (Registered 0) w₁) (outcome (Registered 0) w₁)
  pub k₂ : Made by_rules (stand w₁ 9 c₀) c₂ (outcome (Claimed base true false) w₂) (outcome (Claimed base true false) w₂)
  pub k₃ : Made by_rules (stand w₂ 7 c₂) c₃ (outcome (Asks (AskCommit (base + S) S)) w₃) (outcome (Asks (AskCommit (base + S) S)) w₃)
  pub k₄ : Made by_rules (stand w₃ 7 c₃) c₄ (outcome (Claimed (base + S) true true) w₄) (outcome (Claimed (base + S) true true) w₄)
  pub k₅ : Made by_rules (stand w₄ 7 c₃) c₅ (outcome (Released) w₅) (outcome (Released) w₅)
  pub k₆ : Made by_rules (stand w₅ 7 c₅) c₆ (outcome (Registered 1) w₆) (outcome (Registered 1) w₆)
  pub k₇ : Made by_rules (stand w₆ 9 c₆) c₇ (outcome (Claimed elsewhere false true) w₇) (outcome (Claimed elsewhere false true) w₇)
  pub k₈ : Made by_rules (stand w₇ 9 c₇) c₈ (outcome (Asks (AskPurge base S false)) w₈) (outcome (Asks (AskPurge base S false)) w₈)
  pub k₉ : is_sound c₉ ≡ false
  pub k₁₀ : Made by_rules (stand w₈ 9 c₈) c₁₀ (outcome (Swept 1) w₉) (outcome (Swept 1) w₉)
  pub k₁₁ : Made by_rules (stand w₉ 9 c₈) c₁₁ (outcome (Refused NoRun) w₉) (outcome (Refused NoRun) w₉)
  pub k₁₂ : Made by_rules (stand w₉ 7 c₁₁) c₁₂ (outcome (Claimed base false false) w₁₀) (outcome (Claimed base false false) w₁₀)
  pub k₁₃ : Made by_rules (stand w₁₀ 7 c₁₂) c₁₃ (outcome (Asks (AskCommit (base + 2 * S) S)) w₁₁) (outcome (Asks (AskCommit (base + 2 * S) S)) w₁₁)

pub computed : Calls
unfolding enter in_range bit bit_at within as_number pack write_run all least lowest_run or_one now_ms delay_ms never_purges keeps armed is_due arena_allowed page_size_sound new_arena reserved_arena managed_arena adopted_arena grown_arena find_run run_committed run_fresh take_run give_back_run commit_run dirty_run finish_grant tell_run pend_run release_run stamp_run sweep_due disarm young to_ask next_asked borrow_chunk unpend_chunk return_chunk rearm bytes_of end_of is_inside sound_range clear_past clear_past_all sound_arena empty meets overlaps bad_range find_arena apart sound_question sound_table sound_lent chunks_for too_large bytes_asked ask_memory reserve_reply bad_count no_whole_chunk grows reserve_of manage_of adopt_of eligible serves asks_commit grant_arena grant_reply miss_reply search_of claim_of release_of purge_reply swept_reply visit sweep_from is_for answer_of rules
computed = record {
  k₀ = record { sound = refl; by-rules = refl; by-layer = refl; passed = refl };
  k₁ = record { sound = refl; by-rules = refl; by-layer = refl; passed = refl };
  k₂ = record { sound = refl; by-rules = refl; by-layer = refl; passed = refl };
  k₃ = record { sound = refl; by-rules = refl; by-layer = refl; passed = refl };
  k₄ = record { sound = refl; by-rules = refl; by-layer = refl; passed = refl };
  k₅ = record { sound = refl; by-rules = refl; by-layer = refl; passed = refl };
  k₆ = record { sound = refl; by-rules = refl; by-layer = refl; passed = refl };
  k₇ = record { sound = refl; by-rules = refl; by-layer = refl; passed = refl };
  k₈ = record { sound = refl; by-rules = refl; by-layer = refl; passed = refl };
  k₉ = refl;
  k₁₀ = record { sound = refl; by-rules = refl; by-layer = refl; passed = refl };
  k₁₁ = record { sound = refl; by-rules = refl; by-layer = refl; passed = refl };
  k₁₂ = record { sound = refl; by-rules = refl; by-layer = refl; passed = refl };
  k₁₃ = record { sound = refl; by-rules = refl; by-layer = refl; passed = refl };
}

-- ---- one after the other

-- what the rules make of a call, and a layer that joins in another way
pub also : (J : Joining) (t : Trail) (m : Marked) (o o' : Outcome) → Made by_rules t m o o' → Made (joins_by J) t m o o'
also J t m o o' k = record { sound = k.sound; by-rules = k.by-rules; by-layer = k.by-layer; passed = k.passed }

-- the first three calls, whatever a layer joins
pub begun : (J : Joining) → Calls → After (joins_by J) 7 arena (go_on begin (c₀ ∷ c₁ ∷ c₂ ∷ [])) (stand w₂ 7 c₂) w₂ (claims lowest 1 ∷ []) (granted base true ∷ [])
unfolding in_range is_for empty
begun J c =
    let L = joins_by J in
    let b₀ = before-made L begin start empty (at-start L) c₀ (outcome (Asks (AskMemory 100663296 S false false)) w₀) (outcome (Asks (AskMemory 100663296 S false false)) w₀) (also J _ _ _ _ c.k₀) refl in
    let r₁ = open_made L 7 _ (stand w₀ 9 c₀) w₀ b₀ c₁ (outcome (Registered 0) w₁) (outcome (Registered 0) w₁) (record { base = base; chunks = 3; managed = false; is-sound = c.k₁.sound; registrable = record { some = omega arith; few = omega arith; whole = refl; somewhere = omega arith; ends = lit< tt; apart = λ i h. absurd (omega arith); room = omega arith }; registers = record { bytes = 100663296; commit = false; large = false; is_call = refl; memory-open = refl; asked_by = refl; rounds = (omega arith, omega arith) } }) (also J _ _ _ _ c.k₁) refl in
    after-made L 7 arena _ (stand w₁ 9 c₀) w₁ _ _ r₁ c₂ (outcome (Claimed base true false) w₂) (outcome (Claimed base true false) w₂) (claims lowest 1 ∷ []) (granted base true ∷ []) (also J _ _ _ _ c.k₂) refl (own-call 7 arena (stand w₁ 9 c₀) c₂ refl refl refl) refl refl

worked : Calls → (fs : List Fed) × (ss : List Say) × After by_rules 7 arena history (stand w₁₁ 7 c₁₃) w₁₁ fs ss × (fs ≡ feeding) × (ss ≡ telling)
unfolding in_range is_for empty
worked c =
    let r₂ = begun join c in
    let r₃ = after-made by_rules 7 arena _ (stand w₂ 7 c₂) w₂ _ _ r₂ c₃ (outcome (Asks (AskCommit (base + S) S)) w₃) (outcome (Asks (AskCommit (base + S) S)) w₃) (claims lowest 1 ∷ []) ([]) c.k₃ refl (own-call 7 arena (stand w₂ 7 c₂) c₃ refl refl refl) refl refl in
    let r₄ = after-made by_rules 7 arena _ (stand w₃ 7 c₃) w₃ _ _ r₃ c₄ (outcome (Claimed (base + S) true true) w₄) (outcome (Claimed (base + S) true true) w₄) ([]) (granted (base + S) true ∷ []) c.k₄ refl (own-answer 7 arena (stand w₃ 7 c₃) c₄ refl refl refl) refl refl in
    let r₅ = after-made by_rules 7 arena _ (stand w₄ 7 c₃) w₄ _ _ r₄ c₅ (outcome (Released) w₅) (outcome (Released) w₅) (frees base 1 ∷ []) (released ∷ []) c.k₅ refl (own-call 7 arena (stand w₄ 7 c₃) c₅ refl refl refl) refl refl in
    let r₆ = after-made by_rules 7 arena _ (stand w₅ 7 c₅) w₅ _ _ r₅ c₆ (outcome (Registered 1) w₆) (outcome (Registered 1) w₆) ([]) ([]) c.k₆ refl (others-call 7 arena (stand w₅ 7 c₅) c₆ other refl refl) refl refl in
    let r₇ = after-made by_rules 7 arena _ (stand w₆ 9 c₆) w₆ _ _ r₆ c₇ (outcome (Claimed elsewhere false true) w₇) (outcome (Claimed elsewhere false true) w₇) ([]) ([]) c.k₇ refl (others-call 7 arena (stand w₆ 9 c₆) c₇ other refl refl) refl refl in
    let r₈ = after-made by_rules 7 arena _ (stand w₇ 9 c₇) w₇ _ _ r₇ c₈ (outcome (Asks (AskPurge base S false)) w₈) (outcome (Asks (AskPurge base S false)) w₈) ([]) ([]) c.k₈ refl (others-call 7 arena (stand w₇ 9 c₇) c₈ other refl refl) refl refl in
    let r₉ = after-broken by_rules 7 arena _ (stand w₈ 9 c₈) w₈ _ _ r₈ c₉ c.k₉ (row-1 c₉ ∙ ap not c.k₉) (broken-call 7 arena (stand w₈ 9 c₈) c₉ other c.k₉) in
    let r₁₀ = after-made by_rules 7 arena _ (stand w₈ 9 c₈) w₈ _ _ r₉ c₁₀ (outcome (Swept 1) w₉) (outcome (Swept 1) w₉) ([]) ([]) c.k₁₀ refl (others-call 7 arena (stand w₈ 9 c₈) c₁₀ other refl refl) refl refl in
    let r₁₁ = after-made by_rules 7 arena _ (stand w₉ 9 c₈) w₉ _ _ r₁₀ c₁₁ (outcome (Refused NoRun) w₉) (outcome (Refused NoRun) w₉) (claims lowest 2 ∷ []) (refused 10 ∷ []) c.k₁₁ refl (own-call 7 arena (stand w₉ 9 c₈) c₁₁ refl refl refl) refl refl in
    let r₁₂ = after-made by_rules 7 arena _ (stand w₉ 7 c₁₁) w₉ _ _ r₁₁ c₁₂ (outcome (Claimed base false false) w₁₀) (outcome (Claimed base false false) w₁₀) (claims lowest 1 ∷ []) (granted base false ∷ []) c.k₁₂ refl (own-call 7 arena (stand w₉ 7 c₁₁) c₁₂ refl refl refl) refl refl in
    let r₁₃ = after-made by_rules 7 arena _ (stand w₁₀ 7 c₁₂) w₁₀ _ _ r₁₂ c₁₃ (outcome (Asks (AskCommit (base + 2 * S) S)) w₁₁) (outcome (Asks (AskCommit (base + 2 * S) S)) w₁₁) (claims lowest 1 ∷ []) ([]) c.k₁₃ refl (own-call 7 arena (stand w₁₀ 7 c₁₂) c₁₃ refl refl refl) refl refl in
    (_, _, r₁₃, refl, refl)

says : say_all (book_of arena) feeding ≡ telling ++ owing
unfolding enter within all least lowest_run
says = refl

pub example : Example
example =
    let r = (worked computed).2 in
    record {
      opens = r.opens;
      place_is = r.place_is;
      lent = r.stands.lent;
      keeps = r.keeps;
      fed-is = r.fed-is ∙ (worked computed).3;
      told_is = r.told_is ∙ (worked computed).4;
      waits-is = ap (waits arena) r.stands.ruled-is;
      book-says = says;
    }
