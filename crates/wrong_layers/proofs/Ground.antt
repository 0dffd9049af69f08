-- What the histories of wrong layers share: a managed arena of one chunk at S, whose program is 7; 9 is another. Assumes nothing.
use Rattle.std.specs.Prelude.{◌≡◌, ◌∷◌}
use Rattle.layer.proofs.Prelude.{refl, Bool, true, false, List, [], ℕ, arith, lit<, pos, negsuc, replicate, bit, bit_at, within, as_number, pack, write_run, all, least, lowest_run, or_one, now_ms, delay_ms, never_purges, keeps, armed, is_due, arena_allowed, page_size_sound, Arena, new_arena, reserved_arena, managed_arena, adopted_arena, grown_arena, find_run, run_committed, run_fresh, take_run, give_back_run, commit_run, dirty_run, finish_grant, tell_run, pend_run, release_run, stamp_run, sweep_due, disarm, young, to_ask, next_asked, borrow_chunk, unpend_chunk, return_chunk, rearm, bytes_of, end_of, is_inside, sound_range, clear_past, clear_past_all, sound_arena, World, blank, state_with, world_of, outcome, empty, meets, overlaps, bad_range, find_arena, apart, sound_question, sound_table, sound_lent, chunks_for, too_large, bytes_asked, ask_memory, reserve_reply, bad_count, no_whole_chunk, grows, reserve_of, manage_of, adopt_of, eligible, serves, asks_commit, grant_arena, grant_reply, miss_reply, search_of, claim_of, release_of, purge_reply, swept_reply, visit, sweep_from, is_for, answer_of, manage, claim, act, rules, step, lowest, claims, Say, refused, granted, enter, say_all, Marked, begin, next, is_sound, Layer, Trail, start, Place, in_range, OpensAt, book_of}
use Rattle.layer.specs.declared.Question.TheVariants.{Idle}
use Rattle.layer.specs.declared.Answer.TheVariants.{Registered, Claimed}
use Rattle.document_cases.specs.Example.{S, plain, row, by}
use Rattle.document_cases.proofs.Runs.{at-start, After, open_made}

-- the rules' own run after a call
abbrev pub stand : World → ℕ → Marked → Trail
stand w who m = record { world = w; asker = who; asked = m.call }

pub other : ◌≡◌ {A = ℕ} 9 7 → ⊥
other e = omega arith

pub clash : {A : Type 0} (why x : ℕ) (fresh : Bool) (r rs : List Say) → refused why ∷ r ≡ granted x fresh ∷ rs → A
clash why x fresh r rs e = absurd (let z : ◌≡◌ {A = ℕ} 0 1 = cc in omega arith)

-- ---- the calls, and what the rules make of them

abbrev pub own : ℕ → Arena
own used =
    record {
      base = S;
      chunks = 1;
      exclusive = 1;
      owned = 0;
      node = negsuc 0;
      deadline = 0;
      used = row used;
      dirty = row 1;
      committed = row 1;
      pending = row 0;
    }

-- nobody holds the chunk, and program 7 does
abbrev pub clear : World
clear = world_of (own 0 ∷ replicate 31 blank) (replicate 32768 0) (state_with 1 false Idle)

abbrev pub held : World
held = world_of (own 1 ∷ replicate 31 blank) (replicate 32768 0) (state_with 1 false Idle)

abbrev pub manages : Marked
manages = by 9 empty 0 (act (manage S S true (negsuc 0) false true))

abbrev pub claims_on : World → Marked
claims_on w = by 7 w 0 (act (claim (pos 0) 1 false))

abbrev pub arena : Place
arena = record { id = 0; size = S; base = S; chunks = 1; managed = true }

pub record Ground : Type 0 where
  pub sound_empty : is_sound manages ≡ true
  pub sound-clear : is_sound (claims_on clear) ≡ true
  pub registered : step empty 0 plain manages.call ≡ outcome (Registered 0) clear
  pub claimed : step clear 0 plain (claims_on clear).call ≡ outcome (Claimed S false true) held
  pub says-one : say_all (book_of arena) (claims lowest 1 ∷ []) ≡ granted S false ∷ []

pub ground : Ground
unfolding enter in_range bit bit_at within as_number pack write_run all least lowest_run or_one now_ms delay_ms never_purges keeps armed is_due arena_allowed page_size_sound new_arena reserved_arena managed_arena adopted_arena grown_arena find_run run_committed run_fresh take_run give_back_run commit_run dirty_run finish_grant tell_run pend_run release_run stamp_run sweep_due disarm young to_ask next_asked borrow_chunk unpend_chunk return_chunk rearm bytes_of end_of is_inside sound_range clear_past clear_past_all sound_arena empty meets overlaps bad_range find_arena apart sound_question sound_table sound_lent chunks_for too_large bytes_asked ask_memory reserve_reply bad_count no_whole_chunk grows reserve_of manage_of adopt_of eligible serves asks_commit grant_arena grant_reply miss_reply search_of claim_of release_of purge_reply swept_reply visit sweep_from is_for answer_of rules
ground = record { sound_empty = refl; sound-clear = refl; registered = refl; claimed = refl; says-one = refl }

-- ---- the book opens, whatever the layer does with claims

pub opening : OpensAt start manages
unfolding empty
opening = record {
  base = S;
  chunks = 1;
  managed = true;
  is-sound = ground.sound_empty;
  registrable = record { some = omega arith; few = omega arith; whole = refl; somewhere = omega arith; ends = lit< tt; apart = λ i h. absurd (omega arith); room = omega arith };
  registers = record { from = S; bytes = S; node = negsuc 0; is_call = refl; none_open = refl; some-start = omega arith; first = (omega arith, omega arith); last = (omega arith, omega arith); sum_fits = lit< tt };
}

abbrev pub opened : Trail
opened = stand clear 9 manages

pub opens : (L : Layer) → L.does empty 0 plain manages.call ≡ outcome (Registered 0) clear → After L 7 arena (next begin manages) opened clear [] []
unfolding empty opening
opens L e =
    open_made L 7 begin start empty (at-start L) manages (outcome (Registered 0) clear) (outcome (Registered 0) clear) opening
    (record { sound = ground.sound_empty; by-rules = ground.registered; by-layer = e; passed = refl }) refl
