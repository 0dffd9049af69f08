-- Wrong readings of wish 2, each on a table on which it does not do what the wish says. Assumes nothing.
use Rattle.std.specs.Prelude.{◌≡◌, ◌∷◌, ◌+◌, ◌*◌}
use Rattle.layer.proofs.Prelude.{refl, sym, ap, ◌∙◌, true, false, List, [], ℕ, arith, negsuc, replicate, Arena, World, Outcome, blank, state_with, world_of, outcome, at, first_of, release, manage, sweep, Call, act, answer, step, Marked, History, begin, next, cond, bit, bit_at, within, as_number, pack, write_run, all, least, or_one, now_ms, delay_ms, never_purges, keeps, armed, is_due, page_size_sound, new_arena, managed_arena, take_run, give_back_run, commit_run, tell_run, pend_run, release_run, stamp_run, sweep_due, disarm, young, to_ask, next_asked, borrow_chunk, unpend_chunk, return_chunk, rearm, bytes_of, end_of, is_inside, sound_range, clear_past, clear_past_all, sound_arena, empty, meets, overlaps, bad_range, find_arena, apart, sound_question, sound_table, sound_lent, chunks_for, bad_count, no_whole_chunk, manage_of, release_of, purge_reply, swept_reply, visit, sweep_from, is_for, answer_of, rules, stamps_of}
use Rattle.arena.specs.declared.Commitment.TheVariants.{Untold, Committed}
use Rattle.arena.specs.Record.{with_pending, with_deadline}
use Rattle.layer.specs.declared.Question.TheVariants.{Idle}
use Rattle.layer.specs.declared.Kind.TheVariants.{ForPurge}
use Rattle.layer.specs.declared.Answer.TheVariants.{Swept}
use Rattle.layer.specs.History.{Lent, outcome_by}
use Rattle.layer_laws.specs.sweep_runs.Run.{asks_purge, is_refused}
use Rattle.options.specs.Options.{documented_delay}
use Rattle.layer_laws.specs.documented.Options.{SaidNever, NothingPurged}
use Rattle.layer_laws.proofs.never.Delay.{means-never}
use Rattle.layer_laws.specs.never.Delay.{Handler, below, first_rows, MeansNever}
use Rattle.document_cases.specs.Example.{S, plain, row}
use Rattle.document_cases.specs.Refused.{short}
use Rattle.document_cases.specs.Joined.{stamp_in0}
use Rattle.document_cases.specs.Never.{base, table_of, older, calmer, purge_at, freed, at_delay}
use Rattle.wrong_layers.proofs.Ground.{own, clear}
use Rattle.wrong_layers.specs.Wrong.{but_calls}
use Rattle.wrong_layers.specs.Never.{clamp_only, minus_one_only, longest_delay, clamped_zero, keeps_used, unmarks, stamps_still, marks_still, arms_still, tells_nothing, disarms, before_rows, forced_finds_none, answers_end, NeverFails}

-- ---- what is seen of an outcome: whether a purge is asked for, whether it is refused, and the first word of a map, the first stamp and the deadline of the first arena

abbrev front : List ℕ → ℕ
front [] = 0
front (x ∷ l) = x

abbrev asks : Outcome → ℕ
asks o = asks_purge o.answer

abbrev refuses : Outcome → ℕ
refuses o = cond (is_refused o.answer) 1 0

abbrev first : Outcome → Arena
first o = at o.world.records 0

-- ---- the calls, at 50 ms: with −1, with −2, and with 0

abbrev at50 : Handler → ℕ → World → Call → Outcome
at50 D m w c = D w 50000000 (below plain m) c

abbrev unforced : Call
unforced = act (sweep false)

abbrev forced : Call
forced = act (sweep true)

-- a sweep has asked about chunk 1, and chunk 3 is pending too
abbrev asked : World
asked = table_of 7 7 10 0 stamp_in0 (purge_at false 1 0)

abbrev swept : World → Outcome
swept w = first_of (first_rows w plain) (outcome (Swept 0) w)

-- ---- a history with −1 in every call: a chunk is managed, released and swept

abbrev by_clamp : World → Call → Marked
by_clamp w c = record { who = 7; lent = w; ns = 0; settings = at_delay (negsuc 0); call = c }

-- as the clamp alone leaves it
abbrev pended : World
pended = world_of (with_deadline (with_pending (own 0) (row 1)) 1 ∷ replicate 31 blank) (1 ∷ replicate 32767 0) (state_with 1 false Idle)

abbrev manages : Marked
manages = by_clamp empty (act (manage S S true (negsuc 0) false true))

abbrev releases : Marked
releases = by_clamp clear (act (release S 1 Untold true))

abbrev sweeps : Marked
sweeps = by_clamp pended unforced

abbrev calls : History
calls = next (next begin manages) releases

-- ---- what comes of them

record Facts : Type 0 where
  clamp-asks : asks (at50 clamp_only 0 older unforced) ≡ 1
  two-asks : asks (at50 minus_one_only 1 older unforced) ≡ 1
  none-asked : asks (swept older) ≡ 0
  longest-marks : front (first (at50 longest_delay 0 older (freed 0 Untold))).pending ≡ 3
  zero-asks-none : asks (clamped_zero older 50000000 plain unforced) ≡ 0
  zero-asks : asks (step older 50000000 plain unforced) ≡ 1
  used-kept : front (first (at50 keeps_used 0 older (freed 0 Untold))).used ≡ 5
  used-cleared : front (first (step older 50000000 plain (act (release base 1 Untold false)))).used ≡ 4
  unmarked : front (first (at50 unmarks 0 older (freed 0 Untold))).pending ≡ 0
  stamped : front (at50 stamps_still 0 older (freed 0 Untold)).world.stamps ≡ 50
  marked : front (first (at50 marks_still 0 older (freed 0 Untold))).pending ≡ 3
  armed-still : (first (at50 arms_still 0 calmer (freed 0 Untold))).deadline ≡ 50
  not-told : front (first (at50 tells_nothing 0 older (freed 3 Committed))).committed ≡ 7
  told : front (first (step older 50000000 plain (act (release (base + 3 * S) 1 Committed false)))).committed ≡ 15
  disarmed : (first (at50 disarms 0 older unforced)).deadline ≡ 0
  armed-stays : (first (swept older)).deadline ≡ 20
  not-refused : refuses (at50 before_rows 0 short unforced) ≡ 0
  refused-first : refuses (swept short) ≡ 1
  none-forced : asks (at50 forced_finds_none 0 older forced) ≡ 0
  forced-asks : asks (step older 50000000 plain forced) ≡ 1
  ended : asks (at50 answers_end 0 asked (answer ForPurge true 0)) ≡ 0
  goes_on : asks (step asked 50000000 plain (answer ForPurge true 0)) ≡ 1
  lent : Lent (but_calls clamp_only) (next calls sweeps)
  purges : asks (outcome_by (but_calls clamp_only) sweeps) ≡ 1

facts : Facts
unfolding bit bit_at within as_number pack write_run all least or_one now_ms delay_ms never_purges keeps armed is_due page_size_sound new_arena managed_arena take_run give_back_run commit_run tell_run pend_run release_run stamp_run sweep_due disarm young to_ask next_asked borrow_chunk unpend_chunk return_chunk rearm bytes_of end_of is_inside sound_range clear_past clear_past_all sound_arena empty meets overlaps bad_range find_arena apart sound_question sound_table sound_lent chunks_for bad_count no_whole_chunk manage_of release_of purge_reply swept_reply visit sweep_from is_for answer_of rules stamps_of
facts = record {
  clamp-asks = refl;
  two-asks = refl;
  none-asked = refl;
  longest-marks = refl;
  zero-asks-none = refl;
  zero-asks = refl;
  used-kept = refl;
  used-cleared = refl;
  unmarked = refl;
  stamped = refl;
  marked = refl;
  armed-still = refl;
  not-told = refl;
  told = refl;
  disarmed = refl;
  armed-stays = refl;
  not-refused = refl;
  refused-first = refl;
  none-forced = refl;
  forced-asks = refl;
  ended = refl;
  goes_on = refl;
  lent = (((tt, λ e. refl), λ e. refl), λ e. refl);
  purges = refl;
}

-- ---- each fails

clamp-only : MeansNever clamp_only → ⊥
clamp-only d = let e : ◌≡◌ {A = ℕ} 1 0 = sym facts.clamp-asks ∙ ap asks (d.unforced-leaves-all older 50000000 plain 0) ∙ facts.none-asked in omega (arith, e)

minus-one-only : MeansNever minus_one_only → ⊥
minus-one-only d = let e : ◌≡◌ {A = ℕ} 1 0 = sym facts.two-asks ∙ ap asks (d.unforced-leaves-all older 50000000 plain 1) ∙ facts.none-asked in omega (arith, e)

longest-delay : MeansNever longest_delay → ⊥
longest-delay d = let e : ◌≡◌ {A = ℕ} 3 2 = sym facts.longest-marks ∙ ap front ((d.pends-nothing older 50000000 plain 0 base 1 Untold true).marks 0) in omega (arith, e)

clamped-zero : MeansNever clamped_zero → ⊥
clamped-zero d =
    let e : ◌≡◌ {A = ℕ} 0 1 = sym facts.zero-asks-none ∙ ap asks (d.sweeps-from-zero older 50000000 plain 0 false ∙ sym (means-never.sweeps-from-zero older 50000000 plain 0 false)) ∙ facts.zero-asks in
    omega (arith, e)

keeps-used : MeansNever keeps_used → ⊥
keeps-used d =
    let e : ◌≡◌ {A = ℕ} 5 4 = sym facts.used-kept ∙ ap (λ (o : Outcome). front (first o).used) (d.releases-unpended older 50000000 plain 0 base 1 Untold true) ∙ facts.used-cleared in
    omega (arith, e)

unmarks-runs : MeansNever unmarks → ⊥
unmarks-runs d = let e : ◌≡◌ {A = ℕ} 0 2 = sym facts.unmarked ∙ ap front ((d.pends-nothing older 50000000 plain 0 base 1 Untold true).marks 0) in omega (arith, e)

stamps-still : MeansNever stamps_still → ⊥
stamps-still d = let e : ◌≡◌ {A = ℕ} 50 0 = sym facts.stamped ∙ ap front (d.pends-nothing older 50000000 plain 0 base 1 Untold true).stamps in omega (arith, e)

marks-still : MeansNever marks_still → ⊥
marks-still d = let e : ◌≡◌ {A = ℕ} 3 2 = sym facts.marked ∙ ap front ((d.pends-nothing older 50000000 plain 0 base 1 Untold true).marks 0) in omega (arith, e)

arms-still : MeansNever arms_still → ⊥
arms-still d = let e : ◌≡◌ {A = ℕ} 50 0 = sym facts.armed-still ∙ (d.pends-nothing calmer 50000000 plain 0 base 1 Untold true).deadlines 0 in omega (arith, e)

tells-nothing : MeansNever tells_nothing → ⊥
tells-nothing d =
    let e : ◌≡◌ {A = ℕ} 7 15 = sym facts.not-told ∙ ap (λ (o : Outcome). front (first o).committed) (d.releases-unpended older 50000000 plain 0 (base + 3 * S) 1 Committed true) ∙ facts.told in
    omega (arith, e)

disarms-due : MeansNever disarms → ⊥
disarms-due d = let e : ◌≡◌ {A = ℕ} 0 20 = sym facts.disarmed ∙ ap (λ (o : Outcome). (first o).deadline) (d.unforced-leaves-all older 50000000 plain 0) ∙ facts.armed-stays in omega (arith, e)

before-rows : MeansNever before_rows → ⊥
before-rows d = let e : ◌≡◌ {A = ℕ} 0 1 = sym facts.not-refused ∙ ap refuses (d.unforced-leaves-all short 50000000 plain 0) ∙ facts.refused-first in omega (arith, e)

forced-finds-none : MeansNever forced_finds_none → ⊥
forced-finds-none d = let e : ◌≡◌ {A = ℕ} 0 1 = sym facts.none-forced ∙ ap asks (d.forced-as-before older 50000000 plain 0) ∙ facts.forced-asks in omega (arith, e)

answers-end : MeansNever answers_end → ⊥
answers-end d =
    let e : ◌≡◌ {A = ℕ} 0 1 = sym facts.ended ∙ ap asks (d.others-read-none asked 50000000 plain (negsuc 0) (answer ForPurge true 0) refl) ∙ facts.goes_on in
    omega (arith, e)

clamp-purges : NothingPurged SaidNever (but_calls clamp_only) → ⊥
unfolding documented_delay
clamp-purges d = let e : ◌≡◌ {A = ℕ} 1 0 = sym facts.purges ∙ d calls sweeps facts.lent (((tt, refl), refl), refl) in omega (arith, e)

pub never-fails : NeverFails
never-fails = record {
  clamp-only = clamp-only;
  minus-one-only = minus-one-only;
  longest-delay = longest-delay;
  clamped-zero = clamped-zero;
  keeps-used = keeps-used;
  unmarks-runs = unmarks-runs;
  stamps-still = stamps-still;
  marks-still = marks-still;
  arms-still = arms-still;
  tells-nothing = tells-nothing;
  disarms-due = disarms-due;
  before-rows = before-rows;
  forced-finds-none = forced-finds-none;
  answers-end = answers-end;
  clamp-purges = clamp-purges;
}
