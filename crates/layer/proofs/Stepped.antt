-- Sound in, sound out, for every call: answers, and then the one step. Assumes nothing.
use Rattle.std.specs.Prelude.{◌≡◌, ◌&&◌, ◌+◌, ◌-◌, ◌*◌, ◌<◌, ◌≤◌}
use Rattle.layer.proofs.Prelude.{ap₂, ◌∙◌, Bool, true, false, List, ℕ, suc, arith, leb-true, le-leb, eqb-true, eq-eqb, leb, eqb, ℤ, length, all, all-free-of, free_all, and_both, page_size_sound, Arena, reserved_arena, give_back_run, finish_grant, return_chunk, sound_arena, SoundRange, arena-facts, Rows, return-rows, Settings, Sweep, Question, Idle, Committing, Purging, Reserving, GivingBack, Waiting, Reserve, Claim, Kind, Refusal, NoRun, World, world_of, calm, turn_down, at, meets, apart, sound_table, sound_lent, sound, ask_memory, with_record, with_stamps, miss_reply, claim_of, is_for, counted, fail_reply, answer_commit, answer_purge, resume, answer_memory, answer_to, answer_of, sweep_from, Act, reserve, manage, adopt, claim, release, sweep, Call, act, query, answer, sweep_of, act_on, step_on, rules, stays_pending, sweeps_none, SoundArena, bytes_of}
use Rattle.arena.proofs.SoundLaws.{arena-test}
use Rattle.arena.proofs.Changes.{finish-rows, give-back-rows}
use Rattle.arena.proofs.StaysSound.{finish-sound, give-back-sound, return-sound}
use Rattle.layer.specs.Answering.{is_idle}
use Rattle.layer.proofs.Tools.{by-not}
use Rattle.layer.proofs.Facts.{SoundTable, SoundQuestion, apart-facts, apart-test, question-facts, question-test, put-sound}
use Rattle.layer.proofs.Rules.{count-facts}
use Rattle.layer.proofs.Cases.{miss-cases, claim-cases, memory-cases}
use Rattle.layer.proofs.Kept.{SoundWorld, Kept, calm-kept, search-kept, release-kept, visit-kept, sweep-kept, finish-range, give-back-range, return-range}
use Rattle.layer.proofs.Registered.{good-range, new-table, new-stamps, reserved-rows, reserved-sound, reserved-range, reserve-kept, manage-kept, adopt-kept}
use Rattle.layer.proofs.Sweeps.{all-or-none}

module _ (S : ℕ) (pos : 0 < S) (l : List Arena) (stamps : List ℕ) (k : ℕ) (mark : Bool) (t : SoundTable S l k) (ls : length stamps ≡ 32768) where
  -- ---- claims

  asks-memory-kept : (size page : ℕ) (commit large exclusive : Bool) (waiting : Waiting) → SoundWorld S (world_of l stamps (ask_memory S k mark size page commit large exclusive waiting).state)
  unfolding ask_memory
  asks-memory-kept size page commit large exclusive waiting = record { table = t; stamps = ls; question = tt }

  pub claim-kept : (id : ℤ) (n : ℕ) (commits : Bool) (settings : Settings) → Kept S (claim_of S l stamps k mark id n commits settings)
  claim-kept id n commits settings =
      claim-cases S l stamps k mark (Kept S) id n commits settings (λ e. calm-kept S l stamps k mark t ls mark) (λ e f. calm-kept S l stamps k mark t ls mark)
      (λ e f. search-kept S l stamps k mark t ls id n commits (miss_reply S k mark id n commits settings)
      (miss-cases S l stamps k mark (Kept S) id n commits settings (calm-kept S l stamps k mark t ls mark) (calm-kept S l stamps k mark t ls true)
      (asks-memory-kept settings.reserve settings.page false false false (Claim n commits))))

  -- ---- answers

  commit-kept : (i s n : ℕ) (granted : Bool) → SoundQuestion l k (Committing i s n) → Kept S (answer_commit S l stamps k mark i s n granted)
  commit-kept i s n true h = record {
    table = put-sound S l k i (finish_grant (at l i) s n true) t h.0 (finish-rows (at l i) s n true (t.rows i h.0))
        (finish-sound S (at l i) s n true (t.each i h.0) h.1) (finish-range (at l i) s n true).0 (finish-range (at l i) s n true).1;
    stamps = ls;
    question = tt;
  }
  commit-kept i s n false h = record {
    table = put-sound S l k i (give_back_run (at l i) s n) t h.0 (give-back-rows (at l i) s n (t.rows i h.0))
        (give-back-sound S (at l i) s n (t.each i h.0) h.1) (give-back-range (at l i) s n).0 (give-back-range (at l i) s n).1;
    stamps = ls;
    question = tt;
  }

  -- the count rises by one at most
  counted-most : (w : Sweep) (granted : Bool) → (counted w granted).purged ≤ w.purged + 1
  counted-most w true = omega arith
  counted-most w false = omega arith

  purge-kept : (i j : ℕ) (w : Sweep) (granted : Bool) → SoundQuestion l k (Purging i j w) → Kept S (answer_purge S l stamps k mark i j w granted)
  purge-kept i j w granted h =
      visit-kept S stamps k mark (counted w granted) ls l i (j + 1) (return_chunk (at l i) j granted w.decommit)
      (sweep_from S stamps k mark (counted w granted) (k - (i + 1)) (i + 1)) t h.0 (return-rows (at l i) j granted w.decommit (t.rows i h.0))
      (return-sound S (at l i) j granted w.decommit (t.each i h.0) h.1) (return-range (at l i) j granted w.decommit).0
      (return-range (at l i) j granted w.decommit).1 (omega (arith, h.3, counted-most w granted))
      (λ m u. sweep-kept S stamps k mark (counted w granted) ls (k - (i + 1)) (i + 1) m u (omega (arith, h.0))
      (omega (arith, h.1, h.3, counted-most w granted, (t.each i h.0).range.few)))

  fail-kept : (why : Refusal) (waiting : Waiting) → SoundWorld S (world_of l stamps (fail_reply k mark why waiting).state)
  fail-kept why Reserve = calm-kept S l stamps k mark t ls mark
  fail-kept why (Claim n commits) = calm-kept S l stamps k mark t ls true

  -- the reserved range is registered, and who waits goes on
  resume-kept : (base chunks : ℕ) (commit exclusive : Bool) (waiting : Waiting) → k < 32 → SoundRange S base chunks
      → ((i : ℕ) → i < k → meets S (at l i) base (chunks * S) ≡ false) → Kept S (resume S l stamps k mark (reserved_arena base chunks commit exclusive) waiting)
  resume-kept base chunks commit exclusive waiting h x alone = go waiting
    where
      made : SoundTable S (with_record l k (reserved_arena base chunks commit exclusive)) (suc k)
      made =
          new-table S l k (reserved_arena base chunks commit exclusive) t h (reserved-rows base chunks commit exclusive) (reserved-sound S base chunks commit exclusive x)
          (λ i u. let z = reserved-range S base chunks commit exclusive in ap₂ (meets S (at l i)) z.0 z.1 ∙ alone i u)

      long : length (with_stamps stamps k) ≡ 32768
      long = new-stamps S l stamps k mark t ls h

      go : (v : Waiting) → Kept S (resume S l stamps k mark (reserved_arena base chunks commit exclusive) v)
      go Reserve = record { table = made; stamps = long; question = tt }
      go (Claim n commits) =
          search-kept S (with_record l k (reserved_arena base chunks commit exclusive)) (with_stamps stamps k) (suc k) mark made long _ n commits
          (turn_down NoRun (calm (suc k) mark)) (record { table = made; stamps = long; question = tt })

  memory_kept : (chunks bytes : ℕ) (commit exclusive : Bool) (waiting : Waiting) (granted : Bool) (base : ℕ)
      → Kept S (answer_memory S l stamps k mark chunks bytes commit exclusive waiting granted base)
  memory_kept chunks bytes commit exclusive waiting false base = fail-kept _ waiting
  memory_kept chunks bytes commit exclusive waiting true base =
      memory-cases S l stamps k mark (Kept S) chunks bytes commit exclusive waiting base (record { table = t; stamps = ls; question = tt })
      (λ cause. record { table = t; stamps = ls; question = tt })
      (λ range count aligned room. let x = good-range S l k base (chunks * S) range in
      let c = count-facts chunks count in
      resume-kept base chunks commit exclusive waiting room (record { somewhere = x.somewhere; aligned = aligned; some = c.0; few = c.1; ends = x.ends }) x.alone)

  pub answer-kept : (q : Question) (kind : Kind) (granted : Bool) (base : ℕ) → SoundQuestion l k q → Kept S (answer_of S l stamps k mark q kind granted base)
  unfolding answer_of
  answer-kept q kind granted base h = by-not (Kept S) (is_for q kind) _ _ (λ e. go q h) (λ e. record { table = t; stamps = ls; question = h })
    where
      go : (p : Question) → SoundQuestion l k p → Kept S (answer_to S l stamps k mark p granted base)
      go Idle x = record { table = t; stamps = ls; question = tt }
      go (Committing i s n) x = commit-kept i s n granted x
      go (Purging i j w) x = purge-kept i j w granted x
      go (Reserving chunks bytes commit exclusive waiting) x = memory_kept chunks bytes commit exclusive waiting granted base
      go (GivingBack cause waiting) x = fail-kept _ waiting

  -- ---- one step

  act-kept : (q : Question) (ns : ℕ) (settings : Settings) (a : Act) → Kept S (act_on S l stamps k mark q ns settings a)
  act-kept q ns settings (reserve size commit large exclusive) = reserve-kept S l stamps k mark t ls size commit large exclusive settings.page
  act-kept q ns settings (manage start size exclusive node mapped reserved) = manage-kept S l stamps k mark t ls pos start size exclusive node mapped reserved
  act-kept q ns settings (adopt address size) = adopt-kept S l stamps k mark t ls pos address size
  act-kept q ns settings (claim id n commits) = claim-kept id n commits settings
  act-kept q ns settings (release address n told pending) = release-kept S l stamps k mark t ls address n told (stays_pending settings pending) _ _
  act-kept q ns settings (sweep force) =
      all-or-none S stamps k mark (sweep_of force ns settings) (Kept S) (sweeps_none settings force) l
      (λ f h. sweep-kept S stamps k mark (sweep_of force ns settings) ls f 0 l t (omega (arith, h)) (omega arith))

  pub step-on-kept : (q : Question) (ns : ℕ) (settings : Settings) (c : Call) → SoundQuestion l k q → Kept S (step_on S l stamps k mark q ns settings c)
  step-on-kept q ns settings (act a) h = by-not (Kept S) (is_idle q) _ _ (λ e. act-kept q ns settings a) (λ e. record { table = t; stamps = ls; question = h })
  step-on-kept q ns settings (query c) h = record { table = t; stamps = ls; question = h }
  step-on-kept q ns settings (answer kind granted base) h = answer-kept q kind granted base h

-- ---- by the tests: what row 1 lets pass, it lets pass after every call

-- the records below the count are of machine words
abbrev pub Words : World → Type 0
Words w = (i : ℕ) → i < w.state.count → Rows (at w.records i)

-- what row 1 lets pass, by facts
pub record Passing (S : ℕ) (w : World) (page : ℕ) : Type 0 where
  pub long : length w.records ≡ 32
  pub stamps : length w.stamps ≡ 32768
  pub page-sound : page_size_sound page ≡ true
  pub few : w.state.count ≤ 32
  pub each : (i : ℕ) → i < w.state.count → SoundArena S (at w.records i)
  pub apart : (i j : ℕ) → i < j → j < w.state.count → meets S (at w.records i) (at w.records j).base (bytes_of S (at w.records j)) ≡ false
  pub question : SoundQuestion w.records w.state.count w.state.question

pub passing-facts : (S : ℕ) (w : World) (page : ℕ) → sound S w page ≡ true → Passing S w page
unfolding sound_lent sound_table
passing-facts S w page e =
    let a = and_both (eqb (length w.records) 32) _ e in
    let b = and_both (eqb (length w.stamps) 32768) _ a.1 in
    let c = and_both (page_size_sound page) _ b.1 in
    let d = and_both (leb w.state.count 32) _ c.1 in
    let f = and_both (all (λ i. sound_arena S (at w.records i)) 0 w.state.count) _ d.1 in
    let g = and_both (apart S w.records w.state.count) _ f.1 in
    record {
      long = eqb-true (length w.records) 32 a.0;
      stamps = eqb-true (length w.stamps) 32768 b.0;
      page-sound = c.0;
      few = leb-true w.state.count 32 d.0;
      each = λ i u. arena-facts S (at w.records i) (all-free-of (λ x. sound_arena S (at w.records x)) 0 w.state.count f.0 i (omega arith) (omega arith));
      apart = apart-facts S w.records w.state.count g.0;
      question = question-facts S w.records w.state.count w.state.question g.1;
    }

pub passing-test : (S : ℕ) (w : World) (page : ℕ) → Passing S w page → sound S w page ≡ true
unfolding sound_lent sound_table
passing-test S w page x =
    ap₂ ◌&&◌ (eq-eqb (length w.records) 32 x.long)
    (ap₂ ◌&&◌ (eq-eqb (length w.stamps) 32768 x.stamps)
    (ap₂ ◌&&◌ x.page-sound
    (ap₂ ◌&&◌ (le-leb w.state.count 32 x.few)
    (ap₂ ◌&&◌ (free_all (λ i. sound_arena S (at w.records i)) 0 w.state.count (λ i u v. arena-test S (at w.records i) (x.each i (omega arith))))
    (ap₂ ◌&&◌ (apart-test S w.records w.state.count x.apart) (question-test S w.records w.state.count w.state.question x.question))))))

pub sound-facts : (S : ℕ) (w : World) (page : ℕ) → Words w → sound S w page ≡ true → SoundWorld S w × (page_size_sound page ≡ true)
sound-facts S w page r e =
    let x = passing-facts S w page e in
    (record { table = record { long = x.long; few = x.few; rows = r; each = x.each; apart = x.apart }; stamps = x.stamps; question = x.question }, x.page-sound)

pub sound-test : (S : ℕ) (w : World) (page : ℕ) → SoundWorld S w → page_size_sound page ≡ true → sound S w page ≡ true
sound-test S w page x p =
    passing-test S w page
    (record {
      long = x.table.long;
      stamps = x.stamps;
      page-sound = p;
      few = x.table.few;
      each = x.table.each;
      apart = x.table.apart;
      question = x.question;
    })

-- a call on a table that row 1 lets pass leaves one that row 1 lets pass, at any sound page size
pub step-sound : (S : ℕ) → 0 < S → (w : World) (ns : ℕ) (settings : Settings) (c : Call) → Words w → sound S w settings.page ≡ true
    → (page : ℕ) → page_size_sound page ≡ true → (sound S (rules S w ns settings c).world page ≡ true) × Words (rules S w ns settings c).world
unfolding rules
step-sound S pos w ns settings c r e page p =
    let f = sound-facts S w settings.page r e in
    let kept : Kept S (rules S w ns settings c) =
    by-not (Kept S) (sound S w settings.page) _ _
    (λ g. step-on-kept S pos w.records w.stamps w.state.count w.state.mark f.0.table f.0.stamps w.state.question ns settings c f.0.question)
    (λ g. f.0) in
    (sound-test S (rules S w ns settings c).world page kept p, kept.table.rows)
