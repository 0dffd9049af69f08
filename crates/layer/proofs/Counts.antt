-- How many arenas there are after a call, and the book of a new one. Assumes nothing.
use Rattle.std.specs.Prelude.{◌≡◌, ◌+◌, ◌/◌, ◌≤◌, ◌<◌}
use Rattle.layer.proofs.Prelude.{refl, sym, ◌∙◌, subst, Bool, true, false, List, ℕ, zero, suc, arith, ℤ, length-set, Refusal, by_cond, Option, Some, None, Arena, Commitment, new_arena, reserved_arena, managed_arena, adopted_arena, sweep_due, next_asked, stamps_of, Rows, Settings, Sweep, Question, Idle, Committing, Purging, Reserving, GivingBack, Waiting, Reserve, Claim, Kind, ForCommit, ForPurge, ForMemory, ForGiveBack, ForNone, Reply, Outcome, after, at, ask_memory, bad_count, with_record, with_stamps, search_of, claim_of, release_of, purge_reply, swept_reply, visit_at, visit, sweep_from, is_for, counted, fail_reply, resume, answer_of, Act, reserve, manage, adopt, claim, release, sweep, Call, act, query, answer, act_on, step_on, opened, Place, stays_pending, sweeps_none, sweep_of}
use Rattle.layer.proofs.Tools.{at_same, by-not}
use Rattle.layer.proofs.Facts.{SoundTable}
use Rattle.layer.proofs.Rules.{Again, again, count-facts}
use Rattle.layer.proofs.Registered.{reserved-rows, managed-rows, adopted-rows}
use Rattle.layer.proofs.Shown.{calm, aside, role, book_in}
use Rattle.layer.proofs.View.{book-reserved, book-managed, book-adopted, unchanged}
use Rattle.layer.proofs.Cases.{register, grant-cases, search-cases, miss-cases, claim-cases, release-in-cases, release-cases, reserve-cases, register-cases, manage-cases, adopt-cases, memory-cases}
use Rattle.layer.proofs.Along.{Stands, rests}
use Rattle.layer.proofs.Does.{Does, shown, passed, resumes}
use Rattle.layer.proofs.Sweeps.{all-or-none}

-- ---- how many arenas there are after it: as many, or one more with record a, whose book is opened; it then does to that book what it does to any (a claim
-- that waited may be granted a run in it)

pub data Counts (S : ℕ) (l : List Arena) (k : ℕ) (q : Question) (call : Call) (o : Outcome) : Type 0 where
  as_many : o.world.state.count ≡ k → Counts S l k q call o
  one_more : o.world.state.count ≡ suc k → (a : Arena) (dirty : Bool) → book_in S calm a ≡ opened S a.base a.chunks dirty → Does S k (with_record l k a) q call o
      → Counts S l k q call o

-- a new record
record Made (S : ℕ) (a : Arena) : Type 0 where
  rows : Rows a
  few : a.chunks ≤ 1024
  dirty : Bool
  opens : book_in S calm a ≡ opened S a.base a.chunks dirty

reserved-made : (S base chunks : ℕ) (commit exclusive : Bool) → bad_count chunks ≡ false → Made S (reserved_arena base chunks commit exclusive)
unfolding reserved_arena new_arena
reserved-made S base chunks commit exclusive e = record {
  rows = reserved-rows base chunks commit exclusive;
  few = (count-facts chunks e).1;
  dirty = false;
  opens = book-reserved base chunks commit exclusive (count-facts chunks e).1;
}

managed-made : (S base chunks : ℕ) (exclusive : Bool) (node : ℤ) → bad_count chunks ≡ false → Made S (managed_arena base chunks exclusive node)
unfolding managed_arena new_arena
managed-made S base chunks exclusive node e = record {
  rows = managed-rows base chunks exclusive node;
  few = (count-facts chunks e).1;
  dirty = true;
  opens = book-managed base chunks exclusive node (count-facts chunks e).1;
}

adopted-made : (S base chunks : ℕ) → bad_count chunks ≡ false → Made S (adopted_arena base chunks)
unfolding adopted_arena new_arena
adopted-made S base chunks e =
    record { rows = adopted-rows base chunks; few = (count-facts chunks e).1; dirty = true; opens = book-adopted base chunks (count-facts chunks e).1 }

-- what finds, sweeps and releases registers nothing
module _ (S : ℕ) (k : ℕ) (mark : Bool) where
  abbrev Many : Outcome → Type 0
  Many o = o.world.state.count ≡ k

  search-count : (l : List Arena) (stamps : List ℕ) (id : ℤ) (n : ℕ) (commits : Bool) (missed : Reply) → missed.state.count ≡ k → Many (search_of S l stamps k mark id n commits missed)
  search-count l stamps id n commits missed e =
      search-cases S l stamps k mark Many id n commits missed (λ f. e) (λ i u f. grant-cases S l stamps k mark Many i n commits (λ g. refl) (λ s g. refl) (λ s g. refl))

  claim-count : (l : List Arena) (stamps : List ℕ) (id : ℤ) (n : ℕ) (commits : Bool) (settings : Settings) → Many (claim_of S l stamps k mark id n commits settings)
  unfolding ask_memory
  claim-count l stamps id n commits settings =
      claim-cases S l stamps k mark Many id n commits settings (λ e. refl) (λ e f. refl)
      (λ e f. search-count l stamps id n commits _ (miss-cases S l stamps k mark Many id n commits settings refl refl refl))

  release-count : (l : List Arena) (stamps : List ℕ) (x m : ℕ) (tell : Commitment) (pending : Bool) (now delay : ℕ) → Many (release_of S l stamps k mark x m tell pending now delay)
  release-count l stamps x m tell pending now delay =
      release-cases S l stamps k mark Many m tell pending now delay x (λ e. refl) (λ e f. refl)
      (λ i e u f. release-in-cases S l stamps k mark Many m tell pending now delay i _ (λ g. refl) (λ g v. refl) (λ g v. refl))

  module _ (stamps : List ℕ) (w : Sweep) where
    visit-count : (l : List Arena) (i : ℕ) (a : Arena) (from : ℕ) (rest : List Arena → Outcome) → ((m : List Arena) → Many (rest m)) → Many (visit S stamps k mark w l i a from rest)
    unfolding visit purge_reply
    visit-count l i a from rest next = go (next_asked a (stamps_of stamps i) w.force w.now w.delay from)
      where
        go : (f : Option ℕ) → Many (visit_at S stamps k mark w l i a rest f)
        go (Some j) = refl
        go None = next _

    sweep-count : (f i : ℕ) (l : List Arena) → Many (sweep_from S stamps k mark w f i l)
    unfolding sweep_from swept_reply
    sweep-count zero i l = refl
    sweep-count (suc f) i l =
        by_cond Many (sweep_due (at l i) w.force w.now) _ _ (λ e. visit-count l i _ 0 _ (λ m. sweep-count f (i + 1) m)) (λ e. sweep-count f (i + 1) l)

module _ (S : ℕ) (l : List Arena) (stamps : List ℕ) (k : ℕ) (mark : Bool) (t : SoundTable S l k) where
  -- the table with the new record
  module _ (a : Arena) (m : Made S a) (room : k < 32) where
    there : at (with_record l k a) k ≡ a
    there = at_same l k a (omega (arith, room, t.long))

    new-small : (at (with_record l k a) k).chunks ≤ 1024
    new-small = subst (λ (x : Arena). x.chunks ≤ 1024) (sym there) m.few

    new-stands : Stands S k (at (with_record l k a) k) new-small (shown S k (with_record l k a) new-small Idle) (with_record l k a) (suc k)
    new-stands = record {
      low = omega arith;
      few = room;
      long = length-set l k a ∙ t.long;
      ready = record { rows = subst Rows (sym there) m.rows; same = unchanged _; shows = refl };
    }

  registers : (call : Call) (chunks : ℕ) (a : Arena) → ((x : Place) → role x Idle call ≡ aside) → (bad_count chunks ≡ false → Made S a) → Counts S l k Idle call (register l stamps k mark chunks a)
  registers call chunks a is made =
      register-cases S l stamps k mark (Counts S l k Idle call) chunks a (as_many refl) (as_many refl)
      (λ e f. let m = made e in
      one_more refl a m.dirty m.opens (passed S k (with_record l k a) (new-small a m f) Idle call _ refl (λ managed. is _)
      (rests S k _ (new-small a m f) _ (with_record l k a) (suc k) Idle _ _ mark refl (new-stands a m f))))

  act-counts : (ns : ℕ) (settings : Settings) (a : Act) → Counts S l k Idle (act a) (act_on S l stamps k mark Idle ns settings a)
  unfolding ask_memory
  act-counts ns settings (reserve size commit large exclusive) =
      reserve-cases S l stamps k mark (Counts S l k Idle _) size commit large exclusive settings.page (as_many refl) (as_many refl)
  act-counts ns settings (manage start size exclusive node mapped reserved) =
      manage-cases S l stamps k mark (Counts S l k Idle _) start size exclusive node mapped reserved (as_many refl) (as_many refl) (as_many refl)
      (λ g. registers _ _ _ (λ x. refl) (managed-made S _ _ exclusive node))
  act-counts ns settings (adopt address size) =
      adopt-cases S l stamps k mark (Counts S l k Idle _) address size (as_many refl) (as_many refl) (as_many refl) (λ i w u e. as_many refl)
      (λ w. registers _ _ _ (λ x. refl) (adopted-made S address (size / S)))
  act-counts ns settings (claim id n commits) = as_many (claim-count S k mark l stamps id n commits settings)
  act-counts ns settings (release x n tell pending) = as_many (release-count S k mark l stamps x n tell (stays_pending settings pending) _ _)
  act-counts ns settings (sweep force) =
      all-or-none S stamps k mark (sweep_of force ns settings) (Counts S l k Idle (act (sweep force))) (sweeps_none settings force) l
      (λ f h. as_many (sweep-count S k mark stamps (sweep_of force ns settings) f 0 l))

  fail-counts : (q : Question) (call : Call) (why : Refusal) (waiting : Waiting) → Counts S l k q call (after (fail_reply k mark why waiting) l stamps)
  fail-counts q call why Reserve = as_many refl
  fail-counts q call why (Claim n commits) = as_many refl

  resume-count : (a : Arena) (waiting : Waiting) → Many S (suc k) mark (resume S l stamps k mark a waiting)
  resume-count a Reserve = refl
  resume-count a (Claim n commits) =
      let g : Again S l stamps k mark a n commits = again S l stamps k mark a n commits in
      subst (Many S (suc k) mark) (sym g.is) (search-count S (suc k) mark (with_record l k a) (with_stamps stamps k) g.id n commits _ refl)

  answer-counts : (q : Question) (kind : Kind) (accepted : Bool) (base : ℕ) → Counts S l k q (answer kind accepted base) (answer_of S l stamps k mark q kind accepted base)
  unfolding answer_of is_for
  answer-counts Idle kind accepted base = by-not (Counts S l k Idle _) (is_for Idle kind) _ _ (λ e. as_many refl) (λ e. as_many refl)
  answer-counts (Committing i s m) kind true base = by-not (Counts S l k _ _) (is_for (Committing i s m) kind) _ _ (λ e. as_many refl) (λ e. as_many refl)
  answer-counts (Committing i s m) kind false base = by-not (Counts S l k _ _) (is_for (Committing i s m) kind) _ _ (λ e. as_many refl) (λ e. as_many refl)
  answer-counts (Purging i j w) kind accepted base =
      by-not (Counts S l k _ _) (is_for (Purging i j w) kind) _ _
      (λ e. as_many (visit-count S k mark stamps (counted w accepted) l i _ (j + 1) _ (λ m. sweep-count S k mark stamps (counted w accepted) _ _ m))) (λ e. as_many refl)
  answer-counts (Reserving chunks bytes commit exclusive waiting) ForMemory false base = fail-counts _ _ _ waiting
  answer-counts (Reserving chunks bytes commit exclusive waiting) ForMemory true base =
      memory-cases S l stamps k mark (Counts S l k (Reserving chunks bytes commit exclusive waiting) (answer ForMemory true base)) chunks bytes commit exclusive waiting base (as_many refl)
      (λ cause. as_many refl)
      (λ d e f u. let a : Arena = reserved_arena base chunks commit exclusive in
      let m : Made S a = reserved-made S base chunks commit exclusive e in
      one_more (resume-count a waiting) a m.dirty m.opens
      (resumes S k (with_record l k a) (new-small a m u) l stamps k mark a (new-stands a m u) chunks bytes commit exclusive waiting base))
  answer-counts (Reserving chunks bytes commit exclusive waiting) ForCommit accepted base = as_many refl
  answer-counts (Reserving chunks bytes commit exclusive waiting) ForPurge accepted base = as_many refl
  answer-counts (Reserving chunks bytes commit exclusive waiting) ForGiveBack accepted base = as_many refl
  answer-counts (Reserving chunks bytes commit exclusive waiting) ForNone accepted base = as_many refl
  answer-counts (GivingBack cause waiting) kind accepted base =
      by-not (Counts S l k _ _) (is_for (GivingBack cause waiting) kind) _ _ (λ e. fail-counts _ _ _ waiting) (λ e. as_many refl)

  pub counts : (q : Question) (ns : ℕ) (settings : Settings) (call : Call) → Counts S l k q call (step_on S l stamps k mark q ns settings call)
  counts Idle ns settings (act a) = act-counts ns settings a
  counts (Committing i s m) ns settings (act a) = as_many refl
  counts (Purging i j w) ns settings (act a) = as_many refl
  counts (Reserving chunks bytes commit exclusive waiting) ns settings (act a) = as_many refl
  counts (GivingBack cause waiting) ns settings (act a) = as_many refl
  counts q ns settings (query c) = as_many refl
  counts q ns settings (answer kind accepted base) = answer-counts q kind accepted base
