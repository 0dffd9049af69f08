-- The book opens where Registering's rules, in plain arithmetic, register an exclusive arena: a managed one, and a reserved one whose memory question is open.
-- Assumes nothing.
use Rattle.std.specs.Prelude.{◌≡◌, ◌||◌, ◌+◌, ◌-◌, ◌*◌, ◌/◌, ◌%◌, ◌^◌, ◌<◌, ◌≤◌}
use Rattle.layer.proofs.Prelude.{refl, sym, ap, ap₂, ◌∙◌, subst, Bool, true, false, not, true≢false, List, [], ℕ, suc, mul-div_cancel, mul-le-mul_right, arith, eq-eqb, ne_eqb, lt-leb, eqb, leb, ℤ, negsuc, unless, Arena, is_on, new_arena, reserved_arena, managed_arena, Question, Idle, Committing, Purging, Reserving, GivingBack, Reserve, Claim, ForMemory, Registered, Outcome, outcome, world_of, at, bad_range, chunks_for, bad_count, with_record, with_stamps, first_whole, past_whole, no_whole_chunk, manage_of, is_for, answer_memory, answer_of, claim, reserve, Call, act, answer, step_on, opened, Marked, Trail, open_at, follow, standing, Registrable, OpensAt}
use Rattle.layer.specs.World as W
use Rattle.layer.specs.History.{bytes_in, Manages, Reserves, Registers}
use Rattle.layer.proofs.Cases.{register}
use Rattle.layer.proofs.Tools.{at_same}
use Rattle.layer.proofs.ChunkLaws.{size_fits, up_is, first-is, past_is}
use Rattle.layer.proofs.Shown.{calm, book_in, Stays, book_at, owed_at, Inv}
use Rattle.layer.proofs.View.{book-reserved, book-managed}
use Rattle.layer.proofs.Plain.{not-12, not-6}
use Rattle.layer.proofs.Asked.{Asked}
use Rattle.layer.proofs.Trails.{Good, on_trail, gone, follow-sound}

-- ---- the rules, where none turns the arena down

module _ (S : ℕ) (some_size : 0 < S) (l : List Arena) (stamps : List ℕ) (k : ℕ) (mark : Bool) where
  -- the record stands at the end of the table
  abbrev added : Arena → Outcome
  added a = outcome (Registered k) (world_of (with_record l k a) (with_stamps stamps k) (W.calm (suc k) mark))

  register-adds : (n : ℕ) (a : Arena) → bad_count n ≡ false → k < 32 → register l stamps k mark n a ≡ added a
  register-adds n a e h = unless (bad_count n) _ _ e ∙ unless (leb 32 k) _ _ (lt-leb 32 k h)

  manage-adds : (from size : ℕ) (node : ℤ) (b n : ℕ) → first_whole S from ≡ b → past_whole S from size ≡ b + n * S
      → no_whole_chunk S from size ≡ false → bad_range S l k b (n * S) ≡ false → bad_count n ≡ false → k < 32
      → manage_of S l stamps k mark from size true node false true ≡ added (managed_arena b n true node)
  unfolding manage_of
  manage-adds from size node b n first past whole range count room =
      let bytes : past_whole S from size - first_whole S from ≡ n * S = omega (arith, first, past) in
      let chunks : (past_whole S from size - first_whole S from) / S ≡ n = ap (λ (x : ℕ). x / S) bytes ∙ mul-div_cancel n some_size in
      unless (no_whole_chunk S from size) _ _ whole
      ∙ unless (bad_range S l k _ _) _ _ (ap₂ (bad_range S l k) first bytes ∙ range)
      ∙ register-adds _ _ (ap bad_count chunks ∙ count) room
      ∙ ap₂ (λ (x y : ℕ). added (managed_arena x y true node)) first chunks

  memory-adds : (n bytes : ℕ) (commit : Bool) (b : ℕ) → bad_range S l k b (n * S) ≡ false → bad_count n ≡ false → b % S ≡ 0 → k < 32
      → answer_memory S l stamps k mark n bytes commit true Reserve true b ≡ added (reserved_arena b n commit true)
  memory-adds n bytes commit b range count aligned room =
      unless (bad_range S l k b (n * S)) _ _ range ∙ unless (bad_count n) _ _ count ∙ unless (not (eqb (b % S) 0)) _ _ (ap not (eq-eqb (b % S) 0 aligned))
      ∙ unless (leb 32 k) _ _ (lt-leb 32 k room)

-- ---- the tests of manage, by plain arithmetic

module _ (t : Trail) (g : Good t) (b n : ℕ) (r : Registrable t.world b n) where
  abbrev S : ℕ
  S = bytes_in t

  some_size : 0 < S
  some_size = (size_fits t.world.state).0

  abbrev l : List Arena
  l = t.world.records

  abbrev k : ℕ
  k = standing t

  some-each : (i : ℕ) → i < k → 1 ≤ (at l i).chunks
  some-each i h = (g.world.table.each i h).range.some

  range-passes : bad_range S l k b (n * S) ≡ false
  range-passes = not-6 t.world some-each b n r

  count-passes : bad_count n ≡ false
  count-passes = not-12 t.world b n r

  module _ (m : Marked) (x : Manages t m b n) where
    first : first_whole S x.from ≡ b
    first = first-is S some_size b r.whole x.from x.first.0 x.first.1

    past : past_whole S x.from x.bytes ≡ b + n * S
    past = past_is S some_size b r.whole x.from x.bytes n x.last.0 x.last.1

    -- a chunk has room in it
    chunk : S ≤ n * S
    chunk = let one : 1 * S ≤ n * S = mul-le-mul_right S r.some in omega arith

    not-15 : no_whole_chunk S x.from x.bytes ≡ false
    unfolding no_whole_chunk
    not-15 =
        ap₂ ◌||◌ (ne_eqb x.from 0 (λ e. omega (arith, x.some-start)))
        (ap₂ ◌||◌ (lt-leb (2 ^ 64) (x.from + x.bytes) x.sum_fits)
        (ap₂ ◌||◌ (lt-leb (2 ^ 64) (x.from + (S - 1)) (omega (arith, x.first.0, x.last.0, x.sum_fits, chunk, some_size)))
        (lt-leb (past_whole S x.from x.bytes) (first_whole S x.from) (omega (arith, first, past, chunk, some_size)))))

  -- ---- the call registers it

  module _ (m : Marked) where
    abbrev does : Question → Call → Outcome
    does q c = step_on S l t.world.stamps k t.world.state.mark q m.ns m.settings c

    managed-adds : (x : Manages t m b n) → on_trail t m ≡ added S some_size l t.world.stamps k t.world.state.mark (managed_arena b n true x.node)
    managed-adds x =
        ap₂ does x.none_open x.is_call
        ∙ manage-adds S some_size l t.world.stamps k t.world.state.mark x.from x.bytes x.node b n (first m x) (past m x) (not-15 m x) range-passes count-passes r.room

    reserved-adds : (x : Reserves t m b n) → on_trail t m ≡ added S some_size l t.world.stamps k t.world.state.mark (reserved_arena b n x.commit true)
    unfolding answer_of is_for
    reserved-adds x = ap (does (open_at t)) x.is_call ∙ go (open_at t) x.memory-open g.asked
      where
        go : (q : Question) → is_for q ForMemory ≡ true → Asked S l q t.asked → does q (answer ForMemory true b) ≡ added S some_size l t.world.stamps k t.world.state.mark (reserved_arena b n x.commit true)
        go Idle e a = absurd (true≢false (sym e))
        go (Committing i s c) e a = absurd (true≢false (sym e))
        go (Purging i j w) e a = absurd (true≢false (sym e))
        go (GivingBack cause waiting) e a = absurd (true≢false (sym e))
        go (Reserving chunks bytes commit exclusive (Claim c commits)) e a =
            absurd (let y : act (claim (negsuc a.0) c commits) ≡ act (reserve x.bytes x.commit x.large true) = sym a.1 ∙ x.asked_by in let z : ◌≡◌ {A = ℕ} 0 1 = cc in omega arith)
        go (Reserving chunks bytes commit exclusive Reserve) e a =
            let y : act (reserve a.0 commit a.1 exclusive) ≡ act (reserve x.bytes x.commit x.large true) = sym a.2 ∙ x.asked_by in
            let size : a.0 ≡ x.bytes = cc in
            let same : commit ≡ x.commit = cc in
            let alone : exclusive ≡ true = cc in
            let count : chunks ≡ n = a.3 ∙ ap (chunks_for S) size ∙ rounded in
            ap₂ (λ (y : ℕ) (z : Bool). answer_memory S l t.world.stamps k t.world.state.mark y bytes z exclusive Reserve true b) count same
            ∙ ap (λ (z : Bool). answer_memory S l t.world.stamps k t.world.state.mark n bytes x.commit z Reserve true b) alone
            ∙ memory-adds S some_size l t.world.stamps k t.world.state.mark n bytes x.commit b range-passes count-passes r.whole r.room
          where
            rounded : chunks_for S x.bytes ≡ n
            rounded = up_is S some_size x.bytes n x.rounds.0 x.rounds.1

-- ---- then its book is as it is opened

pub record Opening (S p id b n : ℕ) (managed : Bool) (u : Trail) : Type 0 where
  pub inv : Inv S p id b n u.world.records u.world.state.count (open_at u) u.asker
  pub book : book_at S p id b n u.world.records (open_at u) ≡ opened S b n managed
  pub owes : owed_at S p id b n u.world.records (open_at u) ≡ []
  pub idle : open_at u ≡ Idle

module _ (p : ℕ) (t : Trail) (m : Marked) (g : Good t) (o : OpensAt t m) where
  -- the record at the end of the table
  stands : (a : Arena) → is_on a.exclusive ≡ true → a.base ≡ o.base → a.chunks ≡ o.chunks → book_in (bytes_in t) calm a ≡ opened (bytes_in t) o.base o.chunks o.managed
      → on_trail t m ≡ added (bytes_in t) (size_fits t.world.state).0 t.world.records t.world.stamps (standing t) t.world.state.mark a → Opening (bytes_in t) p (standing t) o.base o.chunks o.managed (gone t m (on_trail t m))
  stands a x y z shows e =
      subst (λ (c : Outcome). Opening (bytes_in t) p (standing t) o.base o.chunks o.managed (gone t m c)) (sym e)
      (record {
        inv = record { low = omega arith; stays = subst (Stays o.base o.chunks) (sym there) (record { exclusive = x; base = y; chunks = z }); mine = tt };
        book = ap (book_in (bytes_in t) calm) there ∙ shows;
        owes = refl;
        idle = refl;
      })
    where
      there : at (with_record t.world.records (standing t) a) (standing t) ≡ a
      there = at_same t.world.records (standing t) a (omega (arith, g.world.table.long, o.registrable.room))

  by_kind : (managed : Bool) → o.managed ≡ managed → Registers t m o.base o.chunks managed → Opening (bytes_in t) p (standing t) o.base o.chunks o.managed (gone t m (on_trail t m))
  by_kind true e x =
      stands (managed_arena o.base o.chunks true x.node) (unfold managed_arena new_arena in refl) (unfold managed_arena new_arena in refl) (unfold managed_arena new_arena in refl)
      (book-managed o.base o.chunks true x.node o.registrable.few ∙ ap (opened (bytes_in t) o.base o.chunks) (sym e))
      (managed-adds t g o.base o.chunks o.registrable m x)
  by_kind false e x =
      stands (reserved_arena o.base o.chunks x.commit true) (unfold reserved_arena new_arena in refl) (unfold reserved_arena new_arena in refl) (unfold reserved_arena new_arena in refl)
      (book-reserved o.base o.chunks x.commit true o.registrable.few ∙ ap (opened (bytes_in t) o.base o.chunks) (sym e))
      (reserved-adds t g o.base o.chunks o.registrable m x)

  pub opening : Opening (bytes_in t) p (standing t) o.base o.chunks o.managed (follow t m)
  opening = subst (Opening (bytes_in t) p (standing t) o.base o.chunks o.managed) (sym (follow-sound t m g o.is-sound)) (by_kind o.managed refl o.registers)
