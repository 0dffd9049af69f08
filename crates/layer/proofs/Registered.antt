-- Sound in, sound out, for what registers: a new arena, one that grows, and the calls that make them. Assumes nothing.
use Rattle.std.specs.Prelude.{◌≡◌, ◌&&◌, ◌⊎◌, ◌+◌, ◌-◌, ◌*◌, ◌/◌, ◌%◌, ◌^◌, ◌<◌, ◌≤◌}
use Rattle.layer.proofs.Prelude.{refl, sym, ap, ap₂, ◌∙◌, subst, Bool, true, false, true≢false, List, inl, inr, ⊎_elim, ℕ, zero, suc, add-mul, mul-mod_left, arith, ℕ_discrete, leb-false, ltb-false, eqb-false, lt-ltb, leb, ltb, eqb, ℤ, negsuc, length, set, length-set, lt-or-le, Arena, new_arena, reserved_arena, managed_arena, adopted_arena, grown_arena, bytes_of, end_of, SoundRange, SoundArena, Rows, at, meets, bad_range, chunks_for, ask_memory, bad_count, with_stamps, first_whole, past_whole, grows, reserve_of, manage_of, adopt_of}
use borrow.Author.Tests.{le-ltb}
use Rattle.arena.proofs.Changes.{new-rows, grown-rows}
use Rattle.arena.proofs.StaysSound.{new-sound, grown-sound}
use Rattle.layer.proofs.Tools.{or-false, at_same, at_other, by-set}
use Rattle.layer.proofs.ChunkLaws.{mul-pos, whole, managed-whole}
use Rattle.layer.proofs.Facts.{SoundTable, overlaps-none}
use Rattle.layer.proofs.Rules.{grows-facts, count-facts}
use Rattle.layer.proofs.Cases.{register, reserve-cases, register-cases, manage-cases, adopt-cases}
use Rattle.layer.proofs.Kept.{Kept, calm-kept, stamp-length}

-- ---- what row 6 lets pass

pub record GoodRange (S : ℕ) (l : List Arena) (k base bytes : ℕ) : Type 0 where
  pub somewhere : base ≡ 0 → ⊥
  pub ends : base + bytes < 2 ^ 64
  pub alone : (i : ℕ) → i < k → meets S (at l i) base bytes ≡ false

pub good-range : (S : ℕ) (l : List Arena) (k base bytes : ℕ) → bad_range S l k base bytes ≡ false → GoodRange S l k base bytes
unfolding bad_range
good-range S l k base bytes e =
    let p = or-false (eqb base 0) _ e in
    let q = or-false (leb (2 ^ 64) (base + bytes)) _ p.1 in
    record { somewhere = eqb-false base 0 p.0; ends = leb-false (2 ^ 64) (base + bytes) q.0; alone = overlaps-none S l k base bytes q.1 }

-- ---- what it means that an arena does not meet a range

end_is : (S : ℕ) (a : Arena) → end_of S a ≡ a.base + bytes_of S a
unfolding end_of
end_is S a = refl

pub meets-false : (S : ℕ) (a : Arena) (x y : ℕ) → meets S a x y ≡ false → 0 < y → (end_of S a ≤ x) ⊎ (x + y ≤ a.base)
unfolding meets
meets-false S a x y e h = go (ltb x (end_of S a)) refl (ltb a.base (x + y)) refl
  where
    go : (p : Bool) → ltb x (end_of S a) ≡ p → (q : Bool) → ltb a.base (x + y) ≡ q → (end_of S a ≤ x) ⊎ (x + y ≤ a.base)
    go false u q v = inl (ltb-false x (end_of S a) u)
    go true u false v = inr (ltb-false a.base (x + y) v)
    go true u true v = absurd (true≢false (sym (ap₂ ◌&&◌ (lt-ltb 0 y h) (ap₂ ◌&&◌ u v)) ∙ e))

pub meets-apart : (S : ℕ) (a : Arena) (x y : ℕ) → (end_of S a ≤ x) ⊎ (x + y ≤ a.base) → meets S a x y ≡ false
unfolding meets
meets-apart S a x y (inl h) = go (ltb 0 y)
  where
    go : (b : Bool) → b && (ltb x (end_of S a) && ltb a.base (x + y)) ≡ false
    go true = ap (λ (t : Bool). t && ltb a.base (x + y)) (le-ltb x (end_of S a) h)
    go false = refl
meets-apart S a x y (inr h) = go (ltb 0 y) (ltb x (end_of S a))
  where
    go : (b c : Bool) → b && (c && ltb a.base (x + y)) ≡ false
    go true true = le-ltb a.base (x + y) h
    go true false = refl
    go false c = refl

-- ---- a new record at the end of the table

module _ (S : ℕ) (l : List Arena) (k : ℕ) (a : Arena) (t : SoundTable S l k) (full : k < 32) where
  inside : k < length l
  inside = omega (arith, t.long)

  pub new-table : Rows a → SoundArena S a → ((i : ℕ) → i < k → meets S (at l i) a.base (bytes_of S a) ≡ false) → SoundTable S (set l k a) (suc k)
  new-table r x alone = record {
    long = length-set l k a ∙ t.long;
    few = full;
    rows = λ j u. by-set Rows l k a inside r j (λ e. t.rows j (below j u e));
    each = λ j u. by-set (SoundArena S) l k a inside x j (λ e. t.each j (below j u e));
    apart = λ i j u v. go i j u v (ℕ_discrete j k);
  }
    where
      below : (j : ℕ) → j < suc k → (j ≡ k → ⊥) → j < k
      below j u e = ⊎_elim (λ (m : j < k). m) (λ (m : k ≤ j). absurd (e (omega arith))) (lt-or-le j k)

      go : (i j : ℕ) → i < j → j < suc k → Dec (j ≡ k) → meets S (at (set l k a) i) (at (set l k a) j).base (bytes_of S (at (set l k a) j)) ≡ false
      go i j u v (yes e) =
          let z : at (set l k a) j ≡ a = ap (at (set l k a)) e ∙ at_same l k a inside in
          ap₂ (λ (b c : Arena). meets S b c.base (bytes_of S c)) (at_other l k i a (λ (f : i ≡ k). omega arith)) z ∙ alone i (omega arith)
      go i j u v (no e) =
          ap₂ (λ (b c : Arena). meets S b c.base (bytes_of S c)) (at_other l k i a (λ (f : i ≡ k). omega (arith, below j v e))) (at_other l k j a e)
          ∙ t.apart i j u (below j v e)

-- ---- the three kinds of new records

pub reserved-rows : (base n : ℕ) (commit exclusive : Bool) → Rows (reserved_arena base n commit exclusive)
unfolding reserved_arena
reserved-rows base n commit exclusive = new-rows base n exclusive true (negsuc 0) false commit

pub reserved-sound : (S base n : ℕ) (commit exclusive : Bool) → SoundRange S base n → SoundArena S (reserved_arena base n commit exclusive)
unfolding reserved_arena
reserved-sound S base n commit exclusive x = new-sound S base n exclusive true (negsuc 0) false commit x

pub managed-rows : (base n : ℕ) (exclusive : Bool) (node : ℤ) → Rows (managed_arena base n exclusive node)
unfolding managed_arena
managed-rows base n exclusive node = new-rows base n exclusive false node true true

pub managed-sound : (S base n : ℕ) (exclusive : Bool) (node : ℤ) → SoundRange S base n → SoundArena S (managed_arena base n exclusive node)
unfolding managed_arena
managed-sound S base n exclusive node x = new-sound S base n exclusive false node true true x

pub adopted-rows : (base n : ℕ) → Rows (adopted_arena base n)
unfolding adopted_arena
adopted-rows base n = new-rows base n false true (negsuc 0) true true

pub adopted-sound : (S base n : ℕ) → SoundRange S base n → SoundArena S (adopted_arena base n)
unfolding adopted_arena
adopted-sound S base n x = new-sound S base n false true (negsuc 0) true true x

-- a new record's range is the one that it is made of
pub reserved-range : (S base n : ℕ) (commit exclusive : Bool) → ((reserved_arena base n commit exclusive).base ≡ base) × (bytes_of S (reserved_arena base n commit exclusive) ≡ n * S)
unfolding reserved_arena new_arena bytes_of
reserved-range S base n commit exclusive = (refl, refl)

pub managed-range : (S base n : ℕ) (exclusive : Bool) (node : ℤ) → ((managed_arena base n exclusive node).base ≡ base) × (bytes_of S (managed_arena base n exclusive node) ≡ n * S)
unfolding managed_arena new_arena bytes_of
managed-range S base n exclusive node = (refl, refl)

pub adopted-range : (S base n : ℕ) → ((adopted_arena base n).base ≡ base) × (bytes_of S (adopted_arena base n) ≡ n * S)
unfolding adopted_arena new_arena bytes_of
adopted-range S base n = (refl, refl)

-- ---- registering

module _ (S : ℕ) (l : List Arena) (stamps : List ℕ) (k : ℕ) (mark : Bool) (t : SoundTable S l k) (ls : length stamps ≡ 32768) where
  pub new-stamps : k < 32 → length (with_stamps stamps k) ≡ 32768
  new-stamps h = stamp-length stamps (1024 * k) 1024 0 (omega (arith, ls)) ∙ ls

  pub register-kept : (chunks : ℕ) (a : Arena) → Rows a → (bad_count chunks ≡ false → SoundArena S a)
      → ((i : ℕ) → i < k → meets S (at l i) a.base (bytes_of S a) ≡ false) → Kept S (register l stamps k mark chunks a)
  register-kept chunks a r x alone =
      register-cases S l stamps k mark (Kept S) chunks a (calm-kept S l stamps k mark t ls mark) (calm-kept S l stamps k mark t ls mark)
      (λ e h. record { table = new-table S l k a t h r (x e) alone; stamps = new-stamps h; question = tt })

  -- ---- the calls

  pub reserve-kept : (size : ℕ) (commit large exclusive : Bool) (page : ℕ) → Kept S (reserve_of S l stamps k mark size commit large exclusive page)
  unfolding ask_memory
  reserve-kept size commit large exclusive page =
      reserve-cases S l stamps k mark (Kept S) size commit large exclusive page (calm-kept S l stamps k mark t ls mark) (record { table = t; stamps = ls; question = tt })

  module _ (pos : 0 < S) where
    -- a range of whole chunks that row 6 lets pass, and that can be registered, is an arena's
    pub arena-range : (base bytes : ℕ) → base % S ≡ 0 → bytes / S * S ≡ bytes → GoodRange S l k base bytes → bad_count (bytes / S) ≡ false → SoundRange S base (bytes / S)
    arena-range base bytes e w g r =
        let f = count-facts (bytes / S) r in
        record { somewhere = g.somewhere; aligned = e; some = f.0; few = f.1; ends = subst (λ (x : ℕ). base + x < 2 ^ 64) (sym w) g.ends }

    pub manage-kept : (start size : ℕ) (exclusive : Bool) (node : ℤ) (mapped reserved : Bool) → Kept S (manage_of S l stamps k mark start size exclusive node mapped reserved)
    manage-kept start size exclusive node mapped reserved =
        manage-cases S l stamps k mark (Kept S) start size exclusive node mapped reserved (calm-kept S l stamps k mark t ls mark) (calm-kept S l stamps k mark t ls mark)
        (calm-kept S l stamps k mark t ls mark) (λ g. managed (good-range S l k (first_whole S start) (past_whole S start size - first_whole S start) g))
      where
        managed : GoodRange S l k (first_whole S start) (past_whole S start size - first_whole S start)
            → Kept S (register l stamps k mark ((past_whole S start size - first_whole S start) / S) (managed_arena (first_whole S start) ((past_whole S start size - first_whole S start) / S) exclusive node))
        managed g =
            register-kept ((past_whole S start size - first_whole S start) / S) (managed_arena (first_whole S start) ((past_whole S start size - first_whole S start) / S) exclusive node)
            (managed-rows (first_whole S start) ((past_whole S start size - first_whole S start) / S) exclusive node)
            (λ r. managed-sound S (first_whole S start) ((past_whole S start size - first_whole S start) / S) exclusive node
            (arena-range (first_whole S start) (past_whole S start size - first_whole S start) (mul-mod_left (chunks_for S start) S) (managed-whole S pos start size) g r))
            (λ i u. let z = managed-range S (first_whole S start) ((past_whole S start size - first_whole S start) / S) exclusive node in
            ap₂ (meets S (at l i)) z.0 (z.1 ∙ managed-whole S pos start size) ∙ g.alone i u)

    -- ---- growth

    -- the block of n chunks at the end of arena i, which meets no arena
    module _ (i address n : ℕ) (h : i < k) (grow : grows S (at l i) address n ≡ true) (some : 0 < n) (good : GoodRange S l k address (n * S)) where
      facts : (end_of S (at l i) ≡ address) × ((at l i).chunks + n ≤ 1024)
      facts = let f = grows-facts S (at l i) address n grow in (f.1, f.2)

      -- the range after: the old one and the block
      longer : ((at l i).chunks + n) * S ≡ bytes_of S (at l i) + n * S
      unfolding bytes_of
      longer = add-mul (at l i).chunks n S

      ends_at : (at l i).base + bytes_of S (at l i) ≡ address
      unfolding end_of
      ends_at = facts.0

      grown-range : SoundRange S (at l i).base ((at l i).chunks + n)
      grown-range =
          let x = (t.each i h).range in
          record { somewhere = x.somewhere; aligned = x.aligned; some = omega (arith, x.some); few = facts.1; ends = omega (arith, longer, ends_at, good.ends) }

      -- bytes of a sound arena, and of the block
      some_bytes : (j : ℕ) → j < k → 0 < bytes_of S (at l j)
      unfolding bytes_of
      some_bytes j u = mul-pos (at l j).chunks S (t.each j u).range.some pos

      block : 0 < n * S
      block = mul-pos n S some pos

      grown-bytes : bytes_of S (grown_arena (at l i) n) ≡ bytes_of S (at l i) + n * S
      unfolding grown_arena bytes_of
      grown-bytes = longer

      grown-base : (grown_arena (at l i) n).base ≡ (at l i).base
      unfolding grown_arena
      grown-base = refl

      there : i < length l
      there = omega (arith, t.long, t.few)

      -- the arena that grew, and one after it
      ahead : (y : ℕ) → i < y → y < k → meets S (grown_arena (at l i) n) (at l y).base (bytes_of S (at l y)) ≡ false
      ahead y u v =
          meets-apart S (grown_arena (at l i) n) (at l y).base (bytes_of S (at l y))
          (⊎_elim
          (λ (p : end_of S (at l i) ≤ (at l y).base). ⊎_elim
          (λ (q : end_of S (at l y) ≤ address). absurd (omega (arith, end_is S (at l y), facts.0, some_bytes y v)))
          (λ (q : address + n * S ≤ (at l y).base). inl (omega (arith, end_is S (grown_arena (at l i) n), grown-bytes, grown-base, ends_at)))
          (meets-false S (at l y) address (n * S) (good.alone y v) block))
          (λ (p : (at l y).base + bytes_of S (at l y) ≤ (at l i).base). inr (omega (arith, grown-base)))
          (meets-false S (at l i) (at l y).base (bytes_of S (at l y)) (t.apart i y u v) (some_bytes y v)))

      -- one before it
      behind : (x : ℕ) → x < i → meets S (at l x) (grown_arena (at l i) n).base (bytes_of S (grown_arena (at l i) n)) ≡ false
      behind x u =
          meets-apart S (at l x) (grown_arena (at l i) n).base (bytes_of S (grown_arena (at l i) n))
          (⊎_elim
          (λ (p : end_of S (at l x) ≤ (at l i).base). inl (omega (arith, grown-base)))
          (λ (p : (at l i).base + bytes_of S (at l i) ≤ (at l x).base). ⊎_elim
          (λ (q : end_of S (at l x) ≤ address). absurd (omega (arith, end_is S (at l x), ends_at, some_bytes x (omega arith))))
          (λ (q : address + n * S ≤ (at l x).base). inr (omega (arith, grown-bytes, grown-base, ends_at)))
          (meets-false S (at l x) address (n * S) (good.alone x (omega arith)) block))
          (meets-false S (at l x) (at l i).base (bytes_of S (at l i)) (t.apart x i u h) (some_bytes i h)))

      pub grown-table : SoundTable S (set l i (grown_arena (at l i) n)) k
      grown-table = record {
        long = length-set l i (grown_arena (at l i) n) ∙ t.long;
        few = t.few;
        rows = λ j u. by-set Rows l i (grown_arena (at l i) n) there (grown-rows (at l i) n (t.rows i h)) j (λ e. t.rows j u);
        each = λ j u. by-set (SoundArena S) l i (grown_arena (at l i) n) there (grown-sound S (at l i) n (t.each i h) grown-range) j (λ e. t.each j u);
        apart = λ x y u v. go x y u v (ℕ_discrete x i) (ℕ_discrete y i);
      }
        where
          go : (x y : ℕ) → x < y → y < k → Dec (x ≡ i) → Dec (y ≡ i)
              → meets S (at (set l i (grown_arena (at l i) n)) x) (at (set l i (grown_arena (at l i) n)) y).base (bytes_of S (at (set l i (grown_arena (at l i) n)) y)) ≡ false
          go x y u v (yes p) (yes q) = absurd (omega arith)
          go x y u v (yes p) (no q) =
              ap₂ (λ (b c : Arena). meets S b c.base (bytes_of S c)) (ap (at (set l i (grown_arena (at l i) n))) p ∙ at_same l i (grown_arena (at l i) n) there)
              (at_other l i y (grown_arena (at l i) n) q)
              ∙ ahead y (omega arith) v
          go x y u v (no p) (yes q) =
              ap₂ (λ (b c : Arena). meets S b c.base (bytes_of S c)) (at_other l i x (grown_arena (at l i) n) p)
              (ap (at (set l i (grown_arena (at l i) n))) q ∙ at_same l i (grown_arena (at l i) n) there)
              ∙ behind x (omega arith)
          go x y u v (no p) (no q) =
              ap₂ (λ (b c : Arena). meets S b c.base (bytes_of S c)) (at_other l i x (grown_arena (at l i) n) p) (at_other l i y (grown_arena (at l i) n) q)
              ∙ t.apart x y u v

    pub adopt-kept : (address size : ℕ) → Kept S (adopt_of S l stamps k mark address size)
    adopt-kept address size =
        adopt-cases S l stamps k mark (Kept S) address size (calm-kept S l stamps k mark t ls mark) (calm-kept S l stamps k mark t ls mark) (calm-kept S l stamps k mark t ls mark)
        (λ i w u g. let e = whole S pos size w.2 in
        record {
          table = grown-table i address (size / S) u g (some-chunks (size / S) e w.0) (subst (λ (x : ℕ). GoodRange S l k address x) (sym e) (good-range S l k address size w.3));
          stamps = ls;
          question = tt;
        })
        (λ w. let e = whole S pos size w.2 in
        let good : GoodRange S l k address size = good-range S l k address size w.3 in
        register-kept (size / S) (adopted_arena address (size / S)) (adopted-rows address (size / S))
        (λ r. adopted-sound S address (size / S) (arena-range address size w.1 e good r))
        (λ i u. let z = adopted-range S address (size / S) in ap₂ (meets S (at l i)) z.0 (z.1 ∙ e) ∙ good.alone i u))
      where
        some-chunks : (n : ℕ) → n * S ≡ size → (size ≡ 0 → ⊥) → 0 < n
        some-chunks zero e h = absurd (h (omega arith))
        some-chunks (suc n) e h = omega arith
