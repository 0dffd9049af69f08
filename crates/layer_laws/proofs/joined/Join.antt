-- Wish 1 of the rules' join: the order of its refusals, by addresses, and what it leaves. Assumes nothing.
use Rattle.std.specs.Prelude.{◌≡◌, ◌&&◌, ◌↔◌, ◌+◌, ◌-◌, ◌*◌, ◌<◌, ◌≤◌, Result, Ok, Err}
use Rattle.layer.proofs.Prelude.{refl, sym, ap, ap₂, ◌∙◌, subst, Bool, true, false, cond, not, true≢false, List, ⊎_elim, ℕ, arith, ltb-true, lt-ltb, leb-true, eqb-true, leb, ltb, eqb, length, get_or, take, drop, lt-or-le, when, unless, and_both, never, Refusal, Broken, QuestionOpen, page_size_sound, bytes_of, end_of, stamps_of, overwritten, World, empty, blank, at, sound, sound_lent, sound_table, meets, is_idle, begin, JoinOutcome, join, join_outcome, joined_world, join_on, join_rules, tables_overlap, is_broken_join, is_joined}
use lib.Seq.{length-take-le, ext_get_or, get_or-take, get_or-drop, drop-drop, drop-paste}
use lib.ListN.{length-drop}
use Rattle.refusals.specs.declared.Refusal.TheVariants.{TablesOverlap, TooManyArenas}
use Rattle.refusals.specs.Number.{number}
use Rattle.arena.proofs.MovingLaws.{overwritten-length, before-written, where-written, past-written}
use Rattle.layer.specs.declared.Settings.{Settings}
use Rattle.layer.specs.declared.Question.{Question}
use Rattle.layer.specs.World.{size_of}
use Rattle.layer.proofs.Plain.{some-chunk}
use Rattle.layer.proofs.Kept.{SoundWorld}
use Rattle.layer.proofs.Stepped.{sound-facts, sound-test}
use Rattle.layer.proofs.Calls.{idle-is}
use Rattle.layer.proofs.Trails.{good-ruled}
use Rattle.layer.proofs.Joins.{Comes, both-stay, one_table, join-comes, broken-join, none-across, some-across, one-table-sound}
use Rattle.layer_laws.specs.joined.Join.{Sound, Calm, Overlap, OneTable, GrantLeaves, StaySound, ByTheWish}

-- ---- an answer by its number; 0 if it is a grant

abbrev number_of : Result ℕ Refusal → ℕ
number_of (Err why) = number why
number_of (Ok rise) = 0

-- two answers of other numbers
differ : {A : Type 0} (a b : Result ℕ Refusal) → a ≡ b → (number_of a ≡ number_of b → ⊥) → A
differ a b e d = absurd (d (ap number_of e))

module _ (w v : World) where
  abbrev S : ℕ
  S = size_of w.state

  -- ---- row 1

  both_true : (settings : Settings) → Sound w v settings → (sound S w settings.page && sound S v settings.page) ≡ true
  both_true settings h = ap₂ ◌&&◌ h.0 h.1

  past_one : (ns : ℕ) (settings : Settings) → Sound w v settings → join w v ns settings ≡ join_on S w v
  unfolding join_rules
  past_one ns settings h = unless (not (sound S w settings.page && sound S v settings.page)) _ _ (ap not (both_true settings h))

  one : (ns : ℕ) (settings : Settings) → ((join w v ns settings).answer ≡ Err Broken) ↔ (Sound w v settings → ⊥)
  unfolding join_rules
  one ns settings = (
    (λ e h. true≢false (sym (ap is_broken_join e) ∙ broken-join S w v settings ∙ ap not (both_true settings h))),
    (λ h. ap (λ (o : JoinOutcome). o.answer)
        (when (not (sound S w settings.page && sound S v settings.page)) _ _ (ap not (never _ (λ e. h (and_both (sound S w settings.page) (sound S v settings.page) e)))))),
  )

  -- what is joined was sound
  joined-sound : (ns : ℕ) (settings : Settings) (rise : ℕ) → (join w v ns settings).answer ≡ Ok rise → Sound w v settings
  joined-sound ns settings rise e = and_both (sound S w settings.page) (sound S v settings.page) (turned _ (sym (broken-join S w v settings) ∙ ap is_broken_join e))
    where
      turned : (b : Bool) → not b ≡ false → b ≡ true
      turned true f = refl
      turned false f = absurd (true≢false f)

  -- ---- row 2

  abbrev later : JoinOutcome
  later =
      cond (tables_overlap S w.records w.state.count v.records v.state.count) (join_outcome (Err TablesOverlap) w v)
      (cond (ltb 32 (w.state.count + v.state.count)) (join_outcome (Err TooManyArenas) w v) (join_outcome (Ok w.state.count) (joined_world w v) empty))

  past_two : Calm w v → join_on S w v ≡ later
  unfolding join_on
  past_two h =
      unless (not (is_idle w.state.question && is_idle v.state.question)) _ _ (ap not (ap₂ (λ (p q : Question). is_idle p && is_idle q) h.0 h.1))

  -- it says 17, 18 or nothing
  later-number : number_of later.answer ≡ 2 → ⊥
  later-number = go (tables_overlap S w.records w.state.count v.records v.state.count) (ltb 32 (w.state.count + v.state.count))
    where
      go : (a b : Bool) → number_of (cond a (join_outcome (Err TablesOverlap) w v) (cond b (join_outcome (Err TooManyArenas) w v) (join_outcome (Ok w.state.count) (joined_world w v) empty))).answer ≡ 2 → ⊥
      go true b e = omega (arith, e)
      go false true e = omega (arith, e)
      go false false e = omega (arith, e)

  two : (ns : ℕ) (settings : Settings) → Sound w v settings → ((join w v ns settings).answer ≡ Err QuestionOpen) ↔ (Calm w v → ⊥)
  unfolding join_on
  two ns settings h = (
    (λ e c. later-number (ap (λ (o : JoinOutcome). number_of o.answer) (sym (past_one ns settings h ∙ past_two c)) ∙ ap number_of e)),
    (λ c. ap (λ (o : JoinOutcome). o.answer) (past_one ns settings h
        ∙ when (not (is_idle w.state.question && is_idle v.state.question)) _ _
        (ap not (never _ (λ e. let i = and_both (is_idle w.state.question) (is_idle v.state.question) e in c (idle-is w.state.question i.0, idle-is v.state.question i.1)))))),
  )

  -- ---- row 17, by addresses

  overlap-found : (settings : Settings) → Sound w v settings → tables_overlap S w.records w.state.count v.records v.state.count ≡ true → Overlap w v
  unfolding meets end_of bytes_of
  overlap-found settings sounds e =
      let p = some-across S w.records w.state.count v.records v.state.count e in
      let a = at w.records p.i in
      let b = at v.records p.j in
      let x = and_both (ltb 0 (b.chunks * S)) _ p.meet in
      let y = and_both (ltb b.base (a.base + a.chunks * S)) _ x.1 in
      let some : 0 < b.chunks * S = ltb-true _ _ x.0 in
      let up : b.base < a.base + a.chunks * S = ltb-true _ _ y.0 in
      let down : a.base < b.base + b.chunks * S = ltb-true _ _ y.1 in
      ⊎_elim
      (λ (h : a.base < b.base). record {
        i = p.i;
        j = p.j;
        x = b.base;
        of-first = p.of-first;
        of-second = p.of-second;
        in-first = (omega (arith, h), up);
        in-second = (omega arith, omega (arith, some));
      })
      (λ (h : b.base ≤ a.base). record {
        i = p.i;
        j = p.j;
        x = a.base;
        of-first = p.of-first;
        of-second = p.of-second;
        in-first = (omega arith, omega (arith, some-chunk w settings.page sounds.0 p.i p.of-first));
        in-second = (h, down);
      })
      (lt-or-le a.base b.base)

  they-meet : (o : Overlap w v) → meets S (at w.records o.i) (at v.records o.j).base (bytes_of S (at v.records o.j)) ≡ true
  unfolding meets end_of bytes_of
  they-meet o =
      let a = at w.records o.i in
      let b = at v.records o.j in
      ap₂ ◌&&◌ (lt-ltb 0 (b.chunks * S) (omega (arith, o.in-second.0, o.in-second.1)))
      (ap₂ ◌&&◌ (lt-ltb b.base (a.base + a.chunks * S) (omega (arith, o.in-second.0, o.in-first.1))) (lt-ltb a.base (b.base + b.chunks * S) (omega (arith, o.in-first.0, o.in-second.1))))

  found-overlap : Overlap w v → tables_overlap S w.records w.state.count v.records v.state.count ≡ true
  found-overlap o = go (tables_overlap S w.records w.state.count v.records v.state.count) refl
    where
      go : (b : Bool) → tables_overlap S w.records w.state.count v.records v.state.count ≡ b → b ≡ true
      go true e = refl
      go false e = absurd (true≢false (sym (they-meet o) ∙ none-across S w.records w.state.count v.records v.state.count e o.i o.j o.of-first o.of-second))

  none_found : (settings : Settings) → Sound w v settings → (Overlap w v → ⊥) → tables_overlap S w.records w.state.count v.records v.state.count ≡ false
  none_found settings sounds h = never _ (λ e. h (overlap-found settings sounds e))

  past-seventeen : (settings : Settings) → Sound w v settings → (Overlap w v → ⊥) → later ≡ cond (ltb 32 (w.state.count + v.state.count)) (join_outcome (Err TooManyArenas) w v) (join_outcome (Ok w.state.count) (joined_world w v) empty)
  past-seventeen settings sounds h = unless (tables_overlap S w.records w.state.count v.records v.state.count) _ _ (none_found settings sounds h)

  seventeen : (ns : ℕ) (settings : Settings) → Sound w v settings → Calm w v → ((join w v ns settings).answer ≡ Err TablesOverlap) ↔ Overlap w v
  seventeen ns settings h c = (
    (λ e. go (tables_overlap S w.records w.state.count v.records v.state.count) refl (ap (λ (o : JoinOutcome). o.answer) (sym (past_one ns settings h ∙ past_two c)) ∙ e)),
    (λ o. ap (λ (x : JoinOutcome). x.answer) (past_one ns settings h ∙ past_two c ∙ when (tables_overlap S w.records w.state.count v.records v.state.count) _ _ (found-overlap o))),
  )
    where
      no : (b : Bool) → number_of (cond b (join_outcome (Err TooManyArenas) w v) (join_outcome (Ok w.state.count) (joined_world w v) empty)).answer ≡ 17 → ⊥
      no true e = omega (arith, e)
      no false e = omega (arith, e)

      go : (b : Bool) → tables_overlap S w.records w.state.count v.records v.state.count ≡ b → later.answer ≡ Err TablesOverlap → Overlap w v
      go true f e = overlap-found settings h f
      go false f e = absurd (no (ltb 32 (w.state.count + v.state.count)) (ap (λ (o : JoinOutcome). number_of o.answer) (sym (unless (tables_overlap S w.records w.state.count v.records v.state.count) _ _ f)) ∙ ap number_of e))

  -- ---- row 18, and the grant

  eighteen : (ns : ℕ) (settings : Settings) → Sound w v settings → Calm w v → (Overlap w v → ⊥) → ((join w v ns settings).answer ≡ Err TooManyArenas) ↔ (32 < w.state.count + v.state.count)
  eighteen ns settings h c n = (
    (λ e. go (ltb 32 (w.state.count + v.state.count)) refl (ap (λ (o : JoinOutcome). o.answer) (sym (past_one ns settings h ∙ past_two c ∙ past-seventeen settings h n)) ∙ e)),
    (λ f. ap (λ (x : JoinOutcome). x.answer) (past_one ns settings h ∙ past_two c ∙ past-seventeen settings h n ∙ when (ltb 32 (w.state.count + v.state.count)) _ _ (lt-ltb 32 (w.state.count + v.state.count) f))),
  )
    where
      go : (b : Bool) → ltb 32 (w.state.count + v.state.count) ≡ b → (cond b (join_outcome (Err TooManyArenas) w v) (join_outcome (Ok w.state.count) (joined_world w v) empty)).answer ≡ Err TooManyArenas → 32 < w.state.count + v.state.count
      go true f e = ltb-true 32 (w.state.count + v.state.count) f
      go false f e = absurd (let z : ◌≡◌ {A = ℕ} 0 18 = ap number_of e in omega (arith, z))

  granted : (ns : ℕ) (settings : Settings) → Sound w v settings → Calm w v → (Overlap w v → ⊥) → w.state.count + v.state.count ≤ 32 → (join w v ns settings).answer ≡ Ok w.state.count
  granted ns settings h c n few =
      ap (λ (x : JoinOutcome). x.answer)
      (past_one ns settings h ∙ past_two c ∙ past-seventeen settings h n
      ∙ unless (ltb 32 (w.state.count + v.state.count)) _ _ (never _ (λ e. omega (arith, few, ltb-true 32 (w.state.count + v.state.count) e))))

  -- ---- what is left

  stays : (ns : ℕ) (settings : Settings) (why : Refusal) → (join w v ns settings).answer ≡ Err why → ((join w v ns settings).first ≡ w) × ((join w v ns settings).second ≡ v)
  stays ns settings why e = go (join w v ns settings) (join-comes S w v settings) e
    where
      go : (o : JoinOutcome) → Comes S w v o → o.answer ≡ Err why → (o.first ≡ w) × (o.second ≡ v)
      go o (both-stay a x y) e = (x, y)
      go o (one_table u is) e = absurd (true≢false (ap is_joined (sym (ap (λ (z : JoinOutcome). z.answer) is) ∙ e)))

-- ---- the stamps of one arena

-- 1,024 stamps from a place on that are the same as those from another place on of another list
same-part : (l m : List ℕ) (a b : ℕ) → a + 1024 ≤ length l → b + 1024 ≤ length m → ((j : ℕ) → j < 1024 → get_or l (a + j) 0 ≡ get_or m (b + j) 0) → take 1024 (drop a l) ≡ take 1024 (drop b m)
same-part l m a b h g e =
    ext_get_or 0 (take 1024 (drop a l)) (take 1024 (drop b m)) (long l a h ∙ sym (long m b g))
    (λ j u. let lt : j < 1024 = omega (arith, u, long l a h) in
    get_or-take 1024 (drop a l) j 0 lt ∙ get_or-drop a l j 0 ∙ e j lt ∙ sym (get_or-take 1024 (drop b m) j 0 lt ∙ get_or-drop b m j 0))
  where
    long : (l : List ℕ) (a : ℕ) → a + 1024 ≤ length l → length (take 1024 (drop a l)) ≡ 1024
    long l a h = length-take-le 1024 (drop a l) (let z : length (drop a l) ≡ length l - a = length-drop a l in omega (arith, h, z))

-- lengths of a sound table
record Long (w : World) : Type 0 where
  records : length w.records ≡ 32
  stamps : length w.stamps ≡ 32768
  few : w.state.count ≤ 32

lengths : (w : World) (page : ℕ) → sound (size_of w.state) w page ≡ true → Long w
unfolding sound_lent sound_table
lengths w page e =
    let a = and_both (eqb (length w.records) 32) _ e in
    let b = and_both (eqb (length w.stamps) 32768) _ a.1 in
    let c = and_both (page_size_sound page) _ b.1 in
    let d = and_both (leb w.state.count 32) _ c.1 in
    record { records = eqb-true (length w.records) 32 a.0; stamps = eqb-true (length w.stamps) 32768 b.0; few = leb-true w.state.count 32 d.0 }

module _ (w v : World) (x : Long w) (y : Long v) (room : w.state.count + v.state.count ≤ 32) where
  abbrev k : ℕ
  k = w.state.count

  abbrev c : ℕ
  c = v.state.count

  in-records : k + c ≤ length w.records
  in-records = omega (arith, room, x.records)

  of-records : c ≤ length v.records
  of-records = omega (arith, y.few, y.records)

  in-stamps : 1024 * k + 1024 * c ≤ length w.stamps
  in-stamps = omega (arith, room, x.stamps)

  of-stamps : 1024 * c ≤ length v.stamps
  of-stamps = omega (arith, y.few, y.stamps)

  abbrev ss : List ℕ
  ss = overwritten w.stamps (1024 * k) v.stamps (1024 * c)

  long-stamps : length ss ≡ 32768
  long-stamps = overwritten-length w.stamps (1024 * k) v.stamps (1024 * c) in-stamps of-stamps ∙ x.stamps

  first_part : (i : ℕ) → i < k → stamps_of ss i ≡ stamps_of w.stamps i
  unfolding stamps_of
  first_part i h =
      same-part ss w.stamps (1024 * i) (1024 * i) (omega (arith, h, x.few, long-stamps)) (omega (arith, h, x.few, x.stamps))
      (λ j u. before-written w.stamps (1024 * k) v.stamps (1024 * c) in-stamps of-stamps 0 (1024 * i + j) (omega (arith, h, u)))

  second-part : (i : ℕ) → i < c → stamps_of ss (k + i) ≡ stamps_of v.stamps i
  unfolding stamps_of
  second-part i h =
      same-part ss v.stamps (1024 * (k + i)) (1024 * i) (omega (arith, h, room, long-stamps)) (omega (arith, h, y.few, y.stamps))
      (λ j u. ap (λ (z : ℕ). get_or ss z 0) (let z : 1024 * (k + i) + j ≡ 1024 * k + (1024 * i + j) = omega arith in z)
      ∙ where-written w.stamps (1024 * k) v.stamps (1024 * c) in-stamps of-stamps 0 (1024 * i + j) (omega (arith, h, u)))

  past-part : (i : ℕ) → k + c ≤ i → stamps_of ss i ≡ stamps_of w.stamps i
  unfolding stamps_of overwritten
  past-part i h = ap (take 1024) (cut ss ∙ ap (drop (1024 * i - (1024 * k + 1024 * c))) (drop-paste w.stamps (1024 * k) v.stamps (1024 * c) (omega (arith, x.few, x.stamps)) of-stamps) ∙ sym (cut w.stamps))
    where
      cut : (l : List ℕ) → drop (1024 * i) l ≡ drop (1024 * i - (1024 * k + 1024 * c)) (drop (1024 * k + 1024 * c) l)
      cut l = ap (λ (z : ℕ). drop z l) (let z : 1024 * i ≡ 1024 * k + 1024 * c + (1024 * i - (1024 * k + 1024 * c)) = omega (arith, h) in z) ∙ sym (drop-drop (1024 * i - (1024 * k + 1024 * c)) (1024 * k + 1024 * c) l)

  becomes-one : OneTable w v (joined_world w v)
  becomes-one = record {
    first-ids = before-written w.records k v.records c in-records of-records blank;
    second-ids = where-written w.records k v.records c in-records of-records blank;
    past-ids = past-written w.records k v.records c in-records of-records blank;
    first-stamps = first_part;
    second-stamps = second-part;
    past-stamps = past-part;
    count = refl;
    mark = refl;
    none_open = refl;
  }

-- ---- THE WISH

grant-leaves : GrantLeaves join
grant-leaves w v ns settings rise e = go (join w v ns settings) (join-comes (size_of w.state) w v settings) e
  where
    both : Sound w v settings
    both = joined-sound w v ns settings rise e

    go : (o : JoinOutcome) → Comes (size_of w.state) w v o → o.answer ≡ Ok rise → OneTable w v o.first × (o.second ≡ empty)
    go o (both-stay a x y) f = absurd (true≢false (sym (ap is_joined f) ∙ a))
    go o (one_table u is) f =
        subst (λ (z : JoinOutcome). OneTable w v z.first × (z.second ≡ empty)) (sym is)
        (becomes-one w v (lengths w settings.page both.0) (lengths v settings.page both.1) u.room, refl)

stay-sound : StaySound join
unfolding empty
stay-sound w v ns settings r q h page p = go (join w v ns settings) (join-comes (size_of w.state) w v settings)
  where
    x : SoundWorld (size_of w.state) w
    x = (sound-facts (size_of w.state) w settings.page r h.0).0

    y : SoundWorld (size_of v.state) v
    y = (sound-facts (size_of v.state) v settings.page q h.1).0

    go : (o : JoinOutcome) → Comes (size_of w.state) w v o → (sound (size_of o.first.state) o.first page ≡ true) × (sound (size_of o.second.state) o.second page ≡ true)
    go o (both-stay a e f) = (
      subst (λ (z : World). sound (size_of z.state) z page ≡ true) (sym e) (sound-test (size_of w.state) w page x p),
      subst (λ (z : World). sound (size_of z.state) z page ≡ true) (sym f) (sound-test (size_of v.state) v page y p),
    )
    go o (one_table u is) =
        subst (λ (z : JoinOutcome). (sound (size_of z.first.state) z.first page ≡ true) × (sound (size_of z.second.state) z.second page ≡ true)) (sym is)
        (sound-test (size_of w.state) (joined_world w v) page (one-table-sound (size_of w.state) w v x y u) p, sound-test (size_of empty.state) empty page (good-ruled begin).world p)

pub by-the-wish : ByTheWish join
by-the-wish = record {
  one-exactly = one;
  two-exactly = two;
  seventeen-exactly = seventeen;
  eighteen-exactly = eighteen;
  otherwise = granted;
  refusal-leaves = stays;
  grant-leaves = grant-leaves;
  stay-sound = stay-sound;
}
