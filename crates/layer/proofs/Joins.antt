-- What a join comes to: both tables as they were, or one table that is sound if both were. Assumes nothing.
use Rattle.std.specs.Prelude.{◌≡◌, ◌&&◌, ◌+◌, ◌-◌, ◌*◌, ◌<◌, ◌≤◌}
use Rattle.layer.proofs.Prelude.{refl, sym, ap, ◌∙◌, subst, Bool, true, false, not, true≢false, List, ⊎_elim, ℕ, arith, ltb-false, ltb, length, lt-or-le, Option, Some, None, least, First, first_says, by_cond, unless, when, and_both, Refusal, Arena, bytes_of, Rows, SoundArena, Settings, Idle, Err, Ok, World, empty, at, is_some, sound, meets, overlaps, is_idle, JoinOutcome, join_outcome, tables_overlap, joined_world, join_on, join_rules, is_broken_join, is_joined, blank}
use Rattle.arena.proofs.MovingLaws.{overwritten-length, before-written, where-written}
use Rattle.layer.proofs.Tools.{by-not}
use Rattle.layer.proofs.Facts.{overlaps-none}
use Rattle.layer.proofs.Kept.{SoundWorld}
use Rattle.layer.proofs.Calls.{idle-is}

-- ---- the cases

-- no question is open on either side, no two ranges overlap, and there is room
pub record Unites (S : ℕ) (w v : World) : Type 0 where
  pub first-idle : w.state.question ≡ Idle
  pub second-idle : v.state.question ≡ Idle
  pub no-overlap : tables_overlap S w.records w.state.count v.records v.state.count ≡ false
  pub room : w.state.count + v.state.count ≤ 32

pub data Comes (S : ℕ) (w v : World) (o : JoinOutcome) : Type 0 where
  both-stay : is_joined o.answer ≡ false → o.first ≡ w → o.second ≡ v → Comes S w v o
  one_table : Unites S w v → o ≡ join_outcome (Ok w.state.count) (joined_world w v) empty → Comes S w v o

module _ (S : ℕ) (w v : World) where
  refused : (why : Refusal) → Comes S w v (join_outcome (Err why) w v)
  refused why = both-stay refl refl refl

  pub on-comes : Comes S w v (join_on S w v)
  unfolding join_on
  on-comes =
      by-not (Comes S w v) (is_idle w.state.question && is_idle v.state.question) _ _
      (λ idle. by_cond (Comes S w v) (tables_overlap S w.records w.state.count v.records v.state.count) _ _ (λ e. refused _)
      (λ apart. by_cond (Comes S w v) (ltb 32 (w.state.count + v.state.count)) _ _ (λ e. refused _)
      (λ few. let i = and_both (is_idle w.state.question) (is_idle v.state.question) idle in
      one_table (record {
        first-idle = idle-is w.state.question i.0;
        second-idle = idle-is v.state.question i.1;
        no-overlap = apart;
        room = ltb-false 32 (w.state.count + v.state.count) few;
      }) refl)))
      (λ e. refused _)

  pub join-comes : (settings : Settings) → Comes S w v (join_rules S w v settings)
  unfolding join_rules
  join-comes settings = by-not (Comes S w v) (sound S w settings.page && sound S v settings.page) _ _ (λ e. on-comes) (λ e. refused _)

  -- "1" exactly if row 1 does not let both pass
  pub broken-join : (settings : Settings) → is_broken_join (join_rules S w v settings).answer ≡ not (sound S w settings.page && sound S v settings.page)
  unfolding join_rules join_on
  broken-join settings = go (sound S w settings.page && sound S v settings.page) refl
    where
      Says : JoinOutcome → Type 0
      Says o = is_broken_join o.answer ≡ false

      later : Says (join_on S w v)
      later =
          by-not Says (is_idle w.state.question && is_idle v.state.question) _ _
          (λ idle. by_cond Says (tables_overlap S w.records w.state.count v.records v.state.count) _ _ (λ e. refl)
          (λ apart. by_cond Says (ltb 32 (w.state.count + v.state.count)) _ _ (λ e. refl) (λ few. refl)))
          (λ e. refl)

      go : (b : Bool) → (sound S w settings.page && sound S v settings.page) ≡ b → is_broken_join (join_rules S w v settings).answer ≡ not b
      go true e = ap (λ (o : JoinOutcome). is_broken_join o.answer) (let z = unless (not (sound S w settings.page && sound S v settings.page)) _ _ (ap not e) in z) ∙ later
      go false e = ap (λ (o : JoinOutcome). is_broken_join o.answer) (let z = when (not (sound S w settings.page && sound S v settings.page)) _ _ (ap not e) in z)

-- ---- ranges of one and of the other

module _ (S : ℕ) (l : List Arena) (k : ℕ) (m : List Arena) (c : ℕ) where
  abbrev meeting : ℕ → Bool
  meeting j = overlaps S l k (at m j).base (bytes_of S (at m j))

  pub none-across : tables_overlap S l k m c ≡ false → (i j : ℕ) → i < k → j < c → meets S (at l i) (at m j).base (bytes_of S (at m j)) ≡ false
  unfolding tables_overlap
  none-across e i j h g = go (least meeting 0 c) (first_says meeting 0 c) e
    where
      go : (f : Option ℕ) → First meeting 0 c f → is_some f ≡ false → meets S (at l i) (at m j).base (bytes_of S (at m j)) ≡ false
      go (Some z) a e = absurd (true≢false e)
      go None a e = overlaps-none S l k _ _ (a j (omega arith) (omega (arith, g))) i h

  -- two that meet
  pub record Pair : Type 0 where
    pub i : ℕ
    pub j : ℕ
    pub of-first : i < k
    pub of-second : j < c
    pub meet : meets S (at l i) (at m j).base (bytes_of S (at m j)) ≡ true

  pub some-across : tables_overlap S l k m c ≡ true → Pair
  unfolding tables_overlap overlaps
  some-across e = go (least meeting 0 c) (first_says meeting 0 c) e
    where
      inner : (j : ℕ) → j < c → (f : Option ℕ) → First (λ i. meets S (at l i) (at m j).base (bytes_of S (at m j))) 0 k f → is_some f ≡ true → Pair
      inner j h (Some i) a e = record { i = i; j = j; of-first = omega (arith, a.1); of-second = h; meet = a.2 }
      inner j h None a e = absurd (true≢false (sym e))

      go : (f : Option ℕ) → First meeting 0 c f → is_some f ≡ true → Pair
      go (Some j) a e = inner j (omega (arith, a.1)) (least (λ i. meets S (at l i) (at m j).base (bytes_of S (at m j))) 0 k) (first_says (λ i. meets S (at l i) (at m j).base (bytes_of S (at m j))) 0 k) a.2
      go None a e = absurd (true≢false (sym e))

-- ---- one table

module _ (S : ℕ) (w v : World) (x : SoundWorld S w) (y : SoundWorld S v) (u : Unites S w v) where
  abbrev k : ℕ
  k = w.state.count

  abbrev c : ℕ
  c = v.state.count

  abbrev l : List Arena
  l = (joined_world w v).records

  in-first : k + c ≤ length w.records
  in-first = omega (arith, u.room, x.table.long)

  in-second : c ≤ length v.records
  in-second = omega (arith, y.table.few, y.table.long)

  pub first-kept : (i : ℕ) → i < k → at l i ≡ at w.records i
  first-kept i h = before-written w.records k v.records c in-first in-second blank i h

  pub second-moved : (i : ℕ) → i < c → at l (k + i) ≡ at v.records i
  second-moved i h = where-written w.records k v.records c in-first in-second blank i h

  -- each arena is one of the first's or one of the second's
  part : (P : ℕ → Arena → Type 0) → ((i : ℕ) → i < k → P i (at w.records i)) → ((i : ℕ) → i < c → P (k + i) (at v.records i)) → (i : ℕ) → i < k + c → P i (at l i)
  part P f g i h =
      ⊎_elim (λ (b : i < k). subst (P i) (sym (first-kept i b)) (f i b))
      (λ (b : k ≤ i). let e : k + (i - k) ≡ i = omega (arith, b) in
      subst (λ (z : ℕ). P z (at l z)) e (subst (P (k + (i - k))) (sym (second-moved (i - k) (omega (arith, b, h)))) (g (i - k) (omega (arith, b, h)))))
      (lt-or-le i k)

  -- an arena of the one meets none of the other
  across : (i j : ℕ) → i < k → j < c → meets S (at w.records i) (at v.records j).base (bytes_of S (at v.records j)) ≡ false
  across i j h g = none-across S w.records k v.records c u.no-overlap i j h g

  apart-all : (i j : ℕ) → i < j → j < k + c → meets S (at l i) (at l j).base (bytes_of S (at l j)) ≡ false
  apart-all i j lt h =
      part (λ (z : ℕ) (b : Arena). i < z → meets S (at l i) b.base (bytes_of S b) ≡ false)
      (λ z zk iz. ap (λ (a : Arena). meets S a (at w.records z).base (bytes_of S (at w.records z))) (first-kept i (omega (arith, iz, zk))) ∙ x.table.apart i z iz zk)
      (λ z zc iz. part (λ (q : ℕ) (a : Arena). q < k + z → meets S a (at v.records z).base (bytes_of S (at v.records z)) ≡ false)
      (λ q qk qz. across q z qk zc) (λ q qc qz. y.table.apart q z (omega (arith, qz)) zc) i (omega (arith, lt, h)) iz)
      j h lt

  pub one-table-sound : SoundWorld S (joined_world w v)
  one-table-sound = record {
    table = record {
      long = overwritten-length w.records k v.records c in-first in-second ∙ x.table.long;
      few = u.room;
      rows = part (λ (z : ℕ) (a : Arena). Rows a) x.table.rows y.table.rows;
      each = part (λ (z : ℕ) (a : Arena). SoundArena S a) x.table.each y.table.each;
      apart = apart-all;
    };
    stamps = overwritten-length w.stamps (1024 * k) v.stamps (1024 * c) (omega (arith, u.room, x.stamps)) (omega (arith, y.table.few, y.stamps)) ∙ x.stamps;
    question = tt;
  }
