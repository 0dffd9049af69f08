-- The rules' own run of a history: its table stays sound and its open question is of the call that put it; and the rules, lent as they left it, go that way. Assumes nothing.
use Rattle.std.specs.Prelude.{◌≡◌}
use Rattle.layer.proofs.Prelude.{refl, sym, ap, ap₂, ◌∙◌, subst, Bool, true, false, cond, not, ℕ, arith, length-replicate, when, unless, World, Outcome, empty, step_on, step, JoinOutcome, join, Marked, MarkedJoin, Side, of_first, of_second, History, begin, next, joining, is_sound, both_sound, by_rules, outcome_by, join_by, is_broken, is_broken_join, side_of, left, Lent, Trail, open_at, is_idle, follow, follow_join, join_of, leaving, start, ruled, by_cond, Question, Idle, sound, ListOutcome, release_list, MarkedList, is_sound_list, list_by, listing, list_of, follow_list}
use Rattle.layer.specs.World.{size_of}
use Rattle.layer.specs.declared.State.{State}
use Rattle.layer.specs.History.{bytes_in}
use Rattle.layer.proofs.ChunkLaws.{size_fits}
use Rattle.layer.proofs.Kept.{SoundWorld}
use Rattle.layer.proofs.Stepped.{step-on-kept, passing-facts, sound-test}
use Rattle.layer.proofs.Outcomes.{refused-1}
use Rattle.layer.proofs.Asked.{Asked, step-asked}
use Rattle.layer.proofs.Calls.{past-1}
use Rattle.layer.proofs.Lists.{each-sound, each-state, ListComes, turned_down, one_by_one, list-comes, broken-list}
use Rattle.layer.proofs.Joins.{Comes, both-stay, one_table, join-comes, broken-join, one-table-sound}

-- facts that hold of the rules' own tables alone, and not of every sound one; none so far
abbrev pub Own : World → Type 0
Own w = Unit {0}

-- what holds of the rules' own run
pub record Good (t : Trail) : Type 0 where
  pub world : SoundWorld (bytes_in t) t.world
  pub asked : Asked (bytes_in t) t.world.records (open_at t) t.asked
  pub own : Own t.world

module _ (t : Trail) (m : Marked) where
  -- the call, where row 1 lets it pass
  abbrev pub on_trail : Outcome
  on_trail = step_on (bytes_in t) t.world.records t.world.stamps t.world.state.count t.world.state.mark (open_at t) m.ns m.settings m.call

  pub on-rules : Good t → is_sound m ≡ true → step t.world m.ns m.settings m.call ≡ on_trail
  on-rules g e = past-1 (bytes_in t) t.world m.ns m.settings (sound-test (bytes_in t) t.world m.settings.page g.world (passing-facts (size_of m.lent.state) m.lent m.settings.page e).page-sound) m.call

  abbrev pub gone : Outcome → Trail
  gone o = record { world = o.world; asker = cond (is_idle (open_at t)) m.who t.asker; asked = cond (is_idle (open_at t)) m.call t.asked }

  pub follow-sound : Good t → is_sound m ≡ true → follow t m ≡ gone on_trail
  follow-sound g e = when (is_sound m) _ _ e ∙ ap gone (on-rules g e)

  pub follow-not : is_sound m ≡ false → follow t m ≡ t
  follow-not e = unless (is_sound m) _ _ e

  -- the size of a chunk stays
  pub size-stays : size_of on_trail.world.state ≡ bytes_in t
  size-stays = refl

  pub good-follow : Good t → Good (follow t m)
  good-follow g = go (is_sound m) refl
    where
      kept : Good (gone on_trail)
      kept = record {
        world = subst (λ (S : ℕ). SoundWorld S on_trail.world) (sym size-stays) (step-on-kept (bytes_in t) (size_fits t.world.state).0 t.world.records t.world.stamps t.world.state.count t.world.state.mark g.world.table g.world.stamps (open_at t) m.ns m.settings m.call g.world.question);
        asked = subst (λ (S : ℕ). Asked S on_trail.world.records on_trail.world.state.question (gone on_trail).asked) (sym size-stays) (step-asked (bytes_in t) t.world.records t.world.stamps t.world.state.count t.world.state.mark g.world.table.long g.world.table.few (open_at t) t.asked m.ns m.settings m.call g.asked);
        own = tt;
      }

      go : (b : Bool) → is_sound m ≡ b → Good (follow t m)
      go true e = subst Good (sym (follow-sound g e)) kept
      go false e = subst Good (sym (follow-not e)) g

  pub size-follows : Good t → bytes_in (follow t m) ≡ bytes_in t
  size-follows g = go (is_sound m) refl
    where
      go : (b : Bool) → is_sound m ≡ b → bytes_in (follow t m) ≡ bytes_in t
      go true e = ap bytes_in (follow-sound g e) ∙ size-stays
      go false e = ap bytes_in (follow-not e)

-- ---- a list

module _ (t : Trail) (m : MarkedList) where
  -- what the rules' run lets pass of a list whose own table they let pass
  pub list-sound : Good t → is_sound_list m ≡ true → sound (bytes_in t) t.world m.settings.page ≡ true
  list-sound g e = sound-test (bytes_in t) t.world m.settings.page g.world (passing-facts (size_of m.lent.state) m.lent m.settings.page e).page-sound

  -- another sound world where no question is open
  pub good-leaving : (w : World) → SoundWorld (size_of w.state) w → w.state.question ≡ Idle → Good (leaving t w)
  good-leaving w k idle = record { world = k; asked = subst (λ (q : Question). Asked (size_of w.state) w.records q t.asked) (sym idle) tt; own = tt }

  good-list : Good t → Good (follow_list t m)
  good-list g = by_cond Good (is_sound_list m) _ _ (λ e. after (list_of t m) (list-comes t.world m.ns m.settings m.items)) (λ e. g)
    where
      after : (o : ListOutcome) → ListComes t.world m.ns m.settings m.items o → Good (leaving t o.whole.world)
      after o (turned_down why e is) = subst (λ (x : ListOutcome). Good (leaving t x.whole.world)) (sym is) g
      after o (one_by_one e idle fits is) =
          subst (λ (x : ListOutcome). Good (leaving t x.whole.world)) (sym is)
          (good-leaving _ (each-sound m.ns m.settings m.items.pending t.world (e, idle) g.world m.items.addresses m.items.counts)
          (ap (λ (s : State). s.question) (each-state m.ns m.settings m.items.pending t.world (e, idle) m.items.addresses m.items.counts) ∙ idle))

-- where nothing stands
good-empty : (t : Trail) → Good (leaving t empty)
unfolding empty
good-empty t = record {
  world = record {
    table = record { long = refl; few = omega arith; rows = λ i h. absurd (omega arith); each = λ i h. absurd (omega arith); apart = λ i j h g. absurd (omega arith) };
    stamps = length-replicate {A = ℕ} 32768 0;
    question = tt;
  };
  asked = tt;
  own = tt;
}

-- ---- a join

-- the size of a chunk is that of both
pub same_size : (t u : Trail) → bytes_in u ≡ bytes_in t
same_size t u = refl

module _ (t u : Trail) (m : MarkedJoin) where
  pub join-of-comes : Comes (bytes_in t) t.world u.world (join_of t u m)
  join-of-comes = join-comes (bytes_in t) t.world u.world m.settings

  good-join : (side : Side) → Good t → Good u → Good (follow_join side t u m)
  good-join side g h = go (both_sound m) side
    where
      -- what is left on a side
      after : (o : JoinOutcome) → Comes (bytes_in t) t.world u.world o → (side : Side) → Good (side_of side (leaving t o.first) (leaving u o.second))
      after o (both-stay a x y) of_first = subst (λ (w : World). Good (leaving t w)) (sym x) g
      after o (both-stay a x y) of_second = subst (λ (w : World). Good (leaving u w)) (sym y) h
      after o (one_table a is) of_first =
          subst (λ (z : JoinOutcome). Good (leaving t z.first)) (sym is)
          (record { world = one-table-sound (bytes_in t) t.world u.world g.world (subst (λ (S : ℕ). SoundWorld S u.world) (same_size t u) h.world) a; asked = tt; own = tt })
      after o (one_table a is) of_second = subst (λ (z : JoinOutcome). Good (leaving u z.second)) (sym is) (good-empty u)

      go : (b : Bool) (side : Side) → Good (cond b (side_of side (leaving t (join_of t u m).first) (leaving u (join_of t u m).second)) (side_of side t u))
      go true side = after (join_of t u m) join-of-comes side
      go false of_first = g
      go false of_second = h

pub good-ruled : (h : History) → Good (ruled h)
good-ruled begin = good-empty start
good-ruled (next h m) = good-follow (ruled h) m (good-ruled h)
good-ruled (listing h m) = good-list (ruled h) m (good-ruled h)
good-ruled (joining side h g m) = good-join (ruled h) (ruled g) m side (good-ruled h) (good-ruled g)

-- ---- the rules as the layer

-- "1" exactly if row 1 does not let it pass
pub row-1 : (m : Marked) → is_broken (outcome_by by_rules m).answer ≡ not (is_sound m)
row-1 m = refused-1 (size_of m.lent.state) m.lent m.ns m.settings m.call

row-1-list : (m : MarkedList) → is_broken (list_by by_rules m).whole.answer ≡ not (is_sound_list m)
row-1-list m = broken-list m.lent m.ns m.settings m.items

row-1-join : (m : MarkedJoin) → is_broken_join (join_by by_rules m).answer ≡ not (both_sound m)
row-1-join m = broken-join (size_of m.first.state) m.first m.second m.settings

-- lent as the order says, they leave what their own run leaves
pub left-ruled : (h : History) → Lent by_rules h → left by_rules h ≡ (ruled h).world
left-ruled begin k = refl
left-ruled (next h m) k = go (is_sound m) refl (left-ruled h k.0)
  where
    go : (b : Bool) → is_sound m ≡ b → left by_rules h ≡ (ruled h).world → left by_rules (next h m) ≡ (follow (ruled h) m).world
    go true e before =
        let not-1 : is_broken (outcome_by by_rules m).answer ≡ false = row-1 m ∙ ap not e in
        unless (is_broken (outcome_by by_rules m).answer) _ _ not-1
        ∙ ap (λ (w : World). (step w m.ns m.settings m.call).world) (k.1 not-1 ∙ before)
        ∙ sym (ap (λ (t : Trail). t.world) (when (is_sound m) _ _ e))
    go false e before =
        when (is_broken (outcome_by by_rules m).answer) _ _ (row-1 m ∙ ap not e) ∙ before ∙ sym (ap (λ (t : Trail). t.world) (unless (is_sound m) _ _ e))
left-ruled (listing h m) k = go (is_sound_list m) refl (left-ruled h k.0)
  where
    go : (b : Bool) → is_sound_list m ≡ b → left by_rules h ≡ (ruled h).world → left by_rules (listing h m) ≡ (follow_list (ruled h) m).world
    go true e before =
        let not-1 : is_broken (list_by by_rules m).whole.answer ≡ false = row-1-list m ∙ ap not e in
        unless (is_broken (list_by by_rules m).whole.answer) _ _ not-1
        ∙ ap (λ (w : World). (release_list w m.ns m.settings m.items).whole.world) (k.1 not-1 ∙ before)
        ∙ sym (ap (λ (t : Trail). t.world) (when (is_sound_list m) _ _ e))
    go false e before =
        when (is_broken (list_by by_rules m).whole.answer) _ _ (row-1-list m ∙ ap not e) ∙ before ∙ sym (ap (λ (t : Trail). t.world) (unless (is_sound_list m) _ _ e))
left-ruled (joining side h g m) k = go (both_sound m) refl side (left-ruled h k.0) (left-ruled g k.1)
  where
    go : (b : Bool) → both_sound m ≡ b → (side : Side) → left by_rules h ≡ (ruled h).world → left by_rules g ≡ (ruled g).world → left by_rules (joining side h g m) ≡ (follow_join side (ruled h) (ruled g) m).world
    go true e side x y =
        let not-1 : is_broken_join (join_by by_rules m).answer ≡ false = row-1-join m ∙ ap not e in
        let lent = k.2 not-1 in
        let same : join_by by_rules m ≡ join_of (ruled h) (ruled g) m = ap₂ (λ (w v : World). join w v m.ns m.settings) (lent.0 ∙ x) (lent.1 ∙ y) in
        unless (is_broken_join (join_by by_rules m).answer) _ _ not-1
        ∙ ap (λ (o : JoinOutcome). side_of side o.first o.second) same
        ∙ of-side side
        ∙ sym (ap (λ (t : Trail). t.world) (when (both_sound m) _ _ e))
      where
        of-side : (side : Side) → side_of side (join_of (ruled h) (ruled g) m).first (join_of (ruled h) (ruled g) m).second ≡ (side_of side (leaving (ruled h) (join_of (ruled h) (ruled g) m).first) (leaving (ruled g) (join_of (ruled h) (ruled g) m).second)).world
        of-side of_first = refl
        of-side of_second = refl
    go false e of_first x y =
        when (is_broken_join (join_by by_rules m).answer) _ _ (row-1-join m ∙ ap not e) ∙ x ∙ sym (ap (λ (t : Trail). t.world) (unless (both_sound m) _ _ e))
    go false e of_second x y =
        when (is_broken_join (join_by by_rules m).answer) _ _ (row-1-join m ∙ ap not e) ∙ y ∙ sym (ap (λ (t : Trail). t.world) (unless (both_sound m) _ _ e))

-- what they answer is what their own run answers
pub answers-ruled : (h : History) (m : Marked) → Lent by_rules (next h m) → is_sound m ≡ true → outcome_by by_rules m ≡ on_trail (ruled h) m
answers-ruled h m k e =
    ap (λ (w : World). step w m.ns m.settings m.call) (k.1 (row-1 m ∙ ap not e) ∙ left-ruled h k.0) ∙ on-rules (ruled h) m (good-ruled h) e

pub lists-ruled : (h : History) (m : MarkedList) → Lent by_rules (listing h m) → is_sound_list m ≡ true → list_by by_rules m ≡ list_of (ruled h) m
lists-ruled h m k e = ap (λ (w : World). release_list w m.ns m.settings m.items) (k.1 (row-1-list m ∙ ap not e) ∙ left-ruled h k.0)
