-- "no other's claim is granted a chunk there"; and demand 3 as a whole. Assumes nothing.
use Rattle.std.specs.Prelude.{◌≡◌, ◌&&◌, ◌∷◌, ◌++◌, ◌+◌, ◌*◌, ◌<◌}
use Rattle.layer.proofs.Prelude.{Items, release_list, by_rules, join, refl, sym, ap, ap₂, ◌∙◌, subst, Bool, true, false, cond, not, true≢false, List, [], ℕ, arith, leb, ltb, eqb, pos, negsuc, when, Arena, bytes_of, end_of, is_inside, never, NoSuchQuestion, Settings, Question, Idle, Committing, Purging, Reserving, GivingBack, Reserve, Claim, Kind, Answer, Refused, Claimed, World, Outcome, at, sound, is_for, answer_of, Act, reserve, manage, adopt, claim, release, sweep, Call, act, query, answer, step_on, step, lowest, claims, Marked, is_sound, Layer, is_broken, Trail, open_at, ruled, entries, goes_on, Place, in_range, is_none, feeds, fed_by, standing, place, is_answer, claimant, chunks_of, Demand3}
use Rattle.layer.specs.World.{size_of}
use Rattle.layer.specs.History.{bytes_in}
use Rattle.layer.specs.Demand.{OthersElsewhere, StaysSound}
use Rattle.layer.proofs.Tools.{by-not}
use Rattle.layer.proofs.Shown.{calm, committing, view_of, Mine}
use Rattle.layer.proofs.Stepped.{sound-test}
use Rattle.layer.proofs.Outcomes.{names_in, act_names, names, asks_in, asks_for, Tells, step-tells}
use Rattle.layer.proofs.Asked.{Asked}
use Rattle.layer.proofs.Trails.{Good, on_trail, good-ruled, row-1, left-ruled, answers-ruled}
use Rattle.layer.proofs.Demand.{place-size, along, by-the-book}
use Rattle.layer.proofs.Consequences.{granted-exactly, granted-lowest, alike}
use Rattle.layer.proofs.Unjoined.{as-unjoined}

-- ---- how many chunks a call is about is what the call that it goes on with asked for

asks-asked : (S : ℕ) (l : List Arena) (q : Question) (c : Call) → Asked S l q c → (q ≡ Idle → ⊥) → asks_in q ≡ chunks_of c
asks-asked S l Idle c h d = absurd (d refl)
asks-asked S l (Committing i s n) c h d = sym (ap chunks_of h.2)
asks-asked S l (Purging i j w) c h d = sym (ap chunks_of h.1)
asks-asked S l (Reserving chunks bytes commit exclusive Reserve) c h d = sym (ap chunks_of h.2)
asks-asked S l (Reserving chunks bytes commit exclusive (Claim n commits)) c h d = sym (ap chunks_of h.1)
asks-asked S l (GivingBack cause Reserve) c h d = sym (ap chunks_of h.4)
asks-asked S l (GivingBack cause (Claim n commits)) c h d = sym (ap chunks_of h.1)

-- an answer grants nothing where no question is open
idle-answer : (S : ℕ) (l : List Arena) (stamps : List ℕ) (k : ℕ) (mark : Bool) (kind : Kind) (accepted : Bool) (base : ℕ) → (answer_of S l stamps k mark Idle kind accepted base).answer ≡ Refused NoSuchQuestion
unfolding answer_of
idle-answer S l stamps k mark kind accepted base = by-not (λ (o : Outcome). o.answer ≡ Refused NoSuchQuestion) (is_for Idle kind) _ _ (λ e. refl) (λ e. refl)

module _ (t : Trail) (g : Good t) (m : Marked) (x : ℕ) (fresh committed : Bool) where
  asks-for : (c : Call) → m.call ≡ c → (on_trail t m).answer ≡ Claimed x fresh committed → asks_for (open_at t) c ≡ chunks_of (goes_on t c)
  asks-for (act a) is e = refl
  asks-for (query c) is e = refl
  asks-for (answer kind accepted base) is e = asks-asked (bytes_in t) t.world.records (open_at t) t.asked g.asked none
    where
      none : open_at t ≡ Idle → ⊥
      none d =
          let u : Refused NoSuchQuestion ≡ Claimed x fresh committed =
          sym (idle-answer (bytes_in t) t.world.records t.world.stamps (standing t) t.world.state.mark kind accepted base)
          ∙ sym (ap₂ (λ (q : Question) (c : Call). (step_on (bytes_in t) t.world.records t.world.stamps (standing t) t.world.state.mark q m.ns m.settings c).answer) d is) ∙ e in
          let z : ◌≡◌ {A = ℕ} 0 1 = cc in omega arith

-- ---- who names the arena in a claim, or ends a commit question about it, claims for the program

module _ (p : ℕ) (a : Place) (t : Trail) (m : Marked) (sound-m : is_sound m ≡ true) (alone : is_none (fed_by a m) ≡ false → m.who ≡ p) (mine : Mine p t.asker (view_of a.id (open_at t))) where
  act-mine : (x : Act) → m.call ≡ act x → act_names x a.id ≡ true → m.who ≡ p
  act-mine (claim (pos i) n commits) is e =
      alone (ap is_none (when (is_sound m) _ _ sound-m)
      ∙ ap (λ (c : Call). is_none (feeds a (entries c))) is
      ∙ ap (λ (b : Bool). is_none (cond b (claims lowest n ∷ []) [] ++ [])) e)
  act-mine (claim (negsuc i) n commits) is e = absurd (true≢false (sym e))
  act-mine (reserve size commit large exclusive) is e = absurd (true≢false (sym e))
  act-mine (manage from size exclusive node mapped reserved) is e = absurd (true≢false (sym e))
  act-mine (adopt address size) is e = absurd (true≢false (sym e))
  act-mine (release address n tell pending) is e = absurd (true≢false (sym e))
  act-mine (sweep force) is e = absurd (true≢false (sym e))

  question-mine : (q : Question) → Mine p t.asker (view_of a.id q) → names_in q a.id ≡ true → t.asker ≡ p
  question-mine Idle v e = absurd (true≢false (sym e))
  question-mine (Committing i s n) v e = subst (Mine p t.asker) (when (eqb i a.id) (committing s n) calm e) v
  question-mine (Purging i j w) v e = absurd (true≢false (sym e))
  question-mine (Reserving chunks bytes commit exclusive waiting) v e = absurd (true≢false (sym e))
  question-mine (GivingBack cause waiting) v e = absurd (true≢false (sym e))

  names-mine : (c : Call) → m.call ≡ c → names (open_at t) c a.id ≡ true → claimant t m ≡ p
  names-mine (act x) is e = ap (λ (c : Call). cond (is_answer c) t.asker m.who) is ∙ act-mine x is e
  names-mine (query c) is e = absurd (true≢false (sym e))
  names-mine (answer kind accepted base) is e = ap (λ (c : Call). cond (is_answer c) t.asker m.who) is ∙ question-mine (open_at t) mine e

-- ---- the statement, and the whole

pub others-elsewhere : OthersElsewhere by_rules
unfolding in_range is_inside end_of bytes_of
others-elsewhere p h m w l k other x fresh committed e y lo hi =
    let t : Trail = ruled h in
    let g : Good t = good-ruled h in
    let a : Place = place h w in
    let sound-m : is_sound m ≡ true = not-false (is_sound m) (sym (row-1 m) ∙ ap is_broken e) in
    let says : (on_trail t m).answer ≡ Claimed x fresh committed = ap (λ (o : Outcome). o.answer) (sym (answers-ruled h m l sound-m)) ∙ e in
    let v = (along p h w l.0 k.0).inv in
    let tells : Tells (bytes_in t) t.world.records (standing t) (asks_for (open_at t) m.call) (names (open_at t) m.call) (Claimed x fresh committed) (on_trail t m).world =
    subst (λ (r : Answer). Tells (bytes_in t) t.world.records (standing t) (asks_for (open_at t) m.call) (names (open_at t) m.call) r (on_trail t m).world) says
    (step-tells (bytes_in t) t.world.records t.world.stamps (standing t) t.world.state.mark (open_at t) m.ns m.settings m.call g.world.question) in
    let unnamed : names (open_at t) m.call a.id ≡ false =
    never (names (open_at t) m.call a.id) (λ u. other (names-mine p a t m sound-m k.1.alone v.mine m.call refl u)) in
    let n : asks_for (open_at t) m.call ≡ chunks_of (goes_on t m.call) = asks-for t g m x fresh committed m.call refl says in
    let size : a.size ≡ bytes_in t = place-size h w in
    let top : y < x + asks_for (open_at t) m.call * bytes_in t = subst (λ (z : ℕ). y < x + z) (ap₂ (λ (i j : ℕ). i * j) (sym n) size) hi in
    ap₂ (λ (b c : ℕ). leb b y && ltb y (b + c * a.size)) (sym v.stays.base) (sym v.stays.chunks)
    ∙ ap (λ (z : ℕ). leb (at t.world.records a.id).base y && ltb y ((at t.world.records a.id).base + (at t.world.records a.id).chunks * z)) size
    ∙ tells g.world.table a.id v.low v.stays.exclusive unnamed y lo top
  where
    not-false : (b : Bool) → not b ≡ false → b ≡ true
    not-false true e = refl
    not-false false e = absurd (true≢false e)

-- what the rules leave stays sound
pub stays-sound : StaysSound by_rules
stays-sound h l page e = ap (λ (w : World). sound (size_of w.state) w page) (left-ruled h l) ∙ sound-test (bytes_in (ruled h)) (ruled h).world page (good-ruled h).world e

-- DEMAND 3, of the rules
pub demand3-rules : Demand3 by_rules
demand3-rules = record {
  by-the-book = by-the-book;
  granted-exactly = granted-exactly by_rules by-the-book;
  granted-lowest = granted-lowest by_rules by-the-book;
  others-elsewhere = others-elsewhere;
  alike = alike by_rules by-the-book;
  as-unjoined = as-unjoined;
  stays-sound = stays-sound;
}

-- and of every layer that answers and leaves what they say
pub demand3 : (L : Layer) → ((w : World) (ns : ℕ) (settings : Settings) (c : Call) → L.does w ns settings c ≡ step w ns settings c)
    → ((w : World) (ns : ℕ) (settings : Settings) (t : Items) → L.lists w ns settings t ≡ release_list w ns settings t)
    → ((w v : World) (ns : ℕ) (settings : Settings) → L.joins w v ns settings ≡ join w v ns settings) → Demand3 L
demand3 L e l f =
    subst Demand3
    (λ i. record { does = λ w ns settings c. sym (e w ns settings c) i; lists = λ w ns settings t. sym (l w ns settings t) i; joins = λ w v ns settings. sym (f w v ns settings) i })
    demand3-rules
