-- "exclusive arenas serve only those that name them": of a claim, and of one that waited for memory. Assumes nothing.
use Rattle.std.specs.Prelude.{◌≡◌, ◌+◌, ◌*◌, ◌%◌, ◌<◌, ◌≤◌}
use Rattle.layer.proofs.Prelude.{refl, sym, ap, ap₂, ◌∙◌, subst, Bool, true, false, true≢false, List, ⊎_elim, ℕ, suc, add-mul, mul-le-mul_right, eq-or-lt_of_le, arith, ℤ, pos, negsuc, NoRun, lt-or-le, Some, None, Arena, is_on, reserved_arena, find_run, bytes_of, end_of, found_inside, World, Outcome, turn_down, calm, at, meets, bad_range, sound, ask_memory, with_record, with_stamps, serves, miss_reply, search_of, answer_to, Call, claim, answer, act, rules}
use Rattle.layer.specs.declared.Settings.{Settings}
use Rattle.layer.specs.declared.Question.{Question}
use Rattle.layer.specs.declared.Question.TheVariants.{Committing, Reserving}
use Rattle.layer.specs.declared.Waiting.TheVariants.{Claim}
use Rattle.layer.specs.declared.Kind.TheVariants.{ForCommit, ForMemory}
use Rattle.layer.specs.declared.Ask.TheVariants.{AskCommit}
use Rattle.layer.specs.declared.Answer.TheVariants.{Asks, Claimed}
use Rattle.layer.specs.declared.Reply.{Reply}
use Rattle.layer.proofs.Tools.{at_other}
use Rattle.layer.proofs.Facts.{SoundTable}
use Rattle.layer.proofs.Rules.{not-shared, served-named, count-facts}
use Rattle.layer.proofs.Cases.{grant-cases, search-cases, miss-cases, claim-cases}
use Rattle.layer.proofs.Registered.{good-range, meets-false, new-table, reserved-rows, reserved-sound, reserved-range}
use Rattle.layer.proofs.Stepped.{Words, sound-facts}
use Rattle.layer.proofs.Calls.{act-cases, answer-cases, yes-cases}
use Rattle.layer_laws.proofs.after_refusal.Forms.{is_ask, step-forms}
use Rattle.layer_laws.specs.documented.Areas.{In, bytes, is_exclusive, Apart, given_at, OnlyNamed, InNamed}

-- ---- no address lies in two arenas

module _ (S : ℕ) (l : List Arena) (k : ℕ) (t : SoundTable S l k) where
  below : (i j x : ℕ) → i < j → j < k → In (at l i).base (bytes S (at l i)) x → In (at l j).base (bytes S (at l j)) x → ⊥
  unfolding end_of bytes_of
  below i j x u v f g =
      ⊎_elim (λ (m : (at l i).base + (at l i).chunks * S ≤ (at l j).base). omega (arith, f.1, g.0)) (λ (m : (at l j).base + (at l j).chunks * S ≤ (at l i).base). omega (arith, f.0, g.1))
      (meets-false S (at l i) (at l j).base ((at l j).chunks * S) (t.apart i j u v) (omega (arith, g.0, g.1)))

  one-arena : (i j x : ℕ) → i < k → j < k → (i ≡ j → ⊥) → In (at l i).base (bytes S (at l i)) x → In (at l j).base (bytes S (at l j)) x → ⊥
  one-arena i j x u v d f g =
      ⊎_elim (λ (m : i < j). below i j x m v f g) (λ (m : j ≤ i). ⊎_elim (λ (e : j ≡ i). d (sym e)) (λ (n : j < i). below j i x n u g f) (eq-or-lt_of_le m)) (lt-or-le i j)

-- ---- a run that a search found

-- the run of n that is given lies in arena i, which serves the claim
pub record Found-in (S : ℕ) (l : List Arena) (k : ℕ) (id : ℤ) (n address : ℕ) : Type 0 where
  pub arena : ℕ
  pub start : ℕ
  pub low : arena < k
  pub serves : serves id n l arena ≡ true
  pub room : start + n ≤ (at l arena).chunks
  pub is : (at l arena).base + start * S ≡ address

module _ (S : ℕ) (l : List Arena) (k : ℕ) (id : ℤ) (n address : ℕ) (f : Found-in S l k id n address) where
  run_inside : (x : ℕ) → In address (n * S) x → In (at l f.arena).base (bytes S (at l f.arena)) x
  run_inside x h =
      let e : (f.start + n) * S ≡ f.start * S + n * S = add-mul f.start n S in
      let u : (f.start + n) * S ≤ (at l f.arena).chunks * S = mul-le-mul_right S f.room in
      (omega (arith, h.0, f.is), omega (arith, h.1, f.is))

  named : (i : ℕ) → id ≡ pos i → f.arena ≡ i
  named i e = served-named i n l f.arena (ap (λ (z : ℤ). serves z n l f.arena) (sym e) ∙ f.serves)

  other : (j : ℕ) → is_on (at l j).exclusive ≡ true → (id ≡ pos j → ⊥) → f.arena ≡ j → ⊥
  other j e d = go id refl
    where
      go : (z : ℤ) → id ≡ z → f.arena ≡ j → ⊥
      go (pos x) g s = d (g ∙ ap pos (sym (named x g) ∙ s))
      go (negsuc x) g s = not-shared x n l f.arena j e (ap (λ (z : ℤ). serves z n l f.arena) (sym g) ∙ f.serves) s

-- nothing is given
not-given : {X : Type 0} (address : ℕ) → None ≡ Some address → X
not-given address e = absurd (let z : ◌≡◌ {A = ℕ} 0 1 = cc in omega arith)

search-found : (S : ℕ) (l : List Arena) (stamps : List ℕ) (k : ℕ) (mark : Bool) (id : ℤ) (n : ℕ) (commits : Bool) (missed : Reply) (address : ℕ) → given_at missed.answer ≡ None
    → given_at (search_of S l stamps k mark id n commits missed).answer ≡ Some address → Found-in S l k id n address
search-found S l stamps k mark id n commits missed address m =
    search-cases S l stamps k mark P id n commits missed (λ h e. not-given address (sym m ∙ e))
    (λ i h v. grant-cases S l stamps k mark P i n commits (λ g e. not-given address e) (λ s g e. found i h v s g e) (λ s g e. found i h v s g e))
  where
    P : Outcome → Type 0
    P o = given_at o.answer ≡ Some address → Found-in S l k id n address

    same : (x y : ℕ) → Some x ≡ Some y → x ≡ y
    same x y e = cc

    found : (i : ℕ) → i < k → serves id n l i ≡ true → (s : ℕ) → find_run (at l i) n ≡ Some s → Some ((at l i).base + s * S) ≡ Some address → Found-in S l k id n address
    found i h v s g e = record { arena = i; start = s; low = h; serves = v; room = found_inside (at l i) n s g; is = same _ address e }

-- ---- a claim

claim-found : (S : ℕ) (w : World) (ns : ℕ) (settings : Settings) (id : ℤ) (n : ℕ) (commits : Bool) (address : ℕ)
    → given_at (rules S w ns settings (act (claim id n commits))).answer ≡ Some address → Found-in S w.records w.state.count id n address
claim-found S w ns settings id n commits address =
    act-cases S w ns settings P (λ why. not-given address) (claim id n commits)
    (λ p idle. claim-cases S w.records w.stamps w.state.count w.state.mark P id n commits settings (λ e. not-given address) (λ e f. not-given address)
    (λ e f. search-found S w.records w.stamps w.state.count w.state.mark id n commits _ address missed))
  where
    P : Outcome → Type 0
    P o = given_at o.answer ≡ Some address → Found-in S w.records w.state.count id n address

    missed : given_at (miss_reply S w.state.count w.state.mark id n commits settings).answer ≡ None
    missed =
        miss-cases S w.records w.stamps w.state.count w.state.mark (λ (o : Outcome). given_at o.answer ≡ None) id n commits settings refl refl (unfold ask_memory in refl)

pub claim-only-named : (S : ℕ) (w : World) (ns : ℕ) (settings : Settings) (id : ℤ) (n : ℕ) (commits : Bool) (address : ℕ) → Words w → sound S w settings.page ≡ true
    → given_at (rules S w ns settings (act (claim id n commits))).answer ≡ Some address → OnlyNamed S w id n address × InNamed S w id n address
claim-only-named S w ns settings id n commits address words passed e =
    let l = w.records in
    let k = w.state.count in
    let f : Found-in S l k id n address = claim-found S w ns settings id n commits address e in
    let t = (sound-facts S w settings.page words passed).0.table in (
      λ j h x d y u v. one-arena S l k t f.arena j y f.low h (other S l k id n address f j x d) (run_inside S l k id n address f y u) v,
      λ i g. let a = named S l k id n address f i g in
          (subst (λ (z : ℕ). z < k) a f.low, λ x h. subst (λ (z : ℕ). In (at l z).base (bytes S (at l z)) x) a (run_inside S l k id n address f x h)),
    )

-- ---- a claim that waited for memory: its id was negative, so that it names no arena

module _ (S : ℕ) (l : List Arena) (stamps : List ℕ) (k : ℕ) (mark : Bool) (a : Arena) (n : ℕ) (commits : Bool) (address : ℕ) where
  resumed-apart : SoundTable S (with_record l k a) (suc k) → Found-in S (with_record l k a) (suc k) (negsuc 0) n address
      → (j : ℕ) → j < k → is_exclusive (at l j) ≡ true → Apart S (at l j) address n
  resumed-apart t f j h x y u v =
      one-arena S (with_record l k a) (suc k) t f.arena j y f.low (omega arith)
      (other S (with_record l k a) (suc k) (negsuc 0) n address f j (ap is_exclusive kept ∙ x) (λ e. let z : ◌≡◌ {A = ℕ} 0 1 = cc in omega arith))
      (run_inside S (with_record l k a) (suc k) (negsuc 0) n address f y u) (subst (λ (b : Arena). In b.base (bytes S b) y) (sym kept) v)
    where
      kept : at (with_record l k a) j ≡ at l j
      kept = at_other l k j a (λ d. omega arith)

pub resumed-only-named : (S : ℕ) (w : World) (ns : ℕ) (settings : Settings) (chunks many : ℕ) (commit exclusive : Bool) (n : ℕ) (commits : Bool) (base address : ℕ) → Words w
    → sound S w settings.page ≡ true → w.state.question ≡ Reserving chunks many commit exclusive (Claim n commits)
    → given_at (rules S w ns settings (answer ForMemory true base)).answer ≡ Some address → OnlyNamed S w (negsuc 0) n address
resumed-only-named S w ns settings chunks many commit exclusive n commits base address words passed q =
    yes-cases S w ns settings P (λ why. not-given address) chunks many commit exclusive (Claim n commits) base q (λ cause. not-given address)
    (λ p range count whole room e j h x d.
    resumed-apart S l w.stamps k w.state.mark new n commits address (made room range (count-facts chunks count) whole)
    (search-found S (with_record l k new) (with_stamps w.stamps k) (suc k) w.state.mark (negsuc 0) n commits (turn_down NoRun (calm (suc k) w.state.mark)) address refl e) j h x)
  where
    l : List Arena
    l = w.records

    k : ℕ
    k = w.state.count

    new : Arena
    new = reserved_arena base chunks commit exclusive

    P : Outcome → Type 0
    P o = given_at o.answer ≡ Some address → OnlyNamed S w (negsuc 0) n address

    made : k < 32 → bad_range S l k base (chunks * S) ≡ false → (1 ≤ chunks) × (chunks ≤ 1024) → base % S ≡ 0 → SoundTable S (with_record l k new) (suc k)
    made h r c whole =
        let x = good-range S l k base (chunks * S) r in
        let z = reserved-range S base chunks commit exclusive in
        new-table S l k new (sound-facts S w settings.page words passed).0.table h (reserved-rows base chunks commit exclusive)
        (reserved-sound S base chunks commit exclusive (record { somewhere = x.somewhere; aligned = whole; some = c.0; few = c.1; ends = x.ends }))
        (λ i u. ap₂ (meets S (at l i)) z.0 z.1 ∙ x.alone i u)

-- ---- what is asked about is what is granted

-- the open question is about the chunks at an address
record Awaits (S address : ℕ) (w : World) : Type 0 where
  id : ℕ
  start : ℕ
  n : ℕ
  waits : w.state.question ≡ Committing id start n
  is : address ≡ (at w.records id).base + start * S

awaits : (S : ℕ) (w : World) (ns : ℕ) (settings : Settings) (c : Call) (address many : ℕ) → (rules S w ns settings c).answer ≡ Asks (AskCommit address many) → Awaits S address (rules S w ns settings c).world
unfolding ask_memory
awaits S w ns settings c address many = step-forms S w ns settings c P (record {
  as_it_was = λ r a e. absurd (true≢false (sym (ap is_ask e) ∙ a));
  ended = λ r a m t n gave-up stand kept e. absurd (true≢false (sym (ap is_ask e) ∙ a));
  commits = λ m t count i s n x stand a b e. record { id = i; start = s; n = n; waits = refl; is = sym (same x (n * S) e) ∙ b };
  purges = λ m i j x v stand e. not-given address (ap given_at e);
  reserves = λ size page commit large exclusive waiting a e. not-given address (ap given_at e);
  gives_back = λ chunks bytes commit exclusive waiting kind base cause a b g e. not-given address (ap given_at e);
})
  where
    P : Outcome → Type 0
    P o = o.answer ≡ Asks (AskCommit address many) → Awaits S address o.world

    same : (x y : ℕ) → Asks (AskCommit x y) ≡ Asks (AskCommit address many) → x ≡ address
    same x y e = cc

-- the yes to a commit question, whichever call put it, grants the chunks that it was about
pub asked-is-granted : (S : ℕ) (w : World) (ns later : ℕ) (settings others : Settings) (c : Call) (address many base x : ℕ) (fresh committed : Bool)
    → (rules S w ns settings c).answer ≡ Asks (AskCommit address many)
    → (rules S (rules S w ns settings c).world later others (answer ForCommit true base)).answer ≡ Claimed x fresh committed → x ≡ address
asked-is-granted S w ns later settings others c address many base x fresh committed e =
    let a = awaits S w ns settings c address many e in
    answer-cases S v later others P (λ why f. not-given x (ap given_at f)) ForCommit true base
    (λ p is. subst (λ (q : Question). P (answer_to S v.records v.stamps v.state.count v.state.mark q true base)) (sym a.waits) (λ f. same _ (ap given_at f) ∙ sym a.is))
  where
    v : World
    v = (rules S w ns settings c).world

    P : Outcome → Type 0
    P o = o.answer ≡ Claimed x fresh committed → x ≡ address

    same : (y : ℕ) → Some y ≡ Some x → x ≡ y
    same y f = cc
