-- The state and its numbers: they are read as they were written, and written as they were read. Assumes nothing.
use Rattle.std.specs.Prelude.{◌≡◌, ◌&&◌}
use Rattle.state.proofs.Prelude.{refl, ap, ap₂, ◌∙◌, Bool, true, false, ℕ, eqb-true, eq-eqb, eqb, and_both, State, Question, Idle, Committing, Purging, Reserving, GivingBack, Reserve, Claim, Count, Misaligned, Full, as_flag}
use Rattle.layer.specs.World.{state_with}
use Rattle.surface.specs.declared.StateNumbers.{StateNumbers}
use Rattle.surface.specs.Numbers.{question_of, state_of, state_numbers, question_numbers, numbers_of, same_numbers, is_state}

-- ---- read as they were written

flag_one : (b : Bool) → eqb (as_flag b) 1 ≡ b
flag_one true = refl
flag_one false = refl

question-read : (k m : ℕ) (q : Question) → question_of (question_numbers k m q) ≡ q
question-read k m Idle = refl
question-read k m (Committing id start n) = refl
question-read k m (Purging id chunk w) =
    λ i. Purging id chunk (record { force = flag_one w.force i; now = w.now; delay = w.delay; decommit = flag_one w.decommit i; purged = w.purged })
question-read k m (Reserving chunks bytes commit exclusive Reserve) =
    λ i. Reserving chunks bytes (flag_one commit i) (flag_one exclusive i) Reserve
question-read k m (Reserving chunks bytes commit exclusive (Claim n commits)) =
    λ i. Reserving chunks bytes (flag_one commit i) (flag_one exclusive i) (Claim n (flag_one commits i))
question-read k m (GivingBack Count Reserve) = refl
question-read k m (GivingBack Misaligned Reserve) = refl
question-read k m (GivingBack Full Reserve) = refl
question-read k m (GivingBack Count (Claim n commits)) = λ i. GivingBack Count (Claim n (flag_one commits i))
question-read k m (GivingBack Misaligned (Claim n commits)) = λ i. GivingBack Misaligned (Claim n (flag_one commits i))
question-read k m (GivingBack Full (Claim n commits)) = λ i. GivingBack Full (Claim n (flag_one commits i))

count-read : (k m : ℕ) (q : Question) → (question_numbers k m q).count ≡ k
count-read k m Idle = refl
count-read k m (Committing id start n) = refl
count-read k m (Purging id chunk w) = refl
count-read k m (Reserving chunks bytes commit exclusive w) = refl
count-read k m (GivingBack cause w) = refl

mark-read : (k m : ℕ) (q : Question) → (question_numbers k m q).mark ≡ m
mark-read k m Idle = refl
mark-read k m (Committing id start n) = refl
mark-read k m (Purging id chunk w) = refl
mark-read k m (Reserving chunks bytes commit exclusive w) = refl
mark-read k m (GivingBack cause w) = refl

pub state-read : (s : State) → state_of (numbers_of s) ≡ s
unfolding state_of numbers_of
state-read s =
    let k = s.count in
    let m = as_flag s.mark in
    let q = s.question in
    λ i. state_with (count-read k m q i) ((ap (λ (x : ℕ). eqb x 1) (mark-read k m q) ∙ flag_one s.mark) i) (question-read k m q i)

-- ---- written as they were read

three-refl : (a b c : ℕ) → (eqb a a && eqb b b && eqb c c) ≡ true
three-refl a b c = ap₂ ◌&&◌ (ap₂ ◌&&◌ (eq-eqb a a refl) (eq-eqb b b refl)) (eq-eqb c c refl)

same_refl : (f : StateNumbers) → same_numbers f f ≡ true
same_refl f =
    ap₂ ◌&&◌ (ap₂ ◌&&◌ (ap₂ ◌&&◌ (ap₂ ◌&&◌ (ap₂ ◌&&◌ (three-refl f.count f.mark f.question) (three-refl f.id f.start f.n)) (three-refl f.chunks f.bytes f.commit)) (three-refl f.exclusive f.waiting f.commits)) (three-refl f.cause f.force f.now)) (three-refl f.delay f.decommit f.purged)

-- a state's numbers are taken
pub is_state-numbers_of : (s : State) → is_state (numbers_of s) ≡ true
unfolding is_state
is_state-numbers_of s = ap (λ (x : State). same_numbers (numbers_of x) (numbers_of s)) (state-read s) ∙ same_refl (numbers_of s)

three : (a x b y c z : ℕ) → (eqb a x && eqb b y && eqb c z) ≡ true → (a ≡ x) × (b ≡ y) × (c ≡ z)
three a x b y c z e =
    let p = and_both (eqb a x && eqb b y) (eqb c z) e in
    let q = and_both (eqb a x) (eqb b y) p.0 in (eqb-true a x q.0, eqb-true b y q.1, eqb-true c z p.1)

same-all : (f g : StateNumbers) → same_numbers f g ≡ true → f ≡ g
same-all f g e =
    let t1 = eqb f.count g.count && eqb f.mark g.mark && eqb f.question g.question in
    let t2 = eqb f.id g.id && eqb f.start g.start && eqb f.n g.n in
    let t3 = eqb f.chunks g.chunks && eqb f.bytes g.bytes && eqb f.commit g.commit in
    let t4 = eqb f.exclusive g.exclusive && eqb f.waiting g.waiting && eqb f.commits g.commits in
    let t5 = eqb f.cause g.cause && eqb f.force g.force && eqb f.now g.now in
    let t6 = eqb f.delay g.delay && eqb f.decommit g.decommit && eqb f.purged g.purged in
    let p5 = and_both (t1 && t2 && t3 && t4 && t5) t6 e in
    let p4 = and_both (t1 && t2 && t3 && t4) t5 p5.0 in
    let p3 = and_both (t1 && t2 && t3) t4 p4.0 in
    let p2 = and_both (t1 && t2) t3 p3.0 in
    let p1 = and_both t1 t2 p2.0 in
    let e1 = three f.count g.count f.mark g.mark f.question g.question p1.0 in
    let e2 = three f.id g.id f.start g.start f.n g.n p1.1 in
    let e3 = three f.chunks g.chunks f.bytes g.bytes f.commit g.commit p2.1 in
    let e4 = three f.exclusive g.exclusive f.waiting g.waiting f.commits g.commits p3.1 in
    let e5 = three f.cause g.cause f.force g.force f.now g.now p4.1 in
    let e6 = three f.delay g.delay f.decommit g.decommit f.purged g.purged p5.1 in
    λ i.
    state_numbers (e1.0 i) (e1.1 i) (e1.2 i) (e2.0 i) (e2.1 i) (e2.2 i) (e3.0 i) (e3.1 i) (e3.2 i) (e4.0 i) (e4.1 i) (e4.2 i) (e5.0 i) (e5.1 i) (e5.2 i) (e6.0 i) (e6.1 i) (e6.2 i)

-- what is taken is a state's numbers
pub state-written : (f : StateNumbers) → is_state f ≡ true → numbers_of (state_of f) ≡ f
unfolding is_state
state-written f e = same-all (numbers_of (state_of f)) f e
