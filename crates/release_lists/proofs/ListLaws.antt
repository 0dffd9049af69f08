-- A list turn by turn, and its rows. Assumes nothing.
use Rattle.std.specs.Prelude.{◌≡◌, ◌&&◌, ◌∷◌, ◌++◌, ◌+◌, ◌<◌, Result, Ok, Err}
use Rattle.layer.proofs.Prelude.{refl, sym, ap, ap₂, ◌∙◌, subst, Bool, true, false, not, List, [], append_assoc, append-nil, ℕ, suc, arith, eqb-true, eqb, leb, length, get_or, set, take, drop, when, unless, by_cond, and_both, Refusal, Broken, QuestionOpen, ListLength, now_ms, delay_ms, Arena, Untold, World, Outcome, world_of, reply, calm, turn_down, sound, release_of, stays_pending, is_idle, ListOutcome, item_number, release_each, release_item, list_fits, release_list}
use lib.Seq.{drop-cons, drop-length, take-length, take-suc-set}
use Rattle.layer.specs.declared.State.{State}
use Rattle.layer.specs.declared.Settings.{Settings}
use Rattle.layer.specs.declared.Question.TheVariants.{Idle}
use Rattle.layer.specs.declared.Answer.TheVariants.{Released}
use Rattle.layer.specs.declared.Reply.{Reply}
use Rattle.layer.specs.World.{size_of, Leaves}
use Rattle.layer.specs.Listing.{items, list_outcome, LeavesList}
use Rattle.layer.proofs.Calls.{idle-is}
use Rattle.layer.proofs.Lists.{item-is, settled, still-past-two, each-granted, each-state}
use Rattle.table.specs.FirstRows.{first_rows}
use Rattle.state.specs.Ready.{Ready, Stamped}
use Rattle.state.proofs.Entry.{calm-is, ready, stamps-lent}
use Rattle.release_lists.specs.Passed.{Passed, LeavesItem}

-- what the core of an item is handed
pub core-ready : (l : List Arena) (stamps : List ℕ) (state : State) (ns : ℕ) (settings : Settings) → Passed l stamps state settings → Ready l state × Stamped stamps
core-ready l stamps state ns settings p = (ready l stamps state ns settings p.0 (ap is_idle p.1), stamps-lent l stamps state ns settings p.0)

-- ---- one item

-- the item's release leaves what the core leaves
pub item-left : (l : List Arena) (stamps : List ℕ) (state : State) (ns : ℕ) (settings : Settings) (x n : ℕ) (pending : Bool) → Passed l stamps state settings
    → (r : Reply) (l' : List Arena) (t' : List ℕ)
    → Leaves (release_of (size_of state) l stamps state.count state.mark x n Untold (stays_pending settings pending) (now_ms ns) (delay_ms settings.delay)) r l' t'
    → LeavesItem (release_item ns settings pending (world_of l stamps state) x n) (item_number r.answer) l' t'
item-left l stamps state ns settings x n pending p r l' t' says =
    subst (λ (o : Outcome). LeavesItem o (item_number r.answer) l' t') (sym (item-is ns settings pending (world_of l stamps state) p x n))
    (ap (λ (u : Reply). item_number u.answer) says.0, says.1, says.2)

-- ---- turn by turn

module _ (records : List Arena) (stamps addresses counts answers : List ℕ) (state : State) (ns : ℕ) (settings : Settings) (pending : Bool) where
  abbrev pub each : List Arena → List ℕ → List ℕ → List ℕ → ListOutcome
  each l t xs cs = release_each ns settings pending (world_of l t state) xs cs

  -- before the turn of item j: what is left to do leads to where all of it leads, and the numbers of the items before it stand
  pub record Turned (j : ℕ) (l : List Arena) (t given : List ℕ) : Type 0 where
    pub passed : Passed l t state settings
    pub world : (each records stamps addresses counts).whole.world ≡ (each l t (drop j addresses) (drop j counts)).whole.world
    pub numbers : (each records stamps addresses counts).numbers ≡ take j given ++ (each l t (drop j addresses) (drop j counts)).numbers

  pub first-turn : Passed records stamps state settings → Turned 0 records stamps answers
  first-turn p = record { passed = p; world = refl; numbers = refl }

  module _ (j : ℕ) (l : List Arena) (t given : List ℕ) (inv : Turned j l t given) (lt : j < length addresses) (same : length counts ≡ length addresses) (long : length given ≡ length addresses) where
    abbrev x : ℕ
    x = get_or addresses j 0

    abbrev n : ℕ
    n = get_or counts j 0

    abbrev item : Outcome
    item = release_item ns settings pending (world_of l t state) x n

    abbrev rest : World → List ℕ
    rest w = (release_each ns settings pending w (drop (suc j) addresses) (drop (suc j) counts)).numbers

    pub turns : (number : ℕ) (l' : List Arena) (t' : List ℕ) → LeavesItem item number l' t' → Turned (j + 1) l' t' (set given j number)
    turns number l' t' says = let one_more : suc j ≡ j + 1 = omega arith in subst (λ (m : ℕ). Turned m l' t' (set given j number)) one_more (record {
      passed = subst (λ (w : World). (sound (size_of w.state) w settings.page ≡ true) × (w.state.question ≡ Idle)) left_is (still-past-two ns settings pending (world_of l t state) inv.passed x n);
      world = inv.world ∙ ap (λ (u : ListOutcome). u.whole.world) unrolled ∙ ap (λ (w : World). (release_each ns settings pending w (drop (suc j) addresses) (drop (suc j) counts)).whole.world) left_is;
      numbers = inv.numbers
          ∙ ap (λ (u : ListOutcome). take j given ++ u.numbers) unrolled
          ∙ sym (append_assoc (take j given) (item_number item.answer ∷ []) (rest item.world))
          ∙ ap₂ (λ (u : ℕ) (w : World). (take j given ++ (u ∷ [])) ++ rest w) (sym says.0) left_is
          ∙ ap (λ (u : List ℕ). u ++ rest (world_of l' t' state)) (sym (take-suc-set given j number (omega (arith, lt, long))));
    })
      where
        left_is : item.world ≡ world_of l' t' state
        left_is =
            ap (λ (z : State). world_of item.world.records item.world.stamps z) (settled ns settings pending (world_of l t state) inv.passed x n).state
            ∙ ap₂ (λ (u : List Arena) (v : List ℕ). world_of u v state) (sym says.1) (sym says.2)

        unrolled : each l t (drop j addresses) (drop j counts) ≡ each l t (x ∷ drop (suc j) addresses) (n ∷ drop (suc j) counts)
        unrolled = ap₂ (each l t) (drop-cons addresses j 0 lt) (drop-cons counts j 0 (omega (arith, lt, same)))

  -- after the last turn
  pub last_turn : (m : ℕ) (l : List Arena) (t given : List ℕ) → m ≡ length addresses → Turned m l t given → length given ≡ length addresses
      → (l ≡ (each records stamps addresses counts).whole.world.records) × (t ≡ (each records stamps addresses counts).whole.world.stamps) × (given ≡ (each records stamps addresses counts).numbers)
  last_turn m l t given is inv long = (
    sym (ap (λ (u : World). u.records) inv.world ∙ ap (λ (u : ListOutcome). u.whole.world.records) ended),
    sym (ap (λ (u : World). u.stamps) inv.world ∙ ap (λ (u : ListOutcome). u.whole.world.stamps) ended),
    sym (inv.numbers ∙ ap₂ (λ (u : List ℕ) (v : ListOutcome). u ++ v.numbers) (ap (λ (k : ℕ). take k given) (is ∙ sym long) ∙ take-length given) ended ∙ append-nil given),
  )
    where
      ended : each l t (drop m addresses) (drop m counts) ≡ list_outcome (record { answer = Released; world = world_of l t state }) []
      ended = ap (λ (xs : List ℕ). each l t xs (drop m counts)) (ap (λ (k : ℕ). drop k addresses) is ∙ drop-length addresses)

-- ---- the rows

module _ (records : List Arena) (stamps addresses counts answers : List ℕ) (state : State) (ns : ℕ) (settings : Settings) (pending : Bool) where
  abbrev w : World
  w = world_of records stamps state

  abbrev all : ListOutcome
  all = release_list w ns settings (items addresses counts answers pending)

  comes : (o : ListOutcome) (r : Reply) (l : List Arena) (t given : List ℕ) → all ≡ o → LeavesList o r l t given → LeavesList all r l t given
  comes o r l t given e = subst (λ (u : ListOutcome). LeavesList u r l t given) (sym e)

  broken-row : sound (size_of state) w settings.page ≡ false → LeavesList all (turn_down Broken state) records stamps answers
  unfolding release_list
  broken-row e = comes _ _ _ _ _ (when _ _ _ (ap not e)) ((refl, refl, refl), refl)

  open_row : sound (size_of state) w settings.page ≡ true → is_idle state.question ≡ false → LeavesList all (turn_down QuestionOpen state) records stamps answers
  unfolding release_list
  open_row e f = comes _ _ _ _ _ (unless _ _ _ (ap not e) ∙ when _ _ _ (ap not f)) ((refl, refl, refl), refl)

  -- rows 1 and 2, as one function tests them
  abbrev rows : Result Unit Refusal
  rows = first_rows (sound (size_of state) w settings.page) (is_idle state.question)

  abbrev Told : Result Unit Refusal → Type 0
  Told (Ok u) = (sound (size_of state) w settings.page ≡ true) × (is_idle state.question ≡ true)
  Told (Err why) = LeavesList all (turn_down why state) records stamps answers

  told : Told rows
  told =
      by_cond Told (sound (size_of state) w settings.page) _ _
      (λ e. by_cond Told (is_idle state.question) _ _ (λ i. (e, i)) (λ i. open_row e i)) broken-row

  pub turned-down : (why : Refusal) → rows ≡ Err why → LeavesList all (turn_down why state) records stamps answers
  turned-down why e = subst Told e told

  abbrev released : ListOutcome
  released = release_each ns settings pending w addresses counts

  -- behind them row 19, and the items
  module _ (u : Unit) (e : rows ≡ Ok u) where
    pass : (sound (size_of state) w settings.page ≡ true) × (is_idle state.question ≡ true)
    pass = subst Told e told

    abbrev fits : Bool
    fits = eqb (length counts) (length addresses) && (eqb (length answers) (length addresses) && leb (length addresses) 32768)

    pub length-row : fits ≡ false → LeavesList all (turn_down ListLength state) records stamps answers
    unfolding release_list list_fits
    length-row g = comes _ _ _ _ _ (unless _ _ _ (ap not pass.0) ∙ unless _ _ _ (ap not pass.1) ∙ when _ _ _ (ap not g)) ((refl, refl, refl), refl)

    pub items-ready : fits ≡ true → Passed records stamps state settings × (length counts ≡ length addresses) × (length answers ≡ length addresses)
    items-ready g =
        let a = and_both (eqb (length counts) (length addresses)) _ g in
        let b = and_both (eqb (length answers) (length addresses)) _ a.1 in
        ((pass.0, idle-is state.question pass.1), eqb-true (length counts) (length addresses) a.0, eqb-true (length answers) (length addresses) b.0)

    pub released-row : fits ≡ true → LeavesList all (reply Released (calm state.count state.mark)) released.whole.world.records released.whole.world.stamps released.numbers
    unfolding release_list list_fits
    released-row g =
        comes _ _ _ _ _ (unless _ _ _ (ap not pass.0) ∙ unless _ _ _ (ap not pass.1) ∙ unless _ _ _ (ap not g)) (
          (
            ap₂ reply (sym (each-granted ns settings pending w addresses counts))
                (sym (calm-is records state (ready records stamps state ns settings pass.0 pass.1)) ∙ sym (each-state ns settings pending w (pass.0, idle-is state.question pass.1) addresses counts)),
            refl,
            refl,
          ),
          refl,
        )
