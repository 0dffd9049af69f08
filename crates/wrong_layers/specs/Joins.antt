-- Wrong joins, each as what it makes of two tables, and the statement that each fails: demand 3 of the layer that joins so and calls by the rules, or, where that lets it pass, a sentence of wish 1. Most
-- do as the rules do but for one row, or for one thing that a granted join leaves. Assumes nothing.
use Rattle.std.specs.Prelude.{◌≡◌, Bool, true, false, cond, not, ◌&&◌, ◌||◌, List, [], ◌∷◌, ◌++◌, map, ℕ, zero, suc, ◌+◌, ◌-◌, ◌^◌, min, max, leb, ltb, take, drop, Ok, is_some}
use Rattle.refusals.specs.declared.Refusal.TheVariants.{Broken, QuestionOpen, TablesOverlap, TooManyArenas}
use Rattle.bitmap.specs.Lowest.{least}
use Rattle.arena.specs.declared.Arena.{Arena}
use Rattle.arena.specs.Place.{bytes_of, end_of}
use Rattle.arena.specs.Registering.{no_bits, each_bit}
use Rattle.arena.specs.Record.{with_used, with_dirty, with_deadline}
use Rattle.layer.specs.declared.Settings.{Settings}
use Rattle.layer.specs.World.{World, world_of, calm, size_of, Row, first_of, empty}
use Rattle.layer.specs.Table.{at, overlaps, sound}
use Rattle.layer.specs.Answering.{is_idle}
use Rattle.layer.specs.Step.{step}
use Rattle.layer.specs.Listing.{release_list}
use Rattle.layer.specs.Joining.{JoinOutcome, join_outcome, refuse_join, tables_overlap, joined_world, join}
use Rattle.layer.specs.History.{Layer}
use Rattle.layer.specs.Demand.{Demand3}
use Rattle.layer_laws.specs.joined.Join.{Join, ByTheWish}

-- its calls and lists go by the rules
abbrev pub but_joins : Join → Layer
but_joins J = record { does = step; lists = release_list; joins = J }

-- ---- a join, by its rows and by what it does where none holds

abbrev pub JoinRows : Type 0
JoinRows = World → World → Settings → List (Row JoinOutcome)

abbrev pub by_rows : JoinRows → (World → World → JoinOutcome) → Join
by_rows rows grants w v ns settings = first_of (rows w v settings) (grants w v)

-- the rules' rows: of row 1 and of row 2 each side, 17 and 18
abbrev pub is_sound_table : World → Settings → Bool
is_sound_table w settings = sound (size_of w.state) w settings.page

abbrev pub is_calm : World → Bool
is_calm w = is_idle w.state.question

abbrev pub one : World → World → Bool → Row JoinOutcome
one w v passes = refuse_join w v Broken (not passes)

abbrev pub two : World → World → Bool → Row JoinOutcome
two w v passes = refuse_join w v QuestionOpen (not passes)

abbrev pub seventeen : World → World → Row JoinOutcome
seventeen w v = refuse_join w v TablesOverlap (tables_overlap (size_of w.state) w.records w.state.count v.records v.state.count)

abbrev pub eighteen : World → World → Row JoinOutcome
eighteen w v = refuse_join w v TooManyArenas (ltb 32 (w.state.count + v.state.count))

abbrev pub one_and_two : World → World → Settings → List (Row JoinOutcome) → List (Row JoinOutcome)
one_and_two w v settings rows = one w v (is_sound_table w settings && is_sound_table v settings) ∷ two w v (is_calm w && is_calm v) ∷ rows

abbrev pub right_rows : JoinRows
right_rows w v settings = one_and_two w v settings (seventeen w v ∷ eighteen w v ∷ [])

-- the rules' grant, and one that leaves another first table
abbrev pub leaves_first : (World → World → World) → World → World → JoinOutcome
leaves_first makes w v = join_outcome (Ok w.state.count) (makes w v) empty

abbrev pub right_grant : World → World → JoinOutcome
right_grant = leaves_first joined_world

-- ---- what the first becomes

abbrev pub changed : (Arena → Arena) → World → World
changed change v = world_of (map change v.records) v.stamps v.state

-- the second's chunks come free, or dirty: its programs get other "addresses and fresh marks" than "they would have got unjoined"
abbrev pub comes_free : Join
comes_free = by_rows right_rows (leaves_first (λ w v. joined_world w (changed (λ a. with_used a no_bits) v)))

abbrev pub comes_dirty : Join
comes_dirty = by_rows right_rows (leaves_first (λ w v. joined_world w (changed (λ a. with_dirty a (each_bit a.chunks true)) v)))

-- against "the first keeps its ids": the second's arenas stand before the first's
abbrev pub second_before : Join
second_before = by_rows right_rows (leaves_first (λ w v. joined_world v w))

-- ids go by base
abbrev pub insert_by_base : Arena → List Arena → List Arena
insert_by_base a [] = a ∷ []
insert_by_base a (b ∷ l) = cond (leb a.base b.base) (a ∷ b ∷ l) (b ∷ insert_by_base a l)

abbrev pub sort_by_base : List Arena → List Arena
sort_by_base [] = []
sort_by_base (a ∷ l) = insert_by_base a (sort_by_base l)

abbrev pub sorted : World → World
sorted w = world_of (sort_by_base (take w.state.count w.records) ++ drop w.state.count w.records) w.stamps w.state

abbrev pub ids_by_base : Join
ids_by_base = by_rows right_rows (leaves_first (λ w v. sorted (joined_world w v)))

-- against "stamps and deadlines move along", and "the give-up mark stands only if it stood in both"
abbrev pub stamps_stay : Join
stamps_stay = by_rows right_rows (leaves_first (λ w v. world_of (joined_world w v).records w.stamps (joined_world w v).state))

abbrev pub deadlines_stay : Join
deadlines_stay = by_rows right_rows (leaves_first (λ w v. joined_world w (changed (λ a. with_deadline a 0) v)))

abbrev pub either_mark : Join
either_mark =
    by_rows right_rows (leaves_first (λ w v. world_of (joined_world w v).records (joined_world w v).stamps (calm (w.state.count + v.state.count) (w.state.mark || v.state.mark))))

-- ---- what the second becomes, and what is answered

-- against "The second is left empty": it stays as it was; its records stay behind a count of 0
abbrev pub stays_behind : Join
stays_behind = by_rows right_rows (λ w v. join_outcome (Ok w.state.count) (joined_world w v) v)

abbrev pub behind_zero : Join
behind_zero = by_rows right_rows (λ w v. join_outcome (Ok w.state.count) (joined_world w v) (world_of v.records v.stamps (calm 0 false)))

-- a refusal empties it too
abbrev pub empties_always : Join
empties_always w v ns settings = join_outcome (join w v ns settings).answer (join w v ns settings).first empty

-- the rise that is answered is the second's count
abbrev pub rise_of_second : Join
rise_of_second = by_rows right_rows (λ w v. join_outcome (Ok v.state.count) (joined_world w v) empty)

-- ---- rows 1 and 2

-- one side only is looked at
abbrev pub one_of_first : Join
one_of_first = by_rows (λ w v settings. one w v (is_sound_table w settings) ∷ two w v (is_calm w && is_calm v) ∷ seventeen w v ∷ eighteen w v ∷ []) right_grant

abbrev pub one_of_second : Join
one_of_second = by_rows (λ w v settings. one w v (is_sound_table v settings) ∷ two w v (is_calm w && is_calm v) ∷ seventeen w v ∷ eighteen w v ∷ []) right_grant

abbrev pub two_of_first : Join
two_of_first = by_rows (λ w v settings. one w v (is_sound_table w settings && is_sound_table v settings) ∷ two w v (is_calm w) ∷ seventeen w v ∷ eighteen w v ∷ []) right_grant

abbrev pub two_of_second : Join
two_of_second = by_rows (λ w v settings. one w v (is_sound_table w settings && is_sound_table v settings) ∷ two w v (is_calm v) ∷ seventeen w v ∷ eighteen w v ∷ []) right_grant

-- rows 1 and 2 of the first, and then those of the second
abbrev pub table_by_table : Join
table_by_table =
    by_rows (λ w v settings. one w v (is_sound_table w settings) ∷ two w v (is_calm w) ∷ one w v (is_sound_table v settings) ∷ two w v (is_calm v) ∷ seventeen w v ∷ eighteen w v ∷ []) right_grant

-- ---- 17 and 18

-- it is missing, or comes always
abbrev pub no_seventeen : Join
no_seventeen = by_rows (λ w v settings. one_and_two w v settings (eighteen w v ∷ [])) right_grant

abbrev pub seventeen_always : Join
seventeen_always = by_rows (λ w v settings. one_and_two w v settings (refuse_join w v TablesOverlap true ∷ [])) right_grant

-- 17 by spans: from the lowest base of a table to its highest end
abbrev pub span_from : List Arena → ℕ → ℕ
span_from l zero = 2 ^ 64
span_from l (suc i) = min (at l i).base (span_from l i)

abbrev pub span_to : ℕ → List Arena → ℕ → ℕ
span_to S l zero = 0
span_to S l (suc i) = max (end_of S (at l i)) (span_to S l i)

abbrev pub spans_meet : World → World → Bool
spans_meet w v =
    ltb (span_from w.records w.state.count) (span_to (size_of v.state) v.records v.state.count)
    && ltb (span_from v.records v.state.count) (span_to (size_of w.state) w.records w.state.count)

abbrev pub spans_only : Join
spans_only = by_rows (λ w v settings. one_and_two w v settings (refuse_join w v TablesOverlap (spans_meet w v) ∷ eighteen w v ∷ [])) right_grant

-- 17 for neighbours too: each range of the second is taken with a byte more at both ends
abbrev pub touches : World → World → Bool
touches w v =
    let S = size_of w.state in
    is_some (least (λ j. overlaps S w.records w.state.count ((at v.records j).base - 1) (bytes_of S (at v.records j) + 2)) 0 v.state.count)

abbrev pub neighbours_too : Join
neighbours_too = by_rows (λ w v settings. one_and_two w v settings (refuse_join w v TablesOverlap (touches w v) ∷ eighteen w v ∷ [])) right_grant

-- 18 is missing, comes before 17, or comes for 32 arenas
abbrev pub no_eighteen : Join
no_eighteen = by_rows (λ w v settings. one_and_two w v settings (seventeen w v ∷ [])) right_grant

abbrev pub eighteen_first : Join
eighteen_first = by_rows (λ w v settings. one_and_two w v settings (eighteen w v ∷ seventeen w v ∷ [])) right_grant

abbrev pub eighteen_at32 : Join
eighteen_at32 = by_rows (λ w v settings. one_and_two w v settings (seventeen w v ∷ refuse_join w v TooManyArenas (leb 32 (w.state.count + v.state.count)) ∷ [])) right_grant

-- ---- each fails

-- demand 3
pub record JoinsFail : Type 0 where
  pub comes-free : Demand3 (but_joins comes_free) → ⊥
  pub comes-dirty : Demand3 (but_joins comes_dirty) → ⊥
  pub second-before : Demand3 (but_joins second_before) → ⊥
  pub ids-by-base : Demand3 (but_joins ids_by_base) → ⊥
  pub seventeen-always : Demand3 (but_joins seventeen_always) → ⊥
  pub stays-behind : Demand3 (but_joins stays_behind) → ⊥
  pub empties-always : Demand3 (but_joins empties_always) → ⊥
  pub no-seventeen : Demand3 (but_joins no_seventeen) → ⊥
  pub no-eighteen : Demand3 (but_joins no_eighteen) → ⊥

-- wish 1 of document 02. The rules' rows with the rules' grant are the rules.
pub record JoinsAgainstTheWish : Type 0 where
  pub right : (w v : World) (ns : ℕ) (settings : Settings) → by_rows right_rows right_grant w v ns settings ≡ join w v ns settings
  pub stamps-stay : ByTheWish stamps_stay → ⊥
  pub deadlines-stay : ByTheWish deadlines_stay → ⊥
  pub either-mark : ByTheWish either_mark → ⊥
  pub behind-zero : ByTheWish behind_zero → ⊥
  pub rise-of-second : ByTheWish rise_of_second → ⊥
  pub one-of-first : ByTheWish one_of_first → ⊥
  pub one-of-second : ByTheWish one_of_second → ⊥
  pub two-of-first : ByTheWish two_of_first → ⊥
  pub two-of-second : ByTheWish two_of_second → ⊥
  pub table-by-table : ByTheWish table_by_table → ⊥
  pub spans-only : ByTheWish spans_only → ⊥
  pub neighbours-too : ByTheWish neighbours_too → ⊥
  pub eighteen-first : ByTheWish eighteen_first → ⊥
  pub eighteen-at-32 : ByTheWish eighteen_at32 → ⊥
