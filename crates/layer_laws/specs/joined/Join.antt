-- What wish 1 of document 02 says of a join, of anything that joins two tables: when it is turned down, by which number, and what it leaves. 17 is stated by addresses. Assumes nothing.
use Rattle.std.specs.Prelude.{◌≡◌, true, ◌&&◌, ◌↔◌, ℕ, ◌+◌, ◌<◌, ◌≤◌, Ok, Err}
use Rattle.refusals.specs.declared.Refusal.{Refusal}
use Rattle.refusals.specs.declared.Refusal.TheVariants.{Broken, QuestionOpen, TablesOverlap, TooManyArenas}
use Rattle.options.specs.Options.{page_size_sound}
use Rattle.arena.specs.Rows.{Rows}
use Rattle.arena.specs.Stamps.{stamps_of}
use Rattle.layer.specs.declared.Settings.{Settings}
use Rattle.layer.specs.declared.Question.TheVariants.{Idle}
use Rattle.layer.specs.World.{World, size_of, empty}
use Rattle.layer.specs.Table.{at, sound}
use Rattle.layer.specs.Joining.{JoinOutcome}
use Rattle.layer.specs.History.{Covers}

-- what is made of two tables
abbrev pub Join : Type 0
Join = World → World → ℕ → Settings → JoinOutcome

-- row 1 lets both tables pass
abbrev pub Sound : World → World → Settings → Type 0
Sound w v settings = (sound (size_of w.state) w settings.page ≡ true) × (sound (size_of v.state) v settings.page ≡ true)

-- no question is open on either side
abbrev pub Calm : World → World → Type 0
Calm w v = (w.state.question ≡ Idle) × (v.state.question ≡ Idle)

-- "a range of one overlaps a range of the other": an arena of each has an address x
pub record Overlap (w v : World) : Type 0 where
  pub i : ℕ
  pub j : ℕ
  pub x : ℕ
  pub of-first : i < w.state.count
  pub of-second : j < v.state.count
  pub in-first : Covers w i x
  pub in-second : Covers v j x

-- ---- the order: 1, 2, 17, 18

abbrev pub OneExactly : Join → Type 0
OneExactly J = (w v : World) (ns : ℕ) (settings : Settings) → ((J w v ns settings).answer ≡ Err Broken) ↔ (Sound w v settings → ⊥)

abbrev pub TwoExactly : Join → Type 0
TwoExactly J = (w v : World) (ns : ℕ) (settings : Settings) → Sound w v settings → ((J w v ns settings).answer ≡ Err QuestionOpen) ↔ (Calm w v → ⊥)

abbrev pub SeventeenExactly : Join → Type 0
SeventeenExactly J =
    (w v : World) (ns : ℕ) (settings : Settings) → Sound w v settings → Calm w v → ((J w v ns settings).answer ≡ Err TablesOverlap) ↔ Overlap w v

abbrev pub EighteenExactly : Join → Type 0
EighteenExactly J =
    (w v : World) (ns : ℕ) (settings : Settings) → Sound w v settings → Calm w v → (Overlap w v → ⊥)
    → ((J w v ns settings).answer ≡ Err TooManyArenas) ↔ (32 < w.state.count + v.state.count)

-- else they are joined, and the answer is by how much the second's ids rise
abbrev pub Otherwise : Join → Type 0
Otherwise J =
    (w v : World) (ns : ℕ) (settings : Settings) → Sound w v settings → Calm w v → (Overlap w v → ⊥) → w.state.count + v.state.count ≤ 32
    → (J w v ns settings).answer ≡ Ok w.state.count

-- ---- what it leaves

-- a refusal leaves both tables
abbrev pub RefusalLeaves : Join → Type 0
RefusalLeaves J =
    (w v : World) (ns : ℕ) (settings : Settings) (why : Refusal) → (J w v ns settings).answer ≡ Err why
    → ((J w v ns settings).first ≡ w) × ((J w v ns settings).second ≡ v)

-- of tables w and v the first becomes u
pub record OneTable (w v u : World) : Type 0 where
  -- "the first keeps its ids, the second's rise by the first's arena count"; what stands past them stays
  pub first-ids : (i : ℕ) → i < w.state.count → at u.records i ≡ at w.records i
  pub second-ids : (i : ℕ) → i < v.state.count → at u.records (w.state.count + i) ≡ at v.records i
  pub past-ids : (i : ℕ) → w.state.count + v.state.count ≤ i → at u.records i ≡ at w.records i
  -- "stamps and deadlines move along": all 1,024 of an arena; the deadline stands in its record
  pub first-stamps : (i : ℕ) → i < w.state.count → stamps_of u.stamps i ≡ stamps_of w.stamps i
  pub second-stamps : (i : ℕ) → i < v.state.count → stamps_of u.stamps (w.state.count + i) ≡ stamps_of v.stamps i
  pub past-stamps : (i : ℕ) → w.state.count + v.state.count ≤ i → stamps_of u.stamps i ≡ stamps_of w.stamps i
  pub count : u.state.count ≡ w.state.count + v.state.count
  -- "the give-up mark stands only if it stood in both"
  pub mark : u.state.mark ≡ (w.state.mark && v.state.mark)
  pub none_open : u.state.question ≡ Idle

-- "The second is left empty"
abbrev pub GrantLeaves : Join → Type 0
GrantLeaves J =
    (w v : World) (ns : ℕ) (settings : Settings) (rise : ℕ) → (J w v ns settings).answer ≡ Ok rise
    → OneTable w v (J w v ns settings).first × ((J w v ns settings).second ≡ empty)

-- the maps are of machine words, as the types of lent records say
abbrev pub Words : World → Type 0
Words w = (i : ℕ) → i < w.state.count → Rows (at w.records i)

-- sound tables stay sound, at every sound page size
abbrev pub StaySound : Join → Type 0
StaySound J =
    (w v : World) (ns : ℕ) (settings : Settings) → Words w → Words v → Sound w v settings → (page : ℕ) → page_size_sound page ≡ true
    → (sound (size_of (J w v ns settings).first.state) (J w v ns settings).first page ≡ true) × (sound (size_of (J w v ns settings).second.state) (J w v ns settings).second page ≡ true)

-- WISH 1, of a join
pub record ByTheWish (J : Join) : Type 0 where
  pub one-exactly : OneExactly J
  pub two-exactly : TwoExactly J
  pub seventeen-exactly : SeventeenExactly J
  pub eighteen-exactly : EighteenExactly J
  pub otherwise : Otherwise J
  pub refusal-leaves : RefusalLeaves J
  pub grant-leaves : GrantLeaves J
  pub stay-sound : StaySound J
