-- Demand 3, of any layer; proofs/ proves it of every layer that answers and leaves what the rules say. Each statement is about every history from the empty
-- layer, with lists of releases and any nesting of joins in it, lent as the order says, and every exclusive arena whose book opened in it, in this table or in one that was joined
-- to it, and whose program keeps the premises. Assumes nothing.
use Rattle.std.specs.Prelude.{◌≡◌, Bool, true, false, cond, not, ◌&&◌, ◌||◌, List, [], ◌∷◌, ◌++◌, ◌⊎◌, ◌↔◌, ℕ, ◌+◌, ◌-◌, ◌*◌, ◌/◌, ◌<◌, ◌≤◌, length, Some}
use Rattle.std.proofs.Common.{inr}
use Rattle.bitmap.specs.Bits.{within}
use Rattle.bitmap.specs.Lowest.{Starts, Lowest}
use Rattle.options.specs.Options.{page_size_sound}
use Rattle.layer.specs.declared.Answer.TheVariants.{Claimed}
use Rattle.layer.specs.World.{size_of}
use Rattle.layer.specs.Table.{sound}
use Rattle.layer.specs.Step.{reserve, manage, adopt, claim, release, sweep, Call, act, query, answer}
use Rattle.layer.specs.Book.{Book, lowest, Fed, claims, releases, Say, refused, granted, released, opened, say_all}
use Rattle.layer.specs.History.{Marked, History, begin, next, listing, joining, Layer, outcome_by, left, Lent, Trail, ruled, goes_on, Place, in_range, waits, Where, place, fed, told, is_answer, Keeps}

-- the book as it is opened
abbrev pub book_of : Place → Book
book_of a = opened a.size a.base a.chunks a.managed

-- all is told in order but what still waits for its yes
abbrev pub AllBut : List Fed → List Say → List Say → Type 0
AllBut waiting ss all = (rest : List Say) × (ss ++ rest ≡ all) × (length rest ≡ length waiting)

-- "then its claims and releases there get the answers of document 01's share book"
abbrev pub ByTheBook : Layer → Type 0
ByTheBook L =
    (p : ℕ) (h : History) (w : Where h) → Lent L h → Keeps p h w
    → AllBut (waits (place h w) (ruled h)) (told L h w) (say_all (book_of (place h w)) (fed h w))

-- ---- in the order's words

-- the chunks that past grants and releases leave held, read off the program's own calls and what it was told; h are held at first
abbrev pub held_from : Place → (ℕ → Bool) → List Fed → List Say → ℕ → Bool
held_from a h (claims how c ∷ fs) (granted x fresh ∷ ss) = held_from a (λ j. within ((x - a.base) / a.size) c j || h j) fs ss
held_from a h (claims how c ∷ fs) (refused why ∷ ss) = held_from a h fs ss
held_from a h (claims how c ∷ fs) (released ∷ ss) = held_from a h fs ss
held_from a h (releases x c ∷ fs) (released ∷ ss) = held_from a (λ j. not (within ((x - a.base) / a.size) c j) && h j) fs ss
held_from a h (releases x c ∷ fs) (granted y fresh ∷ ss) = held_from a h fs ss
held_from a h (releases x c ∷ fs) (refused why ∷ ss) = held_from a h fs ss
held_from a h [] ss = h
held_from a h (f ∷ fs) [] = h

abbrev pub left_unheld : Place → List Fed → List Say → ℕ → Bool
left_unheld a fs ss j = not (held_from a (λ i. false) fs ss j)

-- one of its claims there, of n chunks, and what it was told of it: fs and ss are what went before
pub record Claims (a : Place) (all : List Fed) (heard : List Say) : Type 0 where
  pub fs : List Fed
  pub ss : List Say
  pub n : ℕ
  pub say : Say
  pub later : List Fed
  pub more : List Say
  pub is-claim : all ≡ fs ++ claims lowest n ∷ later
  pub is-told : heard ≡ ss ++ say ∷ more
  pub beside : length fs ≡ length ss
  pub some : 1 ≤ n

-- "Its claim of n chunks, n at least 1, is granted exactly when the arena has n neighbouring chunks that its own past grants and releases leave unheld"
abbrev pub GrantedExactly : Layer → Type 0
GrantedExactly L =
    (p : ℕ) (h : History) (w : Where h) → Lent L h → Keeps p h w → (c : Claims (place h w) (fed h w) (told L h w))
    → ((x : ℕ) × (fresh : Bool) × (c.say ≡ granted x fresh))
    ↔ ((s : ℕ) × Starts (left_unheld (place h w) c.fs c.ss) (place h w).chunks c.n s)

-- "it gets the lowest such run"
abbrev pub GrantedLowest : Layer → Type 0
GrantedLowest L =
    (p : ℕ) (h : History) (w : Where h) → Lent L h → Keeps p h w → (c : Claims (place h w) (fed h w) (told L h w))
    → (x : ℕ) (fresh : Bool) → c.say ≡ granted x fresh
    → (s : ℕ) × (x ≡ (place h w).base + s * (place h w).size) × Lowest (left_unheld (place h w) c.fs c.ss) (place h w).chunks c.n (Some s)

-- whose claim a call makes or goes on with, and of how many chunks
abbrev pub claimant : Trail → Marked → ℕ
claimant t m = cond (is_answer m.call) t.asker m.who

abbrev pub chunks_of : Call → ℕ
chunks_of (act (claim id n commits)) = n
chunks_of (act (reserve size commit large exclusive)) = 0
chunks_of (act (manage from size exclusive node mapped reserved)) = 0
chunks_of (act (adopt address size)) = 0
chunks_of (act (release address n tell pending)) = 0
chunks_of (act (sweep force)) = 0
chunks_of (query c) = 0
chunks_of (answer kind accepted base) = 0

-- "no other's claim is granted a chunk there": not by a claim, and not by an answer that ends one
abbrev pub OthersElsewhere : Layer → Type 0
OthersElsewhere L =
    (p : ℕ) (h : History) (m : Marked) (w : Where h) → Lent L (next h m) → Keeps p (next h m) (inr w)
    → (claimant (ruled h) m ≡ p → ⊥) → (x : ℕ) (fresh committed : Bool) → (outcome_by L m).answer ≡ Claimed x fresh committed
    → (y : ℕ) → x ≤ y → y < x + chunks_of (goes_on (ruled h) m.call) * (place h w).size → in_range (place h w) y ≡ false

-- one is the beginning of the other
abbrev pub Begins : List Say → List Say → Type 0
Begins x y = (rest : List Say) × (x ++ rest ≡ y)

-- "two such sequences alike in how the arena is registered and in its own calls there give it the same addresses and fresh marks, whatever the others claim,
-- release, adopt or sweep and the clock and OS say": the id and the program's mark may differ too. "Alike means that the book is told and fed the same." Where
-- a claim still waits for its yes in one of them, the other may be told one more.
abbrev pub Alike : Layer → Type 0
Alike L =
    (p : ℕ) (h : History) (w : Where h) → Lent L h → Keeps p h w
    → (p' : ℕ) (h' : History) (w' : Where h') → Lent L h' → Keeps p' h' w'
    → book_of (place h w) ≡ book_of (place h' w') → fed h w ≡ fed h' w'
    → Begins (told L h w) (told L h' w') ⊎ Begins (told L h' w') (told L h w)

-- no join in it
abbrev pub is_unjoined : History → Bool
is_unjoined begin = true
is_unjoined (next h m) = is_unjoined h
is_unjoined (listing h m) = is_unjoined h
is_unjoined (joining side h g m) = false

-- a history without joins in which the arena is registered alike and its program makes the same calls there
pub record Unjoined (L : Layer) (p : ℕ) (a : Place) (fs : List Fed) (ss : List Say) : Type 0 where
  pub history : History
  pub none-joined : is_unjoined history ≡ true
  pub arena : Where history
  pub lent : Lent L history
  pub keeps : Keeps p history arena
  pub same-book : book_of (place history arena) ≡ book_of a
  pub same-fed : fed history arena ≡ fs
  pub same-told : Begins ss (told L history arena)

-- "a program's calls in its exclusive arena get the addresses and fresh marks they would have got unjoined": there is such a history, and it is told the same there.
-- By `Alike` so it is in every one.
abbrev pub AsUnjoined : Layer → Type 0
AsUnjoined L = (p : ℕ) (h : History) (w : Where h) → Lent L h → Keeps p h w → Unjoined L p (place h w) (fed h w) (told L h w)

-- What a layer leaves, row 1 lets pass at every sound page size: its programs can make their calls "with sound tables and settings". A layer that broke its own
-- table would make the statements above hold of nothing.
abbrev pub StaysSound : Layer → Type 0
StaysSound L = (h : History) → Lent L h → (page : ℕ) → page_size_sound page ≡ true → sound (size_of (left L h).state) (left L h) page ≡ true

-- DEMAND 3
pub record Demand3 (L : Layer) : Type 0 where
  pub by-the-book : ByTheBook L
  pub granted-exactly : GrantedExactly L
  pub granted-lowest : GrantedLowest L
  pub others-elsewhere : OthersElsewhere L
  pub alike : Alike L
  pub as-unjoined : AsUnjoined L
  pub stays-sound : StaysSound L
