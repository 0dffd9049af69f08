-- The share book that a record and what is open about it show; what a call is to one arena; the invariant of a history, and what one call does to it. The book
-- shown knows no id and no table. Assumes nothing.
use Rattle.std.specs.Prelude.{◌≡◌, ◌&&◌, ◌||◌, ◌∷◌, ◌++◌, ◌+◌, ◌*◌, ◌<◌}
use Rattle.layer.proofs.Prelude.{Bool, true, false, cond, not, List, [], ℕ, eqb, bit_at, within, Arena, is_on, run_fresh, Question, Idle, Committing, Purging, Reserving, GivingBack, Kind, Answer, Outcome, at, is_for, Call, act, query, answer, Book, lowest, Fed, claims, Say, granted, enter_all, say_all, is_idle, entries_of, said, Place, feeds}

-- ---- what is open about an arena

pub data View : Type 0 where
  calm : View
  committing : ℕ → ℕ → View
  purging : ℕ → View

abbrev pub view_of : ℕ → Question → View
view_of id Idle = calm
view_of id (Committing i s n) = cond (eqb i id) (committing s n) calm
view_of id (Purging i j w) = cond (eqb i id) (purging j) calm
view_of id (Reserving chunks bytes commit exclusive waiting) = calm
view_of id (GivingBack cause waiting) = calm

-- the claim that waits for its yes, and the grant
abbrev pub waits_in : View → List Fed
waits_in calm = []
waits_in (committing s n) = claims lowest n ∷ []
waits_in (purging j) = []

abbrev pub owed_in : ℕ → View → Arena → List Say
owed_in S calm a = []
owed_in S (committing s n) a = granted (a.base + s * S) (run_fresh a s n) ∷ []
owed_in S (purging j) a = []

-- ---- what a call is to an arena

-- it feeds the book so much; or it answers the commit question about the arena
pub data Role : Type 0 where
  feeding : List Fed → Role
  closing : Role

abbrev pub aside : Role
aside = feeding []

-- a commit question about arena id is open, and the answer is for it
abbrev pub ends : ℕ → Question → Kind → Bool
ends id Idle kind = false
ends id (Committing i s n) kind = is_for (Committing i s n) kind && eqb i id
ends id (Purging i j w) kind = false
ends id (Reserving chunks bytes commit exclusive waiting) kind = false
ends id (GivingBack cause waiting) kind = false

abbrev pub role : Place → Question → Call → Role
role a q (act x) = feeding (feeds a (entries_of x))
role a q (query c) = aside
role a q (answer kind accepted base) = cond (ends a.id q kind) closing aside

abbrev pub fed_of : Role → List Fed
fed_of (feeding fs) = fs
fed_of closing = []

-- what is said is told if something was fed
abbrev pub heard : List Fed → List Say → List Say
heard [] ss = []
heard (f ∷ fs) ss = ss

abbrev pub told_as : Role → Answer → List Say
told_as (feeding fs) r = heard fs (said r)
told_as closing r = said r

-- whoever calls while no question is open asks the one that the call puts
abbrev pub asker_after : Question → ℕ → ℕ → ℕ
asker_after q who asker = cond (is_idle q) who asker

-- ---- the book

-- a borrowed used bit is not held
abbrev pub held_in : View → Arena → ℕ → Bool
held_in calm a j = bit_at a.used j
held_in (committing s n) a j = bit_at a.used j
held_in (purging c) a j = not (within c 1 j) && bit_at a.used j

-- a run that waits for its yes is touched, though not dirty yet
abbrev pub touched_in : View → Arena → ℕ → Bool
touched_in calm a j = bit_at a.dirty j
touched_in (committing s n) a j = within s n j || bit_at a.dirty j
touched_in (purging c) a j = bit_at a.dirty j

abbrev pub book_in : ℕ → View → Arena → Book
book_in S v a = record { size = S; base = a.base; chunks = a.chunks; held = held_in v a; touched = touched_in v a }

-- a commit question about the arena is p's; z put the open question
abbrev pub Mine : ℕ → ℕ → View → Type 0
Mine p z calm = Unit {0}
Mine p z (committing s n) = z ≡ p
Mine p z (purging c) = Unit {0}

-- n chunks more, not held and touched
abbrev pub grow : Book → ℕ → Book
grow b n =
    record {
      size = b.size;
      base = b.base;
      chunks = b.chunks + n;
      held = λ j. not (within b.chunks n j) && b.held j;
      touched = λ j. within b.chunks n j || b.touched j;
    }

-- what no call changes of a record c; n chunks it has now
pub record Same (c : Arena) (n : ℕ) (a : Arena) : Type 0 where
  pub base : a.base ≡ c.base
  pub chunks : a.chunks ≡ n
  pub exclusive : a.exclusive ≡ c.exclusive
  pub owned : a.owned ≡ c.owned

-- what does not change of the record of an exclusive arena of n chunks from b on
pub record Stays (b n : ℕ) (a : Arena) : Type 0 where
  pub exclusive : is_on a.exclusive ≡ true
  pub base : a.base ≡ b
  pub chunks : a.chunks ≡ n

module _ (S p id b n : ℕ) where
  -- the book that arena id of a table shows, and what is owed
  abbrev pub book_at : List Arena → Question → Book
  book_at l q = book_in S (view_of id q) (at l id)

  abbrev pub owed_at : List Arena → Question → List Say
  owed_at l q = owed_in S (view_of id q) (at l id)

  -- the invariant
  pub record Inv (l : List Arena) (k : ℕ) (q : Question) (z : ℕ) : Type 0 where
    pub low : id < k
    pub stays : Stays b n (at l id)
    pub mine : Mine p z (view_of id q)

  -- what one call does: r is what the call is to the arena, o what comes out
  pub record Fits (l : List Arena) (q : Question) (who z : ℕ) (r : Role) (o : Outcome) : Type 0 where
    pub inv : Inv o.world.records o.world.state.count o.world.state.question (asker_after q who z)
    pub book : book_at o.world.records o.world.state.question ≡ enter_all (book_at l q) (fed_of r)
    pub says : owed_at l q ++ say_all (book_at l q) (fed_of r) ≡ told_as r o.answer ++ owed_at o.world.records o.world.state.question
