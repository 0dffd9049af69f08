-- One call keeps the invariant, moves the book as it is fed, and tells its program what the book says: of all that a call can do to an arena (`Does`), what is
-- left where the arena is exclusive and its program keeps the premises. Assumes nothing.
use Rattle.std.specs.Prelude.{◌≡◌, ◌∷◌, ◌++◌, ◌⊎◌, ◌<◌}
use Rattle.layer.proofs.Prelude.{refl, sym, ap, ap₂, ◌∙◌, subst, Bool, false, cond, true≢false, List, [], append-nil, inl, inr, ℕ, arith, eq-eqb, ne_eqb, eqb, pos, negsuc, unless, Some, Arena, is_on, Settings, Question, Idle, Committing, Purging, Reserving, GivingBack, Answer, Outcome, at, is_for, Call, act, query, answer, step_on, Book, lowest, Fed, claims, releases, Say, refused, released, Turn, turn, unhold, claimed, enter, is_idle, entries_of, said, Place, is_none, feeds, is_answer, declines}
use Rattle.refusals.specs.Number.{number}
use Rattle.layer.proofs.Facts.{SoundTable, SoundQuestion}
use Rattle.layer.proofs.Shown.{View, calm, committing, purging, view_of, waits_in, owed_in, Role, feeding, closing, aside, role, fed_of, asker_after, book_in, Mine, Same, book_at, owed_at, Inv, Fits}
use Rattle.layer.proofs.View.{view-commit}
use Rattle.layer.proofs.Does.{Change, still, holds, drops, undoes, grows, changed, chunks_after, passes, shut, turned_down, says-yes, Claims, by-claim, by-memory, Because, Does, does}

-- whose a commit question is: nobody's where no claim waits, and the caller's where nothing was open
mine-none : (p z : ℕ) (v : View) → waits_in v ≡ [] → Mine p z v
mine-none p z calm e = tt
mine-none p z (committing s m) e = let x : ◌≡◌ {A = ℕ} 0 1 = cc in absurd (omega arith)
mine-none p z (purging j) e = tt

mine-own : (p z : ℕ) (v : View) → z ≡ p → Mine p z v
mine-own p z calm e = tt
mine-own p z (committing s m) e = e
mine-own p z (purging j) e = tt

mine-kept : (p id : ℕ) (q : Question) (who z : ℕ) → Mine p z (view_of id q) → Mine p (asker_after q who z) (view_of id q)
mine-kept p id Idle who z m = tt
mine-kept p id (Committing i s c) who z m = m
mine-kept p id (Purging i j w) who z m = m
mine-kept p id (Reserving chunks bytes commit exclusive waiting) who z m = m
mine-kept p id (GivingBack cause waiting) who z m = m

module _ (S p id b n : ℕ) (managed : Bool) where
  abbrev there : Place
  there = record { id = id; size = S; base = b; chunks = n; managed = managed }

  module _ (l : List Arena) (stamps : List ℕ) (k : ℕ) (mark : Bool) (t : SoundTable S l k) (who z : ℕ) where
    pub keeps : (q : Question) (ns : ℕ) (settings : Settings) (c : Call) → SoundQuestion l k q → Inv S p id b n l k q z
        → (is_none (fed_of (role there q c)) ≡ false → who ≡ p)
        → (who ≡ p → is_answer c ≡ false → q ≡ Idle)
        → (z ≡ p → declines q c ≡ false)
        → Fits S p id b n l q who z (role there q c) (step_on S l stamps k mark q ns settings c)
    keeps q ns settings c h v alone idle agrees = by d.what d.does-it d.because d.low d.same
      where
        o : Outcome
        o = step_on S l stamps k mark q ns settings c

        d : Does S id l q c o
        d = does S id l stamps k mark t v.low q ns settings c h

        before : Book
        before = book_at S p id b n l q

        later : Question
        later = o.world.state.question

        record' : Arena
        record' = at o.world.records id

        -- the range that the book was told is the record's
        is-role : role there q c ≡ role (record { id = id; size = S; base = (at l id).base; chunks = (at l id).chunks; managed = managed }) q c
        is-role = ap₂ (λ (x y : ℕ). role (record { id = id; size = S; base = x; chunks = y; managed = managed }) q c) (sym v.stays.base) (sym v.stays.chunks)

        -- it is not shared
        shared : is_on (at l id).exclusive ≡ false → ⊥
        shared e = true≢false (sym v.stays.exclusive ∙ e)

        -- nothing is owed where no question is open
        no-debt : (x : Question) (a : Arena) → x ≡ Idle → owed_in S (view_of id x) a ≡ []
        no-debt x a e = ap (λ (y : Question). owed_in S (view_of id y) a) e

        -- the invariant after it
        inv : id < o.world.state.count → Same (at l id) (at l id).chunks record' → Mine p (asker_after q who z) (view_of id later)
            → Inv S p id b n o.world.records o.world.state.count later (asker_after q who z)
        inv low s m = record {
          low = low;
          stays = record { exclusive = ap is_on s.exclusive ∙ v.stays.exclusive; base = s.base ∙ v.stays.base; chunks = s.chunks ∙ v.stays.chunks };
          mine = m;
        }

        -- what the call is to the arena, put in its place
        fits : (r : Role) → role there q c ≡ r → Fits S p id b n l q who z r o → Fits S p id b n l q who z (role there q c) o
        fits r is f = subst (λ (x : Role). Fits S p id b n l q who z x o) (sym is) f

        -- nothing of the arena's
        left : role there q c ≡ aside → book_in S (view_of id later) record' ≡ before → owed_in S (view_of id later) record' ≡ owed_at S p id b n l q
            → Inv S p id b n o.world.records o.world.state.count later (asker_after q who z) → Fits S p id b n l q who z (role there q c) o
        left is e owed i = fits aside is (record { inv = i; book = e; says = append-nil (owed_at S p id b n l q) ∙ sym owed })

        -- the question is as it was
        asker-kept : later ≡ q → Mine p (asker_after q who z) (view_of id later)
        asker-kept e = subst (λ (x : Question). Mine p (asker_after q who z) (view_of id x)) (sym e) (mine-kept p id q who z v.mine)

        -- no claim waits there that did not wait before
        whose : (waits_in (view_of id later) ≡ []) ⊎ (later ≡ q) → Mine p (asker_after q who z) (view_of id later)
        whose (inl e) = mine-none p (asker_after q who z) (view_of id later) e
        whose (inr e) = asker-kept e

        -- what would feed the book is its program's, which calls only where no question is open
        none-fed : (fs : List Fed) → (is_none fs ≡ false → who ≡ p) → (who ≡ p → q ≡ Idle) → is_idle q ≡ false → fs ≡ []
        none-fed [] f g e = refl
        none-fed (x ∷ xs) f g e = absurd (true≢false (sym (ap is_idle (g (f refl))) ∙ e))

        -- so a call that comes while a question is open is nothing to it
        gated : (x : Call) → is_answer x ≡ false → (is_none (fed_of (role there q x)) ≡ false → who ≡ p) → (who ≡ p → is_answer x ≡ false → q ≡ Idle) → is_idle q ≡ false
            → role there q x ≡ aside
        gated (act a) e f g u = ap feeding (none-fed (feeds there (entries_of a)) f (λ w. g w e) u)
        gated (query x) e f g u = refl
        gated (answer kind accepted base) e f g u = absurd (true≢false e)

        -- the book's turn
        entered : (f : Fed) (x : Turn) → role there q c ≡ feeding (f ∷ []) → q ≡ Idle → enter before f ≡ x → book_in S (view_of id later) record' ≡ x.book
            → x.say ∷ [] ≡ said o.answer ++ owed_in S (view_of id later) record' → id < o.world.state.count → Same (at l id) (at l id).chunks record'
            → Fits S p id b n l q who z (role there q c) o
        entered f x is i e book says low s =
            fits (feeding (f ∷ [])) is
            (record {
              inv = inv low s (mine-own p (asker_after q who z) (view_of id later) (ap (λ (y : Question). asker_after y who z) i ∙ alone (ap (λ (y : Role). is_none (fed_of y)) is)));
              book = book ∙ ap (λ (y : Turn). y.book) (sym e);
              says = ap (λ (ws : List Say). ws ++ ((enter before f).say ∷ [])) (no-debt q (at l id) i) ∙ ap (λ (y : Turn). y.say ∷ []) e ∙ says;
            })

        -- each change: a claim is not undone, and the arena does not grow
        by : (what : Change) → changed what before (book_in S (view_of id later) record') → Because S id l q c o what → id < o.world.state.count
            → Same (at l id) (chunks_after what (at l id).chunks) record' → Fits S p id b n l q who z (role there q c) o
        by still e (passes is owed none) low s = left (is-role ∙ is managed) e owed (inv low s (whose none))
        by still e (shut busy not_answer owed kept) low s = left (gated c not_answer alone idle busy) e owed (inv low s (asker-kept kept))
        by still e (turned_down f why is i turns answered closed) low s =
            entered f (turn (refused (number why)) before) (is-role ∙ is managed) i turns e (sym (ap₂ (λ (r : Answer) (ws : List Say). said r ++ ws) answered (no-debt later record' closed))) low s
        by still e (says-yes is says closed) low s =
            fits closing (is-role ∙ is managed)
            (record {
              inv = inv low s (whose (inl (ap (λ (x : Question). waits_in (view_of id x)) closed)));
              book = e;
              says = append-nil (owed_at S p id b n l q) ∙ sym (ap₂ ◌++◌ says (no-debt later record' closed) ∙ append-nil (owed_at S p id b n l q));
            })
        by (holds s m) e x low w = go x.by
          where
            turns : (m ≡ 0 → ⊥) → enter before (claims lowest m) ≡ claimed before m (Some s)
            turns some = unfold enter in unless (eqb m 0) _ _ (ne_eqb m 0 some) ∙ ap (claimed before m) x.lowest

            go : Claims S id l q c o m → Fits S p id b n l q who z (role there q c) o
            go (by-claim (pos y) commits i is some named) =
                entered (claims lowest m) (claimed before m (Some s))
                (ap (role there q) is ∙ ap (λ (z : Bool). feeding (cond z (claims lowest m ∷ []) [] ++ [])) (eq-eqb y id (sym named))) i (turns some) e x.says low w
            go (by-claim (negsuc y) commits i is some not-exclusive) = absurd (shared not-exclusive)
            go (by-memory chunks bytes base commit exclusive commits i is not-exclusive) = absurd (shared not-exclusive)
        by (drops s m) e x low w =
            entered (releases x.address m) (turn released (unhold before s m)) (is-role ∙ x.feeds managed) x.idle x.by-book e
            (sym (ap₂ (λ (r : Answer) (ws : List Say). said r ++ ws) x.answered (no-debt later record' x.closed))) low w
        by (undoes s m) e x low w =
            absurd (true≢false (sym (ap₂ declines x.open_is x.is ∙ (unfold is_for in refl)) ∙ agrees
            (subst (Mine p z) (ap (view_of id) x.open_is ∙ view-commit id s m) v.mine)))
        by (grows m) e x low w = absurd (shared x.shared)
