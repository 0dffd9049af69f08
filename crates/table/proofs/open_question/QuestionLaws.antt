-- The test of an open question, in the parts that the code asks one after the other. Assumes nothing.
use Rattle.std.specs.Prelude.{◌≡◌, ◌&&◌, ◌+◌, ◌*◌, ◌<◌, ◌≤◌}
use Rattle.state.proofs.Prelude.{refl, sym, ap, ap₂, subst, ◌∙◌, Bool, true, false, ℕ, add-one, arith, leb, ltb, le-ltb, lt-ltb, length, get_or, Some, None, blank, bit_at, all, List, Arena, Question, Idle, Committing, Purging, Reserving, GivingBack, asked_id, at, sound_question}
use Rattle.std.proofs.lemmas.List.{get_or_default}
use Rattle.bitmap.proofs.runs.SearchLaws.{all_one}
use Rattle.table.specs.declared.open_question.AskedRun.{AskedRun}
use Rattle.table.specs.Questions.{asked_run, sound_count}

and-true : (x : Bool) → x && true ≡ x
and-true true = refl
and-true false = refl

and-assoc : (x y z : Bool) → x && (y && z) ≡ (x && y) && z
and-assoc true y z = refl
and-assoc false y z = refl

-- a question about no arena
pub none-sound : (a : Arena) (k : ℕ) (q : Question) → None ≡ asked_run q → true ≡ sound_question a k q
unfolding sound_question
none-sound a k Idle e = refl
none-sound a k (Committing id start n) e = cc
none-sound a k (Purging id chunk sweep) e = cc
none-sound a k (Reserving chunks bytes commit exclusive waiting) e = refl
none-sound a k (GivingBack cause waiting) e = refl

-- a question about a run of an arena's
abbrev pub asks : Arena → ℕ → Question → AskedRun → Bool
asks a k q r = ltb r.id k && (leb (r.start + r.n) a.chunks && (all (bit_at a.used) r.start r.n && sound_count q r))

module _ (l : List Arena) (k : ℕ) where
  asks-sound : (q : Question) (r : AskedRun) → Some r ≡ asked_run q → asks (at l r.id) k q r ≡ sound_question (at l (asked_id q)) k q
  unfolding sound_question
  asks-sound Idle r e = cc
  asks-sound (Committing id start n) r e =
      let same : r ≡ record { id = id; start = start; n = n } = cc in
      subst (λ (x : AskedRun). asks (at l x.id) k (Committing id start n) x ≡ sound_question (at l id) k (Committing id start n)) (sym same)
      (ap (λ (x : Bool). ltb id k && (leb (start + n) (at l id).chunks && x)) (and-true (all (bit_at (at l id).used) start n)))
  asks-sound (Purging id chunk sweep) r e =
      let same : r ≡ record { id = id; start = chunk; n = 1 } = cc in
      subst (λ (x : AskedRun). asks (at l x.id) k (Purging id chunk sweep) x ≡ sound_question (at l id) k (Purging id chunk sweep)) (sym same)
      (ap₂ (λ (x y : Bool). ltb id k && (x && (y && leb sweep.purged (1024 * id + chunk)))) (ap (λ (x : ℕ). leb x (at l id).chunks) (add-one chunk)) (sym (all_one (bit_at (at l id).used) chunk)))
  asks-sound (Reserving chunks bytes commit exclusive waiting) r e = cc
  asks-sound (GivingBack cause waiting) r e = cc

  -- an asked arena that is not registered
  pub absent-fails : (q : Question) (r : AskedRun) → Some r ≡ asked_run q → k ≤ r.id → false ≡ sound_question (at l (asked_id q)) k q
  absent-fails q r some h =
      ap (λ (x : Bool). x && (leb (r.start + r.n) (at l r.id).chunks && (all (bit_at (at l r.id).used) r.start r.n && sound_count q r))) (sym (le-ltb r.id k h))
      ∙ asks-sound q r some

  -- an asked arena that is there, as it is read by index
  pub use-decides : (q : Question) (r : AskedRun) → Some r ≡ asked_run q → r.id < k → k ≤ length l → (d : Arena) (b : Bool)
      → b ≡ (leb (r.start + r.n) (get_or l r.id d).chunks && all (bit_at (get_or l r.id d).used) r.start r.n)
      → b && sound_count q r ≡ sound_question (at l (asked_id q)) k q
  use-decides q r some h m d b e =
      let there : get_or l r.id d ≡ at l r.id = get_or_default l r.id d blank (omega (arith, h, m)) in
      ap (λ (x : Bool). x && sound_count q r) (e ∙ ap (λ (a : Arena). leb (r.start + r.n) a.chunks && all (bit_at a.used) r.start r.n) there)
      ∙ sym (and-assoc (leb (r.start + r.n) (at l r.id).chunks) (all (bit_at (at l r.id).used) r.start r.n) (sound_count q r))
      ∙ ap (λ (x : Bool). x && (leb (r.start + r.n) (at l r.id).chunks && (all (bit_at (at l r.id).used) r.start r.n && sound_count q r))) (sym (lt-ltb r.id k h))
      ∙ asks-sound q r some
