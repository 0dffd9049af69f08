-- An answer is one thing: a refusal is no grant and no question, and a commit question is no other answer. Assumes nothing.
use Rattle.std.specs.Prelude.{◌≡◌}
use Rattle.layer.proofs.Prelude.{sym, Bool, ℕ, arith, Refusal}
use Rattle.layer.specs.declared.Ask.{Ask}
use Rattle.layer.specs.declared.Ask.TheVariants.{AskCommit, AskMemory, AskGiveBack}
use Rattle.layer.specs.declared.Answer.TheVariants.{Refused, Asks, Registered, Claimed, Released, Swept}

pub same-refusal : (why x : Refusal) → Refused x ≡ Refused why → x ≡ why
same-refusal why x e = cc

pub asks-not : (x : Ask) (why : Refusal) → Asks x ≡ Refused why → ⊥
asks-not x why e = let z : ◌≡◌ {A = ℕ} 0 1 = cc in omega arith

pub registered-not : (x : ℕ) (why : Refusal) → Registered x ≡ Refused why → ⊥
registered-not x why e = let z : ◌≡◌ {A = ℕ} 0 1 = cc in omega arith

pub claimed-not : (x : ℕ) (a b : Bool) (why : Refusal) → Claimed x a b ≡ Refused why → ⊥
claimed-not x a b why e = let z : ◌≡◌ {A = ℕ} 0 1 = cc in omega arith

pub released-not : (why : Refusal) → Released ≡ Refused why → ⊥
released-not why e = let z : ◌≡◌ {A = ℕ} 0 1 = cc in omega arith

pub swept-not : (x : ℕ) (why : Refusal) → Swept x ≡ Refused why → ⊥
swept-not x why e = let z : ◌≡◌ {A = ℕ} 0 1 = cc in omega arith

-- ---- a commit question

pub refused-no-commit : {X : Type 0} (why : Refusal) (address bytes : ℕ) → Refused why ≡ Asks (AskCommit address bytes) → X
refused-no-commit why address bytes e = absurd (asks-not (AskCommit address bytes) why (sym e))

pub registered-no-commit : {X : Type 0} (id address bytes : ℕ) → Registered id ≡ Asks (AskCommit address bytes) → X
registered-no-commit id address bytes e = absurd (let z : ◌≡◌ {A = ℕ} 0 1 = cc in omega arith)

pub claimed-no-commit : {X : Type 0} (x : ℕ) (fresh committed : Bool) (address bytes : ℕ) → Claimed x fresh committed ≡ Asks (AskCommit address bytes) → X
claimed-no-commit x fresh committed address bytes e = absurd (let z : ◌≡◌ {A = ℕ} 0 1 = cc in omega arith)

pub memory-no-commit : {X : Type 0} (size align : ℕ) (commit large : Bool) (address bytes : ℕ) → Asks (AskMemory size align commit large) ≡ Asks (AskCommit address bytes) → X
memory-no-commit size align commit large address bytes e = absurd (let z : ◌≡◌ {A = ℕ} 0 1 = cc in omega arith)

pub give-back-no-commit : {X : Type 0} (x size address bytes : ℕ) → Asks (AskGiveBack x size) ≡ Asks (AskCommit address bytes) → X
give-back-no-commit x size address bytes e = absurd (let z : ◌≡◌ {A = ℕ} 0 1 = cc in omega arith)
