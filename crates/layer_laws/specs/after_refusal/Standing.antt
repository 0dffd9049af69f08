-- An arena that is registered stands for good. Document 01, "Registering", has no call that ends one; `adopt_os_block` "grows the owned,
-- non-exclusive arena". Assumes nothing.
use Rattle.std.specs.Prelude.{◌≡◌, true, false, ◌⊎◌, ℕ, ◌+◌, ◌<◌, ℤ}
use Rattle.arena.specs.declared.Arena.{Arena}
use Rattle.arena.specs.Flags.{is_on}
use Rattle.layer.specs.declared.Settings.{Settings}
use Rattle.layer.specs.World.{World}
use Rattle.layer.specs.Table.{at}
use Rattle.layer.specs.Step.{Call, rules}

-- what registering says of an arena once: its area, whom it serves, whose it is, and its node
pub record Head : Type 0 where
  pub base : ℕ
  pub chunks : ℕ
  pub exclusive : ℕ
  pub owned : ℕ
  pub node : ℤ

abbrev pub head_of : Arena → Head
head_of a = record { base = a.base; chunks = a.chunks; exclusive = a.exclusive; owned = a.owned; node = a.node }

-- so many chunks more
abbrev pub longer : Arena → ℕ → Head
longer a n = record { base = a.base; chunks = a.chunks + n; exclusive = a.exclusive; owned = a.owned; node = a.node }

-- b is a as it was, or as it grew: only an owned arena that is not exclusive grows
abbrev pub Grown : Arena → Arena → Type 0
Grown a b = (is_on a.owned ≡ true) × (is_on a.exclusive ≡ false) × (n : ℕ) × (head_of b ≡ longer a n)

abbrev pub GoesOn : Arena → Arena → Type 0
GoesOn a b = (head_of b ≡ head_of a) ⊎ Grown a b

-- of every call, on every lent table
abbrev pub ArenasStand : ℕ → Type 0
ArenasStand S =
    (w : World) (ns : ℕ) (settings : Settings) (c : Call) (i : ℕ) → i < w.state.count
    → let v = (rules S w ns settings c).world in (i < v.state.count) × GoesOn (at w.records i) (at v.records i)
