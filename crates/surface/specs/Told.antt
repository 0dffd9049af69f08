-- What an exported call is told in numbers, as include/sirqobal.h declares them. Assumes nothing.
use Rattle.std.specs.Prelude.{cond, ℕ, eqb, ℤ, pos, negsuc}
use Rattle.arena.specs.Flags.{is_on}
use Rattle.arena.specs.declared.Commitment.{Commitment}
use Rattle.arena.specs.declared.Commitment.TheVariants.{Untold, Committed, Uncommitted}
use Rattle.layer.specs.declared.Settings.{Settings}
use Rattle.layer.specs.declared.Kind.{Kind}
use Rattle.layer.specs.declared.Kind.TheVariants.{ForCommit, ForPurge, ForMemory, ForGiveBack, ForNone}
use Rattle.surface.specs.declared.told.SettingsNumbers.{SettingsNumbers}

unfoldable pub settings_of : SettingsNumbers → Settings
settings_of s = record { delay = s.delay; decommits = is_on s.decommits; off = is_on s.off; reserve = s.reserve; page = s.page }

abbrev pub commitment_of : ℤ → Commitment
commitment_of (pos n) = cond (eqb n 0) Uncommitted Committed
commitment_of (negsuc n) = Untold

abbrev pub kind_of : ℕ → Kind
kind_of kind =
    cond (eqb kind 1) ForCommit (cond (eqb kind 2) ForPurge (cond (eqb kind 3) ForMemory (cond (eqb kind 4) ForGiveBack ForNone)))
