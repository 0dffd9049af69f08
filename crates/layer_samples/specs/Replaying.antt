-- What a line makes of a session and of the table that it is of. Assumes nothing.
use Rattle.std.specs.Prelude.{cond, List, ℕ}
use Rattle.arena.specs.declared.Arena.{Arena}
use Rattle.layer.specs.declared.Settings.{Settings}
use Rattle.layer.specs.declared.State.{State}
use Rattle.layer.specs.World.{Outcome, world_of, reply_in}
use Rattle.layer.specs.Step.{step}
use Rattle.samples.specs.declared.lines.Line.{Line}
use Rattle.calls.specs.Calls as K
use Rattle.layer_samples.specs.declared.Session.{Session}
use Rattle.layer_samples.specs.Session.{is_call, is_hash, called_of, hashed_of, noted_of}
use Rattle.layer_samples.specs.Recorded.{recorded_of}
use Rattle.layer_samples.specs.StateHash.{hash_of}

-- the call of a line, with the two more numbers that it carries
abbrev pub made_of : List Arena → List ℕ → State → ℕ → Settings → Line → ℕ → ℕ → Outcome
made_of records stamps state ns settings l x y = step (world_of records stamps state) ns settings (K.call_of (recorded_of l x y))

abbrev pub stepped_of : List Arena → List ℕ → Session → Line → Outcome
stepped_of records stamps s l = made_of records stamps s.state s.carried.ns s.carried.settings l s.carried.x s.carried.y

pub record Kept : Type 0 where
  pub session : Session
  pub records : List Arena
  pub stamps : List ℕ

abbrev kept_after : Session → Line → Outcome → Kept
kept_after s l o = record { session = called_of s l (reply_in o); records = o.world.records; stamps = o.world.stamps }

unfoldable pub replayed_of : List Arena → List ℕ → Session → Line → Kept
replayed_of records stamps s l =
    cond (is_call l) (kept_after s l (stepped_of records stamps s l))
    (cond (is_hash l) (record { session = hashed_of s l (hash_of records stamps s.state); records = records; stamps = stamps })
    (record { session = noted_of s l; records = records; stamps = stamps }))
