-- Two lent tables: blocks are adopted in each, they are joined, and both are asked what they have then. Assumes nothing.
use Rattle.std.specs.Prelude.{false, ℕ, zero, suc, ◌+◌, ◌*◌, min, ℤ, pos}
use Rattle.layer.specs.declared.Settings.{Settings}
use Rattle.layer.specs.declared.Reply.{Reply}
use Rattle.layer.specs.declared.JoinReply.{JoinReply}
use Rattle.layer.specs.World.{World, reply_in}
use Rattle.layer.specs.Step.{adopt, claim, sweep, owns, area, act, query, step}
use Rattle.layer.specs.Joining.{JoinOutcome, join, join_reply_in}
use Rattle.worked_parts.specs.declared.joins.Side.{Side}
use Rattle.worked_parts.specs.declared.joins.Found.{Found}
use Rattle.worked_parts.specs.declared.joins.Seen.{Seen}

-- with these settings blocks are adopted
abbrev pub no_options : Settings
no_options = record { delay = pos 0; decommits = false; off = false; reserve = 0; page = 4096 }

-- a table has no room for more
abbrev pub blocks_in : Side → ℕ
blocks_in side = min side.blocks 32

-- where the i-th block of a side lies, with a chunk between it and the next
abbrev pub block_at : Side → ℕ → ℕ
block_at side i = (side.from + 2 * i) * 33554432

-- a table in which the first n blocks of a side are adopted, a chunk each
unfoldable pub adopted : World → Side → ℕ → World
adopted w side zero = w
adopted w side (suc n) = (step (adopted w side n) 0 no_options (act (adopt (block_at side n) 33554432))).world

-- the join of the two tables then
abbrev pub join_of : World → World → Side → Side → ℕ → Settings → JoinOutcome
join_of w v side other ns settings = join (adopted w side (blocks_in side)) (adopted v other (blocks_in other)) ns settings

abbrev pub found_of : Reply → Reply → Reply → Found
found_of range swept claimed = record { range = range; swept = swept; claimed = claimed }

-- the range of an arena, an unforced sweep, and then a claim of one chunk there
abbrev pub found_in : World → ℕ → Settings → ℤ → Found
found_in w ns settings id =
    found_of (reply_in (step w ns settings (query (area id)))) (reply_in (step w ns settings (act (sweep false))))
    (reply_in (step (step w ns settings (act (sweep false))).world ns settings (act (claim id 1 false))))

abbrev pub seen_of : JoinReply → Found → Reply → Seen
seen_of joined first owned = record { joined = joined; first = first; owned = owned }

-- after a join: what the joined table says of an arena, and whether the second owns an address
abbrev pub seen_after : JoinOutcome → ℕ → Settings → ℤ → ℕ → Seen
seen_after o ns settings id address = seen_of (join_reply_in o) (found_in o.first ns settings id) (reply_in (step o.second ns settings (query (owns address))))
