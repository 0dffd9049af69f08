-- Joining, wish 1 of document 02: one table out of two. The rules of the call on any two lent tables; it is no call of one table, so it stands beside `step`. Assumes nothing.
use Rattle.std.specs.Prelude.{◌≡◌, ◌&&◌, ◌∷◌, ◌+◌, ◌*◌, is_some}
use Rattle.layer.specs.Prelude.{Bool, not, List, [], ℕ, ltb, Refusal, Broken, QuestionOpen, TablesOverlap, TooManyArenas, least, Arena, bytes_of, overwritten, State, Settings, Result, Err, Ok, JoinReply}
use Rattle.layer.specs.World.{World, size_of, calm, world_of, Row, row, first_of, empty}
use Rattle.layer.specs.Table.{at, overlaps, sound}
use Rattle.layer.specs.Answering.{is_idle}

-- what a join answers, and the two worlds that it leaves
pub record JoinOutcome : Type 0 where
  pub answer : Result ℕ Refusal
  pub first : World
  pub second : World

abbrev pub join_outcome : Result ℕ Refusal → World → World → JoinOutcome
join_outcome answer first second = record { answer = answer; first = first; second = second }

-- every refusal leaves both tables
abbrev pub refuse_join : World → World → Refusal → Bool → Row JoinOutcome
refuse_join w v why holds = row (join_outcome (Err why) w v) holds

-- "17 when a range of one overlaps a range of the other": of the first k arenas of l and the first c of m
unfoldable pub tables_overlap : ℕ → List Arena → ℕ → List Arena → ℕ → Bool
tables_overlap S l k m c = is_some (least (λ j. overlaps S l k (at m j).base (bytes_of S (at m j))) 0 c)

-- "the first keeps its ids, the second's rise by the first's arena count, stamps and deadlines move along, and the give-up mark stands only if it stood in both"
abbrev pub joined_world : World → World → World
joined_world w v =
    world_of (overwritten w.records w.state.count v.records v.state.count)
    (overwritten w.stamps (1024 * w.state.count) v.stamps (1024 * v.state.count))
    (calm (w.state.count + v.state.count) (w.state.mark && v.state.mark))

-- two sound tables: "An open question on either side is 2. 17 [..], 18 when more than 32 arenas result, checked in that order after 2." "The second is left empty": what
-- stood past its count too. The answer is by how much the second's ids rise.
unfoldable pub join_on : ℕ → World → World → JoinOutcome
join_on S w v =
    first_of
    (refuse_join w v QuestionOpen (not (is_idle w.state.question && is_idle v.state.question))
    ∷ refuse_join w v TablesOverlap (tables_overlap S w.records w.state.count v.records v.state.count)
    ∷ refuse_join w v TooManyArenas (ltb 32 (w.state.count + v.state.count))
    ∷ [])
    (join_outcome (Ok w.state.count) (joined_world w v) empty)

-- THE RULES of a join, of chunks of S bytes: any two lent tables. All of row 1 on both sides comes before any 2.
unfoldable pub join_rules : ℕ → World → World → Settings → JoinOutcome
join_rules S w v settings = first_of (refuse_join w v Broken (not (sound S w settings.page && sound S v settings.page)) ∷ []) (join_on S w v)

-- a join of the layer, at a clock that it does not read
abbrev pub join : World → World → ℕ → Settings → JoinOutcome
join w v ns settings = join_rules (size_of w.state) w v settings

-- what the entry point over the four lent slices leaves: the answer and the states go back by value, the records and stamps stand in the slices
abbrev pub join_reply : Result ℕ Refusal → State → State → JoinReply
join_reply answer first second = record { answer = answer; first = first; second = second }

abbrev pub join_reply_in : JoinOutcome → JoinReply
join_reply_in o = join_reply o.answer o.first.state o.second.state

abbrev pub LeavesBoth : JoinOutcome → JoinReply → List Arena → List ℕ → List Arena → List ℕ → Type 0
LeavesBoth o r records stamps second-records second-stamps =
    (r ≡ join_reply_in o) × (records ≡ o.first.records) × (stamps ≡ o.first.stamps) × (second-records ≡ o.second.records) × (second-stamps ≡ o.second.stamps)
