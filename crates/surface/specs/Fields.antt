-- Which numbers are a state's, field by field: by the question, the fields that it uses are in order and the rest are 0. Assumes nothing.
use Rattle.std.specs.Prelude.{Bool, cond, ◌&&◌, ◌||◌, ℕ, eqb, leb}
use Rattle.surface.specs.declared.StateNumbers.{StateNumbers}

abbrev pub no_place : StateNumbers → Bool
no_place f = eqb f.id 0 && eqb f.start 0

abbrev pub no_memory : StateNumbers → Bool
no_memory f = eqb f.chunks 0 && eqb f.bytes 0 && eqb f.commit 0 && eqb f.exclusive 0

abbrev pub no_waiting : StateNumbers → Bool
no_waiting f = eqb f.waiting 0 && eqb f.commits 0 && eqb f.cause 0

abbrev pub no_sweep : StateNumbers → Bool
no_sweep f = (eqb f.force 0 && eqb f.decommit 0) && (eqb f.now 0 && eqb f.delay 0) && eqb f.purged 0

-- who waits for memory: a reserve, or a claim of n chunks
abbrev pub is_waiting : StateNumbers → Bool
is_waiting f = cond (eqb f.waiting 1) (leb f.commits 1) (eqb f.waiting 0 && eqb f.commits 0 && eqb f.n 0)

abbrev pub is_cause : ℕ → Bool
is_cause cause = eqb cause 12 || eqb cause 7 || eqb cause 13

-- no question is open
abbrev pub is_calm : StateNumbers → Bool
is_calm f = no_place f && eqb f.n 0 && no_memory f && no_waiting f && no_sweep f

-- a question about chunks of an arena: 1, or else 2
abbrev pub is_placed : StateNumbers → Bool
is_placed f = cond (eqb f.question 1) (no_memory f && no_waiting f && no_sweep f) (no_memory f && no_waiting f && (leb f.force 1 && leb f.decommit 1) && eqb f.n 0)

-- a question about memory: 3, or else 4
abbrev pub is_of_memory : StateNumbers → Bool
is_of_memory f =
    cond (eqb f.question 3) (no_place f && is_waiting f && no_sweep f && (leb f.commit 1 && leb f.exclusive 1) && eqb f.cause 0)
    (no_place f && is_waiting f && no_sweep f && no_memory f && is_cause f.cause)
