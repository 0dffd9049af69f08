-- Which arenas stand after a call, of any layer: as many as before, or one more, the one that the call asked for. Demand 3 reads what is registered off the rules' own
-- run; this says that the run registers nothing else. That an arena stands for good is said in layer_laws (after_refusal). Assumes nothing.
use Rattle.std.specs.Prelude.{◌≡◌, true, false, ◌⊎◌, ℕ, suc, ◌+◌, ◌*◌, ◌≤◌}
use Rattle.arena.specs.declared.Arena.{Arena}
use Rattle.arena.specs.Flags.{is_on}
use Rattle.layer.specs.declared.Settings.{Settings}
use Rattle.layer.specs.declared.Question.{Question}
use Rattle.layer.specs.declared.Question.TheVariants.{Idle, Committing, Purging, Reserving, GivingBack}
use Rattle.layer.specs.World.{World, size_of}
use Rattle.layer.specs.Table.{at, sound}
use Rattle.layer.specs.Step.{reserve, manage, adopt, claim, release, sweep, Call, act, query, answer}
use Rattle.layer.specs.History.{Layer}

-- the block of memory that a question asked for, brought at base
abbrev pub Brought : ℕ → Question → Arena → Type 0
Brought base Idle a = ⊥
Brought base (Committing i s n) a = ⊥
Brought base (Purging i j w) a = ⊥
Brought base (Reserving chunks bytes commit exclusive waiting) a = (a.base ≡ base) × (a.chunks ≡ chunks) × (is_on a.exclusive ≡ exclusive)
Brought base (GivingBack cause waiting) a = ⊥

-- a is the arena that the call asks for, of chunks of S bytes: whole chunks of a managed range, an adopted block, or the memory that was asked for
abbrev pub AskedFor : ℕ → Question → Call → Arena → Type 0
AskedFor S q (act (manage from size exclusive node mapped reserved)) a = (from ≤ a.base) × (a.base + a.chunks * S ≤ from + size) × (is_on a.exclusive ≡ exclusive)
AskedFor S q (act (adopt address size)) a = (a.base ≡ address) × (a.chunks * S ≡ size) × (is_on a.exclusive ≡ false)
AskedFor S q (act (reserve size commit large exclusive)) a = ⊥
AskedFor S q (act (claim id n commits)) a = ⊥
AskedFor S q (act (release address n tell pending)) a = ⊥
AskedFor S q (act (sweep force)) a = ⊥
AskedFor S q (query c) a = ⊥
AskedFor S q (answer kind accepted base) a = Brought base q a

-- of every call on every lent world that row 1 lets pass
abbrev pub NoneUnasked : Layer → Type 0
NoneUnasked L =
    (w : World) (ns : ℕ) (settings : Settings) (c : Call) → sound (size_of w.state) w settings.page ≡ true
    → let v = (L.does w ns settings c).world in
    (v.state.count ≡ w.state.count)
    ⊎ ((v.state.count ≡ suc w.state.count) × AskedFor (size_of w.state) w.state.question c (at v.records w.state.count))
