-- A query leaves the table as it came.
use Rattle.std.proofs.Common.{rules}
use Rattle.state.proofs.Prelude.{◌≡◌, refl, ℕ, Settings, World, Outcome, size_of, sound, world_of, step, Query, query}
use Rattle.layer.specs.Step as S
use Rattle.layer.proofs.Tools.{by-not}
use Rattle.calls.specs.Calls.{query_of}
use Rattle.calls.proofs.ask.Goals as goal

abbrev Keeps : World → Outcome → Type 0
Keeps w o = (w.records ≡ o.world.records) × (w.stamps ≡ o.world.stamps)

keeps : (w : World) (ns : ℕ) (settings : Settings) (q : Query) → Keeps w (step w ns settings (query q))
unfolding S.rules
keeps w ns settings q = by-not (Keeps w) (sound (size_of w.state) w settings.page) _ _ (λ _. (refl, refl)) (λ _. (refl, refl))

pub returns-in-Owns : goal.returns-in-Owns
returns-in-Owns c =
    let a = c.args in
    let k = keeps (world_of a.records.now a.stamps.now a.state) a.ns a.settings (query_of a.c) in
    (search rules, k.0, k.1)

pub returns-in-ArenaArea : goal.returns-in-ArenaArea
returns-in-ArenaArea c =
    let a = c.args in
    let k = keeps (world_of a.records.now a.stamps.now a.state) a.ns a.settings (query_of a.c) in
    (search rules, k.0, k.1)
