-- What is filled is the run.
use Rattle.std.proofs.Common.{◌≡◌, ◌+◌, ◌-◌, ℕ, length, take, drop, replicate, length-take, length-drop, sym, ap, ◌∙◌, arith}
use Rattle.std.proofs.lemmas.List.{length-replicate}
use Rattle.std.proofs.lemmas.Slice.{put_mid-paste}
use Rattle.std.proofs.lemmas.List.Edits.{paste_all}
use Rattle.arena.specs.Releasing.{stamp_run}
use Rattle.arena.proofs.purge.stamp_run.Goals as goal

pub returns : goal.returns
unfolding stamp_run
returns c =
    let a = c.args in
    let run = replicate a.n a.at in
    let long : length (take (a.s + a.n - a.s) (drop a.s a.stamps.now)) ≡ a.n = simp (length-take, length-drop) (omega arith) in
    put_mid-paste a.s _ a.stamps.now _ run a.n (c.fill.ensures.after (λ y e. e) ∙ ap (λ (k : ℕ). replicate k a.at) long) (omega arith) (sym (length-replicate a.n a.at))
    ∙ paste_all a.stamps.now a.s run a.n (sym (length-replicate a.n a.at))
