-- At the loop's end all words behind the last chunk's are ored.
use Rattle.std.proofs.Common.{◌≡◌, ◌+◌, ◌-◌, ◌/◌, List, ℕ, length, take, drop, fold, bit_or, nat_eq, rules, ap, length-drop, ◌∙◌, arith}
use Rattle.std.proofs.Math.Seq.{take_all}
use Rattle.arena.proofs.soundness.TailLaws.{last_word, tail-ored}
use Rattle.arena.proofs.soundness.tail_is_clear.Goals as goal

pub returns : goal.returns
returns c =
    let row = c.args.row.now in
    let l = c.loop-w in
    let k : ℕ = c.args.chunks / 32 + 1 in
    let rest : List ℕ = drop k row in
    let long : length rest ≡ 32 - k = simp length-drop (omega arith) in
    let part : take (32 - k) rest ≡ rest = take_all (32 - k) rest (omega arith) in
    let whole : take l.w-index (take (32 - k) rest) ≡ rest = ap (take l.w-index) part ∙ take_all l.w-index rest (omega (arith, ap (length {A = ℕ}) part)) in
    ap (λ (x : ℕ). nat_eq x 0) (l.invariant ∙ ap (fold bit_or (last_word row c.args.chunks)) whole)
    ∙ tail-ored row c.args.chunks (record { long = c.told-row; small = λ i. search rules }) c.requires
