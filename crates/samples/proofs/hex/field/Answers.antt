-- `samples::hex::field`: one digit more, or none there.
use Rattle.std.proofs.Common.{suc, sym, subst, get_or, arith, rules}
use Rattle.std.specs.Prelude.{◌≡◌, ◌<◌, ◌+◌, ◌-◌, Option, Some, None, ℕ}
use Rattle.samples.specs.Hex.{Below, digit_of, digits_at}
use Rattle.samples.proofs.hex.HexLaws.{digit-below, digits-room, no-number}
use Rattle.samples.proofs.hex.field.Goals as goal

pub loop-i-init : goal.loop-i-init
unfolding digits_at
loop-i-init c = search rules

pub overflow_mul-high : goal.overflow_mul-high
overflow_mul-high c =
    let l = c.loop-i in
    let room : l.high < 1152921504606846976 = subst (λ (x : Option ℕ). Below x 1152921504606846976) (sym l.invariant) (digits-room c.args.text.now c.args.at l.i (omega arith)) in
    search (rules, room)

pub overflow_add-high : goal.overflow_add-high
overflow_add-high c =
    let l = c.loop-i in
    let low = c.in_ok-high.field-0 in
    let room : l.high < 1152921504606846976 = subst (λ (x : Option ℕ). Below x 1152921504606846976) (sym l.invariant) (digits-room c.args.text.now c.args.at l.i (omega arith)) in
    let is : digit_of (get_or c.args.text.now (c.args.at + l.i) 0) ≡ Some low = search rules in
    let few : low < 16 = subst (λ (x : Option ℕ). Below x 16) is (digit-below _) in
    search (rules, room, few)

pub returns-in_err-high : goal.returns-in_err-high
returns-in_err-high c =
    let l = c.loop-i in
    let none : digit_of (get_or c.args.text.now (c.args.at + l.i) 0) ≡ None = search rules in
    let all = no-number c.args.text.now c.args.at l.i (15 - l.i) none in
    let rest : suc l.i + (15 - l.i) ≡ 16 = omega arith in
    let sixteen : digits_at c.args.text.now c.args.at 16 ≡ None = subst (λ (n : ℕ). digits_at c.args.text.now c.args.at n ≡ None) rest all in
    search (rules, sixteen)

pub loop-i-preserved : goal.loop-i-preserved
unfolding digits_at
loop-i-preserved c = search rules
