use Rattle.std.proofs.Common.{rules, arith, Some, ◌+◌, ap, ◌∙◌}
use Rattle.scripts.proofs.Numbers.{zero_led, one_digit, too_great, all_read}
use Rattle.scripts.proofs.word.number_of.Goals as goal

pub returns-then-digits-eq48-clause-value : goal.returns-then-digits-eq48-clause-value
returns-then-digits-eq48-clause-value c = zero_led c.args.most c.args.digits.now (omega arith) c.if-digits-gt1.true c.if-digits-eq48.true

pub returns-then-number-from-clause-value : goal.returns-then-number-from-clause-value
returns-then-number-from-clause-value c =
    let next = one_digit c.args.digits.now c.requires c.loop-digit.digit-index (search rules) in
    too_great c.args.digits.now c.requires c.args.most (c.loop-digit.digit-index + 1) (omega arith)

pub loop-digit-preserved : goal.loop-digit-preserved
loop-digit-preserved c =
    let next = one_digit c.args.digits.now c.requires c.loop-digit.digit-index (search rules) in
    (omega arith, omega arith)

pub returns-clause-value : goal.returns-clause-value
returns-clause-value c =
    let is = c.loop-digit.invariant in
    ap Some is.0 ∙ all_read c.args.digits.now c.requires c.args.most c.loop-digit.digit-index (omega arith) (omega arith) (omega arith) (λ led. grind arith)
