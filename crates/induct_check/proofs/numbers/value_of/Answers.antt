use Rattle.std.proofs.Common.{◌+◌, ◌*◌, ◌-◌, get_or, ap, sym, ◌∙◌}
use Rattle.lotos_base.proofs.Members.{read_at}
use Rattle.induct_check.specs.CertificateLines.{at_most}
use Rattle.induct_check.proofs.NumberLemmas.{value_read, held_twice}
use Rattle.induct_check.proofs.numbers.value_of.Goals as goal

pub loop-digit-preserved : goal.loop-digit-preserved
loop-digit-preserved c =
    let digit = get_or c.args.digits.now c.loop-digit.digit-index 0 in
    let h = value_read c.args.digits.now c.loop-digit.digit-index c.loop-digit.value digit c.next_value-value.result c.loop-digit-test.true
    (read_at c.args.digits.now c.loop-digit.digit-index c.loop-digit-test.true) c.loop-digit.invariant.digits in
    record {
      value_ = h.value_ c.next_value-value.ensures ∙ c.loop-digit.invariant.value_;
      digits = h.rest;
      held = c.next_value-value.ensures
          ∙ sym (ap (λ n. at_most n) c.next_value-value.ensures ∙ held_twice (c.loop-digit.value * 10 + (digit - 48)));
    }
