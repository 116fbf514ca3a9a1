use Rattle.std.proofs.Common.{arith, ◌∙◌, sym}
use Rattle.bisim_check.proofs.NumberTexts.{reaches}
use Rattle.bisim_check.proofs.numbers.value_of.Goals as goal

pub returns-then-value : goal.returns-then-value
returns-then-value c = λ all small.
    omega (
      arith,
      c.if-value.true,
      small,
      reaches c.args.bytes.now c.loop-byte.byte-index c.loop-byte.value c.loop-byte-test.true
          (sym c.is_ascii_digit.ensures.value ∙ c.if-not-is_ascii_digit.false) c.loop-byte.invariant.0,
    )
