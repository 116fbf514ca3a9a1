use Rattle.std.proofs.Common.{sym, ◌∙◌, arith}
use Rattle.command_words.specs.Words.{most_cells}
use Rattle.command_words.proofs.WordsLemmas.{below_most, none_said, said_up_to}
use Rattle.command_words.proofs.commands.cells_in.Goals as goal

pub returns-then-is_decimal_of : goal.returns-then-is_decimal_of
returns-then-is_decimal_of c =
    sym (said_up_to c.args.word.now c.loop-below.below most_cells
    (below_most c.loop-below.below (omega (arith, c.loop-below-test.true))) c.loop-below.invariant
    (sym c.is_decimal_of.ensures ∙ c.if-is_decimal_of.true))

pub returns : goal.returns
returns c =
    none_said c.args.word.now c.loop-below.below (omega (arith, c.loop-below-test.false, c.loop-below.auto.below-end))
    c.loop-below.invariant
