use Rattle.std.proofs.Common.{sym, ◌∙◌, arith}
use Rattle.command_words.proofs.CutLemmas.{next_file, files_end, files_to_the_end}
use Rattle.command_words.proofs.commands.behind_verb.Goals as goal

pub returns-then-ends : goal.returns-then-ends
returns-then-ends c =
    files_end c.args.words.now c.loop-index.index c.index-words-index.result c.as_str.result.now
    (omega (arith, c.loop-index-test.true)) c.index-words-index.is c.as_str.ensures.value (sym c.if-ends.true ∙ c.ends.ensures)
    c.loop-index.invariant

pub loop-index-preserved : goal.loop-index-preserved
loop-index-preserved c =
    next_file c.args.words.now c.loop-index.index c.index-words-index.result c.as_str.result.now
    (omega (arith, c.loop-index-test.true)) c.index-words-index.is c.as_str.ensures.value (sym c.if-ends.false ∙ c.ends.ensures)
    c.loop-index.invariant

pub returns : goal.returns
returns c =
    sym (files_to_the_end c.args.words.now c.loop-index.index (omega (arith, c.loop-index-test.false, c.loop-index.auto.index-end))
    c.loop-index.invariant)
