-- By the list that is looked at.
use Rattle.std.proofs.Common.{sym, ◌∙◌}
use Rattle.value_lists.proofs.TupleCodeLemmas.{empty_here, empty_more, none_there, some_there}
use Rattle.value_lists.proofs.tuples.some_is_empty.Goals as goal

pub returns-then-is_empty : goal.returns-then-is_empty
returns-then-is_empty c =
    sym (empty_here c.args.choices.now c.loop-choice.choice-index c.choice-item.result c.loop-choice-test.true c.choice-item.is
    (none_there _ _ (sym c.is_empty.ensures ∙ c.if-is_empty.true) c.choice-item.result.ok.0))
    ∙ c.loop-choice.invariant

pub loop-choice-preserved : goal.loop-choice-preserved
loop-choice-preserved c =
    sym (empty_more c.args.choices.now c.loop-choice.choice-index c.choice-item.result c.loop-choice-test.true c.choice-item.is
    (some_there _ _ (sym c.is_empty.ensures ∙ c.if-is_empty.false) c.choice-item.result.ok.0))
    ∙ c.loop-choice.invariant
