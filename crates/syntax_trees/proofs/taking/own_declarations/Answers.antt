use Rattle.std.proofs.Common.{◌+◌, ap, ◌∙◌, sym}
use Rattle.syntax_trees.specs.TreeViews.{inner_list_of}
use Rattle.syntax_trees.proofs.TakingItems.{count_in, counts_itself, counts_own}
use Rattle.syntax_trees.proofs.taking.own_declarations.Goals as goal

pub returns-in-Item : goal.returns-in-Item
returns-in-Item c = counts_itself c.args.inner.now c.in-Item.field-0 c.in-Item.is

pub returns-in-Process : goal.returns-in-Process
returns-in-Process c =
    counts_own c.args.inner.now c.in-Process.process c.in-Process.is
    ∙ ap (λ it. 1 + count_in (inner_list_of it)) (sym c.as_slice.ensures.value)
