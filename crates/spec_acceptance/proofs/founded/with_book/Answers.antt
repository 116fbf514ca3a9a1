use Rattle.std.proofs.Common.{ℕ, List, option_map, Bor}
use Rattle.syntax_trees.specs.TreeViews.{written_specification_of}
use Rattle.spec_acceptance.specs.declared.not_accepted.NotAccepted.TheVariants.{NoMemory}
use Rattle.spec_acceptance.proofs.DoingLemmas.{err_out}
use Rattle.spec_acceptance.proofs.FlowLemmas.{lists_there, nothing_out, gather_out, types_out, scopes_out, exits_out, ranks_out, order_out, sorted_there, finished}
use Rattle.spec_acceptance.proofs.founded.with_book.Goals as goal

pub returns-in_err-items : goal.returns-in_err-items
returns-in_err-items g c =
    err_out _ NoMemory _ _ c.from_residual.ensures.1 (nothing_out _ (option_map (λ (word : Bor (List ℕ)). word.now) c.args.order)
    (written_specification_of c.args.tree.now))

pub resolved-requires : goal.resolved-requires
resolved-requires g c = lists_there c.requires.0 (written_specification_of c.args.tree.now) _ c.requires.1 c.in_ok-items.ensures.left

pub opened-requires : goal.opened-requires
opened-requires g c =
    sorted_there _ _ _ (written_specification_of c.args.tree.now) _ _ c.in_ok-items.ensures.taken c.in_ok-gathered.ensures
    _ c.in_ok-flattened.ensures _ c.in_ok-items.ensures.left _ c.in_ok-stood.ensures _ c.in_ok-checked.ensures _
    c.in_ok-guarded.ensures _ _ c.in_ok-ordered.ensures

pub returns-in_err-gathered : goal.returns-in_err-gathered
returns-in_err-gathered g c =
    err_out _ c.in_err-gathered.field-0.0 _ _ c.from_residual-in_err-gathered.ensures.1
    (gather_out _ _ _ (written_specification_of c.args.tree.now) _ _ c.in_ok-items.ensures.taken c.in_err-gathered.ensures)

pub returns-in_err-flattened : goal.returns-in_err-flattened
returns-in_err-flattened g c =
    err_out _ c.in_err-flattened.field-0.0 _ _ c.from_residual-in_err-flattened.ensures.1
    (types_out _ _ _ (written_specification_of c.args.tree.now) _ _ c.in_ok-items.ensures.taken c.in_ok-gathered.ensures _
    c.in_err-flattened.ensures)

pub returns-in_err-stood : goal.returns-in_err-stood
returns-in_err-stood g c =
    err_out _ c.in_err-stood.field-0.0 _ _ c.from_residual-in_err-stood.ensures.1
    (scopes_out _ _ _ (written_specification_of c.args.tree.now) _ _ c.in_ok-items.ensures.taken c.in_ok-gathered.ensures
    _ c.in_ok-flattened.ensures _ c.in_ok-items.ensures.left _ c.in_err-stood.ensures)

pub returns-in_err-checked : goal.returns-in_err-checked
returns-in_err-checked g c =
    err_out _ c.in_err-checked.field-0.0 _ _ c.from_residual-in_err-checked.ensures.1
    (exits_out _ _ _ (written_specification_of c.args.tree.now) _ _ c.in_ok-items.ensures.taken c.in_ok-gathered.ensures
    _ c.in_ok-flattened.ensures _ c.in_ok-items.ensures.left _ c.in_ok-stood.ensures _ c.in_err-checked.ensures)

pub returns-in_err-guarded : goal.returns-in_err-guarded
returns-in_err-guarded g c =
    err_out _ c.in_err-guarded.field-0.0 _ _ c.from_residual-in_err-guarded.ensures.1
    (ranks_out _ _ _ (written_specification_of c.args.tree.now) _ _ c.in_ok-items.ensures.taken c.in_ok-gathered.ensures
    _ c.in_ok-flattened.ensures _ c.in_ok-items.ensures.left _ c.in_ok-stood.ensures _ c.in_ok-checked.ensures _ c.in_err-guarded.ensures)

pub returns-in_err-ordered : goal.returns-in_err-ordered
returns-in_err-ordered g c =
    err_out _ c.in_err-ordered.field-0.0 _ _ c.from_residual-in_err-ordered.ensures.1
    (order_out _ _ _ (written_specification_of c.args.tree.now) _ _ c.in_ok-items.ensures.taken c.in_ok-gathered.ensures
    _ c.in_ok-flattened.ensures _ c.in_ok-items.ensures.left _ c.in_ok-stood.ensures _ c.in_ok-checked.ensures _
    c.in_ok-guarded.ensures _ _ c.in_err-ordered.ensures)

pub returns : goal.returns
returns g c =
    finished _ _ _ (written_specification_of c.args.tree.now) _ _ c.in_ok-items.ensures.taken c.in_ok-gathered.ensures
    _ c.in_ok-flattened.ensures _ c.in_ok-items.ensures.left _ c.in_ok-stood.ensures _ c.in_ok-checked.ensures _
    c.in_ok-guarded.ensures _ _ c.in_ok-ordered.ensures c.opened.result c.opened.ensures
