use Rattle.std.proofs.Common.{sym, ◌∙◌}
use Rattle.induct_parts.proofs.Outcomes.{match_none_at, match_some_at}
use Rattle.induct_parts.specs.CaseView.{pattern_in}
use Rattle.induct_check.specs.KnownView.{known_signature}
use Rattle.induct_check.proofs.PieceLemmas.{no_tree_item, several_operations, tree_operation, gives_tree, one_item}
use Rattle.induct_check.proofs.pieces.tree_piece.Goals as goal

pub returns-in_default : goal.returns-in_default
returns-in_default c =
    no_tree_item (known_signature c.args.known.now) c.args.item.now
    (match_none_at _ _ c.in_ok-operations.field-0 c.in_default.is c.in_ok-operations.ensures)

pub returns-then-len-ne1 : goal.returns-then-len-ne1
returns-then-len-ne1 c =
    several_operations c.texts_have_one_outcome.ensures (known_signature c.args.known.now) c.args.item.now c.in-Some.operations.items
    (match_some_at _ _ c.in_ok-operations.field-0 c.in-Some.operations c.in-Some.is c.in_ok-operations.ensures)
    (λ one. c.if-len-ne1.true (c.len.ensures ∙ c.in-Some.operations.ok.0 ∙ one))

pub first_of_tree-requires : goal.first_of_tree-requires
first_of_tree-requires c =
    tree_operation (known_signature c.args.known.now) c.args.item.now c.in-Some.operations.items c.index-operation.result.now
    (match_some_at _ _ c.in_ok-operations.field-0 c.in-Some.operations c.in-Some.is c.in_ok-operations.ensures)
    (one_item c.in-Some.operations.items c.index-operation.result.now
    (sym (c.len.ensures ∙ c.in-Some.operations.ok.0) ∙ c.if-len-ne1.false) c.index-operation.ensures)

pub returns : goal.returns
returns c =
    let given = gives_tree (known_signature c.args.known.now) c.args.item.now c.in-Some.operations.items c.index-operation.result.now
    (pattern_in c.in_ok-pattern.pattern)
    (match_some_at _ _ c.in_ok-operations.field-0 c.in-Some.operations c.in-Some.is c.in_ok-operations.ensures)
    (one_item c.in-Some.operations.items c.index-operation.result.now
    (sym (c.len.ensures ∙ c.in-Some.operations.ok.0) ∙ c.if-len-ne1.false) c.index-operation.ensures) c.in_ok-pattern.ensures.first in
    (given.0, (given.1, c.in_ok-pattern.ensures.known))
