use Rattle.std.proofs.Common.{List, map, sym, subst}
use Rattle.std.proofs.lemmas.Result.{MatchResult-weaker, err_from_is_err_and}
use Rattle.syntax_trees.specs.TreeViews.{item_of}
use Rattle.type_definitions.specs.DeclaredTypes.{DeclaredType, types_of}
use Rattle.type_definitions.specs.MentionFaults.{AreInOrder}
use Rattle.type_flatten.specs.FlatView.{IsFlat, IsRefused}
use Rattle.type_flatten.proofs.AllTypesLemmas.{names_refused}
use Rattle.type_flatten.proofs.flattening.flatten.Goals as goal

pub returns-in_err-order : goal.returns-in_err-order
returns-in_err-order c =
    let p = err_from_is_err_and c.from_residual.result c.from_residual.ensures.1 in
    rw (p.1, p.2) (names_refused (types_of (map item_of c.args.items.now)) c.in_err-order.field-0.0 c.in_err-order.ensures)

pub flatten_in_order-requires : goal.flatten_in_order-requires
flatten_in_order-requires c =
    subst (λ (ts : List DeclaredType). AreInOrder ts c.in_ok-order.order.order.items) (sym c.in_ok-order.ensures.same_types)
    c.in_ok-order.ensures.in_order

pub returns : goal.returns
returns c =
    MatchResult-weaker c.flatten_in_order.result c.flatten_in_order.ensures
    (λ flat h. subst (λ (ts : List DeclaredType). IsFlat ts flat) c.in_ok-order.ensures.same_types h)
    (λ fault h. subst (λ (ts : List DeclaredType). IsRefused ts fault) c.in_ok-order.ensures.same_types h)
