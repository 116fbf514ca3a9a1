use Rattle.std.proofs.Common.{List, sym, subst}
use Rattle.std.proofs.lemmas.Result.{IfOk-weaker}
use Rattle.type_definitions.specs.DeclaredTypes.{DeclaredType}
use Rattle.type_definitions.specs.MentionFaults.{AreInOrder}
use Rattle.type_flatten.specs.RequiredView.{AreRequired}
use Rattle.type_flatten.proofs.requiring.requirements_of_items.Goals as goal

pub requirements_in_order-requires : goal.requirements_in_order-requires
requirements_in_order-requires c =
    subst (λ (ts : List DeclaredType). AreInOrder ts c.in_ok-order.order.order.items) (sym c.in_ok-order.ensures.same_types)
    c.in_ok-order.ensures.in_order

pub returns : goal.returns
returns c =
    IfOk-weaker c.requirements_in_order.result _ _
    (λ equations h. subst (λ (ts : List DeclaredType). AreRequired ts equations.items) c.in_ok-order.ensures.same_types h)
    c.requirements_in_order.ensures
