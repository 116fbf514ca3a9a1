use Rattle.std.proofs.Common.{◌≡◌, List, map, subst, ◌∙◌}
use Rattle.std.proofs.lemmas.Result.{err_from_is_err_and}
use Rattle.syntax_trees.specs.TreeViews.{item_of}
use Rattle.type_definitions.specs.DeclaredTypes.{DeclaredType, types_of}
use Rattle.type_definitions.specs.MentionFaults.{AreDeclaredOnce, unknown_mention}
use Rattle.type_definitions.specs.NameFaultView.{IsNameUnknown}
use Rattle.type_definitions.specs.TypeNamesView.{types_in}
use Rattle.type_definitions.proofs.UnknownLemmas.{unknown_fault}
use Rattle.type_definitions.proofs.type_order.order_types.Goals as goal

pub returns-in_err-mentions : goal.returns-in_err-mentions
returns-in_err-mentions c =
    let p = err_from_is_err_and c.from_residual-in_err-mentions.result c.from_residual-in_err-mentions.ensures.1 in
    let same : types_in c.in_ok-names.names ≡ types_of (map item_of c.args.items.now) =
    c.in_ok-names.ensures.0 ∙ c.in_ok-types.ensures in
    let once : AreDeclaredOnce (types_of (map item_of c.args.items.now)) =
    subst (λ (ts : List DeclaredType). AreDeclaredOnce ts) c.in_ok-types.ensures c.in_ok-names.ensures.1 in
    rw (p.1, p.2)
    (unknown_fault (types_of (map item_of c.args.items.now)) c.in_err-mentions.field-0.0 once
    (subst (λ (ts : List DeclaredType). IsNameUnknown (unknown_mention ts ts) c.in_err-mentions.field-0.0) same c.in_err-mentions.ensures))
