use Rattle.std.proofs.Common.{List, [], ◌∷◌, map, ap, sym, ◌∙◌}
use Rattle.std.proofs.lemmas.Result.{err_from_is_err_and}
use Rattle.lotos_base.specs.WrittenTerm.{PlacedName}
use Rattle.lotos_base.specs.WrittenView.{form_of, placed_name_of}
use Rattle.lotos_base.specs.declared.places.Place.{Place}
use Rattle.lotos_base.specs.declared.names.Name.{Name}
use Rattle.syntax_trees.specs.TreeViews.{placed_names_of}
use Rattle.type_definitions.proofs.HoldsLemmas.{holds_weaker}
use Rattle.type_definitions.specs.Declarations.{sort_numbered, unknown_sort_among}
use Rattle.type_presentations.proofs.DeclareLemmas.{unknown_before, unknown_after, known_both, operation_made}
use Rattle.type_presentations.proofs.operations.op_of.Goals as goal

pub returns-in_err-arguments : goal.returns-in_err-arguments
returns-in_err-arguments c =
    let e = err_from_is_err_and c.from_residual.result c.from_residual.ensures.1 in
    rw (e.1, e.2) (λ p has.
    holds_weaker _ _ c.in_err-arguments.field-0.0
    (λ f found.
    unknown_before p (placed_names_of c.args.op.now.arguments.items) (placed_name_of c.args.op.now.result ∷ []) f
    (sym (ap (λ (ns : List (Place × Name)). unknown_sort_among p (placed_names_of ns)) c.as_slice.ensures.value) ∙ found))
    (c.in_err-arguments.ensures p has))

pub returns-in_err-result : goal.returns-in_err-result
returns-in_err-result c =
    let e = err_from_is_err_and c.from_residual-in_err-result.result c.from_residual-in_err-result.ensures.1 in
    rw (e.1, e.2) (λ p has.
    let arguments = c.in_ok-arguments.ensures p has in
    holds_weaker _ _ c.in_err-result.field-0.0
    (λ f found.
    unknown_after p (placed_names_of c.args.op.now.arguments.items) (placed_name_of c.args.op.now.result ∷ []) f
    (sym (ap (λ (ns : List (Place × Name)). unknown_sort_among p (placed_names_of ns)) c.as_slice.ensures.value) ∙ arguments.0) found)
    (c.in_err-result.ensures p has))

pub returns : goal.returns
returns c = λ p has.
    let arguments = c.in_ok-arguments.ensures p has in
    let result = c.in_ok-result.ensures p has in
    let names = ap (λ (ns : List (Place × Name)). unknown_sort_among p (placed_names_of ns)) c.as_slice.ensures.value in (
      known_both p (placed_names_of c.args.op.now.arguments.items) (placed_name_of c.args.op.now.result ∷ []) (sym names ∙ arguments.0)
          result.0,
      operation_made (form_of c.args.op.now.form) _ _ _ _ _ _ _ _ c.in_ok-copy.ensures
          (arguments.1 ∙ ap (λ (ns : List (Place × Name)). map (λ (s : PlacedName). sort_numbered p s.name)
          (placed_names_of ns)) c.as_slice.ensures.value)
          result.1 c.in_ok-copy-2.ensures,
    )
