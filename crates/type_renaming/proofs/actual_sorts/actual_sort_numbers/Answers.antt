use Rattle.std.proofs.Common.{◌<◌, refl, ap, sym, ◌∙◌, subst, arith}
use Rattle.std.specs.Prelude.{◌^◌, Bool}
use Rattle.std.proofs.lemmas.Result.{err_from_is_err_and}
use Rattle.sort_terms.specs.Operations.{sort_of}
use Rattle.type_definitions.proofs.HoldsLemmas.{holds_weaker}
use Rattle.type_definitions.proofs.WalkLemmas.{next_of, none_of}
use Rattle.type_definitions.specs.Presentation.{Presentation, is_marked_number}
use Rattle.type_definitions.specs.Actualisation.{actual_sort}
use Rattle.type_definitions.specs.ActualisationFaults.{formal_sort_fault}
use Rattle.type_presentations.proofs.SizeLemmas.{within_limits}
use Rattle.type_presentations.specs.PresentationView.{presentation_of}
use Rattle.type_renaming.specs.Actuals.{IsActualOf, sort_lacks_actual}
use Rattle.type_renaming.proofs.ActualLemmas.{looked_none, looked_next, looked_fault, looked_all}
use Rattle.type_renaming.proofs.MarkedNames.{number_small}
use Rattle.type_renaming.proofs.SortActuals.{names_there, names_few}
use Rattle.type_renaming.proofs.actual_sorts.actual_sort_numbers.Goals as goal

pub loop-number-init : goal.loop-number-init
loop-number-init c = λ a base sorts pairs.
    looked_none (formal_sort_fault a) a.base.presentation.formal_sorts (actual_sort a) a.base.presentation.signature.sorts _ _
    (c.sorts-coming.ensures ∙ ap (λ (p : Presentation). p.signature.sorts) (sym base.presentation_is))
    c.in_ok-numbers.ensures.items

pub overflow_cast-number : goal.overflow_cast-number
overflow_cast-number c =
    let small : c.loop-number.number < 2 ^ 32 =
    number_small sort_of c.sorts-coming.result.now _ c.loop-number.number c.sorts-coming.ensures
    (within_limits (presentation_of c.args.base.now) c.requires.within).sorts c.loop-number-test.true in
    omega (arith, small)

pub actual_of_sort-requires : goal.actual_of_sort-requires
actual_of_sort-requires c = names_few c.in_ok-names.names c.sorts.result.now _ c.sorts.ensures c.requires.few c.in_ok-names.ensures

pub loop-number-preserved : goal.loop-number-preserved
loop-number-preserved c = λ a base sorts pairs.
    let marked = c.has-is_formal.ensures ∙ ap (λ (p : Presentation). is_marked_number p.formal_sorts c.loop-number.number)
    (sym base.presentation_is) in
    looked_next (sort_lacks_actual a) (formal_sort_fault a) a.base.presentation.formal_sorts (actual_sort a)
    a.base.presentation.signature.sorts c.loop-number.number _ _ c.loop-number.numbers.items c.push.new.self.items
    (sort_of c.index-coming-number.result) c.in_ok-found.found (refl, (λ x xs. refl)) (c.loop-number.invariant a base sorts pairs)
    (next_of sort_of c.sorts-coming.result.now c.loop-number.number c.index-coming-number.result c.loop-number-test.true
    c.index-coming-number.is)
    (subst
    (λ (b : Bool).
    IsActualOf b (sort_lacks_actual a (sort_of c.index-coming-number.result)) (actual_sort a (sort_of c.index-coming-number.result))
    c.in_ok-found.found)
    marked
    (c.in_ok-found.ensures a (record {
      at_is = base.at_is;
      pairs_are = pairs;
      names_are = names_there c.in_ok-names.names c.sorts.result.now _ _ c.sorts.ensures sorts c.in_ok-names.ensures;
    })))
    c.in_ok-push.ensures.items

pub returns-in_err-found : goal.returns-in_err-found
returns-in_err-found c =
    let e = err_from_is_err_and c.from_residual-in_err-found.result c.from_residual-in_err-found.ensures.1 in
    rw (e.1, e.2) (λ a base sorts pairs.
    let marked = c.has-is_formal.ensures ∙ ap (λ (p : Presentation). is_marked_number p.formal_sorts c.loop-number.number)
    (sym base.presentation_is) in
    holds_weaker _ _ c.in_err-found.field-0.0
    (λ f lacks.
    looked_fault (sort_lacks_actual a) (formal_sort_fault a) a.base.presentation.formal_sorts (actual_sort a)
    a.base.presentation.signature.sorts c.loop-number.number _ _ c.loop-number.numbers.items (sort_of c.index-coming-number.result) f
    (refl, (λ x xs. refl)) (c.loop-number.invariant a base sorts pairs)
    (next_of sort_of c.sorts-coming.result.now c.loop-number.number c.index-coming-number.result c.loop-number-test.true
    c.index-coming-number.is)
    (sym marked ∙ lacks.0) lacks.1)
    (c.in_err-found.ensures a (record {
      at_is = base.at_is;
      pairs_are = pairs;
      names_are = names_there c.in_ok-names.names c.sorts.result.now _ _ c.sorts.ensures sorts c.in_ok-names.ensures;
    })))

pub returns : goal.returns
returns c = λ a base sorts pairs.
    let done =
    looked_all (sort_lacks_actual a) (formal_sort_fault a) a.base.presentation.formal_sorts (actual_sort a)
    a.base.presentation.signature.sorts c.loop-number.number _ c.loop-number.numbers.items (refl, (λ x xs. refl))
    (c.loop-number.invariant a base sorts pairs)
    (none_of sort_of c.sorts-coming.result.now c.loop-number.number (omega (arith, c.loop-number-test.false))) in
    record { none = done.0; are = done.1 }
