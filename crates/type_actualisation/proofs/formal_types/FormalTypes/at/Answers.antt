use Rattle.std.proofs.Common.{◌≡◌, ◌<◌, ◌≤◌, List, length, ap, sym, ◌∙◌, subst, ltb-true, ltb-false}
use Rattle.std.specs.Prelude.{None, Option, Some, slice_get}
use Rattle.std.proofs.lemmas.Option.{slice_get-get_or, slice_get_past}
use Rattle.type_presentations.specs.declared.equation_list.EquationList.{EquationList}
use Rattle.type_actualisation.specs.FormalTypesView.{list_at}
use Rattle.type_actualisation.proofs.formal_types.FormalTypes.at.Goals as goal

pub returns-in-Some : goal.returns-in-Some
returns-in-Some c =
    let within : c.args.number < length c.deref.result.now = ltb-true _ _ (sym c.in-Some.ensures.lookup.0) in
    let found : slice_get c.deref.result.now c.args.number ≡ Some c.in-Some.list.now =
    slice_get-get_or c.deref.result.now c.args.number c.in-Some.list.now within
    ∙ ap (λ (l : EquationList). Some l) (sym c.in-Some.ensures.lookup.1) in
    ap (λ (o : Option EquationList). list_at c.args.self.now.none o)
    (sym (subst (λ (ls : List EquationList). slice_get ls c.args.number ≡ Some c.in-Some.list.now) c.deref.ensures.value found))

pub returns-in-None : goal.returns-in-None
returns-in-None c =
    let past : length c.deref.result.now ≤ c.args.number = ltb-false _ _ (sym c.in-None.ensures.lookup.0) in
    let none : slice_get c.args.self.now.formals.items c.args.number ≡ None =
    slice_get_past c.args.self.now.formals.items c.args.number
    (subst (λ (ls : List EquationList). length ls ≤ c.args.number) c.deref.ensures.value past) in
    ap (λ (o : Option EquationList). list_at c.args.self.now.none o) (sym none)
