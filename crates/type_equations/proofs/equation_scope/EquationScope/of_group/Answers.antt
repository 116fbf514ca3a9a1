use Rattle.std.proofs.Common.{Vec, Global, ◌≡◌, ◌++◌, List, [], length, map, ap, sym, ◌∙◌, subst}
use Rattle.std.specs.Prelude.{Some}
use Rattle.std.proofs.lemmas.List.{append-nil, length-map}
use Rattle.std.proofs.lemmas.Result.{err_from_is_err_and}
use Rattle.lotos_base.specs.Name.{spelling}
use Rattle.lotos_base.specs.WrittenView.{text_place_of}
use Rattle.syntax_trees.specs.TreeViews.{group_of, written_variables_of}
use Rattle.syntax_trees.specs.WrittenVariable.{WrittenVariable}
use Rattle.syntax_trees.specs.declared.named.VarText.{VarText}
use Rattle.sort_terms.specs.EquationView.{variable_of}
use Rattle.sort_terms.specs.ScopeView.{variables_in}
use Rattle.sort_terms.specs.declared.equations.Variable.{Variable as CodeVariable}
use Rattle.sort_terms.proofs.SizeLemmas.{no_members}
use Rattle.type_definitions.proofs.HoldsLemmas.{holds_weaker}
use Rattle.type_definitions.specs.TypeFault.{TypeFault, unknown_sort}
use Rattle.type_definitions.specs.DeclaredEquations.{GiveAll, HasFirstFault, at_once, further_on, none_asked, sort_asked, sort_is_there, sort_is_unknown, asked_of_variables, scope_from}
use Rattle.type_equations.specs.ScopeFor.{sorts_asked}
use Rattle.type_equations.proofs.AskedLemmas.{scope_behind}
use Rattle.type_equations.proofs.ScopeLemmas.{scope_given}
use Rattle.type_equations.proofs.equation_scope.EquationScope.of_group.Goals as goal

pub returns-in_err-sort : goal.returns-in_err-sort
returns-in_err-sort c =
    let e = err_from_is_err_and c.from_residual.result c.from_residual.ensures.1 in
    rw (e.1, e.2) (λ p variables same given are.
    holds_weaker _ _ c.in_err-sort.field-0.0
    (λ f found type_name.
    subst (λ (g : TypeFault). HasFirstFault type_name p (sorts_asked (group_of c.args.group.now)) g) (sym found.1)
    (at_once p (sort_asked (text_place_of c.args.group.now.place) (spelling c.args.group.now.sort))
    (asked_of_variables (written_variables_of c.args.group.now.variables.items))
    (unknown_sort (text_place_of c.args.group.now.place) (Some (spelling c.args.group.now.sort)))
    (sort_is_unknown (text_place_of c.args.group.now.place) (spelling c.args.group.now.sort) found.0)))
    (c.in_err-sort.ensures p same))

pub returns-in_err-add_variables : goal.returns-in_err-add_variables
returns-in_err-add_variables c =
    let e =
    err_from_is_err_and c.from_residual-in_err-add_variables.result c.from_residual-in_err-add_variables.ensures.1 in
    rw (e.1, e.2) (λ p variables same given are.
    let here = c.in_ok-sort.ensures p same in
    holds_weaker _ _ c.in_err-add_variables.field-0.0
    (λ f found type_name.
    further_on p p (sort_asked (text_place_of c.args.group.now.place) (spelling c.args.group.now.sort))
    (asked_of_variables (written_variables_of c.args.group.now.variables.items)) f
    (sort_is_there (text_place_of c.args.group.now.place) (spelling c.args.group.now.sort) here.0)
    (subst (λ (vs : List VarText). HasFirstFault type_name p (asked_of_variables (written_variables_of vs)) f) c.as_slice-2.ensures.value
    (found type_name)))
    (c.in_err-add_variables.ensures p same))

-- the scope of the section itself
pub returns-then-is_empty : goal.returns-then-is_empty
returns-then-is_empty c = λ p variables same given are.
    let here = c.in_ok-sort.ensures p same in
    let none : c.args.group.now.variables.items ≡ []
    = no_members c.args.group.now.variables.items c.args.group.now.variables.len c.is_empty.result c.args.group.now.variables.ok.0
    c.is_empty.ensures c.if-is_empty.true in
    let whole : variables ≡ variables ++ written_variables_of c.args.group.now.variables.items
    = sym (append-nil variables) ∙ ap (λ (vs : List VarText). variables ++ written_variables_of vs) (sym none) in
    let all : map variable_of c.args.section.now.variables.items
    ≡ scope_from p 0 (variables ++ written_variables_of c.args.group.now.variables.items)
    = are ∙ ap (λ (vs : List WrittenVariable). scope_from p 0 vs) whole in
    scope_given p variables c.args.group.now c.over.result same given here.0 here.1
    (subst (λ (vs : List VarText). GiveAll p (asked_of_variables (written_variables_of vs)) p) (sym none) (none_asked p))
    c.over.ensures.sort (ap (λ (vs : List CodeVariable). map variable_of vs) c.over.ensures.variables ∙ all)
    (ap variables_in c.over.ensures.scope ∙ c.args.section.now.same ∙ all)

pub returns : goal.returns
returns c = λ p variables same given are.
    let here = c.in_ok-sort.ensures p same in
    let added =
    subst
    (λ (vs : List VarText). GiveAll p (asked_of_variables (written_variables_of vs)) p
    × (map variable_of c.add_variables.new.variables.items
    ≡ map variable_of c.in_ok-variables.variables.items
    ++ scope_from p (length c.in_ok-variables.variables.items) (written_variables_of vs)))
    c.as_slice-2.ensures.value (c.in_ok-add_variables.ensures p same) in
    let all =
    scope_behind p variables (written_variables_of c.args.group.now.variables.items) (map variable_of c.in_ok-variables.variables.items)
    (length c.in_ok-variables.variables.items) (map variable_of c.add_variables.new.variables.items)
    (c.in_ok-variables.ensures ∙ ap (λ (vs : List CodeVariable). map variable_of vs) c.as_slice.ensures.value ∙ are)
    (sym (length-map c.in_ok-variables.variables.items variable_of)) added.1 in
    let kept : map variable_of c.in_ok-room.field-0.variables.items
    ≡ scope_from p 0 (variables ++ written_variables_of c.args.group.now.variables.items)
    = ap (λ (v : Vec CodeVariable Global). map variable_of v.items) c.in_ok-room.ensures ∙ all in
    scope_given p variables c.args.group.now c.over-2.result same given here.0 here.1 added.0 c.over-2.ensures.sort
    (ap (λ (vs : List CodeVariable). map variable_of vs) c.over-2.ensures.variables ∙ kept)
    (ap variables_in c.over-2.ensures.scope ∙ c.in_ok-room.field-0.same ∙ kept)
