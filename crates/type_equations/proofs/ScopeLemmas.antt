-- The scope of a group whose variables are in it behind those of the section.
use Rattle.std.proofs.Common.{◌≡◌, ◌++◌, ℕ, true, List, map, ap, sym, ◌∙◌}
use Rattle.std.specs.Prelude.{slice_get}
use Rattle.lotos_base.specs.Name.{spelling}
use Rattle.lotos_base.specs.WrittenView.{text_place_of}
use Rattle.lotos_base.specs.Equation.{Variable}
use Rattle.lotos_base.specs.Signature.{Signature}
use Rattle.syntax_trees.specs.TreeViews.{group_of, written_variables_of}
use Rattle.syntax_trees.specs.WrittenVariable.{WrittenVariable}
use Rattle.syntax_trees.specs.declared.equations.GroupText.{GroupText}
use Rattle.sort_terms.specs.EquationView.{variable_of}
use Rattle.sort_terms.specs.ReadingOutcome.{is_sort_name}
use Rattle.sort_terms.specs.ScopeView.{variables_in}
use Rattle.type_definitions.specs.Presentation.{Presentation}
use Rattle.type_definitions.specs.Declarations.{sort_numbered}
use Rattle.type_definitions.specs.DeclaredEquations.{GiveAll, next_gives, sort_asked, sort_is_there, asked_of_variables, scope_from}
use Rattle.type_equations.specs.ScopeFor.{IsScopeFor, sorts_asked}
use Rattle.type_equations.specs.declared.equation_scope.EquationScope.{EquationScope}
use Rattle.type_equations.proofs.AskedLemmas.{give_both, sorts_there}

pub scope_given : (p : Presentation) (variables : List WrittenVariable) (g : GroupText) (scope : EquationScope) {signature : Signature}
    {sort : ℕ}
    → p.signature ≡ signature → GiveAll p (asked_of_variables variables) p → is_sort_name p.signature (spelling g.sort) ≡ true
    → sort ≡ sort_numbered p (spelling g.sort) → GiveAll p (asked_of_variables (written_variables_of g.variables.items)) p
    → scope.sort ≡ sort → map variable_of scope.variables.now ≡ scope_from p 0 (variables ++ written_variables_of g.variables.items)
    → variables_in scope.scope.now ≡ scope_from p 0 (variables ++ written_variables_of g.variables.items)
    → GiveAll p (sorts_asked (group_of g)) p × IsScopeFor p (variables ++ written_variables_of g.variables.items) (spelling g.sort) scope
scope_given p variables g scope same given there at own sort_is all named = (
  next_gives p p p (sort_asked (text_place_of g.place) (spelling g.sort)) (asked_of_variables (written_variables_of g.variables.items))
      (sort_is_there (text_place_of g.place) (spelling g.sort) there) own,
  record {
    variables_are = all;
    scope_is = named;
    over = λ i v found.
        sorts_there p 0 (variables ++ written_variables_of g.variables.items)
        (give_both p variables (written_variables_of g.variables.items) given own) i v
        (ap (λ (vs : List Variable). slice_get vs i) (sym named) ∙ found);
    sort_is = sort_is ∙ at;
  },
)
