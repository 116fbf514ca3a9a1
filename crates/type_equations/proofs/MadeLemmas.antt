-- Equations of two sides, put together from what was made of them.
use Rattle.std.proofs.Common.{◌≡◌, ℕ, List, [], ap, sym, ◌∙◌, subst}
use Rattle.std.specs.Prelude.{nat_eq}
use Rattle.lotos_base.specs.Signature.{Signature}
use Rattle.lotos_base.specs.Term.{Term as PlainTerm}
use Rattle.lotos_base.specs.Equation.{Place, Variable, Equation}
use Rattle.sort_terms.specs.ProfiledTerm.{ProfiledTerm, bare, IsOf}
use Rattle.sort_terms.specs.TermView.{term_of}
use Rattle.sort_terms.specs.declared.terms.Term.{Term}
use Rattle.type_definitions.specs.Presentation.{with_new}
use Rattle.type_definitions.specs.DeclaredEquations.{numbers_in_term, appearing, renumbered, declared_from, equation_of_sides}
use Rattle.type_equations.specs.ProfiledNumbering.{profiled_renumbered}
use Rattle.type_equations.proofs.CollectLemmas.{new_twice}
use Rattle.type_equations.proofs.NumberingLemmas.{numbered_bare, numbered_of}

-- the order in which the variables of two sides appear
pub order_is : (none one both : List ℕ) (l r left right : Term) → none ≡ [] → l ≡ left → r ≡ right
    → one ≡ with_new nat_eq none (numbers_in_term (term_of l)) → both ≡ with_new nat_eq one (numbers_in_term (term_of r))
    → both ≡ appearing (term_of left) (term_of right)
order_is none one both l r left right empty l-is r-is first second =
    second ∙ ap (λ (ns : List ℕ). with_new nat_eq ns (numbers_in_term (term_of r))) first
    ∙ ap (λ (ns : List ℕ). with_new nat_eq (with_new nat_eq ns (numbers_in_term (term_of l))) (numbers_in_term (term_of r))) empty
    ∙ ap (λ (t : Term). with_new nat_eq (with_new nat_eq [] (numbers_in_term (term_of t))) (numbers_in_term (term_of r))) l-is
    ∙ ap (λ (t : Term). with_new nat_eq (with_new nat_eq [] (numbers_in_term (term_of left))) (numbers_in_term (term_of t))) r-is
    ∙ sym (new_twice [] (numbers_in_term (term_of left)) (numbers_in_term (term_of right)))

abbrev equation_with : Place → List Variable → PlainTerm → PlainTerm → Equation
equation_with place variables left right = record { place = place; variables = variables; left = left; right = right }

pub equation_is : (place : Place) (scope variables : List Variable) (order : List ℕ) (left right one other : ProfiledTerm)
    → order ≡ appearing (bare left) (bare right) → variables ≡ declared_from scope 0 order → one ≡ profiled_renumbered order left
    → other ≡ profiled_renumbered order right
    → equation_with place variables (bare one) (bare other) ≡ equation_of_sides place scope (bare left) (bare right)
equation_is place scope variables order left right one other is declared one-is other-is =
    let first : bare one ≡ renumbered order (bare left) = ap bare one-is ∙ numbered_bare order left in
    let second : bare other ≡ renumbered order (bare right) = ap bare other-is ∙ numbered_bare order right in
    ap (λ (vs : List Variable). equation_with place vs (bare one) (bare other)) declared
    ∙ ap (λ (t : PlainTerm). equation_with place (declared_from scope 0 order) t (bare other)) first
    ∙ ap (λ (t : PlainTerm). equation_with place (declared_from scope 0 order) (renumbered order (bare left)) t) second
    ∙ ap (λ (ns : List ℕ). equation_with place (declared_from scope 0 ns) (renumbered ns (bare left)) (renumbered ns (bare right))) is

pub side_is_of : (order : List ℕ) (side one : ProfiledTerm) (signature : Signature) → one ≡ profiled_renumbered order side
    → IsOf signature side → IsOf signature one
side_is_of order side one signature is of = subst (λ (t : ProfiledTerm). IsOf signature t) (sym is) (numbered_of signature order side of)
