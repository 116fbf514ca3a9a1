-- What holds over a presentation holds over another one of the same signature; two sides that were read make an equation over it.
use Rattle.std.proofs.Common.{◌≡◌, ℕ, suc, List, [], ◌∷◌, ◌++◌, map, length, refl, ap, sym, ◌∙◌, subst}
use Rattle.std.specs.Prelude.{true, false, Option, None, Some}
use Rattle.std.specs.Option.{option_map}
use Rattle.lotos_base.specs.WrittenView.{text_place_of}
use Rattle.lotos_base.specs.declared.places.Place.{Place as CodePlace}
use Rattle.lotos_base.specs.WrittenTerm.{WrittenTerm, written_head}
use Rattle.lotos_base.specs.Signature.{Signature}
use Rattle.lotos_base.specs.Equation.{Place, Variable, Equation, IsEquationOver}
use Rattle.lotos_base.specs.Term.{Term}
use Rattle.syntax_trees.specs.TreeViews.{written_equation_of, written_variables_of}
use Rattle.syntax_trees.specs.WrittenEquation.{WrittenEquation}
use Rattle.syntax_trees.specs.declared.equations.EqText.{EqText}
use Rattle.syntax_trees.specs.declared.equations.EqnsText.{EqnsText}
use Rattle.syntax_trees.specs.declared.named.VarText.{VarText}
use Rattle.syntax_trees.specs.WrittenVariable.{WrittenVariable}
use Rattle.sort_terms.specs.EquationView.{variable_of}
use Rattle.sort_terms.specs.Reading.{Reads, IsScopeOver}
use Rattle.sort_terms.specs.ReadingOutcome.{ReadingRefusal, answered, ComesTo, IsReading, unknown_in, is_sort_name}
use Rattle.sort_terms.specs.ScopeView.{variables_in}
use Rattle.sort_terms.specs.SortedView.{term_in}
use Rattle.sort_terms.specs.declared.equations.Variable.{Variable as CodeVariable}
use Rattle.sort_terms.specs.declared.sorted.Sorted.{Sorted}
use Rattle.type_definitions.specs.Presentation.{Presentation, is_too_large}
use Rattle.type_definitions.specs.TypeFault.{premised, too_large}
use Rattle.type_definitions.specs.Declarations.{sort_numbered}
use Rattle.type_definitions.specs.DeclaredEquations.{AskedEquation, sort_asked, GiveAll, none_asked, next_gives, sort_is_there, asked_of_variables, scope_from, scope_of, IsSide, equation_of_sides, with_equation, with_sides, GivesPresentation, QuestionHasFault, own_asked, own_is_read, own_has_premisses, one_too_many}
use Rattle.type_equations.proofs.OverLemmas.{sides_over, scopes_numbered}
use Rattle.type_equations.specs.ScopeFor.{IsScopeFor}
use Rattle.type_equations.specs.declared.equation_scope.EquationScope.{EquationScope}
use Rattle.type_equations.specs.SectionScope.{IsSectionFor, AreSides}

-- ---- Another presentation of the same signature.

sort_over : (p q : Presentation) (name : List ℕ) → q.signature ≡ p.signature → sort_numbered q name ≡ sort_numbered p name
sort_over p q name same = ap (λ (s : Signature). sort_number s name) same
  where
    sort_number : Signature → List ℕ → ℕ
    sort_number s wanted =
        sort_numbered (record { signature = s; equations = []; formal_sorts = []; formal_operations = [] }) wanted

scope_over : (p q : Presentation) (n : ℕ) (vs : List WrittenVariable) → q.signature ≡ p.signature → scope_from q n vs ≡ scope_from p n vs
scope_over p q n [] same = refl
scope_over p q n (v ∷ vs) same =
    ap (λ (s : ℕ). row s ∷ scope_from q (suc n) vs) (sort_over p q v.sort same)
    ∙ ap (λ (us : List Variable). row (sort_numbered p v.sort) ∷ us) (scope_over p q (suc n) vs same)
  where
    row : ℕ → Variable
    row s = record { name = v.name; number = n; sort = s }

pub variables_over : (p q : Presentation) (vs : List WrittenVariable) → q.signature ≡ p.signature → GiveAll p (asked_of_variables vs) p
    → GiveAll q (asked_of_variables vs) q
variables_over p q [] same given = none_asked q
variables_over p q (v ∷ vs) same (next_gives _ _ _ _ _ (sort_is_there _ _ there) rest) =
    next_gives q q q (sort_asked v.sort_place v.sort) (asked_of_variables vs)
    (sort_is_there v.sort_place v.sort (ap (λ (s : Signature). is_sort_name s v.sort) same ∙ there))
    (variables_over p q vs same rest)

pub section_over : (p q : Presentation) (written : List WrittenVariable) (signature : Signature) (section : List CodeVariable)
    → q.signature ≡ p.signature → IsSectionFor p written signature section → IsSectionFor q written signature section
section_over p q written signature section same is = record {
  same = same ∙ is.same;
  given = variables_over p q written same is.given;
  variables_are = is.variables_are ∙ sym (scope_over p q 0 written same);
}

pub scope_for_over : (p q : Presentation) (variables : List WrittenVariable) (sort : List ℕ) (scope : EquationScope)
    → q.signature ≡ p.signature → IsScopeFor p variables sort scope → IsScopeFor q variables sort scope
scope_for_over p q variables sort scope same is = record {
  variables_are = is.variables_are ∙ sym (scope_over p q 0 variables same);
  scope_is = is.scope_is ∙ sym (scope_over p q 0 variables same);
  over = subst (λ (s : Signature). IsScopeOver s (variables_in scope.scope.now)) (sym same) is.over;
  sort_is = is.sort_is ∙ sym (sort_over p q sort same);
}

-- ---- Two sides.

-- a side is read at the sort of its group
pub side_reads : (p : Presentation) (asked : AskedEquation) (side : WrittenTerm) (t : Term) → IsSide p asked side t
    → Reads p.signature (scope_of p asked) side t (sort_numbered p asked.sort)
side_reads p asked side t is =
    go (unknown_in p.signature (scope_of p asked) side) is.1
  where
    at : ℕ
    at = sort_numbered p asked.sort

    go : (refusals : List ReadingRefusal)
        → ComesTo refusals (written_head side).place (IsReading p.signature (scope_of p asked) side (Some at)) (answered is.0)
        → Reads p.signature (scope_of p asked) side t at
    go [] only =
        subst (λ (u : Term). Reads p.signature (scope_of p asked) side u at) is.2
        (subst (λ (s : ℕ). Reads p.signature (scope_of p asked) side is.0.term s) only.is_answer.1 only.is_answer.0)
    go (first ∷ rest) none = absurd none

pub sides_are_over : (p : Presentation) (asked : AskedEquation) (scope : EquationScope) (place : Place) (left right : Sorted)
    → IsScopeFor p asked.variables asked.sort scope → AreSides p asked left right
    → IsEquationOver p.signature (equation_of_sides place (scope_of p asked) (term_in left) (term_in right))
sides_are_over p asked scope place left right is sides =
    sides_over p.signature (scope_of p asked) place asked.equation.left asked.equation.right (term_in left) (term_in right)
    (sort_numbered p asked.sort)
    (subst (λ (vs : List Variable). IsScopeOver p.signature vs) is.scope_is is.over)
    (scopes_numbered p asked.variables)
    (side_reads p asked asked.equation.left (term_in left) sides.left_is)
    (side_reads p asked asked.equation.right (term_in right) sides.right_is)

-- the equation that was made of them
pub made_over : (p : Presentation) (asked : AskedEquation) (scope : EquationScope) (place : Place) (left right : Sorted) (e : Equation)
    → IsScopeFor p asked.variables asked.sort scope → AreSides p asked left right
    → e ≡ equation_of_sides place (map variable_of scope.variables.now) (term_in left) (term_in right)
    → IsEquationOver p.signature e
made_over p asked scope place left right e is sides made =
    subst (λ (d : Equation). IsEquationOver p.signature d) (sym (made ∙ over_scope p asked scope place left right is))
    (sides_are_over p asked scope place left right is sides)
  where
    over_scope : (p : Presentation) (asked : AskedEquation) (scope : EquationScope) (place : Place) (left right : Sorted)
        → IsScopeFor p asked.variables asked.sort scope
        → equation_of_sides place (map variable_of scope.variables.now) (term_in left) (term_in right)
        ≡ equation_of_sides place (scope_of p asked) (term_in left) (term_in right)
    over_scope p asked scope place left right is =
        ap (λ (vs : List Variable). equation_of_sides place vs (term_in left) (term_in right)) is.variables_are

pub grown_with_sides : (p q : Presentation) (asked : AskedEquation) (scope : EquationScope) (place : Place) (left right : Sorted)
    (e : Equation)
    → IsScopeFor p asked.variables asked.sort scope → asked.equation.place ≡ place
    → e ≡ equation_of_sides place (map variable_of scope.variables.now) (term_in left) (term_in right)
    → q ≡ with_equation p e → q ≡ with_sides p asked (term_in left) (term_in right)
grown_with_sides p q asked scope place left right e is at made grown =
    grown ∙ ap (λ (d : Equation). with_equation p d) made
    ∙ ap (λ (vs : List Variable). with_equation p (equation_of_sides place vs (term_in left) (term_in right))) is.variables_are
    ∙ ap (λ (pl : Place). with_equation p (equation_of_sides pl (scope_of p asked) (term_in left) (term_in right))) (sym at)

-- ---- The variables of a section.

pub sorts_given : (p : Presentation) (s : EqnsText) (texts : List VarText) → texts ≡ s.variables.items
    → GiveAll p (asked_of_variables (written_variables_of texts)) p
    → GiveAll p (asked_of_variables (written_variables_of s.variables.items)) p
sorts_given p s texts are given = subst (λ (vs : List VarText). GiveAll p (asked_of_variables (written_variables_of vs)) p) are given

pub section_is : (p : Presentation) (signature : Signature) (s : EqnsText) (old new : List CodeVariable) (texts : List VarText)
    (section : List CodeVariable) → old ≡ [] → texts ≡ s.variables.items → section ≡ new → p.signature ≡ signature
    → GiveAll p (asked_of_variables (written_variables_of texts)) p
    × (map variable_of new ≡ map variable_of old ++ scope_from p (length old) (written_variables_of texts))
    → IsSectionFor p (written_variables_of s.variables.items) signature section
section_is p signature s old new texts section none are is same added = record {
  same = same;
  given = subst (λ (vs : List VarText). GiveAll p (asked_of_variables (written_variables_of vs)) p) are added.0;
  variables_are =
      ap (λ (vs : List CodeVariable). map variable_of vs) is ∙ added.1
      ∙ ap (λ (vs : List CodeVariable). map variable_of vs ++ scope_from p (length vs) (written_variables_of texts)) none
      ∙ ap (λ (vs : List VarText). scope_from p 0 (written_variables_of vs)) are;
}

-- ---- An equation of the type's own.

pub premised_here : (p : Presentation) (type_name : List ℕ) (asked : AskedEquation) (e : EqText) (arrow : CodePlace)
    → asked.equation ≡ written_equation_of e → e.arrow ≡ Some arrow
    → QuestionHasFault p type_name (own_asked asked) (premised (text_place_of arrow))
premised_here p type_name asked e arrow is there =
    own_has_premisses asked (text_place_of arrow)
    (ap (λ (d : WrittenEquation). d.arrow) is ∙ ap (λ (o : Option CodePlace). option_map text_place_of o) there)

pub no_arrow : (asked : AskedEquation) (e : EqText) → asked.equation ≡ written_equation_of e → e.arrow ≡ None → asked.equation.arrow ≡ None
no_arrow asked e is none =
    ap (λ (d : WrittenEquation). d.arrow) is ∙ ap (λ (o : Option CodePlace). option_map text_place_of o) none

-- its place
pub place_is : (asked : AskedEquation) (e : EqText) → asked.equation ≡ written_equation_of e → asked.equation.place ≡ text_place_of e.place
place_is asked e is = ap (λ (d : WrittenEquation). d.place) is

pub own_given : (p q : Presentation) (asked : AskedEquation) (left right : Term) → asked.equation.arrow ≡ None
    → IsSide p asked asked.equation.left left → IsSide p asked asked.equation.right right → q ≡ with_sides p asked left right
    → is_too_large q ≡ false → GivesPresentation p (own_asked asked) q
own_given p q asked left right none one other is fits =
    subst (λ (x : Presentation). GivesPresentation p (own_asked asked) x) (sym is)
    (own_is_read asked left right none one other (ap (λ (x : Presentation). is_too_large x) (sym is) ∙ fits))

pub own_too_many : (p q : Presentation) (type_name : List ℕ) (asked : AskedEquation) (left right : Term) (place : Place) (name : List ℕ)
    → asked.equation.arrow ≡ None
    → IsSide p asked asked.equation.left left → IsSide p asked asked.equation.right right → q ≡ with_sides p asked left right
    → is_too_large q ≡ true → asked.equation.place ≡ place → name ≡ type_name
    → QuestionHasFault p type_name (own_asked asked) (too_large place name)
own_too_many p q type_name asked left right place name none one other is many at named =
    subst (λ (n : List ℕ). QuestionHasFault p type_name (own_asked asked) (too_large place n)) (sym named)
    (subst (λ (pl : Place). QuestionHasFault p type_name (own_asked asked) (too_large pl type_name)) at
    (one_too_many asked left right none one other (ap (λ (x : Presentation). is_too_large x) (sym is) ∙ many)))
