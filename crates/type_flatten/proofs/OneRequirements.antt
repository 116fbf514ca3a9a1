-- Types have one list of requirements.
use Rattle.std.proofs.Common.{refl, ap, sym, ◌∙◌, ◌≡◌, subst, ℕ, List, [], ◌∷◌, ◌++◌}
use Rattle.std.proofs.lemmas.Bool.{both_ways}
use Rattle.lotos_base.specs.Equation.{Equation}
use Rattle.lotos_base.specs.Term.{Term}
use Rattle.syntax_trees.specs.WrittenItem.{WrittenTypeBody, extends, renames, actualises}
use Rattle.type_definitions.specs.DeclaredTypes.{DeclaredType, mention_graph}
use Rattle.type_definitions.specs.Presentation.{Presentation}
use Rattle.type_definitions.specs.DeclaredEquations.{AskedEquation, EquationQuestion, IsSide, scope_of, equation_of_sides}
use Rattle.type_definitions.specs.Flattened.{types_at}
use Rattle.type_definitions.specs.FormalEquations.{AreOwnFormals, no_more_formals, sort_passed, premised_passed, formal_kept, has_premisses, FlattenedType, mentioned_in, mentioned_formals, AreFormalsOf}
use Rattle.type_definitions.specs.Requirements.{flattened_with, HaveFormals, all_have_formals, next_has_formals, requirements_of, AreRequirements}
use Rattle.type_flatten.specs.FlatteningOutcomes.{RequirementsAreOne}
use Rattle.type_flatten.proofs.OneOrder.{order_once}
use Rattle.type_flatten.proofs.OneReading.{equations_are_decided, side_once}
use Rattle.type_flatten.proofs.OneOutcome.{presented_once}

-- ---- Formal equations

kept_once : (p : Presentation) (a : AskedEquation) (left right one two : Term) → IsSide p a a.equation.left left
    → IsSide p a a.equation.right right → IsSide p a a.equation.left one → IsSide p a a.equation.right two
    → equation_of_sides a.equation.place (scope_of p a) left right ≡ equation_of_sides a.equation.place (scope_of p a) one two
kept_once p a left right one two is also is_one is_two =
    ap (λ (t : Term). equation_of_sides a.equation.place (scope_of p a) t right) (side_once p a a.equation.left left one is is_one)
    ∙ ap (λ (t : Term). equation_of_sides a.equation.place (scope_of p a) one t) (side_once p a a.equation.right right two also is_two)

own_once : {p : Presentation} {asked : List EquationQuestion} {one other : List Equation} → AreOwnFormals p asked one
    → AreOwnFormals p asked other → one ≡ other
own_once no_more_formals no_more_formals = refl
own_once (sort_passed place name asked own rest) (sort_passed _ _ _ _ also) = own_once rest also
own_once (premised_passed a asked own is rest) (premised_passed _ _ _ _ also) = own_once rest also
own_once (premised_passed a asked own is rest) (formal_kept _ left right _ _ not _ _ _) =
    absurd (both_ways (has_premisses a.equation.premisses) not is)
own_once (formal_kept a left right asked own not _ _ _) (premised_passed _ _ _ is _) =
    absurd (both_ways (has_premisses a.equation.premisses) not is)
own_once {p = p} (formal_kept a left right asked own not is also rest) (formal_kept _ one two _ more _ is_one is_two too) =
    ap (λ (e : Equation). e ∷ own) (kept_once p a left right one two is also is_one is_two)
    ∙ ap (λ (es : List Equation). equation_of_sides a.equation.place (scope_of p a) one two ∷ es) (own_once rest too)

formals_once : (done : List FlattenedType) (p : Presentation) (body : WrittenTypeBody) (one other : List Equation)
    → AreFormalsOf done p body one → AreFormalsOf done p body other → one ≡ other
formals_once done p (extends imports sections) one other is also =
    sym is.2 ∙ ap (λ (own : List Equation). (mentioned_formals done imports).formals ++ own) (own_once is.1 also.1) ∙ also.2
formals_once done p (renames base pairs) one other is also = sym is ∙ also
formals_once done p (actualises base actuals pairs) one other is also = sym is ∙ also

-- ---- All types in their order

abbrev grown : List FlattenedType → DeclaredType → Presentation → List Equation → List FlattenedType
grown done t p formals = done ++ flattened_with done t p formals ∷ []

-- the formal equations of one presentation are those of the same one
formals_over : (done : List FlattenedType) (body : WrittenTypeBody) (p q : Presentation) (one other : List Equation) → q ≡ p
    → AreFormalsOf done p body one → AreFormalsOf done q body other → other ≡ one
formals_over done body p q one other same is also =
    formals_once done p body other one (subst (λ (r : Presentation). AreFormalsOf done r body other) same also) is

all_once : {done one other : List FlattenedType} {types : List DeclaredType} → HaveFormals done types one → HaveFormals done types other
    → one ≡ other
all_once (all_have_formals done) (all_have_formals _) = refl
all_once {other = last} (next_has_formals done all t ts p formals is are rest) (next_has_formals _ _ _ _ q more also too later) =
    let same : q ≡ p = presented_once equations_are_decided (mentioned_in done) t.name t.body q p also is in
    all_once rest
    (subst (λ (r : Presentation). HaveFormals (grown done t r formals) ts last) same
    (subst (λ (es : List Equation). HaveFormals (grown done t q es) ts last)
    (formals_over done t.body p q formals more same are too) later))

pub requirements_are_one : RequirementsAreOne
requirements_are_one types one other is also =
    let orders : also.order ≡ is.order = order_once (mention_graph types) also.order is.order also.ordered is.ordered in
    let all : is.all ≡ also.all =
    all_once is.have (subst (λ (order : List ℕ). HaveFormals [] (types_at types order) also.all) orders also.have) in
    sym is.are ∙ ap (λ (ts : List FlattenedType). requirements_of ts) all ∙ also.are
