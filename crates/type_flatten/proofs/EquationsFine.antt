-- Equations that a type declares without a fault.
use Rattle.std.proofs.Common.{◌≡◌, ℕ, Bool, true, false, List, [], ◌∷◌, ◌++◌, map, refl, subst}
use Rattle.std.specs.List.{flat_map}
use Rattle.syntax_trees.specs.WrittenVariable.{WrittenVariable}
use Rattle.syntax_trees.specs.WrittenEquation.{WrittenEquation, WrittenGroup, WrittenEquations}
use Rattle.syntax_trees.specs.WrittenItem.{WrittenSections}
use Rattle.type_definitions.specs.Presentation.{Presentation}
use Rattle.type_definitions.specs.Declarations.{sort_numbered}
use Rattle.type_definitions.specs.DeclaredEquations.{EquationQuestion, AskedEquation, formal_asked, own_asked, equation_asked, asked_of_variables, asked_of_group, asked_of_section, GivesPresentation, sort_is_there, formal_is_read, own_is_read, GiveAll, none_asked, next_gives, scope_of, equation_of_sides}
use Rattle.type_definitions.specs.Extension.{asked_of}
use Rattle.type_presentations.proofs.GrowthLemmas.{data_with_equation}
use Rattle.type_actualisation.proofs.HandedOn.{gives_same, give_all_same}
use Rattle.type_actualisation.proofs.HandedOn.{sides_over, scopes_numbered}
use Rattle.type_actualisation.proofs.HandedOn.{sorts_there, give_both}
use Rattle.type_actualisation.proofs.HandedOn.{variables_over, side_reads}
use Rattle.type_flatten.specs.FlattenedData.{IsFine}

-- ---- One after another.

split : (p r : Presentation) (xs ys : List EquationQuestion) → GiveAll p (xs ++ ys) r → (q : Presentation) × GiveAll p xs q × GiveAll q ys r
split p r [] ys given = (p, none_asked p, given)
split p r (a ∷ xs) ys (next_gives _ s _ _ _ one rest) =
    let parts = split s r xs ys rest in (parts.0, next_gives p s parts.0 a xs one parts.1, parts.2)

-- questions for sorts leave all as it is
variables_same : (p q : Presentation) (vs : List WrittenVariable) → GiveAll p (asked_of_variables vs) q → q ≡ p
variables_same p q [] (none_asked _) = refl
variables_same p q (v ∷ vs) (next_gives _ _ _ _ _ (sort_is_there _ _ _) rest) = variables_same p q vs rest

variables_given : (p q : Presentation) (vs : List WrittenVariable) → GiveAll p (asked_of_variables vs) q
    → GiveAll p (asked_of_variables vs) p
variables_given p q vs given =
    subst (λ (x : Presentation). GiveAll p (asked_of_variables vs) x) (variables_same p q vs given) given

-- ---- One equation.

own_fine : (p q : Presentation) (asked : AskedEquation) → IsFine p → GiveAll p (asked_of_variables asked.variables) p
    → GivesPresentation p (own_asked asked) q → IsFine q
own_fine p q asked fine there (own_is_read _ left right _ one other _) =
    data_with_equation p.signature p.equations (equation_of_sides asked.equation.place (scope_of p asked) left right) fine
    (sides_over p.signature (scope_of p asked) asked.equation.place asked.equation.left asked.equation.right left right
    (sort_numbered p asked.sort) (sorts_there p 0 asked.variables there) (scopes_numbered p asked.variables)
    (side_reads p asked asked.equation.left left one) (side_reads p asked asked.equation.right right other))

formal_fine : (p q : Presentation) (asked : AskedEquation) → IsFine p → GivesPresentation p (formal_asked asked) q → IsFine q
formal_fine p q asked fine (formal_is_read _ _ _ _ _ _) = fine

equation_fine : (p q : Presentation) (is_formal : Bool) (asked : AskedEquation) → IsFine p
    → GiveAll p (asked_of_variables asked.variables) p → GivesPresentation p (equation_asked is_formal asked) q → IsFine q
equation_fine p q true asked fine there given = formal_fine p q asked fine given
equation_fine p q false asked fine there given = own_fine p q asked fine there given

-- ---- Groups and sections.

abbrev asked_in : List WrittenVariable → List ℕ → WrittenEquation → AskedEquation
asked_in variables sort equation = record { variables = variables; sort = sort; equation = equation }

equations_fine : (p q : Presentation) (is_formal : Bool) (vs : List WrittenVariable) (sort : List ℕ) (es : List WrittenEquation)
    → IsFine p → GiveAll p (asked_of_variables vs) p
    → GiveAll p (map (λ (e : WrittenEquation). equation_asked is_formal (asked_in vs sort e)) es) q → IsFine q
equations_fine p q is_formal vs sort [] fine there (none_asked _) = fine
equations_fine p q is_formal vs sort (e ∷ es) fine there (next_gives _ s _ _ _ one rest) =
    equations_fine s q is_formal vs sort es (equation_fine p s is_formal (asked_in vs sort e) fine there one)
    (variables_over p s vs (gives_same p s (equation_asked is_formal (asked_in vs sort e)) one) there) rest

abbrev group_equations : Bool → List WrittenVariable → WrittenGroup → List EquationQuestion
group_equations is_formal vs group =
    map (λ (e : WrittenEquation). equation_asked is_formal (asked_in (vs ++ group.variables) group.sort e)) group.equations

group_fine : (p q : Presentation) (is_formal : Bool) (vs : List WrittenVariable) (group : WrittenGroup) → IsFine p
    → GiveAll p (asked_of_variables vs) p → GiveAll p (asked_of_group is_formal vs group) q → IsFine q
group_fine p q is_formal vs group fine there (next_gives _ _ _ _ _ (sort_is_there _ _ _) rest) =
    let parts = split p q (asked_of_variables group.variables) (group_equations is_formal vs group) rest in
    equations_fine p q is_formal (vs ++ group.variables) group.sort group.equations fine
    (give_both p vs group.variables there (variables_given p parts.0 group.variables parts.1))
    (subst (λ (x : Presentation). GiveAll x (group_equations is_formal vs group) q) (variables_same p parts.0 group.variables parts.1)
    parts.2)

groups_fine : (p q : Presentation) (is_formal : Bool) (vs : List WrittenVariable) (groups : List WrittenGroup) → IsFine p
    → GiveAll p (asked_of_variables vs) p → GiveAll p (flat_map (asked_of_group is_formal vs) groups) q → IsFine q
groups_fine p q is_formal vs [] fine there (none_asked _) = fine
groups_fine p q is_formal vs (group ∷ groups) fine there given =
    let parts = split p q (asked_of_group is_formal vs group) (flat_map (asked_of_group is_formal vs) groups) given in
    groups_fine parts.0 q is_formal vs groups (group_fine p parts.0 is_formal vs group fine there parts.1)
    (variables_over p parts.0 vs (give_all_same p parts.0 (asked_of_group is_formal vs group) parts.1) there) parts.2

section_fine : (p q : Presentation) (is_formal : Bool) (section : WrittenEquations) → IsFine p
    → GiveAll p (asked_of_section is_formal section) q → IsFine q
section_fine p q is_formal section fine given =
    let groups = flat_map (asked_of_group is_formal section.variables) section.groups in
    let parts = split p q (asked_of_variables section.variables) groups given in
    groups_fine p q is_formal section.variables section.groups fine (variables_given p parts.0 section.variables parts.1)
    (subst (λ (x : Presentation). GiveAll x groups q) (variables_same p parts.0 section.variables parts.1) parts.2)

pub equations_are_fine : (p q : Presentation) (sections : WrittenSections) → IsFine p → GiveAll p (asked_of sections) q → IsFine q
equations_are_fine p q sections fine given =
    let parts = split p q (asked_of_section true sections.formal_equations) (asked_of_section false sections.equations) given in
    section_fine parts.0 q false sections.equations
    (section_fine p parts.0 true sections.formal_equations fine parts.1) parts.2
