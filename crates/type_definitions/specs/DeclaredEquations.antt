-- The equations that a type declares itself: formal ones are checked alone, own ones are read. Each side has one reading at
-- the sort of its `ofsort`.
use Rattle.std.specs.Prelude.{◌≡◌, ◌⊎◌, ℕ, suc, Bool, true, false, ◌&&◌, nat_eq, List, [], ◌∷◌, ◌++◌, map, flat_map, Option, None, Some, slice_get, length, codes}
use Rattle.std.specs.List.{list_any}
use Rattle.lotos_base.specs.WrittenTerm.{WrittenTerm, written_head}
use Rattle.lotos_base.specs.Signature.{Operation, prefix_form}
use Rattle.lotos_base.specs.Equation.{Place, Variable, Equation}
use Rattle.lotos_base.specs.Term.{Term, Terms, variable, node, no_terms, term_then}
use Rattle.lotos_base.specs.Twins.{form_eq}
use Rattle.syntax_trees.specs.WrittenVariable.{WrittenVariable}
use Rattle.syntax_trees.specs.WrittenEquation.{WrittenPremiss, WrittenEquation, WrittenGroup, WrittenEquations}
use Rattle.sort_terms.specs.ReadingOutcome.{ReadingRefusal, unknown_name as name_unknown, unknown_sort as sort_unknown, no_reading as none_read, two_readings as two_read, answered, refused, SortedTerm, SortedPair, ReadingIs, PairReadingIs, one_name, is_sort_name}
use Rattle.type_definitions.specs.TypeFault.{TypeFault, unknown_sort, premised, unknown_name, no_reading, two_readings, too_large}
use Rattle.type_definitions.specs.Presentation.{Presentation, with_new, first_position, is_too_large}
use Rattle.type_definitions.specs.Declarations.{sort_numbered}

-- ---- What is asked, in text order.

-- an equation with the variables in scope and the name of its sort
pub record AskedEquation : Type 0 where
  pub variables : List WrittenVariable
  pub sort : List ℕ
  pub equation : WrittenEquation

-- a sort that has to be there, at its place; a formal equation, or one of the type's own
pub data EquationQuestion : Type 0 where
  sort_asked : Place → List ℕ → EquationQuestion
  formal_asked own_asked : AskedEquation → EquationQuestion

-- the sorts of variables
abbrev pub asked_of_variables : List WrittenVariable → List EquationQuestion
asked_of_variables variables = map (λ (v : WrittenVariable). sort_asked v.sort_place v.sort) variables

-- an equation, formal or not
abbrev pub equation_asked : Bool → AskedEquation → EquationQuestion
equation_asked true equation = formal_asked equation
equation_asked false equation = own_asked equation

-- a group: its sort, the sorts of its `forall`, its equations; its variables come behind those of the section
abbrev pub asked_of_group : Bool → List WrittenVariable → WrittenGroup → List EquationQuestion
asked_of_group is_formal variables group =
    sort_asked group.place group.sort
    ∷ (asked_of_variables group.variables
    ++ map
    (λ (e : WrittenEquation).
    equation_asked is_formal (record { variables = variables ++ group.variables; sort = group.sort; equation = e }))
    group.equations)

-- a section: the sorts of its `forall`, then its groups
abbrev pub asked_of_section : Bool → WrittenEquations → List EquationQuestion
asked_of_section is_formal section =
    asked_of_variables section.variables ++ flat_map (asked_of_group is_formal section.variables) section.groups

-- ---- Scopes and readings.

-- the variables in scope, numbered by position from this number on
abbrev pub scope_from : Presentation → ℕ → List WrittenVariable → List Variable
scope_from p number [] = []
scope_from p number (v ∷ vs) =
    record { name = v.name; number = number; sort = sort_numbered p v.sort } ∷ scope_from p (suc number) vs

abbrev pub scope_of : Presentation → AskedEquation → List Variable
scope_of p asked = scope_from p 0 asked.variables

-- the refusal of a term, as a fault
abbrev pub type_fault_of : ReadingRefusal → TypeFault
type_fault_of (name_unknown place) = unknown_name place
type_fault_of (sort_unknown place) = unknown_sort place None
type_fault_of (none_read place) = no_reading place
type_fault_of (two_read place) = two_readings place

-- the term is the one reading of a side
abbrev pub IsSide : Presentation → AskedEquation → WrittenTerm → Term → Type 0
IsSide p asked side t =
    (reading : SortedTerm)
    × ReadingIs p.signature (scope_of p asked) side (Some (sort_numbered p asked.sort)) (answered reading)
    × (reading.term ≡ t)

-- a side is refused with this fault
abbrev pub IsSideFault : Presentation → AskedEquation → WrittenTerm → TypeFault → Type 0
IsSideFault p asked side fault =
    (refusal : ReadingRefusal)
    × ReadingIs p.signature (scope_of p asked) side (Some (sort_numbered p asked.sort)) (refused refusal)
    × (type_fault_of refusal ≡ fault)

-- ---- Premisses of formal equations.

-- the number of `Bool`
abbrev pub bool_sort : Presentation → ℕ
bool_sort p = sort_numbered p (codes "Bool")

-- whether there is a sort `Bool` with a constant `true`
abbrev pub has_truth : Presentation → Bool
has_truth p =
    is_sort_name p.signature (codes "Bool")
    && list_any
    (λ (o : Operation).
    (one_name o.name (codes "true") && form_eq o.form prefix_form) && (nat_eq (length o.arguments) 0 && nat_eq o.result (bool_sort p)))
    p.signature.operations

-- the premiss is one that can be read: two terms of one sort, or one term of the sort `Bool`
abbrev pub IsReadPremiss : Presentation → AskedEquation → WrittenTerm → Option WrittenTerm → Type 0
IsReadPremiss p asked left (Some right) =
    (reading : SortedPair) × PairReadingIs p.signature (scope_of p asked) left right (answered reading)
IsReadPremiss p asked left None =
    (has_truth p ≡ true)
    × ((reading : SortedTerm) × ReadingIs p.signature (scope_of p asked) left (Some (bool_sort p)) (answered reading))

-- the premiss is refused with this fault
abbrev pub IsPremissFault : Presentation → AskedEquation → WrittenTerm → Option WrittenTerm → TypeFault → Type 0
IsPremissFault p asked left (Some right) fault =
    (refusal : ReadingRefusal) × PairReadingIs p.signature (scope_of p asked) left right (refused refusal) × (type_fault_of refusal ≡ fault)
IsPremissFault p asked left None fault =
    ((has_truth p ≡ false) × (fault ≡ no_reading (written_head left).place))
    ⊎ ((has_truth p ≡ true)
    × ((refusal : ReadingRefusal) × ReadingIs p.signature (scope_of p asked) left (Some (bool_sort p)) (refused refusal)
    × (type_fault_of refusal ≡ fault)))

-- each premiss can be read
abbrev pub AreReadPremisses : Presentation → AskedEquation → List WrittenPremiss → Type 0
AreReadPremisses p asked [] = Unit {0}
AreReadPremisses p asked (w ∷ ws) = IsReadPremiss p asked w.left w.right × AreReadPremisses p asked ws

-- the first premiss that cannot be read has this fault
abbrev pub IsFirstPremissFault : Presentation → AskedEquation → List WrittenPremiss → TypeFault → Type 0
IsFirstPremissFault p asked [] fault = ⊥
IsFirstPremissFault p asked (w ∷ ws) fault =
    IsPremissFault p asked w.left w.right fault
    ⊎ (IsReadPremiss p asked w.left w.right × IsFirstPremissFault p asked ws fault)

-- ---- The equation that is answered: its variables are those that occur, numbered from 0 by first appearance.

abbrev mutual
  -- the numbers of the variables in a term, from left to right
  pub numbers_in_term : Term → List ℕ
  numbers_in_term (variable number sort) = number ∷ []
  numbers_in_term (node operation arguments) = variable_numbers_among arguments

  pub variable_numbers_among : Terms → List ℕ
  variable_numbers_among no_terms = []
  variable_numbers_among (term_then t ts) = numbers_in_term t ++ variable_numbers_among ts

-- the numbers of the variables in two sides, each once, by first appearance
abbrev pub appearing : Term → Term → List ℕ
appearing left right = with_new nat_eq [] (numbers_in_term left ++ numbers_in_term right)

abbrev mutual
  -- a term in which each variable has its number's position in the list as its number
  pub renumbered : List ℕ → Term → Term
  renumbered order (variable number sort) = variable (first_position (nat_eq number) order) sort
  renumbered order (node operation arguments) = node operation (renumbered_among order arguments)

  pub renumbered_among : List ℕ → Terms → Terms
  renumbered_among order no_terms = no_terms
  renumbered_among order (term_then t ts) = term_then (renumbered order t) (renumbered_among order ts)

-- the variable with a number in scope, under its new number
abbrev pub declared_as : ℕ → Option Variable → List Variable
declared_as number None = []
declared_as number (Some v) = record { name = v.name; number = number; sort = v.sort } ∷ []

-- the variables with these numbers in scope, numbered from this number on
abbrev pub declared_from : List Variable → ℕ → List ℕ → List Variable
declared_from scope number [] = []
declared_from scope number (old ∷ olds) = declared_as number (slice_get scope old) ++ declared_from scope (suc number) olds

-- the equation of two sides that were read in a scope
abbrev pub equation_of_sides : Place → List Variable → Term → Term → Equation
equation_of_sides place scope left right = record {
  place = place;
  variables = declared_from scope 0 (appearing left right);
  left = renumbered (appearing left right) left;
  right = renumbered (appearing left right) right;
}

-- the presentation with one more equation
abbrev pub with_equation : Presentation → Equation → Presentation
with_equation p equation = record {
  signature = p.signature;
  equations = p.equations ++ equation ∷ [];
  formal_sorts = p.formal_sorts;
  formal_operations = p.formal_operations;
}

-- the presentation with the equation of two sides that were read
abbrev pub with_sides : Presentation → AskedEquation → Term → Term → Presentation
with_sides p asked left right = with_equation p (equation_of_sides asked.equation.place (scope_of p asked) left right)

-- ---- What each question gives, and its first fault. `type_name` is the name of the type.

-- the question has no fault, and the presentation is the other one after it
pub data GivesPresentation (p : Presentation) : EquationQuestion → Presentation → Type 0 where
  sort_is_there : (place : Place) (name : List ℕ) → is_sort_name p.signature name ≡ true → GivesPresentation p (sort_asked place name) p
  formal_is_read : (asked : AskedEquation) (left right : Term) → IsSide p asked asked.equation.left left
      → IsSide p asked asked.equation.right right → AreReadPremisses p asked asked.equation.premisses
      → GivesPresentation p (formal_asked asked) p
  own_is_read : (asked : AskedEquation) (left right : Term) → asked.equation.arrow ≡ None
      → IsSide p asked asked.equation.left left → IsSide p asked asked.equation.right right
      → is_too_large (with_sides p asked left right) ≡ false → GivesPresentation p (own_asked asked) (with_sides p asked left right)

-- a side of the equation has the fault that counts: the left one before the right one
abbrev pub IsFaultOfSides : Presentation → AskedEquation → TypeFault → Type 0
IsFaultOfSides p asked fault =
    IsSideFault p asked asked.equation.left fault
    ⊎ ((left : Term) × IsSide p asked asked.equation.left left × IsSideFault p asked asked.equation.right fault)

-- the question has this fault
pub data QuestionHasFault (p : Presentation) (type_name : List ℕ) : EquationQuestion → TypeFault → Type 0 where
  sort_is_unknown : (place : Place) (name : List ℕ) → is_sort_name p.signature name ≡ false
      → QuestionHasFault p type_name (sort_asked place name) (unknown_sort place (Some name))
  formal_side : (asked : AskedEquation) (fault : TypeFault) → IsFaultOfSides p asked fault
      → QuestionHasFault p type_name (formal_asked asked) fault
  formal_premiss : (asked : AskedEquation) (left right : Term) (fault : TypeFault) → IsSide p asked asked.equation.left left
      → IsSide p asked asked.equation.right right → IsFirstPremissFault p asked asked.equation.premisses fault
      → QuestionHasFault p type_name (formal_asked asked) fault
  own_has_premisses : (asked : AskedEquation) (arrow : Place) → asked.equation.arrow ≡ Some arrow
      → QuestionHasFault p type_name (own_asked asked) (premised arrow)
  own_side : (asked : AskedEquation) (fault : TypeFault) → asked.equation.arrow ≡ None → IsFaultOfSides p asked fault
      → QuestionHasFault p type_name (own_asked asked) fault
  one_too_many : (asked : AskedEquation) (left right : Term) → asked.equation.arrow ≡ None
      → IsSide p asked asked.equation.left left → IsSide p asked asked.equation.right right
      → is_too_large (with_sides p asked left right) ≡ true
      → QuestionHasFault p type_name (own_asked asked) (too_large asked.equation.place type_name)

-- all questions have no fault, and the presentation is the last one after them
pub data GiveAll : Presentation → List EquationQuestion → Presentation → Type 0 where
  none_asked : (p : Presentation) → GiveAll p [] p
  next_gives : (p q r : Presentation) (a : EquationQuestion) (asked : List EquationQuestion) → GivesPresentation p a q → GiveAll q asked r
      → GiveAll p (a ∷ asked) r

-- the first question with a fault has this one
pub data HasFirstFault (type_name : List ℕ) : Presentation → List EquationQuestion → TypeFault → Type 0 where
  at_once : (p : Presentation) (a : EquationQuestion) (asked : List EquationQuestion) (fault : TypeFault)
      → QuestionHasFault p type_name a fault
      → HasFirstFault type_name p (a ∷ asked) fault
  further_on : (p q : Presentation) (a : EquationQuestion) (asked : List EquationQuestion) (fault : TypeFault) → GivesPresentation p a q
      → HasFirstFault type_name q asked fault → HasFirstFault type_name p (a ∷ asked) fault
