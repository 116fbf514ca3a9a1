-- The causes of the faults of the equations that a type declares, in the order in which they are looked for.
use Rattle.std.specs.Prelude.{◌≡◌, ◌⊎◌, ◌<◌, ℕ, suc, List, [], length, Option, None, Some, slice_get, codes}
use Rattle.lotos_base.specs.Equation.{Place}
use Rattle.lotos_base.specs.Names.{AreOneName}
use Rattle.lotos_base.specs.Signature.{Sort, Operation, prefix_form}
use Rattle.lotos_base.specs.WrittenTerm.{WrittenTerm, written_head}
use Rattle.syntax_trees.specs.WrittenEquation.{WrittenPremiss}
use Rattle.sort_terms.specs.ReadingOutcome.{ReadingRefusal}
use Rattle.type_definitions.specs.TypeFault.{unknown_sort, premised, no_reading, too_large}
use Rattle.type_definitions.specs.Presentation.{Presentation, presentation_limit}
use Rattle.type_definitions.specs.Declarations.{sort_numbered}
use Rattle.type_definitions.specs.DeclaredEquations.{AskedEquation, EquationQuestion, sort_asked, formal_asked, own_asked, scope_of, type_fault_of, bool_sort}
use Rattle.type_flatten.specs.FirstCause.{OrElse, FirstAlong, stays}
use Rattle.type_flatten.specs.FaultCauses.{Cause, NamesNoSort}
use Rattle.type_flatten.specs.ReadingCauses.{RefusalCause, TermBrings, PairBrings}

-- ---- Terms

-- a refusal of a term or of a pair, told as a fault of the type
abbrev pub ToldAsFault : RefusalCause → Cause
ToldAsFault Is fault = (refusal : ReadingRefusal) × Is refusal × (fault ≡ type_fault_of refusal)

-- a side is read at the sort of its `ofsort`, with the variables in scope
abbrev pub SideBrings : Presentation → AskedEquation → WrittenTerm → Cause
SideBrings p asked side = ToldAsFault (TermBrings p.signature (scope_of p asked) side (Some (sort_numbered p asked.sort)))

-- ---- Premisses of formal equations

-- a sort `Bool` with a constant `true`
pub record HasTruth (p : Presentation) : Type 0 where
  pub i : ℕ
  pub sort : Sort
  pub is_sort : slice_get p.signature.sorts i ≡ Some sort
  pub called : AreOneName sort.name (codes "Bool")
  pub k : ℕ
  pub operation : Operation
  pub is_operation : slice_get p.signature.operations k ≡ Some operation
  pub named : AreOneName operation.name (codes "true")
  pub formed : operation.form ≡ prefix_form
  pub constant : operation.arguments ≡ []
  pub result : operation.result ≡ bool_sort p

abbrev pub LacksTruth : Presentation → WrittenTerm → Cause
LacksTruth p left fault = (fault ≡ no_reading (written_head left).place) × (¬ HasTruth p)

-- two terms are read as a pair; one term needs truth, and is read at `Bool`
abbrev pub PremissBrings : Presentation → AskedEquation → WrittenTerm → Option WrittenTerm → Cause
PremissBrings p asked left (Some right) = ToldAsFault (PairBrings p.signature (scope_of p asked) left right)
PremissBrings p asked left None =
    OrElse (LacksTruth p left) (ToldAsFault (TermBrings p.signature (scope_of p asked) left (Some (bool_sort p))))

abbrev pub PremissOf : Presentation → AskedEquation → WrittenPremiss → Cause
PremissOf p asked premiss = PremissBrings p asked premiss.left premiss.right

-- ---- One equation

-- premisses, at `=>`
abbrev pub HasPremisses : AskedEquation → Cause
HasPremisses asked fault = (arrow : Place) × (asked.equation.arrow ≡ Some arrow) × (fault ≡ premised arrow)

-- the equation is one too many behind so many others, or there are too many sorts or operations
abbrev pub IsTooMuchWith : ℕ → Presentation → ℕ → Type 0
IsTooMuchWith limit p many =
    (limit < length p.signature.sorts) ⊎ ((limit < length p.signature.operations) ⊎ (limit < suc many))

abbrev pub OneEquationTooMany : List ℕ → Presentation → ℕ → AskedEquation → Cause
OneEquationTooMany type_name p many asked fault =
    (fault ≡ too_large asked.equation.place type_name) × IsTooMuchWith presentation_limit p many

-- the left side before the right side
abbrev pub SidesBring : Presentation → AskedEquation → Cause → Cause
SidesBring p asked Later =
    OrElse (SideBrings p asked asked.equation.left) (OrElse (SideBrings p asked asked.equation.right) Later)

-- What is asked: a sort in a `forall` or an `ofsort` has to be there; a formal equation has its sides and premisses read; an own one
-- has no premisses, and its sides are read, and it is not one too many.
abbrev pub AskedBrings : List ℕ → Presentation → ℕ → EquationQuestion → Cause
AskedBrings type_name p many (sort_asked place name) fault =
    (fault ≡ unknown_sort place (Some name)) × NamesNoSort p.signature name
AskedBrings type_name p many (formal_asked asked) fault =
    SidesBring p asked (FirstAlong (PremissOf p) stays asked asked.equation.premisses) fault
AskedBrings type_name p many (own_asked asked) fault =
    OrElse (HasPremisses asked) (SidesBring p asked (OneEquationTooMany type_name p many asked)) fault

-- ---- All equations

-- how many equations there are behind what was asked: formal ones are not counted
abbrev pub counted_on : ℕ → EquationQuestion → ℕ
counted_on many (sort_asked place name) = many
counted_on many (formal_asked asked) = many
counted_on many (own_asked asked) = suc many

-- the sorts and operations are those of the presentation all along
abbrev pub EquationsBring : List ℕ → Presentation → List EquationQuestion → Cause
EquationsBring type_name p asked = FirstAlong (AskedBrings type_name p) counted_on (length p.equations) asked
