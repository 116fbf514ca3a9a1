-- Readings of sides and premisses in the scope of an equation.
use Rattle.std.proofs.Common.{◌≡◌, ℕ, List, [], ◌∷◌, inl, inr, refl, ap, sym, subst}
use Rattle.std.specs.Prelude.{Option, Some}
use Rattle.lotos_base.specs.WrittenTerm.{WrittenTerm, written_head}
use Rattle.lotos_base.specs.Signature.{Signature}
use Rattle.lotos_base.specs.Equation.{Variable}
use Rattle.sort_terms.specs.ReadingOutcome.{ReadingRefusal, SortedTerm, ReadingOutcome, answered, refused, ReadingIs, ComesTo, IsReading, unknown_in}
use Rattle.type_definitions.specs.TypeFault.{TypeFault}
use Rattle.type_definitions.specs.Presentation.{Presentation}
use Rattle.type_definitions.specs.Declarations.{sort_numbered}
use Rattle.type_definitions.specs.DeclaredEquations.{AskedEquation, scope_of, type_fault_of, IsSide, IsSideFault, IsFaultOfSides}
use Rattle.syntax_trees.specs.WrittenEquation.{WrittenEquation}
use Rattle.lotos_base.specs.Term.{Term}
use Rattle.sort_terms.specs.RefusalView.{UnlessNoMemory}
use Rattle.sort_terms.specs.declared.sort_faults.SortFault.{SortFault}
use Rattle.sort_terms.specs.declared.sort_faults.SortFault.TheVariants as faults

-- the same reading over the signature and scope of the presentation
pub read_over : (p : Presentation) (asked : AskedEquation) (signature : Signature) (variables : List Variable) (one other : Option ℕ)
    (side : WrittenTerm) (outcome : ReadingOutcome SortedTerm) → p.signature ≡ signature → variables ≡ scope_of p asked → one ≡ other
    → ReadingIs signature variables side one outcome → ReadingIs p.signature (scope_of p asked) side other outcome
read_over p asked signature variables one other side outcome over scope sort read =
    subst (λ (s : Signature). ReadingIs s (scope_of p asked) side other outcome) (sym over)
    (subst (λ (vs : List Variable). ReadingIs signature vs side other outcome) scope
    (subst (λ (o : Option ℕ). ReadingIs signature variables side o outcome) sort read))

-- a reading has the sort that is expected
pub of_expected_sort : (signature : Signature) (variables : List Variable) (side : WrittenTerm) (sort : ℕ) (reading : SortedTerm)
    → ReadingIs signature variables side (Some sort) (answered reading) → reading.sort ≡ sort
of_expected_sort signature variables side sort reading read = go (unknown_in signature variables side) read
  where
    go : (refusals : List ReadingRefusal)
        → ComesTo refusals (written_head side).place (IsReading signature variables side (Some sort)) (answered reading)
        → reading.sort ≡ sort
    go [] only = only.is_answer.1
    go (first ∷ rest) none = absurd none

-- ---- Sides and their faults.

pub side_read : (p : Presentation) (asked : AskedEquation) (signature : Signature) (variables : List Variable) (sort : ℕ)
    (side : WrittenTerm)
    (reading : SortedTerm) → p.signature ≡ signature → variables ≡ scope_of p asked → sort ≡ sort_numbered p asked.sort
    → ReadingIs signature variables side (Some sort) (answered reading) → IsSide p asked side reading.term
side_read p asked signature variables sort side reading over scope at read = (
  reading,
  read_over p asked signature variables (Some sort) (Some (sort_numbered p asked.sort)) side (answered reading) over scope
      (ap (λ (n : ℕ). Some n) at) read,
  refl,
)

pub side_refused : (p : Presentation) (asked : AskedEquation) (signature : Signature) (variables : List Variable) (sort : ℕ)
    (side : WrittenTerm) (refusal : ReadingRefusal) → p.signature ≡ signature → variables ≡ scope_of p asked
    → sort ≡ sort_numbered p asked.sort
    → ReadingIs signature variables side (Some sort) (refused refusal) → IsSideFault p asked side (type_fault_of refusal)
side_refused p asked signature variables sort side refusal over scope at read = (
  refusal,
  read_over p asked signature variables (Some sort) (Some (sort_numbered p asked.sort)) side (refused refusal) over scope
      (ap (λ (n : ℕ). Some n) at) read,
  refl,
)

pub left_fault : (p : Presentation) (asked : AskedEquation) (e : WrittenEquation) (fault : TypeFault) → asked.equation ≡ e
    → IsSideFault p asked e.left fault → IsFaultOfSides p asked fault
left_fault p asked e fault is h = inl (subst (λ (d : WrittenEquation). IsSideFault p asked d.left fault) (sym is) h)

pub right_fault : (p : Presentation) (asked : AskedEquation) (e : WrittenEquation) (left : Term) (fault : TypeFault) → asked.equation ≡ e
    → IsSide p asked e.left left → IsSideFault p asked e.right fault → IsFaultOfSides p asked fault
right_fault p asked e left fault is one h =
    inr (
      left,
      subst (λ (d : WrittenEquation). IsSide p asked d.left left) (sym is) one,
      subst (λ (d : WrittenEquation). IsSideFault p asked d.right fault) (sym is) h,
    )

pub unless_weaker : (P Q : ReadingRefusal → Type 0) (fault : SortFault) → ((r : ReadingRefusal) → P r → Q r) → UnlessNoMemory fault P
    → UnlessNoMemory fault Q
unless_weaker P Q (faults.UnknownName place) weaker h = weaker _ h
unless_weaker P Q (faults.UnknownSort place) weaker h = weaker _ h
unless_weaker P Q (faults.NoReading place) weaker h = weaker _ h
unless_weaker P Q (faults.TwoReadings place) weaker h = weaker _ h
unless_weaker P Q faults.NoMemory weaker h = h
