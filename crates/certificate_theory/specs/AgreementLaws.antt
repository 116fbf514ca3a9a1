-- What agreeing labels obey: entries without variables have canonical values, so their labels agree exactly where the values
-- are identical.
use Rattle.std.specs.Prelude.{◌≡◌, ◌↔◌, List, [], map}
use Rattle.lotos_base.specs.Equation.{Data, HasSortedSides}
use Rattle.behaviour_semantics.specs.Behaviour.{Behaviour, Specification}
use Rattle.behaviour_semantics.specs.Label.{Label}
use Rattle.behaviour_semantics.specs.Solving.{Entry}
use Rattle.behaviour_semantics.specs.Menu.{IsEntry, Exact}
use Rattle.behaviour_semantics.specs.WellFormed.{AreOver}
use Rattle.certificate_theory.specs.Agreement.{AgreeingLabels, IdenticalLabels}
use Rattle.certificate_theory.specs.Certificate.{Comparison, ComparedSide, left_side_of, right_side_of}
use Rattle.certificate_theory.specs.NamedStates.{IsClosedEntry, EntryLeads}

-- labels that agree agree the other way round too
abbrev pub AgreementIsMutual : Type 0
AgreementIsMutual =
    (data_ : Data) (one other : Specification) (label answer : Label) →
    AgreeingLabels data_ one other label answer →
    AgreeingLabels data_ other one answer label

-- An entry without variables of the exact menu of a closed behaviour.
pub record IsClosedEntryOf (side : ComparedSide) (b : Behaviour) (entry : Entry) : Type 0 where
  pub over : AreOver side.data_ side.canon side.specification b
  pub menu : List Entry
  pub exact : Exact side.data_ side.canon side.specification.processes b menu
  pub there : IsEntry menu entry
  pub closed : IsClosedEntry entry

-- where the two sides of each equation have one sort, labels of entries without variables agree exactly where they are identical
abbrev pub ClosedLabelsAgreeWhereIdentical : Type 0
ClosedLabelsAgreeWhereIdentical =
    (c : Comparison) (b d : Behaviour) (entry answer : Entry) →
    HasSortedSides c.data_ →
    IsClosedEntryOf (left_side_of c) b entry →
    IsClosedEntryOf (right_side_of c) d answer →
    AgreeingLabels c.data_ c.left c.right entry.label answer.label ↔ IdenticalLabels c.left c.right entry.label answer.label

-- An entry without variables is one event: it has no conditions, its leaves are canonical, and it leads to one behaviour.
pub record ClosedEntriesAreEvents : Type 0 where
  pub conditions : (side : ComparedSide) (b : Behaviour) (entry : Entry) → IsClosedEntryOf side b entry → entry.conditions ≡ []
  pub leaves :
      (side : ComparedSide) (b : Behaviour) (entry : Entry) →
      IsClosedEntryOf side b entry →
      map side.canon entry.leaves ≡ entry.leaves
  pub leads :
      (side : ComparedSide) (b : Behaviour) (entry : Entry) →
      IsClosedEntryOf side b entry →
      (target : Behaviour) × EntryLeads side b entry target
  pub to_one :
      (side : ComparedSide) (b : Behaviour) (entry : Entry) (target another : Behaviour) →
      EntryLeads side b entry target →
      EntryLeads side b entry another →
      target ≡ another
