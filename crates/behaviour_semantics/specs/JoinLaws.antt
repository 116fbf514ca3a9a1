-- What joins of drafts obey: a join is in order, and its sides may be solved before.
use Rattle.std.specs.Prelude.{◌≡◌, ◌↔◌, Option, None, Some}
use Rattle.lotos_base.specs.Term.{Term}
use Rattle.lotos_base.specs.Equation.{Data}
use Rattle.lotos_base.specs.Canon.{IsCanon}
use Rattle.behaviour_semantics.specs.Draft.{Draft}
use Rattle.behaviour_semantics.specs.Solving.{Entry, SolvesTo}
use Rattle.behaviour_semantics.specs.DraftOrder.{IsInOrder, as_draft}
use Rattle.behaviour_semantics.specs.Join.{join_of_drafts}

-- Two drafts in order with their entries, which solving leaves of them.
pub record AreSolvedSides (data_ : Data) (canon : Term → Term) (left right : Draft) (entry other : Entry) : Type 0 where
  pub left_order : IsInOrder data_.signature left
  pub right_order : IsInOrder data_.signature right
  pub left_solves : SolvesTo canon left (Some entry)
  pub right_solves : SolvesTo canon right (Some other)

-- Over data with a canon: the join of drafts in order is in order; entries read as drafts have a join exactly where their
-- drafts have one, and it has the same outcome; and where a side has no solved form, the join has none.
pub record SidesMayBeSolvedBefore : Type 0 where
  pub in_order :
      (data_ : Data) (left right whole : Draft) →
      IsInOrder data_.signature left →
      IsInOrder data_.signature right →
      join_of_drafts data_.signature left right ≡ Some whole →
      IsInOrder data_.signature whole
  pub same_joins :
      (data_ : Data) (canon : Term → Term) (left right : Draft) (entry other : Entry) →
      IsCanon data_ canon →
      AreSolvedSides data_ canon left right entry other →
      (join_of_drafts data_.signature left right ≡ None) ↔ (join_of_drafts data_.signature (as_draft entry) (as_draft other) ≡ None)
  pub same_outcomes :
      (data_ : Data) (canon : Term → Term) (left right : Draft) (entry other : Entry) (whole solved : Draft) (outcome : Option Entry) →
      IsCanon data_ canon →
      AreSolvedSides data_ canon left right entry other →
      join_of_drafts data_.signature left right ≡ Some whole →
      join_of_drafts data_.signature (as_draft entry) (as_draft other) ≡ Some solved →
      SolvesTo canon whole outcome ↔ SolvesTo canon solved outcome
  pub left_nothing :
      (data_ : Data) (canon : Term → Term) (left right whole : Draft) →
      IsCanon data_ canon →
      IsInOrder data_.signature left →
      IsInOrder data_.signature right →
      join_of_drafts data_.signature left right ≡ Some whole →
      SolvesTo canon left None →
      SolvesTo canon whole None
  pub right_nothing :
      (data_ : Data) (canon : Term → Term) (left right whole : Draft) →
      IsCanon data_ canon →
      IsInOrder data_.signature left →
      IsInOrder data_.signature right →
      join_of_drafts data_.signature left right ≡ Some whole →
      SolvesTo canon right None →
      SolvesTo canon whole None
