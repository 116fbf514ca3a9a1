-- What drafts and canonical forms obey, over data with a canon and well-formed behaviours.
use Rattle.std.specs.Prelude.{◌≡◌, List, Some}
use Rattle.lotos_base.specs.Term.{Term, variable}
use Rattle.lotos_base.specs.Equation.{Data}
use Rattle.behaviour_semantics.specs.Behaviour.{Behaviour, Specification, Process}
use Rattle.behaviour_semantics.specs.Label.{Label}
use Rattle.behaviour_semantics.specs.Shape.{Shape, Derivation}
use Rattle.behaviour_semantics.specs.Move.{taken}
use Rattle.behaviour_semantics.specs.Derives.{Derives, DerivesCanonically, leaves_in}
use Rattle.behaviour_semantics.specs.Draft.{Draft, draft_of, label_with, variable_sorts, MeetsDraft}
use Rattle.behaviour_semantics.specs.Menu.{EqualLabels}
use Rattle.behaviour_semantics.specs.Alike.{Alike, AlikeLabels}
use Rattle.behaviour_semantics.specs.WellFormed.{AreOver}

-- A derivation of the shape with these leaves, whose label equals the draft's label with the leaves put in.
pub record Instance (data_ : Data) (processes : List Process) (b : Behaviour) (draft : Draft) (values : List Term) : Type 0 where
  pub label : Label
  pub target : Behaviour
  pub derives : Derives data_ processes b (record { shape = draft.shape; leaves = values }) label target
  pub labels : EqualLabels data_ (label_with (leaves_in values) draft.label) label

-- The draft of a derivation's shape, which its leaves meet, and with whose label its label is equal.
pub record DraftOf (data_ : Data) (canon : Term → Term) (processes : List Process) (b : Behaviour) (d : Derivation) (label : Label) : Type
    0 where
  pub draft : Draft
  pub is_draft : draft_of data_ canon processes d.shape b ≡ Some draft
  pub meets : MeetsDraft data_ draft d.leaves
  pub labels : EqualLabels data_ (label_with (leaves_in d.leaves) draft.label) label

-- leaf number `k` of a draft is the variable number `k`; ground leaves that meet the draft of a shape make it a
-- derivation, and each derivation of the shape is made so
pub record DraftsAreDerivations : Type 0 where
  pub leaves :
      (data_ : Data) (canon : Term → Term) (processes : List Process) (shape : Shape) (b : Behaviour) (draft : Draft) →
      draft_of data_ canon processes shape b ≡ Some draft →
      draft.leaves ≡ taken variable 0 (variable_sorts draft.leaves)
  pub sound :
      (data_ : Data) (canon : Term → Term) (specification : Specification) (b : Behaviour) →
      AreOver data_ canon specification b →
      (shape : Shape) (draft : Draft) (values : List Term) →
      draft_of data_ canon specification.processes shape b ≡ Some draft →
      MeetsDraft data_ draft values →
      Instance data_ specification.processes b draft values
  pub complete :
      (data_ : Data) (canon : Term → Term) (specification : Specification) (b : Behaviour) →
      AreOver data_ canon specification b →
      (d : Derivation) (label : Label) (target : Behaviour) →
      Derives data_ specification.processes b d label target →
      DraftOf data_ canon specification.processes b d label

-- A derivation's move with canonical values, alike one with values as they are given.
pub record CanonicalForDerived (data_ : Data) (canon : Term → Term) (processes : List Process) (b : Behaviour) (d : Derivation)
    (label : Label) (target : Behaviour) : Type 0 where
  pub kept_label : Label
  pub kept_target : Behaviour
  pub keeps : DerivesCanonically data_ canon processes b d kept_label kept_target
  pub labels : AlikeLabels data_ kept_label label
  pub targets : Alike data_ kept_target target

pub record DerivedForCanonical (data_ : Data) (canon : Term → Term) (processes : List Process) (b : Behaviour) (d : Derivation)
    (label : Label) (target : Behaviour) : Type 0 where
  pub derived_label : Label
  pub derived_target : Behaviour
  pub derives : Derives data_ processes b d derived_label derived_target
  pub labels : AlikeLabels data_ label derived_label
  pub targets : Alike data_ target derived_target

-- 'keeps' is defined exactly where 'derives' is, with label and target alike, for any canon of the data
pub record KeepsWhereDerives : Type 0 where
  pub keeps :
      (data_ : Data) (canon : Term → Term) (specification : Specification) (b : Behaviour) →
      AreOver data_ canon specification b →
      (d : Derivation) (label : Label) (target : Behaviour) →
      Derives data_ specification.processes b d label target →
      CanonicalForDerived data_ canon specification.processes b d label target
  pub derives :
      (data_ : Data) (canon : Term → Term) (specification : Specification) (b : Behaviour) →
      AreOver data_ canon specification b →
      (d : Derivation) (label : Label) (target : Behaviour) →
      DerivesCanonically data_ canon specification.processes b d label target →
      DerivedForCanonical data_ canon specification.processes b d label target
