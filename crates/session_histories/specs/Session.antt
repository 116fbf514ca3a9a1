-- Sessions: a state with its menu, and the steps that led to it.
use Rattle.std.specs.Prelude.{◌≡◌, ℕ, List, [], ◌∷◌, ◌++◌, map}
use Rattle.lotos_base.specs.Term.{Term}
use Rattle.lotos_base.specs.Equation.{Data}
use Rattle.behaviour_semantics.specs.Behaviour.{Behaviour, Specification}
use Rattle.behaviour_semantics.specs.Label.{Label}
use Rattle.behaviour_semantics.specs.Shape.{Derivation}
use Rattle.behaviour_semantics.specs.Solving.{Entry}

-- What a session goes over: data with a canon, and a specification.
pub record SessionBasis : Type 0 where
  pub data_ : Data
  pub canon : Term → Term
  pub specification : Specification

-- An item of a session: the number of an entry, counted from 1, the values for its variables as they were given, the
-- derivation that was taken, and its label.
pub record Item : Type 0 where
  pub number : ℕ
  pub values : List Term
  pub derivation : Derivation
  pub label : Label

-- A state, as the closed behaviour that it stands for, and its menu.
pub record Situation : Type 0 where
  pub state : Behaviour
  pub menu : List Entry

-- A step that was taken: its item, and the situation that it was taken in.
pub record PastStep : Type 0 where
  pub item : Item
  pub before : Situation

-- How far a session has come: where it stands, and the steps that led there, the first one first.
pub record Progress : Type 0 where
  pub situation : Situation
  pub steps : List PastStep

-- A session that has taken no step.
abbrev pub opened_progress : Situation → Progress
opened_progress first = record { situation = first; steps = [] }

-- The items of the steps, and their derivations.
abbrev pub items_of : List PastStep → List Item
items_of steps = map (λ (step : PastStep). step.item) steps

abbrev pub derivations_of : List PastStep → List Derivation
derivations_of steps = map (λ (step : PastStep). step.item.derivation) steps

-- Where the session stood before the first of these steps, which lead to a situation.
abbrev pub first_of : Situation → List PastStep → Situation
first_of situation [] = situation
first_of situation (step ∷ steps) = step.before

-- The oldest situation that the session keeps.
abbrev pub first_situation : Progress → Situation
first_situation progress = first_of progress.situation progress.steps

-- One step more.
abbrev pub stepped : Progress → Item → Situation → Progress
stepped progress item next = record {
  situation = next;
  steps = progress.steps ++ (record { item = item; before = progress.situation } ∷ []);
}

-- Undo drops the last step: the session stands again where this was taken.
pub record HasUndone (old new : Progress) : Type 0 where
  pub item : Item
  pub dropped : old ≡ stepped new item old.situation
