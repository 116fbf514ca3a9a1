-- The functionalities of the definitions agree, and recursion is guarded. Both are said of what the code keeps of a
-- specification with the places of the text.
use Rattle.std.specs.Prelude.{◌≡◌, ℕ, List, [], ◌∷◌}
use Rattle.lotos_base.specs.Equation.{Place as TextPlace, Data}
use Rattle.lotos_base.specs.WrittenView.{text_place_of}
use Rattle.lotos_base.specs.declared.places.Place.{Place}
use Rattle.syntax_trees.specs.WrittenDefinition.{WrittenSpecification}
use Rattle.syntax_trees.specs.TakenItems.{without_items}
use Rattle.behaviour_semantics.specs.Behaviour.{Specification}
use Rattle.behaviour_semantics.specs.Guardedness.{IsGuarded}
use Rattle.behaviour_tree.specs.DefinitionView.{specification_of}
use Rattle.behaviour_tree.specs.Over.{IsSpecOver}
use Rattle.behaviour_tree.specs.declared.definitions.Spec.{Spec}
use Rattle.static_scope.specs.TextPlaces.{text_places}
use Rattle.static_scope.specs.KeptPlaces.{places_of}
use Rattle.refusal_lines.specs.HandedOn.{Gathered, Functionality, Disagreement, all_disagreements, IsUnguarded}
use Rattle.refusal_lines.specs.Refusal.{Refusal, Refused, mismatch, unguarded}
use Rattle.spec_acceptance.specs.Ending.{with_spec}
use Rattle.spec_acceptance.specs.Part.{Part, Looks}

-- what the code keeps of the specification, over the signature of the data and with the places of the text
pub record KeepsSpecification (data_ : Data) (tree : WrittenSpecification) (spec : Specification) (kept : Spec) : Type 0 where
  pub same : specification_of kept ≡ spec
  pub over : IsSpecOver data_.signature kept
  pub places : places_of kept ≡ text_places (without_items tree)

-- all functionalities agree
abbrev pub FunctionalitiesAgree : Data → WrittenSpecification → Specification → Specification → Type 0
FunctionalitiesAgree data_ tree spec same = (same ≡ spec)
    × ((kept : Spec) × KeepsSpecification data_ tree spec kept × (all_disagreements kept ≡ []))

-- two functionalities differ at a place
pub data FunctionalityFault : Type 0 where
  differ_at : (place : TextPlace) (left right : Functionality) → FunctionalityFault

-- the disagreement is the first one
abbrev pub IsFirstDisagreement : List Disagreement → TextPlace → Functionality → Functionality → Type 0
IsFirstDisagreement [] place left right = ⊥
IsFirstDisagreement (first ∷ others) place left right = (text_place_of first.place ≡ place) × (first.left ≡ left) × (first.right ≡ right)

abbrev pub Disagree : Data → WrittenSpecification → Specification → FunctionalityFault → Type 0
Disagree data_ tree spec (differ_at place left right) =
    (kept : Spec) × KeepsSpecification data_ tree spec kept × IsFirstDisagreement (all_disagreements kept) place left right

abbrev pub functionality_refusal : FunctionalityFault → Refusal
functionality_refusal (differ_at place left right) = mismatch place left right

abbrev pub functionality_told : List (List ℕ) → Data → Specification → FunctionalityFault → Refused
functionality_told read data_ spec fault = with_spec read data_ spec (functionality_refusal fault)

abbrev pub ComesToAgreement : Gathered → Data → WrittenSpecification → Specification → Part Refused Specification
ComesToAgreement gathered data_ tree spec =
    Looks (FunctionalitiesAgree data_ tree spec) (Disagree data_ tree spec) (functionality_told gathered.read data_ spec)

-- recursion is guarded
abbrev pub Guarded : Specification → Specification → Type 0
Guarded spec same = (same ≡ spec) × IsGuarded spec.processes

-- a call in the body of the process, at the place, lies on a cycle of unguarded calls
pub data RecursionFault : Type 0 where
  unguarded_at : (place : TextPlace) (process : ℕ) (cycle : List ℕ) → RecursionFault

-- an unguarded call lies on a cycle, and this is the first one
abbrev pub Cyclic : Data → WrittenSpecification → Specification → RecursionFault → Type 0
Cyclic data_ tree spec (unguarded_at place process cycle) =
    (kept : Spec) × (at : Place) × KeepsSpecification data_ tree spec kept × (text_place_of at ≡ place) × IsUnguarded kept at process cycle

abbrev pub recursion_refusal : RecursionFault → Refusal
recursion_refusal (unguarded_at place process cycle) = unguarded place process cycle

abbrev pub recursion_told : List (List ℕ) → Data → Specification → RecursionFault → Refused
recursion_told read data_ spec fault = with_spec read data_ spec (recursion_refusal fault)

abbrev pub IsGuardedIn : Gathered → Data → WrittenSpecification → Specification → Part Refused Specification
IsGuardedIn gathered data_ tree spec =
    Looks (Guarded spec) (Cyclic data_ tree spec) (recursion_told gathered.read data_ spec)
