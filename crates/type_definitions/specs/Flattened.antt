-- The flattened data of a list of types: the presentation of each type, after those that it mentions; then the union of those
-- in which nothing is formal.
use Rattle.std.specs.Prelude.{◌≡◌, ◌⊎◌, ℕ, List, [], ◌∷◌, ◌++◌, map, flat_map, None, Some, slice_get, if◌then◌else◌}
use Rattle.std.specs.Option.{option_to_list}
use Rattle.lotos_base.specs.WrittenTerm.{PlacedName}
use Rattle.lotos_base.specs.Equation.{Data}
use Rattle.syntax_trees.specs.WrittenItem.{WrittenTypeBody, extends, renames, actualises}
use Rattle.sort_terms.specs.ReadingOutcome.{one_name}
use Rattle.type_definitions.specs.DeclaredTypes.{DeclaredType, mention_graph}
use Rattle.type_definitions.specs.FlatteningOrder.{IsFlatteningOrder}
use Rattle.type_definitions.specs.TypeFault.{TypeFault}
use Rattle.type_definitions.specs.Presentation.{Presentation, nothing}
use Rattle.type_definitions.specs.Union.{Mentioned, union_of, union_fault}
use Rattle.type_definitions.specs.Extension.{IsExtension, IsExtensionFault}
use Rattle.type_definitions.specs.Renaming.{renamed_presentation, renaming_fault}
use Rattle.type_definitions.specs.Actualisation.{actualisation, is_formal}
use Rattle.type_definitions.specs.ActualisationFaults.{actualising_of, actualisation_fault}

-- ---- The presentation of one type. `done` are the types that are flattened already, each at its own name.

-- the presentation of the type of a name; nothing where there is none, which the order of flattening leaves no room for
abbrev pub presentation_named : List Mentioned → List ℕ → Presentation
presentation_named [] name = nothing
presentation_named (t ∷ ts) name = if one_name t.at.name name then t.presentation else presentation_named ts name

-- a mention with the presentation of its type
abbrev pub mention_of : List Mentioned → PlacedName → Mentioned
mention_of done name = record { at = name; presentation = presentation_named done name.name }

abbrev pub mentions_with : List Mentioned → List PlacedName → List Mentioned
mentions_with done names = map (mention_of done) names

-- the type of this name and body has no fault, and this presentation
abbrev pub IsPresentation : List Mentioned → List ℕ → WrittenTypeBody → Presentation → Type 0
IsPresentation done name (extends imports sections) p = IsExtension (mentions_with done imports) name sections p
IsPresentation done name (renames base pairs) p =
    (renaming_fault (presentation_named done base.name) name pairs ≡ None)
    × (renamed_presentation (presentation_named done base.name) name pairs ≡ p)
IsPresentation done name (actualises base actuals pairs) p =
    (actualisation_fault (mention_of done base) (mentions_with done actuals) name pairs ≡ None)
    × (actualisation (actualising_of (mention_of done base) (mentions_with done actuals) name pairs) ≡ p)

-- this is the first fault of the type of this name and body
abbrev pub IsFaultOfType : List Mentioned → List ℕ → WrittenTypeBody → TypeFault → Type 0
IsFaultOfType done name (extends imports sections) fault =
    IsExtensionFault (mentions_with done imports) name sections fault
IsFaultOfType done name (renames base pairs) fault =
    renaming_fault (presentation_named done base.name) name pairs ≡ Some fault
IsFaultOfType done name (actualises base actuals pairs) fault =
    actualisation_fault (mention_of done base) (mentions_with done actuals) name pairs ≡ Some fault

-- ---- All types, in the order of flattening.

-- a type at its name, with its presentation
abbrev pub declared_with : DeclaredType → Presentation → Mentioned
declared_with t p = record { at = record { place = t.place; name = t.name }; presentation = p }

-- the types have these presentations, behind those that are flattened already
pub data ArePresented : List Mentioned → List DeclaredType → List Mentioned → Type 0 where
  all_presented : (done : List Mentioned) → ArePresented done [] done
  next_presented : (done all : List Mentioned) (t : DeclaredType) (ts : List DeclaredType) (p : Presentation)
      → IsPresentation done t.name t.body p → ArePresented (done ++ declared_with t p ∷ []) ts all
      → ArePresented done (t ∷ ts) all

-- the first type with a fault has this one
pub data HasFaultyType : List Mentioned → List DeclaredType → TypeFault → Type 0 where
  faulty_now : (done : List Mentioned) (t : DeclaredType) (ts : List DeclaredType) (fault : TypeFault)
      → IsFaultOfType done t.name t.body fault → HasFaultyType done (t ∷ ts) fault
  faulty_later : (done : List Mentioned) (t : DeclaredType) (ts : List DeclaredType) (p : Presentation) (fault : TypeFault)
      → IsPresentation done t.name t.body p → HasFaultyType (done ++ declared_with t p ∷ []) ts fault
      → HasFaultyType done (t ∷ ts) fault

-- ---- The flattened data.

-- the types in which nothing is formal
abbrev pub without_formals : List Mentioned → List Mentioned
without_formals [] = []
without_formals (t ∷ ts) = if is_formal t.presentation then without_formals ts else t ∷ without_formals ts

abbrev pub flattened_data_of : Presentation → Data
flattened_data_of p = record { signature = p.signature; equations = p.equations }

-- the types of these numbers, in this order
abbrev pub types_at : List DeclaredType → List ℕ → List DeclaredType
types_at types order = flat_map (λ (number : ℕ). option_to_list (slice_get types number)) order

-- The types have these data. That their names have no fault is asked before.
pub record IsFlattening (types : List DeclaredType) (data_ : Data) : Type 0 where
  pub order : List ℕ
  pub ordered : IsFlatteningOrder (mention_graph types) order
  pub all : List Mentioned
  pub presented : ArePresented [] (types_at types order) all
  pub united : union_fault (without_formals all) ≡ None
  pub answered : flattened_data_of (union_of (without_formals all)) ≡ data_

-- The union of the types in which nothing is formal has this fault, at the name of the type that brings it.
pub record IsFaultOfUnion (types : List DeclaredType) (fault : TypeFault) : Type 0 where
  pub order : List ℕ
  pub ordered : IsFlatteningOrder (mention_graph types) order
  pub all : List Mentioned
  pub presented : ArePresented [] (types_at types order) all
  pub clash : union_fault (without_formals all) ≡ Some fault

-- This is the first fault of flattening the types: that of a type, or that of the union behind all of them.
abbrev pub IsFlatteningFault : List DeclaredType → TypeFault → Type 0
IsFlatteningFault types fault =
    ((order : List ℕ) × IsFlatteningOrder (mention_graph types) order × HasFaultyType [] (types_at types order) fault) ⊎ IsFaultOfUnion
    types fault
