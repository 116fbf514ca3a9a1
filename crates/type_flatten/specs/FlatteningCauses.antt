-- The causes of the faults of types, along the order in which they are flattened.
use Rattle.std.specs.Prelude.{ℕ, List, [], ◌∷◌, ◌++◌}
use Rattle.syntax_trees.specs.WrittenItem.{WrittenSections, WrittenTypeBody, extends, renames, actualises}
use Rattle.type_definitions.specs.TypeFault.{TypeFault}
use Rattle.type_definitions.specs.Presentation.{Presentation, nothing}
use Rattle.type_definitions.specs.Union.{Mentioned, union_of, with_mentioned}
use Rattle.type_definitions.specs.Extension.{extended, asked_of}
use Rattle.type_definitions.specs.DeclaredTypes.{DeclaredType}
use Rattle.type_definitions.specs.Flattened.{presentation_named, mention_of, mentions_with, IsPresentation, declared_with, ArePresented, without_formals}
use Rattle.type_flatten.specs.FirstCause.{IsNowhere, OrElse, FirstAlong}
use Rattle.type_flatten.specs.FaultCauses.{Cause, MentionBrings, DeclarationsBring}
use Rattle.type_flatten.specs.EquationCauses.{EquationsBring}
use Rattle.type_flatten.specs.RenamingCauses.{RenamingBrings}
use Rattle.type_flatten.specs.ActualisationCauses.{ActualisationBrings}

-- ---- One type. `done` are the types that are flattened already.

-- the first of what is mentioned that brings a fault to the union
abbrev pub UnionBrings : List Mentioned → Cause
UnionBrings mentioned = FirstAlong MentionBrings with_mentioned nothing mentioned

-- the union of the imports, then the sorts and operations, then the equations
abbrev pub ExtensionBrings : List Mentioned → List ℕ → WrittenSections → Cause
ExtensionBrings imports type_name sections =
    OrElse (OrElse (UnionBrings imports) (DeclarationsBring type_name (union_of imports) sections))
    (EquationsBring type_name (extended imports type_name sections) (asked_of sections))

abbrev pub BodyBrings : List Mentioned → List ℕ → WrittenTypeBody → Cause
BodyBrings done type_name (extends imports sections) = ExtensionBrings (mentions_with done imports) type_name sections
BodyBrings done type_name (renames base pairs) = RenamingBrings (presentation_named done base.name) type_name pairs
BodyBrings done type_name (actualises base actuals pairs) =
    ActualisationBrings (mention_of done base) (mentions_with done actuals) type_name pairs

-- ---- All types

-- The first type with a cause has the fault; each type before it has its presentation.
pub data FirstTypeBrings : List Mentioned → List DeclaredType → TypeFault → Type 0 where
  type_brings : (done : List Mentioned) (t : DeclaredType) (ts : List DeclaredType) (fault : TypeFault)
      → BodyBrings done t.name t.body fault → FirstTypeBrings done (t ∷ ts) fault
  later_type_brings : (done : List Mentioned) (t : DeclaredType) (ts : List DeclaredType) (p : Presentation) (fault : TypeFault)
      → IsNowhere (BodyBrings done t.name t.body) → IsPresentation done t.name t.body p
      → FirstTypeBrings (done ++ declared_with t p ∷ []) ts fault → FirstTypeBrings done (t ∷ ts) fault

-- all types have presentations, and the union of those in which nothing is formal has the fault
pub record LastUnionBrings (types : List DeclaredType) (fault : TypeFault) : Type 0 where
  pub all : List Mentioned
  pub presented : ArePresented [] types all
  pub brings : UnionBrings (without_formals all) fault

-- for types in the order of flattening: the types, or else the union of those in which nothing is formal
abbrev pub FlatteningBrings : List DeclaredType → Cause
FlatteningBrings types = OrElse (FirstTypeBrings [] types) (LastUnionBrings types)
