-- An operation that a type declares, over the sorts of a presentation.
use Rattle.std.specs.Prelude.{◌<◌, ◌^◌, ℕ, List, length, map}
use Rattle.lotos_base.specs.WrittenTerm.{PlacedName}
use Rattle.lotos_base.specs.Signature.{Sort, Operation}
use Rattle.syntax_trees.specs.WrittenItem.{WrittenOperation}
use Rattle.type_presentations.specs.NamesView.{HasNames}
use Rattle.type_presentations.specs.declared.names.NamePositions.{NamePositions}
use Rattle.type_definitions.specs.Presentation.{Presentation}
use Rattle.type_definitions.specs.Declarations.{sort_numbered}

-- the names of its sorts
abbrev pub sort_names : Presentation → List (List ℕ)
sort_names p = map (λ (s : Sort). s.name) p.signature.sorts

-- There are fewer names than numbers of 32 bits.
abbrev pub AreFewDeclaredNames : NamePositions → Type 0
AreFewDeclaredNames positions = (names : List (List ℕ)) × HasNames positions names × (length names < 2 ^ 32)

-- the operation, whose origin is the type
abbrev pub declared_operation : List ℕ → Presentation → WrittenOperation → Operation
declared_operation origin p declared = record {
  name = declared.name;
  form = declared.form;
  arguments = map (λ (s : PlacedName). sort_numbered p s.name) declared.arguments;
  result = sort_numbered p declared.result.name;
  origin = origin;
}
