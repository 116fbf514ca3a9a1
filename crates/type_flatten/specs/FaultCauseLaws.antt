-- The faults of unions, of declarations and of pairs come exactly where their causes stand, and the first cause counts.
use Rattle.std.specs.Prelude.{◌≡◌, ◌↔◌, ℕ, List, [], Some}
use Rattle.lotos_base.specs.Equation.{Place}
use Rattle.lotos_base.specs.Signature.{Signature}
use Rattle.syntax_trees.specs.WrittenItem.{WrittenPair, WrittenSections}
use Rattle.type_definitions.specs.TypeFault.{TypeFault}
use Rattle.type_definitions.specs.Presentation.{Presentation, nothing}
use Rattle.type_definitions.specs.Union.{Mentioned, presentation_fault, with_mentioned, union_fault}
use Rattle.type_definitions.specs.Declarations.{declaration_fault}
use Rattle.type_definitions.specs.Renaming.{sort_pairs_fault, operation_pairs_fault}
use Rattle.type_flatten.specs.FaultCauses.{FirstAlong, IsWrongWith, MentionBrings, DeclarationsBring, SortPairBrings, OperationPairBrings, with_earlier_pair}

pub record UnionsAreFaultyWhereCaused : Type 0 where
  -- a presentation that comes about at a place has a fault exactly where its cause stands
  pub presentations :
      (place : Place) (name : List ℕ) (p : Presentation) (fault : TypeFault) →
      (presentation_fault place name p ≡ Some fault) ↔ IsWrongWith place name p fault
  -- a union has the fault of the first mention that brings one
  pub unions :
      (mentioned : List Mentioned) (fault : TypeFault) →
      (union_fault mentioned ≡ Some fault) ↔ FirstAlong MentionBrings with_mentioned nothing mentioned fault

-- what a type declares has the fault of the first sort or operation that brings one
abbrev pub DeclarationsAreFaultyWhereCaused : Type 0
DeclarationsAreFaultyWhereCaused =
    (origin : List ℕ) (p : Presentation) (sections : WrittenSections) (fault : TypeFault) →
    (declaration_fault origin p sections ≡ Some fault) ↔ DeclarationsBring origin p sections fault

-- the pairs of a renaming have the fault of the first pair that brings one
pub record PairsAreFaultyWhereCaused : Type 0 where
  pub sorts :
      (signature : Signature) (pairs : List WrittenPair) (fault : TypeFault) →
      (sort_pairs_fault signature [] pairs ≡ Some fault) ↔ FirstAlong (SortPairBrings signature) with_earlier_pair [] pairs fault
  pub operations :
      (signature : Signature) (pairs : List WrittenPair) (fault : TypeFault) →
      (operation_pairs_fault signature [] pairs ≡ Some fault) ↔ FirstAlong (OperationPairBrings signature) with_earlier_pair [] pairs fault
