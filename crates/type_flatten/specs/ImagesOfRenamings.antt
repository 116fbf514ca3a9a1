-- Laws of renamings: the presentation is the image of its base, under a map of sorts and one of operations that keep different
-- ones different.
use Rattle.std.specs.Prelude.{◌≡◌, ℕ, true, List, None, Some, map, slice_get}
use Rattle.lotos_base.specs.Signature.{Sort, Operation, IsOperation, IsWellFormedSignature}
use Rattle.lotos_base.specs.Equation.{IsWellFormedData}
use Rattle.syntax_trees.specs.WrittenItem.{WrittenPairs}
use Rattle.sort_terms.specs.WellFormedTest.{are_one_sort, are_one_operation}
use Rattle.type_definitions.specs.Images.{equation_image}
use Rattle.type_definitions.specs.Presentation.{Presentation}
use Rattle.type_definitions.specs.Renaming.{renamed_presentation, renaming_fault, renamed_sort, renamed_operation}
use Rattle.type_definitions.specs.Flattened.{flattened_data_of}

pub record RenamingsAreImages : Type 0 where
  -- the sorts are the images of those of the base, each at its number, and so are the operations
  pub sorts : (base : Presentation) (name : List ℕ) (pairs : WrittenPairs)
      → (renamed_presentation base name pairs).signature.sorts ≡ map (renamed_sort name pairs) base.signature.sorts
  pub operations : (base : Presentation) (name : List ℕ) (pairs : WrittenPairs)
      → (renamed_presentation base name pairs).signature.operations ≡ map (renamed_operation name pairs) base.signature.operations
  -- each equation is the image of that of the base; since numbers stay, it is that equation
  pub equations : (base : Presentation) (name : List ℕ) (pairs : WrittenPairs)
      → (renamed_presentation base name pairs).equations ≡ map (equation_image (λ n. n) (λ n. n)) base.equations
  -- without a fault images of different sorts have different names
  pub sorts_differ : (base : Presentation) (name : List ℕ) (pairs : WrittenPairs) → IsWellFormedSignature base.signature
      → renaming_fault base name pairs ≡ None → (i j : ℕ) (s t : Sort) → slice_get base.signature.sorts i ≡ Some s
      → slice_get base.signature.sorts j ≡ Some t
      → are_one_sort (renamed_sort name pairs s) (renamed_sort name pairs t) ≡ true → i ≡ j
  -- and images of different operations have different names, forms or profiles
  pub operations_differ : (base : Presentation) (name : List ℕ) (pairs : WrittenPairs) → IsWellFormedSignature base.signature
      → renaming_fault base name pairs ≡ None → (f g : ℕ) (o p : Operation) → IsOperation base.signature f o
      → IsOperation base.signature g p
      → are_one_operation (renamed_operation name pairs o) (renamed_operation name pairs p) ≡ true → f ≡ g
  -- so the image of well-formed data is well formed
  pub well_formed : (base : Presentation) (name : List ℕ) (pairs : WrittenPairs) → IsWellFormedData (flattened_data_of base)
      → renaming_fault base name pairs ≡ None → IsWellFormedData (flattened_data_of (renamed_presentation base name pairs))
