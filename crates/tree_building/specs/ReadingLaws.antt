-- What holds of readings and their faults.
use Rattle.std.specs.Prelude.{◌≡◌, ◌⊎◌, ℕ, List}
use Rattle.lotos_base.specs.WrittenTerm.{WrittenTerm, ListedOperation}
use Rattle.syntax_trees.specs.WrittenItem.{WrittenItem}
use Rattle.syntax_trees.specs.WrittenDefinition.{WrittenSpecification}
use Rattle.tree_building.specs.declared.fault.ReadFault.{ReadFault}
use Rattle.tree_building.specs.declared.fault.ReadFault.TheVariants.{NoMemory}
use Rattle.tree_building.specs.Reading.{IsSpecificationReading, IsSpecificationFault, IsTypesReading, IsTypesFault, IsOrderReading, IsOrderReadFault, IsTermsReading, IsTermsFault}

-- one text is one tree at most, has no fault where it is one, and else one fault at most; but want of memory may come always
pub record HasOneOutcome {A : Type 0} (reading : ℕ → List ℕ → A → Type 0) (fault : ℕ → List ℕ → ReadFault → Type 0) : Type 0 where
  pub one_tree : (number : ℕ) (text : List ℕ) (some other : A) → reading number text some → reading number text other → some ≡ other
  pub not_both : (number : ℕ) (text : List ℕ) (tree : A) (cause : ReadFault) → reading number text tree → fault number text cause
      → cause ≡ NoMemory
  pub one_fault : (number : ℕ) (text : List ℕ) (some other : ReadFault) → fault number text some → fault number text other →
      (some ≡ NoMemory) ⊎ ((other ≡ NoMemory) ⊎ (some ≡ other))

pub record TextsHaveOneOutcome : Type 0 where
  pub specification : HasOneOutcome {A = WrittenSpecification} IsSpecificationReading IsSpecificationFault
  pub items : HasOneOutcome {A = List WrittenItem} IsTypesReading IsTypesFault
  pub order : HasOneOutcome {A = List ListedOperation} IsOrderReading IsOrderReadFault
  pub terms : HasOneOutcome {A = List WrittenTerm} IsTermsReading IsTermsFault
