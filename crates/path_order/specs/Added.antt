-- A number that is added where a fact holds.
use Rattle.std.specs.Prelude.{◌≡◌, ◌⊎◌, ℕ, List, [], ◌∷◌, ◌++◌}
use Rattle.lotos_base.specs.WrittenTerm.{ListedOperation}
use Rattle.lotos_base.specs.Signature.{Signature, Operation, IsOperation}
use Rattle.path_order.specs.Listed.{SuitsItem}

-- The operation with this number suits the item.
abbrev pub IsSuitable : Signature → ℕ → ListedOperation → Type 0
IsSuitable signature f item = (operation : Operation) × IsOperation signature f operation × SuitsItem signature operation item

-- The fact holds, and the number was added at the end; or it does not, and nothing was.
abbrev pub IsAddedIf : Type 0 → ℕ → List ℕ → List ℕ → Type 0
IsAddedIf Fact f old new = (Fact × (new ≡ old ++ f ∷ [])) ⊎ ((¬ Fact) × (new ≡ old))
