-- The names in pairs, and the names of what a signature has.
use Rattle.std.specs.Prelude.{ℕ, List, map}
use Rattle.lotos_base.specs.Signature.{Signature, Sort, Operation}
use Rattle.syntax_trees.specs.WrittenItem.{WrittenPair}

-- the old names
abbrev pub old_names : List WrittenPair → List (List ℕ)
old_names pairs = map (λ (pair : WrittenPair). pair.replaced.name) pairs

-- the new names
abbrev pub new_names : List WrittenPair → List (List ℕ)
new_names pairs = map (λ (pair : WrittenPair). pair.given) pairs

-- the names of the sorts
abbrev pub names_of_sorts : Signature → List (List ℕ)
names_of_sorts signature = map (λ (s : Sort). s.name) signature.sorts

-- the names of the operations
abbrev pub names_of_operations : Signature → List (List ℕ)
names_of_operations signature = map (λ (o : Operation). o.name) signature.operations
