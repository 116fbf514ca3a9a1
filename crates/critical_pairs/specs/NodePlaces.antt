-- The places of a term at which an operation stands, with its number and that of the operation that begins its first argument.
use Rattle.std.specs.Prelude.{◌≡◌, ℕ, zero, suc, List, [], ◌∷◌, ◌++◌, Option, Some}
use Rattle.lotos_base.specs.Term.{Term, variable, node, Terms, no_terms, term_then}
use Rattle.lotos_base.specs.Path.{subterm}
use Rattle.term_store.specs.HandedOn.{first_head}

-- a place: its path, the number of the operation there, and that of the one at the head of the first argument, if one is there
pub record PlaceOfNode : Type 0 where
  pub path : List ℕ
  pub head : ℕ
  pub first : Option ℕ

abbrev mutual
  -- The places of the term in preorder, if the term stands at this path.
  pub node_places : List ℕ → Term → List PlaceOfNode
  node_places path (variable n s) = []
  node_places path (node f ts) = record { path = path; head = f; first = first_head ts } ∷ argument_places path zero ts

  -- Those of the arguments, of which the first one has this position, of what stands at the path.
  pub argument_places : List ℕ → ℕ → Terms → List PlaceOfNode
  argument_places path k no_terms = []
  argument_places path k (term_then t ts) = node_places (path ++ k ∷ []) t ++ argument_places path (suc k) ts

-- an operation at the path of the place, and one at the head of its first argument, are those of the place
abbrev pub IsHeadAt : Term → PlaceOfNode → Type 0
IsHeadAt t place =
    (f : ℕ) (ts : Terms) → subterm place.path t ≡ Some (node f ts) → (f ≡ place.head) × (first_head ts ≡ place.first)
