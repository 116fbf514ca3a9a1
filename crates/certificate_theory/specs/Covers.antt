-- Covers of sorts: which operations an irreducible ground term of a sort may begin with.
use Rattle.std.specs.Prelude.{◌≡◌, ℕ, zero, suc, List, [], ◌∷◌, Option, None, Some, slice_get, IsTrue, nat_eq, if◌then◌else◌}
use Rattle.lotos_base.specs.Signature.{Signature, Operation, IsOperation}
use Rattle.lotos_base.specs.Term.{node, Terms}
use Rattle.lotos_base.specs.Sorting.{IsGroundOf}
use Rattle.lotos_base.specs.Substitution.{is_listed}
use Rattle.rewriting_theory.specs.Rule.{Rule}
use Rattle.rewriting_theory.specs.Rewriting.{IsNormal}
use Rattle.certificate_theory.specs.InductionCertificate.{Cover}

-- The number is in the list.
abbrev pub IsListedIn : List ℕ → ℕ → Type 0
IsListedIn numbers n = IsTrue (is_listed numbers n)

-- The sort is covered by the operations: the head of each irreducible ground term of the sort is one of them.
abbrev pub IsCoveredBy : Signature → List Rule → ℕ → List ℕ → Type 0
IsCoveredBy signature rules sort operations =
    (f : ℕ) (ts : Terms) → IsGroundOf signature sort (node f ts) → IsNormal rules (node f ts) → IsListedIn operations f

-- The operations of the first cover of a sort, if the sort has one.
abbrev pub cover_of : List Cover → ℕ → Option (List ℕ)
cover_of [] s = None
cover_of (cover ∷ covers) s = if nat_eq cover.sort s then Some cover.operations else cover_of covers s

-- An operation of a signature with its number.
pub record Numbered : Type 0 where
  pub number : ℕ
  pub operation : Operation

-- Those of the operations, of which the first one has this number, whose numbers are listed, in their order.
abbrev pub listed_from : List ℕ → ℕ → List Operation → List Numbered
listed_from numbers n [] = []
listed_from numbers n (o ∷ os) =
    if is_listed numbers n
    then record { number = n; operation = o } ∷ listed_from numbers (suc n) os
    else listed_from numbers (suc n) os

-- The operations with these numbers, in the order of the signature.
abbrev pub in_signature_order : Signature → List ℕ → List Numbered
in_signature_order signature numbers = listed_from numbers zero signature.operations

-- The number is that of an operation with this result.
abbrev pub HasResult : Signature → ℕ → ℕ → Type 0
HasResult signature sort f = (operation : Operation) × IsOperation signature f operation × (operation.result ≡ sort)

-- The cover is right behind others: its sort has none yet, and it lists operations that have its sort as result, each once.
pub record IsRightCover (signature : Signature) (earlier : List Cover) (cover : Cover) : Type 0 where
  pub only_one : cover_of earlier cover.sort ≡ None
  pub results : (i f : ℕ) → slice_get cover.operations i ≡ Some f → HasResult signature cover.sort f
  pub once : (i j f : ℕ) → slice_get cover.operations i ≡ Some f → slice_get cover.operations j ≡ Some f → i ≡ j
