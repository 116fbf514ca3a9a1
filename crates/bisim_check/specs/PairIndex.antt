-- Pairs by buckets: pairs of the same states are in one bucket.
use Rattle.std.specs.Prelude.{◌≡◌, ℕ, ◌%◌, List, [], ◌∷◌, ◌++◌, Some, slice_get, if◌then◌else◌, nat_eq}
use Rattle.behaviour_tree.specs.Digests.{digest}
use Rattle.behaviour_tree.specs.Mixing.{mixed}
use Rattle.behaviour_semantics.specs.Behaviour.{Behaviour}
use Rattle.certificate_theory.specs.Certificate.{ListedPair}
use Rattle.path_order.specs.HeadIndexView.{numbers_at}
use Rattle.path_order.specs.declared.head_index.HeadIndex.{HeadIndex}
use Rattle.bisim_check.specs.Readings.{listed_pairs_in, ArePlaced}
use Rattle.bisim_check.specs.declared.readings.Reading.{Reading}

-- the bucket of two states
abbrev pub bucket_of : Behaviour → Behaviour → ℕ
bucket_of b c = mixed (digest b) (digest c) % 65536

-- The number is one of these.
pub record IsFiled (number : ℕ) (numbers : List ℕ) : Type 0 where
  pub position : ℕ
  pub there : slice_get numbers position ≡ Some number

-- Each pair is in the bucket of its states, by its number.
abbrev pub IsPairIndex : List ListedPair → HeadIndex → Type 0
IsPairIndex pairs index = (number : ℕ) (pair : ListedPair) → slice_get pairs number ≡ Some pair
    → IsFiled number (numbers_at index (bucket_of pair.left pair.right))

-- The later index is the earlier one with the number of the pair.
abbrev pub AddsNumber : ListedPair → ℕ → HeadIndex → HeadIndex → Type 0
AddsNumber pair number before after = (f : ℕ)
    → numbers_at after f ≡ numbers_at before f ++ (if nat_eq (bucket_of pair.left pair.right) f then number ∷ [] else [])

-- The pair with this number is the one of these states.
pub record PairStandsAt (pairs : List ListedPair) (b c : Behaviour) (number : ℕ) : Type 0 where
  pub pair : ListedPair
  pub there : slice_get pairs number ≡ Some pair
  pub left : pair.left ≡ b
  pub right : pair.right ≡ c

-- The states of all pairs are there, and the index is that of the pairs.
pub record IsSearchable (reading : Reading) (index : HeadIndex) : Type 0 where
  pub placed : ArePlaced reading
  pub filed : IsPairIndex (listed_pairs_in reading) index
