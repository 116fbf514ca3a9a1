-- How far a search has come that looks for what a type leads to.
use Rattle.std.specs.Prelude.{◌≡◌, ◌⊎◌, ◌+◌, ℕ, Bool, true, false, not, List, length, slice_index_or}
use Rattle.std.specs.List.{count_by}
use Rattle.type_definitions.specs.TypeGraph.{is_among, Mentions, MentionsLead}

-- the type was seen
abbrev pub IsSeen : List Bool → ℕ → Type 0
IsSeen seen i = slice_index_or seen i false ≡ true

-- how many types were not
abbrev pub unseen_count : List Bool → ℕ
unseen_count seen = count_by not seen

-- The mentioned types were seen, and those of them that were new now wait.
pub record Sees (mentioned : List ℕ) (seen : List Bool) (work : List ℕ) (seen' : List Bool) (work' : List ℕ) : Type 0 where
  pub kept : (i : ℕ) → IsSeen seen i → IsSeen seen' i
  pub mentioned_seen : (i : ℕ) → is_among mentioned i ≡ true → IsSeen seen' i
  pub fresh : (i : ℕ) → IsSeen seen' i → IsSeen seen i ⊎ ((is_among mentioned i ≡ true) × (is_among work' i ≡ true))
  pub waiting : (i : ℕ) → is_among work i ≡ true → is_among work' i ≡ true
  pub origin : (i : ℕ) → is_among work' i ≡ true → (is_among work i ≡ true) ⊎ (is_among mentioned i ≡ true)
  pub as_many : length seen' ≡ length seen
  pub balance : unseen_count seen' + length work' ≡ unseen_count seen + length work

-- What was seen is what the first type leads to, and itself; what is seen and does not wait has passed its mentions on, and
-- is not what is looked for.
pub record IsReaching (graph : List (List ℕ)) (from to : ℕ) (seen : List Bool) (work : List ℕ) : Type 0 where
  pub covers : length seen ≡ length graph
  pub begun : IsSeen seen from
  pub sound : (i : ℕ) → IsSeen seen i → (from ≡ i) ⊎ MentionsLead graph from i
  pub waits : (i : ℕ) → is_among work i ≡ true → IsSeen seen i
  pub closed : (i : ℕ) → IsSeen seen i
      → (is_among work i ≡ true) ⊎ ((¬ (i ≡ to)) × ((j : ℕ) → Mentions graph i j → IsSeen seen j))
