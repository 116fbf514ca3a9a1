-- What is known of the readings at each sort, and over all sorts.
use Rattle.std.specs.Prelude.{◌≡◌, ◌⊎◌, ℕ, true, false, Option, None, Some}
use Rattle.std.specs.Ordering.{nat_cmp}
use Rattle.std.specs.BTreeMap.{get}
use Rattle.sort_terms.specs.declared.choices.Choice.{Choice}
use Rattle.sort_terms.specs.declared.choices.Choices.{Choices}
use Rattle.sort_terms.specs.declared.choices.Found.{Found}
use Rattle.sort_terms.specs.declared.choices.Found.TheVariants.{Nothing, One, Several}

-- what is known of the readings of the sort
abbrev pub choice_at : Choices → ℕ → Option Choice
choice_at choices sort = get nat_cmp choices.by_sort sort

-- there are this many readings over all sorts, by what is known at each
abbrev pub IsFound : (ℕ → Option Choice) → Found → Type 0
IsFound choices Nothing = (s : ℕ) → choices s ≡ None
IsFound choices (One sort) = ((c : Choice) × (choices sort ≡ Some c) × (c.several ≡ false)) × ((s : ℕ) → ¬ (s ≡ sort) → choices s ≡ None)
IsFound choices Several =
    ((s : ℕ) × (c : Choice) × (choices s ≡ Some c) × (c.several ≡ true))
    ⊎ ((s : ℕ) × (r : ℕ) × (c : Choice) × (d : Choice) × (choices s ≡ Some c) × (choices r ≡ Some d) × ¬ (s ≡ r))
