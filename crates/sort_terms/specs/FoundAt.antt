-- How many readings there are of the expected sort, or over all sorts where none is expected.
use Rattle.std.specs.Prelude.{◌≡◌, ℕ, true, false, Option, None, Some}
use Rattle.sort_terms.specs.ChoicesView.{IsFound}
use Rattle.sort_terms.specs.declared.choices.Choice.{Choice}
use Rattle.sort_terms.specs.declared.choices.Found.{Found}
use Rattle.sort_terms.specs.declared.choices.Found.TheVariants.{Nothing, One, Several}

abbrev pub IsFoundAt : (ℕ → Option Choice) → Option ℕ → Found → Type 0
IsFoundAt choices None found = IsFound choices found
IsFoundAt choices (Some s) Nothing = choices s ≡ None
IsFoundAt choices (Some s) (One r) = (r ≡ s) × (c : Choice) × (choices s ≡ Some c) × (c.several ≡ false)
IsFoundAt choices (Some s) Several = (c : Choice) × (choices s ≡ Some c) × (c.several ≡ true)
