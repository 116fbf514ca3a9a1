-- A text whose places rise along it: `specification S [a] : noexit behaviour b ?x, x : Q; c; stop endspec`, in which a gate is not
-- visible, a variable is declared twice, and two variables share a sort.
use Rattle.std.specs.Prelude.{ℕ, [], ◌∷◌, None}
use Rattle.lotos_base.specs.Equation.{Place}
use Rattle.syntax_trees.specs.WrittenBehaviour.{WrittenBehaviour, WrittenOffer, offer_variable, action, stop}
use Rattle.syntax_trees.specs.WrittenDefinition.{WrittenHeading, WrittenSpecification}
use Rattle.scope_parts.specs.TextOrder.{PlacesRise}

-- the place in the first line at this column
abbrev pub column : ℕ → Place
column n = record { text = 0; line = 1; column = n }

abbrev pub sample_heading : WrittenHeading
sample_heading = record {
  place = column 15;
  name = 83 ∷ [];
  gates = record { place = column 18; name = 97 ∷ [] } ∷ [];
  parameters = [];
  functionality = None;
}

-- `?x`, at this column, with the sort that both variables share
abbrev pub sample_offer : ℕ → WrittenOffer
sample_offer n = offer_variable (record { place = column n; name = 120 ∷ []; sort = 81 ∷ []; sort_place = column 51 })

abbrev pub sample_end : WrittenBehaviour
sample_end = action (column 54) (99 ∷ []) [] None (stop (column 57))

abbrev pub sample_body : WrittenBehaviour
sample_body = action (column 40) (98 ∷ []) (sample_offer 43 ∷ sample_offer 46 ∷ []) None sample_end

abbrev pub sample : WrittenSpecification
sample = record { heading = sample_heading; items = []; body = sample_body; inner = [] }

abbrev pub SampleRises : Type 0
SampleRises = PlacesRise sample
