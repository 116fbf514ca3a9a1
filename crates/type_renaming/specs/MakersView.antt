-- The makers that the code keeps.
use Rattle.std.specs.Prelude.{List, Option, map}
use Rattle.std.specs.Option.{option_map}
use Rattle.lotos_base.specs.WrittenView.{text_place_of}
use Rattle.lotos_base.specs.declared.places.Place.{Place as CodePlace}
use Rattle.lotos_base.specs.Equation.{Place}
use Rattle.type_renaming.specs.declared.makers.Makers.{Makers}

-- the place, if there is one
abbrev pub place_seen : Option CodePlace → Option Place
place_seen place = option_map text_place_of place

-- the places by number
abbrev pub makers_in : Makers → List (Option Place)
makers_in makers = map place_seen makers.places.items
