-- The places of the pairs that made members, by the members' numbers.
use Rattle.std.specs.Prelude.{ℕ, zero, suc, Bool, false, not, List, [], ◌∷◌, Option, None, Some}
use Rattle.lotos_base.specs.Equation.{Place}
use Rattle.type_definitions.specs.Presentation.{is_same_place}

-- as many members, none of which a pair made
abbrev pub no_makers : ℕ → List (Option Place)
no_makers zero = []
no_makers (suc n) = None ∷ no_makers n

-- the first of two places
abbrev pub first_place : Option Place → Option Place → Option Place
first_place None other = other
first_place (Some place) other = Some place

-- whether both are there and differ
abbrev pub two_makers : Option Place → Option Place → Bool
two_makers None other = false
two_makers (Some place) None = false
two_makers (Some place) (Some other) = not (is_same_place place other)

-- with a maker of the member of this number, or of a new one at the end
abbrev pub maker_noted : List (Option Place) → ℕ → Option Place → List (Option Place)
maker_noted [] number maker = maker ∷ []
maker_noted (p ∷ ps) zero maker = first_place p maker ∷ ps
maker_noted (p ∷ ps) (suc number) maker = p ∷ maker_noted ps number maker

-- the maker of the member of this number
abbrev pub maker_at : List (Option Place) → ℕ → Option Place
maker_at [] number = None
maker_at (p ∷ ps) zero = p
maker_at (p ∷ ps) (suc number) = maker_at ps number
