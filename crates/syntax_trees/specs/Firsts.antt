-- The first nodes of trees from each depth on, in text order. From them follows the first node that is too deep, at
-- whatever depth the trees stand: so trees need not be made to find it.
use Rattle.std.specs.Prelude.{ℕ, List, [], ◌∷◌, ◌++◌, Option, Some, None, length, drop, slice_get}
use Rattle.std.specs.Option.{option_or}
use Rattle.lotos_base.specs.Equation.{Place}

-- The place with the index d is that of the first node that stands d or more below the root; past the list it is `rest`, which
-- is the place of a node that is too deep wherever the root stands, as in a term inside a behaviour.
pub record Firsts : Type 0 where
  pub places : List Place
  pub rest : Option Place

-- the first node so far below the root or further
abbrev pub first_from : Firsts → ℕ → Option Place
first_from firsts below = option_or (slice_get firsts.places below) firsts.rest

-- of no node
abbrev pub no_nodes : Firsts
no_nodes = record { places = []; rest = None }

-- of nodes that are too deep wherever the root stands, or of none such
abbrev pub everywhere : Option Place → Firsts
everywhere place = record { places = []; rest = place }

-- of what stands before, and then of what stands behind it
abbrev pub firsts_followed_by : List Place → Option Place → Firsts → Firsts
firsts_followed_by places (Some place) behind = record { places = places; rest = Some place }
firsts_followed_by places None behind = record { places = places ++ drop (length places) behind.places; rest = behind.rest }

abbrev pub firsts_followed : Firsts → Firsts → Firsts
firsts_followed before behind = firsts_followed_by before.places before.rest behind

-- of a node and of the parts behind it, which stand one below it
abbrev pub firsts_below : Place → Firsts → Firsts
firsts_below place parts = record { places = place ∷ parts.places; rest = parts.rest }

-- the first of these places is the first of all
abbrev pub first_then : List Place → Firsts → Firsts
first_then [] parts = parts
first_then (place ∷ places) parts = firsts_below place parts

-- of a node between its parts. The first of all nodes is that of the part before it, so the node itself is never the first.
abbrev pub firsts_between : Firsts → Firsts → Firsts
firsts_between before behind = first_then before.places (firsts_followed before behind)
