-- The rules that may overlap a term, found by the operations in it.
use Rattle.std.specs.Prelude.{ℕ, List, [], ◌∷◌, Option, None, Some, nat_lt, nat_le, if◌then◌else◌}
use Rattle.rewriting_theory.specs.Rule.{Rule}
use Rattle.path_order.specs.RuleHead.{headed}
use Rattle.term_store.specs.HandedOn.{is_open, has_first, numbered_where}
use Rattle.critical_pairs.specs.NodePlaces.{PlaceOfNode}

-- the lesser one of a number and the one known before, if there is one
abbrev pub lesser_of : Option ℕ → ℕ → Option ℕ
lesser_of None number = Some number
lesser_of (Some best) number = Some (if nat_le best number then best else number)

-- the number is considered if it is not below this one
abbrev pub considered : ℕ → Option ℕ → ℕ → Option ℕ
considered from known number = if nat_lt number from then known else lesser_of known number

-- the least of the numbers from this one on and of the one known before
abbrev pub least_from : ℕ → Option ℕ → List ℕ → Option ℕ
least_from from known [] = known
least_from from known (number ∷ numbers) = least_from from (considered from known number) numbers

-- the same of the rules whose left sides may overlap a term with this operation and first argument at its head
abbrev pub place_least : List Rule → ℕ → Option ℕ → ℕ → Option ℕ → Option ℕ
place_least rules from known head None = least_from from known (headed head rules)
place_least rules from known head (Some first) =
    least_from from (least_from from known (numbered_where (is_open head) 0 rules)) (numbered_where (has_first first) 0 rules)

-- the least number from this one on of a rule whose left side may overlap what stands at one of the places
abbrev pub all_least : List Rule → ℕ → Option ℕ → List PlaceOfNode → Option ℕ
all_least rules from known [] = known
all_least rules from known (place ∷ places) = all_least rules from (place_least rules from known place.head place.first) places
