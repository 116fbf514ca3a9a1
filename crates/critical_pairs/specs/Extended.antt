-- Lists of pairs of the code with the pairs of some places added.
use Rattle.std.specs.Prelude.{◌≡◌, ℕ, List, [], ◌∷◌, Option, None, Some, map}
use Rattle.lotos_base.specs.Signature.{Signature}
use Rattle.rewriting_theory.specs.PairList.{PairPlace}
use Rattle.critical_pairs.specs.OverlapPair.{IsOverlapPair, IsOverOverlap}
use Rattle.path_order.specs.RulesView.{rules_in, signature_in}
use Rattle.path_order.specs.declared.rule.Rule.{Rule}
use Rattle.path_order.specs.declared.rules.Rules.{Rules}
use Rattle.path_order.specs.RuleSides.{sides_of}
use Rattle.critical_pairs.specs.Listing.{AddsPairs, ArePairsOver}
use Rattle.critical_pairs.specs.PairView.{critical_pairs_in, terms_in}
use Rattle.critical_pairs.specs.declared.pair.Pair.{Pair}
use Rattle.critical_pairs.specs.declared.places.NodePlace.{NodePlace}

-- The second list is the first one and after it the pairs of these places, and its terms are of the signature of the rules
-- if those of the first one are.
pub record AddsPairsOf (rules : Rules) (places : List PairPlace) (before after : List Pair) : Type 0 where
  pub listed : AddsPairs (rules_in rules) places (critical_pairs_in before) (critical_pairs_in after)
  pub over : ArePairsOver (signature_in rules) before → ArePairsOver (signature_in rules) after

-- the paths of the places
abbrev pub paths_in : List NodePlace → List (List ℕ)
paths_in places = map (λ (place : NodePlace). place.path.items) places

-- the pair, if there is one, as a list
abbrev pub listed_option : Option Pair → List Pair
listed_option None = []
listed_option (Some pair) = pair ∷ []

-- The pair is that of the two rules at the path, with the numbers of their equations.
pub record IsPairAt (first second : Rule) (path : List ℕ) (pair : Pair) : Type 0 where
  pub terms : IsOverlapPair (sides_of first) (sides_of second) path (terms_in pair)
  pub first_number : pair.first ≡ first.equation
  pub second_number : pair.second ≡ second.equation
  pub is_path : pair.path.items ≡ path
  pub over : (signature : Signature) → IsOverOverlap signature (sides_of first) (sides_of second) (terms_in pair)
