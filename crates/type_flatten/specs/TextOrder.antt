-- The order of flattening in words of its own: each type once, behind all that it mentions, and in the order of the text as far as
-- mentions allow.
use Rattle.std.specs.Prelude.{◌≡◌, ℕ, ◌<◌, ◌≤◌, List, length, slice_get, Some}
use Rattle.type_definitions.specs.TypeGraph.{Mentions, MentionsLead, IsWithin}
use Rattle.type_definitions.specs.FlatteningOrder.{IsFlatteningOrder}
use Rattle.type_definitions.specs.DeclaredTypes.{DeclaredType, mention_graph}
use Rattle.type_definitions.specs.MentionFaults.{AreAllKnown}

-- the type stands at this position of the order
abbrev pub TypeStandsAt : List ℕ → ℕ → ℕ → Type 0
TypeStandsAt order position i = slice_get order position ≡ Some i

pub record IsOrderOfText (graph : List (List ℕ)) (order : List ℕ) : Type 0 where
  -- each type stands in it, and nothing else does
  pub each : (i : ℕ) → i < length graph → (k : ℕ) × TypeStandsAt order k i
  pub only : (k i : ℕ) → TypeStandsAt order k i → i < length graph
  -- once
  pub once : (k l i : ℕ) → TypeStandsAt order k i → TypeStandsAt order l i → k ≡ l
  -- behind all that it mentions
  pub behind : (k l i j : ℕ) → TypeStandsAt order k i → TypeStandsAt order l j → Mentions graph i j → l < k
  -- where a type stands before one that comes earlier in the text, it is mentioned, at once or by others, by a type that comes no
  -- later than that one
  pub text : (k l i j : ℕ) → TypeStandsAt order k i → TypeStandsAt order l j → i < j → l < k → (r : ℕ) × (r ≤ i) × MentionsLead graph r j

pub record FlatteningFollowsTheText : Type 0 where
  -- where each mention is one of a type
  pub graphs : (graph : List (List ℕ)) (order : List ℕ) → IsWithin graph → IsFlatteningOrder graph order → IsOrderOfText graph order
  -- so the types of a text whose mentions are all known are flattened
  pub types :
      (types : List DeclaredType) (order : List ℕ) →
      AreAllKnown types →
      IsFlatteningOrder (mention_graph types) order →
      IsOrderOfText (mention_graph types) order
