-- What the first nodes from each depth on tell: the first node that is deeper than a limit; and how they go with grouping.
use Rattle.std.specs.Prelude.{◌≡◌, ℕ, List, map, option_map}
use Rattle.lotos_base.specs.WrittenTerm.{WrittenTerm}
use Rattle.syntax_trees.specs.WrittenBehaviour.{WrittenBehaviour}
use Rattle.syntax_trees.specs.Depth.{first_deeper, nodes_of_term, behaviour_nodes}
use Rattle.syntax_trees.specs.Grouping.{grouped}
use Rattle.syntax_trees.specs.Strength.{PlacedSign, strength_of, joined_by_sign}
use Rattle.syntax_trees.specs.Firsts.{first_from, firsts_between}
use Rattle.syntax_trees.specs.TreeFirsts.{term_firsts, behaviour_firsts}

-- the first node that is deeper than the limit, of a term or a behaviour whose root is at 1
pub record FirstsTellTheFirstTooDeep : Type 0 where
  pub term : (limit : ℕ) (term : WrittenTerm) → first_deeper limit (nodes_of_term term) ≡ first_from (term_firsts term) limit
  pub behaviour : (limit : ℕ) (behaviour : WrittenBehaviour) →
      first_deeper limit (behaviour_nodes 1 behaviour) ≡ first_from (behaviour_firsts limit behaviour) limit

-- the first nodes of a flat list of behaviours are found by grouping those of its operands, with the strengths of its signs
abbrev pub FirstsAreGrouped : Type 0
FirstsAreGrouped =
    (limit : ℕ) (operands : List WrittenBehaviour) (signs : List PlacedSign) →
    option_map (behaviour_firsts limit) (grouped strength_of joined_by_sign operands signs)
    ≡ grouped (λ strength. strength) (λ strength. firsts_between) (map (behaviour_firsts limit) operands) (map strength_of signs)
