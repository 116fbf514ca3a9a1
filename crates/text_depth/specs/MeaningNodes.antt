-- The nodes of what a part of a text means, in text order, where its terms and behaviours count from their own roots.
use Rattle.std.specs.Prelude.{List, [], ◌++◌, Option, Some, None, flat_map}
use Rattle.syntax_trees.specs.WrittenDefinition.{inners_of}
use Rattle.syntax_trees.specs.Depth.{TreeNode, nodes_of_term, nodes_of_terms, nodes_of_maybe_term, nodes_of_premiss, nodes_of_maybe_premiss, nodes_of_equation, nodes_of_equations, nodes_of_type_body, nodes_of_item, nodes_of_offer, nodes_of_exit_value, nodes_of_inner, nodes_of_inners, nodes_of_specification}
use Rattle.tree_building.specs.Meaning.{PlainConclusion, PlainAfterBase, renamed, actualised, extended, PlainActionEnd, Meaning, a_term, some_terms, some_groups, some_equations, an_equation, a_conclusion, maybe_conclusion, after_term, a_premiss, maybe_term, an_item, some_items, a_body, after_base, some_sections, an_equation_section, some_offers, some_exit_values, some_lets, some_inner, a_process, a_specification}

abbrev pub nodes_of_conclusion : PlainConclusion → List TreeNode
nodes_of_conclusion conclusion =
    flat_map nodes_of_premiss conclusion.premisses ++ (nodes_of_term conclusion.left ++ nodes_of_term conclusion.right)

abbrev pub nodes_of_maybe_conclusion : Option PlainConclusion → List TreeNode
nodes_of_maybe_conclusion None = []
nodes_of_maybe_conclusion (Some conclusion) = nodes_of_conclusion conclusion

abbrev pub nodes_of_after_base : PlainAfterBase → List TreeNode
nodes_of_after_base (renamed pairs) = []
nodes_of_after_base (actualised actuals pairs) = []
nodes_of_after_base (extended imports sections) = nodes_of_equations sections.formal_equations ++ nodes_of_equations sections.equations

-- those of the terms of an action
abbrev pub nodes_of_action : PlainActionEnd → List TreeNode
nodes_of_action end = flat_map nodes_of_offer end.offers ++ nodes_of_maybe_premiss end.test

-- a behaviour has none here: its nodes stand where it is grouped
abbrev pub nodes_in : Meaning → List TreeNode
nodes_in (a_term term) = nodes_of_term term.term
nodes_in (some_terms terms) = nodes_of_terms terms
nodes_in (some_groups groups) = flat_map (λ group. flat_map nodes_of_equation group.equations) groups
nodes_in (some_equations equations) = flat_map nodes_of_equation equations
nodes_in (an_equation equation) = nodes_of_equation equation
nodes_in (a_conclusion conclusion) = nodes_of_conclusion conclusion
nodes_in (maybe_conclusion conclusion) = nodes_of_maybe_conclusion conclusion
nodes_in (after_term after) = nodes_of_maybe_term after.right ++ nodes_of_maybe_conclusion after.conclusion
nodes_in (a_premiss premiss) = nodes_of_premiss premiss
nodes_in (maybe_term term) = nodes_of_maybe_term term
nodes_in (an_item item) = nodes_of_item item
nodes_in (some_items items) = flat_map nodes_of_item items
nodes_in (a_body body) = nodes_of_type_body body
nodes_in (after_base after) = nodes_of_after_base after
nodes_in (some_sections sections) = nodes_of_equations sections.formal_equations ++ nodes_of_equations sections.equations
nodes_in (an_equation_section equations) = nodes_of_equations equations
nodes_in (some_offers offers) = flat_map nodes_of_offer offers
nodes_in (some_exit_values values) = flat_map nodes_of_exit_value values
nodes_in (some_lets lets) = flat_map (λ pair. nodes_of_term pair.1) lets
nodes_in (some_inner inner) = nodes_of_inners (inners_of inner)
nodes_in (a_process definition) = nodes_of_inner definition
nodes_in (a_specification specification) = nodes_of_specification specification
nodes_in _ = []
