-- The nodes of the trees of a text in text order, each with its depth. A behaviour and a term each count from 1 at
-- their own root. The parts of a node are one deeper than it. Brackets and `of` are no nodes. A `choice` and a `par` are
-- no nodes either, but each name that they declare is one, placed at that name, the first outermost.
use Rattle.std.specs.Prelude.{ℕ, ◌+◌, nat_lt, cond, List, [], ◌∷◌, ◌++◌, flat_map, Option, Some, None, length}
use Rattle.lotos_base.specs.Equation.{Place}
use Rattle.lotos_base.specs.Signature.{Form, prefix_form, infix_form}
use Rattle.lotos_base.specs.WrittenTerm.{WrittenTerm, WrittenTerms, written, no_written, written_then}
use Rattle.syntax_trees.specs.WrittenVariable.{WrittenVariable}
use Rattle.syntax_trees.specs.WrittenEquation.{WrittenPremiss, WrittenEquation, WrittenGroup, WrittenEquations}
use Rattle.syntax_trees.specs.WrittenItem.{WrittenTypeBody, extends, renames, actualises, WrittenItem, libraries, type_declared}
use Rattle.syntax_trees.specs.WrittenBehaviour.{WrittenGateChoice, WrittenExitValue, exit_term, exit_any, WrittenOffer, offer_value, offer_variable, WrittenBehaviour, stop, exit, call, action, inner_action, guard, hide, let_be, choose_value, choose_gate, par_gate, binary}
use Rattle.syntax_trees.specs.WrittenDefinition.{WrittenInner, WrittenInners, inner_item, process, no_inner, inner_then, list_of_inners, inners_of, WrittenSpecification}

-- a node where it stands, with its depth
pub record TreeNode : Type 0 where
  pub place : Place
  pub depth : ℕ

abbrev pub node_at : Place → ℕ → TreeNode
node_at place depth = record { place = place; depth = depth }

-- a node before the nodes of its parts, or behind those of the first part
abbrev pub before_parts : TreeNode → Form → List TreeNode → List TreeNode → List TreeNode
before_parts node prefix_form first others = node ∷ (first ++ others)
before_parts node infix_form first others = first ++ node ∷ others

abbrev mutual
  -- the nodes of a term whose root has the depth
  pub term_nodes : ℕ → WrittenTerm → List TreeNode
  term_nodes depth (written head no_written) = node_at head.place depth ∷ []
  term_nodes depth (written head (written_then first others)) =
      before_parts (node_at head.place depth) head.form (term_nodes (depth + 1) first) (terms_nodes (depth + 1) others)

  -- the nodes of terms whose roots have the depth
  pub terms_nodes : ℕ → WrittenTerms → List TreeNode
  terms_nodes depth no_written = []
  terms_nodes depth (written_then first others) = term_nodes depth first ++ terms_nodes depth others

-- the nodes of a term by itself
abbrev pub nodes_of_term : WrittenTerm → List TreeNode
nodes_of_term term = term_nodes 1 term

abbrev pub nodes_of_terms : List WrittenTerm → List TreeNode
nodes_of_terms terms = flat_map nodes_of_term terms

abbrev pub nodes_of_maybe_term : Option WrittenTerm → List TreeNode
nodes_of_maybe_term None = []
nodes_of_maybe_term (Some term) = nodes_of_term term

abbrev pub nodes_of_premiss : WrittenPremiss → List TreeNode
nodes_of_premiss premiss = nodes_of_term premiss.left ++ nodes_of_maybe_term premiss.right

abbrev pub nodes_of_maybe_premiss : Option WrittenPremiss → List TreeNode
nodes_of_maybe_premiss None = []
nodes_of_maybe_premiss (Some premiss) = nodes_of_premiss premiss

abbrev pub nodes_of_equation : WrittenEquation → List TreeNode
nodes_of_equation equation = flat_map nodes_of_premiss equation.premisses ++ (nodes_of_term equation.left ++ nodes_of_term equation.right)

abbrev pub nodes_of_equations : WrittenEquations → List TreeNode
nodes_of_equations equations = flat_map (λ group. flat_map nodes_of_equation group.equations) equations.groups

-- the terms of an item are those of its equations
abbrev pub nodes_of_type_body : WrittenTypeBody → List TreeNode
nodes_of_type_body (extends imports sections) = nodes_of_equations sections.formal_equations ++ nodes_of_equations sections.equations
nodes_of_type_body (renames base pairs) = []
nodes_of_type_body (actualises base actuals pairs) = []

abbrev pub nodes_of_item : WrittenItem → List TreeNode
nodes_of_item (libraries place names) = []
nodes_of_item (type_declared place name body) = nodes_of_type_body body

abbrev pub nodes_of_offer : WrittenOffer → List TreeNode
nodes_of_offer (offer_value term) = nodes_of_term term
nodes_of_offer (offer_variable variable) = []

abbrev pub nodes_of_exit_value : WrittenExitValue → List TreeNode
nodes_of_exit_value (exit_term term) = nodes_of_term term
nodes_of_exit_value (exit_any sort) = []

-- declared names, the first at the depth and each further one a level deeper
abbrev pub variable_nodes : ℕ → List WrittenVariable → List TreeNode
variable_nodes depth [] = []
variable_nodes depth (variable ∷ variables) = node_at variable.place depth ∷ variable_nodes (depth + 1) variables

abbrev pub gate_nodes : ℕ → List WrittenGateChoice → List TreeNode
gate_nodes depth [] = []
gate_nodes depth (gate ∷ gates) = node_at gate.place depth ∷ gate_nodes (depth + 1) gates

-- the nodes of a behaviour whose root has the depth, and those of the terms in it
abbrev pub behaviour_nodes : ℕ → WrittenBehaviour → List TreeNode
behaviour_nodes depth (stop place) = node_at place depth ∷ []
behaviour_nodes depth (exit place values) = node_at place depth ∷ flat_map nodes_of_exit_value values
behaviour_nodes depth (call place name gates values) = node_at place depth ∷ nodes_of_terms values
behaviour_nodes depth (action place gate offers test next) =
    node_at place depth ∷ (flat_map nodes_of_offer offers ++ (nodes_of_maybe_premiss test ++ behaviour_nodes (depth + 1) next))
behaviour_nodes depth (inner_action place next) = node_at place depth ∷ behaviour_nodes (depth + 1) next
behaviour_nodes depth (guard place test next) = node_at place depth ∷ (nodes_of_premiss test ++ behaviour_nodes (depth + 1) next)
behaviour_nodes depth (hide place gates inside) = node_at place depth ∷ behaviour_nodes (depth + 1) inside
behaviour_nodes depth (let_be place values inside) =
    node_at place depth ∷ (flat_map (λ pair. nodes_of_term pair.1) values ++ behaviour_nodes (depth + 1) inside)
behaviour_nodes depth (choose_value place variables inside) =
    variable_nodes depth variables ++ behaviour_nodes (depth + length variables) inside
behaviour_nodes depth (choose_gate place gates inside) = gate_nodes depth gates ++ behaviour_nodes (depth + length gates) inside
behaviour_nodes depth (par_gate place gates sign inside) = gate_nodes depth gates ++ behaviour_nodes (depth + length gates) inside
behaviour_nodes depth (binary place sign left right) =
    behaviour_nodes (depth + 1) left ++ node_at place depth ∷ behaviour_nodes (depth + 1) right

abbrev mutual
  -- the nodes of what a `where` declares
  pub nodes_of_inner : WrittenInner → List TreeNode
  nodes_of_inner (inner_item item) = nodes_of_item item
  nodes_of_inner (process heading body inner) = behaviour_nodes 1 body ++ nodes_of_inners inner

  pub nodes_of_inners : WrittenInners → List TreeNode
  nodes_of_inners no_inner = []
  nodes_of_inners (inner_then first others) = nodes_of_inner first ++ nodes_of_inners others

abbrev pub nodes_of_specification : WrittenSpecification → List TreeNode
nodes_of_specification specification =
    flat_map nodes_of_item specification.items ++ (behaviour_nodes 1 specification.body ++ nodes_of_inners (inners_of specification.inner))

-- where the first of the nodes that are deeper than the limit stands
abbrev pub first_deeper : ℕ → List TreeNode → Option Place
first_deeper limit [] = None
first_deeper limit (node ∷ nodes) = cond (nat_lt limit node.depth) (Some node.place) (first_deeper limit nodes)
