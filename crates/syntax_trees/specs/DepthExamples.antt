-- The depths of some small trees.
use Rattle.std.specs.Prelude.{◌≡◌, ℕ, List, [], ◌∷◌, Option, Some, None, map}
use Rattle.lotos_base.specs.Equation.{Place}
use Rattle.lotos_base.specs.Signature.{Form, prefix_form, infix_form}
use Rattle.lotos_base.specs.WrittenTerm.{WrittenTerm, written, written_terms}
use Rattle.syntax_trees.specs.WrittenVariable.{WrittenVariable}
use Rattle.syntax_trees.specs.WrittenBehaviour.{WrittenBehaviour, choice_sign, stop, inner_action, choose_value, binary}
use Rattle.syntax_trees.specs.Depth.{TreeNode, node_at, nodes_of_term, behaviour_nodes, first_deeper}

-- a place in the first line
abbrev pub example_place_at : ℕ → Place
example_place_at column = record { text = 0; line = 1; column = column }

-- an operation with its arguments
abbrev pub example_term_at : ℕ → Form → List WrittenTerm → WrittenTerm
example_term_at column form arguments =
    written (record { place = example_place_at column; name = []; form = form; sorts = [] }) (written_terms arguments)

abbrev pub example_variable_at : ℕ → WrittenVariable
example_variable_at column = record { place = example_place_at column; name = []; sort = []; sort_place = example_place_at 20 }

-- `a + f(b)`: the operation between its arguments comes behind the first
abbrev pub a_sum : WrittenTerm
a_sum = example_term_at 3 infix_form
    (example_term_at 1 prefix_form [] ∷ example_term_at 5 prefix_form (example_term_at 7 prefix_form [] ∷ []) ∷ [])

-- `choice x, y: S [] i; stop [] stop`
abbrev pub a_choice : WrittenBehaviour
a_choice =
    choose_value (example_place_at 1) (example_variable_at 8 ∷ example_variable_at 11 ∷ [])
    (binary (example_place_at 28) choice_sign (inner_action (example_place_at 19) (stop (example_place_at 22)))
    (stop (example_place_at 31)))

pub record DepthExamples : Type 0 where
  pub sum : nodes_of_term a_sum ≡ node_at (example_place_at 1) 2 ∷ node_at (example_place_at 3) 1 ∷ node_at (example_place_at 5) 2
      ∷ node_at (example_place_at 7) 3 ∷ []
  -- each declared name is a node
  pub choice :
      behaviour_nodes 1 a_choice
      ≡ node_at (example_place_at 8) 1 ∷ node_at (example_place_at 11) 2 ∷ node_at (example_place_at 19) 4 ∷ node_at (example_place_at 22) 5
      ∷ node_at (example_place_at 28) 3 ∷ node_at (example_place_at 31) 4 ∷ []
  -- the first in the text counts, whatever is deepest
  pub first : first_deeper 3 (behaviour_nodes 1 a_choice) ≡ Some (example_place_at 19)
  pub none : first_deeper 5 (behaviour_nodes 1 a_choice) ≡ None
