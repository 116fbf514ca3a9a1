-- What is kept of a part of a text to find its first node that is too deep: of names their places, since a `choice` or a `par`
-- may declare them; of terms and behaviours their first nodes from each depth on; of a flat list its operands and how
-- strongly the signs between them bind.
use Rattle.std.specs.Prelude.{ℕ, List, [], ◌∷◌, map}
use Rattle.lotos_base.specs.Equation.{Place}
use Rattle.lotos_base.specs.WrittenTerm.{PlacedName, written_terms}
use Rattle.syntax_trees.specs.WrittenVariable.{WrittenVariable}
use Rattle.syntax_trees.specs.WrittenBehaviour.{WrittenGateChoice, WrittenBehaviour}
use Rattle.syntax_trees.specs.Depth.{first_deeper, nodes_of_terms}
use Rattle.syntax_trees.specs.Strength.{PlacedSign, strength_of}
use Rattle.syntax_trees.specs.Firsts.{Firsts, no_nodes, everywhere, firsts_followed}
use Rattle.syntax_trees.specs.TreeFirsts.{term_firsts, terms_firsts, behaviour_firsts}
use Rattle.tree_building.specs.Meaning.{Meaning, a_name, some_names, some_variables, a_term, some_factors, some_terms, some_operands, an_action, a_call, some_gate_choices, a_value_choice, a_gate_choice, a_behaviour, a_sign}
use Rattle.text_depth.specs.MeaningNodes.{nodes_of_action, nodes_in}

pub record DepthPart : Type 0 where
  pub names : List Place
  pub firsts : Firsts
  pub operands : List Firsts
  pub strengths : List ℕ

abbrev pub of_names : List Place → DepthPart
of_names places = record { names = places; firsts = no_nodes; operands = []; strengths = [] }

abbrev pub of_firsts : Firsts → DepthPart
of_firsts firsts = record { names = []; firsts = firsts; operands = []; strengths = [] }

abbrev pub of_flat : List Firsts → List ℕ → DepthPart
of_flat operands strengths = record { names = []; firsts = no_nodes; operands = operands; strengths = strengths }

-- names that may be declared, and what stands behind them
abbrev pub of_choice : List Place → Firsts → DepthPart
of_choice places inside = record { names = places; firsts = inside; operands = []; strengths = [] }

-- what stands before the first operand of a flat list belongs to it
abbrev pub before_first_operand : Firsts → List Firsts → List Firsts
before_first_operand before [] = []
before_first_operand before (first ∷ others) = firsts_followed before first ∷ others

abbrev pub places_of_names : List PlacedName → List Place
places_of_names names = map (λ name. name.place) names

abbrev pub places_of_variables : List WrittenVariable → List Place
places_of_variables variables = map (λ variable. variable.place) variables

abbrev pub gate_places : List WrittenGateChoice → List Place
gate_places gates = map (λ gate. gate.place) gates

abbrev pub operands_firsts : ℕ → List WrittenBehaviour → List Firsts
operands_firsts limit operands = map (behaviour_firsts limit) operands

abbrev pub signs_strengths : List PlacedSign → List ℕ
signs_strengths signs = map strength_of signs

-- what is kept of a part that means this
abbrev pub depth_of : ℕ → Meaning → DepthPart
depth_of limit (a_name name) = of_names (name.place ∷ [])
depth_of limit (some_names names) = of_names (places_of_names names)
depth_of limit (some_variables variables) = of_names (places_of_variables variables)
depth_of limit (some_gate_choices gates) = of_names (gate_places gates)
depth_of limit (a_term term) = of_firsts (term_firsts term.term)
depth_of limit (some_factors factors) = of_flat (map (λ factor. term_firsts factor.1) factors) []
depth_of limit (some_terms terms) = of_firsts (terms_firsts (written_terms terms))
depth_of limit (some_operands flat) = of_flat (operands_firsts limit flat.operands) (signs_strengths flat.signs)
depth_of limit (an_action end) =
    of_flat
    (before_first_operand (everywhere (first_deeper limit (nodes_of_action end))) (operands_firsts limit end.behind.operands))
    (signs_strengths end.behind.signs)
depth_of limit (a_call end) =
    of_flat (everywhere (first_deeper limit (nodes_of_terms end.values)) ∷ operands_firsts limit end.behind.operands)
    (signs_strengths end.behind.signs)
depth_of limit (a_value_choice end) = of_choice (places_of_variables end.more) (behaviour_firsts limit end.inside)
depth_of limit (a_gate_choice end) = of_choice (gate_places end.more) (behaviour_firsts limit end.inside)
depth_of limit (a_behaviour behaviour) = of_firsts (behaviour_firsts limit behaviour)
depth_of limit (a_sign sign) = of_flat [] (strength_of sign ∷ [])
depth_of limit other = of_firsts (everywhere (first_deeper limit (nodes_in other)))
