-- The first nodes of terms and of behaviours from each depth on. The terms in a behaviour count from their own roots, so
-- what is too deep in them is so wherever the behaviour stands.
use Rattle.std.specs.Prelude.{ℕ, List, [], ◌∷◌, ◌++◌, map, flat_map}
use Rattle.lotos_base.specs.Equation.{Place}
use Rattle.lotos_base.specs.Signature.{Form, prefix_form, infix_form}
use Rattle.lotos_base.specs.WrittenTerm.{WrittenTerm, WrittenTerms, written, no_written, written_then}
use Rattle.syntax_trees.specs.WrittenBehaviour.{WrittenBehaviour, stop, exit, call, action, inner_action, guard, hide, let_be, choose_value, choose_gate, par_gate, binary}
use Rattle.syntax_trees.specs.Depth.{first_deeper, nodes_of_term, nodes_of_terms, nodes_of_premiss, nodes_of_maybe_premiss, nodes_of_offer, nodes_of_exit_value}
use Rattle.syntax_trees.specs.Firsts.{Firsts, no_nodes, everywhere, firsts_followed, firsts_below, firsts_between}

-- of a node with its form, from those of its first part and of the others
abbrev pub node_firsts : Form → Place → Firsts → Firsts → Firsts
node_firsts prefix_form place first others = firsts_below place (firsts_followed first others)
node_firsts infix_form place first others = firsts_between first others

abbrev mutual
  pub term_firsts : WrittenTerm → Firsts
  term_firsts (written head no_written) = firsts_below head.place no_nodes
  term_firsts (written head (written_then first others)) = node_firsts head.form head.place (term_firsts first) (terms_firsts others)

  pub terms_firsts : WrittenTerms → Firsts
  terms_firsts no_written = no_nodes
  terms_firsts (written_then first others) = firsts_followed (term_firsts first) (terms_firsts others)

-- of names each of which is a node below the one before, and of what stands behind them
abbrev pub names_firsts : List Place → Firsts → Firsts
names_firsts [] inside = inside
names_firsts (place ∷ places) inside = firsts_below place (names_firsts places inside)

-- of a node, of terms behind it, and of a part behind these; `limit` is the depth that terms may have
abbrev pub behaviour_firsts : ℕ → WrittenBehaviour → Firsts
behaviour_firsts limit (stop place) = firsts_below place no_nodes
behaviour_firsts limit (exit place values) = firsts_below place (everywhere (first_deeper limit (flat_map nodes_of_exit_value values)))
behaviour_firsts limit (call place name gates values) = firsts_below place (everywhere (first_deeper limit (nodes_of_terms values)))
behaviour_firsts limit (action place gate offers test next) =
    firsts_below place
    (firsts_followed (everywhere (first_deeper limit (flat_map nodes_of_offer offers ++ nodes_of_maybe_premiss test)))
    (behaviour_firsts limit next))
behaviour_firsts limit (inner_action place next) = firsts_below place (behaviour_firsts limit next)
behaviour_firsts limit (guard place test next) =
    firsts_below place (firsts_followed (everywhere (first_deeper limit (nodes_of_premiss test))) (behaviour_firsts limit next))
behaviour_firsts limit (hide place gates inside) = firsts_below place (behaviour_firsts limit inside)
behaviour_firsts limit (let_be place values inside) =
    firsts_below place
    (firsts_followed (everywhere (first_deeper limit (flat_map (λ pair. nodes_of_term pair.1) values))) (behaviour_firsts limit inside))
behaviour_firsts limit (choose_value place variables inside) =
    names_firsts (map (λ variable. variable.place) variables) (behaviour_firsts limit inside)
behaviour_firsts limit (choose_gate place gates inside) = names_firsts (map (λ gate. gate.place) gates) (behaviour_firsts limit inside)
behaviour_firsts limit (par_gate place gates sign inside) = names_firsts (map (λ gate. gate.place) gates) (behaviour_firsts limit inside)
behaviour_firsts limit (binary place sign left right) = firsts_between (behaviour_firsts limit left) (behaviour_firsts limit right)
