-- The first node that is deeper than a limit, by the first nodes from each depth on.
use Rattle.std.proofs.Common.{◌≡◌, ◌∙◌, ℕ, zero, suc, ◌+◌, ◌<◌, nat_lt, true, false, List, [], ◌∷◌, ◌++◌, map, length, Some, refl, ap, sym, append_assoc, arith}
use Rattle.std.specs.Prelude.{cond, flat_map, slice_get}
use Rattle.std.specs.Option.{option_or}
use Rattle.std.proofs.lemmas.Bool.{lt-ltb, le-ltb}
use Rattle.lotos_base.specs.Equation.{Place}
use Rattle.lotos_base.specs.Signature.{Form, prefix_form, infix_form}
use Rattle.lotos_base.specs.WrittenTerm.{WrittenTerm, WrittenTerms, written, no_written, written_then}
use Rattle.syntax_trees.specs.WrittenVariable.{WrittenVariable}
use Rattle.syntax_trees.specs.WrittenBehaviour.{WrittenGateChoice, WrittenBehaviour, stop, exit, call, action, inner_action, guard, hide, let_be, choose_value, choose_gate, par_gate, binary}
use Rattle.syntax_trees.specs.Depth.{TreeNode, node_at, before_parts, term_nodes, terms_nodes, nodes_of_term, nodes_of_terms, nodes_of_premiss, nodes_of_maybe_premiss, nodes_of_offer, nodes_of_exit_value, variable_nodes, gate_nodes, behaviour_nodes, first_deeper}
use Rattle.syntax_trees.specs.Firsts.{Firsts, first_from, no_nodes, everywhere, firsts_followed, firsts_below, firsts_between}
use Rattle.syntax_trees.specs.TreeFirsts.{node_firsts, term_firsts, terms_firsts, names_firsts, behaviour_firsts}
use Rattle.syntax_trees.specs.DepthLaws.{FirstsTellTheFirstTooDeep}
use Rattle.syntax_trees.proofs.FirstsLemmas.{HasNode, followed-from, between-from, between-first, between-node, below-node}

-- the nodes at the depth that are too deep stand so far below it or further
abbrev IsFrom : ℕ → ℕ → ℕ → Type 0
IsFrom limit depth zero = limit < depth
IsFrom limit depth (suc k) = depth + suc k ≡ suc limit

not_less : (limit depth k : ℕ) → depth + suc k ≡ suc limit → nat_lt limit depth ≡ false
not_less limit depth k h = le-ltb limit depth (omega arith)

deeper : (limit depth k : ℕ) → IsFrom limit depth (suc k) → IsFrom limit (depth + 1) k
deeper limit depth zero h = omega arith
deeper limit depth (suc k) h = omega arith

-- one after the other
pub first_deeper-append : (limit : ℕ) (some others : List TreeNode) →
    first_deeper limit (some ++ others) ≡ option_or (first_deeper limit some) (first_deeper limit others)
first_deeper-append limit [] others = refl
first_deeper-append limit (node ∷ some) others =
    elim (nat_lt limit node.depth) as (λ b. cond b (Some node.place) (first_deeper limit (some ++ others))
    ≡ option_or (cond b (Some node.place) (first_deeper limit some)) (first_deeper limit others)) [
      | true ↦ refl
      | false ↦ first_deeper-append limit some others
    ]

-- a node that is too deep, and one that is not
at_node : (limit depth : ℕ) (place : Place) (behind : List TreeNode) → limit < depth →
    first_deeper limit (node_at place depth ∷ behind) ≡ Some place
at_node limit depth place behind h = ap (λ b. cond b (Some place) (first_deeper limit behind)) (lt-ltb limit depth h)

past_node : (limit depth k : ℕ) (place : Place) (behind : List TreeNode) → IsFrom limit depth (suc k) →
    first_deeper limit (node_at place depth ∷ behind) ≡ first_deeper limit behind
past_node limit depth k place behind h = ap (λ b. cond b (Some place) (first_deeper limit behind)) (not_less limit depth k h)

-- a node in front of its parts
in_front : (limit depth k : ℕ) (place : Place) (behind : List TreeNode) (parts : Firsts) → IsFrom limit depth k →
    ((j : ℕ) → IsFrom limit (depth + 1) j → first_deeper limit behind ≡ first_from parts j) →
    first_deeper limit (node_at place depth ∷ behind) ≡ first_from (firsts_below place parts) k
in_front limit depth zero place behind parts h each = at_node limit depth place behind h
in_front limit depth (suc k) place behind parts h each = past_node limit depth k place behind h ∙ each k (deeper limit depth k h)

-- parts one behind the other
one_behind : (limit k : ℕ) (some others : List TreeNode) (before behind : Firsts) → first_deeper limit some ≡ first_from before k →
    first_deeper limit others ≡ first_from behind k → first_deeper limit (some ++ others) ≡ first_from (firsts_followed before behind) k
one_behind limit k some others before behind e f =
    first_deeper-append limit some others ∙ ap (λ it. option_or it (first_deeper limit others)) e
    ∙ ap (λ it. option_or (first_from before k) it) f ∙ sym (followed-from before behind k)

-- a node between its parts
in_between : (limit depth k : ℕ) (place : Place) (some others : List TreeNode) (before behind : Firsts) → IsFrom limit depth k →
    HasNode before → ((j : ℕ) → IsFrom limit (depth + 1) j → first_deeper limit some ≡ first_from before j) →
    ((j : ℕ) → IsFrom limit (depth + 1) j → first_deeper limit others ≡ first_from behind j) →
    first_deeper limit (some ++ node_at place depth ∷ others) ≡ first_from (firsts_between before behind) k
in_between limit depth zero place some others before behind h has first second =
    let there : first_from before 0 ≡ Some has.place = ap (λ it. option_or (slice_get it 0) before.rest) has.are in
    let here : first_deeper limit some ≡ Some has.place = first 0 (let below : limit < depth = h in omega arith) ∙ there in
    first_deeper-append limit some (node_at place depth ∷ others)
    ∙ ap (λ it. option_or it (first_deeper limit (node_at place depth ∷ others))) here ∙ sym there ∙ sym (between-first before behind has)
in_between limit depth (suc k) place some others before behind h has first second =
    first_deeper-append limit some (node_at place depth ∷ others)
    ∙ ap (λ it. option_or (first_deeper limit some) it) (past_node limit depth k place others h)
    ∙ sym (first_deeper-append limit some others)
    ∙ one_behind limit k some others before behind (first k (deeper limit depth k h)) (second k (deeper limit depth k h))
    ∙ sym (between-from before behind has k)

node_has : (form : Form) (place : Place) (first others : Firsts) → HasNode first → HasNode (node_firsts form place first others)
node_has prefix_form place first others has = below-node place (firsts_followed first others)
node_has infix_form place first others has = between-node first others has

term_has : (term : WrittenTerm) → HasNode (term_firsts term)
term_has (written head no_written) = below-node head.place no_nodes
term_has (written head (written_then first others)) =
    node_has head.form head.place (term_firsts first) (terms_firsts others) (term_has first)

-- a node with parts, by its form
node_is : (limit depth k : ℕ) (form : Form) (place : Place) (some others : List TreeNode) (before behind : Firsts) →
    IsFrom limit depth k → HasNode before → ((j : ℕ) → IsFrom limit (depth + 1) j → first_deeper limit some ≡ first_from before j) →
    ((j : ℕ) → IsFrom limit (depth + 1) j → first_deeper limit others ≡ first_from behind j) →
    first_deeper limit (before_parts (node_at place depth) form some others) ≡ first_from (node_firsts form place before behind) k
node_is limit depth k prefix_form place some others before behind h has first second =
    in_front limit depth k place (some ++ others) (firsts_followed before behind) h
    (λ j i. one_behind limit j some others before behind (first j i) (second j i))
node_is limit depth k infix_form place some others before behind h has first second =
    in_between limit depth k place some others before behind h has first second

mutual
  term_is : (limit : ℕ) (term : WrittenTerm) (depth k : ℕ) → IsFrom limit depth k →
      first_deeper limit (term_nodes depth term) ≡ first_from (term_firsts term) k
  term_is limit (written head no_written) depth k h = in_front limit depth k head.place [] no_nodes h (λ j i. refl)
  term_is limit (written head (written_then first others)) depth k h =
      node_is limit depth k head.form head.place (term_nodes (depth + 1) first) (terms_nodes (depth + 1) others) (term_firsts first)
      (terms_firsts others) h (term_has first) (λ j i. term_is limit first (depth + 1) j i) (λ j i. terms_are limit others (depth + 1) j i)

  terms_are : (limit : ℕ) (terms : WrittenTerms) (depth k : ℕ) → IsFrom limit depth k →
      first_deeper limit (terms_nodes depth terms) ≡ first_from (terms_firsts terms) k
  terms_are limit no_written depth k h = refl
  terms_are limit (written_then first others) depth k h =
      one_behind limit k (term_nodes depth first) (terms_nodes depth others) (term_firsts first) (terms_firsts others)
      (term_is limit first depth k h) (terms_are limit others depth k h)

root : (limit : ℕ) → IsFrom limit 1 limit
root zero = omega arith
root (suc limit) = omega arith

-- what is too deep in terms is so wherever the behaviour stands
terms_behind : (limit k : ℕ) (some : List TreeNode) (others : List TreeNode) (behind : Firsts) →
    first_deeper limit others ≡ first_from behind k →
    first_deeper limit (some ++ others) ≡ first_from (firsts_followed (everywhere (first_deeper limit some)) behind) k
terms_behind limit k some others behind e =
    one_behind limit k some others (everywhere (first_deeper limit some)) behind refl e

variables_are : (limit : ℕ) (variables : List WrittenVariable) (inside : ℕ → List TreeNode) (parts : Firsts) →
    ((depth k : ℕ) → IsFrom limit depth k → first_deeper limit (inside depth) ≡ first_from parts k) → (depth k : ℕ) →
    IsFrom limit depth k →
    first_deeper limit (variable_nodes depth variables ++ inside (depth + length variables))
    ≡ first_from (names_firsts (map (λ variable. variable.place) variables) parts) k
variables_are limit [] inside parts each depth k h =
    ap (λ it. first_deeper limit (inside it)) (let e : depth + 0 ≡ depth = omega arith in e) ∙ each depth k h
variables_are limit (variable ∷ variables) inside parts each depth k h =
    in_front limit depth k variable.place (variable_nodes (depth + 1) variables ++ inside (depth + suc (length variables)))
    (names_firsts (map (λ it. it.place) variables) parts) h
    (λ j i.
    ap (λ it. first_deeper limit (variable_nodes (depth + 1) variables ++ inside it))
    (let e : depth + suc (length variables) ≡ depth + 1 + length variables = omega arith in e)
    ∙ variables_are limit variables inside parts each (depth + 1) j i)

gates_are : (limit : ℕ) (gates : List WrittenGateChoice) (inside : ℕ → List TreeNode) (parts : Firsts) →
    ((depth k : ℕ) → IsFrom limit depth k → first_deeper limit (inside depth) ≡ first_from parts k) → (depth k : ℕ) →
    IsFrom limit depth k →
    first_deeper limit (gate_nodes depth gates ++ inside (depth + length gates))
    ≡ first_from (names_firsts (map (λ gate. gate.place) gates) parts) k
gates_are limit [] inside parts each depth k h =
    ap (λ it. first_deeper limit (inside it)) (let e : depth + 0 ≡ depth = omega arith in e) ∙ each depth k h
gates_are limit (gate ∷ gates) inside parts each depth k h =
    in_front limit depth k gate.place (gate_nodes (depth + 1) gates ++ inside (depth + suc (length gates)))
    (names_firsts (map (λ it. it.place) gates) parts) h
    (λ j i.
    ap (λ it. first_deeper limit (gate_nodes (depth + 1) gates ++ inside it))
    (let e : depth + suc (length gates) ≡ depth + 1 + length gates = omega arith in e)
    ∙ gates_are limit gates inside parts each (depth + 1) j i)

names_have : (places : List Place) (inside : Firsts) → HasNode inside → HasNode (names_firsts places inside)
names_have [] inside has = has
names_have (place ∷ places) inside has = below-node place (names_firsts places inside)

behaviour_has : (limit : ℕ) (behaviour : WrittenBehaviour) → HasNode (behaviour_firsts limit behaviour)
behaviour_has limit (stop place) = below-node place no_nodes
behaviour_has limit (exit place values) = below-node place (everywhere (first_deeper limit (flat_map nodes_of_exit_value values)))
behaviour_has limit (call place name gates values) = below-node place (everywhere (first_deeper limit (nodes_of_terms values)))
behaviour_has limit (action place gate offers test next) = below-node place _
behaviour_has limit (inner_action place next) = below-node place _
behaviour_has limit (guard place test next) = below-node place _
behaviour_has limit (hide place gates inside) = below-node place _
behaviour_has limit (let_be place values inside) = below-node place _
behaviour_has limit (choose_value place variables inside) =
    names_have (map (λ variable. variable.place) variables) (behaviour_firsts limit inside) (behaviour_has limit inside)
behaviour_has limit (choose_gate place gates inside) =
    names_have (map (λ gate. gate.place) gates) (behaviour_firsts limit inside) (behaviour_has limit inside)
behaviour_has limit (par_gate place gates sign inside) =
    names_have (map (λ gate. gate.place) gates) (behaviour_firsts limit inside) (behaviour_has limit inside)
behaviour_has limit (binary place sign left right) =
    between-node (behaviour_firsts limit left) (behaviour_firsts limit right) (behaviour_has limit left)

behaviour_is : (limit : ℕ) (behaviour : WrittenBehaviour) (depth k : ℕ) → IsFrom limit depth k →
    first_deeper limit (behaviour_nodes depth behaviour) ≡ first_from (behaviour_firsts limit behaviour) k
behaviour_is limit (stop place) depth k h = in_front limit depth k place [] no_nodes h (λ j i. refl)
behaviour_is limit (exit place values) depth k h =
    in_front limit depth k place (flat_map nodes_of_exit_value values)
    (everywhere (first_deeper limit (flat_map nodes_of_exit_value values))) h (λ j i. refl)
behaviour_is limit (call place name gates values) depth k h =
    in_front limit depth k place (nodes_of_terms values) (everywhere (first_deeper limit (nodes_of_terms values))) h (λ j i. refl)
behaviour_is limit (action place gate offers test next) depth k h =
    let terms = flat_map nodes_of_offer offers ++ nodes_of_maybe_premiss test in
    in_front limit depth k place
    (flat_map nodes_of_offer offers ++ (nodes_of_maybe_premiss test ++ behaviour_nodes (depth + 1) next))
    (firsts_followed (everywhere (first_deeper limit terms)) (behaviour_firsts limit next)) h
    (λ j i.
    ap (first_deeper limit) (sym (append_assoc (flat_map nodes_of_offer offers) (nodes_of_maybe_premiss test)
    (behaviour_nodes (depth + 1) next)))
    ∙ terms_behind limit j terms (behaviour_nodes (depth + 1) next) (behaviour_firsts limit next) (behaviour_is limit next (depth + 1) j i))
behaviour_is limit (inner_action place next) depth k h =
    in_front limit depth k place (behaviour_nodes (depth + 1) next) (behaviour_firsts limit next) h
    (λ j i. behaviour_is limit next (depth + 1) j i)
behaviour_is limit (guard place test next) depth k h =
    in_front limit depth k place (nodes_of_premiss test ++ behaviour_nodes (depth + 1) next)
    (firsts_followed (everywhere (first_deeper limit (nodes_of_premiss test))) (behaviour_firsts limit next)) h
    (λ j i.
    terms_behind limit j (nodes_of_premiss test) (behaviour_nodes (depth + 1) next) (behaviour_firsts limit next)
    (behaviour_is limit next (depth + 1) j i))
behaviour_is limit (hide place gates inside) depth k h =
    in_front limit depth k place (behaviour_nodes (depth + 1) inside) (behaviour_firsts limit inside) h
    (λ j i. behaviour_is limit inside (depth + 1) j i)
behaviour_is limit (let_be place values inside) depth k h =
    in_front limit depth k place (flat_map (λ pair. nodes_of_term pair.1) values ++ behaviour_nodes (depth + 1) inside)
    (firsts_followed (everywhere (first_deeper limit (flat_map (λ pair. nodes_of_term pair.1) values))) (behaviour_firsts limit inside)) h
    (λ j i.
    terms_behind limit j (flat_map (λ pair. nodes_of_term pair.1) values) (behaviour_nodes (depth + 1) inside)
    (behaviour_firsts limit inside) (behaviour_is limit inside (depth + 1) j i))
behaviour_is limit (choose_value place variables inside) depth k h =
    variables_are limit variables (λ it. behaviour_nodes it inside) (behaviour_firsts limit inside)
    (λ deep j i. behaviour_is limit inside deep j i) depth k h
behaviour_is limit (choose_gate place gates inside) depth k h =
    gates_are limit gates (λ it. behaviour_nodes it inside) (behaviour_firsts limit inside)
    (λ deep j i. behaviour_is limit inside deep j i) depth k h
behaviour_is limit (par_gate place gates sign inside) depth k h =
    gates_are limit gates (λ it. behaviour_nodes it inside) (behaviour_firsts limit inside)
    (λ deep j i. behaviour_is limit inside deep j i) depth k h
behaviour_is limit (binary place sign left right) depth k h =
    in_between limit depth k place (behaviour_nodes (depth + 1) left) (behaviour_nodes (depth + 1) right) (behaviour_firsts limit left)
    (behaviour_firsts limit right) h (behaviour_has limit left) (λ j i. behaviour_is limit left (depth + 1) j i)
    (λ j i. behaviour_is limit right (depth + 1) j i)

pub tells : FirstsTellTheFirstTooDeep
tells = record {
  term = λ limit term. term_is limit term 1 limit (root limit);
  behaviour = λ limit behaviour. behaviour_is limit behaviour 1 limit (root limit);
}
