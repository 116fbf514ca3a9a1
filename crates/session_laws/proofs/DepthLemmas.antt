-- What a term is written as is nested as deep as the term, so that no node of it is too deep where the term is not.
use Rattle.std.proofs.Common.{◌≡◌, ℕ, suc, ◌+◌, ◌≤◌, Bool, true, false, List, [], ◌∷◌, ◌++◌, refl, arith}
use Rattle.std.specs.Prelude.{Some, None, max, nat_lt, cond, slice_get}
use Rattle.std.proofs.lemmas.Bool.{ltb-true}
use Rattle.lotos_base.specs.Equation.{Place, Variable}
use Rattle.lotos_base.specs.Signature.{Signature, Form, prefix_form, infix_form}
use Rattle.lotos_base.specs.Term.{Term, Terms, variable, node, no_terms, term_then, argument_list_of}
use Rattle.lotos_base.specs.WrittenTerm.{WrittenTerm, WrittenTerms, written, no_written, written_then, written_terms}
use Rattle.syntax_trees.specs.Depth.{TreeNode, node_at, before_parts, term_nodes, terms_nodes, nodes_of_term, nodes_of_terms, first_deeper}
use Rattle.session_laws.specs.WrittenAs.{IsWrittenAs, AreWrittenAs}
use Rattle.session_laws.specs.TermDepth.{term_depth, depth_among}

-- no node is deeper than the limit
abbrev pub IsShallow : ℕ → List TreeNode → Type 0
IsShallow limit nodes = first_deeper limit nodes ≡ None

pub shallow_joined : (limit : ℕ) (nodes others : List TreeNode) → IsShallow limit nodes → IsShallow limit others
    → IsShallow limit (nodes ++ others)
shallow_joined limit [] others first second = second
shallow_joined limit (here ∷ nodes) others first second =
    by (nat_lt limit here.depth) first (λ rest. shallow_joined limit nodes others rest second)
  where
    by : (deep : Bool) → cond deep (Some here.place) (first_deeper limit nodes) ≡ None
        → (IsShallow limit nodes → IsShallow limit (nodes ++ others))
        → cond deep (Some here.place) (first_deeper limit (nodes ++ others)) ≡ None
    by true none below = none
    by false none below = below none

pub shallow_node : (limit depth : ℕ) (place : Place) → depth ≤ limit → IsShallow limit (node_at place depth ∷ [])
shallow_node limit depth place within = by (nat_lt limit depth) refl
  where
    by : (deep : Bool) → nat_lt limit depth ≡ deep → cond deep (Some place) None ≡ None
    by true deep = absurd (omega (arith, ltb-true limit depth deep, within))
    by false deep = refl

shallow_before : (limit depth : ℕ) (place : Place) (form : Form) (nodes others : List TreeNode) → depth ≤ limit → IsShallow limit nodes
    → IsShallow limit others → IsShallow limit (before_parts (node_at place depth) form nodes others)
shallow_before limit depth place prefix_form nodes others within first second =
    shallow_joined limit (node_at place depth ∷ []) (nodes ++ others) (shallow_node limit depth place within)
    (shallow_joined limit nodes others first second)
shallow_before limit depth place infix_form nodes others within first second =
    shallow_joined limit nodes (node_at place depth ∷ others) first
    (shallow_joined limit (node_at place depth ∷ []) others (shallow_node limit depth place within) second)

max_left : (a b limit depth : ℕ) → depth + max a b ≤ limit → depth + a ≤ limit
max_left a b limit depth h = omega arith

max_right : (a b limit depth : ℕ) → depth + max a b ≤ limit → depth + b ≤ limit
max_right a b limit depth h = omega arith

one_less : (depth a limit : ℕ) → depth + suc a ≤ suc limit → (depth + 1) + a ≤ suc limit
one_less depth a limit h = omega arith

at_most : (depth a limit : ℕ) → depth + suc a ≤ suc limit → depth ≤ limit
at_most depth a limit h = omega arith

mutual
  pub term_shallow : (signature : Signature) (names : List Variable) (limit : ℕ) (t : Term) (depth : ℕ) (w : WrittenTerm) → IsWrittenAs signature names t w
      → depth + term_depth t ≤ suc limit → IsShallow limit (term_nodes depth w)
  term_shallow signature names limit (variable n s) depth (written head no_written) writes within =
      shallow_node limit depth head.place (at_most depth 0 limit within)
  term_shallow signature names limit (variable n s) depth (written head (written_then w ws)) writes within = absurd writes
  term_shallow signature names limit (node f no_terms) depth (written head no_written) writes within =
      shallow_node limit depth head.place (at_most depth (depth_among no_terms) limit within)
  term_shallow signature names limit (node f no_terms) depth (written head (written_then w ws)) writes within = absurd writes.3
  term_shallow signature names limit (node f (term_then t ts)) depth (written head no_written) writes within = absurd writes.3
  term_shallow signature names limit (node f (term_then t ts)) depth (written head (written_then w ws)) writes within =
      let below : (depth + 1) + max (term_depth t) (depth_among ts) ≤ suc limit =
      one_less depth (depth_among (term_then t ts)) limit within in
      shallow_before limit depth head.place head.form (term_nodes (depth + 1) w) (terms_nodes (depth + 1) ws)
      (at_most depth (depth_among (term_then t ts)) limit within)
      (term_shallow signature names limit t (depth + 1) w writes.3.0 (max_left (term_depth t) (depth_among ts) (suc limit) (depth + 1) below))
      (terms_shallow signature names limit ts (depth + 1) ws writes.3.1 (max_right (term_depth t) (depth_among ts) (suc limit) (depth + 1) below))

  pub terms_shallow : (signature : Signature) (names : List Variable) (limit : ℕ) (ts : Terms) (depth : ℕ) (ws : WrittenTerms) → AreWrittenAs signature names ts ws
      → depth + depth_among ts ≤ suc limit → IsShallow limit (terms_nodes depth ws)
  terms_shallow signature names limit no_terms depth no_written writes within = refl
  terms_shallow signature names limit no_terms depth (written_then w ws) writes within = absurd writes
  terms_shallow signature names limit (term_then t ts) depth no_written writes within = absurd writes
  terms_shallow signature names limit (term_then t ts) depth (written_then w ws) writes within =
      shallow_joined limit (term_nodes depth w) (terms_nodes depth ws)
      (term_shallow signature names limit t depth w writes.0 (max_left (term_depth t) (depth_among ts) (suc limit) depth within))
      (terms_shallow signature names limit ts depth ws writes.1 (max_right (term_depth t) (depth_among ts) (suc limit) depth within))

-- terms each by itself
pub list_shallow : (signature : Signature) (limit : ℕ) (ts : List Term) (ws : List WrittenTerm)
    → AreWrittenAs signature [] (argument_list_of ts) (written_terms ws)
    → ((i : ℕ) (t : Term) → slice_get ts i ≡ Some t → term_depth t ≤ limit) → IsShallow limit (nodes_of_terms ws)
list_shallow signature limit [] [] writes within = refl
list_shallow signature limit [] (w ∷ ws) writes within = absurd writes
list_shallow signature limit (t ∷ ts) [] writes within = absurd writes
list_shallow signature limit (t ∷ ts) (w ∷ ws) writes within =
    shallow_joined limit (nodes_of_term w) (nodes_of_terms ws)
    (term_shallow signature [] limit t 1 w writes.0 (let small : term_depth t ≤ limit = within 0 t refl in omega (arith, small)))
    (list_shallow signature limit ts ws writes.1 (λ i u found. within (suc i) u found))
