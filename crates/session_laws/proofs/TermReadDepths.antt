-- A term that is read is nested as deep as what is written, so that it is not too deep where no node of this is.
use Rattle.std.proofs.Common.{◌≡◌, ℕ, suc, ◌+◌, ◌≤◌, Bool, true, false, List, [], ◌∷◌, ◌++◌, refl, arith}
use Rattle.std.specs.Prelude.{Some, None, max, nat_lt, cond}
use Rattle.std.proofs.lemmas.Bool.{ltb-false}
use Rattle.lotos_base.specs.Equation.{Place, Variable}
use Rattle.lotos_base.specs.Signature.{Signature, Form, prefix_form, infix_form}
use Rattle.lotos_base.specs.Term.{Term, Terms, variable, node, no_terms, term_then}
use Rattle.lotos_base.specs.WrittenTerm.{WrittenTerm, WrittenTerms, written, no_written, written_then}
use Rattle.syntax_trees.specs.Depth.{TreeNode, node_at, before_parts, term_nodes, terms_nodes, first_deeper}
use Rattle.sort_terms.specs.Reading.{Reads, AllRead}
use Rattle.session_laws.specs.TermDepth.{term_depth, depth_among}
use Rattle.session_laws.proofs.DepthLemmas.{IsShallow, shallow_joined}

pub shallow_parts : (limit : ℕ) (nodes others : List TreeNode) → IsShallow limit (nodes ++ others)
    → IsShallow limit nodes × IsShallow limit others
shallow_parts limit [] others none = (refl, none)
shallow_parts limit (here ∷ nodes) others none =
    by (nat_lt limit here.depth) none (λ rest. shallow_parts limit nodes others rest)
  where
    by : (deep : Bool) → cond deep (Some here.place) (first_deeper limit (nodes ++ others)) ≡ None
        → (IsShallow limit (nodes ++ others) → IsShallow limit nodes × IsShallow limit others)
        → (cond deep (Some here.place) (first_deeper limit nodes) ≡ None) × IsShallow limit others
    by true none below = absurd (cc none)
    by false none below = below none

pub shallow_head : (limit depth : ℕ) (place : Place) (nodes : List TreeNode) → IsShallow limit (node_at place depth ∷ nodes)
    → (depth ≤ limit) × IsShallow limit nodes
shallow_head limit depth place nodes none = by (nat_lt limit depth) refl none
  where
    by : (deep : Bool) → nat_lt limit depth ≡ deep → cond deep (Some place) (first_deeper limit nodes) ≡ None
        → (depth ≤ limit) × IsShallow limit nodes
    by true deep none = absurd (cc none)
    by false deep none = (omega (arith, ltb-false limit depth deep), none)

-- the node itself, and its parts
record AreShallow (limit depth : ℕ) (nodes others : List TreeNode) : Type 0 where
  pub here : depth ≤ limit
  pub first : IsShallow limit nodes
  pub rest : IsShallow limit others

before_shallow : (limit depth : ℕ) (place : Place) (form : Form) (nodes others : List TreeNode)
    → IsShallow limit (before_parts (node_at place depth) form nodes others) → AreShallow limit depth nodes others
before_shallow limit depth place prefix_form nodes others none =
    let head = shallow_head limit depth place (nodes ++ others) none in
    let parts = shallow_parts limit nodes others head.1 in
    record { here = head.0; first = parts.0; rest = parts.1 }
before_shallow limit depth place infix_form nodes others none =
    let parts = shallow_parts limit nodes (node_at place depth ∷ others) none in
    let head = shallow_head limit depth place others parts.1 in
    record { here = head.0; first = parts.0; rest = head.1 }

both : (a b limit depth : ℕ) → depth + a ≤ limit → depth + b ≤ limit → depth + max a b ≤ limit
both a b limit depth h k = omega arith

one_less : (depth a limit : ℕ) → (depth + 1) + a ≤ suc limit → depth + suc a ≤ suc limit
one_less depth a limit h = omega arith

none_read : (signature : Signature) (scope : List Variable) (t : Term) (ts : Terms) (sorts : List ℕ)
    → AllRead signature scope no_written (term_then t ts) sorts → ⊥
none_read signature scope t ts [] reads = reads
none_read signature scope t ts (sort ∷ sorts) reads = reads

mutual
  pub term_within : (signature : Signature) (scope : List Variable) (limit depth : ℕ) (w : WrittenTerm) (t : Term) (sort : ℕ)
      → Reads signature scope w t sort → IsShallow limit (term_nodes depth w) → depth + term_depth t ≤ suc limit
  term_within signature scope limit depth (written head no_written) (variable n s) sort reads none =
      let here = (shallow_head limit depth head.place [] none).0 in omega (arith, here)
  term_within signature scope limit depth (written head (written_then w ws)) (variable n s) sort reads none = absurd reads.0.bare
  term_within signature scope limit depth (written head no_written) (node f no_terms) sort reads none =
      let here = (shallow_head limit depth head.place [] none).0 in omega (arith, here)
  term_within signature scope limit depth (written head no_written) (node f (term_then t ts)) sort reads none =
      absurd (none_read signature scope t ts reads.0.arguments reads.3)
  term_within signature scope limit depth (written head (written_then w ws)) (node f ts) sort reads none =
      let parts = before_shallow limit depth head.place head.form (term_nodes (depth + 1) w) (terms_nodes (depth + 1) ws) none in
      one_less depth (depth_among ts) limit
      (terms_within signature scope limit (depth + 1) (written_then w ws) ts reads.0.arguments reads.3
      (shallow_joined limit (term_nodes (depth + 1) w) (terms_nodes (depth + 1) ws) parts.first parts.rest)
      (let here = parts.here in omega (arith, here)))

  pub terms_within : (signature : Signature) (scope : List Variable) (limit depth : ℕ) (ws : WrittenTerms) (ts : Terms) (sorts : List ℕ)
      → AllRead signature scope ws ts sorts → IsShallow limit (terms_nodes depth ws) → depth ≤ suc limit
      → depth + depth_among ts ≤ suc limit
  terms_within signature scope limit depth no_written no_terms sorts reads none within = omega (arith, within)
  terms_within signature scope limit depth no_written (term_then t ts) sorts reads none within =
      absurd (none_read signature scope t ts sorts reads)
  terms_within signature scope limit depth (written_then w ws) no_terms sorts reads none within = absurd reads
  terms_within signature scope limit depth (written_then w ws) (term_then t ts) [] reads none within = absurd reads
  terms_within signature scope limit depth (written_then w ws) (term_then t ts) (sort ∷ sorts) reads none within =
      let parts = shallow_parts limit (term_nodes depth w) (terms_nodes depth ws) none in
      both (term_depth t) (depth_among ts) (suc limit) depth (term_within signature scope limit depth w t sort reads.0 parts.0)
      (terms_within signature scope limit depth ws ts sorts reads.1 parts.1 within)
