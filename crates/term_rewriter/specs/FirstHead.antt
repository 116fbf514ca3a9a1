-- Terms by the operations at their heads and at the heads of their first arguments, and the numbers of rules by them.
use Rattle.std.specs.Prelude.{ℕ, suc, Bool, true, false, ◌&&◌, ◌||◌, nat_eq, List, [], ◌∷◌, ◌++◌, Option, None, Some, if◌then◌else◌}
use Rattle.lotos_base.specs.Term.{Term, variable, node, Terms, no_terms, term_then}
use Rattle.rewriting_theory.specs.Rule.{Rule}

-- the operation at the head of the first term, if one is there
abbrev pub first_head : Terms → Option ℕ
first_head no_terms = None
first_head (term_then (variable n s) ts) = None
first_head (term_then (node g us) ts) = Some g

-- there is none
abbrev pub is_missing : Option ℕ → Bool
is_missing None = true
is_missing (Some k) = false

-- it is this one
abbrev pub is_head_number : ℕ → Option ℕ → Bool
is_head_number g None = false
is_head_number g (Some k) = nat_eq k g

-- the operation is at the head of the term, and none at the head of the first argument
abbrev pub is_open : ℕ → Term → Bool
is_open f (variable n s) = false
is_open f (node g ts) = nat_eq g f && is_missing (first_head ts)

-- the operation is at the head of the first argument
abbrev pub has_first : ℕ → Term → Bool
has_first f (variable n s) = false
has_first f (node g ts) = is_head_number f (first_head ts)

-- the operation is at the head of the term, and the other one at the head of the first argument
abbrev pub begins_with_heads : ℕ → ℕ → Term → Bool
begins_with_heads f g (variable n s) = false
begins_with_heads f g (node h ts) = nat_eq h f && is_head_number g (first_head ts)

-- the numbers, counted from one on, of the rules whose left sides pass the test
abbrev pub numbered_where : (Term → Bool) → ℕ → List Rule → List ℕ
numbered_where test first [] = []
numbered_where test first (rule ∷ rules) = (if test rule.left then first ∷ [] else []) ++ numbered_where test (suc first) rules

-- the first argument of the one may be that of the other: they do not begin with different operations
abbrev pub may_meet : Option ℕ → Option ℕ → Bool
may_meet None other = true
may_meet (Some g) other = is_missing other || is_head_number g other

-- a term with the operation and the first argument at its head may have an instance in common with this one
abbrev pub may_overlap : ℕ → Option ℕ → Term → Bool
may_overlap f first (variable n s) = false
may_overlap f first (node g ts) = nat_eq g f && may_meet first (first_head ts)
