-- Rules by the operation at the head of their left side, and whether each rule is oriented, by tests that compute.
use Rattle.std.specs.Prelude.{ℕ, zero, suc, Bool, true, false, ◌&&◌, nat_eq, List, [], ◌∷◌, ◌++◌, if◌then◌else◌}
use Rattle.lotos_base.specs.Term.{Term, variable, node}
use Rattle.rewriting_theory.specs.Rule.{Rule}
use Rattle.rewriting_theory.specs.Precedence.{Precedence}
use Rattle.rewriting_theory.specs.OrderTest.{is_greater}

-- whether the operation with this number is at the head of the term
abbrev pub has_head : ℕ → Term → Bool
has_head f (variable n s) = false
has_head f (node g ts) = nat_eq g f

-- the numbers, counted from one on, of the rules whose left sides have this operation at the head
abbrev pub headed_from : ℕ → ℕ → List Rule → List ℕ
headed_from f first [] = []
headed_from f first (rule ∷ rules) = (if has_head f rule.left then first ∷ [] else []) ++ headed_from f (suc first) rules

-- the numbers of those rules, from 0
abbrev pub headed : ℕ → List Rule → List ℕ
headed f rules = headed_from f zero rules

-- whether the left side of each rule is greater than its right side
abbrev pub are_oriented : Precedence → List Rule → Bool
are_oriented precedence [] = true
are_oriented precedence (rule ∷ rules) = is_greater precedence rule.left rule.right && are_oriented precedence rules
