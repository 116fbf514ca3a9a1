-- The test of given rules.
use Rattle.std.proofs.Common.{◌≡◌, ◌≢◌, ℕ, suc, List, [], ◌∷◌, Bool, true, false, nat_eq, refl, ap, ◌∙◌, inl, inr}
use Rattle.std.specs.Prelude.{◌&&◌, ◌||◌, ◌⊎◌, if◌then◌else◌}
use Rattle.std.proofs.lemmas.Bool.{and_parts, or_cases, and_from, or_left, or_right}
use Rattle.std.proofs.lemmas.Bool.Decides.{Decides-eqb}
use Rattle.lotos_base.specs.Tests.{term_eq}
use Rattle.lotos_base.specs.Equation.{Equation}
use Rattle.lotos_base.specs.Equality.{Direction, forward, backward, old_side, new_side}
use Rattle.lotos_base.proofs.TestLemmas.{Decides-term_eq}
use Rattle.rewriting_theory.specs.Rule.{Rule, IsTurned}
use Rattle.rewriting_theory.specs.Precedence.{Precedence}
use Rattle.rewriting_theory.specs.Orientation.{NumberedRule, TurnsToSmaller, GiveRules, no_more, dropped, turned_next}
use Rattle.rewriting_theory.specs.OrderTest.{is_greater}
use Rattle.rewriting_theory.specs.PathOrder.{IsGreater}
use Rattle.rewriting_theory.proofs.OrderLemmas.{greater_decided}
use Rattle.rewriting_theory.proofs.OrientationLemmas.{unlike}
use Rattle.path_order.specs.RuleTest.{is_turned_so, next_gives, gives_rules}

-- the rule is the equation in this direction
turned_by : (direction : Direction) (equation : Equation) (rule : Rule)
    → (term_eq rule.left (old_side direction equation) && term_eq rule.right (new_side direction equation)) ≡ true
    → IsTurned direction equation rule
turned_by direction equation rule e =
    let parts = and_parts (term_eq rule.left (old_side direction equation)) (term_eq rule.right (new_side direction equation)) e in
    record {
      left = (Decides-term_eq rule.left (old_side direction equation)).0 parts.0;
      right = (Decides-term_eq rule.right (new_side direction equation)).0 parts.1;
    }

test_of_turned : (direction : Direction) (equation : Equation) (rule : Rule) → IsTurned direction equation rule
    → (term_eq rule.left (old_side direction equation) && term_eq rule.right (new_side direction equation)) ≡ true
test_of_turned direction equation rule turned =
    and_from (term_eq rule.left (old_side direction equation)) (term_eq rule.right (new_side direction equation))
    ((Decides-term_eq rule.left (old_side direction equation)).1 turned.left)
    ((Decides-term_eq rule.right (new_side direction equation)).1 turned.right)

turns_by_test : (p : Precedence) (equation : Equation) (rule : Rule) → is_turned_so p equation rule ≡ true
    → (direction : Direction) × TurnsToSmaller p direction equation rule
turns_by_test p equation rule e =
    let forth = term_eq rule.left equation.left && term_eq rule.right equation.right in
    let back = term_eq rule.left equation.right && term_eq rule.right equation.left in
    let parts = and_parts (forth || back) (is_greater p rule.left rule.right) e in
    go (or_cases forth back parts.0) ((greater_decided p rule.left rule.right).0 parts.1)
  where
    go : ((term_eq rule.left equation.left && term_eq rule.right equation.right) ≡ true)
        ⊎ ((term_eq rule.left equation.right && term_eq rule.right equation.left) ≡ true)
        → IsGreater p rule.left rule.right → (direction : Direction) × TurnsToSmaller p direction equation rule
    go (inl so) greater = (forward, record { turned = turned_by forward equation rule so; greater = greater })
    go (inr so) greater = (backward, record { turned = turned_by backward equation rule so; greater = greater })

test_of_turns : (p : Precedence) (direction : Direction) (equation : Equation) (rule : Rule) → TurnsToSmaller p direction equation rule
    → is_turned_so p equation rule ≡ true
test_of_turns p forward equation rule turns =
    and_from ((term_eq rule.left equation.left && term_eq rule.right equation.right)
    || (term_eq rule.left equation.right && term_eq rule.right equation.left)) (is_greater p rule.left rule.right)
    (or_left (term_eq rule.left equation.left && term_eq rule.right equation.right)
    (term_eq rule.left equation.right && term_eq rule.right equation.left) (test_of_turned forward equation rule turns.turned))
    ((greater_decided p rule.left rule.right).1 turns.greater)
test_of_turns p backward equation rule turns =
    and_from ((term_eq rule.left equation.left && term_eq rule.right equation.right)
    || (term_eq rule.left equation.right && term_eq rule.right equation.left)) (is_greater p rule.left rule.right)
    (or_right (term_eq rule.left equation.left && term_eq rule.right equation.right)
    (term_eq rule.left equation.right && term_eq rule.right equation.left) (test_of_turned backward equation rule turns.turned))
    ((greater_decided p rule.left rule.right).1 turns.greater)

pub test_gives : (p : Precedence) (n : ℕ) (equations : List Equation) (rules : List NumberedRule)
    → gives_rules p n equations rules ≡ true → GiveRules p n equations rules
test_gives p n [] [] e = no_more
test_gives p n [] (first ∷ rules) e = cc
test_gives p n (equation ∷ equations) rules e =
    go (term_eq equation.left equation.right) refl rules e (λ rest h. test_gives p (suc n) equations rest h)
  where
    go : (b : Bool) → term_eq equation.left equation.right ≡ b → (rs : List NumberedRule)
        → (if b then gives_rules p (suc n) equations rs else next_gives p n equation (gives_rules p (suc n) equations) rs) ≡ true
        → ((rest : List NumberedRule) → gives_rules p (suc n) equations rest ≡ true → GiveRules p (suc n) equations rest)
        → GiveRules p n (equation ∷ equations) rs
    go true same rs h below = dropped ((Decides-term_eq equation.left equation.right).0 same) (below rs h)
    go false differ [] h below = cc
    go false differ (first ∷ rest) h below =
        let outer = and_parts (nat_eq first.equation n && is_turned_so p equation first.rule) (gives_rules p (suc n) equations rest) h in
        let inner = and_parts (nat_eq first.equation n) (is_turned_so p equation first.rule) outer.0 in
        let turned = turns_by_test p equation first.rule inner.1 in
        turned_next turned.0 ((Decides-eqb first.equation n).0 inner.0) (unlike equation.left equation.right differ) turned.1
        (below rest outer.1)

differing : (equation : Equation) → equation.left ≢ equation.right → term_eq equation.left equation.right ≡ false
differing equation differ = go (term_eq equation.left equation.right) refl
  where
    go : (b : Bool) → term_eq equation.left equation.right ≡ b → term_eq equation.left equation.right ≡ false
    go true same = absurd (differ ((Decides-term_eq equation.left equation.right).0 same))
    go false e = e

pub given_passes : {p : Precedence} {n : ℕ} {equations : List Equation} {rules : List NumberedRule} → GiveRules p n equations rules
    → gives_rules p n equations rules ≡ true
given_passes no_more = refl
given_passes {p = p} (dropped {n = n} {equation = equation} {equations = equations} {rules = rules} same rest) =
    ap (λ (b : Bool). if b then gives_rules p (suc n) equations rules
    else next_gives p n equation (gives_rules p (suc n) equations) rules)
    ((Decides-term_eq equation.left equation.right).1 same)
    ∙ given_passes rest
given_passes {p = p} (turned_next {n = n} {equation = equation} {equations = equations} {first = first} {rules = rules} direction en ne t
    rest) =
    ap (λ (b : Bool). if b then gives_rules p (suc n) equations (first ∷ rules)
    else next_gives p n equation (gives_rules p (suc n) equations) (first ∷ rules)) (differing equation ne)
    ∙ and_from (nat_eq first.equation n && is_turned_so p equation first.rule) (gives_rules p (suc n) equations rules)
    (and_from (nat_eq first.equation n) (is_turned_so p equation first.rule) ((Decides-eqb first.equation n).1 en)
    (test_of_turns p direction equation first.rule t)) (given_passes rest)
