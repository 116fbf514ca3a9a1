-- What the rules of the code carry: they are oriented, so they are well formed, rewriting by them ends and each term has a
-- chosen form; and they are sorted rules of data of their own.
use Rattle.std.proofs.Common.{◌≡◌, ℕ, zero, suc, List, [], ◌∷◌, map, true, refl, ap, sym, ◌∙◌, subst, inr}
use Rattle.std.specs.Prelude.{Some, None, slice_get, ◌&&◌}
use Rattle.std.proofs.lemmas.Option.{same_Some}
use Rattle.std.proofs.lemmas.Bool.{and_parts}
use Rattle.lotos_base.specs.Signature.{Signature}
use Rattle.lotos_base.specs.Equation.{Equation, Data, HasOneSort, HasSortedSides}
use Rattle.lotos_base.specs.Equality.{forward}
use Rattle.lotos_base.specs.Sorting.{HasSort}
use Rattle.rewriting_theory.specs.Rule.{Rule as PlainRule, AreWellFormedRules, AreRulesOf, AreSortedRulesOf}
use Rattle.rewriting_theory.specs.Rewriting.{Terminates}
use Rattle.rewriting_theory.specs.Measure.{HaveChosenForms}
use Rattle.rewriting_theory.proofs.PublicLemmas.{chosen_form}
use Rattle.rewriting_theory.specs.Precedence.{Precedence}
use Rattle.rewriting_theory.specs.Orientation.{AreOriented}
use Rattle.rewriting_theory.specs.OrderTest.{is_greater}
use Rattle.rewriting_theory.proofs.OrderLemmas.{greater_decided}
use Rattle.rewriting_theory.proofs.OrientationLemmas.{oriented_well_formed}
use Rattle.rewriting_theory.proofs.TerminationLemmas.{rewriting_ends}
use Rattle.sort_terms.specs.ProfiledTerm.{bare, head_sort}
use Rattle.sort_terms.proofs.ProfiledTermLemmas.{fitting_has_sort}
use Rattle.path_order.specs.declared.rule.Rule.{Rule}
use Rattle.path_order.specs.declared.rules.Rules.{Rules}
use Rattle.path_order.specs.RuleHead.{are_oriented}
use Rattle.path_order.specs.RuleSides.{sides_of, all_sides, AreSidesOver, AreAllOver}
use Rattle.path_order.specs.RuleView.{rule_of, plain_rules}
use Rattle.path_order.specs.RulesView.{plain_rules_in, precedence_in, signature_in}

-- ---- the test of orientation

pub oriented_by_test : (p : Precedence) (rules : List PlainRule) → are_oriented p rules ≡ true → AreOriented p rules
oriented_by_test p [] e rule is = let none : None ≡ Some rule = is.1 in cc
oriented_by_test p (first ∷ rules) e rule (zero, is) =
    let same : first ≡ rule = same_Some first rule is in
    let test : is_greater p rule.left rule.right ≡ true =
    ap (λ (r : PlainRule). is_greater p r.left r.right) (sym same)
    ∙ (and_parts (is_greater p first.left first.right) (are_oriented p rules) e).0 in
    (greater_decided p rule.left rule.right).0 test
oriented_by_test p (first ∷ rules) e rule (suc k, is) =
    oriented_by_test p rules (and_parts (is_greater p first.left first.right) (are_oriented p rules) e).1 rule (k, is)

pub test_of_oriented : (p : Precedence) (rules : List PlainRule) → AreOriented p rules → are_oriented p rules ≡ true
test_of_oriented p [] oriented = refl
test_of_oriented p (first ∷ rules) oriented =
    let here : is_greater p first.left first.right ≡ true = (greater_decided p first.left first.right).1 (oriented first (0, refl)) in
    let later : are_oriented p rules ≡ true = test_of_oriented p rules (λ rule is. oriented rule (suc is.0, is.1)) in
    λ i. here i && later i

-- ---- rules of the code

pub rules_oriented : (rules : Rules) → AreOriented (precedence_in rules) (plain_rules_in rules)
rules_oriented rules = oriented_by_test (precedence_in rules) (plain_rules_in rules) rules.oriented

pub rules_well_formed : (rules : Rules) → AreWellFormedRules (plain_rules_in rules)
rules_well_formed rules = oriented_well_formed (precedence_in rules) (plain_rules_in rules) (rules_oriented rules)

pub rules_end : (rules : Rules) → Terminates (plain_rules_in rules)
rules_end rules = rewriting_ends (precedence_in rules) (plain_rules_in rules) (rules_oriented rules)

abbrev pub rules_have_forms : (rules : Rules) → HaveChosenForms (plain_rules_in rules)
rules_have_forms rules = chosen_form (plain_rules_in rules) (rules_end rules)

-- ---- the rules as data

abbrev pub as_equation : PlainRule → Equation
as_equation rule = record {
  place = record { text = 0; line = 0; column = 0 };
  variables = [];
  left = rule.left;
  right = rule.right;
}

-- data whose equations are the rules
abbrev pub data_with : Signature → List PlainRule → Data
data_with signature rules = record { signature = signature; equations = map as_equation rules }

abbrev pub rules_data : Rules → Data
rules_data rules = data_with (signature_in rules) (plain_rules_in rules)

equation_at : (rules : List PlainRule) (k : ℕ) (rule : PlainRule) → slice_get rules k ≡ Some rule
    → slice_get (map as_equation rules) k ≡ Some (as_equation rule)
equation_at [] k rule is = cc
equation_at (first ∷ rules) zero rule is = ap (λ (r : PlainRule). Some (as_equation r)) (same_Some first rule is)
equation_at (first ∷ rules) (suc k) rule is = equation_at rules k rule is

rule_at : (rules : List PlainRule) (k : ℕ) (equation : Equation) → slice_get (map as_equation rules) k ≡ Some equation
    → (rule : PlainRule) × (slice_get rules k ≡ Some rule) × (as_equation rule ≡ equation)
rule_at [] k equation is = cc
rule_at (first ∷ rules) zero equation is = (first, refl, same_Some (as_equation first) equation is)
rule_at (first ∷ rules) (suc k) equation is = rule_at rules k equation is

rules_of_themselves : (signature : Signature) (rules : List PlainRule) → AreRulesOf (data_with signature rules) rules
rules_of_themselves signature rules = record {
  rules_turned = λ rule is.
      (as_equation rule, forward, (is.0, equation_at rules is.0 rule is.1), record { left = refl; right = refl });
  equations_kept = λ equation is.
      let from = rule_at rules is.0 equation is.1 in
      inr (
        from.0,
        forward,
        (is.0, from.1),
        record {
          left = ap (λ (e : Equation). e.left) from.2;
          right = ap (λ (e : Equation). e.right) from.2;
        },
      );
}

-- the rule and the sides at a place
code_rule_at : (rules : List Rule) (k : ℕ) (rule : PlainRule) → slice_get (plain_rules rules) k ≡ Some rule
    → (one : Rule) × (slice_get (all_sides rules) k ≡ Some (sides_of one)) × (rule_of one ≡ rule)
code_rule_at [] k rule is = cc
code_rule_at (first ∷ rules) zero rule is = (first, refl, same_Some (rule_of first) rule is)
code_rule_at (first ∷ rules) (suc k) rule is = code_rule_at rules k rule is

one_sort_of : (signature : Signature) (one : Rule) → AreSidesOver signature (sides_of one)
    → HasOneSort signature (as_equation (rule_of one))
one_sort_of signature one over = record {
  sort = head_sort (sides_of one).left;
  left = fitting_has_sort signature (sides_of one).left over.left_is_of over.left_fits;
  right = subst (λ (s : ℕ). HasSort signature (bare (sides_of one).right) s) (sym over.one_sort)
      (fitting_has_sort signature (sides_of one).right over.right_is_of over.right_fits);
}

sorted_sides : (signature : Signature) (rules : List Rule) → AreAllOver signature (all_sides rules)
    → HasSortedSides (data_with signature (plain_rules rules))
sorted_sides signature rules over = λ equation is.
    let from = rule_at (plain_rules rules) is.0 equation is.1 in
    let one = code_rule_at rules is.0 from.0 from.1 in
    let same : as_equation (rule_of one.0) ≡ equation = ap as_equation one.2 ∙ from.2 in
    subst (λ (e : Equation). HasOneSort signature e) same (one_sort_of signature one.0 (over is.0 (sides_of one.0) one.1))

pub rules_sorted : (rules : Rules) → AreSortedRulesOf (rules_data rules) (plain_rules_in rules)
rules_sorted rules = record {
  sorted_sides = sorted_sides (signature_in rules) rules.rules.items rules.over;
  rules_of_data = rules_of_themselves (signature_in rules) (plain_rules_in rules);
  well_formed = rules_well_formed rules;
}
