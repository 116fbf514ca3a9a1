-- The worked cases of critical pairs, by the tests.
use Rattle.std.proofs.Common.{◌≡◌, ℕ, zero, suc, List, [], ◌∷◌, Bool, true, false, refl, subst}
use Rattle.std.specs.Prelude.{Option, Some, None, ◌&&◌, slice_get}
use Rattle.std.proofs.lemmas.Option.{same_Some}
use Rattle.std.proofs.lemmas.Bool.{and_parts}
use Rattle.lotos_base.specs.Term.{Term}
use Rattle.lotos_base.specs.Tests.{term_eq}
use Rattle.lotos_base.proofs.TestLemmas.{Decides-term_eq}
use Rattle.rewriting_theory.specs.Rule.{Rule, AreWellFormedRules}
use Rattle.rewriting_theory.specs.Rewriting.{AreConfluent}
use Rattle.rewriting_theory.specs.ChosenForm.{Chosen}
use Rattle.rewriting_theory.specs.CriticalPair.{CriticalPair}
use Rattle.rewriting_theory.specs.PairList.{AreCriticalPairs, IsUnjoined, IsFirstUnjoined}
use Rattle.rewriting_theory.specs.PairListLaws.{RewritesToTwo}
use Rattle.rewriting_theory.specs.Places.{places}
use Rattle.rewriting_theory.proofs.ChosenLemmas.{chosen_one}
use Rattle.rewriting_theory.proofs.PlaceListLemmas.{pairs_are_all}
use Rattle.rewriting_theory.proofs.PairListLemmas.{NoneUnjoined, none_unjoined_then, none_unjoined_nothing, agreeing_joined, first_of_list, none_unjoined_confluent, unjoined_not_confluent, unjoined_two}
use Rattle.rewriting_theory.specs.Precedence.{Precedence}
use Rattle.rewriting_theory.specs.PathOrder.{IsGreater}
use Rattle.rewriting_theory.specs.OrderTest.{is_greater}
use Rattle.rewriting_theory.specs.Orientation.{AreOriented}
use Rattle.rewriting_theory.specs.OrderCases.{later_above, compared_from_right}
use Rattle.rewriting_theory.specs.OrientationCases.{constant, on_one, to_the_right, to_the_left, copied_rules}
use Rattle.rewriting_theory.proofs.CaseLemmas.{is}
use Rattle.rewriting_theory.proofs.CaseTests.{chosen_within, chosen_found}
use Rattle.rewriting_theory.proofs.OrientationLemmas.{oriented_well_formed}
use Rattle.rewriting_theory.proofs.TerminationLemmas.{rewriting_ends}
use Rattle.worked_cases.specs.Samples.{var, two_results, one_rule, twice, meets, never_both, from_the_right}
use Rattle.worked_cases.specs.PairCases.{two_results_pairs, TwoResultCases, sums_pairs, SumCases, copies_pairs, CopyCases, OneRuleCases, twice_pairs, TwiceCases, meets_pairs, MeetCases, ApartCases, left_sums_pairs, RightStatusCases}
use Rattle.worked_cases.proofs.PairTests.{pairs_within, pairs_found}

-- the computed pairs are the critical pairs
listed : (k : ℕ) (rules : List Rule) (pairs : List CriticalPair) → pairs_within k rules (places rules) ≡ Some pairs
    → AreCriticalPairs rules pairs
listed k rules pairs e = pairs_are_all rules pairs (pairs_found k rules (places rules) pairs e)

-- ---- Orientation

abbrev all_greater : Precedence → List Rule → Bool
all_greater p [] = true
all_greater p (rule ∷ rules) = is_greater p rule.left rule.right && all_greater p rules

all_greater_so : (p : Precedence) (rules : List Rule) → all_greater p rules ≡ true → AreOriented p rules
all_greater_so p rules e = λ rule at. go rules e rule at.0 at.1
  where
    go : (rules : List Rule) → all_greater p rules ≡ true → (rule : Rule) (number : ℕ) → slice_get rules number ≡ Some rule
        → IsGreater p rule.left rule.right
    go [] h rule number at = let none : None ≡ Some rule = at in cc
    go (one ∷ rules) h rule zero at =
        let first = is p one.left one.right (and_parts (is_greater p one.left one.right) (all_greater p rules) h).0 in
        subst (λ (r : Rule). IsGreater p r.left r.right) (same_Some one rule at) first
    go (one ∷ rules) h rule (suc number) at = go rules
        (and_parts (is_greater p one.left one.right) (all_greater p rules) h).1 rule number at

-- ---- Which pairs join

-- whether and_parts sides of each pair have one chosen form, found within so many rounds
abbrev one_form : Option Term → Option Term → Bool
one_form None other = false
one_form (Some t) None = false
one_form (Some t) (Some u) = term_eq t u

abbrev all_join : ℕ → List Rule → List CriticalPair → Bool
all_join n rules [] = true
all_join n rules (pair ∷ pairs) = one_form (chosen_within n rules pair.left) (chosen_within n rules pair.right) && all_join n rules pairs

-- such a pair is not unjoined
one_form_so : (n : ℕ) (rules : List Rule) (pair : CriticalPair) (t u : Term) → AreWellFormedRules rules
    → one_form (chosen_within n rules pair.left) (chosen_within n rules pair.right) ≡ true → ¬ IsUnjoined rules pair t u
one_form_so n rules pair t u well e =
    go (chosen_within n rules pair.left) refl (chosen_within n rules pair.right) refl e
  where
    go : (one : Option Term) → chosen_within n rules pair.left ≡ one → (two : Option Term) → chosen_within n rules pair.right ≡ two
        → one_form one two ≡ true → ¬ IsUnjoined rules pair t u
    go None e1 two e2 h = cc
    go (Some left) e1 None e2 h = cc
    go (Some left) e1 (Some right) e2 h =
        agreeing_joined pair left right t u well (chosen_found n rules pair.left left e1) (chosen_found n rules pair.right right e2)
        ((Decides-term_eq left right).0 h)

all_join_so : (n : ℕ) (rules : List Rule) → AreWellFormedRules rules → (pairs : List CriticalPair) → all_join n rules pairs ≡ true
    → NoneUnjoined rules pairs
all_join_so n rules well [] e = none_unjoined_nothing rules
all_join_so n rules well (pair ∷ pairs) e =
    let parts = and_parts (one_form (chosen_within n rules pair.left) (chosen_within n rules pair.right)) (all_join n rules pairs) e in
    none_unjoined_then pair pairs (λ t u. one_form_so n rules pair t u well parts.0) (all_join_so n rules well pairs parts.1)

-- rules that are oriented and whose pairs join are confluent
confluent : (n : ℕ) (p : Precedence) (rules : List Rule) (pairs : List CriticalPair) → AreCriticalPairs rules pairs
    → all_greater p rules ≡ true → all_join n rules pairs ≡ true → AreConfluent rules
confluent n p rules pairs are oriented join =
    let turned = all_greater_so p rules oriented in
    none_unjoined_confluent rules pairs (oriented_well_formed p rules turned) (rewriting_ends p rules turned) are
    (all_join_so n rules (oriented_well_formed p rules turned) pairs join)

-- a pair whose chosen forms differ is unjoined
unjoined : (n : ℕ) (rules : List Rule) (pair : CriticalPair) (left right : Term) → chosen_within n rules pair.left ≡ Some left
    → chosen_within n rules pair.right ≡ Some right → term_eq left right ≡ false → IsUnjoined rules pair left right
unjoined n rules pair left right one two differ = record {
  is_left = chosen_found n rules pair.left left one;
  is_right = chosen_found n rules pair.right right two;
  differ = λ same. let other : term_eq left right ≡ true = (Decides-term_eq left right).1 same in cc;
}

-- What is shown of rules whose first listed pair is unjoined.
record Refutation (rules : List Rule) (pair : CriticalPair) (pairs : List CriticalPair) (left right : Term) : Type 0 where
  first : IsFirstUnjoined rules (pair ∷ pairs) 0 left right
  two : RewritesToTwo rules pair.peak left right
  refuted : ¬ AreConfluent rules

refutation : (p : Precedence) (rules : List Rule) (pair : CriticalPair) (pairs : List CriticalPair) (left right : Term)
    → AreCriticalPairs rules (pair ∷ pairs) → all_greater p rules ≡ true → IsUnjoined rules pair left right
    → Refutation rules pair pairs left right
refutation p rules pair pairs left right are oriented not_joined =
    let well = oriented_well_formed p rules (all_greater_so p rules oriented) in
    record {
      first = first_of_list rules pair pairs left right not_joined;
      two = unjoined_two rules pair left right well (are.critical 0 pair refl) not_joined;
      refuted = unjoined_not_confluent rules pair left right well (are.critical 0 pair refl) not_joined;
    }

-- ---- The cases

two_results_listed : AreCriticalPairs two_results two_results_pairs
two_results_listed = listed 10 two_results two_results_pairs refl

sums_listed : AreCriticalPairs to_the_right sums_pairs
sums_listed = listed 10 to_the_right sums_pairs refl

copies_listed : AreCriticalPairs copied_rules copies_pairs
copies_listed = listed 10 copied_rules copies_pairs refl

one_rule_listed : AreCriticalPairs one_rule []
one_rule_listed = listed 10 one_rule [] refl

twice_listed : AreCriticalPairs twice twice_pairs
twice_listed = listed 10 twice twice_pairs refl

meets_listed : AreCriticalPairs meets meets_pairs
meets_listed = listed 10 meets meets_pairs refl

never_both_listed : AreCriticalPairs never_both []
never_both_listed = listed 10 never_both [] refl

from_the_right_listed : AreCriticalPairs from_the_right []
from_the_right_listed = listed 10 from_the_right [] refl

left_sums_listed : AreCriticalPairs to_the_left left_sums_pairs
left_sums_listed = listed 10 to_the_left left_sums_pairs refl

pub two_result_cases : TwoResultCases
two_result_cases =
    let refutes = refutation later_above two_results _ _ (constant 1) (constant 2) two_results_listed refl
    (unjoined 10 two_results _ (constant 1) (constant 2) refl refl refl) in
    let form : Chosen two_results (on_one 3 (constant 0)) (constant 1) =
    chosen_found 10 two_results (on_one 3 (constant 0)) (constant 1) refl in
    record {
      pairs = two_results_listed;
      first = refutes.first;
      two = refutes.two;
      refuted = refutes.refuted;
      by_the_first = form;
      not_by_the_second = λ other.
          let same : constant 1 ≡ constant 2 =
          chosen_one (oriented_well_formed later_above two_results (all_greater_so later_above two_results refl)) form other in
          cc;
    }

pub twice_cases : TwiceCases
twice_cases =
    let refutes = refutation later_above twice _ _ (on_one 1 (on_one 2 (var 0))) (on_one 2 (on_one 1 (var 0))) twice_listed refl
    (unjoined 10 twice _ (on_one 1 (on_one 2 (var 0))) (on_one 2 (on_one 1 (var 0))) refl refl refl) in
    record { pairs = twice_listed; first = refutes.first; two = refutes.two; refuted = refutes.refuted }

pub sum_cases : SumCases
sum_cases = record { pairs = sums_listed; confluent = confluent 20 later_above to_the_right sums_pairs sums_listed refl refl }

pub copy_cases : CopyCases
copy_cases = record { pairs = copies_listed; confluent = confluent 20 later_above copied_rules copies_pairs copies_listed refl refl }

pub one_rule_cases : OneRuleCases
one_rule_cases = record { pairs = one_rule_listed; confluent = confluent 20 later_above one_rule [] one_rule_listed refl refl }

pub meet_cases : MeetCases
meet_cases = record { pairs = meets_listed; confluent = confluent 20 later_above meets meets_pairs meets_listed refl refl }

pub apart_cases : ApartCases
apart_cases = record { pairs = never_both_listed; confluent = confluent 20 later_above never_both [] never_both_listed refl refl }

pub right_status_cases : RightStatusCases
right_status_cases = record {
  pairs = from_the_right_listed;
  confluent = confluent 20 (compared_from_right 2) from_the_right [] from_the_right_listed refl refl;
  sums = left_sums_listed;
  sums_confluent = confluent 20 (compared_from_right 2) to_the_left left_sums_pairs left_sums_listed refl refl;
}
