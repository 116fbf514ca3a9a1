-- The addition of natural numbers: its two rules do not overlap.
use Rattle.std.proofs.Common.{◌≡◌, ℕ, zero, suc, List, [], ◌∷◌, refl, sym, ◌∙◌, subst}
use Rattle.std.specs.Prelude.{Some}
use Rattle.std.proofs.lemmas.Option.{same_Some}
use Rattle.lotos_base.specs.Term.{Term}
use Rattle.lotos_base.specs.Sorting.{IsGroundOf}
use Rattle.lotos_base.specs.Path.{subterm}
use Rattle.lotos_base.specs.Substitution.{Substitution, substituted, renaming, followed_by}
use Rattle.lotos_base.specs.SmallData.{natural_data, nought, successor, plus, x_natural, y_natural}
use Rattle.lotos_base.proofs.ExampleLemmas.{sorting_examples}
use Rattle.lotos_base.proofs.SortLemmas.{well_formed_sides}
use Rattle.lotos_base.proofs.SubstitutionLemmas.{substituted_twice}
use Rattle.rewriting_theory.specs.Rule.{Rule, IsNode, IsRuleAt}
use Rattle.rewriting_theory.specs.CriticalPair.{CriticalPair, IsCriticalPair}
use Rattle.rewriting_theory.specs.OrderCases.{later_above}
use Rattle.rewriting_theory.specs.OrientationCases.{rule_from_equation, addition_rules}
use Rattle.rewriting_theory.specs.Orientation.{NumberedRule}
use Rattle.rewriting_theory.specs.CanonCases.{AdditionCanonCases}
use Rattle.rewriting_theory.proofs.OrientationLemmas.{rules_of_data}
use Rattle.rewriting_theory.proofs.TerminationLemmas.{rewriting_ends}
use Rattle.rewriting_theory.proofs.ChosenCanonLemmas.{pairs_tell, some_canon, chosen_decide}
use Rattle.rewriting_theory.proofs.OrientationCaseLemmas.{addition_cases}
use Rattle.rewriting_theory.proofs.CaseTests.{chosen_found}

-- ---- which rules and which places there are

abbrev first_left : Term
first_left = plus nought x_natural

abbrev second_left : Term
second_left = plus (successor x_natural) y_natural

-- The left sides, by the numbers of their rules.
data LeftAt : ℕ → Term → Type 0 where
  left_first : LeftAt 0 first_left
  left_second : LeftAt 1 second_left

left_at : (n : ℕ) (rule : Rule) → IsRuleAt addition_rules n rule → LeftAt n rule.left
left_at zero rule e = subst (λ (r : Rule). LeftAt 0 r.left) (same_Some _ rule e) left_first
left_at (suc zero) rule e = subst (λ (r : Rule). LeftAt 1 r.left) (same_Some _ rule e) left_second
left_at (suc (suc n)) rule e = cc

-- The parts of the left sides that are no variables: the whole, or what is no sum.
data PartAt : List ℕ → Term → Term → Type 0 where
  whole : {left : Term} → PartAt [] left left
  no_sum : {path : List ℕ} {left part : Term} → ((v w : Substitution) (t u : Term) → substituted v part ≡ plus t u → ⊥)
      → PartAt path left part

nought_no_sum : (v w : Substitution) (t u : Term) → substituted v nought ≡ plus t u → ⊥
nought_no_sum v w t u e = cc

successor_no_sum : (v w : Substitution) (t u : Term) → substituted v (successor x_natural) ≡ plus t u → ⊥
successor_no_sum v w t u e = cc

part_of_first : (path : List ℕ) (part : Term) → subterm path first_left ≡ Some part → IsNode part → PartAt path first_left part
part_of_first [] part e node_ = subst (λ (t : Term). PartAt [] first_left t) (same_Some first_left part e) whole
part_of_first (zero ∷ []) part e node_ =
    subst (λ (t : Term). PartAt (zero ∷ []) first_left t) (same_Some nought part e) (no_sum nought_no_sum)
part_of_first (zero ∷ k ∷ path) part e node_ = cc
part_of_first (suc zero ∷ []) part e node_ = absurd (subst IsNode (sym (same_Some x_natural part e)) node_)
part_of_first (suc zero ∷ k ∷ path) part e node_ = cc
part_of_first (suc (suc n) ∷ path) part e node_ = cc

part_of_second : (path : List ℕ) (part : Term) → subterm path second_left ≡ Some part → IsNode part → PartAt path second_left part
part_of_second [] part e node_ = subst (λ (t : Term). PartAt [] second_left t) (same_Some second_left part e) whole
part_of_second (zero ∷ []) part e node_ =
    subst (λ (t : Term). PartAt (zero ∷ []) second_left t) (same_Some (successor x_natural) part e) (no_sum successor_no_sum)
part_of_second (zero ∷ zero ∷ []) part e node_ = absurd (subst IsNode (sym (same_Some x_natural part e)) node_)
part_of_second (zero ∷ zero ∷ k ∷ path) part e node_ = cc
part_of_second (zero ∷ suc n ∷ path) part e node_ = cc
part_of_second (suc zero ∷ []) part e node_ = absurd (subst IsNode (sym (same_Some y_natural part e)) node_)
part_of_second (suc zero ∷ k ∷ path) part e node_ = cc
part_of_second (suc (suc n) ∷ path) part e node_ = cc

part_at : {n : ℕ} {left : Term} (path : List ℕ) (part : Term) → LeftAt n left → subterm path left ≡ Some part → IsNode part
    → PartAt path left part
part_at path part left_first e node_ = part_of_first path part e node_
part_at path part left_second e node_ = part_of_second path part e node_

-- ---- no overlap

-- an instance of a left side is a sum
instance_sum : {n : ℕ} {left : Term} (w : Substitution) → LeftAt n left
    → (t : Term) × (u : Term) × (substituted w left ≡ plus t u)
instance_sum w left_first = (_, _, refl)
instance_sum w left_second = (_, _, refl)

roots_apart : {n m : ℕ} {left other : Term} (v w : Substitution) → LeftAt n left → LeftAt m other → (n ≡ m → ⊥)
    → substituted v left ≡ substituted w other → ⊥
roots_apart v w left_first left_first ne e = ne refl
roots_apart v w left_first left_second ne e = cc
roots_apart v w left_second left_first ne e = cc
roots_apart v w left_second left_second ne e = ne refl

apart_at : {n m : ℕ} {path : List ℕ} {left part other : Term} (v w : Substitution) → LeftAt n left → PartAt path left part
    → LeftAt m other → (n ≡ m → path ≡ [] → ⊥) → substituted v part ≡ substituted w other → ⊥
apart_at v w one whole two ne e = roots_apart v w one two (λ same. ne same refl) e
apart_at v w one (no_sum none) two ne e =
    let instance = instance_sum w two in
    none v w instance.0 instance.1 (e ∙ instance.2)

no_pair : (pair : CriticalPair) → IsCriticalPair addition_rules pair → ⊥
no_pair pair is =
    let one = left_at pair.first is.place.first_rule is.place.is_first in
    let two = left_at pair.second is.place.second_rule is.place.is_second in
    let part = part_at pair.path is.place.part one is.place.is_part is.place.no_variable in
    apart_at is.values (followed_by (renaming is.number) is.values) one part two is.place.no_same_root
    (is.general.unifies ∙ substituted_twice (renaming is.number) is.values is.place.second_rule.left)

-- ---- so the rules are confluent

abbrev numbered : List NumberedRule
numbered =
    rule_from_equation 0 (plus nought x_natural) x_natural
    ∷ rule_from_equation 1 (plus (successor x_natural) y_natural) (successor (plus x_natural y_natural))
    ∷ []

-- the term of a number
abbrev number : ℕ → Term
number zero = nought
number (suc n) = successor (number n)

numbers_ground : (n : ℕ) → IsGroundOf natural_data.signature 0 (number n)
numbers_ground zero = record { ground = tt; sorted = (_, refl, refl, tt) }
numbers_ground (suc n) =
    let less = numbers_ground n in
    record { ground = (less.ground, tt); sorted = (_, refl, refl, (less.sorted, tt)) }

sum_ground : IsGroundOf natural_data.signature 0 (plus (number 1) (number 1))
sum_ground =
    let one = numbers_ground 1 in
    record { ground = (one.ground, (one.ground, tt)); sorted = (_, refl, refl, (one.sorted, (one.sorted, tt))) }

pub addition_canon_cases : AdditionCanonCases
addition_canon_cases =
    let sorted = well_formed_sides natural_data sorting_examples.naturals in
    let oriented = (rules_of_data later_above natural_data numbered addition_cases.rules).1 in
    let confluent = (pairs_tell later_above addition_rules oriented).1 (λ pair left right is one two. absurd (no_pair pair is)) in
    record {
      sorted = sorted;
      ends = rewriting_ends later_above addition_rules oriented;
      no_pair = no_pair;
      confluent = confluent;
      canon = some_canon later_above natural_data numbered sorted addition_cases.rules confluent;
      equal = (chosen_decide later_above natural_data numbered (plus (number 1) (number 1)) (number 2) (number 2) (number 2) 0
          sorted addition_cases.rules confluent sum_ground (numbers_ground 2)
          (chosen_found 9 addition_rules _ _ refl) (chosen_found 9 addition_rules _ _ refl)).1 refl;
      not_equal = λ equal.
          let same : number 2 ≡ number 1 =
          (chosen_decide later_above natural_data numbered (plus (number 1) (number 1)) (number 1) (number 2) (number 1) 0
          sorted addition_cases.rules confluent sum_ground (numbers_ground 1)
          (chosen_found 9 addition_rules _ _ refl) (chosen_found 9 addition_rules _ _ refl)).0 equal in
          cc;
    }
