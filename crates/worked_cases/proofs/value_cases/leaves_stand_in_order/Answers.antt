use Rattle.std.proofs.Common.{◌≡◌, ℕ, List, [], ◌∷◌, refl, ap, sym, subst}
use Rattle.lotos_base.specs.Term.{Term}
use Rattle.behaviour_semantics.specs.Behaviour.{Behaviour}
use Rattle.behaviour_semantics.specs.Label.{Label}
use Rattle.behaviour_semantics.specs.Shape.{act}
use Rattle.behaviour_semantics.specs.Rule.{AreValues}
use Rattle.behaviour_semantics.specs.Move.{Move}
use Rattle.behaviour_semantics.specs.Solving.{settled}
use Rattle.behaviour_semantics.proofs.OptionLemmas.{some_value}
use Rattle.worked_cases.specs.BehaviourSamples.{nat_sort, sample_signature}
use Rattle.worked_cases.specs.Showing.{Steps}
use Rattle.worked_cases.specs.ValueCases.{two_questions}
use Rattle.worked_cases.proofs.CaseLemmas.{truth_not_sorted}
use Rattle.worked_cases.proofs.ShownMenus.{menu, steps}
use Rattle.worked_cases.proofs.value_cases.leaves_stand_in_order.Goals as goal

-- A step with these leaves has two numbers.
two_numbers : (leaves : List Term) (label : Label) (target : Behaviour) → Steps [] two_questions act leaves label target
    → AreValues sample_signature (nat_sort ∷ nat_sort ∷ []) leaves
two_numbers leaves label target d =
    let wanted : nat_sort ∷ nat_sort ∷ [] ≡ d.sorts = ap (λ (m : Move). m.sorts) (some_value d.move) in
    subst (λ (sorts : List ℕ). AreValues sample_signature sorts leaves) (sym wanted) d.leaves

pub returns : goal.returns
returns c = record {
  results_menu = menu _ _ 9 _ refl refl refl (settled _ refl refl, tt);
  results = steps _ _ _ _ _ _ _ _ refl refl refl;
  questions_menu = menu _ _ 9 _ refl refl refl (settled _ refl refl, tt);
  questions = steps _ _ _ _ _ _ _ _ refl refl refl;
  choice_menu = menu _ _ 9 _ refl refl refl (settled _ refl refl, tt);
  choice_first = steps _ _ _ _ _ _ _ _ refl refl refl;
  not_fewer = λ label target d. (two_numbers _ label target d).1;
  not_more = λ label target d. (two_numbers _ label target d).1.1;
  not_another_sort = λ label target d. truth_not_sorted (two_numbers _ label target d).0.sorted;
}
