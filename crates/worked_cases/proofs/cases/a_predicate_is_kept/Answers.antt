use Rattle.std.proofs.Common.{◌≡◌, [], ◌∷◌, refl, ap, sym, subst}
use Rattle.behaviour_semantics.specs.Behaviour.{Behaviour}
use Rattle.behaviour_semantics.specs.Label.{Label}
use Rattle.behaviour_semantics.specs.Shape.{act}
use Rattle.behaviour_semantics.specs.Rule.{AllHold}
use Rattle.behaviour_semantics.specs.Move.{Move}
use Rattle.behaviour_semantics.specs.Solving.{settled}
use Rattle.behaviour_semantics.proofs.OptionLemmas.{some_value}
use Rattle.worked_cases.specs.BehaviourSamples.{nat_sort, one, two, truth, less, sample_test, sample_signature, sample_data, sample_canon}
use Rattle.worked_cases.specs.Showing.{Steps}
use Rattle.worked_cases.specs.OfferCases.{below_two}
use Rattle.worked_cases.proofs.SampleCanon.{sample_is_canon}
use Rattle.worked_cases.proofs.TermTests.{values_in, tests_hold}
use Rattle.worked_cases.proofs.CaseLemmas.{two_not_below_two}
use Rattle.worked_cases.proofs.ShownMenus.{menu, steps}
use Rattle.worked_cases.proofs.cases.a_predicate_is_kept.Goals as goal

-- What a step with 2 asks does not hold.
no_step : (label : Label) (target : Behaviour) → Steps [] below_two act (two ∷ []) label target → ⊥
no_step label target d =
    let asked : sample_test (less two two) truth ∷ [] ≡ d.asked = ap (λ (m : Move). m.asked) (some_value d.move) in
    two_not_below_two (subst (AllHold sample_data) (sym asked) d.holds).0

pub returns : goal.returns
returns c = record {
  menu = menu _ _ 9 _ refl refl refl (settled _ refl refl, tt);
  one_meets = record {
    sorted = values_in sample_signature (nat_sort ∷ []) (one ∷ []) refl;
    met = tests_hold sample_data sample_canon sample_is_canon (sample_test (less one two) truth ∷ []) refl;
  };
  two_does_not = λ h. two_not_below_two h.met.0;
  step = steps _ _ _ _ _ _ _ _ refl refl refl;
  no_step = no_step;
  next = menu _ _ 9 _ refl refl refl (settled _ refl refl, tt);
}
