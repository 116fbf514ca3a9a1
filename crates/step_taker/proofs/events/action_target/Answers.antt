use Rattle.std.proofs.Common.{◌∙◌, map, ap, sym, subst}
use Rattle.std.specs.Prelude.{option_map}
use Rattle.lotos_base.specs.Equation.{Data}
use Rattle.lotos_base.specs.Term.{Term}
use Rattle.lotos_base.specs.Substitution.{binding}
use Rattle.behaviour_semantics.specs.Fault.{first_unmet}
use Rattle.behaviour_semantics.specs.Replacement.{with_values}
use Rattle.behaviour_semantics.specs.Rule.{tests_of}
use Rattle.behaviour_tree.specs.BehaviourTerms.{option_profiles}
use Rattle.behaviour_tree.specs.BehaviourView.{behaviour_of, offer_of, terms_of, test_of}
use Rattle.behaviour_tree.specs.Over.{AreTermsOf}
use Rattle.behaviour_tree.specs.StateView.{environment_of, pair_profile}
use Rattle.behaviour_tree.proofs.ClosedLemmas.{terms_both}
use Rattle.step_parts.proofs.CheckedLemmas.{checked_err, told_more}
use Rattle.step_taker.specs.Taken.{ground_of}
use Rattle.step_taker.proofs.EventLemmas.{chosen_closed, test_suited}
use Rattle.lotos_base.specs.Substitution.{Substitution}
use Rattle.step_taker.proofs.EventLemmas.{enough_there}
use Rattle.step_taker.proofs.events.action_target.Goals as goal

pub asked_values-requires-clause-leaves : goal.asked_values-requires-clause-leaves
asked_values-requires-clause-leaves g c =
    c.requires.walk.leaves_of_signature

pub asked_values-requires-clause-enough : goal.asked_values-requires-clause-enough
asked_values-requires-clause-enough g c =
    enough_there (g.D.Deciding.known_data c.args.data.now).signature c.args.walk.now.leaves.now c.args.at.leaf _ c.requires.part.right

pub checked_test-requires-clause-terms : goal.checked_test-requires-clause-terms
checked_test-requires-clause-terms g c =
    subst (λ (d : Data). AreTermsOf d.signature (option_profiles c.args.test.now)) (sym c.asked_values.ensures.same_known.same_data)
    c.requires.test

pub checked_test-requires-clause-values : goal.checked_test-requires-clause-values
checked_test-requires-clause-values g c =
    subst (λ (d : Data). AreTermsOf d.signature (map pair_profile c.in_ok-pairs.pairs.items)) (sym
    c.asked_values.ensures.same_known.same_data)
    c.in_ok-pairs.ensures.over

pub checked_test-requires-clause-suited : goal.checked_test-requires-clause-suited
checked_test-requires-clause-suited g c =
    test_suited (ground_of (g.D.Deciding.known_data c.args.data.now) (g.D.Deciding.canon c.args.data.now) c.args.walk.now.spec.now)
    (g.met.D.Deciding.is_canon c.args.data.now) (map offer_of c.args.offers.now.items) (option_map test_of c.args.test.now)
    (behaviour_of c.args.next.now.value) (terms_of c.args.walk.now.leaves.now) c.args.at.leaf c.requires.part c.in_ok-pairs.pairs.items
    c.in_ok-pairs.ensures.same c.in_ok-pairs.ensures.over

pub returns-in_err-checked_test-clause-checked : goal.returns-in_err-checked_test-clause-checked
returns-in_err-checked_test-clause-checked g c =
    λ n e.
    checked_err n _ c.from_residual-in_err-checked_test.result c.in_err-checked_test.field-0.0
    c.from_residual-in_err-checked_test.ensures.1
    (told_more n _ _ (λ w is. sym (ap (λ (canon : Term → Term). first_unmet canon (tests_of (binding (environment_of
    c.in_ok-pairs.pairs.items)) (option_map test_of c.args.test.now))) c.asked_values.ensures.same_known.same_canon ∙ ap (λ (values :
    Substitution). first_unmet (g.D.Deciding.canon c.args.data.now) (tests_of values (option_map test_of c.args.test.now))) (ap
    binding c.in_ok-pairs.ensures.same)) ∙ is) c.in_err-checked_test.field-0.0 (c.in_err-checked_test.ensures.checked n e))

pub returns-clause-checked : goal.returns-clause-checked
returns-clause-checked g c =
    λ n e. sym (ap (λ (canon : Term → Term). first_unmet canon (tests_of (binding (environment_of c.in_ok-pairs.pairs.items)) (option_map
    test_of c.args.test.now))) c.asked_values.ensures.same_known.same_canon ∙ ap (λ (values : Substitution). first_unmet (g.D.Deciding.canon
    c.args.data.now) (tests_of values (option_map test_of c.args.test.now))) (ap binding c.in_ok-pairs.ensures.same)) ∙
    c.in_ok-checked_test.ensures.checked n e

pub returns-clause-same : goal.returns-clause-same
returns-clause-same g c =
    c.in_ok-own_behind.ensures.same ∙ ap (λ (values : Substitution). with_values values (behaviour_of c.args.next.now.value)) (ap binding
    c.in_ok-pairs.ensures.same)

pub returns-clause-terms : goal.returns-clause-terms
returns-clause-terms g c =
    subst (AreTermsOf (g.D.Deciding.known_data c.args.data.now).signature) (sym c.in_ok-own_behind.ensures.terms) (terms_both
    (g.D.Deciding.known_data c.args.data.now).signature _ _ c.requires.next c.in_ok-pairs.ensures.over)

pub returns-clause-closed_parts : goal.returns-clause-closed_parts
returns-clause-closed_parts g c =
    c.in_ok-own_behind.ensures.closed_parts (chosen_closed (ground_of (g.D.Deciding.known_data c.args.data.now) (g.D.Deciding.canon
    c.args.data.now) c.args.walk.now.spec.now) (g.met.D.Deciding.is_canon c.args.data.now) (map offer_of c.args.offers.now.items)
    (option_map test_of c.args.test.now) (behaviour_of c.args.next.now.value) (terms_of c.args.walk.now.leaves.now) c.args.at.leaf
    c.requires.part c.in_ok-pairs.pairs.items c.in_ok-pairs.ensures.same c.in_ok-pairs.ensures.over)
