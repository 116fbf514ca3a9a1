use Rattle.std.proofs.Common.{List, Option, [], ◌∷◌, ap, sym, ◌∙◌, subst}
use Rattle.std.specs.Prelude.{option_map}
use Rattle.lotos_base.specs.Substitution.{binding}
use Rattle.behaviour_semantics.specs.Behaviour.{Test as PlainTest}
use Rattle.behaviour_semantics.specs.Fault.{first_unmet}
use Rattle.behaviour_semantics.specs.Rule.{tests_of}
use Rattle.behaviour_tree.specs.BehaviourTerms.{option_profiles, test_profiles}
use Rattle.behaviour_tree.specs.BehaviourView.{test_of}
use Rattle.behaviour_tree.specs.Over.{AreTermsOf}
use Rattle.behaviour_tree.specs.StateView.{environment_of}
use Rattle.behaviour_tree.specs.declared.behaviours.Test.{Test}
use Rattle.step_parts.specs.StepFaults.{IsStepChecked}
use Rattle.step_parts.proofs.PlacedLemmas.{placed_of}
use Rattle.step_parts.proofs.node_tests.checked_test.Goals as goal

pub checked_pair-requires-clause-left : goal.checked_pair-requires-clause-left
checked_pair-requires-clause-left g c =
    (subst (AreTermsOf (g.D.Deciding.known_data c.args.data.now).signature) (sym c.in_ok-asked-in-Some.ensures.terms)
    (placed_of (g.D.Deciding.known_data c.args.data.now).signature c.args.pairs.now.items c.requires.values (test_profiles c.in-Some.test)
    (subst (λ (o : Option Test). AreTermsOf (g.D.Deciding.known_data c.args.data.now).signature (option_profiles o)) c.in-Some.is
    c.requires.terms))).0

pub checked_pair-requires-clause-right : goal.checked_pair-requires-clause-right
checked_pair-requires-clause-right g c =
    (subst (AreTermsOf (g.D.Deciding.known_data c.args.data.now).signature) (sym c.in_ok-asked-in-Some.ensures.terms)
    (placed_of (g.D.Deciding.known_data c.args.data.now).signature c.args.pairs.now.items c.requires.values (test_profiles c.in-Some.test)
    (subst (λ (o : Option Test). AreTermsOf (g.D.Deciding.known_data c.args.data.now).signature (option_profiles o)) c.in-Some.is
    c.requires.terms))).1.0

pub returns-in-None-clause-checked : goal.returns-in-None-clause-checked
returns-in-None-clause-checked g c = λ n e.
    ap (λ (o : Option Test). first_unmet (g.D.Deciding.canon c.args.data.now)
    (tests_of (binding (environment_of c.args.pairs.now.items)) (option_map test_of o))) c.in-None.is

pub returns-in_ok-asked-in-Some-clause-checked : goal.returns-in_ok-asked-in-Some-clause-checked
returns-in_ok-asked-in-Some-clause-checked g c = λ n e.
    subst (λ (tests : List PlainTest). IsStepChecked n (first_unmet (g.D.Deciding.canon c.args.data.now) tests) c.checked_pair.result)
    (ap (λ (t : PlainTest). t ∷ []) c.in_ok-asked-in-Some.ensures.same
    ∙ ap (λ (o : Option Test). tests_of (binding (environment_of c.args.pairs.now.items)) (option_map test_of o)) (sym c.in-Some.is))
    (c.checked_pair.ensures.checked n e)
