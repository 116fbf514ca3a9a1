use Rattle.std.proofs.Common.{◌≡◌, ◌+◌, ◌++◌, ◌∙◌, ℕ, length, map, ap, sym, subst, arith, None, Ok}
use Rattle.std.specs.Prelude.{option_map}
use Rattle.lotos_base.specs.Equation.{Data}
use Rattle.lotos_base.specs.Term.{Term}
use Rattle.behaviour_semantics.specs.Fault.{first_unmet, wrong_leaves}
use Rattle.behaviour_semantics.specs.Label.{gate_event}
use Rattle.behaviour_semantics.specs.Replacement.{with_values}
use Rattle.behaviour_semantics.specs.Rule.{tests_of}
use Rattle.behaviour_tree.specs.BehaviourTerms.{profiles_in, joined, offer_profiles, option_profiles}
use Rattle.behaviour_tree.specs.BehaviourView.{behaviour_of, offer_of, terms_of, test_of}
use Rattle.behaviour_tree.specs.MoveView.{shape_of}
use Rattle.behaviour_tree.specs.Over.{AreTermsOf}
use Rattle.behaviour_tree.specs.StateView.{node_profiles, stands_for}
use Rattle.step_parts.specs.StepFaults.{IsWrongTold, UnlessMemory}
use Rattle.step_parts.proofs.CheckedLemmas.{told_more}
use Rattle.step_parts.proofs.NodeLemmas.{first_terms, second_terms}
use Rattle.step_parts.proofs.HandedOn.{holds_after, keeps_itself}
use Rattle.step_taker.specs.Taken.{ground_of, setting_on}
use Rattle.step_taker.specs.Walked.{chosen_values, IsChosen, IsStepWalk}
use Rattle.step_taker.proofs.ThereLemmas.{memory_walked, misfit_there, of_shape, refusal_walked, there_refused, there_walked}
use Rattle.step_taker.proofs.EventLemmas.{action_moved, enough_of, leaves_told, test_told}
use Rattle.step_taker.proofs.UnfitLemmas.{unfit_action}
use Rattle.behaviour_semantics.specs.Behaviour.{action}
use Rattle.behaviour_semantics.specs.Shape.{act}
use Rattle.step_taker.proofs.EventLemmas.{some_checked}
use Rattle.step_taker.proofs.events.action_step.Goals as goal

pub returns-in_default : goal.returns-in_default
returns-in_default g c =
    record {
      answer = λ place there. misfit_there (ground_of (g.D.Deciding.known_data c.args.data.now) (g.D.Deciding.canon c.args.data.now)
          c.args.walk.now.spec.now) (terms_of c.args.walk.now.leaves.now) place (action c.args.gate (map offer_of
          c.args.offers.now.items) (option_map test_of c.args.test.now) (behaviour_of c.args.next.now.value)) (shape_of c.args.shape.now)
          c.args.at there c.misfit.result
          (unfit_action (setting_on (ground_of (g.D.Deciding.known_data c.args.data.now) (g.D.Deciding.canon c.args.data.now)
          c.args.walk.now.spec.now)) (terms_of c.args.walk.now.leaves.now) c.args.at.leaf c.args.shape.now c.args.gate (map offer_of
          c.args.offers.now.items) (option_map test_of c.args.test.now) (behaviour_of c.args.next.now.value) c.in_default.not-Act)
          c.misfit.ensures;
      same_known = keeps_itself;
    }

pub returns-in_err-sorts-clause-answer : goal.returns-in_err-sorts-clause-answer
returns-in_err-sorts-clause-answer g c =
    λ place there. memory_walked (ground_of (g.D.Deciding.known_data c.args.data.now) (g.D.Deciding.canon c.args.data.now)
    c.args.walk.now.spec.now) (terms_of c.args.walk.now.leaves.now) place c.from_residual.result c.from_residual.ensures.1

pub returns-in_err-checked_leaves-clause-answer : goal.returns-in_err-checked_leaves-clause-answer
returns-in_err-checked_leaves-clause-answer g c =
    λ place there.
    refusal_walked (ground_of (g.D.Deciding.known_data c.args.data.now) (g.D.Deciding.canon c.args.data.now) c.args.walk.now.spec.now)
    (terms_of c.args.walk.now.leaves.now) place c.from_residual-in_err-checked_leaves.result c.in_err-checked_leaves.field-0.0
    c.from_residual-in_err-checked_leaves.ensures.1
    (there_refused (ground_of (g.D.Deciding.known_data c.args.data.now) (g.D.Deciding.canon c.args.data.now) c.args.walk.now.spec.now)
    (terms_of c.args.walk.now.leaves.now) place (action c.args.gate (map offer_of c.args.offers.now.items) (option_map test_of
    c.args.test.now) (behaviour_of c.args.next.now.value)) act c.args.at (of_shape place (action c.args.gate (map offer_of
    c.args.offers.now.items) (option_map test_of c.args.test.now) (behaviour_of c.args.next.now.value)) _ act c.args.at (sym (ap shape_of
    c.in-Act.is)) there) c.in_err-checked_leaves.field-0.0
    (leaves_told (ground_of (g.D.Deciding.known_data c.args.data.now) (g.D.Deciding.canon c.args.data.now) c.args.walk.now.spec.now)
    (terms_of c.args.walk.now.leaves.now) c.args.gate (map offer_of c.args.offers.now.items) (option_map test_of c.args.test.now)
    (behaviour_of c.args.next.now.value) place.number c.args.at.leaf c.in_err-checked_leaves.field-0.0
    (told_more place.number _ _ (λ w is. ap (wrong_leaves (g.D.Deciding.known_data c.args.data.now).signature (terms_of
    c.args.walk.now.leaves.now) c.args.at.leaf) (sym (c.as_slice.ensures.value ∙ c.in_ok-sorts.ensures)) ∙ is)
    c.in_err-checked_leaves.field-0.0
    (c.in_err-checked_leaves.ensures.checked (g.D.Deciding.known_data c.args.data.now).signature place.number
    c.requires.walk.leaves_of_signature there.node))))

pub offered-requires-clause-terms : goal.offered-requires-clause-terms
offered-requires-clause-terms g c =
    first_terms (g.D.Deciding.known_data c.args.data.now).signature (joined (map offer_profiles c.args.offers.now.items))
    (option_profiles c.args.test.now) (first_terms (g.D.Deciding.known_data c.args.data.now).signature ((joined (map offer_profiles
    c.args.offers.now.items)) ++ (option_profiles c.args.test.now)) (profiles_in c.args.next.now.value) c.requires.part.terms_of_signature)

pub offered-requires-clause-leaves : goal.offered-requires-clause-leaves
offered-requires-clause-leaves g c =
    c.requires.walk.leaves_of_signature

pub offered-requires-clause-enough : goal.offered-requires-clause-enough
offered-requires-clause-enough g c =
    enough_of c.args.at.leaf (length c.args.walk.now.leaves.now) _ _ (c.as_slice.ensures.value ∙ c.in_ok-sorts.ensures)
    c.in_ok-checked_leaves.ensures.enough

pub returns-in_err-made-clause-answer : goal.returns-in_err-made-clause-answer
returns-in_err-made-clause-answer g c =
    λ place there. memory_walked (ground_of (g.D.Deciding.known_data c.args.data.now) (g.D.Deciding.canon c.args.data.now)
    c.args.walk.now.spec.now) (terms_of c.args.walk.now.leaves.now) place c.from_residual-in_err-made.result
    c.from_residual-in_err-made.ensures.1

pub action_target-requires-clause-walk : goal.action_target-requires-clause-walk
action_target-requires-clause-walk g c =
    (holds_after (λ (d : Data) (f : Term → Term). IsStepWalk (ground_of d f c.args.walk.now.spec.now) c.args.walk.now.leaves.now
    c.args.at.leaf) c.offered.ensures.same_known c.requires.walk)

pub action_target-requires-clause-part : goal.action_target-requires-clause-part
action_target-requires-clause-part g c =
    (holds_after (λ (d : Data) (f : Term → Term). IsChosen (ground_of d f c.args.walk.now.spec.now) (map offer_of c.args.offers.now.items)
    (option_map test_of c.args.test.now) (behaviour_of c.args.next.now.value) (terms_of c.args.walk.now.leaves.now) c.args.at.leaf)
    c.offered.ensures.same_known (record {
      binders = c.requires.part.closed.2;
      tested = c.requires.part.closed.3;
      closed = c.requires.part.closed.4;
      right = ap (wrong_leaves (g.D.Deciding.known_data c.args.data.now).signature (terms_of c.args.walk.now.leaves.now) c.args.at.leaf)
          (sym (c.as_slice.ensures.value ∙ c.in_ok-sorts.ensures)) ∙ some_checked (wrong_leaves (g.D.Deciding.known_data
          c.args.data.now).signature (terms_of c.args.walk.now.leaves.now) c.args.at.leaf c.as_slice.result.now) c.args.at.node (λ m
          node. c.in_ok-checked_leaves.ensures.checked (g.D.Deciding.known_data c.args.data.now).signature m
          c.requires.walk.leaves_of_signature node) (omega arith);
    }))

pub action_target-requires-clause-test : goal.action_target-requires-clause-test
action_target-requires-clause-test g c =
    subst (λ (d : Data). AreTermsOf d.signature (option_profiles c.args.test.now)) (sym c.offered.ensures.same_known.same_data)
    (second_terms
    (g.D.Deciding.known_data c.args.data.now).signature (joined (map offer_profiles c.args.offers.now.items)) (option_profiles
    c.args.test.now) (first_terms (g.D.Deciding.known_data c.args.data.now).signature ((joined (map offer_profiles
    c.args.offers.now.items)) ++ (option_profiles c.args.test.now)) (profiles_in c.args.next.now.value) c.requires.part.terms_of_signature))

pub action_target-requires-clause-next : goal.action_target-requires-clause-next
action_target-requires-clause-next g c =
    subst (λ (d : Data). AreTermsOf d.signature (profiles_in c.args.next.now.value)) (sym c.offered.ensures.same_known.same_data)
    (second_terms
    (g.D.Deciding.known_data c.args.data.now).signature ((joined (map offer_profiles c.args.offers.now.items)) ++ (option_profiles
    c.args.test.now)) (profiles_in c.args.next.now.value) c.requires.part.terms_of_signature)

pub returns-in_err-target-clause-answer : goal.returns-in_err-target-clause-answer
returns-in_err-target-clause-answer g c =
    λ place there.
    refusal_walked (ground_of (g.D.Deciding.known_data c.args.data.now) (g.D.Deciding.canon c.args.data.now) c.args.walk.now.spec.now)
    (terms_of c.args.walk.now.leaves.now) place c.from_residual-in_err-target.result c.in_err-target.field-0.0
    c.from_residual-in_err-target.ensures.1
    (there_refused (ground_of (g.D.Deciding.known_data c.args.data.now) (g.D.Deciding.canon c.args.data.now) c.args.walk.now.spec.now)
    (terms_of c.args.walk.now.leaves.now) place (action c.args.gate (map offer_of c.args.offers.now.items) (option_map test_of
    c.args.test.now) (behaviour_of c.args.next.now.value)) act c.args.at (of_shape place (action c.args.gate (map offer_of
    c.args.offers.now.items) (option_map test_of c.args.test.now) (behaviour_of c.args.next.now.value)) _ act c.args.at (sym (ap shape_of
    c.in-Act.is)) there) c.in_err-target.field-0.0
    (test_told (ground_of (g.D.Deciding.known_data c.args.data.now) (g.D.Deciding.canon c.args.data.now) c.args.walk.now.spec.now)
    (terms_of c.args.walk.now.leaves.now) c.args.gate (map offer_of c.args.offers.now.items) (option_map test_of c.args.test.now)
    (behaviour_of c.args.next.now.value) place.number c.args.at.leaf
    (ap (wrong_leaves (g.D.Deciding.known_data c.args.data.now).signature (terms_of c.args.walk.now.leaves.now) c.args.at.leaf) (sym
    (c.as_slice.ensures.value ∙ c.in_ok-sorts.ensures)) ∙ c.in_ok-checked_leaves.ensures.checked (g.D.Deciding.known_data
    c.args.data.now).signature place.number c.requires.walk.leaves_of_signature there.node)
    c.in_err-target.field-0.0
    (subst (λ (f : Term → Term). UnlessMemory (IsWrongTold place.number (first_unmet f (tests_of (chosen_values f (map offer_of
    c.args.offers.now.items) (terms_of c.args.walk.now.leaves.now) c.args.at.leaf) (option_map test_of c.args.test.now))))
    c.in_err-target.field-0.0) c.offered.ensures.same_known.same_canon
    (c.in_err-target.ensures.checked place.number there.node))))

pub returns-clause-answer : goal.returns-clause-answer
returns-clause-answer g c =
    λ place there.
    there_walked (ground_of (g.D.Deciding.known_data c.args.data.now) (g.D.Deciding.canon c.args.data.now) c.args.walk.now.spec.now)
    (terms_of c.args.walk.now.leaves.now) place (action c.args.gate (map offer_of c.args.offers.now.items) (option_map test_of
    c.args.test.now) (behaviour_of c.args.next.now.value)) act c.args.at (of_shape place (action c.args.gate (map offer_of
    c.args.offers.now.items) (option_map test_of c.args.test.now) (behaviour_of c.args.next.now.value)) _ act c.args.at (sym (ap shape_of
    c.in-Act.is)) there) (Ok _)
    (action_moved (ground_of (g.D.Deciding.known_data c.args.data.now) (g.D.Deciding.canon c.args.data.now) c.args.walk.now.spec.now)
    (terms_of c.args.walk.now.leaves.now) c.args.gate (map offer_of c.args.offers.now.items) (option_map test_of c.args.test.now)
    (behaviour_of c.args.next.now.value) place.number c.args.at.leaf _
    (ap (wrong_leaves (g.D.Deciding.known_data c.args.data.now).signature (terms_of c.args.walk.now.leaves.now) c.args.at.leaf) (sym
    (c.as_slice.ensures.value ∙ c.in_ok-sorts.ensures)) ∙ c.in_ok-checked_leaves.ensures.checked (g.D.Deciding.known_data
    c.args.data.now).signature place.number c.requires.walk.leaves_of_signature there.node)
    (subst (λ (f : Term → Term). first_unmet f (tests_of (chosen_values f (map offer_of c.args.offers.now.items) (terms_of
    c.args.walk.now.leaves.now) c.args.at.leaf) (option_map test_of c.args.test.now)) ≡ None) c.offered.ensures.same_known.same_canon
    (c.in_ok-target.ensures.checked place.number there.node))
    (ap (gate_event c.args.gate) c.in_ok-made.ensures.same)
    (subst (λ (f : Term → Term). stands_for c.in_ok-target.target.value ≡ with_values (chosen_values f (map offer_of
    c.args.offers.now.items) (terms_of c.args.walk.now.leaves.now) c.args.at.leaf) (behaviour_of c.args.next.now.value))
    c.offered.ensures.same_known.same_canon c.in_ok-target.ensures.same)
    (c.below.ensures.node place.number there.node)
    (ap (λ (k : ℕ). c.args.at.leaf + k) (c.len.ensures ∙ c.in_ok-sorts.sorts.ok.0 ∙ ap length c.in_ok-sorts.ensures)) (record {
      parts = c.in_ok-target.ensures.closed_parts;
      terms = subst (λ (d : Data). AreTermsOf d.signature (node_profiles c.in_ok-target.target.value))
          c.offered.ensures.same_known.same_data
          c.in_ok-target.ensures.terms;
      values = c.in_ok-made.ensures.over;
    }))
