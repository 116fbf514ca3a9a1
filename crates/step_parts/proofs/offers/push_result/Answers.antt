use Rattle.std.proofs.Common.{◌+◌, ◌++◌, List, ap, ◌∙◌, refl, subst, arith}
use Rattle.lotos_base.specs.Term.{Term}
use Rattle.behaviour_semantics.specs.Derives.{leaves_in}
use Rattle.behaviour_tree.specs.BehaviourTerms.{exit_profiles}
use Rattle.behaviour_tree.specs.BehaviourView.{terms_of}
use Rattle.behaviour_tree.specs.Over.{AreTermsOf}
use Rattle.behaviour_tree.specs.declared.behaviours.ExitValue.{ExitValue}
use Rattle.step_parts.proofs.LeafLemmas.{leaf_at, leaf_of}
use Rattle.step_parts.proofs.OfferLemmas.{any_result, give_result, none_open, one_open, results_from}
use Rattle.step_parts.proofs.offers.push_result.Goals as goal

pub push_canon-requires : goal.push_canon-requires
push_canon-requires g c =
    (subst (λ (o : ExitValue). AreTermsOf (g.D.Deciding.known_data c.args.data.now).signature (exit_profiles o)) c.in-Give.is
    c.requires.term).0

pub bounds-leaves-next : goal.bounds-leaves-next
bounds-leaves-next g c = omega (arith, c.requires.enough, one_open c.args.value.now c.in-Any.field-0 c.in-Any.is)

pub push_canon-requires-in-Any : goal.push_canon-requires-in-Any
push_canon-requires-in-Any g c =
    leaf_of (g.D.Deciding.known_data c.args.data.now).signature c.args.leaves.now c.args.next c.index-leaves-next.result
    (omega (arith, c.requires.enough, one_open c.args.value.now c.in-Any.field-0 c.in-Any.is)) c.index-leaves-next.is
    c.requires.leaves

pub returns-in_ok-push_canon-in-Give-clause-same : goal.returns-in_ok-push_canon-in-Give-clause-same
returns-in_ok-push_canon-in-Give-clause-same g c = λ rest.
    c.in_ok-push_canon-in-Give.ensures.same
    (results_from (g.D.Deciding.canon c.args.data.now) (leaves_in (terms_of c.args.leaves.now)) c.args.next rest)
    ∙ ap (λ (xs : List Term). terms_of c.args.made.now.items ++ xs)
    (give_result (g.D.Deciding.canon c.args.data.now) (leaves_in (terms_of c.args.leaves.now)) c.args.next c.args.value.now
    c.in-Give.term rest
    c.in-Give.is)

pub returns-in_ok-push_canon-in-Give-clause-next : goal.returns-in_ok-push_canon-in-Give-clause-next
returns-in_ok-push_canon-in-Give-clause-next g c = omega (arith, none_open c.args.value.now c.in-Give.term c.in-Give.is)

pub returns-in_ok-push_canon-in-Any-clause-same : goal.returns-in_ok-push_canon-in-Any-clause-same
returns-in_ok-push_canon-in-Any-clause-same g c = λ rest.
    c.in_ok-push_canon-in-Any.ensures.same
    (results_from (g.D.Deciding.canon c.args.data.now) (leaves_in (terms_of c.args.leaves.now)) (c.args.next + 1) rest)
    ∙ ap (λ (xs : List Term). terms_of c.args.made.now.items ++ xs)
    (any_result (g.D.Deciding.canon c.args.data.now) (leaves_in (terms_of c.args.leaves.now)) c.args.next (c.args.next + 1) c.args.value.now
    c.in-Any.field-0 _ rest c.in-Any.is
    (leaf_at c.args.leaves.now c.args.next c.in-Any.field-0 c.index-leaves-next.result
    (omega (arith, c.requires.enough, one_open c.args.value.now c.in-Any.field-0 c.in-Any.is)) c.index-leaves-next.is) refl)

pub returns-in_ok-push_canon-in-Any-clause-next : goal.returns-in_ok-push_canon-in-Any-clause-next
returns-in_ok-push_canon-in-Any-clause-next g c =
    omega (arith, one_open c.args.value.now c.in-Any.field-0 c.in-Any.is)
