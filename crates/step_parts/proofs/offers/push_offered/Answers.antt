use Rattle.std.proofs.Common.{◌+◌, ◌++◌, List, ap, ◌∙◌, refl, subst, arith}
use Rattle.lotos_base.specs.Term.{Term}
use Rattle.behaviour_semantics.specs.Derives.{leaves_in}
use Rattle.behaviour_tree.specs.BehaviourTerms.{offer_profiles}
use Rattle.behaviour_tree.specs.BehaviourView.{terms_of}
use Rattle.behaviour_tree.specs.Over.{AreTermsOf}
use Rattle.behaviour_tree.specs.declared.behaviours.Offer.{Offer}
use Rattle.step_parts.proofs.LeafLemmas.{leaf_at, leaf_of}
use Rattle.step_parts.proofs.OfferLemmas.{ask_offered, give_offered, none_asked, one_asked, offered_from}
use Rattle.step_parts.proofs.offers.push_offered.Goals as goal

pub push_canon-requires : goal.push_canon-requires
push_canon-requires g c =
    (subst (λ (o : Offer). AreTermsOf (g.D.Deciding.known_data c.args.data.now).signature (offer_profiles o)) c.in-Give.is
    c.requires.term).0

pub bounds-leaves-next : goal.bounds-leaves-next
bounds-leaves-next g c = omega (arith, c.requires.enough, one_asked c.args.offer.now c.in-Ask.field-0 c.in-Ask.is)

pub push_canon-requires-in-Ask : goal.push_canon-requires-in-Ask
push_canon-requires-in-Ask g c =
    leaf_of (g.D.Deciding.known_data c.args.data.now).signature c.args.leaves.now c.args.next c.index-leaves-next.result
    (omega (arith, c.requires.enough, one_asked c.args.offer.now c.in-Ask.field-0 c.in-Ask.is)) c.index-leaves-next.is
    c.requires.leaves

pub returns-in_ok-push_canon-in-Give-clause-same : goal.returns-in_ok-push_canon-in-Give-clause-same
returns-in_ok-push_canon-in-Give-clause-same g c = λ rest.
    c.in_ok-push_canon-in-Give.ensures.same
    (offered_from (g.D.Deciding.canon c.args.data.now) (leaves_in (terms_of c.args.leaves.now)) c.args.next rest)
    ∙ ap (λ (xs : List Term). terms_of c.args.values.now.items ++ xs)
    (give_offered (g.D.Deciding.canon c.args.data.now) (leaves_in (terms_of c.args.leaves.now)) c.args.next c.args.offer.now
    c.in-Give.term rest
    c.in-Give.is)

pub returns-in_ok-push_canon-in-Give-clause-next : goal.returns-in_ok-push_canon-in-Give-clause-next
returns-in_ok-push_canon-in-Give-clause-next g c = omega (arith, none_asked c.args.offer.now c.in-Give.term c.in-Give.is)

pub returns-in_ok-push_canon-in-Ask-clause-same : goal.returns-in_ok-push_canon-in-Ask-clause-same
returns-in_ok-push_canon-in-Ask-clause-same g c = λ rest.
    c.in_ok-push_canon-in-Ask.ensures.same
    (offered_from (g.D.Deciding.canon c.args.data.now) (leaves_in (terms_of c.args.leaves.now)) (c.args.next + 1) rest)
    ∙ ap (λ (xs : List Term). terms_of c.args.values.now.items ++ xs)
    (ask_offered (g.D.Deciding.canon c.args.data.now) (leaves_in (terms_of c.args.leaves.now)) c.args.next (c.args.next + 1)
    c.args.offer.now
    c.in-Ask.field-0 _ rest c.in-Ask.is
    (leaf_at c.args.leaves.now c.args.next c.in-Ask.field-0.sort c.index-leaves-next.result
    (omega (arith, c.requires.enough, one_asked c.args.offer.now c.in-Ask.field-0 c.in-Ask.is)) c.index-leaves-next.is) refl)

pub returns-in_ok-push_canon-in-Ask-clause-next : goal.returns-in_ok-push_canon-in-Ask-clause-next
returns-in_ok-push_canon-in-Ask-clause-next g c =
    omega (arith, one_asked c.args.offer.now c.in-Ask.field-0 c.in-Ask.is)
