use Rattle.std.proofs.Common.{◌++◌, ◌+◌, ℕ, List, ap, ◌∙◌, refl, arith}
use Rattle.lotos_base.specs.Term.{Term}
use Rattle.behaviour_semantics.specs.Derives.{leaves_in}
use Rattle.behaviour_tree.specs.BehaviourView.{terms_of}
use Rattle.behaviour_tree.specs.StateView.{environment_of}
use Rattle.step_parts.proofs.LeafLemmas.{leaf_at, leaf_of}
use Rattle.step_parts.proofs.OfferLemmas.{ask_paired, give_paired, none_asked, one_asked, paired_from}
use Rattle.step_parts.proofs.offers.push_pair.Goals as goal

pub bounds-leaves-next : goal.bounds-leaves-next
bounds-leaves-next g c = omega (arith, c.requires.enough, one_asked c.args.offer.now c.in-Ask.variable c.in-Ask.is)

pub push_value-requires : goal.push_value-requires
push_value-requires g c =
    leaf_of (g.D.Deciding.known_data c.args.data.now).signature c.args.leaves.now c.args.next c.index-leaves-next.result
    (omega (arith, c.requires.enough, one_asked c.args.offer.now c.in-Ask.variable c.in-Ask.is)) c.index-leaves-next.is
    c.requires.leaves

pub returns-in-Give-clause-same : goal.returns-in-Give-clause-same
returns-in-Give-clause-same g c = λ rest.
    ap (λ (xs : List (ℕ × Term)). environment_of c.args.pairs.now.items ++ xs)
    (give_paired (g.D.Deciding.canon c.args.data.now) (leaves_in (terms_of c.args.leaves.now)) c.args.next c.args.offer.now
    c.in-Give.field-0 rest c.in-Give.is)

pub returns-in-Give-clause-next : goal.returns-in-Give-clause-next
returns-in-Give-clause-next g c = omega (arith, none_asked c.args.offer.now c.in-Give.field-0 c.in-Give.is)

pub returns-in_ok-push_value-in-Ask-clause-same : goal.returns-in_ok-push_value-in-Ask-clause-same
returns-in_ok-push_value-in-Ask-clause-same g c = λ rest.
    c.in_ok-push_value-in-Ask.ensures.same
    (paired_from (g.D.Deciding.canon c.args.data.now) (leaves_in (terms_of c.args.leaves.now)) (c.args.next + 1) rest)
    ∙ ap (λ (xs : List (ℕ × Term)). environment_of c.args.pairs.now.items ++ xs)
    (ask_paired (g.D.Deciding.canon c.args.data.now) (leaves_in (terms_of c.args.leaves.now)) c.args.next (c.args.next + 1)
    c.args.offer.now c.in-Ask.variable _ rest c.in-Ask.is
    (leaf_at c.args.leaves.now c.args.next c.in-Ask.variable.sort c.index-leaves-next.result
    (omega (arith, c.requires.enough, one_asked c.args.offer.now c.in-Ask.variable c.in-Ask.is)) c.index-leaves-next.is) refl)

pub returns-in_ok-push_value-in-Ask-clause-next : goal.returns-in_ok-push_value-in-Ask-clause-next
returns-in_ok-push_value-in-Ask-clause-next g c = omega (arith, one_asked c.args.offer.now c.in-Ask.variable c.in-Ask.is)
