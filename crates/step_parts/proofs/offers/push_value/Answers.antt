use Rattle.std.proofs.Common.{ap}
use Rattle.lotos_base.specs.Term.{Term}
use Rattle.sort_terms.specs.SortedView.{term_in}
use Rattle.behaviour_tree.specs.StateView.{environment_pair_of}
use Rattle.step_parts.proofs.OfferLemmas.{one_more, pairs_more_of}
use Rattle.step_parts.proofs.offers.push_value.Goals as goal

pub returns-clause-same : goal.returns-clause-same
returns-clause-same g c = λ rest.
    one_more environment_pair_of c.args.pairs.now.items c.push.new.self.items (c.args.number, c.in_ok-value.value)
    (c.args.number, g.D.Deciding.canon c.args.data.now (term_in c.args.term.now)) rest c.in_ok-push.ensures.items
    (ap (λ (t : Term). (c.args.number, t)) c.in_ok-value.ensures.is_canon)

pub returns-clause-over : goal.returns-clause-over
returns-clause-over g c = λ h.
    pairs_more_of (g.D.Deciding.known_data c.args.data.now).signature c.args.pairs.now.items c.push.new.self.items c.args.number
    c.in_ok-value.value c.in_ok-push.ensures.items c.in_ok-value.ensures.is_of h
