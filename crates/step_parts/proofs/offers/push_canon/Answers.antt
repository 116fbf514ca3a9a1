use Rattle.sort_terms.specs.SortedView.{term_in}
use Rattle.step_parts.proofs.OfferLemmas.{more_of, one_more}
use Rattle.step_parts.proofs.offers.push_canon.Goals as goal

pub returns-clause-same : goal.returns-clause-same
returns-clause-same g c = λ rest.
    one_more term_in c.args.values.now.items c.push.new.self.items c.in_ok-value.value
    (g.D.Deciding.canon c.args.data.now (term_in c.args.term.now)) rest c.in_ok-push.ensures.items c.in_ok-value.ensures.is_canon

pub returns-clause-over : goal.returns-clause-over
returns-clause-over g c = λ h.
    more_of (g.D.Deciding.known_data c.args.data.now).signature c.args.values.now.items c.push.new.self.items c.in_ok-value.value
    c.in_ok-push.ensures.items c.in_ok-value.ensures.is_of h
