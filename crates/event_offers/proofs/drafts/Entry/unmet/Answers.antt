use Rattle.std.proofs.lemmas.Result.{IfOk-weaker}
use Rattle.event_offers.proofs.InstanceLemmas.{valued_pairs, met_where_none, none_where_met, none_kept, none_told}
use Rattle.event_offers.proofs.drafts.Entry.unmet.Goals as goal

pub first_unmet-requires : goal.first_unmet-requires
first_unmet-requires g c =
    valued_pairs (g.D.Deciding.known_data c.args.decider.now).signature c.args.self.now.vars.items c.args.values.now c.requires.values
    c.args.self.now.conditions.items c.requires.over.conditions c.requires.over.order.over_left c.requires.over.order.over_right

pub returns-clause-met : goal.returns-clause-met
returns-clause-met g c =
    IfOk-weaker c.first_unmet.result _ _ (λ o e none.
    met_where_none (g.D.Deciding.known_data c.args.decider.now) (g.D.Deciding.canon c.args.decider.now)
    (g.met.D.Deciding.is_canon c.args.decider.now) c.args.self.now.vars.items c.args.values.now c.requires.values
    c.args.self.now.conditions.items c.requires.over.conditions c.requires.over.order.over_left c.requires.over.order.over_right
    (none_kept o _ e none)) c.first_unmet.ensures.first

pub returns-clause-none : goal.returns-clause-none
returns-clause-none g c =
    IfOk-weaker c.first_unmet.result _ _ (λ o e way all.
    none_told o _ e (none_where_met (g.D.Deciding.known_data c.args.decider.now) (g.D.Deciding.canon c.args.decider.now)
    (g.met.D.Deciding.is_canon c.args.decider.now) c.args.self.now.vars.items c.args.values.now c.requires.values
    c.args.self.now.conditions.items c.requires.over.conditions c.requires.over.order.over_left c.requires.over.order.over_right
    way all)) c.first_unmet.ensures.first
