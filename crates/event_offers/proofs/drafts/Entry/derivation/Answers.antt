use Rattle.event_offers.proofs.InstanceLemmas.{valued_list}
use Rattle.event_offers.proofs.drafts.Entry.derivation.Goals as goal

pub instances-requires : goal.instances-requires
instances-requires g c =
    valued_list (g.D.Deciding.known_data c.args.decider.now).signature c.args.self.now.vars.items c.args.values.now c.requires.values
    c.args.self.now.leaves.items c.requires.over.leaves c.requires.over.order.over_leaves
