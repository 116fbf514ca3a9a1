use Rattle.behaviour_tree.specs.BehaviourView.{meet_of}
use Rattle.shared_entries.proofs.PushedLemmas.{appended_terms, parallel_items}
use Rattle.shared_entries.proofs.joins.with_sides.Goals as goal

pub returns-clause-same : goal.returns-clause-same
returns-clause-same c = λ signature h k.
    parallel_items (meet_of c.args.meet.now) c.args.lefts.now.items c.args.rights.now.items c.args.boths.items c.in_ok-first.first.items
    c.in_ok-second.second.items c.in_ok-behind.behind.items c.in_ok-made.made.items c.in_ok-made.ensures
    (c.in_ok-first.ensures signature h).same (c.in_ok-second.ensures signature k).same c.in_ok-behind.ensures

pub returns-clause-terms : goal.returns-clause-terms
returns-clause-terms c = λ signature h k l.
    appended_terms signature c.in_ok-first.first.items c.in_ok-behind.behind.items c.in_ok-made.made.items c.in_ok-made.ensures
    (c.in_ok-first.ensures signature h).terms
    (appended_terms signature c.in_ok-second.second.items c.args.boths.items c.in_ok-behind.behind.items c.in_ok-behind.ensures
    (c.in_ok-second.ensures signature k).terms l)
