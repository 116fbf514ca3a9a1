use Rattle.shared_entries.proofs.PushedLemmas.{none_pushed, one_pushed, pushed_terms}
use Rattle.shared_entries.proofs.joins.push_entry.Goals as goal

pub returns-in-None-clause-same : goal.returns-in-None-clause-same
returns-in-None-clause-same c = none_pushed c.args.items.now.items c.args.entry c.in-None.is

pub returns-in_ok-push-in-Some-clause-same : goal.returns-in_ok-push-in-Some-clause-same
returns-in_ok-push-in-Some-clause-same c =
    one_pushed c.args.items.now.items c.push.new.self.items c.in_ok-item-in-Some.item c.args.entry c.in-Some.entry c.in-Some.is
    c.in_ok-push-in-Some.ensures.items c.in_ok-item-in-Some.ensures.same

pub returns-in_ok-push-in-Some-clause-terms : goal.returns-in_ok-push-in-Some-clause-terms
returns-in_ok-push-in-Some-clause-terms c = λ signature h k.
    pushed_terms signature c.args.items.now.items c.push.new.self.items c.in_ok-item-in-Some.item c.args.entry c.in-Some.entry c.in-Some.is
    c.in_ok-push-in-Some.ensures.items c.in_ok-item-in-Some.ensures.terms h k
