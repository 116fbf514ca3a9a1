-- By what the test of the conditions says.
use Rattle.std.proofs.Common.{List, map, sym, subst}
use Rattle.sort_terms.specs.SortedView.{term_in}
use Rattle.sort_terms.specs.declared.sorted.Sorted.{Sorted}
use Rattle.value_lists.specs.InstanceList.{MeetConditions}
use Rattle.value_lists.proofs.InstanceLemmas.{tried_met, tried_unmet, tuples_more}
use Rattle.value_lists.proofs.instances.add_if_met.Goals as goal

pub returns-in-Some-clause-tried : goal.returns-in-Some-clause-tried
returns-in-Some-clause-tried g c =
    tried_unmet (g.D.Deciding.known_data c.args.decider.now) c.args.entry.now c.args.one c.args.found.now.items c.in-Some.field-0
    c.in_ok-failing.failing c.in-Some.is
    (λ told met. c.in_ok-failing.ensures.none told
    (subst (λ (ts : List Sorted). MeetConditions (g.D.Deciding.known_data c.args.decider.now) c.args.entry.now (map term_in ts))
    (sym c.as_slice.ensures.value) met))

pub returns-in_ok-push-in-None-clause-tried : goal.returns-in_ok-push-in-None-clause-tried
returns-in_ok-push-in-None-clause-tried g c =
    tried_met (g.D.Deciding.known_data c.args.decider.now) c.args.entry.now c.args.one c.args.found.now.items _
    (subst (λ (ts : List Sorted). MeetConditions (g.D.Deciding.known_data c.args.decider.now) c.args.entry.now (map term_in ts))
    c.as_slice.ensures.value (c.in_ok-failing.ensures.met c.in-None.is))
    c.in_ok-push-in-None.ensures.items

pub returns-in_ok-push-in-None-clause-values : goal.returns-in_ok-push-in-None-clause-values
returns-in_ok-push-in-None-clause-values g c = λ all.
    tuples_more (g.D.Deciding.known_data c.args.decider.now).signature c.args.entry.now.vars.items c.args.one c.args.found.now.items
    _ c.requires.values c.in_ok-push-in-None.ensures.items all
