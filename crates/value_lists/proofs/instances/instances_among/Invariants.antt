use Rattle.lotos_base.specs.Term.{variable}
use Rattle.event_offers.specs.Keeping.{KeepsData}
use Rattle.value_lists.specs.InstanceList.{AreTuplesOver, HasSortedTests, term_lists_of, MeetConditions}
use Rattle.value_lists.specs.TupleNumbers.{tuple_at}
use Rattle.value_lists.proofs.SiftLemmas.{Sifted}
use Rattle.value_lists.proofs.instances.instances_among.Given as goal

abbrev pub invariant-loop-number : goal.invariant-loop-number
invariant-loop-number g l =
    Sifted (HasSortedTests (g.D.Deciding.known_data l.fn.decider) l.entry)
    (MeetConditions (g.D.Deciding.known_data l.fn.decider) l.entry)
    (λ k. tuple_at (term_lists_of l.choices) k (variable 0 0)) l.number (term_lists_of l.found.items)
    × AreTuplesOver (g.D.Deciding.known_data l.fn.decider).signature l.entry.vars.items l.found.items
    × KeepsData g.D.Deciding.known_data g.D.Deciding.canon l.fn.decider l.decider
