use Rattle.std.proofs.Common.{◌≡◌, ◌++◌, drop}
use Rattle.event_offers.specs.Keeping.{KeepsData}
use Rattle.event_offers.specs.OfferView.{plain_entry}
use Rattle.value_lists.specs.InstanceList.{term_lists_of}
use Rattle.value_lists.specs.ListText.{instance_lines}
use Rattle.value_lists.specs.ListView.{printing_with}
use Rattle.value_lists.proofs.instance_lines.push_instance_lines.Given as goal

-- the lines so far are written
abbrev pub invariant-loop-values : goal.invariant-loop-values
invariant-loop-values g l =
    (l.into.items
    ++ instance_lines (printing_with l.signature l.gates (g.D.Deciding.canon l.fn.decider)) l.number (plain_entry l.entry)
    (term_lists_of (drop l.values-index l.tuples))
    ≡ l.fn.into.items
    ++ instance_lines (printing_with l.signature l.gates (g.D.Deciding.canon l.fn.decider)) l.number (plain_entry l.entry)
    (term_lists_of l.tuples))
    × KeepsData g.D.Deciding.known_data g.D.Deciding.canon l.fn.decider l.decider
