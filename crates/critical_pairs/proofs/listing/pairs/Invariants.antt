use Rattle.std.proofs.Common.{take, []}
use Rattle.rewriting_theory.specs.Places.{places_from}
use Rattle.path_order.specs.RulesView.{plain_rules_in}
use Rattle.critical_pairs.specs.Extended.{AddsPairsOf}
use Rattle.critical_pairs.proofs.listing.pairs.Given as goal

abbrev pub invariant-loop-first : goal.invariant-loop-first
invariant-loop-first l =
    AddsPairsOf l.rules (places_from (plain_rules_in l.rules) 0 (take l.first (plain_rules_in l.rules))) [] l.found.items
