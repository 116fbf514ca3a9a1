use Rattle.std.proofs.Common.{take}
use Rattle.rewriting_theory.specs.Places.{places_from}
use Rattle.path_order.specs.RulesView.{plain_rules_in}
use Rattle.critical_pairs.specs.Finding.{IsFinderOf}
use Rattle.critical_pairs.specs.Joining.{AreJoinedAt}
use Rattle.critical_pairs.proofs.joining.are_joined.Given as goal

-- the pairs of the first rules so far are joined
abbrev pub invariant-loop-first : goal.invariant-loop-first
invariant-loop-first l =
    AreJoinedAt (plain_rules_in l.rules) (places_from (plain_rules_in l.rules) 0 (take l.first (plain_rules_in l.rules)))
    × IsFinderOf l.rules l.finder
