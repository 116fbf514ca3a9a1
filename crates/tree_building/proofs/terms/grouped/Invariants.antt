use Rattle.std.proofs.Common.{◌≡◌, length}
use Rattle.lotos_base.specs.WrittenView.{written_term_of}
use Rattle.lotos_rows.specs.Terms.{infix_term}
use Rattle.syntax_trees.specs.LeftGrouping.{grouped_left}
use Rattle.lotos_rows.specs.HandedOn.{from_last}
use Rattle.tree_building.specs.TermsViews.{factor_of}
use Rattle.tree_building.proofs.terms.grouped.Given as goal

-- what is left to be grouped gives the whole term
abbrev pub invariant-loop-next : goal.invariant-loop-next
invariant-loop-next l =
    grouped_left infix_term (written_term_of l.left) (from_last factor_of l.behind.items)
    ≡ grouped_left infix_term (written_term_of l.fn.first) (from_last factor_of l.fn.behind.items)

-- the factors that are left
abbrev pub decreases-loop-next : goal.decreases-loop-next
decreases-loop-next l = length l.behind.items
