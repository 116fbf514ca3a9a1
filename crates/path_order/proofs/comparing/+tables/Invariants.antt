use Rattle.std.proofs.Common.{◌≡◌, ◌++◌, drop, map, ◌+◌, ◌*◌}
use Rattle.sort_terms.specs.TermView.{term_of, bare_terms_of}
use Rattle.path_order.specs.ComparedView.{compared_table_of}
use Rattle.path_order.specs.Comparison.{each_compared}
use Rattle.path_order.specs.PrecedenceView.{precedence_of}
use Rattle.sort_terms.specs.TermSize.{size_of, sizes_of}
use Rattle.path_order.proofs.comparing.+tables.Given as goal

abbrev pub decreases-compare : goal.decreases-compare
decreases-compare l = 2 * size_of l.term.now

abbrev pub decreases-compare_each : goal.decreases-compare_each
decreases-compare_each l = 2 * sizes_of l.terms.now.items + 1

abbrev pub invariant-compare_each-loop-term : goal.invariant-compare_each-loop-term
invariant-compare_each-loop-term l =
    map compared_table_of l.made.items ++ each_compared (precedence_of l.precedence) (bare_terms_of (drop l.term-index l.term-items))
    (term_of l.other)
    ≡ each_compared (precedence_of l.precedence) (bare_terms_of l.term-items) (term_of l.other)
