use Rattle.std.proofs.Common.{◌≡◌, drop, ◌+◌, ◌*◌}
use Rattle.sort_terms.specs.TermView.{term_of, bare_terms_of}
use Rattle.path_order.specs.Heads.{all_terms_below}
use Rattle.path_order.specs.PrecedenceView.{precedence_of}
use Rattle.sort_terms.specs.TermSize.{size_of, sizes_of}
use Rattle.path_order.proofs.heads.+below.Given as goal

abbrev pub decreases-is_below : goal.decreases-is_below
decreases-is_below l = 2 * size_of l.term.now

abbrev pub decreases-are_below : goal.decreases-are_below
decreases-are_below l = 2 * sizes_of l.terms.now.items + 1

abbrev pub invariant-are_below-loop-term : goal.invariant-are_below-loop-term
invariant-are_below-loop-term l =
    all_terms_below (precedence_of l.precedence) l.op (term_of l.whole) (bare_terms_of l.term-items)
    ≡ all_terms_below (precedence_of l.precedence) l.op (term_of l.whole) (bare_terms_of (drop l.term-index l.term-items))
