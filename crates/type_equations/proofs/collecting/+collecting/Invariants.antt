use Rattle.std.proofs.Common.{◌≡◌, drop, ◌+◌, ◌*◌}
use Rattle.std.specs.Prelude.{nat_eq}
use Rattle.sort_terms.specs.TermView.{bare_terms_of}
use Rattle.type_definitions.specs.Presentation.{with_new}
use Rattle.type_definitions.specs.DeclaredEquations.{variable_numbers_among}
use Rattle.sort_terms.specs.TermSize.{size_of, sizes_of}
use Rattle.type_equations.proofs.collecting.+collecting.Given as goal

abbrev pub decreases-collect : goal.decreases-collect
decreases-collect l = 2 * size_of l.term.now

abbrev pub decreases-collect_all : goal.decreases-collect_all
decreases-collect_all l = 2 * sizes_of l.terms.now.items + 1

abbrev pub invariant-collect_all-loop-term : goal.invariant-collect_all-loop-term
invariant-collect_all-loop-term l =
    with_new nat_eq l.order.keys (variable_numbers_among (bare_terms_of (drop l.term-index l.term-items)))
    ≡ with_new nat_eq l.fn.order.keys (variable_numbers_among (bare_terms_of l.term-items))
