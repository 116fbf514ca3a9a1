use Rattle.std.proofs.Common.{◌≡◌, take}
use Rattle.sort_terms.specs.TermSize.{size_of}
use Rattle.sort_terms.specs.TermView.{term_of, bare_terms_of}
use Rattle.lotos_base.specs.Term.{node}
use Rattle.path_order.specs.ComparedView.{all_tables, tables_behind}
use Rattle.path_order.specs.Comparison.{IsToldOf, all_compared}
use Rattle.path_order.specs.PrecedenceView.{precedence_of}
use Rattle.path_order.proofs.comparing.+over.Given as goal

abbrev pub decreases-over : goal.decreases-over
decreases-over l = size_of l.other.now

abbrev pub invariant-loop-position : goal.invariant-loop-position
invariant-loop-position l =
    IsToldOf (precedence_of l.precedence) (bare_terms_of l.arguments.items) (term_of l.other) (tables_behind l.rows)
    → all_tables l.below.items
    ≡ all_compared (precedence_of l.precedence) (node l.op (bare_terms_of l.arguments.items))
    (bare_terms_of (take l.position l.others.items))
