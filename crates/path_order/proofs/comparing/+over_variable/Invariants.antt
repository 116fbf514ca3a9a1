use Rattle.std.proofs.Common.{◌≡◌, take}
use Rattle.sort_terms.specs.TermSize.{size_of}
use Rattle.sort_terms.specs.TermView.{bare_terms_of}
use Rattle.lotos_base.specs.Term.{variable}
use Rattle.path_order.specs.ComparedView.{all_tables}
use Rattle.path_order.specs.Comparison.{all_compared}
use Rattle.path_order.specs.PrecedenceView.{precedence_of}
use Rattle.path_order.proofs.comparing.+over_variable.Given as goal

abbrev pub decreases-over_variable : goal.decreases-over_variable
decreases-over_variable l = size_of l.other.now

abbrev pub invariant-loop-argument : goal.invariant-loop-argument
invariant-loop-argument l =
    all_tables l.below.items ≡ all_compared (precedence_of l.precedence) (variable l.number l.sort)
    (bare_terms_of (take l.argument-index l.argument-items))
