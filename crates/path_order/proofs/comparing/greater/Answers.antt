use Rattle.std.proofs.Common.{ap}
use Rattle.sort_terms.specs.SortedView.{term_in}
use Rattle.sort_terms.specs.TermView.{term_of}
use Rattle.path_order.specs.PrecedenceView.{precedence_of}
use Rattle.path_order.proofs.HeadLemmas.{sure_greater, sure_lesser}
use Rattle.path_order.proofs.comparing.greater.Goals as goal

pub returns-then-exceeds_by_heads : goal.returns-then-exceeds_by_heads
returns-then-exceeds_by_heads c =
    sure_greater (precedence_of c.args.precedence.now) (term_in c.args.left.now) (term_in c.args.right.now)
    (term_of c.term.result.now) (term_of c.term-2.result.now) (ap term_of c.term.ensures) (ap term_of c.term-2.ensures)
    c.exceeds_by_heads.result c.exceeds_by_heads.ensures c.if-exceeds_by_heads.true

pub returns-then-exceeds_by_heads-2 : goal.returns-then-exceeds_by_heads-2
returns-then-exceeds_by_heads-2 c =
    sure_lesser (precedence_of c.args.precedence.now) (term_in c.args.left.now) (term_in c.args.right.now)
    (term_of c.term-3.result.now) (term_of c.term-4.result.now) (ap term_of c.term-3.ensures) (ap term_of c.term-4.ensures)
    c.exceeds_by_heads-2.result c.exceeds_by_heads-2.ensures c.if-exceeds_by_heads-2.true
