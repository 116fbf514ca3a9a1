use Rattle.std.proofs.Common.{◌≡◌, Bool, ap, sym, ◌∙◌, subst}
use Rattle.std.specs.Prelude.{◌↔◌, IsTrue}
use Rattle.sort_terms.specs.SortedView.{term_in}
use Rattle.sort_terms.specs.TermView.{term_of}
use Rattle.rewriting_theory.specs.PathOrder.{IsGreater}
use Rattle.rewriting_theory.specs.OrderTest.{is_greater}
use Rattle.rewriting_theory.proofs.OrderLemmas.{greater_decided}
use Rattle.path_order.specs.Comparison.{compared, greater_in}
use Rattle.path_order.specs.PrecedenceView.{precedence_of}
use Rattle.path_order.proofs.TableLemmas.{greater_of}
use Rattle.path_order.proofs.comparing.greater_by_tables.Goals as goal

pub returns : goal.returns
returns c =
    let p = precedence_of c.args.precedence.now in
    let is : c.greater.result ≡ is_greater p (term_in c.args.left.now) (term_in c.args.right.now) =
    c.greater.ensures
    ∙ ap greater_in (c.in_ok-compare.ensures ∙ (λ i. compared p (term_of (c.term.ensures i)) (term_of (c.term-2.ensures i))))
    ∙ greater_of p (term_in c.args.left.now) (term_in c.args.right.now) in
    subst (λ (b : Bool). IsTrue b ↔ IsGreater p (term_in c.args.left.now) (term_in c.args.right.now)) (sym is)
    (greater_decided p (term_in c.args.left.now) (term_in c.args.right.now))
