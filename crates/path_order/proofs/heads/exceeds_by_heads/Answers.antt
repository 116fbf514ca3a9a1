use Rattle.std.proofs.Common.{◌≡◌, ap, sym, ◌∙◌, subst}
use Rattle.sort_terms.specs.ProfiledTerm.{all_bare}
use Rattle.sort_terms.specs.TermView.{term_of}
use Rattle.lotos_base.specs.Term.{Term as PlainTerm, node}
use Rattle.rewriting_theory.specs.PathOrder.{IsGreater}
use Rattle.path_order.specs.Heads.{below_head}
use Rattle.path_order.specs.PrecedenceView.{precedence_of}
use Rattle.path_order.proofs.CodeLemmas.{term_of-Node}
use Rattle.path_order.proofs.HeadLemmas.{below_is_lesser}
use Rattle.path_order.proofs.heads.exceeds_by_heads.Goals as goal

pub returns-in-Node : goal.returns-in-Node
returns-in-Node c = λ is.
    let p = precedence_of c.args.precedence.now in
    let whole : term_of c.args.term.now ≡ node c.in-Node.op (all_bare c.in-Node.arguments) =
    ap term_of c.in-Node.is ∙ term_of-Node c.in-Node.op c.in-Node.profile c.in-Node.arguments in
    subst (λ (t : PlainTerm). IsGreater p t (term_of c.args.other.now)) (sym whole)
    (below_is_lesser p c.in-Node.op (all_bare c.in-Node.arguments) (term_of c.args.other.now)
    (ap (λ (t : PlainTerm). below_head p c.in-Node.op t (term_of c.args.other.now)) (sym whole) ∙ sym c.is_below.ensures ∙ is))
