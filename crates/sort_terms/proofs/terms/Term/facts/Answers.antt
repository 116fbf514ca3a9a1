use Rattle.std.proofs.Common.{ap, sym, subst}
use Rattle.lotos_base.specs.Term.{Term as PlainTerm, variable, node}
use Rattle.sort_terms.specs.Known.{HoldOf}
use Rattle.sort_terms.specs.ProfiledTerm.{all_bare}
use Rattle.sort_terms.specs.TermView.{term_of}
use Rattle.sort_terms.specs.declared.facts.Facts.{Facts}
use Rattle.sort_terms.proofs.FactLemmas.{known_node, variable_holds}
use Rattle.sort_terms.proofs.terms.Term.facts.Goals as goal

pub returns-in-Var : goal.returns-in-Var
returns-in-Var c =
    subst (λ (t : PlainTerm). HoldOf c.of_variable.result t) (sym (ap term_of c.in-Var.is))
    (subst (λ (facts : Facts). HoldOf facts (variable c.in-Var.number c.in-Var.sort)) (sym c.of_variable.ensures)
    (variable_holds c.in-Var.number c.in-Var.sort))

pub returns-in-Node : goal.returns-in-Node
returns-in-Node c =
    subst (λ (t : PlainTerm). HoldOf c.below.result t) (sym (ap term_of c.in-Node.is))
    (subst (λ (facts : Facts). HoldOf facts (node c.in-Node.op (all_bare c.in-Node.arguments))) (sym c.below.ensures)
    (known_node c.facts.result c.in-Node.op (all_bare c.in-Node.arguments) c.facts.ensures))
