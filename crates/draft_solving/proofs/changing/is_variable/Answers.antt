use Rattle.std.proofs.Common.{ap, sym, ◌∙◌}
use Rattle.sort_terms.specs.TermView.{term_of}
use Rattle.draft_solving.proofs.changing.is_variable.Goals as goal

pub returns-in-Var : goal.returns-in-Var
returns-in-Var c = λ _. record {
  number = c.in-Var.number;
  sort = c.in-Var.sort;
  is = ap term_of (sym c.term.ensures ∙ c.in-Var.is);
}
