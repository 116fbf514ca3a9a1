use Rattle.type_equations.proofs.OverLemmas.{sides_over, scopes_numbered}
use Rattle.type_equations.proofs.equation_laws.sides_make_an_equation.Goals as goal

pub returns : goal.returns
returns c = record {
  equations = sides_over;
  scopes = scopes_numbered;
}
