use Rattle.std.proofs.Common.{List, sym, subst}
use Rattle.lotos_base.specs.Equation.{Equation, IsWellFormedData}
use Rattle.sort_terms.specs.EquationView.{equation_of}
use Rattle.type_presentations.specs.EquationListView.{equations_in}
use Rattle.type_presentations.specs.PresentationView.{presentation_of}
use Rattle.type_presentations.proofs.GrowthLemmas.{data_with, data_with_equation}
use Rattle.type_presentations.proofs.growing_equations.grow_by_equation.Goals as goal

pub returns-clause-sound : goal.returns-clause-sound
returns-clause-sound c = record {
  sorts = c.requires.sound.sorts;
  ops = c.requires.sound.ops;
  equations = c.in_ok-append.ensures.keyed;
  formal_sorts = c.requires.sound.formal_sorts;
  formal_ops = c.requires.sound.formal_ops;
  sides = c.in_ok-append.ensures.sides (presentation_of c.args.presentation.now).signature c.requires.sound.sides
      (c.requires.left, c.requires.right);
  data_ =
      subst (λ (es : List Equation). IsWellFormedData (data_with (presentation_of c.args.presentation.now).signature es))
      (sym c.in_ok-append.ensures.equations)
      (data_with_equation (presentation_of c.args.presentation.now).signature (equations_in c.args.presentation.now.equations)
      (equation_of c.args.equation) c.requires.sound.data_ c.requires.over);
}
