-- When sorts, operations, equations and terms of the code agree.
use Rattle.std.specs.Prelude.{◌≡◌}
use Rattle.lotos_base.specs.Name.{AreSame}
use Rattle.sort_terms.specs.EquationView.{equation_of}
use Rattle.sort_terms.specs.Operations.{operation_of}
use Rattle.sort_terms.specs.SortedView.{term_in}
use Rattle.sort_terms.specs.declared.equations.Equation.{Equation}
use Rattle.sort_terms.specs.declared.operations.Op.{Op}
use Rattle.sort_terms.specs.declared.operations.Sort.{Sort}
use Rattle.sort_terms.specs.declared.sorted.Sorted.{Sorted}
use Rattle.certificate_theory.specs.SameData.{AreOneOperation, AreOneEquation}

abbrev pub AgreeOnSort : Sort → Sort → Type 0
AgreeOnSort sort other = AreSame sort.name other.name

abbrev pub AreOneOp : Op → Op → Type 0
AreOneOp op other = AreOneOperation (operation_of op) (operation_of other)

abbrev pub AreOneRule : Equation → Equation → Type 0
AreOneRule equation other = AreOneEquation (equation_of equation) (equation_of other)

abbrev pub AreOneTerm : Sorted → Sorted → Type 0
AreOneTerm term other = term_in term ≡ term_in other
