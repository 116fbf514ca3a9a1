use Rattle.std.proofs.Common.{List, sym, subst}
use Rattle.sort_terms.specs.declared.equations.Equation.{Equation}
use Rattle.type_definitions.specs.TypeView.{declared_types_of}
use Rattle.type_actualisation.specs.FormalTypesView.{AreRequiredInOrder}
use Rattle.type_flatten.proofs.requiring.requirements_of_texts.Goals as goal

pub require_all-requires : goal.require_all-requires
require_all-requires c = c.new-required.ensures

pub returns : goal.returns
returns c =
    subst (λ (es : List Equation). AreRequiredInOrder (declared_types_of c.args.texts.now) es) (sym c.into_equations.ensures)
    c.in_ok-require_all.ensures
