use Rattle.std.proofs.Common.{◌≡◌, map, drop}
use Rattle.lotos_base.specs.Signature.{Signature}
use Rattle.sort_terms.specs.EquationView.{equation_of}
use Rattle.type_definitions.specs.Presentation.{is_same_equation, with_new}
use Rattle.type_definitions.specs.Images.{equation_image}
use Rattle.type_definitions.specs.ProfiledImage.{number_in}
use Rattle.type_presentations.specs.EquationListView.{HasEquationKeys, HaveSidesOf, ImagesAreOf, equations_in}
use Rattle.type_presentations.specs.OperationListView.{operations_in}
use Rattle.type_presentations.proofs.equation_list.EquationList.join.Given as goal

abbrev pub invariant-loop-equation : goal.invariant-loop-equation
invariant-loop-equation l =
    HasEquationKeys l.self
    × (with_new is_same_equation (equations_in l.self)
    (map (equation_image (number_in l.sorts) (number_in l.ops)) (map equation_of (drop l.equation-index l.equation-items)))
    ≡ with_new is_same_equation (equations_in l.fn.self)
    (map (equation_image (number_in l.sorts) (number_in l.ops)) (map equation_of l.equation-items)))
    × ((signature : Signature) → HaveSidesOf signature l.fn.self.equations.items
    → ImagesAreOf (number_in l.sorts) (number_in l.ops) (operations_in l.profiles) signature l.other.equations.items
    → HaveSidesOf signature l.self.equations.items)
