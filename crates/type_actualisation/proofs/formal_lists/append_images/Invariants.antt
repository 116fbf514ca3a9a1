use Rattle.std.proofs.Common.{◌≡◌, ◌++◌, map, take}
use Rattle.lotos_base.specs.Signature.{Signature}
use Rattle.sort_terms.specs.EquationView.{equation_of}
use Rattle.type_definitions.specs.Images.{equation_image}
use Rattle.type_definitions.specs.ProfiledImage.{number_in}
use Rattle.type_presentations.specs.EquationListView.{HasEquationKeys, equations_in}
use Rattle.type_actualisation.specs.FormalLists.{AreFormalsOver, AreMoved}
use Rattle.type_actualisation.proofs.formal_lists.append_images.Given as goal

abbrev pub invariant-loop-equation : goal.invariant-loop-equation
invariant-loop-equation l =
    HasEquationKeys l.list
    × (equations_in l.list
    ≡ equations_in l.fn.list
    ++ map (equation_image (number_in l.sorts) (number_in l.ops)) (map equation_of (take l.equation-index l.equations)))
    × ((old new : Signature) → AreMoved old new l.coming l.sorts l.ops l.profiles → AreFormalsOver new l.fn.list
    → AreFormalsOver new l.list)
