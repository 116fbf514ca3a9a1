use Rattle.std.proofs.Common.{◌≡◌, map, take}
use Rattle.sort_terms.specs.EquationView.{equation_of}
use Rattle.type_presentations.specs.PresentationView.{IsSound, presentation_of}
use Rattle.type_renaming.specs.Parts.{with_equations}
use Rattle.type_renaming.proofs.equations.keep_equations.Given as goal

abbrev pub invariant-loop-equation : goal.invariant-loop-equation
invariant-loop-equation l =
    IsSound l.renamed
    × (presentation_of l.renamed
    ≡ with_equations (presentation_of l.fn.renamed) (map equation_of (take l.equation-index l.equations)))
