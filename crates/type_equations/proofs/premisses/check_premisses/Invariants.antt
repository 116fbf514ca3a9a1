use Rattle.std.proofs.Common.{◌≡◌, map, take}
use Rattle.syntax_trees.specs.TreeViews.{premiss_of}
use Rattle.sort_terms.specs.ReaderView.{signature_read}
use Rattle.type_definitions.specs.Presentation.{Presentation}
use Rattle.type_definitions.specs.DeclaredEquations.{AskedEquation, AreReadPremisses}
use Rattle.type_equations.specs.ScopeFor.{IsScopeFor}
use Rattle.type_equations.specs.Truth.{IsTruth}
use Rattle.type_equations.proofs.premisses.check_premisses.Given as goal

abbrev pub invariant-loop-premiss : goal.invariant-loop-premiss
invariant-loop-premiss l = (p : Presentation) (asked : AskedEquation) → p.signature ≡ signature_read l.reader
    → IsScopeFor p asked.variables asked.sort l.scope → IsTruth p l.truth
    → AreReadPremisses p asked (map premiss_of (take l.premiss-index l.premisses))
