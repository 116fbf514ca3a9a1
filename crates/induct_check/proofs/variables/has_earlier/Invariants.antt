use Rattle.std.proofs.Common.{◌≡◌, ◌<◌, ℕ, Some, slice_get}
use Rattle.lotos_base.specs.Names.{AreOneName}
use Rattle.syntax_trees.specs.TreeViews.{written_variables_of}
use Rattle.syntax_trees.specs.WrittenVariable.{WrittenVariable}
use Rattle.induct_check.proofs.variables.has_earlier.Given as goal

abbrev pub invariant-loop-earlier : goal.invariant-loop-earlier
invariant-loop-earlier l = (k : ℕ) (v w : WrittenVariable) → k < l.earlier → slice_get (written_variables_of l.written) k ≡ Some v
    → slice_get (written_variables_of l.written) l.number ≡ Some w → ¬ AreOneName v.name w.name
