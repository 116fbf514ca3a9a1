-- The faults of a certificate. Each stands at a line, counted from 1.
use Rattle.std.specs.Prelude.{ℕ}
use Rattle.certificate_theory.specs.InductionCertificate.{Statement}

pub data InductionFault : Type 0 where
  -- a line that may not stand there, or is missing: a second cover of a sort or tree of an operation, a cover with an
  -- operation of another result, a line where nothing is left to be shown, none where something is left
  bad_line : InductionFault
  -- a split of what is no variable of the pattern or in the scope of the goal
  no_variable : InductionFault
  -- a split of a variable whose sort has no cover
  no_cover : InductionFault
  -- a covered sort has an operation, with this number, that is neither in its cover nor has a tree
  no_tree : ℕ → InductionFault
  -- a leaf that no rule rewrites
  not_reducible : InductionFault
  -- a use that has no result
  bad_use : InductionFault
  -- the end of a case whose two sides, which are these, differ
  not_same : Statement → InductionFault
