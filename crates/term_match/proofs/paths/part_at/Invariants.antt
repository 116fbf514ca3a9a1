use Rattle.std.proofs.Common.{◌≡◌, drop}
use Rattle.sort_terms.specs.TermView.{profiled_of}
use Rattle.term_match.specs.ProfiledPath.{profiled_subterm}
use Rattle.term_match.proofs.paths.part_at.Given as goal

abbrev pub invariant-loop-position : goal.invariant-loop-position
invariant-loop-position l = profiled_subterm l.path (profiled_of l.fn.term) ≡ profiled_subterm (drop l.position-index l.path)
    (profiled_of l.part)
