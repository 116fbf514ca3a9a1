use Rattle.std.proofs.Common.{take, ◌+◌, ◌*◌}
use Rattle.sort_terms.specs.TermSize.{size_of, sizes_of}
use Rattle.sort_terms.specs.TermView.{bare_terms_of}
use Rattle.lotos_base.specs.Sorting.{AreGround}
use Rattle.sort_terms.proofs.terms.+ground.Given as goal

abbrev pub decreases-Term::is_ground : goal.decreases-Term::is_ground
decreases-Term::is_ground l = 2 * size_of l.self.now

abbrev pub decreases-are_ground : goal.decreases-are_ground
decreases-are_ground l = 2 * sizes_of l.terms.now.items + 1

abbrev pub invariant-are_ground-loop-term : goal.invariant-are_ground-loop-term
invariant-are_ground-loop-term l = AreGround (bare_terms_of (take l.term-index l.term-items))
