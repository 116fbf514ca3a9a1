use Rattle.std.proofs.Common.{◌+◌, ◌*◌}
use Rattle.sort_terms.specs.TermSize.{size_of, sizes_of}
use Rattle.direct_terms.proofs.showing.+showing.Given as goal

abbrev pub decreases-show : goal.decreases-show
decreases-show l = 2 * size_of l.term.now

abbrev pub decreases-show_all : goal.decreases-show_all
decreases-show_all l = 2 * sizes_of l.arguments.now.items + 1
