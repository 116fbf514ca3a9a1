use Rattle.std.proofs.Common.{◌≡◌, map, length}
use Rattle.ll_engine.specs.Run.{from_last}
use Rattle.lotos_base.specs.WrittenView.{text_place_of}
use Rattle.syntax_trees.specs.FirstsView.{firsts_of}
use Rattle.syntax_trees.specs.TreeFirsts.{names_firsts}
use Rattle.text_depth.proofs.forms.names_first.Given as goal

abbrev pub invariant-loop-place : goal.invariant-loop-place
invariant-loop-place l =
    names_firsts (map text_place_of l.names.items) (firsts_of l.firsts)
    ≡ names_firsts (from_last text_place_of l.fn.names.items) (firsts_of l.fn.inside)

abbrev pub decreases-loop-place : goal.decreases-loop-place
decreases-loop-place l = length l.names.items
