use Rattle.std.proofs.Common.{◌≡◌, ◌++◌, drop}
use Rattle.syntax_trees.specs.TreeViews.{placed_names_of}
use Rattle.type_definitions.specs.Flattened.{mentions_with}
use Rattle.type_presentations.specs.MentionView.{AreSoundMentions, mentions_of}
use Rattle.type_presentations.specs.PresentedView.{presented_in}
use Rattle.type_presentations.proofs.presented.PresentedTypes.mentions.Given as goal

abbrev pub invariant-loop-named : goal.invariant-loop-named
invariant-loop-named l =
    (mentions_of l.made.items ++ mentions_with (presented_in l.self) (placed_names_of (drop l.named-index l.names))
    ≡ mentions_with (presented_in l.self) (placed_names_of l.names))
    × AreSoundMentions l.made.items
