use Rattle.std.proofs.Common.{◌≡◌, ◌++◌, map, drop}
use Rattle.type_definitions.specs.Flattened.{without_formals}
use Rattle.type_presentations.specs.MentionView.{AreSoundMentions, mentions_of}
use Rattle.type_presentations.specs.PresentedView.{presented_in, presented_of}
use Rattle.type_presentations.proofs.presented.PresentedTypes.without_formals.Given as goal

abbrev pub invariant-loop-presented : goal.invariant-loop-presented
invariant-loop-presented l =
    (mentions_of l.made.items ++ without_formals (map presented_of (drop l.presented-index l.self.types.items))
    ≡ without_formals (presented_in l.self))
    × AreSoundMentions l.made.items
