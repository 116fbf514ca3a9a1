use Rattle.std.proofs.lemmas.Result.{MatchResult-weaker, err_from_is_err_and}
use Rattle.lotos_base.specs.Name.{spelling}
use Rattle.lotos_base.specs.WrittenView.{placed_name_of}
use Rattle.syntax_trees.specs.TreeViews.{pairs_of}
use Rattle.syntax_trees.specs.WrittenItem.{renames}
use Rattle.type_presentations.specs.PresentationView.{presentation_of}
use Rattle.type_presentations.specs.PresentedView.{presented_in}
use Rattle.type_flatten.proofs.OneTypeSteps.{wanting, renamed_by, not_renamed}
use Rattle.type_flatten.proofs.one_type.renaming.Goals as goal

pub rename-requires : goal.rename-requires
rename-requires c =
    record { sound = c.in_ok-presentation.ensures.sound.0; within = c.in_ok-presentation.ensures.sound.1 }

pub returns : goal.returns
returns c =
    MatchResult-weaker c.rename.result c.rename.ensures
    (λ p renamed.
    renamed_by (presented_in c.args.types.now) (spelling c.args.type_name.now) (placed_name_of c.args.base.now)
    (pairs_of c.args.sort_pairs.now c.args.op_pairs.now) (presentation_of c.in_ok-presentation.presentation.now) p
    c.in_ok-presentation.ensures.presentation renamed)
    (λ fault refused.
    not_renamed (presented_in c.args.types.now) (spelling c.args.type_name.now) (placed_name_of c.args.base.now)
    (pairs_of c.args.sort_pairs.now c.args.op_pairs.now) (presentation_of c.in_ok-presentation.presentation.now) fault
    c.in_ok-presentation.ensures.presentation refused)

pub returns-in_err-presentation : goal.returns-in_err-presentation
returns-in_err-presentation c =
    let p = err_from_is_err_and c.from_residual.result c.from_residual.ensures.1 in
    rw (p.1, p.2)
    (wanting (presented_in c.args.types.now) (spelling c.args.type_name.now)
    (renames (placed_name_of c.args.base.now) (pairs_of c.args.sort_pairs.now c.args.op_pairs.now)))
