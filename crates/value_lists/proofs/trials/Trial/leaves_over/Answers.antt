use Rattle.std.proofs.Common.{sym, ◌∙◌, arith}
use Rattle.value_lists.specs.TrialView.{trial_sorts_of}
use Rattle.value_lists.proofs.CodeLemmas.{late_by}
use Rattle.value_lists.proofs.trials.Trial.leaves_over.Goals as goal

pub returns : goal.returns
returns c =
    c.is_left_over.ensures
    ∙ sym (late_by (trial_sorts_of c.args.self.now) c.args.at c.args.left c.args.value.now _ c.requires
    (omega (arith, c.arity.ensures, c.requires)))
