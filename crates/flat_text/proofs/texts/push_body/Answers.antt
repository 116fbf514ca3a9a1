use Rattle.std.proofs.Common.{◌++◌, ap, ◌∙◌}
use Rattle.std.proofs.lemmas.Result.{on_ok_weaker}
use Rattle.lotos_base.proofs.Pieces.{three_pieces}
use Rattle.behaviour_tree.specs.BehaviourView.{behaviour_of, variables_of}
use Rattle.behaviour_tree.specs.declared.behaviours.Beh.{Beh}
use Rattle.report_text.specs.HandedOn.{behaviour_text}
use Rattle.report_text.specs.NamingView.{naming_of}
use Rattle.flat_text.proofs.texts.push_body.Goals as goal

pub returns : goal.returns
returns c =
    on_ok_weaker c.push_text-2.result
    (λ h. three_pieces c.args.into.now.items _ _ _ _ _ _ c.in_ok-push_text.ensures
    (c.in_ok-push_behaviour.ensures
    ∙ ap (λ (b : Beh). c.push_text.new.into.items
    ++ behaviour_text (naming_of c.args.naming.now) (variables_of c.args.spec.now.parameters.items) (behaviour_of b)) c.deref.ensures)
    h)
    c.push_text-2.ensures
