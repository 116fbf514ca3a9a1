use Rattle.std.proofs.Common.{◌++◌, List, ℕ, codes, ap, sym, ◌∙◌, append_assoc}
use Rattle.std.proofs.lemmas.Result.{on_ok_weaker}
use Rattle.lotos_base.specs.Name.{spelling}
use Rattle.behaviour_tree.specs.BehaviourView.{behaviour_of, variables_of}
use Rattle.behaviour_tree.specs.DefinitionView.{functionality_of}
use Rattle.report_text.specs.HandedOn.{behaviour_text}
use Rattle.report_text.specs.NamingView.{naming_of}
use Rattle.flat_text.specs.FlatText.{heading}
use Rattle.flat_text.proofs.MorePieces.{six_pieces}
use Rattle.flat_text.proofs.texts.push_process.Goals as goal

pub returns : goal.returns
returns c =
    on_ok_weaker c.push_text-4.result
    (λ h. six_pieces c.args.into.now.items _ _ _ _ _ _ _ _ _ _ _ _ c.in_ok-push_text.ensures
    (c.in_ok-push_text-2.ensures ∙ ap (λ (text : List ℕ). c.push_text.new.into.items ++ text) c.spelled.ensures)
    c.in_ok-push_heading.ensures c.in_ok-push_text-3.ensures c.in_ok-push_behaviour.ensures h
    ∙ ap (λ (text : List ℕ). c.args.into.now.items ++ text)
    (sym (append_assoc
    (codes "process " ++ spelling c.args.name.now
    ++ heading (naming_of c.args.naming.now) c.args.process.now.gates.items (variables_of c.args.process.now.parameters.items)
    (functionality_of c.args.process.now.exit)
    ++ codes " := "
    ++ behaviour_text (naming_of c.args.naming.now) (variables_of c.args.process.now.parameters.items)
    (behaviour_of c.args.process.now.body))
    (codes "\n") (codes "endproc\n"))))
    c.push_text-4.ensures
