use Rattle.std.proofs.Common.{ℕ, List, ◌++◌, ap, ◌∙◌}
use Rattle.std.proofs.lemmas.Result.{on_ok_weaker}
use Rattle.lotos_base.proofs.Pieces.{two_pieces}
use Rattle.behaviour_tree.specs.BehaviourView.{exit_value_of, variables_of}
use Rattle.printed_texts.specs.BehaviourText.{exit_value_text, round_list}
use Rattle.report_text.specs.NamingView.{naming_of}
use Rattle.report_text.proofs.ListLemmas.{map_twice}
use Rattle.report_text.proofs.heads.push_exit.Goals as goal

pub returns : goal.returns
returns c =
    on_ok_weaker c.push_round_list.result
    (λ h. two_pieces c.args.into.now.items _ _ _ _ c.in_ok-push_text.ensures
    (h ∙ ap (λ (ts : List (List ℕ)). c.push_text.new.into.items ++ round_list ts)
    (map_twice (exit_value_text (naming_of c.args.naming.now) (variables_of c.args.names.now)) exit_value_of
    c.args.values.now.items)))
    c.push_round_list.ensures
