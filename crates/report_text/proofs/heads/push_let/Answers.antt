use Rattle.std.proofs.Common.{ℕ, List, ◌++◌, ap, ◌∙◌}
use Rattle.std.proofs.lemmas.Result.{on_ok_weaker}
use Rattle.lotos_base.proofs.Pieces.{three_pieces}
use Rattle.behaviour_tree.specs.BehaviourView.{let_of, variables_of}
use Rattle.printed_texts.specs.BehaviourText.{binding_text}
use Rattle.printed_texts.specs.Brackets.{commas}
use Rattle.report_text.specs.NamingView.{naming_of}
use Rattle.report_text.proofs.ListLemmas.{map_twice}
use Rattle.report_text.proofs.heads.push_let.Goals as goal

pub returns : goal.returns
returns c =
    on_ok_weaker c.push_text-2.result
    (λ h. three_pieces c.args.into.now.items _ _ _ _ _ _ c.in_ok-push_text.ensures
    (c.in_ok-push_list.ensures ∙ ap (λ (ts : List (List ℕ)). c.push_text.new.into.items ++ commas ts)
    (map_twice (binding_text (naming_of c.args.naming.now) (variables_of c.args.names.now)) let_of
    c.args.bindings.now.items)) h)
    c.push_text-2.ensures
