use Rattle.std.proofs.Common.{ℕ, List, ◌++◌, ap, ◌∙◌}
use Rattle.std.proofs.lemmas.Result.{on_ok_weaker}
use Rattle.lotos_base.proofs.Pieces.{three_pieces}
use Rattle.sort_terms.specs.SignatureView.{signature_of}
use Rattle.sort_terms.specs.SortedView.{term_in}
use Rattle.behaviour_tree.specs.BehaviourView.{variables_of}
use Rattle.printed_texts.specs.BehaviourText.{round_list}
use Rattle.printed_texts.specs.TermText.{term_text}
use Rattle.report_text.proofs.ListLemmas.{map_twice}
use Rattle.report_text.proofs.heads.push_call.Goals as goal

pub returns : goal.returns
returns c =
    on_ok_weaker c.push_round_list.result
    (λ h. three_pieces c.args.into.now.items _ _ _ _ _ _ c.in_ok-push_process.ensures c.in_ok-push_square_list.ensures
    (h ∙ ap (λ (ts : List (List ℕ)). c.push_square_list.new.into.items ++ round_list ts)
    (map_twice (term_text (signature_of c.args.naming.now.signature.now) (variables_of c.args.names.now)) term_in c.args.values.now.items)))
    c.push_round_list.ensures
