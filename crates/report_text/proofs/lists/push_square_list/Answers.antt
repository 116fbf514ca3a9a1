use Rattle.std.proofs.Common.{◌++◌, List, ℕ, ap, sym, ◌∙◌}
use Rattle.std.proofs.lemmas.Result.{on_ok_weaker}
use Rattle.behaviour_tree.specs.BehaviourView.{variables_of}
use Rattle.printed_texts.proofs.TermLemmas.{filled_list}
use Rattle.report_text.specs.NamingView.{naming_of}
use Rattle.report_text.proofs.ListLemmas.{square_filled}
use Rattle.report_text.proofs.lists.push_square_list.Goals as goal

pub returns : goal.returns
returns g c =
    on_ok_weaker c.push_square.result
    (λ h. h ∙ ap (λ (text : List ℕ). c.args.into.now.items ++ text)
    (sym (square_filled g.M.Member.text (naming_of c.args.naming.now) (variables_of c.args.names.now)
    c.args.members.now.items
    (filled_list c.args.members.now.items _ c.args.members.now.ok.0 (sym c.is_empty.ensures ∙ c.if-is_empty.false)))))
    c.push_square.ensures
