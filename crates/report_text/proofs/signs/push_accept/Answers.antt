use Rattle.std.proofs.Common.{ℕ, List, ◌++◌, [], ap, sym, ◌∙◌}
use Rattle.std.proofs.lemmas.Result.{on_ok_weaker}
use Rattle.lotos_base.proofs.Pieces.{three_pieces}
use Rattle.printed_texts.proofs.TermLemmas.{filled_list}
use Rattle.report_text.specs.NamingView.{naming_of}
use Rattle.report_text.proofs.ListLemmas.{accept_sign}
use Rattle.report_text.proofs.signs.push_accept.Goals as goal

pub returns : goal.returns
returns c =
    on_ok_weaker c.push_text-3.result
    (λ h. three_pieces c.args.into.now.items _ _ _ _ _ _ c.in_ok-push_text.ensures c.in_ok-push_list.ensures h
    ∙ ap (λ (text : List ℕ). c.args.into.now.items ++ text)
    (sym (accept_sign (naming_of c.args.naming.now) [] c.args.variables.now.items
    (filled_list c.args.variables.now.items _ c.args.variables.now.ok.0 (sym c.is_empty.ensures ∙ c.if-is_empty.false)))))
    c.push_text-3.ensures
