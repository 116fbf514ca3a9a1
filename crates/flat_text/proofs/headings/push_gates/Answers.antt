use Rattle.std.proofs.Common.{◌++◌, List, ℕ, ap, sym, ◌∙◌}
use Rattle.std.proofs.lemmas.Result.{on_ok_weaker}
use Rattle.lotos_base.proofs.Pieces.{two_pieces}
use Rattle.report_text.proofs.HandedOn.{filled_list}
use Rattle.report_text.specs.NamingView.{naming_of}
use Rattle.flat_text.proofs.FilledLists.{gates_filled}
use Rattle.flat_text.proofs.headings.push_gates.Goals as goal

pub returns : goal.returns
returns c =
    on_ok_weaker c.push_square.result
    (λ h. two_pieces c.args.into.now.items _ _ _ _ c.in_ok-push_text.ensures h
    ∙ ap (λ (text : List ℕ). c.args.into.now.items ++ text)
    (sym (gates_filled (naming_of c.args.naming.now) c.args.gates.now.items
    (filled_list c.args.gates.now.items _ c.args.gates.now.ok.0 (sym c.is_empty.ensures ∙ c.if-is_empty.false)))))
    c.push_square.ensures
