use Rattle.std.proofs.Common.{◌++◌, List, ℕ, length, map, ap, sym, ◌∙◌}
use Rattle.std.proofs.lemmas.Result.{on_ok_weaker}
use Rattle.lotos_base.proofs.Pieces.{three_pieces}
use Rattle.report_text.proofs.HandedOn.{filled_list}
use Rattle.sort_terms.specs.EquationView.{variable_of}
use Rattle.sort_terms.specs.SignatureView.{signature_of}
use Rattle.flat_text.proofs.FilledLists.{mapped_filled, variables_filled}
use Rattle.flat_text.proofs.data_lines.push_for_all.Goals as goal

pub returns : goal.returns
returns c =
    on_ok_weaker c.push_text-2.result
    (λ h. three_pieces c.args.into.now.items _ _ _ _ _ _ c.in_ok-push_text.ensures c.in_ok-push_sorted_variables.ensures h
    ∙ ap (λ (text : List ℕ). c.args.into.now.items ++ text)
    (sym (variables_filled (signature_of c.args.signature.now) (map variable_of c.args.variables.now.items)
    (mapped_filled variable_of c.args.variables.now.items
    (filled_list c.args.variables.now.items _ c.args.variables.now.ok.0 (sym c.is_empty.ensures ∙ c.if-is_empty.false))))))
    c.push_text-2.ensures
