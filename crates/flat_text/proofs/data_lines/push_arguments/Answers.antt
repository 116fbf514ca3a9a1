use Rattle.std.proofs.Common.{◌≡◌, ◌++◌, List, ℕ, length, ap, sym, ◌∙◌, arith}
use Rattle.std.proofs.lemmas.Result.{on_ok_weaker}
use Rattle.lotos_base.proofs.Pieces.{two_pieces}
use Rattle.report_text.specs.HandedOn.{sort_text}
use Rattle.report_text.proofs.HandedOn.{listed_all, filled_list}
use Rattle.sort_terms.specs.SignatureView.{signature_of}
use Rattle.flat_text.proofs.FilledLists.{arguments_filled}
use Rattle.flat_text.proofs.data_lines.push_arguments.Goals as goal

pub returns : goal.returns
returns c =
    on_ok_weaker c.push_text.result
    (λ h. two_pieces c.args.into.now.items _ _ _ _
    (listed_all (sort_text (signature_of c.args.signature.now)) c.args.sorts.now.items c.loop-index.index _ _
    (let e : length c.deref-sort-items.result.now ≡ length c.args.sorts.now.items
    = ap length c.deref-sort-items.ensures.value in omega arith)
    (let e : length c.deref-sort-items.result.now ≡ length c.args.sorts.now.items
    = ap length c.deref-sort-items.ensures.value in omega arith)
    c.loop-index.invariant)
    h
    ∙ ap (λ (text : List ℕ). c.args.into.now.items ++ text)
    (sym (arguments_filled (signature_of c.args.signature.now) c.args.sorts.now.items
    (filled_list c.args.sorts.now.items _ c.args.sorts.now.ok.0 (sym c.is_empty.ensures ∙ c.if-is_empty.false)))))
    c.push_text.ensures
