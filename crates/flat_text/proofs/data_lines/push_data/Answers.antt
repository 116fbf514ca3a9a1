use Rattle.std.proofs.Common.{◌++◌, List, ℕ, map, ap, sym, ◌∙◌}
use Rattle.std.proofs.lemmas.Result.{on_ok_weaker}
use Rattle.sort_terms.specs.EquationView.{data_of}
use Rattle.sort_terms.specs.Operations.{sort_of}
use Rattle.sort_terms.specs.declared.operations.Sort.{Sort}
use Rattle.flat_text.specs.DataText.{sorts_lines}
use Rattle.flat_text.proofs.FilledLists.{data_filled, mapped_filled, not_empty, some_members}
use Rattle.flat_text.proofs.MorePieces.{five_pieces}
use Rattle.flat_text.proofs.data_lines.push_data.Goals as goal

pub push_sorts-requires : goal.push_sorts-requires
push_sorts-requires c =
    some_members c.sorts.result.now c.sorts-2.result.now (sym c.is_empty.ensures ∙ c.if-is_empty.false)
    (c.sorts.ensures ∙ sym c.sorts-2.ensures)

pub returns : goal.returns
returns c =
    on_ok_weaker c.push_text-2.result
    (λ h. five_pieces c.args.into.now.items _ _ _ _ _ _ _ _ _ _ c.in_ok-push_text.ensures
    (c.in_ok-push_sorts.ensures
    ∙ ap (λ (sorts : List Sort). c.push_text.new.into.items ++ sorts_lines (map sort_of sorts)) c.sorts-2.ensures)
    c.in_ok-push_operations.ensures c.in_ok-push_equations.ensures h
    ∙ ap (λ (text : List ℕ). c.args.into.now.items ++ text)
    (sym (data_filled (data_of c.args.flat.now) (map sort_of c.args.flat.now.signature.sorts.items)
    (mapped_filled sort_of c.args.flat.now.signature.sorts.items
    (not_empty c.sorts.result.now c.args.flat.now.signature.sorts.items (sym c.is_empty.ensures ∙ c.if-is_empty.false)
    c.sorts.ensures)))))
    c.push_text-2.ensures
