use Rattle.std.proofs.Common.{length, sym, ap, ◌∙◌}
use Rattle.std.proofs.lemmas.List.{length-map}
use Rattle.std.proofs.lemmas.Result.{on_ok_weaker}
use Rattle.lotos_base.proofs.Pieces.{decimal_same}
use Rattle.lotos_base.specs.Name.{spelling}
use Rattle.sort_terms.specs.EquationView.{data_of}
use Rattle.sort_terms.specs.declared.equations.Flat.{Flat}
use Rattle.lotos_top.proofs.HeadLemmas.{named, head_written}
use Rattle.lotos_top.proofs.opening.push_head.Goals as goal

pub returns : goal.returns
returns c = on_ok_weaker c.push_text-6.result (λ last.
    head_written c.args.into.now.items c.push_text.new.into.items c.push_text-2.new.into.items c.push_text-3.new.into.items
    c.push_number.new.into.items c.push_text-4.new.into.items c.push_number-2.new.into.items c.push_text-5.new.into.items
    c.push_number-3.new.into.items c.push_text-6.new.into.items (spelling c.args.spec.now.name) (data_of c.args.book.now.flat)
    c.in_ok-push_text.ensures
    (named _ _ _ _ c.in_ok-push_text-2.ensures c.spelled.ensures)
    c.in_ok-push_text-3.ensures
    (decimal_same _ _ _ _ c.in_ok-push_number.ensures
    (ap length (c.sorts.ensures ∙ ap (λ (f : Flat). f.signature.sorts.items) c.flat-flat.ensures) ∙ sym (length-map _ _)))
    c.in_ok-push_text-4.ensures
    (decimal_same _ _ _ _ c.in_ok-push_number-2.ensures
    (ap length (c.ops.ensures ∙ ap (λ (f : Flat). f.signature.ops.items) c.flat-flat.ensures) ∙ sym (length-map _ _)))
    c.in_ok-push_text-5.ensures
    (decimal_same _ _ _ _ c.in_ok-push_number-3.ensures
    (c.len.ensures ∙ c.flat-flat.result.now.equations.ok.0 ∙ ap (λ (f : Flat). length f.equations.items) c.flat-flat.ensures ∙ sym
    (length-map _ _)))
    last) c.push_text-6.ensures
