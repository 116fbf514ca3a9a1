use Rattle.std.proofs.Common.{length, sym, ap, ◌∙◌}
use Rattle.std.proofs.lemmas.List.{length-map}
use Rattle.std.proofs.lemmas.Result.{on_ok_weaker}
use Rattle.lotos_base.proofs.Pieces.{decimal_same}
use Rattle.sort_terms.specs.EquationView.{data_of}
use Rattle.demo_walks.proofs.SummaryLemmas.{sizes_written}
use Rattle.demo_walks.proofs.summaries.push_sizes.Goals as goal

pub returns : goal.returns
returns c = on_ok_weaker c.push_text-4.result (λ last.
    sizes_written c.args.into.now.items c.push_text.new.into.items c.push_number.new.into.items c.push_text-2.new.into.items
    c.push_number-2.new.into.items c.push_text-3.new.into.items c.push_number-3.new.into.items c.push_text-4.new.into.items
    (data_of c.args.data.now)
    c.in_ok-push_text.ensures
    (decimal_same _ _ _ _ c.in_ok-push_number.ensures (ap length c.sorts.ensures ∙ sym (length-map _ _)))
    c.in_ok-push_text-2.ensures
    (decimal_same _ _ _ _ c.in_ok-push_number-2.ensures (ap length c.ops.ensures ∙ sym (length-map _ _)))
    c.in_ok-push_text-3.ensures
    (decimal_same _ _ _ _ c.in_ok-push_number-3.ensures (c.len.ensures ∙ c.args.data.now.equations.ok.0 ∙ sym (length-map _ _)))
    last) c.push_text-4.ensures
