use Rattle.std.proofs.Common.{◌≡◌, ◌++◌, List, length, not, ℕ, ap, sym, ◌∙◌, arith}
use Rattle.std.proofs.lemmas.Result.{on_ok_weaker}
use Rattle.printed_texts.specs.TextView.{written_value}
use Rattle.printed_texts.proofs.BracketLemmas.{closed_text, listed_all}
use Rattle.printed_texts.proofs.TermLemmas.{empty_list, full_list}
use Rattle.printed_texts.proofs.MenuLemmas.{exit_values_are}
use Rattle.printed_texts.proofs.labels.push_exit_values.Goals as goal

pub returns : goal.returns
returns c =
    on_ok_weaker c.close_bracket.result
    (λ h. closed_text (not c.is_empty-is_needed.result) c.args.into.now.items _ _ _ _ _
    c.in_ok-position.ensures.opened c.in_ok-position.ensures.place
    (listed_all (written_value c.args.signature.now) c.args.values.now.items c.loop-index.index _ _
    (let e : length c.deref-value-items.result.now ≡ length c.args.values.now.items
    = ap length c.deref-value-items.ensures.value in omega arith)
    (let e : length c.deref-value-items.result.now ≡ length c.args.values.now.items
    = ap length c.deref-value-items.ensures.value in omega arith)
    c.loop-index.invariant.0)
    h
    ∙ ap (λ (text : List ℕ). c.args.into.now.items ++ text)
    (sym (exit_values_are c.args.signature.now c.args.values.now.items (not c.is_empty-is_needed.result)
    (λ k. empty_list c.args.values.now.items _ c.args.values.now.ok.0 (ap not (sym c.is_empty-is_needed.ensures) ∙ k))
    (λ k. full_list c.args.values.now.items _ c.args.values.now.ok.0 (ap not (sym c.is_empty-is_needed.ensures) ∙ k)))))
    c.close_bracket.ensures
