use Rattle.std.proofs.Common.{◌≡◌, ◌++◌, List, length, not, ℕ, ap, sym, ◌∙◌, arith}
use Rattle.std.proofs.lemmas.Result.{on_ok_weaker}
use Rattle.sort_terms.specs.SignatureView.{signature_of}
use Rattle.printed_texts.specs.TermText.{sort_text}
use Rattle.printed_texts.proofs.BracketLemmas.{closed_text, listed_all}
use Rattle.printed_texts.proofs.TermLemmas.{empty_list, full_list}
use Rattle.printed_texts.proofs.FunctionalityLemmas.{sorts_are}
use Rattle.printed_texts.proofs.functionalities.push_sorts.Goals as goal

pub returns : goal.returns
returns c =
    on_ok_weaker c.close_bracket.result
    (λ h. closed_text (not c.is_empty-is_needed.result) c.args.into.now.items _ _ _ _ _
    c.in_ok-position.ensures.opened c.in_ok-position.ensures.place
    (listed_all (sort_text (signature_of c.args.signature.now)) c.args.sorts.now.items c.loop-index.index _ _
    (let e : length c.deref-sort-items.result.now ≡ length c.args.sorts.now.items
    = ap length c.deref-sort-items.ensures.value in omega arith)
    (let e : length c.deref-sort-items.result.now ≡ length c.args.sorts.now.items
    = ap length c.deref-sort-items.ensures.value in omega arith)
    c.loop-index.invariant.0)
    h
    ∙ ap (λ (text : List ℕ). c.args.into.now.items ++ text)
    (sym (sorts_are (signature_of c.args.signature.now) c.args.sorts.now.items (not c.is_empty-is_needed.result)
    (λ k. empty_list c.args.sorts.now.items _ c.args.sorts.now.ok.0 (ap not (sym c.is_empty-is_needed.ensures) ∙ k))
    (λ k. full_list c.args.sorts.now.items _ c.args.sorts.now.ok.0 (ap not (sym c.is_empty-is_needed.ensures) ∙ k)))))
    c.close_bracket.ensures
