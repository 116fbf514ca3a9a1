use Rattle.std.proofs.Common.{◌++◌, List, ℕ, map, codes, ap, sym, ◌∙◌, append_assoc}
use Rattle.std.proofs.lemmas.Result.{on_ok_weaker}
use Rattle.printed_texts.specs.Brackets.{commas}
use Rattle.printed_texts.specs.TextView.{written_value}
use Rattle.printed_texts.proofs.TermLemmas.{filled_list}
use Rattle.printed_texts.proofs.MenuLemmas.{given_are}
use Rattle.printed_texts.proofs.values.push_given.Goals as goal

pub returns : goal.returns
returns c =
    on_ok_weaker c.push_listed.result
    (λ h. h
    ∙ (ap (λ (text : List ℕ). text ++ commas (map (written_value c.args.signature.now) c.args.values.now.items))
    c.in_ok-push_text.ensures
    ∙ (append_assoc c.args.into.now.items (codes " ") _
    ∙ ap (λ (text : List ℕ). c.args.into.now.items ++ text)
    (sym (given_are c.args.signature.now c.args.values.now.items
    (filled_list c.args.values.now.items _ c.args.values.now.ok.0 (sym c.is_empty.ensures ∙ c.if-is_empty.false)))))))
    c.push_listed.ensures
