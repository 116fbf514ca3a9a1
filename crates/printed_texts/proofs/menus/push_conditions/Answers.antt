use Rattle.std.proofs.Common.{◌≡◌, ◌++◌, List, length, map, codes, ℕ, ap, sym, ◌∙◌, append_assoc, arith}
use Rattle.printed_texts.specs.Brackets.{commas}
use Rattle.printed_texts.specs.TextView.{written_condition}
use Rattle.printed_texts.proofs.BracketLemmas.{listed_all}
use Rattle.printed_texts.proofs.TermLemmas.{filled_list}
use Rattle.printed_texts.proofs.MenuLemmas.{conditions_are}
use Rattle.printed_texts.proofs.menus.push_conditions.Goals as goal

pub returns : goal.returns
returns c =
    listed_all (written_condition c.args.signature.now) c.args.conditions.now.items c.loop-index.index _ _
    (let e : length c.deref-condition-items.result.now ≡ length c.args.conditions.now.items
    = ap length c.deref-condition-items.ensures.value in omega arith)
    (let e : length c.deref-condition-items.result.now ≡ length c.args.conditions.now.items
    = ap length c.deref-condition-items.ensures.value in omega arith)
    c.loop-index.invariant
    ∙ ap (λ (text : List ℕ). text ++ commas (map (written_condition c.args.signature.now) c.args.conditions.now.items))
    c.in_ok-push_text.ensures
    ∙ append_assoc c.args.into.now.items (codes " if ") _
    ∙ ap (λ (text : List ℕ). c.args.into.now.items ++ text)
    (sym (conditions_are c.args.signature.now c.args.conditions.now.items
    (filled_list c.args.conditions.now.items _ c.args.conditions.now.ok.0 (sym c.is_empty.ensures ∙ c.if-is_empty.false))))
