use Rattle.std.proofs.Common.{◌≡◌, ◌∙◌, ◌-◌, List, ◌++◌, ◌∷◌, [], ◌<◌, sym, ap, arith, length, reverse, take, get_or}
use Rattle.std.proofs.lemmas.List.{take_more, get_or-reverse, length-reverse, append_assoc, reverse-append, reverse-reverse, take_all}
use Rattle.ll_engine.specs.declared.symbol.Symbol.{Symbol}
use Rattle.ll_engine.specs.declared.symbol.Symbol.TheVariants.{Token}
use Rattle.std.specs.Prelude.{Some, option_map}
use Rattle.std.proofs.Common.{Bor}
use Rattle.ll_engine.specs.Derivation.{Production}
use Rattle.ll_engine.proofs.grammar.Grammar.push_right.Goals as goal

pub loop-i-preserved : goal.loop-i-preserved
loop-i-preserved c =
    let right = c.in-Some.right.now in
    let i = c.loop-i.i in
    let old = c.args.stack.now.items in
    let within : i < length (reverse right) = let len = length-reverse right in omega arith in
    c.in_ok-push.ensures.items
    ∙ ap (λ (xs : List Symbol). xs ++ get_or right (length right - 1 - i) (Token 0) ∷ []) c.loop-i.invariant
    ∙ append_assoc old (take i (reverse right)) (get_or right (length right - 1 - i) (Token 0) ∷ [])
    ∙ ap (λ (xs : List Symbol). old ++ xs)
    (ap (λ (x : Symbol). take i (reverse right) ++ x ∷ []) (sym (get_or-reverse right i (Token 0) (omega arith)))
    ∙ sym (take_more (reverse right) i (Token 0) within))

pub returns : goal.returns
returns c = λ production is.
    let right = c.in-Some.right.now in
    let old = c.args.stack.now.items in
    let found : Some right ≡ Some production.right =
    sym (ap (option_map (λ (r : Bor (List Symbol)). r.now)) c.in-Some.is) ∙ c.right_of.ensures
    ∙ ap (option_map (λ (p : Production). p.right)) is in
    let right_is : right ≡ production.right = cc in
    let whole = take_all c.loop-i.i (reverse right) (let len = length-reverse right in omega arith) in
    ap reverse (c.loop-i.invariant ∙ ap (λ (xs : List Symbol). old ++ xs) whole)
    ∙ reverse-append old (reverse right)
    ∙ ap (λ (xs : List Symbol). xs ++ reverse old) (reverse-reverse right ∙ right_is)
