use Rattle.std.proofs.Common.{◌≡◌, ◌∙◌, ◌-◌, take, drop, reverse, ap}
use Rattle.std.proofs.lemmas.Result.{IfOk-weaker, on_ok_weaker}
use Rattle.ll_engine.proofs.Stacks.{last_taken}
use Rattle.ll_engine.proofs.fold.take_values.Goals as goal

pub returns-clause-taken : goal.returns-clause-taken
returns-clause-taken g c =
    let old = c.args.values.now in
    let at = c.saturating_sub-at.ensures ∙ ap (λ n. n - c.args.count) (c.len.ensures ∙ old.ok.0) in
    IfOk-weaker c.split_off.result (λ parts. parts.items ≡ drop c.saturating_sub-at.result old.items)
    (λ parts. reverse parts.items ≡ take c.args.count (reverse old.items))
    (λ parts is. ap reverse (is ∙ ap (λ n. drop n old.items) at) ∙ (last_taken old.items c.args.count).0) c.split_off.ensures.tail

pub returns-clause-left : goal.returns-clause-left
returns-clause-left g c =
    let old = c.args.values.now in
    let at = c.saturating_sub-at.ensures ∙ ap (λ n. n - c.args.count) (c.len.ensures ∙ old.ok.0) in
    on_ok_weaker c.split_off.result (λ is. ap reverse (is ∙ ap (λ n. take n old.items) at)
    ∙ (last_taken old.items c.args.count).1) c.split_off.ensures.items
