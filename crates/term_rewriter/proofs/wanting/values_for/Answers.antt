use Rattle.std.proofs.Common.{◌+◌, ℕ, List, get_or, drop, ap, ◌∙◌}
use Rattle.std.proofs.lemmas.List.{drop_more, take_rest}
use Rattle.term_rewriter.specs.Taken.{owned_pairs}
use Rattle.term_rewriter.specs.Wanted.{is_wanted_in}
use Rattle.term_rewriter.proofs.WantedLemmas.{one_supplied}
use Rattle.term_rewriter.proofs.wanting.values_for.Goals as goal

pub loop-i-preserved : goal.loop-i-preserved
loop-i-preserved c =
    one_supplied c.args.wanted.now (owned_pairs c.args.values.items) (drop c.loop-i.i c.args.wanted.now)
    (drop (c.loop-i.i + 1) c.args.wanted.now) _ _ c.is_wanted-again.result c.loop-i.made.items c.push.new.self.items
    (owned_pairs c.loop-i.values.items) (owned_pairs c.value_for.new.values.items) c.in_ok-value_for.field-0
    (drop_more c.args.wanted.now c.loop-i.i (0, 0) c.loop-i-test.true)
    (c.is_wanted-again.ensures
    ∙ ap (λ (vs : List (ℕ × ℕ)). is_wanted_in vs (get_or c.args.wanted.now c.loop-i.i (0, 0)).0)
    (take_rest c.args.wanted.now (c.loop-i.i + 1)))
    c.in_ok-push.ensures.items
    c.loop-i.invariant c.in_ok-value_for.ensures
