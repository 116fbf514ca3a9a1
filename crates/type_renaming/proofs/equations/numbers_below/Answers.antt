use Rattle.std.proofs.Common.{◌≡◌, ◌+◌, ℕ, List, length, ap, ◌∙◌, arith}
use Rattle.std.proofs.lemmas.List.{length_push}
use Rattle.type_renaming.proofs.KeptLemmas.{numbers_go}
use Rattle.type_renaming.proofs.equations.numbers_below.Goals as goal

pub loop-number-preserved : goal.loop-number-preserved
loop-number-preserved c =
    let long : length c.push.new.self.items ≡ length c.loop-number.made.items + 1 =
    ap (λ (ns : List ℕ). length ns) c.in_ok-push.ensures.items ∙ length_push c.loop-number.made.items c.loop-number.number in (
      omega (arith, long, c.loop-number.invariant.0),
      numbers_go c.loop-number.made.items c.push.new.self.items c.loop-number.number c.loop-number.invariant.0 c.loop-number.invariant.1
          c.in_ok-push.ensures.items,
    )
