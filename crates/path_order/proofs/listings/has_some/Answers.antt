use Rattle.std.proofs.Common.{◌≡◌, ◌≤◌, ◌<◌, length, get_or, sym, ◌∙◌, refl, arith, false}
use Rattle.lotos_base.proofs.Members.{read_at, numbers_more}
use Rattle.path_order.specs.Contains.{contains}
use Rattle.path_order.proofs.Numbers.{contains_in, member_at, none_common}
use Rattle.path_order.proofs.listings.has_some.Goals as goal

pub returns-then-has : goal.returns-then-has
returns-then-has c =
    let x = get_or c.args.found.now c.loop-op.op-index 0 in
    let within : c.loop-op.op-index < length c.args.found.now = omega arith in (
      (λ t. (
        x,
        contains_in x c.args.made.now.order.items (sym c.has.ensures ∙ c.if-has.true),
        (
          c.loop-op.op-index,
          member_at c.args.found.now c.loop-op.op-index x within (read_at c.args.found.now c.loop-op.op-index within),
        ),
      )),
      (λ h. refl),
    )

pub loop-op-preserved : goal.loop-op-preserved
loop-op-preserved c = λ k f.
    let x = get_or c.args.found.now c.loop-op.op-index 0 in
    let within : c.loop-op.op-index < length c.args.found.now = omega arith in
    numbers_more (λ g. contains g c.args.made.now.order.items ≡ false) c.args.found.now c.loop-op.op-index x
    (read_at c.args.found.now c.loop-op.op-index within) c.loop-op.invariant (sym c.has.ensures ∙ c.if-has.false) k f

pub returns : goal.returns
returns c =
    let end : length c.args.found.now ≤ c.loop-op.op-index = omega arith in (
      (λ t. cc),
      (λ h. absurd (none_common c.args.made.now.order.items c.args.found.now c.loop-op.op-index end c.loop-op.invariant h)),
    )
