use Rattle.std.proofs.Common.{◌<◌, length, arith}
use Rattle.scope_parts.specs.BindingsView.{bindings_in}
use Rattle.scope_parts.proofs.BindingLemmas.{cut_more, cut_none}
use Rattle.scope_parts.proofs.bindings.Bindings.cut_to.Goals as goal

pub loop-self-init : goal.loop-self-init
loop-self-init c = record { enough = c.requires; within = omega arith; left = cut_none (bindings_in c.args.self.now) }

pub loop-self-preserved : goal.loop-self-preserved
loop-self-preserved c =
    let some : 0 < length (bindings_in c.loop-self.self) = omega (arith, c.loop-self-test.true, c.size.ensures) in
    let more =
    cut_more (bindings_in c.args.self.now) (bindings_in c.loop-self.self) (bindings_in c.unbind.new.self) c.loop-self.invariant.left
    c.loop-self.invariant.within some c.unbind.ensures in
    record {
      enough = omega (arith, more.0, c.loop-self-test.true, c.size.ensures);
      within = omega (arith, more.0, c.loop-self.invariant.within);
      left = more.1;
    }

pub loop-self-smaller : goal.loop-self-smaller
loop-self-smaller c =
    let some : 0 < length (bindings_in c.loop-self.self) = omega (arith, c.loop-self-test.true, c.size.ensures) in
    let more =
    cut_more (bindings_in c.args.self.now) (bindings_in c.loop-self.self) (bindings_in c.unbind.new.self) c.loop-self.invariant.left
    c.loop-self.invariant.within some c.unbind.ensures in
    let smaller : length (bindings_in c.unbind.new.self) < length (bindings_in c.loop-self.self) = omega (arith, more.0) in
    smaller
