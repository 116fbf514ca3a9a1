use Rattle.std.proofs.Common.{arith, ap}
use Rattle.sort_terms.specs.TermSize.{sizes_of}
use Rattle.sort_terms.proofs.SizeLemmas.{size_above, size_within}
use Rattle.term_match.specs.ProfiledInstance.{profiled_binding}
use Rattle.term_match.specs.SubstView.{profiled_pairs}
use Rattle.term_match.proofs.InstanceLemmas.{instances_more}
use Rattle.term_match.proofs.instances.+instance.Goals as goal

pub instances-loop-term-preserved : goal.instances-loop-term-preserved
instances-loop-term-preserved t c =
    instances_more (profiled_binding (profiled_pairs c.args.pairs.now)) c.deref-term-items.result.now c.loop-term.made.items
    c.push.new.self.items c.loop-term.term-index c.term-item.result c.in_ok-instance.field-0
    c.loop-term-test.true c.term-item.is c.in_ok-push.ensures.items c.loop-term.invariant c.in_ok-instance.ensures

-- the arguments are smaller than the term, and the members than the list
pub instance-instances-requires : goal.instance-instances-requires
instance-instances-requires t c =
    let size = size_above c.args.term.now c.in-Node.op c.in-Node.profile c.in-Node.arguments c.items.result.now.items c.in-Node.is
    c.items.ensures in
    (omega (arith, c.decreases, size), tt)

pub instances-instance-requires : goal.instances-instance-requires
instances-instance-requires t c =
    let size = size_within c.deref-term-items.result.now c.loop-term.term-index c.term-item.result c.loop-term-test.true c.term-item.is in
    let same = ap sizes_of c.deref-term-items.ensures.value in
    (omega (arith, c.decreases, size, same), tt)
