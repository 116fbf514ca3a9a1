use Rattle.std.proofs.Common.{◌≡◌, ◌+◌, ℕ, List, subst, refl, arith}
use Rattle.std.specs.Prelude.{slice_index}
use Rattle.draft_parts.specs.Lists.{plain_drafts}
use Rattle.draft_parts.specs.HasDrafts.{gate_drafts}
use Rattle.draft_parts.specs.Made.{AreThese}
use Rattle.draft_parts.proofs.MadeLemmas.{by_rule_of, one_gate, gates_done}
use Rattle.draft_parts.proofs.gates.at_gates.Goals as goal

pub loop-gate-preserved : goal.loop-gate-preserved
loop-gate-preserved c = λ signature h.
    let next : c.in-Some.later ≡ c.loop-gate.position + 1 = omega (arith, c.in-Some.ensures) in
    one_gate signature c.args.formal c.loop-gate.position c.in-Some.later c.deref-gate-items.result.now c.loop-gate.gate-index
    (slice_index c.deref-gate-items.result.now c.loop-gate.gate-index) 0
    (plain_drafts c.args.part.now.items)
    (gate_drafts c.args.formal 0 c.deref-gate-items.result.now (plain_drafts c.args.part.now.items)) _ c.loop-gate.made.items
    c.in_ok-next.next.items c.in_ok-made.made.items c.loop-gate-test.true refl next c.in_ok-made.ensures (λ rest. refl)
    (by_rule_of signature _ c.args.part.now.items c.in_ok-copies.copies.items c.in_ok-next.next.items c.in_ok-copies.ensures.same
    (c.in_ok-next.ensures signature tt (c.in_ok-copies.ensures.over signature h)))
    (c.loop-gate.invariant signature h)

pub returns : goal.returns
returns c = λ signature h.
    subst (λ (gs : List ℕ). AreThese signature (gate_drafts c.args.formal 0 gs (plain_drafts c.args.part.now.items))
    c.loop-gate.made.items) c.deref-gate-items.ensures.value
    (gates_done signature c.args.formal c.loop-gate.position c.deref-gate-items.result.now c.loop-gate.gate-index
    (plain_drafts c.args.part.now.items)
    (gate_drafts c.args.formal 0 c.deref-gate-items.result.now (plain_drafts c.args.part.now.items)) c.loop-gate.made.items
    c.loop-gate-test.false (c.loop-gate.invariant signature h))
