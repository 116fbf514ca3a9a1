use Rattle.std.proofs.Common.{◌≡◌, ◌<◌, ◌+◌, ◌-◌, ℕ, List, [], ◌∷◌, length, drop, ap, ◌∙◌, subst, arith}
use Rattle.std.proofs.Math.Dec.{eqb}
use Rattle.behaviour_semantics.specs.Behaviour.{Relabelling}
use Rattle.behaviour_semantics.specs.Draft as plain
use Rattle.behaviour_semantics.specs.Shape.{called}
use Rattle.draft_parts.specs.Rows.{call_pairs, calls_copied}
use Rattle.behaviour_tree.specs.BehaviourView.{meet_of}
use Rattle.draft_parts.specs.Lists.{plain_drafts}
use Rattle.draft_parts.specs.HasDrafts.{all_relabelled, row_drafts}
use Rattle.std.proofs.lemmas.Result.{IfOk-weaker}
use Rattle.draft_parts.specs.RowDrafts.{IsThisSide, side_drafts}
use Rattle.draft_parts.proofs.RowDraftLemmas.{side_is}
use Rattle.draft_parts.proofs.MadeLemmas.{by_rule_of, one_copy, row_from}
use Rattle.draft_parts.proofs.gates.calls_beside.Goals as goal

pub loop-at-preserved : goal.loop-at-preserved
loop-at-preserved c = (
  omega arith,
  λ signature h.
      let gates = c.args.gates.now.items in
      let copy : ℕ → List plain.Draft = λ (a : ℕ). all_relabelled called
      (call_pairs c.args.call.now.formals.now.items c.args.call.now.actuals.now.items ((c.args.formal, a) ∷ []))
      (plain_drafts c.args.part.now.items) in
      let here = by_rule_of signature _ c.args.part.now.items c.in_ok-copies.copies.items c.in_ok-copy.copy.items
      c.in_ok-copies.ensures.same (c.in_ok-copy.ensures signature tt (c.in_ok-copies.ensures.over signature h)) in
      let used : plain_drafts c.in_ok-copy.copy.items ≡ all_relabelled called c.as_slice.result.now (plain_drafts c.args.part.now.items) =
      here.same in
      let back : c.loop-at.at ≡ (c.loop-at.at - 1) + 1 = omega arith in
      one_copy signature (meet_of c.args.meet.now) c.args.first copy gates (c.loop-at.at - 1)
      c.index.result.now c.index.result.now _ (plain_drafts c.in_ok-copy.copy.items) (side_drafts c.args.first c.loop-at.made)
      c.in_ok-made.made (let within : c.loop-at.at - 1 < length gates = omega (arith, c.loop-at.invariant.0) in within)
      c.index.ensures
      (ap (λ (n : ℕ). eqb ((c.loop-at.at - 1) + 1) n)
      (let count : c.len.result ≡ length c.args.gates.now.items = omega arith in count))
      (used ∙ ap (λ (ps : Relabelling). all_relabelled called ps (plain_drafts c.args.part.now.items))
      (c.as_slice.ensures.value ∙ c.in_ok-pairs.ensures))
      ((c.loop-at.invariant.1 signature h).same
      ∙ ap (λ (n : ℕ). row_from signature (meet_of c.args.meet.now) c.args.first copy (drop n gates)) back)
      (c.in_ok-made.ensures signature here.over (c.loop-at.invariant.1 signature h).over),
)

pub returns : goal.returns
returns c =
    let none : c.loop-at.at ≡ 0 = omega (arith, c.loop-at-test.false) in
    IfOk-weaker c.drafts.result _ _ (λ made e signature h.
    side_is signature c.args.first c.loop-at.made _ made.items
    (subst (λ (n : ℕ). IsThisSide signature c.args.first (row_drafts signature (meet_of c.args.meet.now) c.args.first
    (calls_copied c.args.formal (drop n c.args.gates.now.items) c.args.call.now.formals.now.items
    c.args.call.now.actuals.now.items (plain_drafts c.args.part.now.items))) c.loop-at.made) none (c.loop-at.invariant.1 signature h))
    (λ over. e signature over)) c.drafts.ensures
