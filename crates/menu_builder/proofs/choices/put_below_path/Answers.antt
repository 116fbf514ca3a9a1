use Rattle.std.proofs.Common.{◌<◌, length, arith, refl}
use Rattle.draft_parts.specs.DraftRules.{draft_within}
use Rattle.menu_builder.specs.SharedShapes.{below_all}
use Rattle.draft_parts.proofs.PutLemmas.{put_begun, put_more, put_done}
use Rattle.menu_builder.proofs.choices.put_below_path.Goals as goal

pub loop-i-init : goal.loop-i-init
loop-i-init c = record { put = put_begun (draft_within (below_all c.args.path.now)) c.args.drafts.now.items; shared = c.requires }

pub loop-i-preserved : goal.loop-i-preserved
loop-i-preserved c =
    let within : c.loop-i.i < length c.loop-i.drafts.items = omega (arith, c.loop-i.invariant.put.count) in
    record {
      put = put_more (draft_within (below_all c.args.path.now)) c.args.drafts.now.items c.loop-i.drafts.items _ c.loop-i.i
          c.index_mut.result.now c.put_draft_below.new.draft within c.index_mut.ensures.value refl
          c.in_ok-put_draft_below.ensures.same (λ signature h. c.in_ok-put_draft_below.ensures.over signature h)
          c.loop-i.invariant.put;
      shared = c.in_ok-put_draft_below.ensures.shared;
    }

pub returns-clause-made : goal.returns-clause-made
returns-clause-made c = λ signature h.
    put_done (draft_within (below_all c.args.path.now)) signature c.args.drafts.now.items c.loop-i.drafts.items c.loop-i.i
    (omega (arith, c.loop-i.invariant.put.count)) c.loop-i.invariant.put h
