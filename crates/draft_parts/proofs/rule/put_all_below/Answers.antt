use Rattle.std.proofs.Common.{◌<◌, length, arith, refl}
use Rattle.draft_parts.specs.DraftRules.{draft_within}
use Rattle.draft_parts.specs.VariantView.{variant_of}
use Rattle.draft_parts.proofs.PutLemmas.{put_more, put_done}
use Rattle.draft_parts.proofs.rule.put_all_below.Goals as goal

pub loop-i-preserved : goal.loop-i-preserved
loop-i-preserved c =
    let within : c.loop-i.i < length c.loop-i.drafts.items = omega (arith, c.loop-i.invariant.count) in
    put_more (draft_within (variant_of c.args.variant)) c.args.drafts.now.items c.loop-i.drafts.items _ c.loop-i.i
    c.index_mut.result.now c.put_below.new.draft within c.index_mut.ensures.value refl c.in_ok-put_below.ensures.same
    (λ signature h. c.in_ok-put_below.ensures.over signature h) c.loop-i.invariant

pub returns : goal.returns
returns c = λ signature h.
    put_done (draft_within (variant_of c.args.variant)) signature c.args.drafts.now.items c.loop-i.drafts.items c.loop-i.i
    (omega (arith, c.loop-i.invariant.count)) c.loop-i.invariant h
