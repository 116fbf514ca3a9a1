use Rattle.std.proofs.Common.{ap, ◌∙◌}
use Rattle.type_presentations.specs.Keys.{profile_key}
use Rattle.sort_terms.specs.Operations.{operation_of}
use Rattle.type_presentations.proofs.KeySetLemmas.{inserted}
use Rattle.type_renaming.proofs.SoughtLemmas.{profiles_next}
use Rattle.type_renaming.proofs.profile_index.ProfileIndex.of.Goals as goal

pub loop-op-preserved : goal.loop-op-preserved
loop-op-preserved c =
    profiles_next (λ op. operation_of op.value) c.loop-op.profiles.keys c.insert.new.self.keys c.in_ok-profile_key.field-0.items
    c.args.ops.now c.loop-op.op-index c.op-item.result _ c.loop-op-test.true c.op-item.is
    (c.in_ok-profile_key.ensures ∙ ap (λ o. profile_key (operation_of o)) c.deref.ensures)
    (inserted c.loop-op.profiles.keys c.insert.new.self.keys c.in_ok-profile_key.field-0 c.in_ok-insert.ensures.keys) c.loop-op.invariant
