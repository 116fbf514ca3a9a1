use Rattle.std.proofs.lemmas.Option.{slice_get-get_or}
use Rattle.lotos_base.proofs.Members.{at_map}
use Rattle.induct_check.proofs.parts.part_at.Goals as goal

pub returns : goal.returns
returns c =
    at_map (λ part. part.now) c.args.parts.now c.args.number _ (slice_get-get_or c.args.parts.now c.args.number _ c.requires)
