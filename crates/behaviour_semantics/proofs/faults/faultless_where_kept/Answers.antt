use Rattle.behaviour_semantics.proofs.FaultLemmas.{kept_without_fault, faultless_where_kept, sound_without_fault, sound_faultless}
use Rattle.behaviour_semantics.proofs.faults.faultless_where_kept.Goals as goal

pub returns : goal.returns
returns c = record {
  kept = kept_without_fault;
  faultless = faultless_where_kept;
  sound = sound_without_fault;
  sound_faultless =
      sound_faultless;
}
