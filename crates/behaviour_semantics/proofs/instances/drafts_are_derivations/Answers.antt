use Rattle.behaviour_semantics.proofs.DraftLemmas.{leaves_law, sound_law, complete_law}
use Rattle.behaviour_semantics.proofs.instances.drafts_are_derivations.Goals as goal

pub returns : goal.returns
returns c = record { leaves = leaves_law; sound = sound_law; complete = complete_law }
