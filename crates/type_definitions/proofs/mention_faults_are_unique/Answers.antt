use Rattle.type_definitions.proofs.MentionLemmas.{faults_unique}
use Rattle.type_definitions.proofs.mention_faults_are_unique.Goals as goal

pub returns : goal.returns
returns c = faults_unique
