use Rattle.scope_parts.proofs.SampleLemmas.{sample_rises}
use Rattle.scope_parts.proofs.fault_laws.sample_places_rise.Goals as goal

pub returns : goal.returns
returns c = sample_rises
