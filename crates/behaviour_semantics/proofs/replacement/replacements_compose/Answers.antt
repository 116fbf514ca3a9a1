use Rattle.behaviour_semantics.proofs.ReplacementLemmas.{twice, unchanged}
use Rattle.behaviour_semantics.proofs.replacement.replacements_compose.Goals as goal

pub returns : goal.returns
returns c = record { identity = unchanged; twice = twice }
