use Rattle.scope_parts.proofs.BehavioursOnce.{behaviour_once, specification_once}
use Rattle.scope_parts.proofs.laws.texts_are_one_thing.Goals as goal

pub returns-clause-behaviours : goal.returns-clause-behaviours
returns-clause-behaviours c = behaviour_once

pub returns-clause-texts : goal.returns-clause-texts
returns-clause-texts c = specification_once
