use Rattle.lotos_base.specs.Name.{spelling}
use Rattle.type_presentations.proofs.NameLemmas.{one_more}
use Rattle.type_presentations.proofs.names.NamePositions.add.Goals as goal

pub returns : goal.returns
returns c = λ names has many key.
    one_more key (spelling c.args.name.now) names c.args.count _ _ (c.in_ok-add.ensures.added key) (has key) many
