use Rattle.std.proofs.lemmas.Result.{IfOk-weaker}
use Rattle.lotos_base.specs.Name.{folded, spelling}
use Rattle.type_presentations.proofs.NameLemmas.{first_is}
use Rattle.type_presentations.proofs.names.NamePositions.first.Goals as goal

pub returns : goal.returns
returns c =
    IfOk-weaker c.first_number.result _ _
    (λ found is names has.
    first_is c.args.self.now (spelling c.args.name.now) found _ names is (has (folded (spelling c.args.name.now))))
    c.first_number.ensures
