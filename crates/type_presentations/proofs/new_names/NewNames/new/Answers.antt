use Rattle.std.proofs.Common.{refl}
use Rattle.type_presentations.proofs.new_names.NewNames.new.Goals as goal

pub returns-clause-names : goal.returns-clause-names
returns-clause-names c = λ base. record { all = c.new.ensures; others = c.new-2.ensures; count = refl }
