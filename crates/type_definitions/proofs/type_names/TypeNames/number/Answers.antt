use Rattle.std.proofs.Common.{ℕ, List, ap, ◌∙◌}
use Rattle.std.specs.Prelude.{slice_get}
use Rattle.std.proofs.lemmas.Result.{IfOk-weaker}
use Rattle.lotos_base.specs.Name.{spelling}
use Rattle.lotos_base.specs.Names.{folded}
use Rattle.type_definitions.proofs.NameLemmas.{number_is}
use Rattle.type_definitions.proofs.type_names.TypeNames.number.Goals as goal

pub returns : goal.returns
returns c =
    IfOk-weaker c.first_number.result _ _
    (λ found is.
    number_is (spelling c.args.name.now) c.args.self.now.types.items found
    (is ∙ ap (λ (ns : List ℕ). slice_get ns 0) (c.args.self.now.indexed (folded (spelling c.args.name.now)))))
    c.first_number.ensures
