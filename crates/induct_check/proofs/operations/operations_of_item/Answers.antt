use Rattle.std.proofs.Common.{ap}
use Rattle.std.proofs.lemmas.Result.{IfOk-weaker}
use Rattle.std.specs.Option.{option_map}
use Rattle.lotos_base.specs.WrittenView.{listed_operation_of, placed_name_of}
use Rattle.induct_check.specs.KnownView.{known_signature}
use Rattle.induct_check.proofs.ItemLemmas.{gives_listed}
use Rattle.induct_check.proofs.operations.operations_of_item.Goals as goal

pub returns : goal.returns
returns c =
    IfOk-weaker c.listed_by.result _ _
    (λ fs h. gives_listed (known_signature c.args.known.now) (listed_operation_of c.args.item.now) fs.items
    (ap (option_map placed_name_of) c.in_default.is) h)
    c.listed_by.ensures
