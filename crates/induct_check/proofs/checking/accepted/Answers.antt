use Rattle.std.proofs.Common.{refl, ap}
use Rattle.std.specs.Option.{option_map}
use Rattle.induct_check.specs.ReadingView.{stop_of}
use Rattle.induct_check.proofs.checking.accepted.Goals as goal

pub returns-in-Some-clause-stop : goal.returns-in-Some-clause-stop
returns-in-Some-clause-stop c = (stop_of c.in-Some.stop, ap (option_map stop_of) c.in-Some.is, refl, refl)
