use Rattle.std.proofs.Common.{ap}
use Rattle.lotos_base.specs.Name.{spelling}
use Rattle.type_definitions.specs.TypeView.{type_body_of}
use Rattle.type_presentations.specs.PresentedView.{presented_in}
use Rattle.type_flatten.proofs.OneTypeSteps.{library_presented}
use Rattle.type_flatten.proofs.one_type.presentation_of_type.Goals as goal

pub returns-in-Library : goal.returns-in-Library
returns-in-Library c =
    library_presented (presented_in c.args.types.now) (spelling c.args.type_name.now) (type_body_of c.args.body.now) c.new.result
    (ap type_body_of c.in-Library.is) c.new.ensures.nothing c.new.ensures.sound c.new.ensures.within
