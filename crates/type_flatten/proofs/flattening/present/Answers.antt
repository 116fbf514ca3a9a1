use Rattle.std.proofs.Common.{List, ℕ}
use Rattle.std.proofs.lemmas.Result.{err_from_is_err_and}
use Rattle.syntax_trees.specs.WrittenItem.{WrittenTypeBody}
use Rattle.type_definitions.specs.TypeView.{declared_type_of}
use Rattle.type_definitions.specs.Union.{Mentioned}
use Rattle.type_definitions.specs.declared.type_faults.TypeFault.TheVariants.{NoMemory}
use Rattle.type_presentations.specs.PresentationView.{presentation_of}
use Rattle.type_presentations.specs.PresentedView.{presented_in}
use Rattle.type_flatten.specs.FlatView.{IsFirstTypeFault}
use Rattle.type_flatten.proofs.flattening.present.Goals as goal

wanting : (done : List Mentioned) (name : List ℕ) (body : WrittenTypeBody) → IsFirstTypeFault done name body NoMemory
wanting done name body = record { found = tt }

pub add-requires-clause-presentation : goal.add-requires-clause-presentation
add-requires-clause-presentation c = (c.in_ok-presentation.ensures.sound, c.in_ok-presentation.ensures.within)

pub returns-in_err-presentation : goal.returns-in_err-presentation
returns-in_err-presentation c =
    let p = err_from_is_err_and c.from_residual.result c.from_residual.ensures.1 in
    rw (p.1, p.2) c.in_err-presentation.ensures

pub returns-in_err-add : goal.returns-in_err-add
returns-in_err-add c =
    let p = err_from_is_err_and c.from_residual-in_err-add.result c.from_residual-in_err-add.ensures.1 in
    rw (p.1, p.2)
    (wanting (presented_in c.args.types.now) (declared_type_of c.args.text.now).name (declared_type_of c.args.text.now).body)

pub returns : goal.returns
returns c = record {
  presentation = presentation_of c.in_ok-presentation.presentation;
  presented = c.in_ok-presentation.ensures.presented;
  grown = c.in_ok-add.ensures.presented;
  sound = c.in_ok-add.ensures.sound;
}
