use Rattle.std.proofs.Common.{map}
use Rattle.refusal_lines.specs.HandedOn.{gathered_of}
use Rattle.syntax_trees.specs.TreeViews.{item_of}
use Rattle.spec_acceptance.proofs.LibraryLemmas.{gathered_did, library_failed}
use Rattle.spec_acceptance.proofs.texts.types_of.Goals as goal

pub gather_types-requires : goal.gather_types-requires
gather_types-requires g c = c.new-so_far.ensures

pub returns-in-Ok : goal.returns-in-Ok
returns-in-Ok g c = gathered_did _ _ (map item_of c.args.items.items) (gathered_of c.gather_types.new.so_far) c.in-Ok.ensures

pub returns-in-Err : goal.returns-in-Err
returns-in-Err g c =
    library_failed _ _ (map item_of c.args.items.items) c.gather_types.new.so_far c.in-Err.fault c.library_refusal.result c.in-Err.ensures
    c.library_refusal.ensures
