use Rattle.tree_building.specs.Derived.{IsDerived, IsUnderived, start_part_of}
use Rattle.tree_building.specs.Reading.{IsFaultAs}
use Rattle.tree_building.proofs.Underived.{of_fault, underived}
use Rattle.tree_building.proofs.derivations.derive.Goals as goal

pub returns-clause-fault : goal.returns-clause-fault
returns-clause-fault c =
    of_fault c.derivation.result (IsDerived (start_part_of c.args.kind) c.args.number c.args.text.now)
    (IsUnderived (start_part_of c.args.kind) c.args.number c.args.text.now) (IsFaultAs c.args.kind c.args.number c.args.text.now)
    (λ fault is. underived c.args.kind c.args.number c.args.text.now fault is) c.derivation.ensures
