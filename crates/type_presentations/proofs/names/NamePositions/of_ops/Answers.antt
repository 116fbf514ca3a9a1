use Rattle.std.proofs.Common.{◌≡◌, ℕ, List, length, map, ap, subst, arith}
use Rattle.lotos_base.specs.Name.{spelling}
use Rattle.lotos_base.specs.Signature.{Operation}
use Rattle.sort_terms.specs.Operations.{operation_of}
use Rattle.std.specs.declared.rc.Rc.{Rc}
use Rattle.std.specs.declared.alloc.Global.{Global}
use Rattle.lotos_base.proofs.Pieces.{take_whole}
use Rattle.sort_terms.specs.declared.operations.Op.{Op}
use Rattle.type_presentations.specs.NamesView.{HasNames}
use Rattle.type_presentations.proofs.NameLemmas.{more_names, as_many_names}
use Rattle.type_presentations.proofs.names.NamePositions.of_ops.Goals as goal

abbrev shared : Rc Op Global → Operation
shared op = operation_of op.value

abbrev name_of : Operation → List ℕ
name_of s = s.name

pub loop-number-preserved : goal.loop-number-preserved
loop-number-preserved c =
    subst (λ (ns : List (List ℕ)). HasNames c.add.new.self ns)
    (more_names shared name_of c.args.ops.now c.loop-number.number c.index-ops-number.result
    _ c.loop-number-test.true c.index-ops-number.is (ap (λ (op : Op). spelling op.name) c.deref.ensures))
    (c.in_ok-add.ensures _ c.loop-number.invariant
    (as_many_names shared name_of c.args.ops.now c.loop-number.number (omega (arith, c.loop-number-test.true))))

pub returns : goal.returns
returns c =
    let all : c.loop-number.number ≡ length c.args.ops.now = omega arith in
    subst (λ (ss : List (Rc Op Global)). HasNames c.loop-number.names (map name_of (map shared ss)))
    (take_whole c.args.ops.now c.loop-number.number all) c.loop-number.invariant
