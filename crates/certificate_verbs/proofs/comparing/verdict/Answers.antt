use Rattle.std.proofs.Common.{map}
use Rattle.lotos_base.proofs.SortLemmas.{well_formed_sorted}
use Rattle.sort_terms.specs.EquationView.{data_of}
use Rattle.bisim_check.specs.LineView.{line_of}
use Rattle.certificate_verbs.proofs.ComparingLemmas.{ranks_over, judged_yes, judged_no}
use Rattle.certificate_verbs.proofs.comparing.verdict.Goals as goal

pub check_pairs-requires-clause-right_ranked : goal.check_pairs-requires-clause-right_ranked
check_pairs-requires-clause-right_ranked c =
    ranks_over (data_of c.args.one.now.accepted.book.flat).signature c.requires.second_held.0 c.args.second.now c.args.begun.now
    c.requires.second_held.1 c.requires.second_held.2

pub check_pairs-requires-clause-sides : goal.check_pairs-requires-clause-sides
check_pairs-requires-clause-sides c =
    (well_formed_sorted (data_of c.args.one.now.accepted.book.flat) c.requires.held.1.holds.well_formed).sides

pub returns-in-Ok : goal.returns-in-Ok
returns-in-Ok c = λ first other now h k over.
    judged_yes first other c.args.one.now c.args.begun.now h over now (map line_of c.args.lines.now) c.bisimilar_alone.result
    c.in-Ok.number c.in-Ok.ensures.comes_to c.bisimilar_alone.ensures

pub returns-in-Err : goal.returns-in-Err
returns-in-Err c = λ first other now h k over.
    judged_no first other c.args.one.now c.args.begun.now h over now (map line_of c.args.lines.now) c.fault_alone.result
    c.in-Err.fault c.in-Err.ensures.comes_to c.fault_alone.ensures
