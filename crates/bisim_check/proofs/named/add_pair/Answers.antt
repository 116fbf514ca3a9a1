use Rattle.std.proofs.Common.{◌≡◌, None, slice_get}
use Rattle.certificate_theory.specs.Certificate.{CertificateFault, lists_pair, no_state}
use Rattle.certificate_theory.specs.NamedStates.{LineFails}
use Rattle.bisim_check.specs.Faults.{TellsPairs}
use Rattle.bisim_check.specs.Readings.{comparison_of, reading_of, IsOpenFault}
use Rattle.bisim_check.specs.Surveys.{behaviours_in}
use Rattle.lotos_base.proofs.Options.{gave_up}
use Rattle.bisim_check.proofs.SurveyLemmas.{told}
use Rattle.bisim_check.proofs.ReadingLemmas.{lacks_left, lacks_right, opens_left, opens_right, pair_read}
use Rattle.bisim_check.proofs.named.add_pair.Goals as goal

pub returns-in_err-one : goal.returns-in_err-one
returns-in_err-one c = λ data_ canon one other b d kept.
    let old = c.args.reading.now in
    gave_up _ (TellsPairs (LineFails (comparison_of data_ canon one other b d) (reading_of old) c.args.line
    (lists_pair c.args.left c.args.right))) c.from_residual.result c.in_err-one.field-0.0 c.from_residual.ensures.1
    (told (λ (f : CertificateFault). (f ≡ no_state c.args.line) × (slice_get (behaviours_in old.lefts.items) c.args.left ≡ None))
    (LineFails (comparison_of data_ canon one other b d) (reading_of old) c.args.line (lists_pair c.args.left c.args.right))
    c.in_err-one.field-0.0 (lacks_left data_ canon one other b d old kept c.args.left c.args.right c.args.line) c.in_err-one.ensures)

pub returns-in_err-other : goal.returns-in_err-other
returns-in_err-other c = λ data_ canon one other b d kept.
    let old = c.args.reading.now in
    gave_up _ (TellsPairs (LineFails (comparison_of data_ canon one other b d) (reading_of old) c.args.line
    (lists_pair c.args.left c.args.right))) c.from_residual-in_err-other.result c.in_err-other.field-0.0
    c.from_residual-in_err-other.ensures.1
    (told (λ (f : CertificateFault). (f ≡ no_state c.args.line) × (slice_get (behaviours_in old.rights.items) c.args.right ≡ None))
    (LineFails (comparison_of data_ canon one other b d) (reading_of old) c.args.line (lists_pair c.args.left c.args.right))
    c.in_err-other.field-0.0 (lacks_right data_ canon one other b d old kept c.args.left c.args.right c.args.line)
    c.in_err-other.ensures)

pub returns-in_err-closed_menu : goal.returns-in_err-closed_menu
returns-in_err-closed_menu c = λ data_ canon one other b d kept.
    let old = c.args.reading.now in
    gave_up _ (TellsPairs (LineFails (comparison_of data_ canon one other b d) (reading_of old) c.args.line
    (lists_pair c.args.left c.args.right))) c.from_residual-in_err-closed_menu.result c.in_err-closed_menu.field-0.0
    c.from_residual-in_err-closed_menu.ensures.1
    (told (IsOpenFault c.in_ok-one.one.now.menu c.args.line)
    (LineFails (comparison_of data_ canon one other b d) (reading_of old) c.args.line (lists_pair c.args.left c.args.right))
    c.in_err-closed_menu.field-0.0
    (opens_left data_ canon one other b d old kept c.args.left c.args.right c.args.line c.in_ok-one.one.now c.in_ok-other.other.now
    c.in_ok-one.ensures c.in_ok-other.ensures) c.in_err-closed_menu.ensures)

pub returns-in_err-closed_menu-2 : goal.returns-in_err-closed_menu-2
returns-in_err-closed_menu-2 c = λ data_ canon one other b d kept.
    let old = c.args.reading.now in
    gave_up _ (TellsPairs (LineFails (comparison_of data_ canon one other b d) (reading_of old) c.args.line
    (lists_pair c.args.left c.args.right))) c.from_residual-in_err-closed_menu-2.result c.in_err-closed_menu-2.field-0.0
    c.from_residual-in_err-closed_menu-2.ensures.1
    (told (IsOpenFault c.in_ok-other.other.now.menu c.args.line)
    (LineFails (comparison_of data_ canon one other b d) (reading_of old) c.args.line (lists_pair c.args.left c.args.right))
    c.in_err-closed_menu-2.field-0.0
    (opens_right data_ canon one other b d old kept c.args.left c.args.right c.args.line c.in_ok-one.one.now c.in_ok-other.other.now
    c.in_ok-one.ensures c.in_ok-other.ensures) c.in_err-closed_menu-2.ensures)

pub returns : goal.returns
returns c = λ data_ canon one other b d kept.
    pair_read data_ canon one other b d c.args.reading.now kept c.push_pair.new.pairs c.args.line c.args.left c.args.right
    c.in_ok-one.one.now c.in_ok-other.other.now c.in_ok-one.ensures c.in_ok-other.ensures c.in_ok-closed_menu.ensures
    c.in_ok-closed_menu-2.ensures c.in_ok-push_pair.ensures
