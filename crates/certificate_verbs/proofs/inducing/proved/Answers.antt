use Rattle.std.proofs.Common.{ℕ, List, None, subst}
use Rattle.command_words.specs.HandedOn.{ShelfState, GetsFile}
use Rattle.command_words.proofs.HandedOn.{file_did}
use Rattle.certificate_verbs.specs.Inducing.{ReportsThen, ProvesThen}
use Rattle.certificate_verbs.specs.Printed.{IsFaultPrinted, print_in}
use Rattle.certificate_verbs.specs.declared.printing.Alone.{Alone}
use Rattle.certificate_verbs.proofs.ComparingLemmas.{IsAnswered, answered, onwards, file_printed, file_came}
use Rattle.certificate_verbs.proofs.inducing.proved.Goals as goal

pub returns-in-Ok : goal.returns-in-Ok
returns-in-Ok g c = λ first h.
    let after : ShelfState =
    g.F.Shelf.state c.file.new.shelf in
    onwards (g.F.Shelf.state c.args.shelf.now)
    after after (GetsFile c.args.proofs.now) (λ (t : List ℕ). ReportsThen c.args.spec.now first t) c.in-Ok.text.items c.checked.result
    (file_did _ _ c.args.proofs.now c.in-Ok.text.items c.in-Ok.ensures)
    (subst (λ (t : List ℕ). IsAnswered (ReportsThen c.args.spec.now first t) after after c.checked.result) c.as_slice.ensures.value
    (c.checked.ensures first after h))

pub returns-in-Err : goal.returns-in-Err
returns-in-Err g c = λ first h.
    answered (ProvesThen c.args.spec.now first c.args.proofs.now)
    (g.F.Shelf.state c.args.shelf.now) (g.F.Shelf.state c.file.new.shelf)
    (λ (alone : Alone). IsFaultPrinted c.args.proofs.now None c.in-Err.fault (print_in alone)) c.failed_alone.result
    c.failed_alone.ensures
    (λ alone is. file_printed c.args.proofs.now (λ (t : List ℕ). ReportsThen c.args.spec.now first t) _ _ c.in-Err.fault alone
    c.in-Err.ensures is)
    (file_came c.args.proofs.now (λ (t : List ℕ). ReportsThen c.args.spec.now first t) _ _ c.in-Err.fault c.in-Err.ensures)
