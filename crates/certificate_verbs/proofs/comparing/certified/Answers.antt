use Rattle.std.proofs.Common.{ℕ, List, None, subst}
use Rattle.command_words.specs.HandedOn.{ShelfState, GetsFile}
use Rattle.command_words.proofs.HandedOn.{file_did}
use Rattle.certificate_verbs.specs.Comparing.{ReadsThen, GetsThen}
use Rattle.certificate_verbs.specs.Printed.{IsFaultPrinted, print_in}
use Rattle.certificate_verbs.specs.declared.printing.Alone.{Alone}
use Rattle.certificate_verbs.proofs.ComparingLemmas.{IsAnswered, answered, onwards, file_printed, file_came}
use Rattle.certificate_verbs.proofs.comparing.certified.Goals as goal

pub returns-in-Ok : goal.returns-in-Ok
returns-in-Ok g c = λ first other h k.
    let after : ShelfState =
    g.F.Shelf.state c.file.new.shelf in
    onwards (g.F.Shelf.state c.args.shelf.now)
    after after (GetsFile c.args.pairs.now) (λ (t : List ℕ). ReadsThen first other t) c.in-Ok.text.items c.with_certificate.result
    (file_did _ _ c.args.pairs.now c.in-Ok.text.items c.in-Ok.ensures)
    (subst (λ (t : List ℕ). IsAnswered (ReadsThen first other t) after after c.with_certificate.result) c.as_slice.ensures.value
    (c.with_certificate.ensures first other after h k))

pub returns-in-Err : goal.returns-in-Err
returns-in-Err g c = λ first other h k.
    answered (GetsThen first other c.args.pairs.now)
    (g.F.Shelf.state c.args.shelf.now) (g.F.Shelf.state c.file.new.shelf)
    (λ (alone : Alone). IsFaultPrinted c.args.pairs.now None c.in-Err.fault (print_in alone)) c.failed_alone.result
    c.failed_alone.ensures
    (λ alone is. file_printed c.args.pairs.now (λ (t : List ℕ). ReadsThen first other t) _ _ c.in-Err.fault alone c.in-Err.ensures is)
    (file_came c.args.pairs.now (λ (t : List ℕ). ReadsThen first other t) _ _ c.in-Err.fault c.in-Err.ensures)
