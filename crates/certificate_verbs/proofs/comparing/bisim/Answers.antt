use Rattle.std.proofs.Common.{[], None}
use Rattle.command_words.specs.HandedOn.{Acceptance, IsAccepted, asked_acceptance}
use Rattle.command_words.specs.Words.{compared_files as names_compared}
use Rattle.certificate_verbs.specs.Comparing.{AcceptsNamed, AcceptsThen, ChecksCertificate}
use Rattle.certificate_verbs.specs.Printed.{IsFaultPrinted, print_in}
use Rattle.certificate_verbs.specs.declared.printing.Alone.{Alone}
use Rattle.certificate_verbs.proofs.ComparingLemmas.{answered, onwards}
use Rattle.certificate_verbs.proofs.PrintedLemmas.{fault_ready, fault_came}
use Rattle.certificate_verbs.proofs.comparing.bisim.Goals as goal

pub returns-in-Ok : goal.returns-in-Ok
returns-in-Ok g c =
    onwards
    (g.F.Shelf.state c.args.shelf.now) (g.F.Shelf.state c.read_with_text.new.shelf) (g.F.Shelf.state c.against.new.shelf)
    (AcceptsNamed c.args.spec.now) (λ (x : Acceptance). AcceptsThen x c.args.other.now c.args.pairs.now) c.in-Ok.ensures.acceptance
    c.against.result c.in-Ok.ensures.came (c.against.ensures c.in-Ok.ensures.acceptance c.in-Ok.ensures.holds)

pub returns-in-Err : goal.returns-in-Err
returns-in-Err g c =
    answered (ChecksCertificate (names_compared c.args.spec.now c.args.other.now c.args.pairs.now))
    (g.F.Shelf.state c.args.shelf.now) (g.F.Shelf.state c.read_with_text.new.shelf)
    (λ (alone : Alone). IsFaultPrinted c.args.spec.now None c.in-Err.fault (print_in alone)) c.failed_alone.result
    c.failed_alone.ensures
    (λ alone is. fault_ready c.args.spec.now None (IsAccepted (asked_acceptance c.args.spec.now None []))
    (λ (x : Acceptance). AcceptsThen x c.args.other.now c.args.pairs.now) _ _ c.in-Err.fault (print_in alone) c.in-Err.ensures is)
    (fault_came c.args.spec.now None (IsAccepted (asked_acceptance c.args.spec.now None []))
    (λ (x : Acceptance). AcceptsThen x c.args.other.now c.args.pairs.now) _ _ c.in-Err.fault c.in-Err.ensures)
