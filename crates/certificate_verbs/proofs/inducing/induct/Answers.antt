use Rattle.std.proofs.Common.{[], None}
use Rattle.command_words.specs.HandedOn.{Acceptance, IsAccepted, asked_acceptance}
use Rattle.command_words.specs.Words.{induced as names_induced}
use Rattle.certificate_verbs.specs.Comparing.{AcceptsNamed}
use Rattle.certificate_verbs.specs.Inducing.{ProvesThen, ChecksInduction}
use Rattle.certificate_verbs.specs.Printed.{IsFaultPrinted, print_in}
use Rattle.certificate_verbs.specs.declared.printing.Alone.{Alone}
use Rattle.certificate_verbs.proofs.ComparingLemmas.{answered, onwards}
use Rattle.certificate_verbs.proofs.PrintedLemmas.{fault_ready, fault_came}
use Rattle.certificate_verbs.proofs.inducing.induct.Goals as goal

pub returns-in-Ok : goal.returns-in-Ok
returns-in-Ok g c =
    onwards
    (g.F.Shelf.state c.args.shelf.now) (g.F.Shelf.state c.read_with_requirements.new.shelf) (g.F.Shelf.state c.proved.new.shelf)
    (AcceptsNamed c.args.spec.now) (λ (x : Acceptance). ProvesThen c.args.spec.now x c.args.proofs.now) c.in-Ok.ensures.acceptance
    c.proved.result c.in-Ok.ensures.came (c.proved.ensures c.in-Ok.ensures.acceptance c.in-Ok.ensures.holds)

pub returns-in-Err : goal.returns-in-Err
returns-in-Err g c =
    answered (ChecksInduction (names_induced c.args.spec.now c.args.proofs.now))
    (g.F.Shelf.state c.args.shelf.now) (g.F.Shelf.state c.read_with_requirements.new.shelf)
    (λ (alone : Alone). IsFaultPrinted c.args.spec.now None c.in-Err.fault (print_in alone)) c.failed_alone.result
    c.failed_alone.ensures
    (λ alone is. fault_ready c.args.spec.now None (IsAccepted (asked_acceptance c.args.spec.now None []))
    (λ (x : Acceptance). ProvesThen c.args.spec.now x c.args.proofs.now) _ _ c.in-Err.fault (print_in alone) c.in-Err.ensures is)
    (fault_came c.args.spec.now None (IsAccepted (asked_acceptance c.args.spec.now None []))
    (λ (x : Acceptance). ProvesThen c.args.spec.now x c.args.proofs.now) _ _ c.in-Err.fault c.in-Err.ensures)
