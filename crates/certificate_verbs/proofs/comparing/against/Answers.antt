use Rattle.std.proofs.Common.{[], None}
use Rattle.command_words.specs.HandedOn.{Acceptance, IsAccepted, asked_acceptance}
use Rattle.certificate_verbs.specs.Comparing.{AcceptsNamed, AcceptsThen, ComparesThen}
use Rattle.certificate_verbs.specs.Printed.{IsFaultPrinted, print_in}
use Rattle.certificate_verbs.specs.declared.printing.Alone.{Alone}
use Rattle.certificate_verbs.proofs.ComparingLemmas.{answered, onwards}
use Rattle.certificate_verbs.proofs.PrintedLemmas.{fault_ready, fault_came}
use Rattle.certificate_verbs.proofs.comparing.against.Goals as goal

pub returns-in-Ok : goal.returns-in-Ok
returns-in-Ok g c = λ first h.
    onwards
    (g.F.Shelf.state c.args.shelf.now) (g.F.Shelf.state c.read_with_text.new.shelf) (g.F.Shelf.state c.both.new.shelf)
    (AcceptsNamed c.args.other.now) (λ (x : Acceptance). ComparesThen first x c.args.pairs.now) c.in-Ok.ensures.acceptance c.both.result
    c.in-Ok.ensures.came (c.both.ensures first c.in-Ok.ensures.acceptance h c.in-Ok.ensures.holds)

pub returns-in-Err : goal.returns-in-Err
returns-in-Err g c = λ first h.
    answered (AcceptsThen first c.args.other.now c.args.pairs.now)
    (g.F.Shelf.state c.args.shelf.now) (g.F.Shelf.state c.read_with_text.new.shelf)
    (λ (alone : Alone). IsFaultPrinted c.args.other.now None c.in-Err.fault (print_in alone)) c.failed_alone.result
    c.failed_alone.ensures
    (λ alone is. fault_ready c.args.other.now None (IsAccepted (asked_acceptance c.args.other.now None []))
    (λ (x : Acceptance). ComparesThen first x c.args.pairs.now) _ _ c.in-Err.fault (print_in alone) c.in-Err.ensures is)
    (fault_came c.args.other.now None (IsAccepted (asked_acceptance c.args.other.now None []))
    (λ (x : Acceptance). ComparesThen first x c.args.pairs.now) _ _ c.in-Err.fault c.in-Err.ensures)
