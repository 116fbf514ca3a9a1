use Rattle.std.proofs.Common.{ℕ, List, Bor, Some, option_map}
use Rattle.certificate_verbs.specs.HandedOn.{IsAccepted, asked_acceptance, words_of, Has, Beginning, session}
use Rattle.certificate_verbs.specs.Printed.{print_in, IsFaultPrinted}
use Rattle.certificate_verbs.specs.Finishing.{serves}
use Rattle.certificate_verbs.specs.declared.printing.Alone.{Alone}
use Rattle.certificate_verbs.proofs.PrintedLemmas.{fault_ready, fault_came}
use Rattle.lotos_top.specs.Parts.{OpensSession}
use Rattle.lotos_top.specs.Prepared.{begun, CameTo, IsReady}
use Rattle.lotos_top.proofs.OpeningLemmas.{made_ready, session_came}
use Rattle.lotos_top.proofs.opening.served.Goals as goal

pub open-requires : goal.open-requires
open-requires g c = c.requires

pub returns-in-Ok : goal.returns-in-Ok
returns-in-Ok g c = (
  session_came (asked_acceptance c.args.spec.now (option_map (λ (word : Bor (List ℕ)). word.now) c.args.order) (words_of c.args.values.now))
      (g.F.Shelf.state c.args.shelf.now) (g.F.Shelf.state c.open.new.shelf)
      (begun c.in-Ok.opened) c.in-Ok.ensures.0,
  c.in-Ok.ensures.1,
)

pub returns-in-Err : goal.returns-in-Err
returns-in-Err g c =
    made_ready c.failed_alone.result c.ready_alone.result
    (λ (alone : Alone). IsFaultPrinted c.args.spec.now (option_map (λ (word : Bor (List ℕ)). word.now) c.args.order)
    c.in-Err.fault (print_in alone))
    (IsReady (Some (session (asked_acceptance c.args.spec.now (option_map (λ (word : Bor (List ℕ)). word.now) c.args.order)
    (words_of c.args.values.now))))
    (g.F.Shelf.state c.args.shelf.now) (g.F.Shelf.state c.open.new.shelf))
    (CameTo (Some (session (asked_acceptance c.args.spec.now (option_map (λ (word : Bor (List ℕ)). word.now) c.args.order)
    (words_of c.args.values.now))))
    (g.F.Shelf.state c.args.shelf.now) (g.F.Shelf.state c.open.new.shelf))
    c.ready_alone.ensures c.failed_alone.ensures
    (λ alone is. fault_ready c.args.spec.now (option_map (λ (word : Bor (List ℕ)). word.now) c.args.order)
    (OpensSession (IsAccepted (asked_acceptance c.args.spec.now (option_map (λ (word : Bor (List ℕ)). word.now) c.args.order)
    (words_of c.args.values.now))))
    (λ (it : Beginning). Has (serves it))
    (g.F.Shelf.state c.args.shelf.now) (g.F.Shelf.state c.open.new.shelf)
    c.in-Err.fault (print_in alone) c.in-Err.ensures is)
    (fault_came c.args.spec.now (option_map (λ (word : Bor (List ℕ)). word.now) c.args.order)
    (OpensSession (IsAccepted (asked_acceptance c.args.spec.now (option_map (λ (word : Bor (List ℕ)). word.now) c.args.order)
    (words_of c.args.values.now))))
    (λ (it : Beginning). Has (serves it))
    (g.F.Shelf.state c.args.shelf.now) (g.F.Shelf.state c.open.new.shelf)
    c.in-Err.fault c.in-Err.ensures)
