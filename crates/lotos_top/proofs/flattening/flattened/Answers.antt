use Rattle.std.proofs.Common.{◌≡◌, ℕ, List, Bor, Some, option_map}
use Rattle.flat_text.specs.FlatText.{flat_text}
use Rattle.sort_terms.specs.EquationView.{data_of}
use Rattle.certificate_verbs.specs.HandedOn.{Founded, IsFounded, specification_of, Has, goes_on, flattening}
use Rattle.certificate_verbs.specs.Finishing.{prints}
use Rattle.certificate_verbs.specs.Printed.{print_in, IsFaultPrinted}
use Rattle.certificate_verbs.specs.declared.ended.Ended.TheVariants.{Done}
use Rattle.certificate_verbs.specs.declared.printing.Alone.{Alone}
use Rattle.certificate_verbs.proofs.PrintedLemmas.{fault_ready, fault_came}
use Rattle.lotos_top.specs.Flattening.{flat_printed}
use Rattle.lotos_top.specs.Prepared.{CameTo, IsReady}
use Rattle.lotos_top.proofs.FlatteningLemmas.{flattened_ready, flattened_came}
use Rattle.lotos_top.proofs.OpeningLemmas.{made_ready}
use Rattle.lotos_top.proofs.flattening.flattened.Goals as goal

pub returns-in-Ok : goal.returns-in-Ok
returns-in-Ok g c =
    made_ready c.flat_alone.result c.ready_alone.result
    (λ (alone : Alone). (alone.text.items ≡ flat_text (data_of c.in-Ok.known.book.flat) (specification_of c.in-Ok.known.spec))
    × (alone.ended ≡ Done))
    (IsReady (Some (flattening c.args.spec.now (option_map (λ (word : Bor (List ℕ)). word.now) c.args.order)))
    (g.F.Shelf.state c.args.shelf.now) (g.F.Shelf.state c.founded_under.new.shelf))
    (CameTo (Some (flattening c.args.spec.now (option_map (λ (word : Bor (List ℕ)). word.now) c.args.order)))
    (g.F.Shelf.state c.args.shelf.now) (g.F.Shelf.state c.founded_under.new.shelf))
    c.ready_alone.ensures c.flat_alone.ensures
    (λ alone is. flattened_ready c.args.spec.now (option_map (λ (word : Bor (List ℕ)). word.now) c.args.order)
    (g.F.Shelf.state c.args.shelf.now) (g.F.Shelf.state c.founded_under.new.shelf)
    c.in-Ok.known alone c.in-Ok.ensures is.0 is.1) (
      goes_on (prints (flat_printed c.in-Ok.ensures.founded)),
      flattened_came c.args.spec.now (option_map (λ (word : Bor (List ℕ)). word.now) c.args.order)
          (g.F.Shelf.state c.args.shelf.now) (g.F.Shelf.state c.founded_under.new.shelf)
          c.in-Ok.ensures.founded c.in-Ok.ensures.came,
    )

pub returns-in-Err : goal.returns-in-Err
returns-in-Err g c =
    made_ready c.failed_alone.result c.ready_alone-in-Err.result
    (λ (alone : Alone). IsFaultPrinted c.args.spec.now (option_map (λ (word : Bor (List ℕ)). word.now) c.args.order)
    c.in-Err.fault (print_in alone))
    (IsReady (Some (flattening c.args.spec.now (option_map (λ (word : Bor (List ℕ)). word.now) c.args.order)))
    (g.F.Shelf.state c.args.shelf.now) (g.F.Shelf.state c.founded_under.new.shelf))
    (CameTo (Some (flattening c.args.spec.now (option_map (λ (word : Bor (List ℕ)). word.now) c.args.order)))
    (g.F.Shelf.state c.args.shelf.now) (g.F.Shelf.state c.founded_under.new.shelf))
    c.ready_alone-in-Err.ensures c.failed_alone.ensures
    (λ alone is. fault_ready c.args.spec.now (option_map (λ (word : Bor (List ℕ)). word.now) c.args.order)
    (IsFounded c.args.spec.now (option_map (λ (word : Bor (List ℕ)). word.now) c.args.order))
    (λ (it : Founded). Has (prints (flat_printed it)))
    (g.F.Shelf.state c.args.shelf.now) (g.F.Shelf.state c.founded_under.new.shelf)
    c.in-Err.fault (print_in alone) c.in-Err.ensures is)
    (fault_came c.args.spec.now (option_map (λ (word : Bor (List ℕ)). word.now) c.args.order)
    (IsFounded c.args.spec.now (option_map (λ (word : Bor (List ℕ)). word.now) c.args.order))
    (λ (it : Founded). Has (prints (flat_printed it)))
    (g.F.Shelf.state c.args.shelf.now) (g.F.Shelf.state c.founded_under.new.shelf)
    c.in-Err.fault c.in-Err.ensures)
