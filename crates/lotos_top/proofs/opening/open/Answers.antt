use Rattle.std.proofs.Common.{ℕ, List, Bor, option_map}
use Rattle.certificate_verbs.specs.HandedOn.{asked_acceptance, words_of, IsAccepted, NoMemory}
use Rattle.certificate_verbs.proofs.HandedOn.{err_out}
use Rattle.lotos_top.specs.Prepared.{begun}
use Rattle.lotos_top.proofs.OpeningLemmas.{did_open, open_failed, want_to_open}
use Rattle.lotos_top.proofs.opening.open.Goals as goal

pub read-requires : goal.read-requires
read-requires g c = c.requires

pub begin-requires : goal.begin-requires
begin-requires g c = record { known = (c.in_ok-accepted.ensures.0, c.in_ok-accepted.ensures.2) }

pub returns-in_err-accepted : goal.returns-in_err-accepted
returns-in_err-accepted g c =
    err_out _ c.in_err-accepted.field-0.0 _ _ c.from_residual.ensures.1
    (open_failed (g.F.Shelf.state c.args.shelf.now) (g.F.Shelf.state c.read.new.shelf)
    (IsAccepted (asked_acceptance c.args.spec.now (option_map (λ (word : Bor (List ℕ)). word.now) c.args.order)
    (words_of c.args.values.now)))
    c.in_err-accepted.field-0.0
    c.in_err-accepted.ensures)

pub returns-in_err-begin : goal.returns-in_err-begin
returns-in_err-begin g c =
    err_out _ NoMemory _ _ c.from_residual-in_err-begin.ensures.1
    (want_to_open (g.F.Shelf.state c.args.shelf.now) (g.F.Shelf.state c.read.new.shelf)
    (IsAccepted (asked_acceptance c.args.spec.now (option_map (λ (word : Bor (List ℕ)). word.now) c.args.order)
    (words_of c.args.values.now)))
    c.in_ok-accepted.ensures.0
    c.in_ok-accepted.ensures.1)

pub returns : goal.returns
returns g c =
    let opened = c.in_ok-begin.ensures c.in_ok-accepted.ensures.0 c.in_ok-accepted.ensures.2 in (
      did_open (g.F.Shelf.state c.args.shelf.now) (g.F.Shelf.state c.read.new.shelf)
          (IsAccepted (asked_acceptance c.args.spec.now (option_map (λ (word : Bor (List ℕ)). word.now) c.args.order)
          (words_of c.args.values.now))) c.in_ok-accepted.ensures.0
          (begun c.in_ok-begin.field-0) c.in_ok-accepted.ensures.1 opened.0,
      opened.1,
    )
