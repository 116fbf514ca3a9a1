use Rattle.std.proofs.Common.{[], None, refl}
use Rattle.lotos_base.specs.MemShelf.{shelf_state}
use Rattle.certificate_verbs.specs.HandedOn.{AcceptsText, NoMemory}
use Rattle.certificate_verbs.proofs.HandedOn.{err_out}
use Rattle.lotos_top.specs.Prepared.{begun}
use Rattle.lotos_top.specs.Parts.{OpensSession}
use Rattle.lotos_top.proofs.OpeningLemmas.{no_files, did_open, open_failed, alone_on, alone_failed}
use Rattle.lotos_top.proofs.opening.open_text.Goals as goal

pub of_text-requires : goal.of_text-requires
of_text-requires c = refl

pub begin-requires : goal.begin-requires
begin-requires c = record { known = (c.in_ok-accepted.ensures.0, c.in_ok-accepted.ensures.2) }

pub returns-in_err-accepted : goal.returns-in_err-accepted
returns-in_err-accepted c =
    err_out _ c.in_err-accepted.field-0.0 _ _ c.from_residual.ensures.1
    (alone_failed (shelf_state c.new-no_files.result) (shelf_state c.of_text.new.shelf)
    (OpensSession (AcceptsText c.args.text.now None [])) c.in_err-accepted.field-0.0
    (no_files c.new-no_files.result c.new.result.items c.new-no_files.ensures.texts c.new.ensures.items)
    (open_failed (shelf_state c.new-no_files.result) (shelf_state c.of_text.new.shelf)
    (AcceptsText c.args.text.now None []) c.in_err-accepted.field-0.0 c.in_err-accepted.ensures))

pub returns-in_err-begin : goal.returns-in_err-begin
returns-in_err-begin c = err_out _ NoMemory _ _ c.from_residual-in_err-begin.ensures.1 tt

pub returns : goal.returns
returns c =
    let opened = c.in_ok-begin.ensures c.in_ok-accepted.ensures.0 c.in_ok-accepted.ensures.2 in (
      alone_on (shelf_state c.new-no_files.result) (shelf_state c.of_text.new.shelf)
          (OpensSession (AcceptsText c.args.text.now None [])) (begun c.in_ok-begin.field-0)
          (no_files c.new-no_files.result c.new.result.items c.new-no_files.ensures.texts c.new.ensures.items)
          (did_open (shelf_state c.new-no_files.result) (shelf_state c.of_text.new.shelf)
          (AcceptsText c.args.text.now None []) c.in_ok-accepted.ensures.0
          (begun c.in_ok-begin.field-0) c.in_ok-accepted.ensures.1 opened.0),
      opened.1,
    )
