use Rattle.std.proofs.Common.{◌≡◌, drop}
use Rattle.lotos_base.specs.WrittenView.{form_of}
use Rattle.sort_terms.specs.ReaderView.{signature_read}
use Rattle.sort_terms.specs.Searching.{any_of_form}
use Rattle.sort_terms.proofs.reader.Reader.is_operation.Given as goal

abbrev pub invariant-loop-number : goal.invariant-loop-number
invariant-loop-number l =
    any_of_form (signature_read l.self) (form_of l.form) l.number-items
    ≡ any_of_form (signature_read l.self) (form_of l.form) (drop l.number-index l.number-items)
