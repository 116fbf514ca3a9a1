use Rattle.std.proofs.Common.{◌≡◌, ℕ, drop}
use Rattle.std.specs.Prelude.{None}
use Rattle.lotos_base.specs.WrittenView.{form_of}
use Rattle.sort_terms.specs.ChoicesView.{choice_at}
use Rattle.sort_terms.specs.ReaderView.{signature_read}
use Rattle.sort_terms.specs.Tables.{gathered, operation_offered}
use Rattle.sort_terms.specs.TableView.{tables_of}
use Rattle.sort_terms.proofs.reader.Reader.operation_choices.Given as goal

abbrev pub invariant-loop-number : goal.invariant-loop-number
invariant-loop-number l = (s : ℕ)
    → gathered (operation_offered (signature_read l.self) (form_of l.form) l.asked (tables_of l.arguments.items)) s (choice_at l.choices s)
    (drop l.number-index l.number-items)
    ≡ gathered (operation_offered (signature_read l.self) (form_of l.form) l.asked (tables_of l.arguments.items)) s None l.number-items
