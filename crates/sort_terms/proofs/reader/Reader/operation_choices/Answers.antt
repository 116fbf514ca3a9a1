use Rattle.std.proofs.Common.{ℕ, List, refl, sym, ap, ◌∙◌}
use Rattle.std.specs.Prelude.{None}
use Rattle.std.proofs.lemmas.List.{drop_all}
use Rattle.lotos_base.specs.Name.{spelling}
use Rattle.lotos_base.specs.WrittenView.{form_of}
use Rattle.lotos_base.specs.Names.{folded}
use Rattle.lotos_base.specs.Signature.{Operation}
use Rattle.sort_terms.specs.ChoicesView.{choice_at}
use Rattle.sort_terms.specs.Operations.{operation_of}
use Rattle.sort_terms.specs.Positions.{positions_of}
use Rattle.sort_terms.specs.ReaderView.{signature_read}
use Rattle.sort_terms.specs.Tables.{gathered, operation_offered}
use Rattle.sort_terms.specs.TableView.{tables_of}
use Rattle.sort_terms.specs.declared.operations.Op.{Op}
use Rattle.sort_terms.proofs.CountedLemmas.{number_below, mapped_names}
use Rattle.sort_terms.proofs.reader.Reader.operation_choices.Goals as goal

pub add_operation-requires : goal.add_operation-requires
add_operation-requires c =
    number_below c.args.self.now.signature.now.ops.items _ c.in_ok-number-items.number-items.now c.loop-number.number-index
    (c.in_ok-number-items.ensures ∙ c.args.self.now.operations_indexed _) c.loop-number-test.true

pub returns : goal.returns
returns c = λ s.
    sym (ap (λ (ns : List ℕ). gathered (operation_offered (signature_read c.args.self.now) (form_of c.args.form) c.args.asked
    (tables_of c.args.arguments.now.items)) s
    (choice_at c.loop-number.choices s) ns)
    (drop_all c.loop-number.number-index c.in_ok-number-items.number-items.now c.loop-number-test.false))
    ∙ c.loop-number.invariant s
    ∙ ap (λ (ns : List ℕ). gathered (operation_offered (signature_read c.args.self.now) (form_of c.args.form) c.args.asked
    (tables_of c.args.arguments.now.items)) s None ns)
    (c.in_ok-number-items.ensures ∙ c.args.self.now.operations_indexed _
    ∙ ap (λ (names : List (List ℕ)). positions_of (folded (spelling c.args.name.now)) names)
    (sym (mapped_names operation_of (λ (o : Operation). o.name) (λ (o : Op). spelling o.name) c.args.self.now.signature.now.ops.items
    (λ o. refl))))
