use Rattle.std.proofs.Common.{ℕ, List, refl, sym, ap, ◌∙◌}
use Rattle.std.proofs.lemmas.List.{drop_all}
use Rattle.lotos_base.specs.Name.{spelling}
use Rattle.lotos_base.specs.WrittenView.{form_of}
use Rattle.lotos_base.specs.Names.{folded}
use Rattle.lotos_base.specs.Signature.{Operation}
use Rattle.sort_terms.specs.Operations.{operation_of}
use Rattle.sort_terms.specs.Positions.{positions_of}
use Rattle.sort_terms.specs.ReaderView.{signature_read}
use Rattle.sort_terms.specs.Searching.{any_of_form}
use Rattle.sort_terms.specs.declared.operations.Op.{Op}
use Rattle.sort_terms.proofs.CountedLemmas.{number_below, mapped_names}
use Rattle.sort_terms.proofs.UnknownLemmas.{form_found, operation_known}
use Rattle.sort_terms.proofs.reader.Reader.is_operation.Goals as goal

pub has_form-requires : goal.has_form-requires
has_form-requires c =
    number_below c.args.self.now.signature.now.ops.items _ c.in_ok-number-items.number-items.now c.loop-number.number-index
    (c.in_ok-number-items.ensures ∙ c.args.self.now.operations_indexed _) c.loop-number-test.true

pub returns-then-has_form : goal.returns-then-has_form
returns-then-has_form c =
    sym (form_found (signature_read c.args.self.now) (form_of c.args.form) c.in_ok-number-items.number-items.now c.loop-number.number-index
    c.loop-number-test.true (sym c.has_form.ensures ∙ c.if-has_form.true) c.loop-number.invariant)
    ∙ ap (any_of_form (signature_read c.args.self.now) (form_of c.args.form))
    (c.in_ok-number-items.ensures ∙ c.args.self.now.operations_indexed _
    ∙ ap (λ (names : List (List ℕ)). positions_of (folded (spelling c.args.name.now)) names)
    (sym (mapped_names operation_of (λ (o : Operation). o.name) (λ (o : Op). spelling o.name) c.args.self.now.signature.now.ops.items
    (λ o. refl))))
    ∙ operation_known (signature_read c.args.self.now) (spelling c.args.name.now) (form_of c.args.form)

pub returns : goal.returns
returns c =
    sym (c.loop-number.invariant
    ∙ ap (any_of_form (signature_read c.args.self.now) (form_of c.args.form))
    (drop_all c.loop-number.number-index c.in_ok-number-items.number-items.now c.loop-number-test.false))
    ∙ ap (any_of_form (signature_read c.args.self.now) (form_of c.args.form))
    (c.in_ok-number-items.ensures ∙ c.args.self.now.operations_indexed _
    ∙ ap (λ (names : List (List ℕ)). positions_of (folded (spelling c.args.name.now)) names)
    (sym (mapped_names operation_of (λ (o : Operation). o.name) (λ (o : Op). spelling o.name) c.args.self.now.signature.now.ops.items
    (λ o. refl))))
    ∙ operation_known (signature_read c.args.self.now) (spelling c.args.name.now) (form_of c.args.form)
