use Rattle.std.proofs.Common.{map, ap, sym, ◌∙◌, subst}
use Rattle.std.proofs.lemmas.Result.{IfOk-weaker}
use Rattle.lotos_base.specs.WrittenView.{listed_operation_of}
use Rattle.induct_check.specs.CertificateReading.{ItemsList}
use Rattle.induct_check.specs.KnownView.{known_signature}
use Rattle.induct_check.proofs.OutcomeLemmas.{match_more}
use Rattle.induct_check.proofs.operations.operations_of.Goals as goal

pub returns-in-Ok : goal.returns-in-Ok
returns-in-Ok c =
    let signature = known_signature c.args.known.now in
    IfOk-weaker c.operations_of_items.result _ _
    (λ found h. match_more _ _ _ _ found
    (λ none fs are. none fs (subst (λ items. ItemsList signature items fs)
    (c.texts_have_one_outcome.ensures.order.one_tree 0 c.args.text.now are.0 (map listed_operation_of c.in-Ok.items.items) are.1
    c.in-Ok.ensures ∙ sym (ap (map listed_operation_of) c.as_slice.ensures.value)) are.2))
    (λ fs lists. (
      map listed_operation_of c.in-Ok.items.items,
      c.in-Ok.ensures,
      subst (λ items. ItemsList signature (map listed_operation_of items) fs.items) c.as_slice.ensures.value lists,
    ))
    h)
    c.operations_of_items.ensures
