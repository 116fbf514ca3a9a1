use Rattle.std.proofs.Common.{sym, ◌∙◌, ap, subst}
use Rattle.lotos_base.specs.Name.{spelling}
use Rattle.sort_terms.specs.ReaderView.{signature_read}
use Rattle.lotos_base.specs.Signature.{Signature}
use Rattle.scope_parts.specs.Sorts.{sort_named, true_of}
use Rattle.scope_parts.specs.TermsView.{IsTruthOf}
use Rattle.scope_parts.proofs.SortLemmas.{sort_answer}
use Rattle.scope_parts.proofs.terms.Terms.of.Goals as goal

pub invariant_of-result : goal.invariant_of-result
invariant_of-result c = record {
  told =
      c.in_ok-truth.ensures.told
      ∙ ap (λ (signature : Signature). true_of signature c.in_ok-sort.sort) (sym c.in_ok-reader.ensures)
      ∙ ap (true_of (signature_read c.in_ok-reader.reader))
      (sort_answer (signature_read c.in_ok-reader.reader) (spelling c.of-name.result) c.in_ok-sort.sort c.in_ok-sort.ensures
      ∙ ap (sort_named (signature_read c.in_ok-reader.reader)) (c.of-name.ensures ∙ c.in_ok-from_slice.ensures.items));
  known = λ x same.
      subst (λ (signature : Signature). IsTruthOf signature x) (sym c.in_ok-reader.ensures) (c.in_ok-truth.ensures.known x same);
}
