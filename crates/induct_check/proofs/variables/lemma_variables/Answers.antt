use Rattle.std.proofs.Common.{ap, sym, subst}
use Rattle.std.proofs.lemmas.Result.{IfOk-weaker}
use Rattle.std.specs.Option.{option_map}
use Rattle.syntax_trees.specs.TreeViews.{written_variables_of}
use Rattle.induct_parts.proofs.Outcomes.{match_none_at, match_some_at}
use Rattle.induct_check.specs.CertificateReading.{AreVariablesIn}
use Rattle.induct_check.specs.KnownView.{known_signature}
use Rattle.induct_check.proofs.OutcomeLemmas.{match_more}
use Rattle.induct_check.proofs.WrittenLemmas.{not_written, not_numbered, are_numbered}
use Rattle.induct_check.proofs.variables.lemma_variables.Goals as goal

pub returns-in_default-2 : goal.returns-in_default-2
returns-in_default-2 c = λ vs are.
    not_written (known_signature c.args.known.now) _ c.in-Some.text.now vs (ap (option_map (λ t. t.now)) c.in-Some.is)
    (match_none_at _ _ c.in_ok-written.field-0 c.in_default-2.is c.in_ok-written.ensures) are

pub returns : goal.returns
returns c =
    let signature = known_signature c.args.known.now in
    let written : AreVariablesIn c.in-Some.text.now (written_variables_of c.as_slice.result.now) =
    subst (λ xs. AreVariablesIn c.in-Some.text.now (written_variables_of xs)) (sym c.as_slice.ensures.value)
    (match_some_at _ _ c.in_ok-written.field-0 c.in-Some-2.written c.in-Some-2.is c.in_ok-written.ensures) in
    IfOk-weaker c.numbered.result _ _
    (λ found h. match_more _ _ _ _ found
    (λ none vs are. not_numbered signature _ c.in-Some.text.now (written_variables_of c.as_slice.result.now) vs
    (ap (option_map (λ t. t.now)) c.in-Some.is) written none are)
    (λ vs both. are_numbered signature _ c.in-Some.text.now (written_variables_of c.as_slice.result.now) _
    (ap (option_map (λ t. t.now)) c.in-Some.is) written both.0 both.1)
    h)
    c.numbered.ensures
