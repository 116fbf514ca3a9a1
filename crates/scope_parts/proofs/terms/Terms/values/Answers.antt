use Rattle.std.proofs.Common.{◌≤◌, ◌∷◌, [], length, ap, sym, ◌∙◌, subst, arith}
use Rattle.std.proofs.lemmas.List.{map-append}
use Rattle.behaviour_tree.specs.BehaviourTerms.{profiles_of}
use Rattle.behaviour_tree.specs.BehaviourView.{terms_of}
use Rattle.behaviour_tree.specs.Over.{AreTermsOf}
use Rattle.behaviour_tree.proofs.ClosedLemmas.{terms_both}
use Rattle.sort_terms.specs.ReaderView.{signature_read}
use Rattle.sort_terms.specs.SortedView.{profiled_in, term_in}
use Rattle.scope_parts.specs.VisibleView.{visible_in}
use Rattle.scope_parts.proofs.AnswerLemmas.{err_is}
use Rattle.scope_parts.proofs.ValueLemmas.{value_skipped, value_added, value_faulty, values_end}
use Rattle.scope_parts.proofs.terms.Terms.values.Goals as goal

pub loop-i-preserved-in_default : goal.loop-i-preserved-in_default
loop-i-preserved-in_default c = record {
  leads =
      value_skipped (signature_read c.args.self.now.reader) (visible_in c.args.visible.now) c.args.sorts.now.items c.args.texts.now.items
      c.loop-i.i c.index.result.now (terms_of c.loop-i.made.items)
      (omega (arith, c.loop-i-test.true, c.len-i-end.ensures, c.args.sorts.now.ok.0)) c.index.ensures c.requires.counted
      c.in_default.is c.loop-i.invariant.leads;
  terms = c.loop-i.invariant.terms;
}

pub loop-i-preserved : goal.loop-i-preserved
loop-i-preserved c = record {
  leads =
      value_added (signature_read c.args.self.now.reader) (visible_in c.args.visible.now) c.args.sorts.now.items c.args.texts.now.items
      c.loop-i.i c.index.result.now c.in-Some.sort c.index-in-loop-i.result.now (terms_of c.loop-i.made.items)
      (terms_of c.push.new.self.items) (term_in c.in_ok-value.value)
      (omega (arith, c.loop-i-test.true, c.len-i-end.ensures, c.args.sorts.now.ok.0)) c.index.ensures c.requires.counted
      c.in-Some.is c.index-in-loop-i.ensures c.loop-i.invariant.leads c.in_ok-value.ensures.read
      (ap terms_of c.in_ok-push.ensures.items ∙ map-append term_in c.loop-i.made.items (c.in_ok-value.value ∷ []));
  terms =
      subst (AreTermsOf (signature_read c.args.self.now.reader))
      (sym (ap profiles_of c.in_ok-push.ensures.items ∙ map-append profiled_in c.loop-i.made.items (c.in_ok-value.value ∷ [])))
      (terms_both (signature_read c.args.self.now.reader) (profiles_of c.loop-i.made.items) (profiled_in c.in_ok-value.value ∷ [])
      c.loop-i.invariant.terms (c.in_ok-value.ensures.profile, tt));
}

pub returns-in_err-value-clause-read : goal.returns-in_err-value-clause-read
returns-in_err-value-clause-read c =
    err_is _ c.from_residual-in_err-value.result c.in_err-value.field-0.0 _ c.from_residual-in_err-value.ensures.1
    (value_faulty (signature_read c.args.self.now.reader) (visible_in c.args.visible.now) c.args.sorts.now.items c.args.texts.now.items
    c.loop-i.i c.index.result.now c.in-Some.sort c.index-in-loop-i.result.now (terms_of c.loop-i.made.items) c.in_err-value.field-0.0
    (omega (arith, c.loop-i-test.true, c.len-i-end.ensures, c.args.sorts.now.ok.0)) c.index.ensures c.requires.counted
    c.in-Some.is c.index-in-loop-i.ensures c.loop-i.invariant.leads c.in_err-value.ensures.read)

pub returns-clause-read : goal.returns-clause-read
returns-clause-read c =
    let past : length c.args.sorts.now.items ≤ c.loop-i.i =
    omega (arith, c.loop-i-test.false, c.len-i-end.ensures, c.args.sorts.now.ok.0) in
    values_end (signature_read c.args.self.now.reader) (visible_in c.args.visible.now) c.args.sorts.now.items c.args.texts.now.items
    c.loop-i.i (terms_of c.loop-i.made.items) past c.loop-i.invariant.leads
