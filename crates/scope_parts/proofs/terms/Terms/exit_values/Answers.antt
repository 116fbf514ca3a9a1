use Rattle.std.proofs.Common.{◌∷◌, [], map, refl, ap, sym, ◌∙◌, subst}
use Rattle.std.proofs.lemmas.List.{map-append}
use Rattle.behaviour_tree.specs.BehaviourTerms.{exit_profiles, joined}
use Rattle.behaviour_tree.specs.BehaviourView.{exit_value_of}
use Rattle.behaviour_tree.specs.Over.{AreTermsOf}
use Rattle.sort_terms.specs.ReaderView.{signature_read}
use Rattle.syntax_trees.specs.TreeViews.{written_exit_value_of as written_value}
use Rattle.scope_parts.specs.FaultView.{FaultIs}
use Rattle.scope_parts.specs.Resolution.{resolved, faulty}
use Rattle.scope_parts.specs.Terms.{ExitValueIs, ExitValuesAre}
use Rattle.scope_parts.specs.VisibleView.{visible_in}
use Rattle.scope_parts.proofs.AnswerLemmas.{question_start, question_step, question_fault, question_end, err_is}
use Rattle.scope_parts.proofs.ProfileLemmas.{terms_more}
use Rattle.scope_parts.proofs.terms.Terms.exit_values.Goals as goal

pub loop-text-init : goal.loop-text-init
loop-text-init c = record {
  leads =
      question_start
      (ExitValuesAre (signature_read c.args.self.now.reader) (visible_in c.args.visible.now)
      (map written_value c.deref-text-items.result.now))
      (λ xs. ExitValuesAre (signature_read c.args.self.now.reader) (visible_in c.args.visible.now) (map written_value xs))
      c.deref-text-items.result.now (map exit_value_of c.in_ok-made.made.items) (ap (map exit_value_of) c.in_ok-made.ensures.items)
      (λ o here. here);
  terms =
      subst (λ xs. AreTermsOf (signature_read c.args.self.now.reader) (joined (map exit_profiles xs))) (sym c.in_ok-made.ensures.items) tt;
}

pub loop-text-preserved : goal.loop-text-preserved
loop-text-preserved c = record {
  leads =
      question_step
      (ExitValuesAre (signature_read c.args.self.now.reader) (visible_in c.args.visible.now)
      (map written_value c.deref-text-items.result.now))
      (λ xs. ExitValuesAre (signature_read c.args.self.now.reader) (visible_in c.args.visible.now) (map written_value xs))
      (λ xs. ExitValuesAre (signature_read c.args.self.now.reader) (visible_in c.args.visible.now) (map written_value xs))
      (ExitValueIs (signature_read c.args.self.now.reader) (visible_in c.args.visible.now) (written_value c.text-item.result))
      (λ y. y) c.deref-text-items.result.now c.loop-text.text-index c.text-item.result (map exit_value_of c.loop-text.made.items)
      (map exit_value_of c.push.new.self.items) (exit_value_of c.in_ok-value.value) (λ xs o then. then) c.loop-text-test.true c.text-item.is
      c.loop-text.invariant.leads c.in_ok-value.ensures.read
      (ap (map exit_value_of) c.in_ok-push.ensures.items ∙ map-append exit_value_of c.loop-text.made.items (c.in_ok-value.value ∷ []));
  terms =
      terms_more (signature_read c.args.self.now.reader) (map exit_profiles c.loop-text.made.items)
      (map exit_profiles c.push.new.self.items) (exit_profiles c.in_ok-value.value) c.loop-text.invariant.terms
      c.in_ok-value.ensures.profiles
      (ap (map exit_profiles) c.in_ok-push.ensures.items ∙ map-append exit_profiles c.loop-text.made.items (c.in_ok-value.value ∷ []));
}

pub returns-in_err-value-clause-read : goal.returns-in_err-value-clause-read
returns-in_err-value-clause-read c =
    err_is _ c.from_residual-in_err-value.result c.in_err-value.field-0.0 _ c.from_residual-in_err-value.ensures.1
    (subst
    (λ xs. FaultIs c.in_err-value.field-0.0
    (λ g. ExitValuesAre (signature_read c.args.self.now.reader) (visible_in c.args.visible.now) (map written_value xs) (faulty g)))
    c.deref-text-items.ensures.value
    (question_fault
    (ExitValuesAre (signature_read c.args.self.now.reader) (visible_in c.args.visible.now)
    (map written_value c.deref-text-items.result.now))
    (λ xs. ExitValuesAre (signature_read c.args.self.now.reader) (visible_in c.args.visible.now) (map written_value xs))
    (λ xs. ExitValuesAre (signature_read c.args.self.now.reader) (visible_in c.args.visible.now) (map written_value xs))
    (ExitValueIs (signature_read c.args.self.now.reader) (visible_in c.args.visible.now) (written_value c.text-item.result))
    (λ y. y) c.deref-text-items.result.now c.loop-text.text-index c.text-item.result (map exit_value_of c.loop-text.made.items)
    c.in_err-value.field-0.0 (λ xs o then. then) c.loop-text-test.true c.text-item.is c.loop-text.invariant.leads
    c.in_err-value.ensures.read))

pub returns-clause-read : goal.returns-clause-read
returns-clause-read c =
    subst
    (λ xs. ExitValuesAre (signature_read c.args.self.now.reader) (visible_in c.args.visible.now) (map written_value xs)
    (resolved (map exit_value_of c.loop-text.made.items)))
    c.deref-text-items.ensures.value
    (question_end
    (ExitValuesAre (signature_read c.args.self.now.reader) (visible_in c.args.visible.now)
    (map written_value c.deref-text-items.result.now))
    (λ xs. ExitValuesAre (signature_read c.args.self.now.reader) (visible_in c.args.visible.now) (map written_value xs))
    refl c.deref-text-items.result.now c.loop-text.text-index (map exit_value_of c.loop-text.made.items) c.loop-text-test.false
    c.loop-text.invariant.leads)
