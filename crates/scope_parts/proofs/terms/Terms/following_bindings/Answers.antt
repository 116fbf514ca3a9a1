use Rattle.std.proofs.Common.{ℕ, suc, ◌+◌, ◌∷◌, [], map, drop, refl, ap, sym, ◌∙◌, subst}
use Rattle.std.proofs.lemmas.List.{map-append}
use Rattle.behaviour_tree.specs.BehaviourTerms.{let_profile}
use Rattle.behaviour_tree.specs.BehaviourView.{let_of}
use Rattle.behaviour_tree.specs.Over.{AreTermsOf}
use Rattle.behaviour_tree.proofs.ClosedLemmas.{terms_both}
use Rattle.lotos_base.specs.WrittenView.{written_term_of}
use Rattle.sort_terms.specs.ReaderView.{signature_read}
use Rattle.syntax_trees.specs.TreeViews.{lets_of, written_variable_of}
use Rattle.scope_parts.specs.FaultView.{FaultIs}
use Rattle.scope_parts.specs.Resolution.{resolved, faulty}
use Rattle.scope_parts.specs.Terms.{BindingIs, BindingsAre}
use Rattle.scope_parts.specs.VisibleView.{visible_in}
use Rattle.scope_parts.proofs.AnswerLemmas.{Leads, question_start, question_step, question_fault, question_end, err_is}
use Rattle.scope_parts.proofs.terms.Terms.following_bindings.Goals as goal

pub loop-text-init : goal.loop-text-init
loop-text-init c = record {
  leads =
      question_start
      (BindingsAre (signature_read c.args.self.now.reader) (visible_in c.args.visible.now) c.args.first
      (lets_of c.deref-text-items.result.now))
      (λ xs. BindingsAre (signature_read c.args.self.now.reader) (visible_in c.args.visible.now) c.args.first (lets_of xs))
      c.deref-text-items.result.now (map let_of c.in_ok-made.made.items) (ap (map let_of) c.in_ok-made.ensures.items)
      (λ o here. here);
  terms = subst (λ xs. AreTermsOf (signature_read c.args.self.now.reader) (map let_profile xs)) (sym c.in_ok-made.ensures.items) tt;
}

pub loop-text-preserved : goal.loop-text-preserved
loop-text-preserved c = record {
  leads =
      subst
      (λ (n : ℕ). Leads
      (BindingsAre (signature_read c.args.self.now.reader) (visible_in c.args.visible.now) c.args.first
      (lets_of c.deref-text-items.result.now))
      (λ xs. BindingsAre (signature_read c.args.self.now.reader) (visible_in c.args.visible.now) n (lets_of xs))
      (drop (c.loop-text.text-index + 1) c.deref-text-items.result.now) (map let_of c.push.new.self.items))
      (sym c.in_ok-number.ensures)
      (question_step
      (BindingsAre (signature_read c.args.self.now.reader) (visible_in c.args.visible.now) c.args.first
      (lets_of c.deref-text-items.result.now))
      (λ xs. BindingsAre (signature_read c.args.self.now.reader) (visible_in c.args.visible.now) c.loop-text.number (lets_of xs))
      (λ xs. BindingsAre (signature_read c.args.self.now.reader) (visible_in c.args.visible.now) (suc c.loop-text.number) (lets_of xs))
      (BindingIs (signature_read c.args.self.now.reader) (visible_in c.args.visible.now) c.loop-text.number
      (written_variable_of c.text-item.result.0, written_term_of c.text-item.result.1))
      (λ y. y) c.deref-text-items.result.now c.loop-text.text-index c.text-item.result (map let_of c.loop-text.made.items)
      (map let_of c.push.new.self.items) (let_of c.in_ok-binding.binding) (λ xs o then. then) c.loop-text-test.true c.text-item.is
      c.loop-text.invariant.leads c.in_ok-binding.ensures.read
      (ap (map let_of) c.in_ok-push.ensures.items ∙ map-append let_of c.loop-text.made.items (c.in_ok-binding.binding ∷ [])));
  terms =
      subst (AreTermsOf (signature_read c.args.self.now.reader))
      (sym (ap (map let_profile) c.in_ok-push.ensures.items
      ∙ map-append let_profile c.loop-text.made.items (c.in_ok-binding.binding ∷ [])))
      (terms_both (signature_read c.args.self.now.reader) (map let_profile c.loop-text.made.items)
      (let_profile c.in_ok-binding.binding ∷ [])
      c.loop-text.invariant.terms (c.in_ok-binding.ensures.profile, tt));
}

pub returns-in_err-binding-clause-read : goal.returns-in_err-binding-clause-read
returns-in_err-binding-clause-read c =
    err_is _ c.from_residual-in_err-binding.result c.in_err-binding.field-0.0 _ c.from_residual-in_err-binding.ensures.1
    (subst
    (λ xs. FaultIs c.in_err-binding.field-0.0
    (λ g. BindingsAre (signature_read c.args.self.now.reader) (visible_in c.args.visible.now) c.args.first (lets_of xs) (faulty g)))
    c.deref-text-items.ensures.value
    (question_fault
    (BindingsAre (signature_read c.args.self.now.reader) (visible_in c.args.visible.now) c.args.first
    (lets_of c.deref-text-items.result.now))
    (λ xs. BindingsAre (signature_read c.args.self.now.reader) (visible_in c.args.visible.now) c.loop-text.number (lets_of xs))
    (λ xs. BindingsAre (signature_read c.args.self.now.reader) (visible_in c.args.visible.now) (suc c.loop-text.number) (lets_of xs))
    (BindingIs (signature_read c.args.self.now.reader) (visible_in c.args.visible.now) c.loop-text.number
    (written_variable_of c.text-item.result.0, written_term_of c.text-item.result.1))
    (λ y. y) c.deref-text-items.result.now c.loop-text.text-index c.text-item.result (map let_of c.loop-text.made.items)
    c.in_err-binding.field-0.0 (λ xs o then. then) c.loop-text-test.true c.text-item.is c.loop-text.invariant.leads
    c.in_err-binding.ensures.read))

pub returns-clause-read : goal.returns-clause-read
returns-clause-read c =
    subst
    (λ xs. BindingsAre (signature_read c.args.self.now.reader) (visible_in c.args.visible.now) c.args.first (lets_of xs)
    (resolved (map let_of c.loop-text.made.items)))
    c.deref-text-items.ensures.value
    (question_end
    (BindingsAre (signature_read c.args.self.now.reader) (visible_in c.args.visible.now) c.args.first
    (lets_of c.deref-text-items.result.now))
    (λ xs. BindingsAre (signature_read c.args.self.now.reader) (visible_in c.args.visible.now) c.loop-text.number (lets_of xs))
    refl c.deref-text-items.result.now c.loop-text.text-index (map let_of c.loop-text.made.items) c.loop-text-test.false
    c.loop-text.invariant.leads)
