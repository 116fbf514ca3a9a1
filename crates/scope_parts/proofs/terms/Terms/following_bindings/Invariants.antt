use Rattle.std.proofs.Common.{drop, map}
use Rattle.behaviour_tree.specs.BehaviourTerms.{let_profile}
use Rattle.behaviour_tree.specs.BehaviourView.{let_of}
use Rattle.behaviour_tree.specs.Over.{AreTermsOf}
use Rattle.sort_terms.specs.ReaderView.{signature_read}
use Rattle.syntax_trees.specs.TreeViews.{lets_of}
use Rattle.scope_parts.specs.Terms.{BindingsAre}
use Rattle.scope_parts.specs.VisibleView.{visible_in}
use Rattle.scope_parts.proofs.AnswerLemmas.{Leads}
use Rattle.scope_parts.proofs.terms.Terms.following_bindings.Given as goal

abbrev pub invariant-loop-text : goal.invariant-loop-text
invariant-loop-text l = record {
  leads :
      Leads (BindingsAre (signature_read l.self.reader) (visible_in l.visible) l.first (lets_of l.text-items))
      (λ xs. BindingsAre (signature_read l.self.reader) (visible_in l.visible) l.number (lets_of xs)) (drop l.text-index l.text-items)
      (map let_of l.made.items);
  terms : AreTermsOf (signature_read l.self.reader) (map let_profile l.made.items);
}
