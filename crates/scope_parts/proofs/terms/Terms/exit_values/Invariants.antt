use Rattle.std.proofs.Common.{drop, map}
use Rattle.behaviour_tree.specs.BehaviourTerms.{exit_profiles, joined}
use Rattle.behaviour_tree.specs.BehaviourView.{exit_value_of}
use Rattle.behaviour_tree.specs.Over.{AreTermsOf}
use Rattle.sort_terms.specs.ReaderView.{signature_read}
use Rattle.syntax_trees.specs.TreeViews.{written_exit_value_of as written_value}
use Rattle.scope_parts.specs.Terms.{ExitValuesAre}
use Rattle.scope_parts.specs.VisibleView.{visible_in}
use Rattle.scope_parts.proofs.AnswerLemmas.{Leads}
use Rattle.scope_parts.proofs.terms.Terms.exit_values.Given as goal

abbrev pub invariant-loop-text : goal.invariant-loop-text
invariant-loop-text l = record {
  leads :
      Leads (ExitValuesAre (signature_read l.self.reader) (visible_in l.visible) (map written_value l.text-items))
      (λ xs. ExitValuesAre (signature_read l.self.reader) (visible_in l.visible) (map written_value xs)) (drop l.text-index l.text-items)
      (map exit_value_of l.made.items);
  terms : AreTermsOf (signature_read l.self.reader) (joined (map exit_profiles l.made.items));
}
