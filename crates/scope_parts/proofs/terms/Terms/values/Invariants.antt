use Rattle.std.proofs.Common.{drop}
use Rattle.std.specs.Prelude.{List}
use Rattle.behaviour_tree.specs.BehaviourTerms.{profiles_of}
use Rattle.behaviour_tree.specs.BehaviourView.{terms_of}
use Rattle.behaviour_tree.specs.Over.{AreTermsOf}
use Rattle.lotos_base.specs.WrittenView.{written_terms_of}
use Rattle.sort_terms.specs.ReaderView.{signature_read}
use Rattle.lotos_base.specs.Term.{Term}
use Rattle.scope_parts.specs.Resolution.{Resolution}
use Rattle.scope_parts.specs.Terms.{ValuesAre}
use Rattle.scope_parts.specs.VisibleView.{visible_in}
use Rattle.scope_parts.proofs.AnswerLemmas.{prefixed}
use Rattle.scope_parts.proofs.terms.Terms.values.Given as goal

abbrev pub invariant-loop-i : goal.invariant-loop-i
invariant-loop-i l = record {
  leads : (o : Resolution (List Term))
      → ValuesAre (signature_read l.self.reader) (visible_in l.visible) (drop l.i l.sorts.items)
      (written_terms_of (drop l.i l.texts.items)) o
      → ValuesAre (signature_read l.self.reader) (visible_in l.visible) l.sorts.items (written_terms_of l.texts.items)
      (prefixed (terms_of l.made.items) o);
  terms : AreTermsOf (signature_read l.self.reader) (profiles_of l.made.items);
}
