use Rattle.std.proofs.Common.{◌∙◌, sym, subst}
use Rattle.behaviour_semantics.specs.Behaviour.{sorts_of}
use Rattle.behaviour_tree.specs.BehaviourView.{variables_of}
use Rattle.shared_entries.specs.Items.{AreItemTerms, plain_item}
use Rattle.shared_entries.proofs.EndLemmas.{goes_on, is_ended, not_ended}
use Rattle.shared_entries.proofs.rules.enabled.Goals as goal

pub returns-then-not-have_sorts-clause-same : goal.returns-then-not-have_sorts-clause-same
returns-then-not-have_sorts-clause-same c = λ signature h.
    not_ended signature (sorts_of (variables_of c.args.variables.now.items)) c.args.item.now c.in-Exit.values
    (sym c.deref.ensures ∙ c.in-Exit.is) c.if-not-have_sorts.ensures h

pub returns-in-Exit-clause-same : goal.returns-in-Exit-clause-same
returns-in-Exit-clause-same c = λ signature h.
    is_ended signature (sorts_of (variables_of c.args.variables.now.items)) c.args.item.now c.in-Exit.values
    (plain_item c.in_ok-made.made) (sym c.deref.ensures ∙ c.in-Exit.is) c.if-not-have_sorts.ensures c.in_ok-made.ensures.same h

pub returns-clause-same : goal.returns-clause-same
returns-clause-same c = λ signature h.
    goes_on signature (sorts_of (variables_of c.args.variables.now.items)) c.args.item.now (plain_item c.in_ok-made-2.made)
    (λ values e. c.in_default.not-Exit values (c.deref.ensures ∙ e)) c.in_ok-made-2.ensures.same

pub returns-clause-terms : goal.returns-clause-terms
returns-clause-terms c = λ signature h. subst (AreItemTerms signature) (sym c.in_ok-made-2.ensures.terms) h
