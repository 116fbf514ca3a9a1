use Rattle.std.proofs.Common.{sym, subst}
use Rattle.shared_entries.specs.Items.{AreItemTerms}
use Rattle.shared_entries.proofs.rules.PartRule.apply.Goals as goal

pub returns-in_ok-copied-in-Same-clause-terms : goal.returns-in_ok-copied-in-Same-clause-terms
returns-in_ok-copied-in-Same-clause-terms c = λ signature h. subst (AreItemTerms signature) (sym c.in_ok-copied-in-Same.ensures.terms) h

pub returns-in_ok-below_variant-in-Below-clause-terms : goal.returns-in_ok-below_variant-in-Below-clause-terms
returns-in_ok-below_variant-in-Below-clause-terms c = λ signature h.
    subst (AreItemTerms signature) (sym c.in_ok-below_variant-in-Below.ensures.terms) h

pub returns-in_ok-under_hide-in-Hidden-clause-terms : goal.returns-in_ok-under_hide-in-Hidden-clause-terms
returns-in_ok-under_hide-in-Hidden-clause-terms c = λ signature h. c.in_ok-under_hide-in-Hidden.ensures.terms signature h

pub returns-in_ok-under_pairs-in-Relabelled-clause-terms : goal.returns-in_ok-under_pairs-in-Relabelled-clause-terms
returns-in_ok-under_pairs-in-Relabelled-clause-terms c = λ signature h. c.in_ok-under_pairs-in-Relabelled.ensures.terms signature h

pub returns-in_ok-under_pairs-in-Under-clause-terms : goal.returns-in_ok-under_pairs-in-Under-clause-terms
returns-in_ok-under_pairs-in-Under-clause-terms c = λ signature h. c.in_ok-under_pairs-in-Under.ensures.terms signature h
