use Rattle.std.proofs.Common.{sym, subst}
use Rattle.shared_entries.specs.Items.{AreItemTerms}
use Rattle.shared_entries.proofs.rules.alone.Goals as goal

pub returns-clause-terms : goal.returns-clause-terms
returns-clause-terms c = λ signature h. subst (AreItemTerms signature) (sym c.in_ok-made.ensures.terms) h
