-- Covers by induction on the size of irreducible ground terms, lemmas by induction on that of the split variable's value.
use Rattle.certificate_theory.proofs.LemmasHold.{covers_hold, lemmas_hold}
use Rattle.certificate_theory.proofs.induction_certificates.right_certificates_hold.Goals as goal

pub returns-clause-covers : goal.returns-clause-covers
returns-clause-covers c = covers_hold

pub returns-clause-lemmas : goal.returns-clause-lemmas
returns-clause-lemmas c = lemmas_hold
