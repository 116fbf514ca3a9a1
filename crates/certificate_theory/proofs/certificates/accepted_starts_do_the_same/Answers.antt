use Rattle.certificate_theory.proofs.SameDoings.{do_the_same}
use Rattle.certificate_theory.proofs.certificates.accepted_starts_do_the_same.Goals as goal

pub returns : goal.returns
returns c = do_the_same c.accepted_certificates_show_bisimilarity.ensures
