use Rattle.certificate_theory.proofs.OneOutcome.{one_outcome}
use Rattle.certificate_theory.proofs.certificates.certificates_come_to_one_thing.Goals as goal

pub returns : goal.returns
returns c = one_outcome c.moves_are_determined.ensures c.at_most_one_menu_is_exact.ensures
