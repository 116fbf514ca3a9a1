-- By recursion on the lines that were read.
use Rattle.certificate_theory.proofs.LineLemmas.{reach_then_deal, reach_then_fail}
use Rattle.certificate_theory.proofs.induction_certificates.lines_go_on.Goals as goal

pub returns-clause-proofs : goal.returns-clause-proofs
returns-clause-proofs c = λ theory covers proving before behind read rest reach deals. reach_then_deal rest reach deals

pub returns-clause-proof_faults : goal.returns-clause-proof_faults
returns-clause-proof_faults c = λ theory covers proving before behind read rest k fault reach fails.
    reach_then_fail rest k fault reach fails

pub returns-clause-trees : goal.returns-clause-trees
returns-clause-trees c = λ signature rules covers before behind read rest reach deals. reach_then_deal rest reach deals

pub returns-clause-tree_faults : goal.returns-clause-tree_faults
returns-clause-tree_faults c = λ signature rules covers before behind read rest k fault reach fails.
    reach_then_fail rest k fault reach fails
