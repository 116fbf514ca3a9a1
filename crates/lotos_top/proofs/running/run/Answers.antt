use Rattle.lotos_top.proofs.BisimilarityLemmas.{yes_means}
use Rattle.lotos_top.proofs.CauseLemmas.{causes}
use Rattle.lotos_top.proofs.HeadlineLemmas.{headline}
use Rattle.lotos_top.proofs.InductionLemmas.{yes_means_inductive}
use Rattle.lotos_top.proofs.SettledLemmas.{settled}
use Rattle.lotos_top.proofs.running.run.Goals as goal

pub returns-clause-causes : goal.returns-clause-causes
returns-clause-causes g c = causes _ _ _ _ _ _ c.run_over.ensures

pub returns-clause-settled : goal.returns-clause-settled
returns-clause-settled g c =
    settled (record {
      once = c.certificates_come_to_one_thing.ensures;
      one_fault = c.first_faults_are_one.ensures.one;
      no_fault = c.first_faults_are_one.ensures.none;
      met_once = c.met_requirements_hold.ensures.one;
      not_open = c.met_requirements_hold.ensures.not_open;
    }) _ _ _ _ _ _ c.run_over.ensures

pub returns-clause-headline : goal.returns-clause-headline
returns-clause-headline g c =
    headline c.served_lines_are_answered.ensures c.lines_lead_on.ensures _ _ _ _ _ _ c.run_over.ensures

pub returns-clause-bisimilar : goal.returns-clause-bisimilar
returns-clause-bisimilar g c =
    yes_means c.accepted_certificates_show_bisimilarity.ensures c.accepted_starts_do_the_same.ensures _ _ _ _ _ _ c.run_over.ensures

pub returns-clause-inductive : goal.returns-clause-inductive
returns-clause-inductive g c = yes_means_inductive _ _ _ _ _ _ c.run_over.ensures
