-- What crates above this one need of the crates below it.
pub use Rattle.certificate_theory.specs.Certified.{lines_of_trees, lines_of_tree, lines_of_lemma, IsCertified, IsInductionFault, IsStated}
pub use Rattle.certificate_theory.specs.Covers.{Numbered, cover_of, in_signature_order, IsCoveredBy}
pub use Rattle.certificate_theory.specs.Faults.{InductionFault, bad_line, no_variable, no_cover, no_tree, not_reducible, bad_use, not_same}
pub use Rattle.certificate_theory.specs.InductionCertificate.{Cover, TreeLine, PatternTree, ProofLine, Lemma, Use, Certificate, Statement}
pub use Rattle.certificate_theory.specs.InductionCertificate.{split_pattern, split_variable, Side, Source, left_side, right_side, by_lemma}
pub use Rattle.certificate_theory.specs.InductionCertificate as induction_certificate
pub use Rattle.certificate_theory.specs.InductionCertificate.{by_hypothesis, leaf_here, use_it, same_sides}
pub use Rattle.certificate_theory.specs.InductionLaws.{FirstFaultsAreOne, RightOnesHaveNoFault, RequirementsAreMetOnce, MetIsNotOpen}
pub use Rattle.certificate_theory.specs.Requirements.{HoldsByInduction, IsMetBy, IsLeftOpen, stated}
pub use Rattle.certificate_theory.specs.Splits.{Theory}
pub use Rattle.rewriting_theory.specs.Rule.{AreSortedRulesOf}
