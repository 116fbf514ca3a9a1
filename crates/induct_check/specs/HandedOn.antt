-- What crates above this one need of the crates below it.
pub use Rattle.induct_parts.specs.HandedOn.{Certificate, Lemma, Statement, InductionFault, bad_line, no_variable, no_cover, no_tree}
pub use Rattle.induct_parts.specs.HandedOn.{not_reducible, bad_use, not_same, HoldsByInduction, IsMetBy, IsLeftOpen, stated}
pub use Rattle.induct_parts.specs.HandedOn.{RequirementsAreMetOnce, MetIsNotOpen, FirstFaultsAreOne, RightOnesHaveNoFault, IsCoveredBy}
pub use Rattle.induct_parts.specs.HandedOn.{Theory}
pub use Rattle.induct_parts.specs.CertificateView.{lemmas_in}
pub use Rattle.induct_parts.specs.FaultView.{HoldsOfLineFault, HoldsAtLine}
pub use Rattle.induct_parts.specs.SettingView.{AllLemmasHold, AllCovered, IsKnownLemma}
pub use Rattle.induct_parts.specs.StatementView.{statement_of}
pub use Rattle.induct_parts.specs.declared.at_line.AtLine.{AtLine}
pub use Rattle.induct_parts.specs.declared.certificates.StatedLemma.{StatedLemma}
pub use Rattle.induct_parts.specs.declared.line_fault.LineFault.{LineFault}
pub use Rattle.induct_parts.specs.declared.line_fault.LineFault.TheVariants as line_faults
