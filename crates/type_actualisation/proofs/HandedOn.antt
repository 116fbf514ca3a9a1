-- What crates above this one need of the crates below it.
pub use Rattle.type_equations.proofs.AskedLemmas.{sorts_there, give_both, give_append}
pub use Rattle.type_equations.proofs.GivenLemmas.{gives_same, give_all_same}
pub use Rattle.type_equations.proofs.OccurrenceLemmas.{numbers_have, stands_there, comes, in_scope, occurs_numbered, adds_nothing}
pub use Rattle.type_equations.proofs.OverLemmas.{sides_over, scopes_numbered}
pub use Rattle.type_equations.proofs.SectionLemmas.{variables_over, side_reads}
