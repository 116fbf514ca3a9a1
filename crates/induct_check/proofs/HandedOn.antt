-- What crates above this one need of the proofs below it.
pub use Rattle.induct_parts.proofs.HandedOn.{renamed_holds}
pub use Rattle.lotos_grammar.proofs.OneOutcome.{front, back}
pub use Rattle.lotos_grammar.proofs.ShelfLemmas.{gives_nothing, some_within}
