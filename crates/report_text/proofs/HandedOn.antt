-- What crates above this one need of the crates below it.
pub use Rattle.printed_texts.proofs.BracketLemmas.{listed_all, closed_text}
pub use Rattle.printed_texts.proofs.TermLemmas.{filled_list}
