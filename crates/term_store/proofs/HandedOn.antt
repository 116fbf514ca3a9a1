-- What crates above this one need of the crates below it.
pub use Rattle.term_rewriter.proofs.HeadLemmas.{headed_where}
