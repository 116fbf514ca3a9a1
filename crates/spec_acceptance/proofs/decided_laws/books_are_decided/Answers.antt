use Rattle.spec_acceptance.proofs.DecidedBooks.{books_are_decided}
use Rattle.spec_acceptance.proofs.decided_laws.books_are_decided.Goals as goal

pub returns : goal.returns
returns c = books_are_decided
