use Rattle.path_order.proofs.RuleTestLemmas.{given_passes}
use Rattle.equation_book.proofs.BookLemmas.{flat_sorted}
use Rattle.equation_book.proofs.book.Book.open.Goals as goal

pub of-requires-clause-sides : goal.of-requires-clause-sides
of-requires-clause-sides c = flat_sorted c.args.flat c.requires

pub of-requires-clause-oriented : goal.of-requires-clause-oriented
of-requires-clause-oriented c = given_passes c.in-Ok.ensures.opened.joined.0

pub of-requires-clause-over : goal.of-requires-clause-over
of-requires-clause-over c = ∣ c.in-Ok.ensures.signature ∣₁
