use Rattle.std.proofs.Common.{◌∙◌}
use Rattle.std.proofs.lemmas.Result.{IfOk-weaker}
use Rattle.sort_terms.specs.SortedView.{profiled_in, term_in}
use Rattle.equation_book.proofs.BookLemmas.{of_store, from_store, store_is_book}
use Rattle.equation_book.proofs.book.Book.normal_form.Goals as goal

pub canonical_term-requires : goal.canonical_term-requires
canonical_term-requires c = of_store c.args.self.now (profiled_in c.args.term.now) c.requires

pub returns-clause-is_of : goal.returns-clause-is_of
returns-clause-is_of c =
    IfOk-weaker c.canonical_term.result _ _ (λ t is. from_store c.args.self.now (profiled_in t) is) c.canonical_term.ensures.is_of

pub returns-clause-canonical : goal.returns-clause-canonical
returns-clause-canonical c =
    IfOk-weaker c.canonical_term.result _ _
    (λ t is. is ∙ store_is_book c.args.self.now (term_in c.args.term.now)) c.canonical_term.ensures.canonical
