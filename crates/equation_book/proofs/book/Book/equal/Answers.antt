use Rattle.std.proofs.Common.{sym, ◌∙◌}
use Rattle.std.proofs.lemmas.Result.{IfOk-weaker}
use Rattle.sort_terms.specs.SortedView.{profiled_in, term_in}
use Rattle.equation_book.specs.BookCanon.{book_canon}
use Rattle.equation_book.specs.BookCanonFacts.{book_chooses}
use Rattle.equation_book.proofs.BookLemmas.{of_store, store_is_book, forms_decide}
use Rattle.equation_book.proofs.book.Book.equal.Goals as goal

pub same-requires-clause-left : goal.same-requires-clause-left
same-requires-clause-left c = of_store c.args.self.now (profiled_in c.args.left.now) c.requires.left

pub same-requires-clause-right : goal.same-requires-clause-right
same-requires-clause-right c = of_store c.args.self.now (profiled_in c.args.right.now) c.requires.right

pub returns-clause-exactly : goal.returns-clause-exactly
returns-clause-exactly c =
    let book = c.args.self.now in
    let left = term_in c.args.left.now in
    let right = term_in c.args.right.now in
    let decide = forms_decide book c.args.left.now c.args.right.now (book_canon book left) (book_canon book right) c.requires.left
    c.requires.right c.requires.left_ground c.requires.right_ground c.requires.one_sort (book_chooses book left)
    (book_chooses book right) in
    IfOk-weaker c.same.result _ _
    (λ equal is. (
      (λ yes. decide.1 (sym (store_is_book book left) ∙ is.0 yes ∙ store_is_book book right)),
      (λ equal. is.1 (store_is_book book left ∙ decide.0 equal ∙ sym (store_is_book book right))),
    ))
    c.same.ensures.exactly
