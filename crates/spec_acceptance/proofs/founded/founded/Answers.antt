use Rattle.spec_acceptance.proofs.DoingLemmas.{err_out}
use Rattle.spec_acceptance.proofs.ReadLemmas.{text_misread, text_read}
use Rattle.spec_acceptance.proofs.founded.founded.Goals as goal

pub with_book-known-requires : goal.with_book-known-requires
with_book-known-requires g c = (c.args.text.now, c.in_ok-tree.ensures)

pub returns-in_err-tree : goal.returns-in_err-tree
returns-in_err-tree g c =
    err_out _ c.in_err-tree.field-0.0 _ _ c.from_residual.ensures.1 (text_misread _ _ _ _ c.in_err-tree.ensures)

pub returns : goal.returns
returns g c = text_read _ _ _ _ _ c.with_book-known.result c.in_ok-tree.ensures c.with_book-known.ensures
