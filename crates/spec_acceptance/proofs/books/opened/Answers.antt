use Rattle.spec_acceptance.proofs.KnownLemmas.{opened_fine, opened_faulty}
use Rattle.spec_acceptance.proofs.books.opened.Goals as goal

pub open-requires : goal.open-requires
open-requires c = c.requires

pub returns-in-Ok : goal.returns-in-Ok
returns-in-Ok c =
    opened_fine c.args.ordered c.as_slice.result.now c.in-Ok.book c.as_slice.ensures.value c.in-Ok.ensures.flat c.in-Ok.ensures.opened

pub returns : goal.returns
returns c =
    opened_faulty c.args.ordered c.as_slice.result.now c.in-Err.field-0.flat c.in-Err.field-0.fault c.book_refusal.result
    c.as_slice.ensures.value c.in-Err.ensures.back c.in-Err.ensures.fault c.book_refusal.ensures
