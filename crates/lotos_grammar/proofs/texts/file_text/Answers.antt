use Rattle.lotos_grammar.specs.declared.faults.LibraryFault.TheVariants.{NoMemory}
use Rattle.lotos_grammar.proofs.ShelfLemmas.{wanted_uncalled, wanted_by_get}
use Rattle.lotos_grammar.proofs.TextLemmas.{err_is}
use Rattle.lotos_grammar.proofs.WalkLemmas.{from_err}
use Rattle.lotos_grammar.proofs.texts.file_text.Goals as goal

pub returns-in_err-file : goal.returns-in_err-file
returns-in_err-file g c =
    from_err _ _ c.from_residual.result NoMemory (err_is _ NoMemory c.from_residual.ensures.1) (wanted_uncalled _)

pub returns-in-Err-NoMemory : goal.returns-in-Err-NoMemory
returns-in-Err-NoMemory g c =
    wanted_by_get (Unit {0}) _ _ c.in-Err-NoMemory.field-0 c.in-Err-NoMemory.ensures.texts c.in-Err-NoMemory.field-0-is
    c.in-Err-NoMemory.ensures.counts c.in-Err-NoMemory.ensures.calls
