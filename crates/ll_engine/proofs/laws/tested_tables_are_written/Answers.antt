use Rattle.ll_engine.proofs.WrittenTables.{written_after}
use Rattle.ll_engine.proofs.laws.tested_tables_are_written.Goals as goal

pub returns : goal.returns
returns c = written_after
