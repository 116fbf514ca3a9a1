use Rattle.std.proofs.Common.{refl}
use Rattle.ll_engine.proofs.WrittenTables.{written_after}
use Rattle.lotos_rows.specs.Rows.{rows, grammar_from}
use Rattle.lotos_rows.specs.declared.starts.TheConstants as starts
use Rattle.lotos_rows.proofs.table.table.Goals as goal

pub returns-clause-grammar : goal.returns-clause-grammar
unfolding rows grammar_from
returns-clause-grammar c = λ start. refl

pub returns-clause-specification : goal.returns-clause-specification
returns-clause-specification c = written_after 6 _ starts.SPEC refl

pub returns-clause-types : goal.returns-clause-types
returns-clause-types c = written_after 6 _ starts.TYPETEXT refl

pub returns-clause-order : goal.returns-clause-order
returns-clause-order c = written_after 6 _ starts.ORDER refl

pub returns-clause-terms : goal.returns-clause-terms
returns-clause-terms c = written_after 6 _ starts.TERMS refl
