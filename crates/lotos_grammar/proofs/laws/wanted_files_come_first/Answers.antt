use Rattle.lotos_grammar.proofs.WantedFiles.{wanted_files_come_first}
use Rattle.lotos_grammar.proofs.laws.wanted_files_come_first.Goals as goal

pub returns : goal.returns
returns c = wanted_files_come_first
