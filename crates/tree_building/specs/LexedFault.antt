-- A fault of the cutting of a text as a fault of its reading.
use Rattle.lotos_lexer.specs.declared.tokens.LexFault.{LexFault}
use Rattle.lotos_lexer.specs.declared.tokens.LexFault.TheVariants as lexical
use Rattle.tree_building.specs.declared.fault.ReadFault.{ReadFault}
use Rattle.tree_building.specs.declared.fault.ReadFault.TheVariants as fault

abbrev pub read_fault_of : LexFault → ReadFault
read_fault_of (lexical.BadByte place) = fault.BadByte place
read_fault_of (lexical.OpenComment place) = fault.OpenComment place
read_fault_of lexical.NoMemory = fault.NoMemory
