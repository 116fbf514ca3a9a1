use Rattle.std.proofs.Common.{◌≡◌, None}
use Rattle.command_words.specs.Words.{number_up_to}
use Rattle.command_words.proofs.commands.cells_in.Given as goal

-- the word says no number up to this one
abbrev pub invariant-loop-below : goal.invariant-loop-below
invariant-loop-below l = number_up_to l.below l.word ≡ None
