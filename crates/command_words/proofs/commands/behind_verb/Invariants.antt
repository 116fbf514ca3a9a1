use Rattle.command_words.proofs.CutLemmas.{CutBehind}
use Rattle.command_words.proofs.commands.behind_verb.Given as goal

-- none of the words before this one is `with`
abbrev pub invariant-loop-index : goal.invariant-loop-index
invariant-loop-index l = CutBehind l.index l.words
