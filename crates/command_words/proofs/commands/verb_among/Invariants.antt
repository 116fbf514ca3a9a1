use Rattle.std.proofs.Common.{◌≡◌, drop, map}
use Rattle.command_words.specs.Words.{verb_named, verb_of}
use Rattle.command_words.proofs.commands.verb_among.Given as goal

-- the verb is none of those before this one
abbrev pub invariant-loop-verb : goal.invariant-loop-verb
invariant-loop-verb l = verb_named l.word (map verb_of l.among) ≡ verb_named l.word (map verb_of (drop l.verb-index l.among))
