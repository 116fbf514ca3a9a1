use Rattle.std.proofs.Common.{◌≡◌, ◌++◌, map, drop}
use Rattle.printed_texts.specs.Brackets.{commas, listed}
use Rattle.printed_texts.specs.TextView.{written_value}
use Rattle.printed_texts.proofs.values.push_listed.Given as goal

-- the values so far are written behind what was there
abbrev pub invariant-loop-index : goal.invariant-loop-index
invariant-loop-index l =
    l.into.items ++ listed l.index (map (written_value l.signature) (drop l.index l.values.items))
    ≡ l.initial.into.items ++ commas (map (written_value l.signature) l.values.items)
