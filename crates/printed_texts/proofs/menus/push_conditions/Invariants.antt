use Rattle.std.proofs.Common.{◌≡◌, ◌++◌, map, drop}
use Rattle.printed_texts.specs.Brackets.{commas, listed}
use Rattle.printed_texts.specs.TextView.{written_condition}
use Rattle.printed_texts.proofs.menus.push_conditions.Given as goal

-- the conditions so far are written
abbrev pub invariant-loop-index : goal.invariant-loop-index
invariant-loop-index l =
    l.into.items ++ listed l.index (map (written_condition l.signature) (drop l.index l.conditions.items))
    ≡ l.initial.into.items ++ commas (map (written_condition l.signature) l.conditions.items)
