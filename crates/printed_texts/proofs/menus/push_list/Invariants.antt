use Rattle.std.proofs.Common.{◌≡◌, ◌++◌, ◌+◌, drop}
use Rattle.printed_texts.specs.TextView.{written_lines}
use Rattle.printed_texts.proofs.menus.push_list.Given as goal

-- the lines so far are written
abbrev pub invariant-loop-position : goal.invariant-loop-position
invariant-loop-position l =
    l.into.items ++ written_lines l.signature l.gates (l.before + l.position + 1) (drop l.position l.entries.items)
    ≡ l.initial.into.items ++ written_lines l.signature l.gates (l.before + 1) l.entries.items
