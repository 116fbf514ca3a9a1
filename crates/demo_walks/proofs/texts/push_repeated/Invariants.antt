use Rattle.std.proofs.Common.{◌≡◌, ◌++◌}
use Rattle.demo_walks.specs.DemoText.{repeated}
use Rattle.demo_walks.proofs.texts.push_repeated.Given as goal

-- the text is appended as often as there were turns
abbrev pub invariant-loop : goal.invariant-loop
invariant-loop l = l.into.items ≡ l.fn.into.items ++ repeated l.counter l.text
