use Rattle.std.proofs.Common.{◌≡◌, ◌++◌, ◌-◌, ◌≤◌, take, length, Some, IfSome}
use Rattle.lotos_base.specs.Outside.{Stands}
use Rattle.line_server.proofs.writing.write_whole.Given as goal

-- the first bytes are written, and no call failed
abbrev pub invariant-loop-count : goal.invariant-loop-count
invariant-loop-count g l =
    (l.count ≤ length l.text)
    × IfSome (g.K.Sink.state l.initial.output).bytes
    (λ written. (g.K.Sink.state l.output).bytes ≡ Some (written ++ take l.count l.text))
    × Stands (g.K.Sink.state l.initial.output) (g.K.Sink.state l.output)

abbrev pub decreases-loop-count : goal.decreases-loop-count
decreases-loop-count g l = length l.text - l.count
