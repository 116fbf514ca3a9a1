use Rattle.std.proofs.Common.{◌≡◌, drop}
use Rattle.ll_engine.specs.Computed.{is_marked, all_marked}
use Rattle.ll_engine.proofs.marks.all_marked.Given as goal

abbrev pub invariant-loop-symbol : goal.invariant-loop-symbol
invariant-loop-symbol l =
    all_marked (is_marked l.marks) l.tokens_pass (drop l.symbol-index l.symbols) ≡ all_marked (is_marked l.marks) l.tokens_pass l.symbols
