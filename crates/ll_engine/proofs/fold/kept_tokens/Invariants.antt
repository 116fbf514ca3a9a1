use Rattle.std.proofs.Common.{◌≡◌, ◌++◌, drop}
use Rattle.ll_engine.specs.Run.{kept_tokens}
use Rattle.ll_engine.proofs.fold.kept_tokens.Given as goal

abbrev pub invariant-loop-token : goal.invariant-loop-token
invariant-loop-token g l =
    l.kept.items ++ kept_tokens g.A.Actions.kind g.A.Actions.keeps (drop l.token-index l.tokens)
    ≡ kept_tokens g.A.Actions.kind g.A.Actions.keeps l.tokens
