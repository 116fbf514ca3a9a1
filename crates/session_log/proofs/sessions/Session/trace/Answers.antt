use Rattle.std.proofs.Common.{◌++◌, ℕ, List, ap, ◌∙◌}
use Rattle.std.proofs.lemmas.Result.{MatchResult-weaker}
use Rattle.session_log.proofs.sessions.Session.trace.Goals as goal

pub returns-in-Ok : goal.returns-in-Ok
returns-in-Ok g c =
    MatchResult-weaker c.append.result c.append.ensures
    (λ _ h. h ∙ ap (λ (it : List ℕ). c.args.into.now.items ++ it) c.in-Ok.ensures.0) (λ _ h. h)
