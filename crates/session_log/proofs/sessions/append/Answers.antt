use Rattle.std.proofs.Common.{sym, ◌∙◌}
use Rattle.session_log.proofs.TextLemmas.{nothing_before}
use Rattle.session_log.proofs.sessions.append.Goals as goal

pub returns-then-is_empty : goal.returns-then-is_empty
returns-then-is_empty c =
    nothing_before c.args.into.now.items c.args.text.items _ c.args.into.now.ok.0 (sym c.is_empty.ensures ∙ c.if-is_empty.true)
