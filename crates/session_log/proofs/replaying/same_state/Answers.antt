use Rattle.std.proofs.Common.{ℕ, List, Some, ap, ◌∙◌}
use Rattle.std.proofs.lemmas.Result.{MatchResult-weaker}
use Rattle.session_log.specs.Replayed.{written_state}
use Rattle.session_log.proofs.ReplayLemmas.{tells_line, none_kept, other_kept}
use Rattle.lotos_base.proofs.Options.{gave_up}
use Rattle.session_log.proofs.replaying.same_state.Goals as goal

pub returns-in_err-kept : goal.returns-in_err-kept
returns-in_err-kept c =
    gave_up _ _ c.from_residual.result c.in_err-kept.field-0.0 c.from_residual.ensures.1
    (tells_line _ _ (none_kept c.args.line.now (written_state c.args.base.now.signature.now c.args.base.now.spec.now c.args.state.now))
    c.in_err-kept.field-0.0 c.in_err-kept.ensures)

pub returns : goal.returns
returns c =
    let text = written_state c.args.base.now.signature.now c.args.base.now.spec.now c.args.state.now in
    MatchResult-weaker c.same_text.result c.same_text.ensures
    (λ _ same. c.in_ok-kept.ensures ∙ ap (λ (it : List ℕ). Some it) (same ∙ c.in_ok-found.ensures))
    (λ fault h. tells_line _ _ (other_kept c.args.line.now c.in_ok-kept.kept.now c.in_ok-found.found.items text c.in_ok-kept.ensures
    c.in_ok-found.ensures) fault h)
