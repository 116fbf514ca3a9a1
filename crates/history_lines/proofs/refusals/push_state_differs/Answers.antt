use Rattle.std.proofs.Common.{◌++◌, ℕ, List, codes, decimal, ap, ◌∙◌}
use Rattle.std.proofs.lemmas.Result.{on_ok_weaker}
use Rattle.history_lines.proofs.refusals.push_state_differs.Goals as goal

pub returns : goal.returns
returns c =
    on_ok_weaker c.push_text-6.result
    (λ h. h
    ∙ ap (λ (it : List ℕ). it ++ codes "\n")
    (c.in_ok-push_text-5.ensures
    ∙ ap (λ (it : List ℕ). it ++ c.args.found.now)
    (c.in_ok-push_text-4.ensures
    ∙ ap (λ (it : List ℕ). it ++ codes " found ")
    (c.in_ok-push_text-3.ensures
    ∙ ap (λ (it : List ℕ). it ++ c.args.kept.now)
    (c.in_ok-push_text-2.ensures
    ∙ ap (λ (it : List ℕ). it ++ codes " kept ")
    (c.in_ok-push_number.ensures ∙ ap (λ (it : List ℕ). it ++ decimal c.args.line) c.in_ok-push_text.ensures))))))
    c.push_text-6.ensures
