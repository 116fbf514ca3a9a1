use Rattle.std.proofs.Common.{◌++◌, ℕ, List, codes, ap, ◌∙◌}
use Rattle.std.proofs.lemmas.Result.{on_ok_weaker}
use Rattle.lotos_base.specs.Name.{spelling}
use Rattle.lotos_base.proofs.Pieces.{in_three}
use Rattle.session_log.proofs.traces.push_heading.Goals as goal

pub returns : goal.returns
returns c =
    on_ok_weaker c.push_text-3.result
    (λ h. in_three c.args.into.now.items (codes "lotos-trace 2 ") (spelling c.args.spec.now.name) (codes "\n")
    c.push_text.new.into.items c.push_text-2.new.into.items c.push_text-3.new.into.items c.in_ok-push_text.ensures
    (c.in_ok-push_text-2.ensures ∙ ap (λ (text : List ℕ). c.push_text.new.into.items ++ text) c.spelled.ensures) h)
    c.push_text-3.ensures
