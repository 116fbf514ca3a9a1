use Rattle.std.proofs.Common.{◌<◌, ℕ, refl, subst}
use Rattle.process_checks.proofs.CodeLemmas.{caller_put}
use Rattle.process_checks.proofs.distances.add_caller.Goals as goal

pub returns-in_ok-push : goal.returns-in_ok-push
returns-in_ok-push c =
    caller_put c.args.made.now.items c.args.process c.args.caller c.in-Some.list.now c.push.new.self
    (subst (λ (n : ℕ). c.args.process < n) c.args.made.now.ok.0 (c.in-Some.ensures.variant.0 refl)) c.in-Some.ensures.value
    c.in_ok-push.ensures.items
