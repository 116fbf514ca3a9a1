use Rattle.std.proofs.Common.{◌≡◌, ◌++◌, codes, decimal}
use Rattle.std.proofs.lemmas.Result.{IfOk-weaker}
use Rattle.lotos_base.proofs.Pieces.{in_three}
use Rattle.session_lines.proofs.refusals.push_bad_term.Goals as goal

pub returns : goal.returns
returns c =
    IfOk-weaker c.push_text-2.result (λ _. c.push_text-2.new.into.items ≡ c.push_number.new.into.items ++ codes "\n")
    (λ _. c.push_text-2.new.into.items
    ≡ c.args.into.now.items ++ (codes "refused 804 BadTerm " ++ (decimal c.args.number ++ codes "\n")))
    (λ done added.
    in_three c.args.into.now.items (codes "refused 804 BadTerm ") (decimal c.args.number) (codes "\n") c.push_text.new.into.items
    c.push_number.new.into.items c.push_text-2.new.into.items c.in_ok-push_text.ensures c.in_ok-push_number.ensures added)
    c.push_text-2.ensures
