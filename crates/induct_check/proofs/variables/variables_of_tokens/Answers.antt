use Rattle.std.proofs.Common.{ap}
use Rattle.induct_check.specs.VariableView.{read_in, awaited_of}
use Rattle.induct_check.proofs.TokenSteps.{stuck_token, tokens_done, tokens_open, awaits_end}
use Rattle.induct_check.proofs.variables.variables_of_tokens.Goals as goal

pub returns-then-not-branch : goal.returns-then-not-branch
returns-then-not-branch c = λ ws are.
    stuck_token c.args.text.now c.args.tokens.now (read_in c.loop-token.read) (read_in c.next.new.read) c.loop-token.token-index _
    c.in_ok-next.field-0 ws c.loop-token-test.true c.if-not-branch.true c.in_ok-next.ensures c.loop-token.invariant are

pub returns-in-CommaOrEnd : goal.returns-in-CommaOrEnd
returns-in-CommaOrEnd c =
    tokens_done c.args.text.now c.args.tokens.now (read_in c.loop-token.read) c.loop-token.token-index c.loop-token-test.false
    (ap awaited_of c.in-CommaOrEnd.is) c.loop-token.invariant

pub returns-in_default : goal.returns-in_default
returns-in_default c = λ ws are.
    tokens_open c.args.text.now c.args.tokens.now (read_in c.loop-token.read) c.loop-token.token-index ws c.loop-token-test.false
    (λ end. c.in_default.not-CommaOrEnd (awaits_end c.loop-token.read.awaited end)) c.loop-token.invariant are
