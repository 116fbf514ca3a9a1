use Rattle.std.proofs.Common.{◌≡◌, drop}
use Rattle.induct_check.specs.VariableStates.{none_read, read_tokens}
use Rattle.induct_check.specs.VariableView.{read_in}
use Rattle.induct_check.proofs.variables.variables_of_tokens.Given as goal

abbrev pub invariant-loop-token : goal.invariant-loop-token
invariant-loop-token l =
    read_tokens l.text none_read l.tokens ≡ read_tokens l.text (read_in l.read) (drop l.token-index l.tokens)
