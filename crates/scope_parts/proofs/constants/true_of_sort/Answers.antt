use Rattle.std.proofs.Common.{refl, sym, ◌∙◌, ap, arith}
use Rattle.sort_terms.specs.Operations.{operation_of}
use Rattle.scope_parts.proofs.ConstantLemmas.{true_known}
use Rattle.scope_parts.proofs.constants.true_of_sort.Goals as goal

pub returns-then-is_true-clause-known : goal.returns-then-is_true-clause-known
returns-then-is_true-clause-known c = λ x same.
    true_known c.args.ops.now c.args.sort c.loop-number.number c.index-ops-number.result
    (record { sort = c.args.sort; constant = c.loop-number.number; profile = c.in_ok-profile.profile }) x
    (omega (arith, c.loop-number-test.true)) c.index-ops-number.is (sym c.is_true.ensures ∙ c.if-is_true.true) refl
    (ap operation_of c.in_ok-profile.ensures.ok ∙ c.in_ok-copy.ensures) same
