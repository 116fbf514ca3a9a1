use Rattle.std.proofs.Common.{◌≡◌, ◌+◌, ℕ, List, [], drop, map, ap, subst}
use Rattle.std.proofs.lemmas.List.{drop_all}
use Rattle.lotos_base.proofs.Pieces.{next_member}
use Rattle.lotos_base.specs.Name.{spelling}
use Rattle.lotos_base.specs.Signature.{Operation}
use Rattle.scope_parts.specs.BindingsView.{bindings_in}
use Rattle.sort_terms.specs.Operations.{operation_of}
use Rattle.sort_terms.specs.declared.operations.Op.{Op}
use Rattle.flat_text.proofs.TableLemmas.{HasAllBut, all_bound, none_bound, one_bound}
use Rattle.flat_text.proofs.equation_names.names_of_operations.Goals as goal

-- the names of operations
abbrev names_in : List Op → List (List ℕ)
names_in ops = map (λ (o : Operation). o.name) (map operation_of ops)

pub loop-op-init : goal.loop-op-init
loop-op-init c = none_bound (bindings_in c.new-names.result) (names_in c.args.ops.now) c.new-names.ensures

pub loop-op-preserved : goal.loop-op-preserved
loop-op-preserved c =
    one_bound (bindings_in c.loop-op.names) (bindings_in c.bind.new.self) (spelling c.op-item.result.name) 0
    (names_in (drop (c.loop-op.op-index + 1) c.args.ops.now)) (names_in c.args.ops.now)
    (subst (λ (ops : List Op). HasAllBut (bindings_in c.loop-op.names) (names_in ops) (names_in c.args.ops.now))
    (next_member c.args.ops.now c.loop-op.op-index c.op-item.result c.loop-op-test.true c.op-item.is) c.loop-op.invariant)
    c.in_ok-bind.ensures.bound

pub returns : goal.returns
returns c =
    all_bound (bindings_in c.loop-op.names) (names_in (drop c.loop-op.op-index c.args.ops.now)) (names_in c.args.ops.now)
    c.loop-op.invariant (ap names_in (drop_all c.loop-op.op-index c.args.ops.now c.loop-op-test.false))
