use Rattle.std.proofs.Common.{ℕ, List, ap, sym, ◌∙◌}
use Rattle.std.specs.Prelude.{Some}
use Rattle.lotos_base.specs.Name.{spelling}
use Rattle.lotos_base.specs.WrittenView.{text_place_of}
use Rattle.syntax_trees.specs.TreeViews.{pair_of}
use Rattle.lotos_base.specs.Signature.{Operation}
use Rattle.type_presentations.proofs.NameLemmas.{named_of}
use Rattle.type_definitions.specs.TypeFault.{unknown_operation, double_operation}
use Rattle.type_presentations.specs.PairNames.{names_of_operations, old_names}
use Rattle.type_presentations.proofs.PairLemmas.{old_name, old_operation_unknown, old_operation_listed, operation_pair_fine}
use Rattle.type_presentations.proofs.checking.look_at_op_pair.Goals as goal

pub returns-in_default : goal.returns-in_default
returns-in_default c = λ signature earlier ops olds.
    let n =
    named_of (λ (o : Operation). o.name) signature.operations (spelling c.args.pair.now.replaced.1) c.in_ok-named.named
    (c.in_ok-named.ensures (names_of_operations signature) ops) in
    old_operation_unknown signature earlier (pair_of c.args.pair.now) (n.none c.in_default.is)
    ∙ ap (λ (name : List ℕ). Some (unknown_operation (text_place_of c.args.pair.now.replaced.0) name)) (sym c.in_ok-copy.ensures)

pub returns-in-Some-listed : goal.returns-in-Some-listed
returns-in-Some-listed c = λ signature earlier ops olds.
    let n =
    named_of (λ (o : Operation). o.name) signature.operations (spelling c.args.pair.now.replaced.1) c.in_ok-named.named
    (c.in_ok-named.ensures (names_of_operations signature) ops) in
    let m =
    named_of old_name earlier (spelling c.args.pair.now.replaced.1) c.in_ok-listed.listed
    (c.in_ok-listed.ensures (old_names earlier) olds) in
    old_operation_listed signature earlier (pair_of c.args.pair.now) (n.there c.in-Some.field-0 c.in-Some.is)
    (m.there c.in-Some-listed.field-0 c.in-Some-listed.is)
    ∙ ap (λ (name : List ℕ). Some (double_operation (text_place_of c.args.pair.now.place) name)) (sym c.in_ok-copy-2.ensures)

pub returns : goal.returns
returns c = λ signature earlier ops olds.
    let n =
    named_of (λ (o : Operation). o.name) signature.operations (spelling c.args.pair.now.replaced.1) c.in_ok-named.named
    (c.in_ok-named.ensures (names_of_operations signature) ops) in
    let m =
    named_of old_name earlier (spelling c.args.pair.now.replaced.1) c.in_ok-listed.listed
    (c.in_ok-listed.ensures (old_names earlier) olds) in
    operation_pair_fine signature earlier (pair_of c.args.pair.now) (n.there c.in-Some.field-0 c.in-Some.is)
    (m.none c.in_default-listed.is)
