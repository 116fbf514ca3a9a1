use Rattle.std.proofs.Common.{◌<◌, arith}
use Rattle.std.specs.Prelude.{◌^◌}
use Rattle.sort_terms.specs.Operations.{operation_of}
use Rattle.type_definitions.specs.ProfiledImage.{number_in}
use Rattle.type_presentations.specs.PairIndexView.{pairs_in}
use Rattle.type_renaming.proofs.SoughtLemmas.{sought_is_wanted, same_form, other_wanted, other_form_found, no_form_found, position_small}
use Rattle.type_renaming.proofs.actual_ops.position_of_actual.Goals as goal

pub returns-in-Some : goal.returns-in-Some
returns-in-Some c = λ a parts.
    let o = operation_of c.args.op.now in
    let is =
    sought_is_wanted a (number_in c.args.sorts.now) (pairs_in c.args.pairs.now) o.form o (operation_of c.in_ok-sought.sought)
    c.in_ok-sought.ensures parts.pairs_are parts.sorts_are in
    let here = rw c.in-Some.is at c.in_ok-same.ensures in
    same_form a o (operation_of c.in_ok-sought.sought) c.in-Some.position is
    (here a.actual.signature.operations parts.profiles_are parts.differ)

pub returns-in_default-found : goal.returns-in_default-found
returns-in_default-found c = λ a parts.
    let o = operation_of c.args.op.now in
    let is =
    sought_is_wanted a (number_in c.args.sorts.now) (pairs_in c.args.pairs.now) o.form o (operation_of c.in_ok-sought.sought)
    c.in_ok-sought.ensures parts.pairs_are parts.sorts_are in
    let turned = other_wanted a o (operation_of c.in_ok-sought.sought) (operation_of c.turned-other.result) is c.turned-other.ensures in
    let none = rw c.in_default.is at c.in_ok-same.ensures in
    let neither = rw c.in_default-found.is at c.in_ok-found.ensures in
    no_form_found a o (operation_of c.in_ok-sought.sought) (operation_of c.turned-other.result) is turned
    (none a.actual.signature.operations parts.profiles_are parts.differ)
    (neither a.actual.signature.operations parts.profiles_are parts.differ)

pub returns : goal.returns
returns c = λ a parts.
    let o = operation_of c.args.op.now in
    let is =
    sought_is_wanted a (number_in c.args.sorts.now) (pairs_in c.args.pairs.now) o.form o (operation_of c.in_ok-sought.sought)
    c.in_ok-sought.ensures parts.pairs_are parts.sorts_are in
    let turned = other_wanted a o (operation_of c.in_ok-sought.sought) (operation_of c.turned-other.result) is c.turned-other.ensures in
    let none = rw c.in_default.is at c.in_ok-same.ensures in
    let here = rw c.in-Some-found.is at c.in_ok-found.ensures in
    other_form_found a o (operation_of c.in_ok-sought.sought) (operation_of c.turned-other.result) c.in-Some-found.position is turned
    (none a.actual.signature.operations parts.profiles_are parts.differ)
    (here a.actual.signature.operations parts.profiles_are parts.differ)

pub overflow_cast-result : goal.overflow_cast-result
overflow_cast-result c =
    let here = rw c.in-Some.is at c.in_ok-same.ensures in
    let small : c.in-Some.position < 2 ^ 32 =
    position_small c.requires.0 (operation_of c.in_ok-sought.sought) c.in-Some.position (2 ^ 32)
    (here c.requires.0 c.requires.1 c.requires.2)
    c.requires.3 in
    omega (arith, small)

pub overflow_cast-result-2 : goal.overflow_cast-result-2
overflow_cast-result-2 c =
    let here = rw c.in-Some-found.is at c.in_ok-found.ensures in
    let small : c.in-Some-found.position < 2 ^ 32 =
    position_small c.requires.0 (operation_of c.turned-other.result) c.in-Some-found.position (2 ^ 32)
    (here c.requires.0 c.requires.1 c.requires.2) c.requires.3 in
    omega (arith, small)
