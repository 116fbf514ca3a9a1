use Rattle.std.proofs.Common.{◌≡◌, ◌+◌, suc, drop, map, arith}
use Rattle.lotos_base.specs.Name.{spelling}
use Rattle.induct_check.specs.CertificateReading.{number_named}
use Rattle.induct_check.proofs.NameLemmas.{first_named, other_named, not_true}
use Rattle.induct_check.proofs.names.number_named.Goals as goal

pub returns-then-same : goal.returns-then-same
returns-then-same c =
    let first : number_named (map spelling (drop c.loop-number.number c.args.names.now)) (spelling c.args.name.now) ≡ 0 =
    first_named c.args.names.now c.loop-number.number c.index-names-number.result (spelling c.args.name.now) c.loop-number-test.true
    c.index-names-number.is (c.same.ensures.0 c.if-same.true) in
    let now : number_named (map spelling c.args.names.now) (spelling c.args.name.now)
    ≡ c.loop-number.number + number_named (map spelling (drop c.loop-number.number c.args.names.now)) (spelling c.args.name.now) =
    c.loop-number.invariant in
    omega (arith, first, now)

pub loop-number-preserved : goal.loop-number-preserved
loop-number-preserved c =
    let other : number_named (map spelling (drop c.loop-number.number c.args.names.now)) (spelling c.args.name.now)
    ≡ suc (number_named (map spelling (drop (c.loop-number.number + 1) c.args.names.now)) (spelling c.args.name.now)) =
    other_named c.args.names.now c.loop-number.number c.index-names-number.result (spelling c.args.name.now) c.loop-number-test.true
    c.index-names-number.is (λ same. not_true c.same.result c.if-same.false (c.same.ensures.1 same)) in
    let now : number_named (map spelling c.args.names.now) (spelling c.args.name.now)
    ≡ c.loop-number.number + number_named (map spelling (drop c.loop-number.number c.args.names.now)) (spelling c.args.name.now) =
    c.loop-number.invariant in
    omega (arith, other, now)
