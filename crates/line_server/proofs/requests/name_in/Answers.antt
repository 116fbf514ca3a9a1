use Rattle.std.proofs.Common.{◌≡◌, length, ap, arith}
use Rattle.line_server.proofs.RequestLemmas.{name_there, no_name_there}
use Rattle.line_server.proofs.requests.name_in.Goals as goal

pub returns-in-Ok : goal.returns-in-Ok
returns-in-Ok c =
    name_there c.args.bytes.now c.in-Ok.name.now
    (λ none. let nothing : length c.args.bytes.now ≡ 0 = ap length none in grind
    (arith, nothing, c.is_empty.ensures, c.if-is_empty.ensures, c.if-is_empty.false))
    c.in-Ok.ensures.cases.0 c.in-Ok.ensures.cases.1

pub returns-in-Err : goal.returns-in-Err
returns-in-Err c = no_name_there c.args.bytes.now c.in-Err.ensures.cases.0
