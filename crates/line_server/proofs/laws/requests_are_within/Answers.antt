use Rattle.line_server.proofs.RequestLemmas.{request_within}
use Rattle.line_server.proofs.laws.requests_are_within.Goals as goal

pub returns : goal.returns
returns c = request_within
