use Rattle.std.proofs.Common.{refl}
use Rattle.direct_texts.proofs.order.EchoLines.serve.Goals as goal

pub returns-clause-served : goal.returns-clause-served
returns-clause-served g c = record {
  reply = record { text = c.push.new.self.items; next = tt; quits = c.eq-quits.result };
  comes = tt;
  text = refl;
  next = refl;
  quits = refl;
}
