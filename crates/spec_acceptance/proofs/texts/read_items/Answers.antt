use Rattle.spec_acceptance.proofs.KnownLemmas.{order_read, order_misread}
use Rattle.spec_acceptance.proofs.texts.read_items.Goals as goal

pub returns-in-Ok : goal.returns-in-Ok
returns-in-Ok c = order_read c.args.text.now c.args.known c.in-Ok.items c.in-Ok.ensures

pub returns-in-Err : goal.returns-in-Err
returns-in-Err c =
    order_misread c.args.text.now c.args.known c.in-Err.fault c.order_refusal.result c.in-Err.ensures c.order_refusal.ensures
