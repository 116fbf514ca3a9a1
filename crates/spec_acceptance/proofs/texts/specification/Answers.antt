use Rattle.spec_acceptance.proofs.KnownLemmas.{spec_misread}
use Rattle.spec_acceptance.proofs.texts.specification.Goals as goal

pub returns-in-Ok : goal.returns-in-Ok
returns-in-Ok c = c.in-Ok.ensures.answer

pub returns-in-Err : goal.returns-in-Err
returns-in-Err c =
    spec_misread c.args.text.now c.new.result c.in-Err.fault c.read_refusal.result c.new.ensures.items c.in-Err.ensures.answer
    c.read_refusal.ensures
