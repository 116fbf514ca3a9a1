use Rattle.std.proofs.Common.{refl}
use Rattle.refusal_lines.specs.WordLimits.{words_of}
use Rattle.spec_acceptance.proofs.StartLemmas.{valued_fine, valued_faulty}
use Rattle.spec_acceptance.proofs.starts.valued.Goals as goal

pub returns-in-Ok : goal.returns-in-Ok
returns-in-Ok c =
    valued_fine (words_of c.args.words.now) c.args.known c.flat.result.now c.as_slice.result.now _ c.flat.ensures c.as_slice.ensures.value
    refl c.in-Ok.ensures.read c.in-Ok.ensures.profiles

pub returns-in_ok-start_refusal-in-Err-Refused : goal.returns-in_ok-start_refusal-in-Err-Refused
returns-in_ok-start_refusal-in-Err-Refused c =
    valued_faulty (words_of c.args.words.now) c.args.known c.flat.result.now c.as_slice.result.now c.in-Err-Refused.field-0
    c.in-Err-Refused.fault _ c.flat.ensures c.as_slice.ensures.value c.in-Err-Refused.field-0-is c.in-Err-Refused.ensures.read
    c.in_ok-start_refusal-in-Err-Refused.ensures
