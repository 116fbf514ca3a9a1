use Rattle.sort_terms.specs.SignatureView.{signature_of}
use Rattle.direct_steps.proofs.ScopeLemmas.{scope_of_one}
use Rattle.direct_steps.proofs.steps.one_variable.Goals as goal

pub returns : goal.returns
returns c =
    scope_of_one (signature_of c.args.signature.now) _ _ _ c.new-made.ensures.items c.in_ok-push.ensures.items c.requires
