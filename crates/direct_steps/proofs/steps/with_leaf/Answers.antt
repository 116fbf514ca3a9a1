use Rattle.sort_terms.specs.SignatureView.{signature_of}
use Rattle.step_taker.proofs.HandedOn.{more_of}
use Rattle.direct_steps.proofs.steps.with_leaf.Goals as goal

pub returns : goal.returns
returns c =
    more_of (signature_of c.args.signature.now) c.args.made.items _ c.in_ok-leaf.leaf c.in_ok-push.ensures.items c.in_ok-leaf.ensures
    c.requires
