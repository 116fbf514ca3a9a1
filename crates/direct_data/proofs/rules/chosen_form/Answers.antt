use Rattle.std.proofs.Common.{subst}
use Rattle.sort_terms.specs.ProfiledTerm.{IsOf}
use Rattle.sort_terms.specs.SignatureView.{signature_of}
use Rattle.sort_terms.specs.SortedView.{profiled_in}
use Rattle.sort_terms.specs.declared.signatures.Signature.{Signature}
use Rattle.direct_data.proofs.rules.chosen_form.Goals as goal

pub normalise-requires : goal.normalise-requires
normalise-requires c =
    subst (λ (s : Signature). IsOf (signature_of s) (profiled_in c.in_ok-term.term)) c.signature.ensures c.in_ok-term.ensures
