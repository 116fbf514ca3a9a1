use Rattle.session_laws.proofs.WalkedAgreement.{no_disagreement}
use Rattle.session_laws.proofs.functionalities.no_disagreement_is_agreement.Goals as goal

pub returns : goal.returns
returns c = no_disagreement c.terms_with_profiles_are_well_sorted.ensures.sorts c.disagreements_are_different_lists.ensures.signs
    c.disagreements_are_different_lists.ensures.definitions
