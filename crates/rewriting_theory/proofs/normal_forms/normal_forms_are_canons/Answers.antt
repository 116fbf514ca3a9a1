-- Where rewriting is confluent, a term reaches one irreducible term.
use Rattle.rewriting_theory.proofs.NormalLemmas.{normal_form_canon}
use Rattle.lotos_base.proofs.CanonLemmas.{canon_tells}
use Rattle.rewriting_theory.proofs.normal_forms.normal_forms_are_canons.Goals as goal

pub returns-clause-canons : goal.returns-clause-canons
returns-clause-canons c = normal_form_canon

pub returns-clause-decided : goal.returns-clause-decided
returns-clause-decided c = λ data_ rules canon t u s of confluent normal h k.
    let laws = normal_form_canon data_ rules canon of confluent normal in
    ((λ equal. laws.decides t u s h k equal), canon_tells data_ canon t u s laws h k)
