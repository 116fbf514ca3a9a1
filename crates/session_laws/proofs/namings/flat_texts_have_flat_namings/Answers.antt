use Rattle.session_laws.proofs.NamingLemmas.{flat_texts_have_flat_namings}
use Rattle.session_laws.proofs.namings.flat_texts_have_flat_namings.Goals as goal

pub returns : goal.returns
returns c = flat_texts_have_flat_namings
