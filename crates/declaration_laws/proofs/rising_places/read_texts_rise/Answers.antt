use Rattle.declaration_laws.proofs.ReadLemmas.{read_texts_rise}
use Rattle.declaration_laws.proofs.rising_places.read_texts_rise.Goals as goal

pub returns : goal.returns
returns c = read_texts_rise
