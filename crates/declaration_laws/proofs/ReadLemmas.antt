-- Texts that were read.
use Rattle.declaration_laws.specs.ReadPlaces.{ReadTextsRise, PlacesStay}
use Rattle.declaration_laws.proofs.LexedOrder.{tokens_rise}
use Rattle.declaration_laws.proofs.TextPlaceLemmas.{text_rises, places_stay as kept}

pub read_texts_rise : ReadTextsRise
read_texts_rise number text tree is = text_rises is.1.sentence (tokens_rise number text is.1.tokens is.1.cut_into)

pub places_stay : PlacesStay
places_stay = kept
