-- Flat texts are read back as the same data and the same specification.
use Rattle.flat_text.specs.FlatText.{flat_text}
use Rattle.session_laws.specs.TypeWords.{type_words}
use Rattle.session_laws.specs.FlatTextReadings.{FlatTextsAreReadBack}
use Rattle.session_laws.proofs.FlatReadings.{flat_texts_are_read_as_the_same}
use Rattle.session_laws.proofs.FlatTexts.{flat_texts_are_cut}
use Rattle.session_laws.proofs.TypeTexts.{type_texts_are_words}

pub flat_texts_are_read_back : FlatTextsAreReadBack
flat_texts_are_read_back number source source_tokens source_tree data_ specification form spelled names few is_source is =
    let cut =
    flat_texts_are_cut number source source_tokens source_tree data_ specification (type_words data_) form.well_formed.signature spelled
    names few is_source is (type_texts_are_words.whole data_ form.well_formed spelled) in
    record {
      tokens = cut.tokens;
      cut_into = cut.cut_into;
      sentence =
          flat_texts_are_read_as_the_same source source_tokens source_tree number (flat_text data_ specification) data_ specification
          cut.tokens form few is_source is cut.cut_into cut.are_words;
    }
