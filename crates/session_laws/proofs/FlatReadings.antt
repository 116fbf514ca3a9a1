-- The words of the flat text of data and a specification that a text stands for are read as the same data and specification.
use Rattle.lotos_base.specs.Signature.{IsWellFormedSignature}
use Rattle.printed_texts.specs.BehaviourText.{Naming}
use Rattle.syntax_trees.specs.TakenItems.{without_items}
use Rattle.session_laws.specs.WrittenSpecifications.{renamed}
use Rattle.session_laws.proofs.FlatResolved.{flat_means, flat_texts_stand_for_the_same}
use Rattle.declaration_laws.proofs.LexedOrder.{tokens_rise}
use Rattle.session_laws.specs.TypeWords.{type_words}
use Rattle.session_laws.specs.WrittenData.{AreDataWritten}
use Rattle.session_laws.specs.FlatReadings.{naming_of_flat, FlatTextsAreReadAsTheSame}
use Rattle.session_laws.proofs.NamingLemmas.{flat_texts_have_flat_namings}
use Rattle.session_laws.proofs.ReadLists.{read_texts_have_text_lists}
use Rattle.session_laws.proofs.FormLemmas.{text_lists_give_text_forms}
use Rattle.session_laws.proofs.SpecificationSentences.{specification_says}
use Rattle.session_laws.proofs.TakenLemmas.{text_lists_stay, flat_trees_stay, renamed_specifications_are_same}
use Rattle.session_laws.proofs.TypeSentences.{type_words_are_items}
use Rattle.session_laws.proofs.EquationPlaces.{specification_apart}
use Rattle.session_laws.proofs.ReadBack.{flat_data_are_read_back}

pub flat_texts_are_read_as_the_same : FlatTextsAreReadAsTheSame
flat_texts_are_read_as_the_same source source_tokens source_tree number text data_ specification tokens form few is_source is cut are =
    let naming : Naming = naming_of_flat data_ specification in
    let well : IsWellFormedSignature data_.signature = form.well_formed.signature in
    let flat = flat_texts_have_flat_namings data_.signature specification few in
    let lists = text_lists_stay source_tree (read_texts_have_text_lists source source_tokens source_tree is_source) in
    let forms = text_lists_give_text_forms data_.signature (without_items source_tree) specification lists is in
    let found =
    specification_says text naming well form.infix_operations specification (type_words data_) (AreDataWritten data_)
    (flat_means naming (without_items source_tree) specification flat is) forms
    (λ some words. type_words_are_items text data_ some form words) tokens are in
    record {
      thing = found.thing;
      is_one = found.is_one;
      fitting = record {
        flatly = found.fitting.flatly;
        again = renamed naming specification;
        same = renamed_specifications_are_same naming specification;
        stands =
            flat_texts_stand_for_the_same naming (without_items source_tree) (without_items found.thing) specification well flat is
            (flat_trees_stay naming specification found.thing found.fitting.flatly);
        types_written = found.fitting.types_fit;
        types =
            flat_data_are_read_back data_ found.thing.items form found.fitting.types_fit
            (specification_apart text tokens found.thing found.is_one (tokens_rise number text tokens cut));
      };
    }
