-- The worked cases of texts of behaviours and specifications.
use Rattle.std.proofs.Common.{refl}
use Rattle.std.specs.Fmt.{digits}
use Rattle.session_laws.specs.TextExamples.{TextExamples}

pub text_examples : TextExamples
unfolding digits
text_examples = record {
  offering_text = refl;
  offering_words = refl;
  meeting_text = refl;
  meeting_words = refl;
  nowhere_text = refl;
  nowhere_words = refl;
  accepting_text = refl;
  accepting_words = refl;
  joined_words = refl;
  specification_text = refl;
  specification_words_are = refl;
}
