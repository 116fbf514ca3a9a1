-- Sample data that the laws speak of: their names have the form, and some texts of their terms are read back.
use Rattle.std.specs.Prelude.{[], ◌∷◌, codes}
use Rattle.lotos_base.specs.Signature.{IsWellFormedSignature}
use Rattle.session_histories.specs.HandedOn.{printed_sample_signature, printed_a, printed_f, printed_plus, star, small_d, capital_d, minus}
use Rattle.session_laws.specs.TextNames.{HasTextNames}
use Rattle.session_laws.specs.TermsReadBack.{IsTermReadBack, AreReadBack}

pub record SampleTextsAreReadBack : Type 0 where
  -- what the laws ask of a signature holds of this one, which has names of each form, twins, and infix operations
  pub well_formed : IsWellFormedSignature printed_sample_signature
  pub names : HasTextNames printed_sample_signature
  -- a blank keeps a bracket and a star apart
  pub star_apart : IsTermReadBack printed_sample_signature 0 (codes "f( *(a))") 0 (printed_f (star printed_a))
  -- brackets keep operands together, and sorts tell twins apart
  pub twins_apart : IsTermReadBack printed_sample_signature 0 (codes "a + ((a - a) of A + d of A)") 0
      (printed_plus printed_a (printed_plus (minus printed_a printed_a) small_d))
  -- a list, and the list of no terms
  pub listed : AreReadBack printed_sample_signature 0 (codes "d of A, D of B") (0 ∷ 1 ∷ []) (small_d ∷ capital_d ∷ [])
  pub nothing : AreReadBack printed_sample_signature 0 [] [] []
