-- What the worked cases are shown by.
use Rattle.std.proofs.Common.{◌≡◌, ℕ, List, [], refl}
use Rattle.lotos_base.specs.declared.places.Place.{Place}
use Rattle.lotos_lexer.specs.Tokens as lexed
use Rattle.lotos_lexer.specs.Tokens.{tokens_of}
use Rattle.session_log.specs.HandedOn.{BadByte, OpenComment, AreTermsOfLine, AreUnread, left_out}

-- a text without tokens is a list of no terms
pub no_terms_in : (text : List ℕ) → tokens_of 0 text ≡ lexed.Tokens [] → AreTermsOfLine text []
no_terms_in text cut_ = record { tokens = []; cut_into = cut_; sentence = left_out; shallow = refl }

pub bad_byte_in : (text : List ℕ) (place : Place) → tokens_of 0 text ≡ lexed.BadByte place → AreUnread text 101
bad_byte_in text place cut_ = (BadByte place, cut_, (λ none. absurd (cc none)), refl)

pub open_comment_in : (text : List ℕ) (place : Place) → tokens_of 0 text ≡ lexed.OpenComment place → AreUnread text 102
open_comment_in text place cut_ = (OpenComment place, cut_, (λ none. absurd (cc none)), refl)
