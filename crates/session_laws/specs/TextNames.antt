-- Names of the form that texts have: each is one whole token (ISO 8807, identifiers; this project's form of names).
use Rattle.std.specs.Prelude.{◌≡◌, ◌⊎◌, ℕ, List, length, Some, None, slice_get, true}
use Rattle.std.specs.List.{prefix_len}
use Rattle.std.specs.Char.{is_ascii_alphabetic, is_ascii_digit}
use Rattle.lotos_lexer.specs.Bytes.{first_is, is_sign}
use Rattle.lotos_lexer.specs.Lexemes.{word_length, kind_in, word_kind_in}
use Rattle.lotos_lexer.specs.Spellings.{reserved_words, reserved_runs}
use Rattle.lotos_base.specs.Signature.{Signature, Sort, Operation, IsOperation, infix_form}

-- a word that is not reserved: a letter, then letters, digits and inner underscores up to the end
pub record IsWordSpelling (name : List ℕ) : Type 0 where
  pub begins : first_is is_ascii_alphabetic name ≡ true
  pub whole : word_length name ≡ length name
  pub not_reserved : word_kind_in reserved_words name ≡ None

-- a digit name: a digit, then the same
pub record IsDigitSpelling (name : List ℕ) : Type 0 where
  pub begins : first_is is_ascii_digit name ≡ true
  pub whole : word_length name ≡ length name

-- a run of signs that is not reserved
pub record IsSignSpelling (name : List ℕ) : Type 0 where
  pub begins : first_is is_sign name ≡ true
  pub whole : prefix_len is_sign name ≡ length name
  pub not_reserved : kind_in reserved_runs name ≡ None

-- the name of an operation
abbrev pub IsOperationSpelling : List ℕ → Type 0
IsOperationSpelling name = IsWordSpelling name ⊎ (IsDigitSpelling name ⊎ IsSignSpelling name)

-- The operations and sorts of the signature have such names, and its infix operations have two arguments: so it is with what
-- the types of a text declare.
pub record HasTextNames (signature : Signature) : Type 0 where
  pub operations : (f : ℕ) (o : Operation) → IsOperation signature f o → IsOperationSpelling o.name
  pub sorts : (n : ℕ) (s : Sort) → slice_get signature.sorts n ≡ Some s → IsWordSpelling s.name
  pub infix_operations : (f : ℕ) (o : Operation) → IsOperation signature f o → o.form ≡ infix_form → length o.arguments ≡ 2
