-- The texts of ground terms are read back as these terms.
use Rattle.std.specs.Prelude.{◌≡◌, ◌≢◌, ◌≤◌, ℕ, List, false, Some, slice_get, codes}
use Rattle.std.specs.List.{list_any}
use Rattle.lotos_lexer.specs.Bytes.{is_blank}
use Rattle.lotos_base.specs.Signature.{Signature, IsWellFormedSignature}
use Rattle.lotos_base.specs.Sorting.{IsGroundOf}
use Rattle.lotos_base.specs.Term.{Term}
use Rattle.behaviour_semantics.specs.Rule.{AreValues}
use Rattle.session_histories.specs.HandedOn.{node_limit, commas, entry_term_text, term_texts}
use Rattle.session_laws.specs.TextNames.{IsOperationSpelling, HasTextNames}
use Rattle.session_laws.specs.TermDepth.{term_depth}
use Rattle.session_laws.specs.TermsReadBack.{IsTermReadBack, AreReadBack}

-- the text of a ground term is read back as this term
abbrev pub TermTextsAreReadBack : Type 0
TermTextsAreReadBack =
    (signature : Signature) → IsWellFormedSignature signature → HasTextNames signature
    → (number sort : ℕ) (t : Term) → IsGroundOf signature sort t → term_depth t ≤ node_limit
    → IsTermReadBack signature number (entry_term_text signature t) sort t

-- the texts of ground terms between commas are read back as these terms
abbrev pub TermListsAreReadBack : Type 0
TermListsAreReadBack =
    (signature : Signature) → IsWellFormedSignature signature → HasTextNames signature
    → (number : ℕ) (sorts : List ℕ) (ts : List Term) → AreValues signature sorts ts
    → ((i : ℕ) (t : Term) → slice_get ts i ≡ Some t → term_depth t ≤ node_limit)
    → AreReadBack signature number (commas (term_texts signature ts)) sorts ts

-- a name of an operation, and so that of a sort, has no blank and is not `=>`
pub record IsPlainSpelling (name : List ℕ) : Type 0 where
  pub no_blank : list_any is_blank name ≡ false
  pub no_arrow : name ≢ codes "=>"

abbrev pub TextNamesArePlain : Type 0
TextNamesArePlain = (name : List ℕ) → IsOperationSpelling name → IsPlainSpelling name
