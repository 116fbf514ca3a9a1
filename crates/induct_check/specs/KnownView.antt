-- What lines of a certificate are read over: a reader and an index of the signature.
use Rattle.std.specs.Prelude.{◌≡◌, ℕ, List, Some, map}
use Rattle.lotos_base.specs.Name.{spelling}
use Rattle.lotos_base.specs.Signature.{Signature}
use Rattle.sort_terms.specs.NameIndex.{numbers_under}
use Rattle.sort_terms.specs.Positions.{positions_of}
use Rattle.sort_terms.specs.ReaderView.{signature_read}
use Rattle.sort_terms.specs.SignatureView.{signature_of}
use Rattle.certificate_theory.specs.Covers.{cover_of, IsListedIn, HasResult}
use Rattle.induct_parts.specs.HandedOn.{Cover}
use Rattle.induct_check.specs.declared.known.Known.{Known}

-- the signature
abbrev pub known_signature : Known → Signature
known_signature known = signature_of known.signature.now

-- The operations of each cover have its sort as result.
abbrev pub CoversHaveResults : Signature → List Cover → Type 0
CoversHaveResults signature covers = (s f : ℕ) (operations : List ℕ) → cover_of covers s ≡ Some operations
    → IsListedIn operations f → HasResult signature s f

-- The reader and the index are those of the signature.
pub record HasKnownSignature (known : Known) : Type 0 where
  pub reader : signature_read known.reader.now ≡ signature_of known.signature.now
  pub operations : (key : List ℕ) → numbers_under known.operations.now key
      ≡ positions_of key (map (λ o. spelling o.name) known.signature.now.ops.items)
