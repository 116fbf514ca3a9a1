-- The signature that a reader reads over.
use Rattle.lotos_base.specs.Signature.{Signature}
use Rattle.sort_terms.specs.SignatureView.{signature_of}
use Rattle.sort_terms.specs.declared.reader.Reader.{Reader}

-- the signature
abbrev pub signature_read : Reader → Signature
signature_read reader = signature_of reader.signature.now
