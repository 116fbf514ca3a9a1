-- The signature that a signature of the code stands for.
use Rattle.std.specs.Prelude.{Bool, List}
use Rattle.lotos_base.specs.Signature.{Signature as PlainSignature}
use Rattle.sort_terms.specs.Operations.{signature_listing}
use Rattle.sort_terms.specs.declared.signatures.Signature.{Signature}

-- the signature
abbrev pub signature_of : Signature → PlainSignature
signature_of signature = signature_listing signature.sorts.items signature.ops.items

-- whether each of the first operations has a twin
abbrev pub twin_marks_of : Signature → List Bool
twin_marks_of signature = signature.twins.items
