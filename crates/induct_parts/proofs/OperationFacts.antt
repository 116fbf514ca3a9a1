-- Operations of the code by their numbers, and the case that one of them makes of a case.
use Rattle.std.proofs.Common.{◌≡◌, ◌<◌, ◌+◌, ◌^◌, ℕ, List, ◌++◌, length, length-append, map, get_or, ap, sym, ◌∙◌, subst, arith, Vec, Global}
use Rattle.std.proofs.lemmas.List.{length-map}
use Rattle.std.proofs.lemmas.Option.{same_Some, slice_get_within}
use Rattle.lotos_base.specs.Signature.{Signature, Operation, IsOperation}
use Rattle.path_order.proofs.ItemLemmas.{operation_at}
use Rattle.sort_terms.specs.Operations.{operation_of}
use Rattle.sort_terms.specs.SignatureView.{signature_of}
use Rattle.sort_terms.specs.declared.operations.Op.{Op}
use Rattle.sort_terms.specs.declared.signatures.Signature.{Signature as CodeSignature}

-- what holds of the operation with a number holds of each that is the one with the number
pub for_operation : (signature : Signature) (f : ℕ) (P : Operation → Type 0) (operation : Operation) → IsOperation signature f operation
    → P operation → (o : Operation) → IsOperation signature f o → P o
for_operation signature f P operation at h o is = subst P (same_Some operation o (sym at ∙ is)) h

-- the number is one of the operations of the code
pub operation_within : (signature : CodeSignature) (ops : List Op) (f : ℕ) (o : Operation) → ops ≡ signature.ops.items
    → IsOperation (signature_of signature) f o → f < length ops
operation_within signature ops f o e at =
    let within : f < length (map operation_of signature.ops.items) = slice_get_within (signature_of signature).operations f o at in
    let same : length (map operation_of signature.ops.items) ≡ length ops =
    length-map signature.ops.items operation_of ∙ ap length (sym e) in
    omega (arith, within, same)

-- and what is read there is its operation
pub operation_read : (signature : CodeSignature) (ops : List Op) (f : ℕ) (op : Op) → ops ≡ signature.ops.items → f < length ops
    → op ≡ get_or ops f op → IsOperation (signature_of signature) f (operation_of op)
operation_read signature ops f op e within is =
    operation_at signature ops f op e (subst (λ (xs : List Op). f < length xs) e within) is

-- the room of a list of two joined ones
pub joined_room : (v : Vec ℕ Global) (xs ys : List ℕ) → v.items ≡ xs ++ ys → length xs + length ys < 2 ^ 63
joined_room v xs ys is =
    let e : length v.items ≡ length xs + length ys = ap length is ∙ length-append xs ys in
    omega (arith, e, v.ok.0, v.ok.1, v.small)
