-- The named cases of a split, one operation of the signature after another.
use Rattle.std.proofs.Common.{◌≡◌, ◌<◌, ◌+◌, ◌++◌, ℕ, List, [], ◌∷◌, Some, slice_get, get_or, length, sym, ◌∙◌}
use Rattle.std.specs.Prelude.{if◌then◌else◌}
use Rattle.std.proofs.lemmas.Option.{get_or_from_slice_get, same_Some}
use Rattle.lotos_base.proofs.Members.{member_at}
use Rattle.lotos_base.specs.Signature.{Signature, Operation, IsOperation}
use Rattle.lotos_base.specs.Substitution.{is_listed}
use Rattle.sort_terms.specs.Operations.{operation_of}
use Rattle.sort_terms.specs.SignatureView.{signature_of}
use Rattle.sort_terms.specs.declared.operations.Op.{Op}
use Rattle.sort_terms.specs.declared.signatures.Signature.{Signature as CodeSignature}
use Rattle.induct_parts.proofs.OperationFacts.{operation_within, operation_read}
use Rattle.induct_parts.proofs.StepLemmas.{IsMadeSoFar, one_more, listed_makes, if_listed, listed_first}
use Rattle.induct_check.specs.CertificateReading.{NamedCase, named_behind}

pub one_case : (signature : Signature) (point : NamedCase) (name : List ℕ) (numbers : List ℕ) (k : ℕ) (made more whole : List NamedCase)
    → k < length signature.operations
    → ((o : Operation) → IsOperation signature k o
    → more ≡ made ++ (if is_listed numbers k then named_behind point name (record { number = k; operation = o }) ∷ [] else []))
    → IsMadeSoFar (listed_makes (named_behind point name) numbers) signature.operations whole k made
    → IsMadeSoFar (listed_makes (named_behind point name) numbers) signature.operations whole (k + 1) more
one_case signature point name numbers k made more whole within added so_far =
    let there : (o : Operation) × (slice_get signature.operations k ≡ Some o) = member_at signature.operations k within in
    one_more (listed_makes (named_behind point name) numbers) (if_listed (named_behind point name) numbers) signature.operations whole
    (listed_first (named_behind point name) numbers) k there.0 made more within
    (sym (get_or_from_slice_get signature.operations k there.0 there.0 there.1)) (added there.0 there.1) so_far

-- the operation of the code that stands at a number of the signature
pub operation_here : (signature : CodeSignature) (ops : List Op) (k : ℕ) (op : Op) (o : Operation) → ops ≡ signature.ops.items
    → op ≡ get_or ops k op → IsOperation (signature_of signature) k o → operation_of op ≡ o
operation_here signature ops k op o same is at =
    same_Some (operation_of op) o
    (sym (operation_read signature ops k op same (operation_within signature ops k o same at) is) ∙ at)
