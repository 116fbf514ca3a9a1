-- The parts of a split, one operation of the signature after another.
use Rattle.std.proofs.Common.{◌≡◌, ◌<◌, ◌≤◌, ℕ, ◌+◌, List, [], ◌∷◌, ◌++◌, Bool, true, false, length, refl, ap, sym, ◌∙◌, subst}
use Rattle.std.proofs.lemmas.List.{length-map}
use Rattle.std.specs.Prelude.{Some, slice_get, if◌then◌else◌}
use Rattle.std.proofs.lemmas.Option.{same_Some, get_or_from_slice_get}
use Rattle.lotos_base.proofs.Members.{member_at}
use Rattle.lotos_base.specs.Signature.{Signature, Operation, IsOperation}
use Rattle.lotos_base.specs.Substitution.{is_listed}
use Rattle.sort_terms.specs.Operations.{operation_of}
use Rattle.sort_terms.specs.SignatureView.{signature_of}
use Rattle.sort_terms.specs.declared.operations.Op.{Op}
use Rattle.sort_terms.specs.declared.signatures.Signature.{Signature as CodeSignature}
use Rattle.certificate_theory.specs.Covers.{Numbered, IsListedIn, HasResult}
use Rattle.induct_parts.proofs.StepLemmas.{IsMadeSoFar, one_more, listed_makes, if_listed, listed_first}

-- numbers of operations of the code are those of the signature
pub within_operations : (signature : CodeSignature) (ops : List Op) (k : ℕ) → ops ≡ signature.ops.items → k < length ops
    → k < length (signature_of signature).operations
within_operations signature ops k e within =
    subst (λ (n : ℕ). k < n) (ap length e ∙ sym (length-map signature.ops.items operation_of)) within

pub past_operations : (signature : CodeSignature) (ops : List Op) (k : ℕ) → ops ≡ signature.ops.items → length ops ≤ k
    → length (signature_of signature).operations ≤ k
past_operations signature ops k e past =
    subst (λ (n : ℕ). n ≤ k) (ap length e ∙ sym (length-map signature.ops.items operation_of)) past

-- Each of the operations has the sort as result.
abbrev pub HaveResult : Signature → ℕ → List ℕ → Type 0
HaveResult signature s numbers = (f : ℕ) → IsListedIn numbers f → HasResult signature s f

one_result : (signature : Signature) (s k : ℕ) (o : Operation) → IsOperation signature k o → HasResult signature s k → o.result ≡ s
one_result signature s k o at has =
    ap (λ (p : Operation). p.result) (same_Some o has.0 (sym at ∙ has.1)) ∙ has.2

-- what holds of the sort holds of the result of an operation that is listed
pub listed_operation : (P : ℕ → Type 0) (signature : Signature) (numbers : List ℕ) (s k : ℕ) → k < length signature.operations
    → HaveResult signature s numbers → P s
    → (o : Operation) × IsOperation signature k o × (IsListedIn numbers k → P o.result)
listed_operation P signature numbers s k within results h =
    let at = member_at signature.operations k within in
    (at.0, at.1, (λ among. subst P (sym (one_result signature s k at.0 at.1 (results k among))) h))

-- one operation more
pub parts_more : {Y : Type 0} (make : ℕ → Numbered → Y) (signature : Signature) (numbers : List ℕ) (s k : ℕ) (made more whole : List Y)
    → k < length signature.operations → HaveResult signature s numbers
    → ((o : Operation) → IsOperation signature k o
    → more ≡ made ++ (if is_listed numbers k then make o.result (record { number = k; operation = o }) ∷ [] else []))
    → IsMadeSoFar (listed_makes (make s) numbers) signature.operations whole k made
    → IsMadeSoFar (listed_makes (make s) numbers) signature.operations whole (k + 1) more
parts_more {Y = Y} make signature numbers s k made more whole within results added so_far =
    one_more (listed_makes (make s) numbers) (if_listed (make s) numbers) signature.operations whole
    (listed_first (make s) numbers) k o made more within (sym (get_or_from_slice_get signature.operations k o o at)) this so_far
  where
    there : (o : Operation) × (slice_get signature.operations k ≡ Some o)
    there = member_at signature.operations k within

    o : Operation
    o = there.0

    at : IsOperation signature k o
    at = there.1

    sorted : (b : Bool) → is_listed numbers k ≡ b
        → (if b then make o.result (record { number = k; operation = o }) ∷ [] else [])
        ≡ (if b then make s (record { number = k; operation = o }) ∷ [] else [])
    sorted true e =
        ap (λ (q : ℕ). make q (record { number = k; operation = o }) ∷ []) (one_result signature s k o at (results k e))
    sorted false e = refl

    this : more ≡ made ++ if_listed (make s) numbers k o
    this = added o at ∙ ap (λ (ys : List Y). made ++ ys) (sorted (is_listed numbers k) refl)
