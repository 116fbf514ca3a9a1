-- The constant `true` that was found.
use Rattle.std.proofs.Common.{◌≡◌, ℕ, zero, suc, ◌<◌, true, ◌&&◌, List, [], ◌∷◌, map, get_or, length, ap, sym, ◌∙◌, subst, arith}
use Rattle.std.specs.Prelude.{Some, nat_eq, codes, slice_get}
use Rattle.std.proofs.lemmas.Bool.{and_parts}
use Rattle.std.proofs.lemmas.Option.{same_Some}
use Rattle.lotos_base.specs.Signature.{Operation, prefix_form}
use Rattle.lotos_base.specs.Twins.{form_eq}
use Rattle.lotos_base.proofs.Pieces.{no_member_by_length}
use Rattle.sort_terms.specs.Operations.{operation_of}
use Rattle.sort_terms.specs.ReadingOutcome.{one_name}
use Rattle.sort_terms.specs.declared.operations.Op.{Op}
use Rattle.scope_parts.specs.Sorts.{is_true}
use Rattle.scope_parts.specs.TermsView.{IsTruthAmong}
use Rattle.scope_parts.specs.declared.truth.Truth.{Truth}

true_arguments : (sort : ℕ) (o : Operation) → is_true sort o ≡ true → o.arguments ≡ []
true_arguments sort o is =
    let parts = and_parts (one_name o.name (codes "true") && form_eq o.form prefix_form)
    (nat_eq (length o.arguments) 0 && nat_eq o.result sort) is in
    no_member_by_length o.arguments (and_parts (nat_eq (length o.arguments) 0) (nat_eq o.result sort) parts.1).0

get_at : (ops : List Op) (i : ℕ) (op : Op) → i < length ops → op ≡ get_or ops i op
    → slice_get (map operation_of ops) i ≡ Some (operation_of op)
get_at [] i op within is = absurd (let no : ⊥ = omega (arith, within) in no)
get_at (x ∷ ops) zero op within is = ap (λ (o : Op). Some (operation_of o)) (sym is)
get_at (x ∷ ops) (suc i) op within is = get_at ops i op (omega (arith, within)) is

pub true_known : (ops : List Op) (sort i : ℕ) (op : Op) (truth found : Truth) → i < length ops → op ≡ get_or ops i op
    → is_true sort (operation_of op) ≡ true → truth.constant ≡ i → operation_of truth.profile.value ≡ operation_of op
    → Some truth ≡ Some found → IsTruthAmong (map operation_of ops) found
true_known ops sort i op truth found within is passes number profile same =
    subst (IsTruthAmong (map operation_of ops)) (same_Some truth found same) (record {
      operation =
          ap (slice_get (map operation_of ops)) number ∙ get_at ops i op within is ∙ ap Some (sym profile);
      constant = ap (λ (o : Operation). o.arguments) profile ∙ true_arguments sort (operation_of op) passes;
    })
