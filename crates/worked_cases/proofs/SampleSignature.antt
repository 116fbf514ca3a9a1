-- The sample signature is well formed: its sorts and operations have different names.
use Rattle.std.proofs.Common.{◌≡◌, ℕ, List, [], ◌∷◌, refl, arith}
use Rattle.std.specs.Prelude.{Some, slice_get}
use Rattle.lotos_base.specs.Signature.{Sort, Operation, IsSort, IsWellFormedSignature}
use Rattle.lotos_base.proofs.ExampleHelpers.{one_named}
use Rattle.lotos_base.proofs.Each.{each_member}
use Rattle.worked_cases.specs.BehaviourSamples.{sample_signature}

bool_in : IsSort sample_signature 0
bool_in = omega arith

nat_in : IsSort sample_signature 1
nat_in = omega arith

-- the sorts of no argument, of one of sort Nat, and of two
abbrev ArgumentsIn : List ℕ → Type 0
ArgumentsIn arguments = (i s : ℕ) → slice_get arguments i ≡ Some s → IsSort sample_signature s

no_argument_in : ArgumentsIn []
no_argument_in i s e = cc

one_argument_in : ArgumentsIn (1 ∷ [])
one_argument_in i s e = each_member (IsSort sample_signature) (1 ∷ []) i s (nat_in, tt) e

two_arguments_in : ArgumentsIn (1 ∷ 1 ∷ [])
two_arguments_in i s e = each_member (IsSort sample_signature) (1 ∷ 1 ∷ []) i s (nat_in, (nat_in, tt)) e

pub sample_signature_is_well_formed : IsWellFormedSignature sample_signature
sample_signature_is_well_formed = record {
  results = λ f o e. each_member (λ (o : Operation). IsSort sample_signature o.result) sample_signature.operations f o
      (nat_in, (nat_in, (bool_in, (bool_in, (nat_in, (bool_in, tt)))))) e;
  arguments = λ f i s o e d. each_member (λ (o : Operation). ArgumentsIn o.arguments) sample_signature.operations f o
      (no_argument_in, (one_argument_in, (no_argument_in, (two_arguments_in, (two_arguments_in, (no_argument_in, tt)))))) e i s d;
  sort_names = λ i j s t e d a. one_named (λ (s : Sort). s.name) sample_signature.sorts i j s t refl e d a;
  profiles = λ f g o p e d name form arguments result. one_named (λ (o : Operation). o.name) sample_signature.operations f g o p refl e
      d name;
}
