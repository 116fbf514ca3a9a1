-- Data without equations: terms are equal exactly where they are identical, so identity is a canon.
use Rattle.std.specs.Prelude.{◌≡◌, [], refl}
use Rattle.std.proofs.lemmas.Option.{none-some}
use Rattle.lotos_base.specs.Signature.{Signature}
use Rattle.lotos_base.specs.Term.{Term}
use Rattle.lotos_base.specs.Equation.{Data}
use Rattle.lotos_base.specs.Equality.{Equal, same_term, link_then}
use Rattle.lotos_base.specs.Canon.{IsCanon}

-- the data with this signature and no equation
abbrev pub data_without_equations : Signature → Data
data_without_equations signature = record { signature = signature; equations = [] }

equal_is_identical : {signature : Signature} {t u : Term} → Equal (data_without_equations signature) t u → t ≡ u
equal_is_identical (same_term t) = refl
equal_is_identical (link_then l chain) = absurd (none-some l.equation l.is_equation.1)

pub identity_is_canon : (signature : Signature) → IsCanon (data_without_equations signature) (λ t. t)
identity_is_canon signature = record {
  sorts = λ t s h. h;
  instances = λ t values h g. same_term _;
  decides = λ t u s g h e. equal_is_identical e;
  settled = λ t h. refl;
  occurring = λ t n s h o. o;
  variables = λ n s. refl;
  substitutes = λ t values h k. refl;
  renames = λ t number h k. refl;
}
