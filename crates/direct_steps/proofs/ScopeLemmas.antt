-- One variable in scope.
use Rattle.std.proofs.Common.{◌≡◌, zero, suc, List, [], ◌∷◌, ◌++◌, sym, ◌∙◌, ap, subst}
use Rattle.std.specs.Prelude.{map}
use Rattle.std.proofs.lemmas.Option.{none-some, same_Some}
use Rattle.lotos_base.specs.Signature.{Signature, IsSort}
use Rattle.sort_terms.specs.EquationView.{variable_of}
use Rattle.sort_terms.specs.Reading.{IsScopeOver}
use Rattle.sort_terms.specs.declared.equations.Variable.{Variable}

one_in_scope : (signature : Signature) (x : Variable) → IsSort signature x.sort → IsScopeOver signature (map variable_of (x ∷ []))
one_in_scope signature x one zero v is = subst (λ w. IsSort signature w.sort) (same_Some (variable_of x) v is) one
one_in_scope signature x one (suc i) v is = absurd (none-some v is)

pub scope_of_one : (signature : Signature) (old new : List Variable) (x : Variable) → old ≡ [] → new ≡ old ++ x ∷ []
    → IsSort signature x.sort → IsScopeOver signature (map variable_of new)
scope_of_one signature old new x none more one =
    subst (λ (xs : List Variable). IsScopeOver signature (map variable_of xs))
    (sym (more ∙ ap (λ (xs : List Variable). xs ++ x ∷ []) none)) (one_in_scope signature x one)
