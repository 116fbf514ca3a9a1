-- Laws of instances, paths and matching over terms with profiles: they forget their profiles, and stay of a signature.
use Rattle.std.specs.Prelude.{◌≡◌, ℕ, List, Some}
use Rattle.std.specs.Option.{option_map}
use Rattle.lotos_base.specs.Signature.{Signature}
use Rattle.lotos_base.specs.Sorting.{Occurs}
use Rattle.lotos_base.specs.Substitution.{substituted, binding}
use Rattle.lotos_base.specs.Path.{subterm, put_at}
use Rattle.sort_terms.specs.ProfiledTerm.{ProfiledTerm, bare, IsOf}
use Rattle.term_match.specs.ProfiledInstance.{ProfiledSubstitution, profiled_instance, profiled_binding, bare_pairs}
use Rattle.term_match.specs.ProfiledPath.{profiled_subterm, profiled_put_at}

-- an instance without its profiles is the instance of the term without its profiles
abbrev pub InstancesForgetProfiles : Type 0
InstancesForgetProfiles = (values : ProfiledSubstitution) (t : ProfiledTerm)
    → bare (profiled_instance values t) ≡ substituted (λ n s. bare (values n s)) (bare t)

-- and so with the substitution of a list of pairs
abbrev pub BindingsForgetProfiles : Type 0
BindingsForgetProfiles = (pairs : List (ℕ × ProfiledTerm)) (n s : ℕ)
    → bare (profiled_binding pairs n s) ≡ binding (bare_pairs pairs) n s

-- an instance is of a signature where the term is, and what is put for each variable that occurs
abbrev pub InstancesAreOf : Type 0
InstancesAreOf = (signature : Signature) (values : ProfiledSubstitution) (t : ProfiledTerm) → IsOf signature t
    → ((n s : ℕ) → Occurs n s (bare t) → IsOf signature (values n s)) → IsOf signature (profiled_instance values t)

-- a subterm without its profiles is the subterm of the term without its profiles
abbrev pub SubtermsForgetProfiles : Type 0
SubtermsForgetProfiles = (path : List ℕ) (t : ProfiledTerm)
    → option_map bare (profiled_subterm path t) ≡ subterm path (bare t)

-- and so is a replacement
abbrev pub ReplacementsForgetProfiles : Type 0
ReplacementsForgetProfiles = (path : List ℕ) (part t : ProfiledTerm)
    → option_map bare (profiled_put_at path part t) ≡ put_at path (bare part) (bare t)

-- a subterm is of each signature that the term is of
abbrev pub SubtermsAreOf : Type 0
SubtermsAreOf = (signature : Signature) (path : List ℕ) (t part : ProfiledTerm) → IsOf signature t
    → profiled_subterm path t ≡ Some part → IsOf signature part

-- a term is of a signature after a replacement where it was before, and the part is
abbrev pub ReplacementsAreOf : Type 0
ReplacementsAreOf = (signature : Signature) (path : List ℕ) (part t whole : ProfiledTerm) → IsOf signature t
    → IsOf signature part → profiled_put_at path part t ≡ Some whole → IsOf signature whole
