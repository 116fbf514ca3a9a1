-- Whether a signature is well formed, as a test that computes.
use Rattle.std.specs.Prelude.{ℕ, Bool, true, ◌&&◌, not, nat_eq, nat_lt, List, [], ◌∷◌, length}
use Rattle.std.specs.List.{list_all, list_any}
use Rattle.std.specs.Str.{bytes_eq}
use Rattle.lotos_base.specs.Signature.{Signature, Sort, Operation}
use Rattle.lotos_base.specs.Twins.{form_eq}
use Rattle.sort_terms.specs.ReadingOutcome.{one_name}

-- whether the numbers are below a bound
abbrev pub all_below : ℕ → List ℕ → Bool
all_below bound numbers = list_all (λ (n : ℕ). nat_lt n bound) numbers

-- whether the profile names sorts below a bound
abbrev pub has_known_sorts : ℕ → Operation → Bool
has_known_sorts bound operation = nat_lt operation.result bound && all_below bound operation.arguments

-- whether two sorts have one name
abbrev pub are_one_sort : Sort → Sort → Bool
are_one_sort one other = one_name one.name other.name

-- whether two operations have one name, form and profile
abbrev pub are_one_operation : Operation → Operation → Bool
are_one_operation one other =
    (one_name one.name other.name && form_eq one.form other.form)
    && (bytes_eq one.arguments other.arguments && nat_eq one.result other.result)

-- whether no two members are the same in this sense
abbrev pub all_differ : {A : Type 0} → (A → A → Bool) → List A → Bool
all_differ same [] = true
all_differ same (x ∷ xs) = not (list_any (same x) xs) && all_differ same xs

-- whether the signature is well formed
abbrev pub is_well_formed_signature : Signature → Bool
is_well_formed_signature signature =
    list_all (has_known_sorts (length signature.sorts)) signature.operations
    && (all_differ are_one_sort signature.sorts && all_differ are_one_operation signature.operations)
