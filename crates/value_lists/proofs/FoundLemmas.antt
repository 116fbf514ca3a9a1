-- The values of the code, and the lists that they are made into.
use Rattle.std.proofs.Common.{◌≡◌, ℕ, zero, suc, ◌+◌, ◌-◌, ◌<◌, ◌≤◌, List, [], ◌∷◌, ◌++◌, length, get_or, map, drop, nat_eq, refl, ap, sym, ◌∙◌, subst, arith}
use Rattle.std.specs.List.{filter}
use Rattle.std.specs.declared.alloc.Global.{Global}
use Rattle.std.specs.declared.rc.Rc.{Rc}
use Rattle.std.proofs.lemmas.List.{length-map}
use Rattle.lotos_base.specs.Signature.{Signature, Operation}
use Rattle.rewriting_theory.specs.Rewriting.{IsNormal}
use Rattle.rewriting_theory.specs.Rule.{Rule}
use Rattle.behaviour_semantics.specs.WellFormed.{Every}
use Rattle.lotos_base.proofs.Members.{read_map}
use Rattle.path_order.specs.declared.rules.Rules.{Rules}
use Rattle.sort_terms.specs.Operations.{operation_of}
use Rattle.sort_terms.specs.ProfiledTerm.{ProfiledTerm, head_sort, FitsProfiles}
use Rattle.sort_terms.specs.SortedView.{profiled_in, term_in}
use Rattle.sort_terms.specs.TermView.{profiled_of}
use Rattle.sort_terms.specs.declared.operations.Op.{Op}
use Rattle.sort_terms.specs.declared.sorted.Sorted.{Sorted}
use Rattle.sort_terms.specs.declared.terms.Term.{Term}
use Rattle.value_lists.specs.InstanceList.{IsGroundChoice}
use Rattle.value_lists.specs.FoundView.{found_for_each, kept_by, shared_operations_in}
use Rattle.value_lists.specs.Search.{found_for, found_up_to, with_next_operation}
use Rattle.value_lists.specs.TrialView.{profiled_value, values_in}
use Rattle.value_lists.specs.ValueList.{IsValueList, HasMoreValues, HasUpToValues}
use Rattle.value_lists.specs.declared.value.Value.{Value}
use Rattle.value_lists.proofs.SearchLemmas.{trial_of}
use Rattle.value_lists.proofs.TableLemmas.{keeps}
use Rattle.value_lists.proofs.ValuesLemmas.{all_fit, each_full, each_step, full_later, listed_choices, listed_values, up_to_values}

pub fits_at : (values : List Value) (i : ℕ) (value : Value) (copy : Term) → Every FitsProfiles (values_in values) → i < length values
    → value ≡ get_or values i value → profiled_of copy ≡ profiled_of value.term → FitsProfiles (profiled_of copy)
fits_at [] i value copy all within is same = absurd (omega (arith, within))
fits_at (v ∷ values) zero value copy all within is same =
    subst FitsProfiles (sym (same ∙ ap profiled_value is)) all.0
fits_at (v ∷ values) (suc i) value copy all within is same = fits_at values i value copy all.1 (omega (arith, within)) is same

-- The values are those with at most so many operations.
abbrev pub IsUpTo : Signature → List Rule → ℕ → List ProfiledTerm → Type 0
IsUpTo signature rules size values = values ≡ found_up_to (keeps signature rules) signature.operations size

pub all_fit_up_to : (signature : Signature) (rules : List Rule) (n size : ℕ) (values : List ProfiledTerm) → n ≡ size
    → IsUpTo signature rules n values → Every FitsProfiles values
all_fit_up_to signature rules n size values done is = subst (λ (ts : List ProfiledTerm). Every FitsProfiles ts) (sym is)
    (all_fit signature rules n)

pub list_up_to : (signature : Signature) (rules : List Rule) (n size sort : ℕ) (values : List ProfiledTerm) (made : List Sorted) → n ≡ size
    → IsUpTo signature rules n values → map profiled_in made ≡ filter (λ t. nat_eq (head_sort t) sort) values
    → IsValueList signature (IsNormal rules) size sort (map term_in made)
list_up_to signature rules n size sort values made done is made_is =
    listed_values signature rules size sort made
    (made_is ∙ ap (filter (λ t. nat_eq (head_sort t) sort))
    (is ∙ ap (found_up_to (keeps signature rules) signature.operations) done))

pub choices_up_to : (signature : Signature) (rules : List Rule) (n size sort : ℕ) (values : List ProfiledTerm) (made : List Sorted)
    → n ≡ size
    → IsUpTo signature rules n values → map profiled_in made ≡ filter (λ t. nat_eq (head_sort t) sort) values
    → Every (IsGroundChoice signature sort) (map profiled_in made)
choices_up_to signature rules n size sort values made done is made_is =
    listed_choices signature rules size sort made
    (made_is ∙ ap (filter (λ t. nat_eq (head_sort t) sort))
    (is ∙ ap (found_up_to (keeps signature rules) signature.operations) done))

pub few_up_to : (signature : Signature) (rules : List Rule) (n size number : ℕ) (values : List ProfiledTerm) → n ≡ size
    → IsUpTo signature rules n values → length values ≤ number → HasUpToValues signature (IsNormal rules) size number
few_up_to signature rules n size number values done is few =
    let same : length values ≡ length (found_up_to (keeps signature rules) signature.operations size) =
    ap length (is ∙ ap (found_up_to (keeps signature rules) signature.operations) done) in
    up_to_values signature rules size number (omega (arith, same, few))

pub full_up_to : (signature : Signature) (rules : List Rule) (n size number : ℕ) (operations : List Operation) (values : List ProfiledTerm)
    → operations ≡ signature.operations → IsUpTo signature rules n values → n < size
    → number < length (with_next_operation (keeps signature rules) operations n values)
    → HasMoreValues signature (IsNormal rules) size number
full_up_to signature rules n size number operations values same is less full =
    full_later signature rules n size number less
    (subst (λ (ts : List ProfiledTerm). number < length (with_next_operation (keeps signature rules) signature.operations n ts)) is
    (subst (λ (os : List Operation). number < length (with_next_operation (keeps signature rules) os n values)) same full))

pub few_values : (signature : Signature) (rules : List Rule) (n size number : ℕ) (values : List Value) → n ≡ size
    → IsUpTo signature rules n (values_in values) → length values ≤ number → HasUpToValues signature (IsNormal rules) size number
few_values signature rules n size number values done is few =
    let count = length-map values profiled_value in
    few_up_to signature rules n size number (values_in values) done is (omega (arith, count, few))

-- ---- One operation after the other, as the code goes through them

abbrev operation_behind : Rc Op Global → Operation
operation_behind profile = operation_of profile.value

-- the operation with a number, among those that are shared
operation_there : (profiles : List (Rc Op Global)) (i : ℕ) (profile : Rc Op Global) → profile ≡ get_or profiles i profile
    → operation_behind profile ≡ get_or (shared_operations_in profiles) i (operation_behind profile)
operation_there profiles i profile is = ap operation_behind is ∙ sym (read_map operation_behind profiles i profile)

pub next_step : (rules : Rules) (smaller items found more : List Value) (size i : ℕ) (profiles : List (Rc Op Global))
    (profile : Rc Op Global) (whole : List ProfiledTerm) → i < length profiles → profile ≡ get_or profiles i profile → items ≡ smaller
    → values_in more
    ≡ values_in found ++ found_for (trial_of (kept_by rules) (values_in items) i (operation_of profile.value)) size
    → values_in found ++ found_for_each rules (values_in smaller) size i (drop i (shared_operations_in profiles)) ≡ whole
    → values_in more ++ found_for_each rules (values_in smaller) size (i + 1) (drop (i + 1) (shared_operations_in profiles)) ≡ whole
next_step rules smaller items found more size i profiles profile whole within is same added so_far =
    let count = length-map profiles operation_behind in
    each_step (kept_by rules) (values_in smaller) size (shared_operations_in profiles) (values_in found) (values_in more) whole i
    (operation_of profile.value) (omega (arith, within, count)) (operation_there profiles i profile is)
    (added ∙ ap (λ (vs : List Value). values_in found
    ++ found_for (trial_of (kept_by rules) (values_in vs) i (operation_of profile.value)) size) same)
    so_far

pub next_full : (rules : Rules) (smaller items found : List Value) (size i limit room count : ℕ) (profiles : List (Rc Op Global))
    (profile : Rc Op Global) (whole : List ProfiledTerm) → i < length profiles → profile ≡ get_or profiles i profile → items ≡ smaller
    → count ≡ length smaller → length smaller ≤ limit → room ≡ limit - count
    → values_in found ++ found_for_each rules (values_in smaller) size i (drop i (shared_operations_in profiles)) ≡ whole
    → room < length (values_in found ++ found_for (trial_of (kept_by rules) (values_in items) i (operation_of profile.value)) size)
    → limit < length smaller + length whole
next_full rules smaller items found size i limit room count profiles profile whole within is same counted fits rest so_far full =
    let number = length-map profiles operation_behind in
    let more : room < length whole =
    each_full (kept_by rules) (values_in smaller) size (shared_operations_in profiles) (values_in found) whole i room
    (operation_of profile.value) (omega (arith, within, number)) (operation_there profiles i profile is)
    (subst (λ (vs : List Value). room < length (values_in found
    ++ found_for (trial_of (kept_by rules) (values_in vs) i (operation_of profile.value)) size)) same full)
    so_far in
    omega (arith, more, counted, fits, rest)
