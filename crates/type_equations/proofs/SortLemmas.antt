-- Sorts by their names: that there is none, or the number of the one.
use Rattle.std.proofs.Common.{◌≡◌, ℕ, Bool, true, false, List, [], ap, sym, ◌∙◌}
use Rattle.std.specs.Prelude.{◌&&◌, nat_eq, length, codes}
use Rattle.std.specs.List.{list_any}
use Rattle.std.proofs.lemmas.Map.Keys.{any_passes_from_place}
use Rattle.lotos_base.proofs.Bytes.{same_bytes, bytes_same}
use Rattle.lotos_base.specs.Names.{folded}
use Rattle.lotos_base.specs.Signature.{Sort, Operation, prefix_form}
use Rattle.lotos_base.specs.Twins.{form_eq}
use Rattle.type_definitions.specs.DeclaredEquations.{bool_sort, has_truth}
use Rattle.sort_terms.specs.Reading.{IsSortNamed}
use Rattle.sort_terms.specs.ReadingOutcome.{one_name, is_sort_name}
use Rattle.type_definitions.specs.Presentation.{Presentation, first_position}
use Rattle.type_definitions.specs.Declarations.{sort_numbered}
use Rattle.type_definitions.proofs.WithNewLemmas.{position_found}

pub sort_found : (p : Presentation) (name : List ℕ) (n : ℕ) → IsSortNamed p.signature n name
    → ((s : ℕ) → IsSortNamed p.signature s name → s ≡ n) → (is_sort_name p.signature name ≡ true) × (n ≡ sort_numbered p name)
sort_found p name n named only =
    let test : Sort → Bool = λ s. one_name s.name name in
    let there : is_sort_name p.signature name ≡ true =
    any_passes_from_place test p.signature.sorts n named.0 named.1 (bytes_same (folded named.0.name) (folded name) named.2) in
    let first = position_found test p.signature.sorts there in
    (there, sym (only (first_position test p.signature.sorts) (first.0, first.1, same_bytes (folded first.0.name) (folded name) first.2)))

-- ---- The sort `Bool` with its constant `true`.

abbrev is_constant : List ℕ → ℕ → Operation → Bool
is_constant constant sort o =
    (one_name o.name constant && form_eq o.form prefix_form) && (nat_eq (length o.arguments) 0 && nat_eq o.result sort)

pub no_truth : (p : Presentation) (name : List ℕ) → name ≡ codes "Bool" → is_sort_name p.signature name ≡ false → has_truth p ≡ false
no_truth p name is none =
    let gone : is_sort_name p.signature (codes "Bool") ≡ false =
    ap (λ (n : List ℕ). is_sort_name p.signature n) (sym is) ∙ none in
    ap (λ (b : Bool). b && list_any (is_constant (codes "true") (bool_sort p)) p.signature.operations) gone

pub truth_is : (p : Presentation) (name constant : List ℕ) (sort : ℕ) (operations : List Operation) (found : Bool) → name ≡ codes "Bool"
    → constant ≡ codes "true" → is_sort_name p.signature name ≡ true → sort ≡ sort_numbered p name → p.signature.operations ≡ operations
    → found ≡ list_any (is_constant constant sort) operations → has_truth p ≡ found
truth_is p name constant sort operations found is constant-is there at listed told =
    let known : is_sort_name p.signature (codes "Bool") ≡ true =
    ap (λ (n : List ℕ). is_sort_name p.signature n) (sym is) ∙ there in
    let number : sort ≡ bool_sort p = at ∙ ap (λ (n : List ℕ). sort_numbered p n) is in
    ap (λ (b : Bool). b && list_any (is_constant (codes "true") (bool_sort p)) p.signature.operations) known
    ∙ ap (λ (os : List Operation). list_any (is_constant (codes "true") (bool_sort p)) os) listed
    ∙ ap (λ (n : ℕ). list_any (is_constant (codes "true") n) operations) (sym number)
    ∙ ap (λ (n : List ℕ). list_any (is_constant n sort) operations) (sym constant-is) ∙ sym told
