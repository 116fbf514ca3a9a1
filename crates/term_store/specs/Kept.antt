-- Chosen forms that are kept by the numbers of their terms.
use Rattle.std.specs.Prelude.{◌≡◌, ◌<◌, ◌⊎◌, ℕ, List, Option, None, Some, length, map}
use Rattle.std.proofs.Common.{get_or}
use Rattle.lotos_base.specs.Term.{Term}
use Rattle.sort_terms.specs.ProfiledTerm.{bare}
use Rattle.path_order.specs.RulesView.{signature_in}
use Rattle.path_order.specs.declared.rules.Rules.{Rules}
use Rattle.path_order.proofs.RulesLemmas.{rules_have_forms}
use Rattle.term_store.specs.Cells.{HaveTermsOf}
use Rattle.term_store.specs.Numbered.{term_at}

-- the number of the form that is kept for the term with the number
abbrev pub kept_at : List (Option ℕ) → ℕ → Option ℕ
kept_at kept n = get_or kept n None

-- the chosen form by the rules
abbrev pub chosen_form : Rules → Term → Term
chosen_form rules t = (rules_have_forms rules t).0

-- A form is kept for the term with the number.
abbrev pub HasKeptForm : List (Option ℕ) → ℕ → Type 0
HasKeptForm kept n = (m : ℕ) × (kept_at kept n ≡ Some m)

-- What is kept after was kept before, but for this form of some terms.
abbrev pub KeepsAtMost : List (Option ℕ) → (ℕ → Type 0) → ℕ → List (Option ℕ) → Type 0
KeepsAtMost before among form after =
    (n m : ℕ) → kept_at after n ≡ Some m → (kept_at before n ≡ Some m) ⊎ (among n × (m ≡ form))

-- A form is kept for each of these terms and for each that had one before.
pub record KeepsFor (before : List (Option ℕ)) (among : ℕ → Type 0) (after : List (Option ℕ)) : Type 0 where
  pub stays : (n : ℕ) → HasKeptForm before n → HasKeptForm after n
  pub brought : (n : ℕ) → among n → HasKeptForm after n

-- the number, or this one where there is none
abbrev pub number_or : ℕ → Option ℕ → ℕ
number_or n None = n
number_or n (Some m) = m

-- the form that is kept for the term, or the term itself where none is
abbrev pub form_or_same : List (Option ℕ) → ℕ → ℕ
form_or_same kept n = number_or n (kept_at kept n)

-- the forms that are kept for the terms
abbrev pub forms_of : List (Option ℕ) → List ℕ → List ℕ
forms_of kept ns = map (form_or_same kept) ns

-- The terms are of the signature of the rules, and what is kept for a term is its chosen form.
pub record IsSoundStore (rules : Rules) (keys : List (List ℕ)) (kept : List (Option ℕ)) : Type 0 where
  pub have : HaveTermsOf (signature_in rules) keys
  pub inside : (n m : ℕ) → kept_at kept n ≡ Some m → n < length keys
  pub within : (n m : ℕ) → kept_at kept n ≡ Some m → m < length keys
  pub chosen : (n m : ℕ) → kept_at kept n ≡ Some m
      → bare (term_at (signature_in rules) keys m) ≡ chosen_form rules (bare (term_at (signature_in rules) keys n))
