-- Tests that compute for the worked cases: the rules of equations, and the chosen form within a number of rounds.
use Rattle.std.proofs.Common.{◌≡◌, ℕ, zero, suc, List, [], ◌∷◌, Bool, true, false, refl, subst}
use Rattle.std.specs.Prelude.{Option, Some, None, if◌then◌else◌}
use Rattle.std.specs.Option.{option_map, option_and_then}
use Rattle.std.proofs.lemmas.Option.{same_Some}
use Rattle.lotos_base.specs.Term.{Term, variable, node, Terms, no_terms, term_then}
use Rattle.lotos_base.specs.Tests.{term_eq}
use Rattle.lotos_base.specs.Substitution.{substituted}
use Rattle.lotos_base.proofs.TestLemmas.{Decides-term_eq}
use Rattle.rewriting_theory.specs.Rule.{Rule}
use Rattle.rewriting_theory.specs.Matching.{Matches, NoMatch, FirstStep}
use Rattle.rewriting_theory.specs.ChosenForm.{Chosen, chosen_variable, chosen_done, chosen_next, AllChosen, all_chosen, chosen_then}
use Rattle.rewriting_theory.proofs.MatchLemmas.{matching, matching_matches, no_match_then, first_step_later, first_step_here, no_rule}

-- ---- chosen forms

-- what the first rule that matches makes of the term
abbrev pub first_result : List Rule → Term → Option Term
first_result [] t = None
first_result (rule ∷ rules) t =
    if term_eq (substituted (matching rule.left t) rule.left) t
    then Some (substituted (matching rule.left t) rule.right)
    else first_result rules t

abbrev all_by : (Term → Option Term) → Terms → Option Terms
all_by choose no_terms = Some no_terms
all_by choose (term_then t ts) = option_and_then (λ u. option_map (λ us. term_then u us) (all_by choose ts)) (choose t)

abbrev go_on : (Term → Option Term) → Term → Option Term → Option Term
go_on choose done None = Some done
go_on choose done (Some next) = choose next

-- the chosen form, if it is found within so many rounds
abbrev pub chosen_within : ℕ → List Rule → Term → Option Term
chosen_within zero rules t = None
chosen_within (suc n) rules (variable m s) = Some (variable m s)
chosen_within (suc n) rules (node f ts) =
    option_and_then (λ us. go_on (chosen_within n rules) (node f us) (first_result rules (node f us)))
    (all_by (chosen_within n rules) ts)

-- what such a result means
abbrev FirstMeans : List Rule → Term → Option Term → Type 0
FirstMeans rules t None = NoMatch rules t
FirstMeans rules t (Some u) = FirstStep rules t u

not_matched : (l t : Term) → term_eq (substituted (matching l t) l) t ≡ false → Matches l t → ⊥
not_matched l t e found =
    let same : term_eq (substituted (matching l t) l) t ≡ true =
    (Decides-term_eq (substituted (matching l t) l) t).1 (matching_matches found.0 l t found.1) in
    cc

first_means : (rules : List Rule) (t : Term) → FirstMeans rules t (first_result rules t)
first_means [] t = no_rule t
first_means (rule ∷ rules) t = go (term_eq (substituted (matching rule.left t) rule.left) t) refl (first_means rules t)
  where
    later : (o : Option Term) → (Matches rule.left t → ⊥) → FirstMeans rules t o → FirstMeans (rule ∷ rules) t o
    later None none means = no_match_then rule rules t none means
    later (Some u) none means = first_step_later rule rules t u none means

    go : (found : Bool) → term_eq (substituted (matching rule.left t) rule.left) t ≡ found → FirstMeans rules t (first_result rules t)
        → FirstMeans (rule ∷ rules) t (if found then Some (substituted (matching rule.left t) rule.right) else first_result rules t)
    go true e means =
        let same = (Decides-term_eq (substituted (matching rule.left t) rule.left) t).0 e in
        first_step_here rule rules t (matching rule.left t, same)
    go false e means = later (first_result rules t) (not_matched rule.left t e) means

all_means : (rules : List Rule) (choose : Term → Option Term) → ((t u : Term) → choose t ≡ Some u → Chosen rules t u)
    → (ts us : Terms) → all_by choose ts ≡ Some us → AllChosen rules ts us
all_means rules choose one no_terms us e = subst (λ (ws : Terms). AllChosen rules no_terms ws) (same_Some no_terms us e) all_chosen
all_means rules choose one (term_then t ts) us e = go (all_means rules choose one ts) (choose t) refl e
  where
    inner : ((vs : Terms) → all_by choose ts ≡ Some vs → AllChosen rules ts vs) → (u : Term) → choose t ≡ Some u
        → (rest : Option Terms) → all_by choose ts ≡ rest → option_map (λ vs. term_then u vs) rest ≡ Some us
        → AllChosen rules (term_then t ts) us
    inner others u eu None er h = cc
    inner others u eu (Some vs) er h =
        subst (λ (ws : Terms). AllChosen rules (term_then t ts) ws) (same_Some (term_then u vs) us h)
        (chosen_then (one t u eu) (others vs er))

    go : ((vs : Terms) → all_by choose ts ≡ Some vs → AllChosen rules ts vs) → (o : Option Term) → choose t ≡ o
        → option_and_then (λ u. option_map (λ us. term_then u us) (all_by choose ts)) o ≡ Some us
        → AllChosen rules (term_then t ts) us
    go others None eo h = cc
    go others (Some u) eo h = inner others u eo (all_by choose ts) refl h

-- the form that is found is the chosen one
pub chosen_found : (n : ℕ) (rules : List Rule) (t u : Term) → chosen_within n rules t ≡ Some u → Chosen rules t u
chosen_found zero rules t u e = cc
chosen_found (suc n) rules (variable m s) u e =
    subst (λ (w : Term). Chosen rules (variable m s) w) (same_Some (variable m s) u e) chosen_variable
chosen_found (suc n) rules (node f ts) u e = go (chosen_found n rules) (all_by (chosen_within n rules) ts) refl e
  where
    step : (us : Terms) → AllChosen rules ts us → (o : Option Term) → FirstMeans rules (node f us) o
        → go_on (chosen_within n rules) (node f us) o ≡ Some u → ((v : Term) → chosen_within n rules v ≡ Some u → Chosen rules v u)
        → Chosen rules (node f ts) u
    step us all None means h next = subst (λ (w : Term). Chosen rules (node f ts) w) (same_Some (node f us) u h) (chosen_done all means)
    step us all (Some v) means h next = chosen_next all means (next v h)

    go : ((t u : Term) → chosen_within n rules t ≡ Some u → Chosen rules t u) → (o : Option Terms)
        → all_by (chosen_within n rules) ts ≡ o
        → option_and_then (λ us. go_on (chosen_within n rules) (node f us) (first_result rules (node f us))) o ≡ Some u
        → Chosen rules (node f ts) u
    go inner None eo h = cc
    go inner (Some us) eo h =
        step us (all_means rules (chosen_within n rules) inner ts us eo) (first_result rules (node f us))
        (first_means rules (node f us)) h (λ v found. inner v u found)
