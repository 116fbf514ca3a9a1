-- Environments of binders, made pair by pair.
use Rattle.std.proofs.Common.{◌≡◌, ◌<◌, ◌≤◌, ◌++◌, ℕ, suc, ◌+◌, List, [], ◌∷◌, map, length, drop, get_or, refl, ap, sym, ◌∙◌, subst, add-one}
use Rattle.std.proofs.Math.Seq.{drop-cons}
use Rattle.std.proofs.lemmas.List.{append-nil, drop_all, map-append}
use Rattle.lotos_base.specs.Signature.{Signature}
use Rattle.lotos_base.specs.Term.{Term}
use Rattle.lotos_base.specs.Substitution.{substituted, binding}
use Rattle.behaviour_semantics.specs.Behaviour.{let_variables, let_terms}
use Rattle.behaviour_semantics.proofs.ListLemmas.{Every-append}
use Rattle.sort_terms.specs.ProfiledTerm.{ProfiledTerm, IsOf}
use Rattle.sort_terms.specs.SortedView.{profiled_in, term_in}
use Rattle.sort_terms.specs.declared.equations.Variable.{Variable}
use Rattle.sort_terms.specs.declared.sorted.Sorted.{Sorted}
use Rattle.term_match.specs.SubstView.{profiled_pair, profiled_pairs}
use Rattle.behaviour_tree.specs.BehaviourView.{let_of, terms_of, variables_of}
use Rattle.behaviour_tree.specs.StateView.{environment_of, environment_pair_of}
use Rattle.draft_parts.specs.Environments.{ArePairsOf}
use Rattle.draft_parts.proofs.TurnLemmas.{one_turn, pushed}
use Rattle.draft_parts.specs.BelowLaws.{binder_pairs}

-- one more pair of the signature
pub more_of : (signature : Signature) (pairs more : List (ℕ × Sorted)) (n : ℕ) (value : Sorted) → more ≡ pairs ++ ((n, value) ∷ [])
    → ArePairsOf signature (profiled_pairs pairs) → IsOf signature (profiled_in value) → ArePairsOf signature (profiled_pairs more)
more_of signature pairs more n value e h k =
    subst (ArePairsOf signature) (sym (ap profiled_pairs e ∙ map-append profiled_pair pairs ((n, value) ∷ [])))
    (Every-append (λ (pair : ℕ × ProfiledTerm). IsOf signature pair.1) (profiled_pairs pairs) ((n, profiled_in value) ∷ []) h (k, tt))

module _ (canon : Term → Term) (others : List (ℕ × Term)) where
  pub let_turn : (bindings : List (Variable × Sorted)) (i : ℕ) (b : Variable × Sorted) (pairs more : List (ℕ × Sorted))
      (value : Sorted) (whole : List (ℕ × Term)) → i < length bindings → b ≡ get_or bindings i b
      → more ≡ pairs ++ ((b.0.number, value) ∷ []) → term_in value ≡ canon (substituted (binding others) (term_in b.1))
      → environment_of pairs
      ++ binder_pairs canon (let_variables (map let_of (drop i bindings))) (let_terms (map let_of (drop i bindings))) others
      ≡ whole
      → environment_of more
      ++ binder_pairs canon (let_variables (map let_of (drop (i + 1) bindings))) (let_terms (map let_of (drop (i + 1) bindings))) others
      ≡ whole
  let_turn bindings i b pairs more value whole within is m e before =
      one_turn
      (λ (k : ℕ) (bs : List (Variable × Sorted)). binder_pairs canon (let_variables (map let_of bs)) (let_terms (map let_of bs)) others)
      bindings i b (environment_of pairs) (environment_of more) whole 0 0 within is
      (λ rest. pushed environment_pair_of pairs more (b.0.number, value)
      (b.0.number, canon (substituted (binding others) (term_in b.1))) _ _ m
      (ap (λ (t : Term). (b.0.number, t)) e) refl)
      before

  pub call_turn : (parameters : List Variable) (terms : List Sorted) (i : ℕ) (x : Variable) (t : Sorted)
      (pairs more : List (ℕ × Sorted)) (value : Sorted) (whole : List (ℕ × Term)) → i < length parameters
      → x ≡ get_or parameters i x → i < length terms → t ≡ get_or terms i t → more ≡ pairs ++ ((x.number, value) ∷ [])
      → term_in value ≡ canon (substituted (binding others) (term_in t))
      → environment_of pairs ++ binder_pairs canon (variables_of (drop i parameters)) (terms_of (drop i terms)) others ≡ whole
      → environment_of more ++ binder_pairs canon (variables_of (drop (i + 1) parameters)) (terms_of (drop (i + 1) terms)) others
      ≡ whole
  call_turn parameters terms i x t pairs more value whole within is inside at m e before =
      let first : drop i parameters ≡ x ∷ drop (suc i) parameters =
      drop-cons parameters i x within ∙ ap (λ (y : Variable). y ∷ drop (suc i) parameters) (sym is) in
      let second : drop i terms ≡ t ∷ drop (suc i) terms =
      drop-cons terms i t inside ∙ ap (λ (u : Sorted). u ∷ drop (suc i) terms) (sym at) in
      ap (λ (j : ℕ). environment_of more ++ binder_pairs canon (variables_of (drop j parameters)) (terms_of (drop j terms)) others)
      (add-one i)
      ∙ (pushed environment_pair_of pairs more (x.number, value) (x.number, canon (substituted (binding others) (term_in t))) _ _ m
      (ap (λ (u : Term). (x.number, u)) e) refl
      ∙ (ap (λ (xs : List Variable). environment_of pairs
      ++ binder_pairs canon (variables_of xs) (terms_of (t ∷ drop (suc i) terms)) others)
      (sym first)
      ∙ (ap (λ (ts : List Sorted). environment_of pairs ++ binder_pairs canon (variables_of (drop i parameters)) (terms_of ts) others)
      (sym second) ∙ before)))

  pub let_done : (bindings : List (Variable × Sorted)) (i : ℕ) (pairs : List (ℕ × Sorted)) (whole : List (ℕ × Term)) → length bindings ≤ i
      → environment_of pairs
      ++ binder_pairs canon (let_variables (map let_of (drop i bindings))) (let_terms (map let_of (drop i bindings))) others
      ≡ whole
      → environment_of pairs ≡ whole
  let_done bindings i pairs whole le h =
      sym (append-nil (environment_of pairs))
      ∙ (ap (λ (bs : List (Variable × Sorted)). environment_of pairs
      ++ binder_pairs canon (let_variables (map let_of bs)) (let_terms (map let_of bs)) others) (sym (drop_all i bindings le)) ∙ h)

  pub call_done : (parameters : List Variable) (terms : List Sorted) (i : ℕ) (pairs : List (ℕ × Sorted)) (whole : List (ℕ × Term))
      → length parameters ≤ i
      → environment_of pairs ++ binder_pairs canon (variables_of (drop i parameters)) (terms_of (drop i terms)) others ≡ whole
      → environment_of pairs ≡ whole
  call_done parameters terms i pairs whole le h =
      sym (append-nil (environment_of pairs))
      ∙ (ap (λ (xs : List Variable). environment_of pairs ++ binder_pairs canon (variables_of xs) (terms_of (drop i terms)) others)
      (sym (drop_all i parameters le)) ∙ h)
