-- Environments without listed variables leave these variables.
use Rattle.std.proofs.Common.{◌≡◌, ℕ, List, [], ◌∷◌, Bool, true, false, nat_eq, if◌then◌else◌, refl, ap, sym, ◌∙◌, subst}
use Rattle.std.proofs.Math.Path.{fun_ext}
use Rattle.std.proofs.lemmas.Bool.{eqb-true}
use Rattle.event_offers.proofs.ValueLemmas.{pairs_bare}
use Rattle.lotos_base.specs.Equation.{Variable}
use Rattle.lotos_base.specs.Term.{Term, variable}
use Rattle.lotos_base.specs.Substitution.{binding, is_listed, without}
use Rattle.behaviour_semantics.specs.Behaviour.{numbers_of}
use Rattle.sort_terms.specs.ProfiledTerm.{ProfiledTerm, profiled_variable, bare, head_sort}
use Rattle.sort_terms.specs.declared.sorted.Sorted.{Sorted}
use Rattle.term_match.specs.ProfiledInstance.{profiled_binding}
use Rattle.term_match.specs.SubstView.{profiled_pairs}
use Rattle.term_match.proofs.InstanceLemmas.{binding_bare}
use Rattle.behaviour_tree.specs.StateView.{environment_of}
use Rattle.behaviour_instances.specs.Suited.{SuitsWhere}
use Rattle.behaviour_instances.specs.Unlisted.{profiled_without, unlisted_pairs}

-- what an environment puts for a variable
pub put_for : (pairs : List (ℕ × Sorted)) (n s : ℕ) → bare (profiled_binding (profiled_pairs pairs) n s)
    ≡ binding (environment_of pairs) n s
put_for pairs n s =
    binding_bare (profiled_pairs pairs) n s ∙ ap (λ (ps : List (ℕ × Term)). binding ps n s) (pairs_bare pairs)

module _ (numbers : List ℕ) (n s : ℕ) where
  gives : (pairs : List (ℕ × ProfiledTerm))
      → profiled_binding (unlisted_pairs numbers pairs) n s ≡ profiled_without numbers (profiled_binding pairs) n s
  gives [] = both (is_listed numbers n)
    where
      both : (b : Bool) → profiled_variable n s ≡ (if b then profiled_variable n s else profiled_variable n s)
      both true = refl
      both false = refl
  gives (pair ∷ pairs) = step (is_listed numbers pair.0) refl (nat_eq pair.0 n) refl (gives pairs)
    where
      listed_here : (b : Bool) → is_listed numbers pair.0 ≡ b → nat_eq pair.0 n ≡ true → is_listed numbers n ≡ b
      listed_here b l e = subst (λ (m : ℕ). is_listed numbers m ≡ b) (eqb-true pair.0 n e) l

      step : (listed : Bool) → is_listed numbers pair.0 ≡ listed → (same : Bool) → nat_eq pair.0 n ≡ same
          → profiled_binding (unlisted_pairs numbers pairs) n s ≡ profiled_without numbers (profiled_binding pairs) n s
          → profiled_binding (if listed then unlisted_pairs numbers pairs else pair ∷ unlisted_pairs numbers pairs) n s
          ≡ (if is_listed numbers n then profiled_variable n s else (if same then pair.1 else profiled_binding pairs n s))
      step true l true e rest =
          rest ∙ (ap (λ (b : Bool). if b then profiled_variable n s else profiled_binding pairs n s) (listed_here true l e)
          ∙ sym (ap (λ (b : Bool). if b then profiled_variable n s else pair.1) (listed_here true l e)))
      step true l false e rest = rest
      step false l true e rest =
          ap (λ (b : Bool). if b then pair.1 else profiled_binding (unlisted_pairs numbers pairs) n s) e
          ∙ sym (ap (λ (b : Bool). if b then profiled_variable n s else pair.1) (listed_here false l e))
      step false l false e rest =
          ap (λ (b : Bool). if b then pair.1 else profiled_binding (unlisted_pairs numbers pairs) n s) e ∙ rest

module _ (numbers : List ℕ) (made given : List (ℕ × Sorted))
    (is : profiled_pairs made ≡ unlisted_pairs numbers (profiled_pairs given)) where
  profiled_for : (n s : ℕ)
      → profiled_binding (profiled_pairs made) n s ≡ profiled_without numbers (profiled_binding (profiled_pairs given)) n s
  profiled_for n s = ap (λ (ps : List (ℕ × ProfiledTerm)). profiled_binding ps n s) is ∙ gives numbers n s (profiled_pairs given)

  pub left_profiled : profiled_binding (profiled_pairs made) ≡ profiled_without numbers (profiled_binding (profiled_pairs given))
  left_profiled = fun_ext (λ n. fun_ext (λ s. profiled_for n s))

  pub left_plain : binding (environment_of made) ≡ without numbers (binding (environment_of given))
  left_plain = fun_ext (λ n. fun_ext (λ s. sym (put_for made n s) ∙ (ap bare (profiled_for n s) ∙ by n s (is_listed numbers n))))
    where
      by : (n s : ℕ) (b : Bool) → bare (if b then profiled_variable n s else profiled_binding (profiled_pairs given) n s)
          ≡ (if b then variable n s else binding (environment_of given) n s)
      by n s true = refl
      by n s false = put_for given n s

-- Where nothing is bound the environment stays.
module _ (variables : List Variable) (pairs : List (ℕ × Sorted)) (none : variables ≡ []) where
  pub none_profiled : profiled_binding (profiled_pairs pairs)
      ≡ profiled_without (numbers_of variables) (profiled_binding (profiled_pairs pairs))
  none_profiled =
      ap (λ (vs : List Variable). profiled_without (numbers_of vs) (profiled_binding (profiled_pairs pairs))) (sym none)

  pub none_plain : binding (environment_of pairs) ≡ without (numbers_of variables) (binding (environment_of pairs))
  none_plain = ap (λ (vs : List Variable). without (numbers_of vs) (binding (environment_of pairs))) (sym none)

-- An environment that suits what stands outside a binder suits what the binder leaves free inside.
pub suits_below : (numbers : List ℕ) (inner outer : List (ℕ × Sorted)) (Inside : ℕ → ℕ → Type 0)
    → profiled_binding (profiled_pairs inner) ≡ profiled_without numbers (profiled_binding (profiled_pairs outer))
    → SuitsWhere (profiled_pairs outer) (λ n s. (is_listed numbers n ≡ false) × Inside n s)
    → SuitsWhere (profiled_pairs inner) Inside
suits_below numbers inner outer Inside is suits n s o =
    ap (λ (v : ℕ → ℕ → ProfiledTerm). head_sort (v n s)) is ∙ by (is_listed numbers n) refl
  where
    by : (b : Bool) → is_listed numbers n ≡ b
        → head_sort (if b then profiled_variable n s else profiled_binding (profiled_pairs outer) n s) ≡ s
    by true l = refl
    by false l = suits n s (l, o)
