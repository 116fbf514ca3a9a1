-- What the steps of a walk need besides: places, options, and environments without values.
use Rattle.std.proofs.Common.{◌≡◌, ◌≤◌, ◌+◌, ℕ, suc, List, [], ◌∷◌, length, nat_lt, Bool, true, false, if◌then◌else◌, inr, refl, ap, sym, ◌∙◌, subst, ltb-true, arith}
use Rattle.std.proofs.Math.Path.{fun_ext}
use Rattle.std.proofs.lemmas.Option.{none-some}
use Rattle.lotos_base.specs.Equation.{Variable}
use Rattle.lotos_base.specs.Signature.{Signature}
use Rattle.lotos_base.specs.Substitution.{binding, is_listed, Substitution, without}
use Rattle.lotos_base.specs.Term.{variable}
use Rattle.behaviour_semantics.specs.Behaviour.{Behaviour, enable, numbers_of, Specification}
use Rattle.behaviour_semantics.specs.Replacement.{with_values}
use Rattle.behaviour_semantics.specs.Shape.{Shape}
use Rattle.behaviour_semantics.specs.WellFormed.{IsClosedBehaviour}
use Rattle.behaviour_semantics.proofs.ReplacementLemmas.{unchanged}
use Rattle.sort_terms.specs.declared.sorted.Sorted.{Sorted}
use Rattle.behaviour_tree.specs.BehaviourView.{terms_of}
use Rattle.behaviour_tree.specs.Closed.{AreGroundValues, IsClosedUnder}
use Rattle.behaviour_tree.specs.StateView.{environment_of}
use Rattle.behaviour_tree.proofs.FreeLemmas.{free_in_scope}
use Rattle.step_parts.specs.StepFaults.{greatest_number, kept_number}
use Rattle.step_parts.specs.declared.faults.At.{At}
use Rattle.step_taker.specs.Stands.{stand}
use Rattle.step_taker.specs.Walked.{IsThere}

-- two parts one after the other
pub two_as : {A B : Type 0} (f : A → A → B) (a b c d : A) → a ≡ b → c ≡ d → f a c ≡ f b d
two_as f a b c d e h = ap (λ x. f x c) e ∙ ap (λ x. f b x) h

-- numbers of nodes and of leaves
own_number : (n : ℕ) → n ≤ greatest_number → n ≡ kept_number n
own_number n le = by (nat_lt greatest_number n) refl
  where
    by : (b : Bool) → nat_lt greatest_number n ≡ b → n ≡ (if b then greatest_number else n)
    by true e = absurd (omega (arith, le, ltb-true greatest_number n e))
    by false e = refl

pub own_place : (b : Behaviour) (s : Shape) (at : At) → at.node ≤ greatest_number → IsThere (stand b s at.node at.leaf) b s at
own_place b s at le = record { behaviour = refl; same_shape = refl; node = own_number at.node le; leaf = refl }

pub place_behind : (n s : ℕ) → suc n + s ≡ suc (n + s)
place_behind n s = omega arith

pub place_nodes : (n s : ℕ) → n + suc s ≡ suc n + s
place_nodes n s = omega arith

pub place_after : (k l : ℕ) → k + suc l ≡ suc k + l
place_after k l = omega arith

same_length : (leaves : List Sorted) → length (terms_of leaves) ≡ length leaves
same_length [] = refl
same_length (v ∷ leaves) = ap suc (same_length leaves)

pub within_terms : (leaves : List Sorted) (k : ℕ) → k ≤ length leaves → k ≤ length (terms_of leaves)
within_terms leaves k le = subst (λ (n : ℕ). k ≤ n) (sym (same_length leaves)) le

pub leaves_there : (leaves : List Sorted) (k : ℕ) → k ≤ length (terms_of leaves) → k ≤ length leaves
leaves_there leaves k le = subst (λ (n : ℕ). k ≤ n) (same_length leaves) le

-- no values under a binder
left_alone_all : (numbers : List ℕ) → without numbers (binding []) ≡ variable
left_alone_all numbers = fun_ext (λ n. fun_ext (λ s. by n s (is_listed numbers n)))
  where
    by : (n s : ℕ) (b : Bool) → (if b then variable n s else variable n s) ≡ variable n s
    by n s true = refl
    by n s false = refl

pub nothing_put : (variables : List Variable) (pairs : List (ℕ × Sorted)) (b : Behaviour) → pairs ≡ []
    → with_values (without (numbers_of variables) (binding (environment_of pairs))) b ≡ b
nothing_put variables pairs b e =
    ap (λ (ps : List (ℕ × Sorted)). with_values (without (numbers_of variables) (binding (environment_of ps))) b) e
    ∙ (ap (λ (values : Substitution). with_values values b) (left_alone_all (numbers_of variables)) ∙ unchanged b)

-- a closed `>>` has a right side that nothing has to close under its binder
pub closed_by_none : (signature : Signature) (specification : Specification) (variables : List Variable) (pairs : List (ℕ × Sorted))
    (left right : Behaviour) → pairs ≡ [] → IsClosedBehaviour signature specification (enable left variables right)
    → IsClosedUnder variables pairs right
closed_by_none signature specification variables pairs left right e closed = record {
  given = λ n s bound free. absurd (none-some s (free_in_scope signature n s (length specification.gate_names) specification.processes []
      (enable left variables right) closed (inr (bound, free))));
  grounded = subst (λ (ps : List (ℕ × Sorted)). AreGroundValues ps) (sym e) tt;
}
