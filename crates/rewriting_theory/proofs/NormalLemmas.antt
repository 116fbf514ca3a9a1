-- Where rewriting is confluent, a function that gives each term an irreducible term that it reaches is a canon.
use Rattle.std.proofs.Common.{◌≡◌, ℕ, List, refl, ap, sym, ◌∙◌, subst, inl, inr}
use Rattle.lotos_base.specs.Term.{Term, variable}
use Rattle.lotos_base.specs.Sorting.{IsTermOf, Occurs}
use Rattle.lotos_base.specs.Substitution.{Substitution, substituted, renaming, IsGrounding}
use Rattle.lotos_base.specs.Equation.{Data, HasSortedSides}
use Rattle.lotos_base.specs.Equality.{Link, Equal, same_term, link_then}
use Rattle.lotos_base.specs.Canon.{KeepsApart, IsCanon}
use Rattle.lotos_base.proofs.SubstitutionLemmas.{substituted_sort, instance_ground}
use Rattle.lotos_base.proofs.EqualityLemmas.{equal_back}
use Rattle.rewriting_theory.specs.Rule.{Rule, AreWellFormedRules, AreRulesOf, AreSortedRulesOf}
use Rattle.rewriting_theory.specs.Reduction.{Reaches, IsIrreducible, IsConfluent}
use Rattle.rewriting_theory.specs.Rewriting.{AreConfluent}
use Rattle.rewriting_theory.specs.NormalForm.{Normalises}
use Rattle.rewriting_theory.specs.Step.{Step}
use Rattle.rewriting_theory.proofs.NewmanLemmas.{reaches_then, reaches_once, irreducible_stays, one_normal_form}
use Rattle.rewriting_theory.proofs.ChosenLemmas.{variable_stuck}
use Rattle.rewriting_theory.proofs.PublicLemmas.{reaches_by_steps, stuck_by_steps, confluent_by_steps}
use Rattle.rewriting_theory.proofs.StepLemmas.{step_substituted, reaches_substituted, values_reach}
use Rattle.rewriting_theory.proofs.RenamedLemmas.{undoing, undone}
use Rattle.rewriting_theory.proofs.SortedSteps.{reaches_sort, reaches_occurs}
use Rattle.rewriting_theory.proofs.PlaceLemmas.{step_of_link}
use Rattle.rewriting_theory.proofs.LinkSteps.{LinkIs, link_is, reaches_equal}

-- The function gives each term an irreducible term that it reaches by steps.
pub record NormalisesBySteps (rules : List Rule) (canon : Term → Term) : Type 0 where
  pub reached : (t : Term) → Reaches (Step rules) t (canon t)
  pub stuck : (t : Term) → IsIrreducible (Step rules) (canon t)

pub normalises_by_steps : {rules : List Rule} (canon : Term → Term) → Normalises rules canon → NormalisesBySteps rules canon
normalises_by_steps canon normal = record {
  reached = λ t. reaches_by_steps (normal.reached t);
  stuck = λ t. stuck_by_steps (normal.irreducible t);
}

-- ---- renamings

-- a renamed irreducible term is irreducible
pub renamed_stuck : {rules : List Rule} (number : ℕ → ℕ → ℕ) (t u : Term) → KeepsApart number t
    → ((n s : ℕ) → Occurs n s u → Occurs n s t) → IsIrreducible (Step rules) u
    → IsIrreducible (Step rules) (substituted (renaming number) u)
renamed_stuck {rules = rules} number t u keeps occurring stuck v step =
    stuck (substituted (undoing number t) v)
    (subst (λ (w : Term). Step rules w (substituted (undoing number t) v)) (undone number t u keeps occurring)
    (step_substituted (undoing number t) step))

-- ---- where rewriting is confluent

-- what one term reaches has its canon
pub reached_same : {rules : List Rule} (canon : Term → Term) → NormalisesBySteps rules canon → IsConfluent (Step rules)
    → (t u : Term) → Reaches (Step rules) t u → canon t ≡ canon u
reached_same canon normal confluent t u chain =
    one_normal_form confluent (normal.reached t) (reaches_then chain (normal.reached u)) (normal.stuck t) (normal.stuck u)

link_same : {rules : List Rule} (data_ : Data) (canon : Term → Term) → AreRulesOf data_ rules → NormalisesBySteps rules canon
    → IsConfluent (Step rules) → (t u : Term) → Link data_ t u → canon t ≡ canon u
link_same {rules = rules} data_ canon of normal confluent t u link = go (link_is data_ of link)
  where
    go : LinkIs rules t u → canon t ≡ canon u
    go (inl e) = ap canon e
    go (inr (inl on)) = reached_same canon normal confluent t u (reaches_once (step_of_link on))
    go (inr (inr back)) = sym (reached_same canon normal confluent u t (reaches_once (step_of_link back)))

-- equal terms have one canon
pub equal_same_canon : {rules : List Rule} {data_ : Data} (canon : Term → Term) → AreRulesOf data_ rules
    → NormalisesBySteps rules canon → IsConfluent (Step rules) → {t u : Term} → Equal data_ t u → canon t ≡ canon u
equal_same_canon canon of normal confluent (same_term t) = refl
equal_same_canon {data_ = data_} canon of normal confluent (link_then {t = t} {u = u} link chain) =
    link_same data_ canon of normal confluent t u link ∙ equal_same_canon canon of normal confluent chain

-- the canon of a canon is itself
pub canon_settled : {rules : List Rule} (canon : Term → Term) → NormalisesBySteps rules canon → (t : Term) → canon (canon t) ≡ canon t
canon_settled canon normal t = sym (irreducible_stays (normal.stuck t) (normal.reached (canon t)))

canon_instance : {rules : List Rule} (data_ : Data) (canon : Term → Term) → HasSortedSides data_ → AreRulesOf data_ rules
    → AreWellFormedRules rules → NormalisesBySteps rules canon → (t : Term) (values : Substitution) → IsTermOf data_.signature t
    → IsGrounding data_.signature t values → Equal data_ (substituted values (canon t)) (substituted values t)
canon_instance data_ canon sorted of fine normal t values is grounding =
    equal_back (reaches_equal data_ sorted of fine is.0 (reaches_substituted values (normal.reached t))
    (instance_ground values t (λ n s o. (grounding n s o).ground))
    (substituted_sort data_.signature values t is.0 is.1 (λ n s o. (grounding n s o).sorted)))

canon_substitutes : {rules : List Rule} (canon : Term → Term) → NormalisesBySteps rules canon → IsConfluent (Step rules) → (t : Term)
    (values : Substitution) → canon (substituted values t) ≡ canon (substituted (λ n s. canon (values n s)) (canon t))
canon_substitutes canon normal confluent t values =
    let others : Substitution = λ n s. canon (values n s) in
    reached_same canon normal confluent (substituted values t) (substituted (λ n s. canon (values n s)) (canon t))
    (reaches_then (values_reach values (λ n s. canon (values n s)) (λ n s. normal.reached (values n s)) t)
    (reaches_substituted (λ n s. canon (values n s)) (normal.reached t)))

canon_renames : {rules : List Rule} (canon : Term → Term) → AreWellFormedRules rules → NormalisesBySteps rules canon
    → IsConfluent (Step rules) → (t : Term) (number : ℕ → ℕ → ℕ) → KeepsApart number t
    → canon (substituted (renaming number) t) ≡ substituted (renaming number) (canon t)
canon_renames canon fine normal confluent t number keeps =
    one_normal_form confluent (normal.reached (substituted (renaming number) t))
    (reaches_substituted (renaming number) (normal.reached t)) (normal.stuck (substituted (renaming number) t))
    (renamed_stuck number t (canon t) keeps (λ n s o. reaches_occurs fine n s (normal.reached t) o) (normal.stuck t))

-- all laws of a canon
pub normal_canon : {rules : List Rule} (data_ : Data) (canon : Term → Term) → HasSortedSides data_ → AreRulesOf data_ rules
    → AreWellFormedRules rules → IsConfluent (Step rules) → NormalisesBySteps rules canon → IsCanon data_ canon
normal_canon data_ canon sorted of fine confluent normal = record {
  sorts = λ t s h. reaches_sort data_ sorted of fine s (normal.reached t) h;
  instances = canon_instance data_ canon sorted of fine normal;
  decides = λ t u s h k equal. equal_same_canon canon of normal confluent equal;
  settled = λ t is. canon_settled canon normal t;
  occurring = λ t n s is o. reaches_occurs fine n s (normal.reached t) o;
  variables = λ n s. sym (irreducible_stays (variable_stuck n s fine) (normal.reached (variable n s)));
  substitutes = λ t values is keeps. canon_substitutes canon normal confluent t values;
  renames = λ t number is keeps. canon_renames canon fine normal confluent t number keeps;
}

pub normal_form_canon : (data_ : Data) (rules : List Rule) (canon : Term → Term) → AreSortedRulesOf data_ rules
    → AreConfluent rules → Normalises rules canon → IsCanon data_ canon
normal_form_canon data_ rules canon of confluent normal =
    normal_canon data_ canon of.sorted_sides of.rules_of_data of.well_formed (confluent_by_steps rules confluent)
    (normalises_by_steps canon normal)
