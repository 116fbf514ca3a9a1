-- Substitutions: composition, agreement on the variables that occur, sorts and ground instances, paths.
use Rattle.std.proofs.Common.{◌≡◌, ℕ, zero, suc, List, [], ◌∷◌, refl, ap, sym, ◌∙◌, subst, inl, inr}
use Rattle.std.specs.Prelude.{Some, map}
use Rattle.std.specs.Option.{option_map}
use Rattle.lotos_base.specs.Signature.{Signature}
use Rattle.lotos_base.specs.Term.{Term, variable, node, Terms, no_terms, term_then, list_of}
use Rattle.lotos_base.specs.Sorting.{HasSort, HaveSorts, IsGround, AreGround, IsGroundOf, Occurs, OccursAmong}
use Rattle.lotos_base.specs.Path.{argument_at, with_argument, subterm, put_at}
use Rattle.lotos_base.specs.Substitution.{Substitution, substituted, all_substituted, followed_by, renaming, KeepsSorts, IsGrounding}
use Rattle.lotos_base.proofs.PathLemmas.{subterm_below, subterm_under, put_below, put_under}

-- the members of substituted arguments
pub list_of-all_substituted : (values : Substitution) (ts : Terms)
    → list_of (all_substituted values ts) ≡ map (substituted values) (list_of ts)
list_of-all_substituted values no_terms = refl
list_of-all_substituted values (term_then t ts) = ap (λ us. substituted values t ∷ us) (list_of-all_substituted values ts)

mutual
  -- one substitution after another is their composition
  pub substituted_twice : (first second : Substitution) (t : Term)
      → substituted second (substituted first t) ≡ substituted (followed_by first second) t
  substituted_twice first second (variable n s) = refl
  substituted_twice first second (node f ts) = ap (λ us. node f us) (all_substituted_twice first second ts)

  pub all_substituted_twice : (first second : Substitution) (ts : Terms)
      → all_substituted second (all_substituted first ts) ≡ all_substituted (followed_by first second) ts
  all_substituted_twice first second no_terms = refl
  all_substituted_twice first second (term_then t ts) = cc (substituted_twice first second t, all_substituted_twice first second ts)

mutual
  -- with each variable for itself a term stays as it is
  pub substituted_variables : (t : Term) → substituted variable t ≡ t
  substituted_variables (variable n s) = refl
  substituted_variables (node f ts) = ap (λ us. node f us) (all_substituted_variables ts)

  pub all_substituted_variables : (ts : Terms) → all_substituted variable ts ≡ ts
  all_substituted_variables no_terms = refl
  all_substituted_variables (term_then t ts) = cc (substituted_variables t, all_substituted_variables ts)

mutual
  -- only the variables that occur count
  pub substituted_agree : (values others : Substitution) (t : Term)
      → ((n s : ℕ) → Occurs n s t → values n s ≡ others n s) → substituted values t ≡ substituted others t
  substituted_agree values others (variable n s) same = same n s (refl, refl)
  substituted_agree values others (node f ts) same = ap (λ us. node f us) (all_substituted_agree values others ts same)

  pub all_substituted_agree : (values others : Substitution) (ts : Terms)
      → ((n s : ℕ) → OccursAmong n s ts → values n s ≡ others n s)
      → all_substituted values ts ≡ all_substituted others ts
  all_substituted_agree values others no_terms same = refl
  all_substituted_agree values others (term_then t ts) same =
      cc (substituted_agree values others t (λ n s h. same n s (inl h)), all_substituted_agree values others ts (λ n s h. same n s (inr h)))

mutual
  -- a ground term has no variable that occurs
  pub ground_no_variable : (t : Term) → IsGround t → (n s : ℕ) → Occurs n s t → ⊥
  ground_no_variable (variable m r) h n s occurs = h
  ground_no_variable (node f ts) h n s occurs = ground_no_variables ts h n s occurs

  pub ground_no_variables : (ts : Terms) → AreGround ts → (n s : ℕ) → OccursAmong n s ts → ⊥
  ground_no_variables no_terms h n s occurs = occurs
  ground_no_variables (term_then t ts) h n s (inl occurs) = ground_no_variable t h.0 n s occurs
  ground_no_variables (term_then t ts) h n s (inr occurs) = ground_no_variables ts h.1 n s occurs

mutual
  -- a term in which no variable occurs is ground
  pub no_variable_ground : (t : Term) → ((n s : ℕ) → Occurs n s t → ⊥) → IsGround t
  no_variable_ground (variable m r) none = none m r (refl, refl)
  no_variable_ground (node f ts) none = no_variables_ground ts none

  pub no_variables_ground : (ts : Terms) → ((n s : ℕ) → OccursAmong n s ts → ⊥) → AreGround ts
  no_variables_ground no_terms none = tt
  no_variables_ground (term_then t ts) none =
      (no_variable_ground t (λ n s h. none n s (inl h)), no_variables_ground ts (λ n s h. none n s (inr h)))

-- a ground term stays as it is
pub substituted_ground : (values : Substitution) (t : Term) → IsGround t → substituted values t ≡ t
substituted_ground values t h =
    substituted_agree values variable t (λ n s occurs. absurd (ground_no_variable t h n s occurs)) ∙ substituted_variables t

mutual
  -- an instance has the term's sort where each variable is given a term of its sort
  pub substituted_sort : (signature : Signature) (values : Substitution) (t : Term) (sort : ℕ)
      → HasSort signature t sort → KeepsSorts signature t values
      → HasSort signature (substituted values t) sort
  substituted_sort signature values (variable n s) sort h keeps =
      subst (λ (r : ℕ). HasSort signature (values n s) r) h.0 (keeps n s (refl, refl))
  substituted_sort signature values (node f ts) sort h keeps =
      (h.0, h.1, h.2, all_substituted_sorts signature values ts h.0.arguments h.3 keeps)

  pub all_substituted_sorts : (signature : Signature) (values : Substitution) (ts : Terms) (sorts : List ℕ)
      → HaveSorts signature ts sorts → ((n s : ℕ) → OccursAmong n s ts → HasSort signature (values n s) s)
      → HaveSorts signature (all_substituted values ts) sorts
  all_substituted_sorts signature values no_terms [] h keeps = tt
  all_substituted_sorts signature values no_terms (s ∷ ss) h keeps = h
  all_substituted_sorts signature values (term_then t ts) [] h keeps = h
  all_substituted_sorts signature values (term_then t ts) (s ∷ ss) h keeps = (
    substituted_sort signature values t s h.0 (λ m r o. keeps m r (inl o)),
    all_substituted_sorts signature values ts ss h.1 (λ m r o. keeps m r (inr o)),
  )

mutual
  -- an instance is ground where each variable that occurs is given a ground term
  pub instance_ground : (values : Substitution) (t : Term)
      → ((n s : ℕ) → Occurs n s t → IsGround (values n s)) → IsGround (substituted values t)
  instance_ground values (variable n s) ground_values = ground_values n s (refl, refl)
  instance_ground values (node f ts) ground_values = instances_ground values ts ground_values

  pub instances_ground : (values : Substitution) (ts : Terms)
      → ((n s : ℕ) → OccursAmong n s ts → IsGround (values n s)) → AreGround (all_substituted values ts)
  instances_ground values no_terms ground_values = tt
  instances_ground values (term_then t ts) ground_values =
      (instance_ground values t (λ n s o. ground_values n s (inl o)), instances_ground values ts (λ n s o. ground_values n s (inr o)))

-- A variable of an instance stands in what was put for a variable of the term.
pub record ComesFrom (n s : ℕ) (values : Substitution) (t : Term) : Type 0 where
  pub number : ℕ
  pub sort : ℕ
  pub occurs : Occurs number sort t
  pub inside : Occurs n s (values number sort)

pub record ComesFromAmong (n s : ℕ) (values : Substitution) (ts : Terms) : Type 0 where
  pub number : ℕ
  pub sort : ℕ
  pub occurs : OccursAmong number sort ts
  pub inside : Occurs n s (values number sort)

mutual
  pub substituted_occurs : (n s : ℕ) (values : Substitution) (t : Term) → Occurs n s (substituted values t)
      → ComesFrom n s values t
  substituted_occurs n s values (variable m r) o = record { number = m; sort = r; occurs = (refl, refl); inside = o }
  substituted_occurs n s values (node f ts) o =
      let from = all_substituted_occurs n s values ts o in
      record { number = from.number; sort = from.sort; occurs = from.occurs; inside = from.inside }

  pub all_substituted_occurs : (n s : ℕ) (values : Substitution) (ts : Terms)
      → OccursAmong n s (all_substituted values ts) → ComesFromAmong n s values ts
  all_substituted_occurs n s values no_terms o = absurd o
  all_substituted_occurs n s values (term_then t ts) (inl o) =
      let from = substituted_occurs n s values t o in
      record { number = from.number; sort = from.sort; occurs = inl from.occurs; inside = from.inside }
  all_substituted_occurs n s values (term_then t ts) (inr o) =
      let from = all_substituted_occurs n s values ts o in
      record { number = from.number; sort = from.sort; occurs = inr from.occurs; inside = from.inside }

mutual
  -- and each variable of what was put for a variable that occurs stands in the instance
  pub occurs_substituted : (n s m r : ℕ) (values : Substitution) (t : Term) → Occurs m r t
      → Occurs n s (values m r) → Occurs n s (substituted values t)
  occurs_substituted n s m r values (variable k q) o inside =
      subst (λ (i : ℕ). Occurs n s (values i q)) (sym o.0) (subst (λ (i : ℕ). Occurs n s (values m i)) (sym o.1) inside)
  occurs_substituted n s m r values (node f ts) o inside = occurs_all_substituted n s m r values ts o inside

  pub occurs_all_substituted : (n s m r : ℕ) (values : Substitution) (ts : Terms) → OccursAmong m r ts
      → Occurs n s (values m r) → OccursAmong n s (all_substituted values ts)
  occurs_all_substituted n s m r values no_terms o inside = absurd o
  occurs_all_substituted n s m r values (term_then t ts) (inl o) inside = inl (occurs_substituted n s m r values t o inside)
  occurs_all_substituted n s m r values (term_then t ts) (inr o) inside = inr (occurs_all_substituted n s m r values ts o inside)

-- arguments of an instance
pub argument_at-all_substituted : (k : ℕ) (values : Substitution) (ts : Terms)
    → argument_at k (all_substituted values ts) ≡ option_map (substituted values) (argument_at k ts)
argument_at-all_substituted k values no_terms = refl
argument_at-all_substituted zero values (term_then t ts) = refl
argument_at-all_substituted (suc k) values (term_then t ts) = argument_at-all_substituted k values ts

pub all_substituted-with_argument : (k : ℕ) (values : Substitution) (part : Term) (ts : Terms)
    → all_substituted values (with_argument k part ts) ≡ with_argument k (substituted values part) (all_substituted values ts)
all_substituted-with_argument k values part no_terms = refl
all_substituted-with_argument zero values part (term_then t ts) = refl
all_substituted-with_argument (suc k) values part (term_then t ts) =
    ap (λ us. term_then (substituted values t) us) (all_substituted-with_argument k values part ts)

-- the subterm of an instance is the instance of the subterm
pub subterm-substituted : (path : List ℕ) (values : Substitution) (t part : Term) → subterm path t ≡ Some part
    → subterm path (substituted values t) ≡ Some (substituted values part)
subterm-substituted [] values t part e = ap (λ o. option_map (substituted values) o) e
subterm-substituted (k ∷ path) values (variable n s) part e = cc
subterm-substituted (k ∷ path) values (node f ts) part e =
    let below = subterm_below k path f ts part e in
    subterm_under k path f (all_substituted values ts) (substituted values below.argument) (substituted values part)
    (argument_at-all_substituted k values ts ∙ ap (λ o. option_map (substituted values) o) below.found)
    (subterm-substituted path values below.argument part below.inside)

-- a replacement in an instance is the instance of the replacement
pub put_at-substituted : (path : List ℕ) (values : Substitution) (part t whole : Term)
    → put_at path part t ≡ Some whole
    → put_at path (substituted values part) (substituted values t) ≡ Some (substituted values whole)
put_at-substituted [] values part t whole e = ap (λ o. option_map (substituted values) o) e
put_at-substituted (k ∷ path) values part (variable n s) whole e = cc
put_at-substituted (k ∷ path) values part (node f ts) whole e =
    let below = put_below k path f part ts whole e in
    put_under k path f (substituted values part) (all_substituted values ts) (substituted values below.argument)
    (substituted values below.after)
    (argument_at-all_substituted k values ts ∙ ap (λ o. option_map (substituted values) o) below.found)
    (put_at-substituted path values part below.argument below.after below.inside)
    ∙ ap (λ us. Some (node f us)) (sym (all_substituted-with_argument k values below.after ts))
    ∙ ap (λ u. Some (substituted values u)) below.is_whole

mutual
  -- terms that a renaming apart makes identical are identical
  pub renamed_same : (number : ℕ → ℕ → ℕ) (t u : Term)
      → ((n m s : ℕ) → Occurs n s t → Occurs m s u → number n s ≡ number m s → n ≡ m)
      → substituted (renaming number) t ≡ substituted (renaming number) u → t ≡ u
  renamed_same number (variable n s) (variable m r) apart e =
      let sorts : s ≡ r = cc in
      let numbers : number n s ≡ number m r = cc in
      let one : n ≡ m = apart n m s (refl, refl) (refl, sym sorts) (numbers ∙ ap (number m) (sym sorts)) in
      λ i. variable (one i) (sorts i)
  renamed_same number (variable n s) (node g us) apart e = cc
  renamed_same number (node f ts) (variable m r) apart e = cc
  renamed_same number (node f ts) (node g us) apart e =
      let operations : f ≡ g = cc in
      let arguments : ts ≡ us = all_renamed_same number ts us apart cc in
      λ i. node (operations i) (arguments i)

  pub all_renamed_same : (number : ℕ → ℕ → ℕ) (ts us : Terms)
      → ((n m s : ℕ) → OccursAmong n s ts → OccursAmong m s us → number n s ≡ number m s → n ≡ m)
      → all_substituted (renaming number) ts ≡ all_substituted (renaming number) us → ts ≡ us
  all_renamed_same number no_terms no_terms apart e = refl
  all_renamed_same number no_terms (term_then u us) apart e = cc
  all_renamed_same number (term_then t ts) no_terms apart e = cc
  all_renamed_same number (term_then t ts) (term_then u us) apart e =
      let first : t ≡ u = renamed_same number t u (λ n m s o p. apart n m s (inl o) (inl p)) cc in
      let rest : ts ≡ us = all_renamed_same number ts us (λ n m s o p. apart n m s (inr o) (inr p)) cc in
      λ i. term_then (first i) (rest i)

-- so an instance with ground terms of the right sorts is a ground term of the term's sort
pub ground_instance : (signature : Signature) (values : Substitution) (t : Term) (sort : ℕ)
    → HasSort signature t sort → IsGrounding signature t values → IsGroundOf signature sort (substituted values t)
ground_instance signature values t sort h g = record {
  ground = instance_ground values t (λ n s o. (g n s o).ground);
  sorted = substituted_sort signature values t sort h (λ n s o. (g n s o).sorted);
}
