-- Splits are sound: a case holds where all cases that a split leaves do, by induction on the size of the value of the variable.
use Rattle.std.proofs.Common.{◌≡◌, ◌<◌, ◌≤◌, ℕ, zero, suc, ◌+◌, List, ◌∷◌, ◌++◌, Bool, true, false, nat_eq, nat_lt, length, refl, ap, sym, subst, inl, inr, arith}
use Rattle.std.specs.Prelude.{◌⊎◌, ◌&&◌, ◌||◌, Some, slice_get, IsFalse, if◌then◌else◌}
use Rattle.std.proofs.lemmas.Bool.Decides.{Decides-ltb, Decides-or}
use Rattle.std.proofs.lemmas.Option.{slice_get_within}
use Rattle.lotos_base.specs.Signature.{Operation}
use Rattle.lotos_base.specs.Term.{Term, variable, node, Terms}
use Rattle.lotos_base.specs.Sorting.{HaveSorts, IsGroundOf, Occurs}
use Rattle.lotos_base.specs.Tests.{occurs}
use Rattle.lotos_base.specs.Substitution.{Substitution, substituted, followed_by, IsGrounding, is_listed}
use Rattle.lotos_base.specs.Equality.{Equal, same_term}
use Rattle.lotos_base.proofs.TestLemmas.{Decides-occurs}
use Rattle.lotos_base.proofs.SubstitutionLemmas.{substituted_twice, ground_instance, occurs_substituted}
use Rattle.lotos_base.proofs.EqualityLemmas.{equal_then, equal_back, equal_same, equal_values}
use Rattle.lotos_base.proofs.SortLemmas.{equal_ground, equal_sort}
use Rattle.lotos_base.proofs.Each.{Each}
use Rattle.rewriting_theory.proofs.LinkSteps.{reaches_equal}
use Rattle.rewriting_theory.proofs.ChosenLemmas.{chosen_reached}
use Rattle.rewriting_theory.proofs.PublicLemmas.{chosen_form, chosen_normal}
use Rattle.certificate_theory.specs.InductionCertificate.{Statement}
use Rattle.certificate_theory.specs.Covers.{IsListedIn, IsCoveredBy, Numbered, in_signature_order}
use Rattle.certificate_theory.specs.Patterns.{put_for}
use Rattle.certificate_theory.specs.Splits.{Theory, Case, Proving, IsInScope, in_both, hypotheses_behind, case_with, cases_of_split}
use Rattle.certificate_theory.specs.Certified.{IsFit}
use Rattle.certificate_theory.specs.Requirements.{OccursInSide}
use Rattle.certificate_theory.proofs.Each.{each_of_map, each_map, each_both, from_join}
use Rattle.certificate_theory.proofs.ArgumentLemmas.{size, IsSmall, AllArguments, small_arguments_of, from_occurs, extended, extended_below, extended_at, extended_terms, replaced, AreOne, Decides-one, replaced_cases, replaced_here, replaced_other, split_instance, occurs_put_other, occurs_put_here, put_keeps}
use Rattle.certificate_theory.proofs.CoverLemmas.{each_listed}
use Rattle.certificate_theory.proofs.CaseLemmas.{IsFineHypothesis, IsFineCase, still_not_listed, IsSplit, put_in, put_in_sort, scope_behind, side_behind, each_made, behind_free, behind_fixed, case_fine}
use Rattle.certificate_theory.proofs.HoldLemmas.{GroundsScope, HoldsAt, HypothesisHolds, CaseHolds, IsSoundCase, from_canon}

-- ---- the values behind a split

-- The arguments of an irreducible ground term that equals the value of the variable that is split.
record Argued (theory : Theory) (k : ℕ) (point : Case) (n s : ℕ) (one : Numbered) (values : Substitution) (ts : Terms) : Type 0 where
  sorts : HaveSorts theory.data_.signature ts one.operation.arguments
  small : AllArguments (IsSmall theory.data_.signature theory.rules k) ts one.operation.arguments
  equal : Equal theory.data_ (node one.number ts) (values n s)
  grounds : GroundsScope theory.data_.signature point values

-- The values with the arguments for the new variables.
abbrev behind : Case → Terms → Substitution → Substitution
behind point ts values = extended (length point.sorts) ts values

module _ {theory : Theory} {free k : ℕ} {point : Case} {n s : ℕ} {one : Numbered} {values : Substitution} {ts : Terms} where
  -- they give the variables in scope ground terms
  behind_grounds : IsSplit theory free point n s one → Argued theory k point n s one values ts → (m r : ℕ)
      → slice_get (point.sorts ++ one.operation.arguments) m ≡ Some r → IsFalse (is_listed (n ∷ point.gone) m)
      → IsGroundOf theory.data_.signature r (behind point ts values m r)
  behind_grounds is argued m r at none = go (from_join point.sorts one.operation.arguments m r at)
    where
      go : (slice_get point.sorts m ≡ Some r)
          ⊎ ((i : ℕ) × (m ≡ length point.sorts + i) × (slice_get one.operation.arguments i ≡ Some r))
          → IsGroundOf theory.data_.signature r (behind point ts values m r)
      go (inl at) =
          subst (IsGroundOf theory.data_.signature r)
          (sym (extended_below ts (length point.sorts) values m r (slice_get_within point.sorts m r at)))
          (argued.grounds m r (at, still_not_listed point.gone n m none))
      go (inr (i, e, at)) =
          (extended_at (IsSmall theory.data_.signature theory.rules k) ts one.operation.arguments (length point.sorts) values i m r
          argued.small at e).ground_of

  -- an instance of a term with the operation put in equals the instance of the term
  behind_equal : IsSplit theory free point n s one → Argued theory k point n s one values ts → (t : Term)
      → ((m r : ℕ) → Occurs m r t → slice_get point.sorts m ≡ Some r)
      → Equal theory.data_ (substituted (behind point ts values) (substituted (put_for n s (put_in point one)) t)) (substituted values t)
  behind_equal is argued t listed =
      equal_then
      (equal_same theory.data_ (substituted (behind point ts values) (substituted (put_for n s (put_in point one)) t))
      (substituted (replaced values n s (node one.number ts)) t)
      (split_instance theory.data_.signature one (length point.sorts) ts values n s t argued.sorts
      (λ m r o differ. slice_get_within point.sorts m r (listed m r o))))
      (equal_values theory.data_ (replaced values n s (node one.number ts)) values t
      (λ m r o. replaced_cases (λ j q x. Equal theory.data_ x (values j q)) values n s (node one.number ts) argued.equal m r
      (λ differ. same_term (values m r))))

  -- so the goal holds where the case that is left does
  goal_holds : (proving : Proving) → IsSplit theory free point n s one → Argued theory k point n s one values ts
      → CaseHolds theory free (case_with theory proving point n s one)
      → Each (HypothesisHolds theory free (behind point ts values)) (hypotheses_behind proving point n s one)
      → HoldsAt theory values point.goal
  goal_holds proving is argued holds hypotheses =
      equal_then (equal_back (behind_equal is argued point.goal.left (λ m r o. (is.fine.scoped m r (inl o)).0)))
      (equal_then
      (from_canon theory (behind point ts values) (in_both (substituted (put_for n s (put_in point one))) point.goal) is.fine.sort is.fit
      (side_behind is point.goal.left is.fine.sort is.fine.left (λ m r o. (is.fine.scoped m r (inl o)).0))
      (side_behind is point.goal.right is.fine.sort is.fine.right (λ m r o. (is.fine.scoped m r (inr o)).0))
      (λ m r o. let found = scope_behind is point.goal.left (λ j q p. is.fine.scoped j q (inl p)) m r o in
      behind_grounds is argued m r found.0 found.1)
      (λ m r o. let found = scope_behind is point.goal.right (λ j q p. is.fine.scoped j q (inr p)) m r o in
      behind_grounds is argued m r found.0 found.1)
      (holds (behind point ts values) (λ m r scope. behind_grounds is argued m r scope.0 scope.1) hypotheses))
      (behind_equal is argued point.goal.right (λ m r o. (is.fine.scoped m r (inr o)).0)))

-- ---- hypotheses that were there

-- behind a split of a free variable
kept_holds : (theory : Theory) (free : ℕ) (point : Case) (ts : Terms) (values : Substitution) (h : Statement)
    → IsFineHypothesis theory.data_.signature free point.sorts point.gone h → HypothesisHolds theory free values h
    → HypothesisHolds theory free (behind point ts values) h
kept_holds theory free point ts values h fine holds others left right fixed =
    holds others left right
    (λ m r le o. equal_then (fixed m r le o)
    (equal_same theory.data_ (behind point ts values m r) (values m r)
    (extended_below ts (length point.sorts) values m r (slice_get_within point.sorts m r (fine.listed m r o).0))))

module _ {theory : Theory} {free k : ℕ} {point : Case} {n s : ℕ} {one : Numbered} {values : Substitution} {ts : Terms} where
  -- behind a split of a fixed one: it is the hypothesis at the values with the operation put in
  changed_holds : IsSplit theory free point n s one → Argued theory k point n s one values ts → (h : Statement)
      → IsFineHypothesis theory.data_.signature free point.sorts point.gone h → HypothesisHolds theory free values h
      → HypothesisHolds theory free (behind point ts values) (in_both (substituted (put_for n s (put_in point one))) h)
  changed_holds is argued h fine holds others left right fixed =
      equal_then
      (equal_same theory.data_ (substituted others (substituted (put_for n s (put_in point one)) h.left))
      (substituted (followed_by (put_for n s (put_in point one)) others) h.left)
      (substituted_twice (put_for n s (put_in point one)) others h.left))
      (equal_then
      (holds (followed_by (put_for n s (put_in point one)) others)
      (grounds h.left (λ m r o. (fine.listed m r (inl o)).0) left)
      (grounds h.right (λ m r o. (fine.listed m r (inr o)).0) right)
      (λ m r le o. same_values m r le o))
      (equal_same theory.data_ (substituted (followed_by (put_for n s (put_in point one)) others) h.right)
      (substituted others (substituted (put_for n s (put_in point one)) h.right))
      (sym (substituted_twice (put_for n s (put_in point one)) others h.right))))
    where
      grounds : (t : Term) → ((m r : ℕ) → Occurs m r t → slice_get point.sorts m ≡ Some r)
          → IsGrounding theory.data_.signature (substituted (put_for n s (put_in point one)) t) others
          → IsGrounding theory.data_.signature t (followed_by (put_for n s (put_in point one)) others)
      grounds t listed ground_others m r o =
          ground_instance theory.data_.signature others (put_for n s (put_in point one) m r) r
          (put_keeps theory.data_.signature n s (put_in point one) t (put_in_sort is) (λ j q p. is.fine.known j q (listed j q p)) m r o)
          (λ j q inside. ground_others j q (occurs_substituted j q m r (put_for n s (put_in point one)) t o inside))

      -- a variable of what is put in stands in the hypothesis behind the split
      stands : (m r j q : ℕ) → OccursInSide h m r → Occurs j q (put_for n s (put_in point one) m r)
          → OccursInSide (in_both (substituted (put_for n s (put_in point one))) h) j q
      stands m r j q (inl o) inside = inl (occurs_substituted j q m r (put_for n s (put_in point one)) h.left o inside)
      stands m r j q (inr o) inside = inr (occurs_substituted j q m r (put_for n s (put_in point one)) h.right o inside)

      at_variable : (m r : ℕ) → free ≤ m → (b : Bool) → (nat_eq n m && nat_eq s r) ≡ b → slice_get point.sorts m ≡ Some r
          → ((j q : ℕ) → Occurs j q (if b then put_in point one else variable m r) → free ≤ j
          → Equal theory.data_ (others j q) (behind point ts values j q))
          → Equal theory.data_ (substituted others (if b then put_in point one else variable m r)) (values m r)
      at_variable m r le true e at fixed_inside =
          let is_one = (Decides-one n s m r).0 e in
          equal_then
          (equal_values theory.data_ others (behind point ts values) (put_in point one)
          (λ j q inside. fixed_inside j q inside
          (let new = from_occurs one.operation.arguments (length point.sorts) j q inside in
          let number = new.1 in
          let within = is.fine.free_within in
          omega (arith, number, within))))
          (equal_then
          (equal_same theory.data_ (substituted (behind point ts values) (put_in point one)) (node one.number ts)
          (ap (λ (us : Terms). node one.number us)
          (extended_terms theory.data_.signature ts one.operation.arguments (length point.sorts) values argued.sorts)))
          (subst (λ (j : ℕ). Equal theory.data_ (node one.number ts) (values j r)) is_one.0
          (subst (λ (q : ℕ). Equal theory.data_ (node one.number ts) (values n q)) is_one.1 argued.equal)))
      at_variable m r le false e at fixed_inside =
          equal_then (fixed_inside m r (refl, refl) le)
          (equal_same theory.data_ (behind point ts values m r) (values m r)
          (extended_below ts (length point.sorts) values m r (slice_get_within point.sorts m r at)))

      same_values : (m r : ℕ) → free ≤ m → OccursInSide h m r
          → Equal theory.data_ (followed_by (put_for n s (put_in point one)) others m r) (values m r)
      same_values m r le o =
          at_variable m r le (nat_eq n m && nat_eq s r) refl (fine.listed m r o).0
          (λ j q inside free_is. fixed j q free_is (stands m r j q o inside))

-- ---- hypotheses that a split makes

-- The goal holds at all values that give the variable what equals an irreducible term below a size.
abbrev HoldsBelow : Theory → ℕ → Case → ℕ → ℕ → ℕ → Type 0
HoldsBelow theory free point n s k = (values : Substitution) → GroundsScope theory.data_.signature point values
    → Each (HypothesisHolds theory free values) point.hypotheses
    → (u : Term) → IsSmall theory.data_.signature theory.rules k s u → Equal theory.data_ u (values n s)
    → HoldsAt theory values point.goal

-- The other values where a variable occurs in the statement, and the values elsewhere.
abbrev merged : Statement → Substitution → Substitution → Substitution
merged statement others values m r = if occurs m r statement.left || occurs m r statement.right then others m r else values m r

merged_cases : (P : Term → Type 0) (statement : Statement) (others values : Substitution) (m r : ℕ)
    → (OccursInSide statement m r → P (others m r)) → P (values m r) → P (merged statement others values m r)
merged_cases P statement others values m r there elsewhere =
    go (occurs m r statement.left || occurs m r statement.right) refl
  where
    go : (b : Bool) → (occurs m r statement.left || occurs m r statement.right) ≡ b → P (if b then others m r else values m r)
    go true e =
        there ((Decides-or (occurs m r statement.left) (occurs m r statement.right) (Decides-occurs m r statement.left)
        (Decides-occurs m r statement.right)).0 e)
    go false e = elsewhere

merged_there : (statement : Statement) (others values : Substitution) (m r : ℕ) → OccursInSide statement m r
    → merged statement others values m r ≡ others m r
merged_there statement others values m r o =
    rw ((Decides-or (occurs m r statement.left) (occurs m r statement.right) (Decides-occurs m r statement.left)
    (Decides-occurs m r statement.right)).1 o) refl

module _ {theory : Theory} {free k : ℕ} {point : Case} {n s : ℕ} {one : Numbered} {values : Substitution} {ts : Terms} where
  -- the hypothesis for an argument: the goal holds at that argument, which is smaller
  made_holds : IsSplit theory free point n s one → Argued theory k point n s one values ts → n < free
      → Each (HypothesisHolds theory free values) point.hypotheses → HoldsBelow theory free point n s k
      → (i j : ℕ) → j ≡ length point.sorts + i → slice_get one.operation.arguments i ≡ Some s
      → HypothesisHolds theory free (behind point ts values) (in_both (substituted (put_for n s (variable j s))) point.goal)
  made_holds is argued less hypotheses below i j number at others left right fixed =
      equal_then (at_side point.goal.left (λ m r o. inl o) (λ m r o. inl o))
      (equal_then
      (below there there_grounds
      (each_both (IsFineHypothesis theory.data_.signature free point.sorts point.gone) (HypothesisHolds theory free values)
      (HypothesisHolds theory free there) point.hypotheses there_hypotheses is.fine.hypotheses hypotheses)
      argument argument_small
      (equal_same theory.data_ argument (there n s)
      (sym (replaced_here (merged point.goal others values) n s argument))))
      (equal_back (at_side point.goal.right (λ m r o. inr o) (λ m r o. inr o))))
    where
      argument : Term
      argument = behind point ts values j s

      argument_small : IsSmall theory.data_.signature theory.rules k s argument
      argument_small =
          extended_at (IsSmall theory.data_.signature theory.rules k) ts one.operation.arguments (length point.sorts) values i j s
          argued.small at number

      there : Substitution
      there = replaced (merged point.goal others values) n s argument

      -- what occurs in the goal, but for the variable, occurs in the hypothesis
      ground_other : (m r : ℕ) → ¬ AreOne n s m r → OccursInSide point.goal m r → IsGroundOf theory.data_.signature r (others m r)
      ground_other m r differ (inl o) = left m r (occurs_put_other n s (variable j s) point.goal.left m r o differ)
      ground_other m r differ (inr o) = right m r (occurs_put_other n s (variable j s) point.goal.right m r o differ)

      there_grounds : GroundsScope theory.data_.signature point there
      there_grounds m r scope =
          replaced_cases (λ p q x. IsGroundOf theory.data_.signature q x) (merged point.goal others values) n s argument
          argument_small.ground_of m r
          (λ differ. merged_cases (IsGroundOf theory.data_.signature r) point.goal others values m r
          (λ o. ground_other m r differ o) (argued.grounds m r scope))

      in_hypothesis : (m r : ℕ) → ¬ AreOne n s m r → OccursInSide point.goal m r
          → OccursInSide (in_both (substituted (put_for n s (variable j s))) point.goal) m r
      in_hypothesis m r differ (inl o) = inl (occurs_put_other n s (variable j s) point.goal.left m r o differ)
      in_hypothesis m r differ (inr o) = inr (occurs_put_other n s (variable j s) point.goal.right m r o differ)

      -- fixed variables keep values that equal those before
      fixed_there : (m r : ℕ) → free ≤ m → slice_get point.sorts m ≡ Some r → Equal theory.data_ (there m r) (values m r)
      fixed_there m r le listed =
          equal_then
          (equal_same theory.data_ (there m r) (merged point.goal others values m r)
          (replaced_other (merged point.goal others values) n s argument m r (apart m r le)))
          (merged_cases (λ x. Equal theory.data_ x (values m r)) point.goal others values m r
          (λ o. equal_then (fixed m r le (in_hypothesis m r (apart m r le) o))
          (equal_same theory.data_ (behind point ts values m r) (values m r)
          (extended_below ts (length point.sorts) values m r (slice_get_within point.sorts m r listed))))
          (same_term (values m r)))
        where
          apart : (m r : ℕ) → free ≤ m → ¬ AreOne n s m r
          apart m r le same = let number = same.0 in omega (arith, le, less, number)

      there_hypotheses : (h : Statement) → IsFineHypothesis theory.data_.signature free point.sorts point.gone h
          → HypothesisHolds theory free values h → HypothesisHolds theory free there h
      there_hypotheses h fine holds more more_left more_right more_fixed =
          holds more more_left more_right
          (λ m r le o. equal_then (more_fixed m r le o) (fixed_there m r le (fine.listed m r o).0))

      free_below : free ≤ j
      free_below = let within = is.fine.free_within in omega (arith, within, number)

      -- an instance of the hypothesis equals that of the goal at these values
      at_variable : (m r : ℕ) → OccursInSide point.goal m r → (b : Bool) → (nat_eq n m && nat_eq s r) ≡ b
          → (AreOne n s m r → OccursInSide (in_both (substituted (put_for n s (variable j s))) point.goal) j s)
          → Equal theory.data_ (substituted others (if b then variable j s else variable m r))
          (if b then argument else merged point.goal others values m r)
      at_variable m r o true e named = fixed j s free_below (named ((Decides-one n s m r).0 e))
      at_variable m r o false e named =
          equal_same theory.data_ (others m r) (merged point.goal others values m r)
          (sym (merged_there point.goal others values m r o))

      at_side : (t : Term) → ((m r : ℕ) → Occurs m r t → OccursInSide point.goal m r)
          → ((m r : ℕ) → Occurs m r (substituted (put_for n s (variable j s)) t)
          → OccursInSide (in_both (substituted (put_for n s (variable j s))) point.goal) m r)
          → Equal theory.data_ (substituted others (substituted (put_for n s (variable j s)) t)) (substituted there t)
      at_side t in_goal in_made =
          equal_then
          (equal_same theory.data_ (substituted others (substituted (put_for n s (variable j s)) t))
          (substituted (followed_by (put_for n s (variable j s)) others) t)
          (substituted_twice (put_for n s (variable j s)) others t))
          (equal_values theory.data_ (followed_by (put_for n s (variable j s)) others) there t
          (λ m r o. at_variable m r (in_goal m r o) (nat_eq n m && nat_eq s r) refl
          (λ same. in_made j s (occurs_put_here n s (variable j s) t j s
          (subst (λ (p : ℕ). Occurs p s t) (sym same.0) (subst (λ (q : ℕ). Occurs m q t) (sym same.1) o)) (refl, refl)))))

-- ---- a split

-- what is needed of a split of a variable by the operations of a cover
record Covering (theory : Theory) (proving : Proving) (point : Case) (n s : ℕ) (operations : List ℕ) : Type 0 where
  fit : IsFit theory
  fine : IsFineCase theory.data_.signature proving.free point
  scope : IsInScope point n s
  covered : IsCoveredBy theory.data_.signature theory.rules s operations
  cases : Each (IsSoundCase theory proving.free) (cases_of_split theory proving point n s operations)

argued_of : (theory : Theory) (point : Case) (n s k f : ℕ) (ts : Terms) (values : Substitution)
    → GroundsScope theory.data_.signature point values
    → (is : IsSmall theory.data_.signature theory.rules (suc k) s (node f ts)) → Equal theory.data_ (node f ts) (values n s)
    → Argued theory k point n s (record { number = f; operation = is.ground_of.sorted.0 }) values ts
argued_of theory point n s k f ts values grounds is equal = record {
  sorts = is.ground_of.sorted.3;
  small =
      let less = is.small in
      small_arguments_of theory.data_.signature theory.rules k f ts is.ground_of.sorted.0.arguments is.ground_of.ground
      is.ground_of.sorted.3 is.normal (omega (arith, less));
  equal = equal;
  grounds = grounds;
}

module _ {theory : Theory} {proving : Proving} {point : Case} {n s : ℕ} {operations : List ℕ} where
  -- the operation of a ground term of the sort
  split_of : Covering theory proving point n s operations → (f : ℕ) (operation : Operation)
      → slice_get theory.data_.signature.operations f ≡ Some operation → operation.result ≡ s
      → IsSplit theory proving.free point n s (record { number = f; operation = operation })
  split_of c f operation at result =
      record { fit = c.fit; fine = c.fine; scope = c.scope; is_operation = at; result = result }

  case_holds : (c : Covering theory proving point n s operations) (f : ℕ) (operation : Operation)
      → slice_get theory.data_.signature.operations f ≡ Some operation → operation.result ≡ s → IsListedIn operations f
      → CaseHolds theory proving.free (case_with theory proving point n s (record { number = f; operation = operation }))
  case_holds c f operation at result among =
      each_listed (λ (one : Numbered). IsSoundCase theory proving.free (case_with theory proving point n s one)) operations 0
      theory.data_.signature.operations f f operation
      (each_of_map (case_with theory proving point n s) (IsSoundCase theory proving.free)
      (in_signature_order theory.data_.signature operations) c.cases)
      among (omega arith) at
      (case_fine theory proving point n s (record { number = f; operation = operation }) (split_of c f operation at result))

  -- of a free variable: by induction on the size
  free_below : Covering theory proving point n s operations → n < proving.free → (k : ℕ) → HoldsBelow theory proving.free point n s k
  free_below c less zero values grounds hypotheses u is equal = let small = is.small in absurd (omega (arith, small))
  free_below c less (suc k) values grounds hypotheses (variable m r) is equal = absurd is.ground_of.ground
  free_below c less (suc k) values grounds hypotheses (node f ts) is equal =
      let sorted = is.ground_of.sorted in
      let split = split_of c f sorted.0 sorted.1 sorted.2 in
      let argued = argued_of theory point n s k f ts values grounds is equal in
      goal_holds proving split argued
      (case_holds c f sorted.0 sorted.1 sorted.2 (c.covered f ts is.ground_of is.normal))
      (behind_free (HypothesisHolds theory proving.free (behind point ts values)) proving point n s
      (record { number = f; operation = sorted.0 }) less
      (each_both (IsFineHypothesis theory.data_.signature proving.free point.sorts point.gone)
      (HypothesisHolds theory proving.free values) (HypothesisHolds theory proving.free (behind point ts values)) point.hypotheses
      (λ h fine holds. kept_holds theory proving.free point ts values h fine holds) c.fine.hypotheses hypotheses)
      (each_made (HypothesisHolds theory proving.free (behind point ts values)) point.goal n s (length point.sorts) sorted.0.arguments
      (λ i j number at. made_holds split argued less hypotheses (free_below c less k) i j number at)))

  -- of a fixed one
  fixed_holds : Covering theory proving point n s operations → nat_lt n proving.free ≡ false → (k : ℕ)
      → HoldsBelow theory proving.free point n s (suc k)
  fixed_holds c not_less k values grounds hypotheses (variable m r) is equal = absurd is.ground_of.ground
  fixed_holds c not_less k values grounds hypotheses (node f ts) is equal =
      let sorted = is.ground_of.sorted in
      let split = split_of c f sorted.0 sorted.1 sorted.2 in
      let argued = argued_of theory point n s k f ts values grounds is equal in
      goal_holds proving split argued
      (case_holds c f sorted.0 sorted.1 sorted.2 (c.covered f ts is.ground_of is.normal))
      (behind_fixed (HypothesisHolds theory proving.free (behind point ts values)) proving point n s
      (record { number = f; operation = sorted.0 }) not_less
      (each_map (in_both (substituted (put_for n s (put_in point (record { number = f; operation = sorted.0 })))))
      (HypothesisHolds theory proving.free (behind point ts values)) point.hypotheses
      (each_both (IsFineHypothesis theory.data_.signature proving.free point.sorts point.gone)
      (HypothesisHolds theory proving.free values)
      (λ h. HypothesisHolds theory proving.free (behind point ts values)
      (in_both (substituted (put_for n s (put_in point (record { number = f; operation = sorted.0 })))) h))
      point.hypotheses (λ h fine holds. changed_holds split argued h fine holds) c.fine.hypotheses hypotheses)))

-- a split leaves cases by which the case holds
pub split_sound : (theory : Theory) (proving : Proving) (point : Case) (n s : ℕ) (operations : List ℕ) → IsFit theory
    → IsCoveredBy theory.data_.signature theory.rules s operations → IsInScope point n s
    → Each (IsSoundCase theory proving.free) (cases_of_split theory proving point n s operations)
    → IsSoundCase theory proving.free point
split_sound theory proving point n s operations fit covered scope cases fine values grounds hypotheses =
    let value = grounds n s scope in
    let form = chosen_form theory.rules fit.ends (values n s) in
    let reached = reaches_equal theory.data_ fit.rules.sorted_sides fit.rules.rules_of_data fit.rules.well_formed s
    (chosen_reached form.1) value.ground value.sorted in
    by_status (nat_lt n proving.free) refl form.0 (record {
      ground_of = record {
        ground = equal_ground reached value.ground;
        sorted = equal_sort s fit.rules.sorted_sides reached value.sorted;
      };
      normal = chosen_normal fit.rules.well_formed form.1;
      small = omega arith;
    }) (equal_back reached)
  where
    covering : Covering theory proving point n s operations
    covering = record { fit = fit; fine = fine; scope = scope; covered = covered; cases = cases }

    by_status : (b : Bool) → nat_lt n proving.free ≡ b → (u : Term)
        → IsSmall theory.data_.signature theory.rules (suc (size u)) s u → Equal theory.data_ u (values n s)
        → HoldsAt theory values point.goal
    by_status true e u is equal =
        free_below covering ((Decides-ltb n proving.free).0 e) (suc (size u)) values grounds hypotheses u is equal
    by_status false e u is equal = fixed_holds covering e (size u) values grounds hypotheses u is equal
