-- Moves and faults of `exit`, of actions and of the inner event.
use Rattle.std.proofs.Common.{◌≡◌, ◌≤◌, ℕ, suc, ◌+◌, List, [], ◌∷◌, length, map, Option, None, refl, ap, ◌∙◌, subst, inl, inr, Bool, true, false, nat_lt, if◌then◌else◌, ltb-true, arith}
use Rattle.std.proofs.lemmas.Option.{none-some}
use Rattle.std.specs.Prelude.{zip}
use Rattle.lotos_base.specs.Canon.{IsCanon}
use Rattle.lotos_base.specs.Signature.{Signature}
use Rattle.lotos_base.specs.Term.{Term}
use Rattle.behaviour_semantics.specs.Behaviour.{action, asked_variables, Behaviour, ExitValue, exit_with, inner_action, numbers_of, Offer, open_sorts, sorts_of, stop, Test}
use Rattle.behaviour_semantics.specs.Derives.{leaves_in}
use Rattle.behaviour_semantics.specs.Fault.{at_node, first_of_two, first_unmet, wrong_leaves, Wrong}
use Rattle.behaviour_semantics.specs.Label.{exit_event, gate_event, inner_event}
use Rattle.behaviour_semantics.specs.Move.{taken}
use Rattle.behaviour_semantics.specs.Replacement.{with_values}
use Rattle.behaviour_semantics.specs.Rule.{AreValues, offered, results_of, tests_of}
use Rattle.behaviour_semantics.specs.Shape.{act, inner_step, quit}
use Rattle.behaviour_semantics.specs.WellFormed.{AreDistinct}
use Rattle.behaviour_semantics.proofs.ClosedTargets.{represented_values}
use Rattle.behaviour_semantics.proofs.FaultParts.{leaves_right}
use Rattle.behaviour_semantics.proofs.SupplyLemmas.{AreValues-taken}
use Rattle.sort_terms.specs.declared.sorted.Sorted.{Sorted}
use Rattle.behaviour_tree.specs.BehaviourView.{terms_of}
use Rattle.behaviour_tree.specs.Closed.{IsClosedBy, OccursInTestOption}
use Rattle.behaviour_tree.specs.DefinitionView.{specification_of}
use Rattle.behaviour_tree.specs.MoveView.{label_of}
use Rattle.behaviour_tree.specs.Over.{AreTermsOf}
use Rattle.behaviour_tree.specs.StateView.{environment_of, pair_profile, stands_for}
use Rattle.step_parts.specs.HandedOn.{profiled_pairs, SuitsWhere}
use Rattle.step_parts.proofs.HandedOn.{states_suit}
use Rattle.step_parts.specs.StepFaults.{greatest_number, IsWrongTold, kept_number, UnlessMemory}
use Rattle.step_parts.specs.declared.faults.StepFault.{StepFault}
use Rattle.step_parts.proofs.BinderLemmas.{bound_closed}
use Rattle.step_parts.proofs.CheckedLemmas.{unless_more}
use Rattle.step_taker.specs.Stands.{stand}
use Rattle.step_taker.specs.Taken.{Ground}
use Rattle.step_taker.specs.Walked.{chosen_values, IsChosen, IsFirstStepFault, IsMoved}
use Rattle.step_taker.specs.declared.moved.Moved.{Moved}
use Rattle.step_taker.proofs.BodyLemmas.{keeps_ground}
use Rattle.step_taker.proofs.MadeLemmas.{IsOver}

-- so many leaves of equal sorts
pub enough_of : (k n : ℕ) (sorts others : List ℕ) → sorts ≡ others → k + length sorts ≤ n → k + length others ≤ n
enough_of k n sorts others e h = subst (λ (ss : List ℕ). k + length ss ≤ n) e h

same_length : (leaves : List Sorted) → length (terms_of leaves) ≡ length leaves
same_length [] = refl
same_length (v ∷ leaves) = ap suc (same_length leaves)

-- a leaf that is a value is there
pub leaf_there : (signature : Signature) (leaves : List Sorted) (k sort : ℕ) → wrong_leaves signature (terms_of leaves) k (sort ∷ [])
    ≡ None
    → suc k ≤ length leaves
leaf_there signature leaves k sort e =
    let le : k + 1 ≤ length (terms_of leaves) = (leaves_right signature (terms_of leaves) k (sort ∷ []) e).1 in
    let same : length (terms_of leaves) ≡ length leaves = same_length leaves in
    omega (arith, le, same)

module _ (ground : Ground) (leaves : List Term) where
  -- ---- `exit`
  pub exit_told : (results : List ExitValue) (n k : ℕ) (fault : StepFault)
      → UnlessMemory (IsWrongTold n (wrong_leaves ground.data_.signature leaves k (open_sorts results))) fault
      → UnlessMemory (IsFirstStepFault ground leaves (stand (exit_with results) quit n k)) fault
  exit_told results n k =
      unless_more (IsWrongTold n (wrong_leaves ground.data_.signature leaves k (open_sorts results)))
      (IsFirstStepFault ground leaves (stand (exit_with results) quit n k))
      (λ fault h. record { first = record { node = n; wrong = h.what }; is = ap (at_node n) h.is; told = h.told })

  pub exit_moved : (results : List ExitValue) (n k : ℕ) (moved : Moved)
      → wrong_leaves ground.data_.signature leaves k (open_sorts results) ≡ None
      → label_of moved.label ≡ exit_event (results_of ground.canon results (taken (leaves_in leaves) k (open_sorts results)))
      → stands_for moved.target.value ≡ stop → moved.behind.node ≡ kept_number (suc n)
      → moved.behind.leaf ≡ k + length (open_sorts results) → IsOver ground moved
      → IsMoved ground leaves (stand (exit_with results) quit n k) moved
  exit_moved results n k moved right label target node leaf over = record {
    move = record {
      label = exit_event (results_of ground.canon results (taken (leaves_in leaves) k (open_sorts results)));
      target = stop;
      asked = [];
      sorts = open_sorts results;
    };
    is = refl;
    faultless = ap (at_node n) right;
    label = label;
    target = target;
    node_behind = node ∙ ap kept_number (one n);
    leaf_behind = leaf;
    parts = over.parts;
    terms = over.terms;
    values = over.values;
  }
    where
      one : (m : ℕ) → suc m ≡ m + 1
      one m = omega arith

  -- ---- Actions
  module _ (g : ℕ) (offers : List Offer) (test : Option Test) (b : Behaviour) (n k : ℕ) where
    abbrev right : Option Wrong
    right = wrong_leaves ground.data_.signature leaves k (sorts_of (asked_variables offers))

    abbrev tested : Option Wrong
    tested = first_unmet ground.canon (tests_of (chosen_values ground.canon offers leaves k) test)

    pub leaves_told : (fault : StepFault) → UnlessMemory (IsWrongTold n right) fault
        → UnlessMemory (IsFirstStepFault ground leaves (stand (action g offers test b) act n k)) fault
    leaves_told =
        unless_more (IsWrongTold n right) (IsFirstStepFault ground leaves (stand (action g offers test b) act n k)) (λ fault h. record {
          first = record { node = n; wrong = h.what };
          is = ap (λ (w : Option Wrong). at_node n (first_of_two w tested)) h.is;
          told = h.told;
        })

    pub test_told : right ≡ None → (fault : StepFault) → UnlessMemory (IsWrongTold n tested) fault
        → UnlessMemory (IsFirstStepFault ground leaves (stand (action g offers test b) act n k)) fault
    test_told e =
        unless_more (IsWrongTold n tested) (IsFirstStepFault ground leaves (stand (action g offers test b) act n k)) (λ fault h. record {
          first = record { node = n; wrong = h.what };
          is = ap (λ (w : Option Wrong). at_node n (first_of_two w tested)) e ∙ ap (at_node n) h.is;
          told = h.told;
        })

    pub action_moved : (moved : Moved) → right ≡ None → tested ≡ None
        → label_of moved.label ≡ gate_event g (offered ground.canon offers (taken (leaves_in leaves) k (sorts_of (asked_variables
        offers))))
        → stands_for moved.target.value ≡ with_values (chosen_values ground.canon offers leaves k) b → moved.behind.node ≡ kept_number
        (suc n)
        → moved.behind.leaf ≡ k + length (sorts_of (asked_variables offers)) → IsOver ground moved
        → IsMoved ground leaves (stand (action g offers test b) act n k) moved
    action_moved moved e f label target node leaf over = record {
      move = record {
        label = gate_event g (offered ground.canon offers (taken (leaves_in leaves) k (sorts_of (asked_variables offers))));
        target = with_values (chosen_values ground.canon offers leaves k) b;
        asked = tests_of (chosen_values ground.canon offers leaves k) test;
        sorts = sorts_of (asked_variables offers);
      };
      is = refl;
      faultless = ap (λ (w : Option Wrong). at_node n (first_of_two w tested)) e ∙ ap (at_node n) f;
      label = label;
      target = target;
      node_behind = node ∙ ap kept_number (one n);
      leaf_behind = leaf;
      parts = over.parts;
      terms = over.terms;
      values = over.values;
    }
      where
        one : (m : ℕ) → suc m ≡ m + 1
        one m = omega arith

  -- ---- The inner event
  pub inner_moved : (b : Behaviour) (n k : ℕ) (moved : Moved) → label_of moved.label ≡ inner_event → stands_for moved.target.value ≡ b
      → moved.behind.node ≡ kept_number (suc n) → moved.behind.leaf ≡ k → IsOver ground moved
      → IsMoved ground leaves (stand (inner_action b) inner_step n k) moved
  inner_moved b n k moved label target node leaf over = record {
    move = record { label = inner_event; target = b; asked = []; sorts = [] };
    is = refl;
    faultless = refl;
    label = label;
    target = target;
    node_behind = node ∙ ap kept_number (one n);
    leaf_behind = leaf ∙ none k;
    parts = over.parts;
    terms = over.terms;
    values = over.values;
  }
    where
      one : (m : ℕ) → suc m ≡ m + 1
      one m = omega arith

      none : (m : ℕ) → m ≡ m + 0
      none m = omega arith

-- The environment of the leaves of an action.
module _ (ground : Ground) (is_canon : IsCanon ground.data_ ground.canon) (offers : List Offer) (test : Option Test) (b : Behaviour)
    (leaves : List Term) (k : ℕ) (chosen : IsChosen ground offers test b leaves k) (pairs : List (ℕ × Sorted))
    (same : environment_of pairs ≡ zip (numbers_of (asked_variables offers))
    (map ground.canon (taken (leaves_in leaves) k (sorts_of (asked_variables offers)))))
    (over : AreTermsOf ground.data_.signature (map pair_profile pairs)) where
  values : AreValues ground.data_.signature (sorts_of (asked_variables offers))
      (map ground.canon (taken (leaves_in leaves) k (sorts_of (asked_variables offers))))
  values =
      represented_values ground.data_.signature ground.canon (keeps_ground ground is_canon) (sorts_of (asked_variables offers))
      (taken (leaves_in leaves) k (sorts_of (asked_variables offers)))
      (AreValues-taken ground.data_.signature (leaves_in leaves) k (sorts_of (asked_variables offers))
      (leaves_right ground.data_.signature leaves k (sorts_of (asked_variables offers)) chosen.right).0)

  pub chosen_closed : IsClosedBy pairs b
  chosen_closed =
      bound_closed ground.data_.signature (length (specification_of ground.spec).gate_names) (specification_of ground.spec).processes
      (asked_variables offers) (map ground.canon (taken (leaves_in leaves) k (sorts_of (asked_variables offers)))) pairs b same over
      values
      chosen.binders.0 chosen.closed

  no_numbers : AreDistinct []
  no_numbers i j n e f = absurd (none-some n e)

  -- the test alone, as that of an action without offers
  with_test : IsClosedBy pairs (action 0 [] test stop)
  with_test =
      bound_closed ground.data_.signature 1 (specification_of ground.spec).processes (asked_variables offers)
      (map ground.canon (taken (leaves_in leaves) k (sorts_of (asked_variables offers)))) pairs (action 0 [] test stop) same over values
      chosen.binders.0 (omega arith, tt, (no_numbers, tt), chosen.tested, tt)

  pub test_suited : SuitsWhere (profiled_pairs pairs) (λ n s. OccursInTestOption n s test)
  test_suited n s o = states_suit pairs (action 0 [] test stop) with_test n s (inr (refl, inl o))

-- so many leaves, where nothing is wrong with them
pub enough_there : (signature : Signature) (leaves : List Sorted) (k : ℕ) (sorts : List ℕ)
    → wrong_leaves signature (terms_of leaves) k sorts ≡ None → k + length sorts ≤ length leaves
enough_there signature leaves k sorts e =
    let le : k + length sorts ≤ length (terms_of leaves) = (leaves_right signature (terms_of leaves) k sorts e).1 in
    let same : length (terms_of leaves) ≡ length leaves = same_length leaves in
    omega (arith, le, same)

-- a number that is small enough is told as it is
own_number : (n : ℕ) → n ≤ greatest_number → n ≡ kept_number n
own_number n le = by (nat_lt greatest_number n) refl
  where
    by : (b : Bool) → nat_lt greatest_number n ≡ b → n ≡ (if b then greatest_number else n)
    by true e = absurd (omega (arith, le, ltb-true greatest_number n e))
    by false e = refl

-- what holds at each node that is told by the number holds
pub some_checked : (w : Option Wrong) (n : ℕ) → ((m : ℕ) → n ≡ kept_number m → w ≡ None) → n ≤ greatest_number → w ≡ None
some_checked w n h le = h n (own_number n le)
