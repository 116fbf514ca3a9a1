-- The move of a shape with higher numbers for its leaves is the move with higher numbers: by induction on the shape, and
-- for each variant by cases on the behaviour.
use Rattle.std.proofs.Common.{◌≡◌, ◌<◌, ◌≤◌, inr, ℕ, suc, ◌+◌, max, List, [], ◌∷◌, ◌++◌, length, map, zip, slice_get, Bool, true, false, nat_eq, if◌then◌else◌, Option, None, Some, option_map, option_and_then, refl, ap, sym, ◌∙◌, subst, arith, eqb-true}
use Rattle.std.proofs.lemmas.List.{map-append}
use Rattle.lotos_base.specs.Signature.{IsSort}
use Rattle.lotos_base.specs.Term.{Term, variable}
use Rattle.lotos_base.specs.Sorting.{IsTermOf}
use Rattle.lotos_base.specs.Equation.{Data, Variable}
use Rattle.lotos_base.specs.Equality.{same_term}
use Rattle.lotos_base.specs.Canon.{IsCanon}
use Rattle.lotos_base.specs.Substitution.{Substitution, substituted, without}
use Rattle.behaviour_semantics.specs.Behaviour.{Behaviour, stop, parallel, Test, Offer, ExitValue, exit_value, any_of, SynchronisationSet, Process, Specification, asked_variables, open_sorts, numbers_of, sorts_of, let_variables, let_terms}
use Rattle.behaviour_semantics.specs.Label.{Label, inner_event, gate_event, exit_event}
use Rattle.behaviour_semantics.specs.Replacement.{test_with, offer_with, exit_value_with, with_values, binding_of}
use Rattle.behaviour_semantics.specs.Rule.{offered, results_of, tests_of, have_sorts, move_together, label_values, pairwise}
use Rattle.behaviour_semantics.specs.Shape.{Shape, act, quit, inner_step, guarded, left_side, right_side, both_sides, hidden, enabled, passed, let_bound, with_value, at_gate, called, relabelled}
use Rattle.behaviour_semantics.specs.Move.{Setting, Move, move_of, taken, opened, alone, together, passing, enabling, disabling, hiding, asking, relabelling, after_leaf, act_move, quit_move, inner_move, guarded_move, left_move, right_move, both_move, hidden_move, enabled_move, passed_move, let_move, value_move, gate_move, called_move, relabelled_move}
use Rattle.behaviour_semantics.specs.Draft.{above, above_variables, above_processes, label_with, leaves_from}
use Rattle.behaviour_semantics.specs.Join.{move_with, raised_from}
use Rattle.behaviour_semantics.specs.WellFormed.{Every, IsSpecification, IsDefinition, sort_in}
use Rattle.behaviour_semantics.proofs.ListLemmas.{Every-at}
use Rattle.behaviour_semantics.proofs.ReplacementLemmas.{asked-with, let_variables-with, unchanged}
use Rattle.behaviour_semantics.proofs.DraftsInOrder.{label_values-with}
use Rattle.behaviour_semantics.proofs.EnvironmentLemmas.{behaviour_agrees}
use Rattle.behaviour_semantics.proofs.RelatedTerms.{Side, Related, IsRepresenting, canon_represents, only_leaf, Binders, RelatedTerms, none_related, one_related, bindings_put}
use Rattle.behaviour_semantics.proofs.RelatedBehaviours.{RelatedOffers, no_offers, both_give, both_ask, RelatedResults, no_results, both_values, both_any, Beside, both_stop, both_exit_with, both_action, both_inner, both_guard, both_choice, both_parallel, both_hide, both_enable, both_disable, both_let, both_choose_value, both_choose_gate, both_par_gate, both_call, both_relabel, put_beside, asked-left, opened_beside}
use Rattle.behaviour_semantics.proofs.RelatedMoves.{RelatedLeaves, RelatedLabels, both_inner_events, both_gate_events, both_exit_events, RelatedAsked, none_asked, one_asked, RelatedMoves, Answer, represented_related, follows}
use Rattle.behaviour_semantics.proofs.InstanceLemmas.{bodies_of}
use Rattle.behaviour_semantics.proofs.MoveSorts.{move_sorts}
use Rattle.behaviour_semantics.proofs.RaisedTerms.{AreLow, IsFar, AreFar, raise_low, canon_raised, canons_raised, term_commutes, behaviour_commutes, without_low, have_sorts-raised, together-raised, pairwise-with}
use Rattle.behaviour_semantics.proofs.PutMoves.{if_map, map_natural, chain_natural, opened-with, relabelling-with, hiding-with, disabling-with, alone-move, passing-with}

module _ (data_ : Data) (base from shift : ℕ) (le_from : base ≤ from) (specification : Specification)
    (well_formed : IsSpecification data_.signature specification) (le_processes : above_processes specification.processes ≤ base)
    (canon : Term → Term) (is_canon : IsCanon data_ canon) (others : Substitution) where
  -- Every variable from `base` on may stand for a leaf.
  abbrev pub open_side : Side
  open_side = record { represent = canon; leaves = leaves_from base; values = variable; leaf = λ n r. Unit {0} }

  abbrev raise : Substitution
  raise = raised_from from shift

  abbrev setting : Setting
  setting = record { signature = data_.signature; represent = canon; processes = specification.processes }

  abbrev Stands : List Variable → Behaviour → Behaviour → Type 0
  Stands scope b c = Beside data_ base specification.processes open_side open_side scope b c

  abbrev RelatedOpen : List ℕ → List Term → List Term → Type 0
  RelatedOpen sorts ts us = RelatedTerms data_ base open_side open_side [] sorts ts us

  -- The leaves from a number on are those from another number on, raised.
  abbrev pub Shifted : ℕ → ℕ → Type 0
  Shifted next next' = (k s : ℕ) → others (next' + k) s ≡ substituted raise (variable (base + (next + k)) s)

  shifted_suc : (next next' : ℕ) → Shifted next next' → Shifted (suc next) (suc next')
  shifted_suc next next' h k s =
      let e : suc next' + k ≡ next' + suc k = omega arith in
      let f : base + (next + suc k) ≡ base + (suc next + k) = omega arith in
      ap (λ (n : ℕ). others n s) e ∙ (h (suc k) s ∙ ap (λ (n : ℕ). substituted raise (variable n s)) f)

  shifted_more : (next next' count : ℕ) → Shifted next next' → Shifted (next + count) (next' + count)
  shifted_more next next' count h k s =
      let e : next' + count + k ≡ next' + (count + k) = omega arith in
      let f : base + (next + (count + k)) ≡ base + (next + count + k) = omega arith in
      ap (λ (n : ℕ). others n s) e ∙ (h (count + k) s ∙ ap (λ (n : ℕ). substituted raise (variable n s)) f)

  shifted_here : (next next' : ℕ) → Shifted next next' → (s : ℕ) → others next' s ≡ substituted raise (variable (base + next) s)
  shifted_here next next' h s =
      let e : next' ≡ next' + 0 = omega arith in
      let f : base + (next + 0) ≡ base + next = omega arith in
      ap (λ (n : ℕ). others n s) e ∙ (h 0 s ∙ ap (λ (n : ℕ). substituted raise (variable n s)) f)

  taken_shifted : (next next' : ℕ) (sorts : List ℕ) → Shifted next next'
      → taken others next' sorts ≡ map (substituted raise) (taken (leaves_from base) next sorts)
  taken_shifted next next' [] h = refl
  taken_shifted next next' (s ∷ sorts) h =
      ap (λ (t : Term). t ∷ taken others (suc next') sorts) (shifted_here next next' h s)
      ∙ ap (λ (ts : List Term). substituted raise (variable (base + next) s) ∷ ts)
      (taken_shifted (suc next) (suc next') sorts (shifted_suc next next' h))

  -- Leaves, and terms that are related to some.
  supply : (next s : ℕ) → IsSort data_.signature s → Related data_ base open_side open_side [] s (leaves_from base next s)
      (leaves_from base next s)
  supply next s is_sort = record {
    left_sorted = (refl, is_sort);
    right_sorted = (refl, is_sort);
    left_free = λ n r o. inr (le n o.0, tt);
    right_free = λ n r o. inr (le n o.0, tt);
    equal = λ left right values grounds. same_term _;
  }
    where
      le : (n : ℕ) → base + next ≡ n → base ≤ n
      le n e = omega (arith, e)

  supplied_leaves : (next : ℕ) (sorts : List ℕ) → Every (IsSort data_.signature) sorts
      → RelatedLeaves data_ base specification.processes open_side open_side next sorts
  supplied_leaves next [] h = tt
  supplied_leaves next (s ∷ sorts) h = (supply next s h.0, supplied_leaves (suc next) sorts h.1)

  chosen_related : (next : ℕ) (sorts : List ℕ) → Every (IsSort data_.signature) sorts
      → RelatedOpen sorts (taken (leaves_from base) next sorts) (taken (leaves_from base) next sorts)
  chosen_related next [] h = none_related
  chosen_related next (s ∷ sorts) h = one_related (supply next s h.0) (chosen_related (suc next) sorts h.1)

  far_of : {sorts : List ℕ} {ts us : List Term} → RelatedOpen sorts ts us → AreFar base ts
  far_of none_related = tt
  far_of (one_related r rest) = (λ n q o. (only_leaf data_ base open_side n q (r.left_free n q o)).0, far_of rest)

  terms_of_sorts : {sorts : List ℕ} {ts us : List Term} → RelatedOpen sorts ts us → Every (IsTermOf data_.signature) ts
  terms_of_sorts none_related = tt
  terms_of_sorts (one_related {s = s} r rest) = ((s, r.left_sorted), terms_of_sorts rest)

  representing : IsRepresenting data_ canon
  representing = canon_represents data_ canon is_canon

  canons_related : {sorts : List ℕ} {ts us : List Term} → RelatedOpen sorts ts us → RelatedOpen sorts (map canon ts) (map canon us)
  canons_related r = represented_related data_ base specification.processes open_side open_side representing representing r

  pub low_of : (variables : List Variable) → Binders data_ base variables → AreLow base variables
  low_of [] h = tt
  low_of (z ∷ variables) h = (h.0.0, low_of variables h.1)

  sorts_of_binders : (variables : List Variable) → Binders data_ base variables → Every (IsSort data_.signature) (sorts_of variables)
  sorts_of_binders [] h = tt
  sorts_of_binders (z ∷ variables) h = (h.0.1, sorts_of_binders variables h.1)

  above_binders : (variables : List Variable) → Binders data_ base variables → above_variables variables ≤ base
  above_binders [] h = omega arith
  above_binders (z ∷ variables) h =
      let lt : z.number < base = h.0.0 in
      let rest : above_variables variables ≤ base = above_binders variables h.1 in
      omega (arith, lt, rest)

  two_low : (d f : Behaviour) → above d ≤ base → above f ≤ base → max (above d) (above f) ≤ base
  two_low d f left right = omega (arith, left, right)

  -- What a behaviour binds has low numbers.
  above_low : {scope : List Variable} {b c : Behaviour} → Stands scope b c → above b ≤ base
  above_low both_stop = omega arith
  above_low (both_exit_with r) = omega arith
  above_low (both_action {variables = variables} {offers = offers} {b = d} r binders tests rest) =
      let below : above d ≤ base = above_low rest in
      let bound : above_variables (asked_variables offers) ≤ base = subst (λ (zs : List Variable). above_variables zs ≤ base)
      (sym (asked-left data_ base r)) (above_binders variables binders) in
      omega (arith, below, bound)
  above_low (both_inner r) = above_low r
  above_low (both_guard r q) = above_low q
  above_low (both_choice {b = d} {d = f} r q) = two_low d f (above_low r) (above_low q)
  above_low (both_parallel {b = d} {d = f} r q) = two_low d f (above_low r) (above_low q)
  above_low (both_hide r) = above_low r
  above_low (both_enable {variables = variables} {b = d} {d = f} r binders q) =
      let left : above d ≤ base = above_low r in
      let right : above f ≤ base = above_low q in
      let bound : above_variables variables ≤ base = above_binders variables binders in
      omega (arith, left, right, bound)
  above_low (both_disable {b = d} {d = f} r q) = two_low d f (above_low r) (above_low q)
  above_low (both_let variables {bindings = bindings} {b = d} e e' binders terms r) =
      let below : above d ≤ base = above_low r in
      let bound : above_variables (let_variables bindings) ≤ base = subst (λ (zs : List Variable). above_variables zs ≤ base) (sym e)
      (above_binders variables binders) in
      omega (arith, below, bound)
  above_low (both_choose_value {z = z} {b = d} binders r) = let below : above d ≤ base = above_low r in let lt : z.number < base =
      binders.0.0 in omega (arith, below, lt)
  above_low (both_choose_gate r) = above_low r
  above_low (both_par_gate r) = above_low r
  above_low (both_call process at terms) = omega arith
  above_low (both_relabel r) = above_low r

  -- The values of actions and of `exit`.
  offered-raised : {variables : List Variable} {offers offers' : List Offer}
      → RelatedOffers data_ base open_side open_side [] variables offers offers' → (chosen : List Term)
      → Every (IsTermOf data_.signature) chosen → offered canon (map (offer_with raise) offers) (map (substituted raise) chosen) ≡ map
      (substituted raise) (offered canon offers chosen)
  offered-raised no_offers chosen h = refl
  offered-raised (both_give {s = s} {t = t} {offers = offers} r rest) chosen h =
      let head : canon (substituted raise t) ≡ substituted raise (canon t) =
      canon_raised base from shift le_from data_ canon is_canon t (s, r.left_sorted) in
      let tail : offered canon (map (offer_with raise) offers) (map (substituted raise) chosen) ≡ map (substituted raise)
      (offered canon offers chosen) = offered-raised rest chosen h in
      cc (head, tail)
  offered-raised (both_ask z rest) [] h = refl
  offered-raised (both_ask z {offers = offers} rest) (v ∷ chosen) h =
      let head : canon (substituted raise v) ≡ substituted raise (canon v) =
      canon_raised base from shift le_from data_ canon is_canon v h.0 in
      let tail : offered canon (map (offer_with raise) offers) (map (substituted raise) chosen) ≡ map (substituted raise)
      (offered canon offers chosen) = offered-raised rest chosen h.1 in
      cc (head, tail)

  results-raised : {sorts : List ℕ} {results results' : List ExitValue}
      → RelatedResults data_ base open_side open_side [] sorts results results' → (chosen : List Term)
      → Every (IsTermOf data_.signature) chosen → results_of canon (map (exit_value_with raise) results)
      (map (substituted raise) chosen) ≡ map (substituted raise) (results_of canon results chosen)
  results-raised no_results chosen h = refl
  results-raised (both_values {s = s} {t = t} {results = results} r rest) chosen h =
      let head : canon (substituted raise t) ≡ substituted raise (canon t) =
      canon_raised base from shift le_from data_ canon is_canon t (s, r.left_sorted) in
      let tail : results_of canon (map (exit_value_with raise) results) (map (substituted raise) chosen) ≡ map (substituted raise)
      (results_of canon results chosen) = results-raised rest chosen h in
      cc (head, tail)
  results-raised (both_any s is_sort rest) [] h = refl
  results-raised (both_any s {results = results} is_sort rest) (v ∷ chosen) h =
      let head : canon (substituted raise v) ≡ substituted raise (canon v) =
      canon_raised base from shift le_from data_ canon is_canon v h.0 in
      let tail : results_of canon (map (exit_value_with raise) results) (map (substituted raise) chosen) ≡ map (substituted raise)
      (results_of canon results chosen) = results-raised rest chosen h.1 in
      cc (head, tail)

  open-with : (values : Substitution) (results : List ExitValue) → open_sorts (map (exit_value_with values) results) ≡ open_sorts results
  open-with values [] = refl
  open-with values (exit_value t ∷ results) = open-with values results
  open-with values (any_of s ∷ results) = ap (λ (ss : List ℕ). s ∷ ss) (open-with values results)

  result_sorts : {sorts : List ℕ} {results results' : List ExitValue}
      → RelatedResults data_ base open_side open_side [] sorts results results' → Every (IsSort data_.signature) (open_sorts results)
  result_sorts no_results = tt
  result_sorts (both_values r rest) = result_sorts rest
  result_sorts (both_any s is_sort rest) = (is_sort, result_sorts rest)

  -- The moves of the raised behaviours are the raised moves.
  abbrev Natural : (Behaviour → Option Move) → (Behaviour → Option Move) → Type 0
  Natural moves moves' = (b c : Behaviour) → Stands [] b c → moves' (with_values raise b) ≡ option_map (move_with raise) (moves b)

  tests_commute : (variables : List Variable) (ts : List Term) → AreLow base variables → (test : Option Test)
      → tests_of (binding_of variables (map (substituted raise) ts)) (option_map (test_with raise) test) ≡ map (test_with raise)
      (tests_of (binding_of variables ts) test)
  tests_commute variables ts low None = refl
  tests_commute variables ts low (Some test) =
      let left : _ ≡ _ = term_commutes base from shift le_from variables ts low test.left in
      let right : _ ≡ _ = term_commutes base from shift le_from variables ts low test.right in
      λ i. record { left = left i; right = right i } ∷ []

  -- the move of an action with these variables, what is put in the test and the behaviour, and these leaves
  abbrev acted : ℕ → List Offer → Option Test → Behaviour → List Variable → Substitution → List Term → Move
  acted g offers test b variables values chosen = record {
    label = gate_event g (offered canon offers chosen);
    target = with_values (binding_of variables (map canon chosen)) (with_values values b);
    asked = tests_of (binding_of variables (map canon chosen)) (option_map (test_with values) test);
    sorts = sorts_of variables;
  }

  act_natural : (next next' : ℕ) → Shifted next next' → Natural (act_move setting (leaves_from base) next) (act_move setting others next')
  act_natural next next' h b c (both_action {variables = variables} {g = g} {offers = offers} {test = test} {b = d} r binders tests rest) =
      let zs : List Variable = asked_variables offers in
      let same : zs ≡ variables = asked-left data_ base r in
      let fine : Binders data_ base (asked_variables offers) = subst (Binders data_ base) (sym (asked-left data_ base r)) binders in
      let low : AreLow base (asked_variables offers) = low_of (asked_variables offers) fine in
      let chosen : List Term = taken (leaves_from base) next (sorts_of (asked_variables offers)) in
      let related : RelatedOpen (sorts_of (asked_variables offers)) (taken (leaves_from base) next (sorts_of (asked_variables offers)))
      (taken (leaves_from base) next (sorts_of (asked_variables offers))) =
      chosen_related next (sorts_of (asked_variables offers)) (sorts_of_binders (asked_variables offers) fine) in
      let canons : map canon (map (substituted raise) (taken (leaves_from base) next (sorts_of (asked_variables offers)))) ≡ map
      (substituted raise) (map canon (taken (leaves_from base) next (sorts_of (asked_variables offers)))) =
      canons_raised base from shift le_from data_ canon is_canon (taken (leaves_from base) next (sorts_of (asked_variables offers)))
      (terms_of_sorts related) in
      let values : offered canon (map (offer_with raise) offers) (map (substituted raise)
      (taken (leaves_from base) next (sorts_of (asked_variables offers)))) ≡ map (substituted raise)
      (offered canon offers (taken (leaves_from base) next (sorts_of (asked_variables offers)))) =
      offered-raised r (taken (leaves_from base) next (sorts_of (asked_variables offers))) (terms_of_sorts related) in
      let target : with_values (binding_of (asked_variables offers) (map (substituted raise)
      (map canon (taken (leaves_from base) next (sorts_of (asked_variables offers)))))) (with_values raise d)
      ≡ with_values raise (with_values (binding_of (asked_variables offers)
      (map canon (taken (leaves_from base) next (sorts_of (asked_variables offers))))) d) =
      behaviour_commutes base from shift le_from (asked_variables offers)
      (map canon (taken (leaves_from base) next (sorts_of (asked_variables offers)))) low (far_of (canons_related related)) d
      (above_low rest) in
      let asked : tests_of (binding_of (asked_variables offers) (map (substituted raise)
      (map canon (taken (leaves_from base) next (sorts_of (asked_variables offers)))))) (option_map (test_with raise) test)
      ≡ map (test_with raise) (tests_of (binding_of (asked_variables offers)
      (map canon (taken (leaves_from base) next (sorts_of (asked_variables offers))))) test) =
      tests_commute (asked_variables offers) (map canon (taken (leaves_from base) next (sorts_of (asked_variables offers)))) low test in
      ap (λ (ys : List Variable). Some (acted g (map (offer_with raise) offers) test d ys
      (without (numbers_of (asked_variables offers)) raise) (taken others next' (sorts_of ys)))) (asked-with raise offers)
      ∙ (ap (λ (v : Substitution). Some (acted g (map (offer_with raise) offers) test d (asked_variables offers) v
      (taken others next' (sorts_of (asked_variables offers))))) (without_low base from shift le_from (asked_variables offers) low)
      ∙ (ap (λ (ts : List Term). Some (acted g (map (offer_with raise) offers) test d (asked_variables offers) raise ts))
      (taken_shifted next next' (sorts_of (asked_variables offers)) h)
      ∙ (ap (λ (ts : List Term). Some (record {
        label = gate_event g (offered canon (map (offer_with raise) offers)
            (map (substituted raise) (taken (leaves_from base) next (sorts_of (asked_variables offers)))));
        target = with_values (binding_of (asked_variables offers) ts) (with_values raise d);
        asked = tests_of (binding_of (asked_variables offers) ts) (option_map (test_with raise) test);
        sorts = sorts_of (asked_variables offers);
      })) canons
      ∙ (λ i. Some (record {
        label = gate_event g (values i);
        target = target i;
        asked = asked i;
        sorts =
            sorts_of (asked_variables offers);
      })))))
  act_natural next next' h b c both_stop = refl
  act_natural next next' h b c (both_exit_with r) = refl
  act_natural next next' h b c (both_inner r) = refl
  act_natural next next' h b c (both_guard r q) = refl
  act_natural next next' h b c (both_choice r q) = refl
  act_natural next next' h b c (both_parallel r q) = refl
  act_natural next next' h b c (both_hide r) = refl
  act_natural next next' h b c (both_enable r binders q) = refl
  act_natural next next' h b c (both_disable r q) = refl
  act_natural next next' h b c (both_let variables e e' binders terms r) = refl
  act_natural next next' h b c (both_choose_value binders r) = refl
  act_natural next next' h b c (both_choose_gate r) = refl
  act_natural next next' h b c (both_par_gate r) = refl
  act_natural next next' h b c (both_call process at terms) = refl
  act_natural next next' h b c (both_relabel r) = refl

  quit_natural : (next next' : ℕ) → Shifted next next' → Natural (quit_move setting (leaves_from base) next)
      (quit_move setting others next')
  quit_natural next next' h b c (both_exit_with {results = results} r) =
      let terms : Every (IsTermOf data_.signature) (taken (leaves_from base) next (open_sorts results)) =
      terms_of_sorts (chosen_related next (open_sorts results) (result_sorts r)) in
      ap (λ (ss : List ℕ). Some (record {
        label = exit_event (results_of canon (map (exit_value_with raise) results)
            (taken others next' ss));
        target = stop;
        asked = [];
        sorts = ss;
      })) (open-with raise results)
      ∙ (ap (λ (ts : List Term). Some (record {
        label = exit_event (results_of canon (map (exit_value_with raise) results) ts);
        target =
            stop;
        asked = [];
        sorts = open_sorts results;
      })) (taken_shifted next next' (open_sorts results) h)
      ∙ ap (λ (ts : List Term). Some (record { label = exit_event ts; target = stop; asked = []; sorts = open_sorts results }))
      (results-raised r (taken (leaves_from base) next (open_sorts results)) terms))
  quit_natural next next' h b c _ = refl

  inner_natural : Natural inner_move inner_move
  inner_natural b c (both_inner r) = refl
  inner_natural b c _ = refl

  guarded_natural : (moves moves' : Behaviour → Option Move) → Natural moves moves' → Natural (guarded_move moves) (guarded_move moves')
  guarded_natural moves moves' natural b c (both_guard {test = test} {b = d} r q) =
      map_natural (move_with raise) (asking test) (asking (test_with raise test)) (moves d) (moves' (with_values raise d)) (λ m. refl)
      (natural d _ q)
  guarded_natural moves moves' natural b c _ = refl

  left_natural : (moves moves' : Behaviour → Option Move) → Natural moves moves' → Natural (left_move moves) (left_move moves')
  left_natural moves moves' natural b c (both_choice {b = d} r q) = natural d _ r
  left_natural moves moves' natural b c (both_parallel {meet = meet} {b = d} {d = f} r q) =
      chain_natural (move_with raise) (alone meet (λ target. parallel meet target f))
      (alone meet (λ target. parallel meet target (with_values raise f))) (moves d) (moves' (with_values raise d))
      (λ m e. alone-move raise meet (λ target. parallel meet target f) (λ target. parallel meet target (with_values raise f))
      (λ t. refl) m) (natural d _ r)
  left_natural moves moves' natural b c (both_disable {b = d} {d = f} r q) =
      map_natural (move_with raise) (disabling f) (disabling (with_values raise f)) (moves d) (moves' (with_values raise d))
      (disabling-with raise f) (natural d _ r)
  left_natural moves moves' natural b c _ = refl

  right_natural : (moves moves' : Behaviour → Option Move) → Natural moves moves' → Natural (right_move moves) (right_move moves')
  right_natural moves moves' natural b c (both_choice {d = f} r q) = natural f _ q
  right_natural moves moves' natural b c (both_parallel {meet = meet} {b = d} {d = f} r q) =
      chain_natural (move_with raise) (alone meet (λ target. parallel meet d target))
      (alone meet (λ target. parallel meet (with_values raise d) target)) (moves f) (moves' (with_values raise f))
      (λ m e. alone-move raise meet (λ target. parallel meet d target) (λ target. parallel meet (with_values raise d) target)
      (λ t. refl) m) (natural f _ q)
  right_natural moves moves' natural b c (both_disable {d = f} r q) = natural f _ q
  right_natural moves moves' natural b c _ = refl

  -- The move of both sides.
  abbrev joined_move : SynchronisationSet → Move → Move → Move
  joined_move meet m n = record {
    label = m.label;
    target = parallel meet m.target n.target;
    asked = m.asked ++ n.asked ++ pairwise (label_values m.label) (label_values n.label);
    sorts = m.sorts ++ n.sorts;
  }

  asked_together : (m n : Move) → map (test_with raise) m.asked ++ map (test_with raise) n.asked ++ pairwise
      (label_values (label_with raise m.label)) (label_values (label_with raise n.label)) ≡ map (test_with raise)
      (m.asked ++ n.asked ++ pairwise (label_values m.label) (label_values n.label))
  asked_together m n =
      let pairs : pairwise (label_values (label_with raise m.label)) (label_values (label_with raise n.label)) ≡ map (test_with raise)
      (pairwise (label_values m.label) (label_values n.label)) =
      ap (λ (ts : List Term). pairwise ts (label_values (label_with raise n.label))) (label_values-with raise m.label)
      ∙ (ap (pairwise (map (substituted raise) (label_values m.label))) (label_values-with raise n.label)
      ∙ pairwise-with raise (label_values m.label) (label_values n.label)) in
      ap (λ (ts : List Test). map (test_with raise) m.asked ++ map (test_with raise) n.asked ++ ts) pairs
      ∙ (ap (λ (ts : List Test). ts ++ map (test_with raise) (pairwise (label_values m.label) (label_values n.label)))
      (sym (map-append (test_with raise) m.asked n.asked))
      ∙ sym (map-append (test_with raise) (m.asked ++ n.asked) (pairwise (label_values m.label) (label_values n.label))))

  together_natural : (meet : SynchronisationSet) (m n : Move) → together data_.signature meet (move_with raise m) (move_with raise n)
      ≡ option_map (move_with raise) (together data_.signature meet m n)
  together_natural meet m n =
      ap (λ (b : Bool). if b then Some (joined_move meet (move_with raise m) (move_with raise n)) else None)
      (together-raised base from shift le_from data_.signature meet m.label n.label)
      ∙ (ap (λ (ts : List Test). if move_together data_.signature meet m.label n.label
      then Some (record {
        label = label_with raise m.label;
        target = parallel meet (with_values raise m.target)
            (with_values raise n.target);
        asked = ts;
        sorts = m.sorts ++ n.sorts;
      })
      else None) (asked_together m n)
      ∙ if_map (move_with raise) (move_together data_.signature meet m.label n.label) (joined_move meet m n))

  both_natural : (next next' : ℕ) → Shifted next next' → (lefts lefts' : Behaviour → Option Move) → Natural lefts lefts'
      → (rights rights' : ℕ → Behaviour → Option Move) → ((n n' : ℕ) → Shifted n n' → Natural (rights n) (rights' n'))
      → Natural (both_move setting next lefts rights) (both_move setting next' lefts' rights')
  both_natural next next' h lefts lefts' natural rights rights' naturals b c (both_parallel {meet = meet} {b = d} {d = f} r q) =
      chain_natural (move_with raise)
      (λ (m : Move). option_and_then (together data_.signature meet m) (rights (next + length m.sorts) f))
      (λ (m : Move). option_and_then (together data_.signature meet m) (rights' (next' + length m.sorts) (with_values raise f)))
      (lefts d) (lefts' (with_values raise d))
      (λ m e.
      chain_natural (move_with raise) (together data_.signature meet m) (together data_.signature meet (move_with raise m))
      (rights (next + length m.sorts) f) (rights' (next' + length m.sorts) (with_values raise f))
      (λ n k. together_natural meet m n) (naturals (next + length m.sorts) (next' + length m.sorts)
      (shifted_more next next' (length m.sorts) h) f _ q))
      (natural d _ r)
  both_natural next next' h lefts lefts' natural rights rights' naturals b c _ = refl

  hidden_natural : (moves moves' : Behaviour → Option Move) → Natural moves moves' → Natural (hidden_move moves) (hidden_move moves')
  hidden_natural moves moves' natural b c (both_hide {gates = gates} {b = d} r) =
      map_natural (move_with raise) (hiding gates) (hiding gates) (moves d) (moves' (with_values raise d)) (hiding-with raise gates)
      (natural d _ r)
  hidden_natural moves moves' natural b c _ = refl

  -- The values of the label are far.
  abbrev FarLabels : (Behaviour → Option Move) → Type 0
  FarLabels moves = (b c : Behaviour) → Stands [] b c → (m : Move) → moves b ≡ Some m → AreFar base (label_values m.label)

  enabling_natural : (variables : List Variable) (d : Behaviour) → AreLow base variables → above d ≤ base → (m : Move) (label : Label)
      → AreFar base (label_values label) → enabling data_.signature variables (with_values (without (numbers_of variables) raise) d)
      (move_with raise m) (label_with raise label) ≡ option_map (move_with raise) (enabling data_.signature variables d m label)
  enabling_natural variables d low le m inner_event far = refl
  enabling_natural variables d low le m (gate_event g ts) far = refl
  enabling_natural variables d low le m (exit_event ts) far =
      ap (λ (b : Bool). if b then Some (record {
        label = inner_event;
        target =
            with_values (binding_of variables (map (substituted raise) ts)) (with_values (without (numbers_of variables) raise) d);
        asked = map (test_with raise) m.asked;
        sorts = m.sorts;
      }) else None)
      (have_sorts-raised base from shift le_from data_.signature ts (sorts_of variables))
      ∙ (ap (λ (v : Substitution). if have_sorts data_.signature ts (sorts_of variables)
      then Some (record {
        label = inner_event;
        target = with_values (binding_of variables (map (substituted raise) ts))
            (with_values v d);
        asked = map (test_with raise) m.asked;
        sorts = m.sorts;
      })
      else None) (without_low base from shift le_from variables low)
      ∙ (ap (λ (target : Behaviour). if have_sorts data_.signature ts (sorts_of variables)
      then Some (record { label = inner_event; target = target; asked = map (test_with raise) m.asked; sorts = m.sorts })
      else None) (behaviour_commutes base from shift le_from variables ts low far d le)
      ∙ if_map (move_with raise) (have_sorts data_.signature ts (sorts_of variables))
      (record m { label = inner_event; target = with_values (binding_of variables ts) d })))

  enabled_natural : (moves moves' : Behaviour → Option Move) → FarLabels moves → Natural moves moves'
      → Natural (enabled_move setting moves) (enabled_move setting moves')
  enabled_natural moves moves' far natural b c (both_enable {variables = variables} {b = d} {d = f} r binders q) =
      chain_natural (move_with raise) (λ (m : Move). enabling data_.signature variables f m m.label)
      (λ (m : Move). enabling data_.signature variables (with_values (without (numbers_of variables) raise) f) m m.label) (moves d)
      (moves' (with_values raise d))
      (λ m e. enabling_natural variables f (low_of variables binders) (above_low q) m m.label (far d _ r m e)) (natural d _ r)
  enabled_natural moves moves' far natural b c _ = refl

  passed_natural : (moves moves' : Behaviour → Option Move) → Natural moves moves' → Natural (passed_move moves) (passed_move moves')
  passed_natural moves moves' natural b c (both_enable {variables = variables} {b = d} {d = f} r binders q) =
      chain_natural (move_with raise) (passing variables f) (passing variables (with_values (without (numbers_of variables) raise) f))
      (moves d) (moves' (with_values raise d))
      (λ m e. passing-with raise variables f (with_values (without (numbers_of variables) raise) f) refl m) (natural d _ r)
  passed_natural moves moves' natural b c _ = refl

  -- Values for a binder, and then the part.
  bound_natural : (moves moves' : Behaviour → Option Move) → Natural moves moves'
      → (variables : List Variable) (sorts : List ℕ) (ts us : List Term) (d f : Behaviour) → Binders data_ base variables
      → sorts ≡ sorts_of variables → RelatedOpen sorts ts us → Stands (variables ++ []) d f
      → moves' (with_values (binding_of variables (map canon (map (substituted raise) ts)))
      (with_values (without (numbers_of variables) raise) d)) ≡ option_map (move_with raise)
      (moves (with_values (binding_of variables (map canon ts)) d))
  bound_natural moves moves' natural variables sorts ts us d f binders same related rest =
      let low : AreLow base variables = low_of variables binders in
      let put_ : RelatedOpen (sorts_of variables) (map canon ts) (map canon us) =
      canons_related (subst (λ (ss : List ℕ). RelatedOpen ss ts us) same related) in
      let inside : Stands [] (with_values (binding_of variables (map canon ts)) d) (with_values (binding_of variables (map canon us)) f) =
      put_beside data_ base specification.processes (bindings_put data_ base variables (map canon ts) (map canon us) binders put_) rest in
      ap (λ (v : Substitution). moves' (with_values (binding_of variables (map canon (map (substituted raise) ts))) (with_values v d)))
      (without_low base from shift le_from variables low)
      ∙ (ap (λ (vs : List Term). moves' (with_values (binding_of variables vs) (with_values raise d)))
      (canons_raised base from shift le_from data_ canon is_canon ts (terms_of_sorts related))
      ∙ (ap moves' (behaviour_commutes base from shift le_from variables (map canon ts) low (far_of put_) d (above_low rest))
      ∙ natural (with_values (binding_of variables (map canon ts)) d) (with_values (binding_of variables (map canon us)) f) inside))

  terms-with : (values : Substitution) (bindings : List (Variable × Term))
      → let_terms (map {B = Variable × Term} (λ (bound : Variable × Term). (bound.0, substituted values bound.1)) bindings) ≡ map
      (substituted values) (let_terms bindings)
  terms-with values [] = refl
  terms-with values (bound ∷ bindings) = ap (λ (ts : List Term). substituted values bound.1 ∷ ts) (terms-with values bindings)

  let_natural : (moves moves' : Behaviour → Option Move) → Natural moves moves' → Natural (let_move setting moves) (let_move setting moves')
  let_natural moves moves' natural b c (both_let variables {bindings = bindings} {others = bindings'} {b = d} {c =
      f} e e' binders terms rest) =
      ap (λ (zs : List Variable). moves' (with_values (binding_of zs (map canon
      (let_terms (map {B = Variable × Term} (λ (bound : Variable × Term). (bound.0, substituted raise bound.1)) bindings))))
      (with_values (without (numbers_of (let_variables bindings)) raise) d))) (let_variables-with raise bindings)
      ∙ (ap (λ (ts : List Term). moves' (with_values (binding_of (let_variables bindings) (map canon ts))
      (with_values (without (numbers_of (let_variables bindings)) raise) d))) (terms-with raise bindings)
      ∙ bound_natural moves moves' natural (let_variables bindings) (sorts_of variables) (let_terms bindings) (let_terms bindings') d f
      (subst (Binders data_ base) (sym e) binders) (ap sorts_of (sym e)) terms
      (subst (λ (zs : List Variable). Stands (zs ++ []) d f) (sym e) rest))
  let_natural moves moves' natural b c _ = refl

  value_natural : (next next' : ℕ) → Shifted next next' → (moves moves' : Behaviour → Option Move) → Natural moves moves'
      → Natural (value_move setting (leaves_from base) next moves) (value_move setting others next' moves')
  value_natural next next' h moves moves' natural b c (both_choose_value {z = z} {b = d} {c = f} binders rest) =
      let leaf : Term = leaves_from base next z.sort in
      ap (λ (t : Term). option_map (after_leaf z.sort) (moves' (with_values (binding_of (z ∷ []) (canon t ∷ []))
      (with_values (without (z.number ∷ []) raise) d)))) (shifted_here next next' h z.sort)
      ∙ map_natural (move_with raise) (after_leaf z.sort) (after_leaf z.sort)
      (moves (with_values (binding_of (z ∷ []) (canon (leaves_from base next z.sort) ∷ [])) d))
      (moves' (with_values (binding_of (z ∷ []) (canon (substituted raise (leaves_from base next z.sort)) ∷ []))
      (with_values (without (z.number ∷ []) raise) d)))
      (λ m. refl)
      (bound_natural moves moves' natural (z ∷ []) (z.sort ∷ []) (leaves_from base next z.sort ∷ [])
      (leaves_from base next z.sort ∷ []) d f binders refl (one_related (supply next z.sort binders.0.1) none_related) rest)
  value_natural next next' h moves moves' natural b c _ = refl

  gate_natural : (k : ℕ) (moves moves' : Behaviour → Option Move) → Natural moves moves' → Natural (gate_move k moves) (gate_move k moves')
  gate_natural k moves moves' natural b c (both_choose_gate {g = g} {gates = gates} {b = d} r) = by (slice_get gates k)
    where
      below : (a : ℕ) → option_map (relabelling ((g, a) ∷ [])) (moves' (with_values raise d)) ≡ option_map (move_with raise)
          (option_map (relabelling ((g, a) ∷ [])) (moves d))
      below a = map_natural (move_with raise) (relabelling ((g, a) ∷ [])) (relabelling ((g, a) ∷ [])) (moves d)
          (moves' (with_values raise d)) (relabelling-with raise ((g, a) ∷ [])) (natural d _ r)

      by : (o : Option ℕ) → option_and_then (λ (a : ℕ). option_map (relabelling ((g, a) ∷ [])) (moves' (with_values raise d))) o
          ≡ option_map (move_with raise) (option_and_then (λ (a : ℕ). option_map (relabelling ((g, a) ∷ [])) (moves d)) o)
      by None = refl
      by (Some a) = below a
  gate_natural k moves moves' natural b c _ = refl

  relabelled_natural : (moves moves' : Behaviour → Option Move) → Natural moves moves'
      → Natural (relabelled_move moves) (relabelled_move moves')
  relabelled_natural moves moves' natural b c (both_relabel {pairs = pairs} {b = d} r) =
      map_natural (move_with raise) (relabelling pairs) (relabelling pairs) (moves d) (moves' (with_values raise d))
      (relabelling-with raise pairs) (natural d _ r)
  relabelled_natural moves moves' natural b c _ = refl

  abbrev Bodies : Type 0
  Bodies = (number : ℕ) (process : Process) → slice_get specification.processes number ≡ Some process
      → Binders data_ base process.parameters × Beside data_ base specification.processes open_side open_side
      (process.parameters ++ []) process.body process.body

  bodies : Bodies
  bodies = bodies_of data_ base open_side open_side specification well_formed le_processes

  abbrev Defined : Process → Type 0
  Defined p = IsDefinition data_.signature (length specification.gate_names) specification.processes p.gates p.parameters p.exit p.body

  -- the numbers that a body binds or has in scope are low, so it stays
  pub low_scope : (variables : List Variable) → AreLow base variables → (n s : ℕ) → sort_in variables n ≡ Some s → n < base
  low_scope [] low n s e = absurd (cc e)
  low_scope (z ∷ variables) low n s e = by (low_scope variables low.1 n s) (nat_eq z.number n) refl e
    where
      by : (sort_in variables n ≡ Some s → n < base) → (same : Bool) → nat_eq z.number n ≡ same
          → (if same then Some z.sort else sort_in variables n) ≡ Some s → n < base
      by rest true h found = subst (λ (k : ℕ). k < base) (eqb-true z.number n h) low.0
      by rest false h found = rest found

  body_stays : (number : ℕ) (process : Process) → slice_get specification.processes number ≡ Some process
      → with_values (without (numbers_of process.parameters) raise) process.body ≡ process.body
  body_stays number process at =
      let defined : Defined process = Every-at Defined specification.processes number process well_formed.each at in
      let low : AreLow base process.parameters = low_of process.parameters (bodies number process at).0 in
      ap (λ (v : Substitution). with_values v process.body) (without_low base from shift le_from process.parameters low)
      ∙ (behaviour_agrees data_.signature (length specification.gate_names) specification.processes process.parameters raise variable
      (λ n s e. let lt : n < base = low_scope process.parameters low n s e in
      raise_low base from shift le_from n s (omega (arith, lt, le_from))) process.body defined.behaviour ∙ unchanged process.body)

  called_natural : (moves moves' : Behaviour → Option Move) → Natural moves moves'
      → Natural (called_move setting moves) (called_move setting moves')
  called_natural moves moves' natural b c (both_call {number = number} {gates = gates} {arguments = arguments} {others =
      arguments'} process at terms) =
      let body : _ × _ = bodies number process at in
      let below : moves' (with_values (binding_of process.parameters (map canon (map (substituted raise) arguments))) process.body)
      ≡ option_map (move_with raise) (moves (with_values (binding_of process.parameters (map canon arguments)) process.body)) =
      ap (λ (d : Behaviour). moves' (with_values (binding_of process.parameters (map canon (map (substituted raise) arguments))) d))
      (sym (body_stays number process at))
      ∙ bound_natural moves moves' natural process.parameters (sorts_of process.parameters) arguments arguments' process.body
      process.body body.0 refl terms body.1 in
      subst (λ (o : Option Process).
      option_and_then (λ (p : Process). option_map (relabelling (zip p.gates gates))
      (moves' (with_values (binding_of p.parameters (map canon (map (substituted raise) arguments))) p.body))) o
      ≡ option_map (move_with raise) (option_and_then (λ (p : Process). option_map (relabelling (zip p.gates gates))
      (moves (with_values (binding_of p.parameters (map canon arguments)) p.body))) o)) (sym at)
      (map_natural (move_with raise) (relabelling (zip process.gates gates)) (relabelling (zip process.gates gates))
      (moves (with_values (binding_of process.parameters (map canon arguments)) process.body))
      (moves' (with_values (binding_of process.parameters (map canon (map (substituted raise) arguments))) process.body))
      (relabelling-with raise (zip process.gates gates)) below)
  called_natural moves moves' natural b c _ = refl

  -- What the moves of a shape say of themselves.
  self_related : (s : Shape) (next : ℕ) (b c : Behaviour) → Stands [] b c → (m : Move)
      → move_of setting (leaves_from base) s next b ≡ Some m → (n : Move)
      × RelatedMoves data_ base specification.processes open_side open_side m n
  self_related s next b c r m e =
      let are_sorts : Every (IsSort data_.signature) m.sorts = move_sorts data_ base specification.processes open_side representing
      supply bodies s next b c r m e in
      let answer : Answer data_ base specification.processes open_side open_side (move_of setting (leaves_from base) s next c) m =
      follows data_ base specification.processes open_side open_side representing representing bodies s next b c r m e
      (supplied_leaves next m.sorts are_sorts) in
      (answer.0, answer.2)

  far_label : {label other : Label} → RelatedLabels data_ base specification.processes open_side open_side label other
      → AreFar base (label_values label)
  far_label both_inner_events = tt
  far_label (both_gate_events sorts r) = far_of r
  far_label (both_exit_events sorts r) = far_of r

  -- Tests with far sides.
  abbrev pub AreFarTests : List Test → Type 0
  AreFarTests tests = Every (λ (test : Test). IsFar base test.left × IsFar base test.right) tests

  far_asked : {tests tests' : List Test} → RelatedAsked data_ base specification.processes open_side open_side tests tests'
      → AreFarTests tests
  far_asked none_asked = tt
  far_asked (one_asked r rest) = (
    (
      λ n q o. (only_leaf data_ base open_side n q (r.left.left_free n q o)).0,
      λ n q o. (only_leaf data_ base open_side n q (r.right.left_free n q o)).0,
    ),
    far_asked rest,
  )

  pub far_move : (s : Shape) (next : ℕ) (b c : Behaviour) → Stands [] b c → (m : Move)
      → move_of setting (leaves_from base) s next b ≡ Some m → AreFar base (label_values m.label) × AreFarTests m.asked
  far_move s next b c r m e =
      let self : _ = self_related s next b c r m e in
      (far_label self.1.label, far_asked self.1.asked)

  abbrev low_moves : Shape → ℕ → Behaviour → Option Move
  low_moves s next = move_of setting (leaves_from base) s next

  abbrev high_moves : Shape → ℕ → Behaviour → Option Move
  high_moves s next = move_of setting others s next

  pub natural_moves : (s : Shape) (next next' : ℕ) → Shifted next next' → Natural (low_moves s next) (high_moves s next')
  natural_moves act next next' h b c r = ap (act_move setting others next') (opened-with raise b)
      ∙ act_natural next next' h (opened b) (opened c) (opened_beside data_ base specification.processes r)
  natural_moves quit next next' h b c r = ap (quit_move setting others next') (opened-with raise b)
      ∙ quit_natural next next' h (opened b) (opened c) (opened_beside data_ base specification.processes r)
  natural_moves inner_step next next' h b c r = ap inner_move (opened-with raise b)
      ∙ inner_natural (opened b) (opened c) (opened_beside data_ base specification.processes r)
  natural_moves (guarded s) next next' h b c r =
      ap (guarded_move (high_moves s next')) (opened-with raise b) ∙ guarded_natural (low_moves s next) (high_moves s next')
      (natural_moves s next next' h) (opened b) (opened c) (opened_beside data_ base specification.processes r)
  natural_moves (left_side s) next next' h b c r =
      ap (left_move (high_moves s next')) (opened-with raise b) ∙ left_natural (low_moves s next) (high_moves s next')
      (natural_moves s next next' h) (opened b) (opened c) (opened_beside data_ base specification.processes r)
  natural_moves (right_side s) next next' h b c r =
      ap (right_move (high_moves s next')) (opened-with raise b) ∙ right_natural (low_moves s next) (high_moves s next')
      (natural_moves s next next' h) (opened b) (opened c) (opened_beside data_ base specification.processes r)
  natural_moves (both_sides s t) next next' h b c r =
      ap (both_move setting next' (high_moves s next') (high_moves t)) (opened-with raise b)
      ∙ both_natural next next' h (low_moves s next) (high_moves s next') (natural_moves s next next' h) (low_moves t) (high_moves t)
      (λ n n' k. natural_moves t n n' k) (opened b) (opened c) (opened_beside data_ base specification.processes r)
  natural_moves (hidden s) next next' h b c r =
      ap (hidden_move (high_moves s next')) (opened-with raise b) ∙ hidden_natural (low_moves s next) (high_moves s next')
      (natural_moves s next next' h) (opened b) (opened c) (opened_beside data_ base specification.processes r)
  natural_moves (enabled s) next next' h b c r =
      ap (enabled_move setting (high_moves s next')) (opened-with raise b)
      ∙ enabled_natural (low_moves s next) (high_moves s next') (λ d f q m e. (far_move s next d f q m e).0)
      (natural_moves s next next' h) (opened b) (opened c) (opened_beside data_ base specification.processes r)
  natural_moves (passed s) next next' h b c r =
      ap (passed_move (high_moves s next')) (opened-with raise b) ∙ passed_natural (low_moves s next) (high_moves s next')
      (natural_moves s next next' h) (opened b) (opened c) (opened_beside data_ base specification.processes r)
  natural_moves (let_bound s) next next' h b c r =
      ap (let_move setting (high_moves s next')) (opened-with raise b)
      ∙ let_natural (low_moves s next) (high_moves s next') (natural_moves s next next' h) (opened b) (opened c)
      (opened_beside data_ base specification.processes r)
  natural_moves (with_value s) next next' h b c r =
      ap (value_move setting others next' (high_moves s (suc next'))) (opened-with raise b)
      ∙ value_natural next next' h (low_moves s (suc next)) (high_moves s (suc next'))
      (natural_moves s (suc next) (suc next') (shifted_suc next next' h)) (opened b) (opened c)
      (opened_beside data_ base specification.processes r)
  natural_moves (at_gate k s) next next' h b c r =
      ap (gate_move k (high_moves s next')) (opened-with raise b) ∙ gate_natural k (low_moves s next) (high_moves s next')
      (natural_moves s next next' h) (opened b) (opened c) (opened_beside data_ base specification.processes r)
  natural_moves (called s) next next' h b c r =
      ap (called_move setting (high_moves s next')) (opened-with raise b)
      ∙ called_natural (low_moves s next) (high_moves s next') (natural_moves s next next' h) (opened b) (opened c)
      (opened_beside data_ base specification.processes r)
  natural_moves (relabelled s) next next' h b c r =
      ap (relabelled_move (high_moves s next')) (opened-with raise b)
      ∙ relabelled_natural (low_moves s next) (high_moves s next') (natural_moves s next next' h) (opened b) (opened c)
      (opened_beside data_ base specification.processes r)
