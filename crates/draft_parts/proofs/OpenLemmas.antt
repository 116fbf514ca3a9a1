-- The drafts of actions and of `exit` are those of their moves.
use Rattle.std.proofs.Common.{◌≡◌, ◌≤◌, ◌++◌, ℕ, suc, ◌+◌, List, [], ◌∷◌, map, length, Option, None, Some, option_map, refl, ap, sym, ◌∙◌, arith}
use Rattle.std.specs.Prelude.{zip}
use Rattle.std.proofs.lemmas.List.{map-append}
use Rattle.lotos_base.specs.Term.{Term, variable}
use Rattle.lotos_base.specs.Equation.{Variable}
use Rattle.lotos_base.specs.Substitution.{Substitution, substituted, binding, without}
use Rattle.behaviour_semantics.specs.Behaviour as plain
use Rattle.behaviour_semantics.specs.Behaviour.{asked_variables, open_sorts, numbers_of, sorts_of}
use Rattle.behaviour_semantics.specs.Draft.{Draft, leaves_from, above_variables}
use Rattle.behaviour_semantics.specs.Label.{gate_event, exit_event}
use Rattle.behaviour_semantics.specs.Move.{Move, taken}
use Rattle.behaviour_semantics.specs.Replacement.{test_with, offer_with, exit_value_with, binding_of}
use Rattle.behaviour_semantics.specs.Rule.{offered, results_of, tests_of}
use Rattle.behaviour_semantics.specs.Shape.{act, quit}
use Rattle.behaviour_semantics.proofs.OptionLemmas.{some_value}
use Rattle.behaviour_semantics.proofs.ReplacementLemmas.{asked-with}
use Rattle.sort_terms.specs.ProfiledTerm.{ProfiledTerm, bare}
use Rattle.sort_terms.specs.SortedView.{term_in}
use Rattle.term_match.specs.ProfiledInstance.{bare_pair, bare_pairs}
use Rattle.behaviour_tree.specs.BehaviourView.{offer_of, exit_value_of, test_of}
use Rattle.behaviour_tree.specs.declared.behaviours.Test.{Test}
use Rattle.behaviour_tree.specs.declared.behaviours.Offer.{Offer}
use Rattle.behaviour_tree.specs.declared.behaviours.Offer.TheVariants.{Give, Ask}
use Rattle.behaviour_tree.specs.declared.behaviours.ExitValue.{ExitValue}
use Rattle.behaviour_tree.specs.declared.behaviours.ExitValue.TheVariants as exit_value
use Rattle.draft_parts.specs.EnvironmentLaws.{ArePairsFrom}
use Rattle.draft_parts.proofs.NestedLemmas.{nested}
use Rattle.draft_parts.specs.DraftRules.{open_draft}
use Rattle.draft_parts.specs.Offered.{asked_pairs, offered_at, open_leaves, results_at}
use Rattle.draft_parts.specs.OpenDrafts.{pair_terms, acted, ended_with}
use Rattle.draft_parts.specs.OpenLaws.{ActionsHaveTheirDrafts, ExitsHaveTheirDrafts}

-- the variables that the offers of the code ask for
abbrev asked_of : List Offer → List Variable
asked_of offers = asked_variables (map offer_of offers)

later : (base next : ℕ) → suc (base + next) ≡ base + suc next
later base next = omega arith

length-taken : (leaves : Substitution) (next : ℕ) (sorts : List ℕ) → length (taken leaves next sorts) ≡ length sorts
length-taken leaves next [] = refl
length-taken leaves next (s ∷ sorts) =
    let rest : length (taken leaves (suc next) sorts) ≡ length sorts = length-taken leaves (suc next) sorts in omega arith

length-sorts : (variables : List Variable) → length (sorts_of variables) ≡ length variables
length-sorts [] = refl
length-sorts (x ∷ variables) = let rest : length (sorts_of variables) ≡ length variables = length-sorts variables in omega arith

-- the leaves
leaves_taken : (base next : ℕ) (offers : List Offer)
    → pair_terms (asked_pairs (base + next) offers) ≡ taken (leaves_from base) next (sorts_of (asked_of offers))
leaves_taken base next [] = refl
leaves_taken base next (Give t ∷ offers) = leaves_taken base next offers
leaves_taken base next (Ask x ∷ offers) =
    ap (λ (n : ℕ). variable (base + next) x.sort ∷ pair_terms (asked_pairs n offers)) (later base next)
    ∙ ap (λ (ts : List Term). variable (base + next) x.sort ∷ ts) (leaves_taken base (suc next) offers)

-- the pairs
pairs_zipped : (base next : ℕ) (offers : List Offer)
    → bare_pairs (asked_pairs (base + next) offers)
    ≡ zip (numbers_of (asked_of offers)) (taken (leaves_from base) next (sorts_of (asked_of offers)))
pairs_zipped base next [] = refl
pairs_zipped base next (Give t ∷ offers) = pairs_zipped base next offers
pairs_zipped base next (Ask x ∷ offers) =
    ap (λ (n : ℕ). (x.number, variable (base + next) x.sort) ∷ bare_pairs (asked_pairs n offers)) (later base next)
    ∙ ap (λ (ps : List (ℕ × Term)). (x.number, variable (base + next) x.sort) ∷ ps) (pairs_zipped base (suc next) offers)

module _ (canon : Term → Term) (own : (n s : ℕ) → canon (variable n s) ≡ variable n s) where
  canons_taken : (base next : ℕ) (sorts : List ℕ) → map canon (taken (leaves_from base) next sorts) ≡ taken (leaves_from base) next sorts
  canons_taken base next [] = refl
  canons_taken base next (s ∷ sorts) =
      let here : canon (variable (base + next) s) ≡ variable (base + next) s = own (base + next) s in
      let rest : map canon (taken (leaves_from base) (suc next) sorts) ≡ taken (leaves_from base) (suc next) sorts =
      canons_taken base (suc next) sorts in
      λ i. here i ∷ rest i

  -- the values of offers
  values_offered : (values : Substitution) (base next : ℕ) (offers : List Offer)
      → offered_at canon values (base + next) offers
      ≡ offered canon (map (offer_with values) (map offer_of offers)) (taken (leaves_from base) next (sorts_of (asked_of offers)))
  values_offered values base next [] = refl
  values_offered values base next (Give t ∷ offers) =
      ap (λ (ts : List Term). canon (substituted values (term_in t)) ∷ ts) (values_offered values base next offers)
  values_offered values base next (Ask x ∷ offers) =
      ap (λ (n : ℕ). variable (base + next) x.sort ∷ offered_at canon values n offers) (later base next)
      ∙ (ap (λ (ts : List Term). variable (base + next) x.sort ∷ ts) (values_offered values base (suc next) offers)
      ∙ ap (λ (t : Term). t ∷ offered canon (map (offer_with values) (map offer_of offers))
      (taken (leaves_from base) (suc next) (sorts_of (asked_of offers)))) (sym (own (base + next) x.sort)))

  module _ (base next : ℕ) (offers : List Offer) (pairs : List (ℕ × ProfiledTerm))
      (le : above_variables (asked_variables (map offer_of offers)) ≤ base) (far : ArePairsFrom base (bare_pairs pairs)) where
    abbrev values : Substitution
    values = binding (bare_pairs pairs)

    abbrev variables : List Variable
    variables = asked_of offers

    abbrev chosen : List Variable → List Term
    chosen ys = taken (leaves_from base) next (sorts_of ys)

    count : length (taken (leaves_from base) next (sorts_of (asked_of offers))) ≡ length (asked_of offers)
    count = length-taken (leaves_from base) next (sorts_of (asked_of offers)) ∙ length-sorts (asked_of offers)

    whole : bare_pairs (asked_pairs (base + next) offers ++ pairs) ≡ zip (numbers_of variables) (chosen variables) ++ bare_pairs pairs
    whole =
        map-append bare_pair (asked_pairs (base + next) offers) pairs
        ∙ ap (λ (ps : List (ℕ × Term)). ps ++ bare_pairs pairs) (pairs_zipped base next offers)

    put_in : (t : Term) → substituted (binding (bare_pairs (asked_pairs (base + next) offers ++ pairs))) t
        ≡ substituted (binding_of variables (chosen variables)) (substituted (without (numbers_of variables) values) t)
    put_in t =
        ap (λ (ps : List (ℕ × Term)). substituted (binding ps) t) whole
        ∙ sym (nested.in_terms base variables (chosen variables) (bare_pairs pairs) t le count far)

    tests_put : (test : Option plain.Test) → tests_of (binding (bare_pairs (asked_pairs (base + next) offers ++ pairs))) test
        ≡ tests_of (binding_of variables (map canon (chosen variables)))
        (option_map (test_with (without (numbers_of variables) values)) test)
    tests_put None = refl
    tests_put (Some test) =
        let left : _ ≡ _ = put_in test.left in
        let right : _ ≡ _ = put_in test.right in
        let here : test_with (binding (bare_pairs (asked_pairs (base + next) offers ++ pairs))) test
        ≡ test_with (binding_of variables (chosen variables)) (test_with (without (numbers_of variables) values) test) =
        λ i. record { left = left i; right = right i } in
        ap (λ (x : plain.Test). x ∷ []) here
        ∙ ap (λ (ts : List Term). test_with (binding_of variables ts) (test_with (without (numbers_of variables) values) test) ∷ [])
        (sym (canons_taken base next (sorts_of variables)))

    -- the draft of the move, by the variables that are asked for
    abbrev draft_for : ℕ → Option plain.Test → List Variable → Draft
    draft_for g test ys = record {
      shape = act;
      label = gate_event g (offered canon (map (offer_with values) (map offer_of offers)) (chosen ys));
      leaves = chosen ys;
      conditions = tests_of (binding_of ys (map canon (chosen ys)))
          (option_map (test_with (without (numbers_of variables) values)) test);
    }

    action_draft : (g : ℕ) (test : Option Test)
        → acted canon g offers test pairs (base + next)
        ≡ draft_for g (option_map test_of test) (asked_variables (map (offer_with values) (map offer_of offers)))
    action_draft g test =
        let labels : offered_at canon values (base + next) offers
        ≡ offered canon (map (offer_with values) (map offer_of offers)) (chosen variables) = values_offered values base next offers in
        let leaves : pair_terms (asked_pairs (base + next) offers) ≡ chosen variables = leaves_taken base next offers in
        let tests : tests_of (binding (bare_pairs (asked_pairs (base + next) offers ++ pairs))) (option_map test_of test)
        ≡ tests_of (binding_of variables (map canon (chosen variables)))
        (option_map (test_with (without (numbers_of variables) values)) (option_map test_of test)) = tests_put (option_map test_of test) in
        let here : acted canon g offers test pairs (base + next) ≡ draft_for g (option_map test_of test) variables =
        λ i. record { shape = act; label = gate_event g (labels i); leaves = leaves i; conditions = tests i } in
        here ∙ ap (draft_for g (option_map test_of test)) (sym (asked-with values (map offer_of offers)))

  -- ---- `exit`
  open-with : (put : Substitution) (results : List ExitValue)
      → open_sorts (map (exit_value_with put) (map exit_value_of results)) ≡ open_sorts (map exit_value_of results)
  open-with put [] = refl
  open-with put (exit_value.Give t ∷ results) = open-with put results
  open-with put (exit_value.Any s ∷ results) = ap (λ (ss : List ℕ). s ∷ ss) (open-with put results)

  open_taken : (base next : ℕ) (results : List ExitValue)
      → map bare (open_leaves (base + next) results) ≡ taken (leaves_from base) next (open_sorts (map exit_value_of results))
  open_taken base next [] = refl
  open_taken base next (exit_value.Give t ∷ results) = open_taken base next results
  open_taken base next (exit_value.Any s ∷ results) =
      ap (λ (n : ℕ). variable (base + next) s ∷ map bare (open_leaves n results)) (later base next)
      ∙ ap (λ (ts : List Term). variable (base + next) s ∷ ts) (open_taken base (suc next) results)

  values_given : (put : Substitution) (base next : ℕ) (results : List ExitValue)
      → results_at canon put (base + next) results
      ≡ results_of canon (map (exit_value_with put) (map exit_value_of results))
      (taken (leaves_from base) next (open_sorts (map exit_value_of results)))
  values_given put base next [] = refl
  values_given put base next (exit_value.Give t ∷ results) =
      ap (λ (ts : List Term). canon (substituted put (term_in t)) ∷ ts) (values_given put base next results)
  values_given put base next (exit_value.Any s ∷ results) =
      ap (λ (n : ℕ). variable (base + next) s ∷ results_at canon put n results) (later base next)
      ∙ (ap (λ (ts : List Term). variable (base + next) s ∷ ts) (values_given put base (suc next) results)
      ∙ ap (λ (t : Term). t ∷ results_of canon (map (exit_value_with put) (map exit_value_of results))
      (taken (leaves_from base) (suc next) (open_sorts (map exit_value_of results)))) (sym (own (base + next) s)))

  exit_draft : (base next : ℕ) (results : List ExitValue) (pairs : List (ℕ × ProfiledTerm))
      → ended_with canon results pairs (base + next)
      ≡ record {
        shape = quit;
        label = exit_event (results_of canon (map (exit_value_with (binding (bare_pairs pairs))) (map exit_value_of results))
            (taken (leaves_from base) next
            (open_sorts (map (exit_value_with (binding (bare_pairs pairs))) (map exit_value_of results)))));
        leaves = taken (leaves_from base) next
            (open_sorts (map (exit_value_with (binding (bare_pairs pairs))) (map exit_value_of results)));
        conditions = [];
      }
  exit_draft base next results pairs =
      let labels : results_at canon (binding (bare_pairs pairs)) (base + next) results
      ≡ results_of canon (map (exit_value_with (binding (bare_pairs pairs))) (map exit_value_of results))
      (taken (leaves_from base) next (open_sorts (map exit_value_of results))) =
      values_given (binding (bare_pairs pairs)) base next results in
      let leaves : map bare (open_leaves (base + next) results)
      ≡ taken (leaves_from base) next (open_sorts (map exit_value_of results)) = open_taken base next results in
      let made : List ℕ → Draft = λ (sorts : List ℕ). record {
        shape = quit;
        label = exit_event (results_of canon (map (exit_value_with (binding (bare_pairs pairs))) (map exit_value_of results))
            (taken (leaves_from base) next sorts));
        leaves = taken (leaves_from base) next sorts;
        conditions = [];
      } in
      let here : ended_with canon results pairs (base + next) ≡ made (open_sorts (map exit_value_of results)) =
      λ i. record { shape = quit; label = exit_event (labels i); leaves = leaves i; conditions = [] } in
      here ∙ ap made (sym (open-with (binding (bare_pairs pairs)) results))

pub actions_have : ActionsHaveTheirDrafts
actions_have signature canon processes base next g offers test pairs b m own le far e =
    action_draft canon own base next offers pairs le far g test
    ∙ ap (λ (k : Move). open_draft base next (record { shape = act; move = k })) (some_value e)

pub exits_have : ExitsHaveTheirDrafts
exits_have signature canon processes base next results pairs m own e =
    exit_draft canon own base next results pairs
    ∙ ap (λ (k : Move). open_draft base next (record { shape = quit; move = k })) (some_value e)
