-- Behaviours that stand beside one another have moves with related labels, beside one another, for each shape.
use Rattle.std.proofs.Common.{◌≡◌, ℕ, suc, ◌+◌, List, [], ◌∷◌, ◌++◌, length, map, zip, slice_get, Option, None, Some, option_map, option_and_then, Bool, true, false, ◌&&◌, nat_eq, refl, ap, sym, ◌∙◌, arith, subst, eqb-true}
use Rattle.std.proofs.lemmas.Bool.{and_parts}
use Rattle.lotos_base.proofs.Options.{mapped, chained}
use Rattle.lotos_base.specs.Term.{Term}
use Rattle.lotos_base.specs.Equation.{Data, Variable}
use Rattle.lotos_base.specs.Substitution.{Substitution, is_listed}
use Rattle.lotos_base.proofs.SortLemmas.{sort_of_sorted}
use Rattle.behaviour_semantics.specs.Behaviour.{Behaviour, stop, parallel, enable, Test, Offer, ExitValue, SynchronisationSet, Process, Relabelling, sorts_of, let_variables, let_terms}
use Rattle.behaviour_semantics.specs.Label.{Label, inner_event, gate_event, exit_event, label_under}
use Rattle.behaviour_semantics.specs.Replacement.{with_values, binding_of}
use Rattle.behaviour_semantics.specs.Rule.{offered, results_of, tests_of, synchronises, moves_alone, have_sorts, have_same_sorts, move_together, label_values, pairwise, hidden_label, is_exit, still_disabled}
use Rattle.behaviour_semantics.specs.Shape.{Shape, act, quit, inner_step, guarded, left_side, right_side, both_sides, hidden, enabled, passed, let_bound, with_value, at_gate, called, relabelled}
use Rattle.behaviour_semantics.specs.Move.{Setting, Move, move_of, taken, alone, together, passing, enabling, disabling, hiding, asking, relabelling, after_leaf, act_move, quit_move, inner_move, guarded_move, left_move, right_move, both_move, hidden_move, enabled_move, passed_move, let_move, value_move, gate_move, called_move, relabelled_move}
use Rattle.behaviour_semantics.proofs.OptionLemmas.{some_value, tested, tested_not}
use Rattle.behaviour_semantics.proofs.RelatedTerms.{Side, Related, IsRepresenting, represented, Puts, Binders, RelatedTerms, none_related, one_related, bindings_put}
use Rattle.behaviour_semantics.proofs.RelatedBehaviours.{RelatedTests, RelatedOptions, no_tests, some_tests, RelatedOffers, no_offers, both_give, both_ask, RelatedResults, no_results, both_values, both_any, Beside, both_stop, both_exit_with, both_action, both_inner, both_guard, both_choice, both_parallel, both_hide, both_enable, both_disable, both_let, both_choose_value, both_choose_gate, both_call, both_relabel, put_beside, put_tests, asked-left, asked-right, open-left, open-right, under_beside, opened_beside}

module _ (data_ : Data) (base : ℕ) (processes : List Process) where
  abbrev pub setting_of : Side → Setting
  setting_of x = record { signature = data_.signature; represent = x.represent; processes = processes }

  -- Related leaves, from a number on.
  abbrev pub RelatedLeaves : Side → Side → ℕ → List ℕ → Type 0
  RelatedLeaves x y next [] = Unit {0}
  RelatedLeaves x y next (s ∷ ss) = Related data_ base x y [] s (x.leaves next s) (y.leaves next s) × RelatedLeaves x y (suc next) ss

  pub data RelatedLabels (x y : Side) : Label → Label → Type 0 where
    both_inner_events : RelatedLabels x y inner_event inner_event
    both_gate_events : {g : ℕ} (sorts : List ℕ) {ts us : List Term} → RelatedTerms data_ base x y [] sorts ts us
        → RelatedLabels x y (gate_event g ts) (gate_event g us)
    both_exit_events : (sorts : List ℕ) {ts us : List Term} → RelatedTerms data_ base x y [] sorts ts us
        → RelatedLabels x y (exit_event ts) (exit_event us)

  pub data RelatedAsked (x y : Side) : List Test → List Test → Type 0 where
    none_asked : RelatedAsked x y [] []
    one_asked : {test other : Test} {tests others : List Test} → RelatedTests data_ base x y [] test other → RelatedAsked x y tests others
        → RelatedAsked x y (test ∷ tests) (other ∷ others)

  pub record RelatedMoves (x y : Side) (m n : Move) : Type 0 where
    pub label : RelatedLabels x y m.label n.label
    pub target : Beside data_ base processes x y [] m.target n.target
    pub asked : RelatedAsked x y m.asked n.asked
    pub sorts : m.sorts ≡ n.sorts

  -- The other side has a move too.
  abbrev pub Answer : Side → Side → Option Move → Move → Type 0
  Answer x y other m = (n : Move) × (other ≡ Some n) × RelatedMoves x y m n

  -- Each move of the one, with related leaves, has an answer.
  abbrev pub Follows : Side → Side → ℕ → Option Move → Option Move → Type 0
  Follows x y next one other = (m : Move) → one ≡ Some m → RelatedLeaves x y next m.sorts → Answer x y other m

  follows_map : {x y : Side} {next : ℕ} {one other : Option Move} (f g : Move → Move) → ((m : Move) → (f m).sorts ≡ m.sorts)
      → ((m n : Move) → RelatedMoves x y m n → RelatedMoves x y (f m) (g n)) → Follows x y next one other
      → Follows x y next (option_map f one) (option_map g other)
  follows_map {x = x} {y = y} {next = next} {one = one} {other = other} f g sorts related follows m e leaves =
      let from : (k : Move) × (one ≡ Some k) × (f k ≡ m) = mapped f one e in
      let below : RelatedLeaves x y next from.0.sorts = subst (RelatedLeaves x y next)
      (ap (λ (k : Move). k.sorts) (sym from.2) ∙ sorts from.0) leaves in
      let answer : Answer x y other from.0 = follows from.0 from.1 below in
      (g answer.0, ap (option_map g) answer.1, subst (λ k. RelatedMoves x y k (g answer.0)) from.2 (related from.0 answer.0 answer.2))

  follows_chain : {x y : Side} {next : ℕ} {one other : Option Move} (f g : Move → Option Move)
      → ((m k : Move) → f m ≡ Some k → k.sorts ≡ m.sorts) → ((m n k : Move) → RelatedMoves x y m n → f m ≡ Some k → (l : Move)
      × (g n ≡ Some l) × RelatedMoves x y k l) → Follows x y next one other
      → Follows x y next (option_and_then f one) (option_and_then g other)
  follows_chain {x = x} {y = y} {next = next} {one = one} {other = other} f g sorts related follows m e leaves =
      let from : (k : Move) × (one ≡ Some k) × (f k ≡ Some m) = chained f one e in
      let below : RelatedLeaves x y next from.0.sorts = subst (RelatedLeaves x y next) (sorts from.0 m from.2) leaves in
      let answer : Answer x y other from.0 = follows from.0 from.1 below in
      let last : (l : Move) × (g answer.0 ≡ Some l) × RelatedMoves x y m l = related from.0 answer.0 m answer.2 from.2 in
      (last.0, ap (option_and_then g) answer.1 ∙ last.1, last.2)

  -- Labels.
  alone-same : {x y : Side} (meet : SynchronisationSet) {label other : Label} → RelatedLabels x y label other
      → moves_alone meet label ≡ moves_alone meet other
  alone-same meet both_inner_events = refl
  alone-same meet (both_gate_events sorts r) = refl
  alone-same meet (both_exit_events sorts r) = refl

  is_exit-same : {x y : Side} {label other : Label} → RelatedLabels x y label other → is_exit label ≡ is_exit other
  is_exit-same both_inner_events = refl
  is_exit-same (both_gate_events sorts r) = refl
  is_exit-same (both_exit_events sorts r) = refl

  label_under-related : {x y : Side} (pairs : Relabelling) {label other : Label} → RelatedLabels x y label other
      → RelatedLabels x y (label_under pairs label) (label_under pairs other)
  label_under-related pairs both_inner_events = both_inner_events
  label_under-related pairs (both_gate_events sorts r) = both_gate_events sorts r
  label_under-related pairs (both_exit_events sorts r) = both_exit_events sorts r

  hidden-related : {x y : Side} (gates : List ℕ) {label other : Label} → RelatedLabels x y label other
      → RelatedLabels x y (hidden_label gates label) (hidden_label gates other)
  hidden-related gates both_inner_events = both_inner_events
  hidden-related {x = x} {y = y} gates (both_gate_events {g = g} sorts {ts = ts} {us = us} r) = by (is_listed gates g) refl
    where
      by : (listed : Bool) → is_listed gates g ≡ listed → RelatedLabels x y (hidden_label gates (gate_event g ts))
          (hidden_label gates (gate_event g us))
      by true e = rw e both_inner_events
      by false e = rw e (both_gate_events sorts r)
  hidden-related gates (both_exit_events sorts r) = both_exit_events sorts r

  -- Sorts.
  have_sorts-same : {x y : Side} {sorts : List ℕ} {ts us : List Term} (wanted : List ℕ) → RelatedTerms data_ base x y [] sorts ts us
      → have_sorts data_.signature ts wanted ≡ have_sorts data_.signature us wanted
  have_sorts-same [] none_related = refl
  have_sorts-same (s ∷ wanted) none_related = refl
  have_sorts-same [] (one_related r rest) = refl
  have_sorts-same (s ∷ wanted) (one_related {s = q} {t = t} {u = u} {ts = ts} {us = us} r rest) =
      rw (sort_of_sorted data_.signature t q r.left_sorted, sort_of_sorted data_.signature u q r.right_sorted)
      (ap (λ (rest : Bool). nat_eq q s && rest) (have_sorts-same wanted rest))

  have_same_sorts-same : {x y : Side} {sorts others : List ℕ} {ts us vs ws : List Term} → RelatedTerms data_ base x y [] sorts ts us
      → RelatedTerms data_ base x y [] others vs ws → have_same_sorts data_.signature ts vs ≡ have_same_sorts data_.signature us ws
  have_same_sorts-same none_related none_related = refl
  have_same_sorts-same none_related (one_related r rest) = refl
  have_same_sorts-same (one_related r rest) none_related = refl
  have_same_sorts-same (one_related {s = p} {t = t} {u = u} {ts = ts} {us = us} r rest)
      (one_related {s = q} {t = v} {u = w} {ts = vs} {us = ws} r' rest') =
      rw (
        sort_of_sorted data_.signature t p r.left_sorted,
        sort_of_sorted data_.signature u p r.right_sorted,
        sort_of_sorted data_.signature v q r'.left_sorted,
        sort_of_sorted data_.signature w q r'.right_sorted,
      )
      (ap (λ (rest : Bool). nat_eq p q && rest) (have_same_sorts-same rest rest'))

  together-same : {x y : Side} (meet : SynchronisationSet) {label other label' other' : Label} → RelatedLabels x y label other
      → RelatedLabels x y label' other' → move_together data_.signature meet label label'
      ≡ move_together data_.signature meet other other'
  together-same meet both_inner_events r = refl
  together-same meet (both_gate_events sorts r) both_inner_events = refl
  together-same meet (both_gate_events {g = g} sorts r) (both_gate_events {g = h} sorts' r') =
      ap (λ (rest : Bool). nat_eq g h && synchronises meet g && rest) (have_same_sorts-same r r')
  together-same meet (both_gate_events sorts r) (both_exit_events sorts' r') = refl
  together-same meet (both_exit_events sorts r) both_inner_events = refl
  together-same meet (both_exit_events sorts r) (both_gate_events sorts' r') = refl
  together-same meet (both_exit_events sorts r) (both_exit_events sorts' r') = have_same_sorts-same r r'

  -- Equations.
  asked_append : {x y : Side} {tests others tests' others' : List Test} → RelatedAsked x y tests others → RelatedAsked x y tests' others'
      → RelatedAsked x y (tests ++ tests') (others ++ others')
  asked_append none_asked r = r
  asked_append (one_asked r rest) r' = one_asked r (asked_append rest r')

  pairwise-related : {x y : Side} {sorts others : List ℕ} {ts us vs ws : List Term} → have_same_sorts data_.signature ts vs ≡ true
      → RelatedTerms data_ base x y [] sorts ts us → RelatedTerms data_ base x y [] others vs ws
      → RelatedAsked x y (pairwise ts vs) (pairwise us ws)
  pairwise-related e none_related none_related = none_asked
  pairwise-related e none_related (one_related r rest) = none_asked
  pairwise-related e (one_related r rest) none_related = none_asked
  pairwise-related {x = x} {y = y} e (one_related {s = p} {t = t} {ts = ts} r rest) (one_related {s = q} {t = v} {u = w} {ts = vs} r' rest')
      =
      let test : nat_eq p q && have_same_sorts data_.signature ts vs ≡ true =
      rw (sort_of_sorted data_.signature t p r.left_sorted, sort_of_sorted data_.signature v q r'.left_sorted) at e in
      let parts : (nat_eq p q ≡ true) × (have_same_sorts data_.signature ts vs ≡ true) =
      and_parts (nat_eq p q) (have_same_sorts data_.signature ts vs) test in
      one_asked (record { sort = p; left = r; right = subst (λ k. Related data_ base x y [] k v w) (sym (eqb-true p q parts.0)) r' })
      (pairwise-related parts.1 rest rest')

  matched-related : {x y : Side} (meet : SynchronisationSet) {label other label' other' : Label}
      → move_together data_.signature meet label label' ≡ true → RelatedLabels x y label other → RelatedLabels x y label' other'
      → RelatedAsked x y (pairwise (label_values label) (label_values label')) (pairwise (label_values other) (label_values other'))
  matched-related meet e (both_gate_events {g = g} sorts {ts = ts} r) (both_gate_events {g = h} sorts' {ts = vs} r') =
      pairwise-related (and_parts (nat_eq g h && synchronises meet g) (have_same_sorts data_.signature ts vs) e).1 r r'
  matched-related meet e (both_exit_events sorts r) (both_exit_events sorts' r') = pairwise-related e r r'
  matched-related meet e both_inner_events _ = absurd (cc e)
  matched-related meet e (both_gate_events sorts r) both_inner_events = absurd (cc e)
  matched-related meet e (both_gate_events sorts r) (both_exit_events sorts' r') = absurd (cc e)
  matched-related meet e (both_exit_events sorts r) both_inner_events = absurd (cc e)
  matched-related meet e (both_exit_events sorts r) (both_gate_events sorts' r') = absurd (cc e)

  leaves_append : (x y : Side) (next : ℕ) (ss rs : List ℕ) → RelatedLeaves x y next (ss ++ rs) → RelatedLeaves x y next ss
      × RelatedLeaves x y (next + length ss) rs
  leaves_append x y next [] rs h = let e : next ≡ next + 0 = omega arith in (tt, subst (λ n. RelatedLeaves x y n rs) e h)
  leaves_append x y next (s ∷ ss) rs h =
      let rest : RelatedLeaves x y (suc next) ss × RelatedLeaves x y (suc next + length ss) rs = leaves_append x y (suc next) ss rs h.1 in
      let e : suc next + length ss ≡ next + suc (length ss) = omega arith in
      ((h.0, rest.0), subst (λ n. RelatedLeaves x y n rs) e rest.1)

  taken-related : {x y : Side} (next : ℕ) (ss : List ℕ) → RelatedLeaves x y next ss
      → RelatedTerms data_ base x y [] ss (taken x.leaves next ss) (taken y.leaves next ss)
  taken-related next [] h = none_related
  taken-related next (s ∷ ss) h = one_related h.0 (taken-related (suc next) ss h.1)

  module _ (x y : Side) (represent : IsRepresenting data_ x.represent) (other_represent : IsRepresenting data_ y.represent) where
    pub represented_related : {sorts : List ℕ} {ts us : List Term} → RelatedTerms data_ base x y [] sorts ts us
        → RelatedTerms data_ base x y [] sorts (map x.represent ts) (map y.represent us)
    represented_related none_related = none_related
    represented_related (one_related r rest) = one_related (represented data_ base represent other_represent r) (represented_related rest)

    offered-related : {variables : List Variable} {offers others : List Offer} {ts us : List Term}
        → RelatedOffers data_ base x y [] variables offers others → RelatedTerms data_ base x y [] (sorts_of variables) ts us
        → (sorts : List ℕ) × RelatedTerms data_ base x y [] sorts (offered x.represent offers ts) (offered y.represent others us)
    offered-related no_offers r = ([], none_related)
    offered-related (both_give {s = s} t rest) r =
        let below : (sorts : List ℕ) × _ = offered-related rest r in
        (s ∷ below.0, one_related (represented data_ base represent other_represent t) below.1)
    offered-related (both_ask z rest) (one_related {s = s} t r) =
        let below : (sorts : List ℕ) × _ = offered-related rest r in
        (s ∷ below.0, one_related (represented data_ base represent other_represent t) below.1)

    results-related : {open_ : List ℕ} {results others : List ExitValue} {ts us : List Term}
        → RelatedResults data_ base x y [] open_ results others → RelatedTerms data_ base x y [] open_ ts us → (sorts : List ℕ)
        × RelatedTerms data_ base x y [] sorts (results_of x.represent results ts) (results_of y.represent others us)
    results-related no_results r = ([], none_related)
    results-related (both_values {s = s} t rest) r =
        let below : (sorts : List ℕ) × _ = results-related rest r in
        (s ∷ below.0, one_related (represented data_ base represent other_represent t) below.1)
    results-related (both_any q is_sort rest) (one_related {s = s} t r) =
        let below : (sorts : List ℕ) × _ = results-related rest r in
        (s ∷ below.0, one_related (represented data_ base represent other_represent t) below.1)

    tests-related : (variables : List Variable) {v w : Substitution} {test other : Option Test}
        → Puts data_ base x y (variables ++ []) [] v w → RelatedOptions data_ base x y (variables ++ []) test other
        → RelatedAsked x y (tests_of v test) (tests_of w other)
    tests-related variables p no_tests = none_asked
    tests-related variables p (some_tests r) = one_asked (put_tests data_ base p r) none_asked

    -- The move of an action whose `?x` ask for these variables.
    abbrev acted : Side → ℕ → ℕ → List Offer → Option Test → Behaviour → List Variable → Move
    acted z next g offers test b variables = record {
      label = gate_event g (offered z.represent offers (taken z.leaves next (sorts_of variables)));
      target = with_values (binding_of variables (map z.represent (taken z.leaves next (sorts_of variables)))) b;
      asked = tests_of (binding_of variables (map z.represent (taken z.leaves next (sorts_of variables)))) test;
      sorts = sorts_of variables;
    }

    act_follows : (next : ℕ) {b c : Behaviour} → Beside data_ base processes x y [] b c
        → Follows x y next (act_move (setting_of x) x.leaves next b) (act_move (setting_of y) y.leaves next c)
    act_follows next (both_action {variables = variables} {g = g} {offers = offers} {others = others} {test = test} {other = other} {b = b}
        {c = c} r binders tests rest) m e leaves =
        let same : acted x next g offers test b variables ≡ m =
        some_value (ap (λ vs. Some (acted x next g offers test b vs)) (sym (asked-left data_ base r)) ∙ e) in
        let below : RelatedLeaves x y next (sorts_of variables) =
        subst (RelatedLeaves x y next) (ap (λ (k : Move). k.sorts) (sym same)) leaves in
        let chosen : RelatedTerms data_ base x y [] (sorts_of variables) (taken x.leaves next (sorts_of variables))
        (taken y.leaves next (sorts_of variables)) = taken-related next (sorts_of variables) below in
        let put : Puts data_ base x y (variables ++ []) [] (binding_of variables
        (map x.represent (taken x.leaves next (sorts_of variables))))
        (binding_of variables (map y.represent (taken y.leaves next (sorts_of variables)))) =
        bindings_put data_ base variables _ _ binders (represented_related chosen) in
        let values : (sorts : List ℕ) × RelatedTerms data_ base x y [] sorts
        (offered x.represent offers (taken x.leaves next (sorts_of variables)))
        (offered y.represent others (taken y.leaves next (sorts_of variables))) = offered-related r chosen in
        let n : Move = acted y next g others other c variables in
        let related : RelatedMoves x y (acted x next g offers test b variables) n = record {
          label = both_gate_events values.0 values.1;
          target = put_beside data_ base processes put rest;
          asked = tests-related variables put tests;
          sorts = refl;
        } in
        (n, ap (λ vs. Some (acted y next g others other c vs)) (asked-right data_ base r), subst (λ k. RelatedMoves x y k n) same related)
    act_follows next _ m e leaves = absurd cc

    abbrev ended : Side → ℕ → List ExitValue → List ℕ → Move
    ended z next results sorts = record {
      label = exit_event (results_of z.represent results (taken z.leaves next sorts));
      target =
          stop;
      asked = [];
      sorts = sorts;
    }

    quit_follows : (next : ℕ) {b c : Behaviour} → Beside data_ base processes x y [] b c
        → Follows x y next (quit_move (setting_of x) x.leaves next b) (quit_move (setting_of y) y.leaves next c)
    quit_follows next (both_exit_with {sorts = sorts} {results = results} {others = others} r) m e leaves =
        let same : ended x next results sorts ≡ m = some_value
        (ap (λ ss. Some (ended x next results ss)) (sym (open-left data_ base r)) ∙ e) in
        let below : RelatedLeaves x y next sorts = subst (RelatedLeaves x y next) (ap (λ (k : Move). k.sorts) (sym same)) leaves in
        let values : (ss : List ℕ) × RelatedTerms data_ base x y [] ss (results_of x.represent results (taken x.leaves next sorts))
        (results_of y.represent others (taken y.leaves next sorts)) = results-related r (taken-related next sorts below) in
        let n : Move = ended y next others sorts in
        let related : RelatedMoves x y (ended x next results sorts) n =
        record { label = both_exit_events values.0 values.1; target = both_stop; asked = none_asked; sorts = refl } in
        (n, ap (λ ss. Some (ended y next others ss)) (open-right data_ base r), subst (λ k. RelatedMoves x y k n) same related)
    quit_follows next _ m e leaves = absurd cc

    inner_follows : (next : ℕ) {b c : Behaviour} → Beside data_ base processes x y [] b c → Follows x y next (inner_move b) (inner_move c)
    inner_follows next (both_inner {b = b} {c = c} r) m e leaves =
        let n : Move = record { label = inner_event; target = c; asked = []; sorts = [] } in
        let related : RelatedMoves x y (record { label = inner_event; target = b; asked = []; sorts = [] }) n =
        record { label = both_inner_events; target = r; asked = none_asked; sorts = refl } in
        (n, refl, subst (λ k. RelatedMoves x y k n) (some_value e) related)
    inner_follows next _ m e leaves = absurd cc

    -- What the moves of parts that stand beside one another do.
    abbrev AllFollow : ℕ → (Behaviour → Option Move) → (Behaviour → Option Move) → Type 0
    AllFollow next moves others = (b c : Behaviour) → Beside data_ base processes x y [] b c → Follows x y next (moves b) (others c)

    guarded_follows : (next : ℕ) (moves others : Behaviour → Option Move) → AllFollow next moves others → {b c : Behaviour}
        → Beside data_ base processes x y [] b c → Follows x y next (guarded_move moves b) (guarded_move others c)
    guarded_follows next moves others all (both_guard {test = test} {other = other} r q) =
        follows_map (asking test) (asking other) (λ m. refl)
        (λ m n related. record {
          label = related.label;
          target = related.target;
          asked = one_asked r related.asked;
          sorts = related.sorts;
        }) (all _ _ q)
    guarded_follows next moves others all _ = λ m e leaves. absurd cc

    -- A side of a parallel that moves alone.
    alone_follows : (meet : SynchronisationSet) (beside beside' : Behaviour → Behaviour)
        → ((b c : Behaviour) → Beside data_ base processes x y [] b c → Beside data_ base processes x y [] (beside b) (beside' c))
        → (m n k : Move) → RelatedMoves x y m n → alone meet beside m ≡ Some k → (l : Move) × (alone meet beside' n ≡ Some l)
        × RelatedMoves x y k l
    alone_follows meet beside beside' keep m n k related e =
        let test : (moves_alone meet m.label ≡ true) × (record m { target = beside m.target } ≡ k) =
        tested (moves_alone meet m.label) (record m { target = beside m.target }) e in
        let other : moves_alone meet n.label ≡ true = sym (alone-same meet related.label) ∙ test.0 in
        let l : Move = record n { target = beside' n.target } in
        let made : RelatedMoves x y (record m { target = beside m.target }) l =
        record {
          label = related.label;
          target = keep m.target n.target related.target;
          asked = related.asked;
          sorts = related.sorts;
        } in
        (l, rw other refl, subst (λ z. RelatedMoves x y z l) test.1 made)

    alone-sorts : (meet : SynchronisationSet) (beside : Behaviour → Behaviour) (m k : Move) → alone meet beside m ≡ Some k
        → k.sorts ≡ m.sorts
    alone-sorts meet beside m k e = ap (λ (z : Move). z.sorts)
        (sym (tested (moves_alone meet m.label) (record m { target = beside m.target }) e).1)

    still-related : {b c d f : Behaviour} {label other : Label} → RelatedLabels x y label other → Beside data_ base processes x y [] b c
        → Beside data_ base processes x y [] d f → Beside data_ base processes x y [] (still_disabled label b d) (still_disabled other c f)
    still-related both_inner_events r q = both_disable r q
    still-related (both_gate_events sorts l) r q = both_disable r q
    still-related (both_exit_events sorts l) r q = r

    left_follows : (next : ℕ) (moves others : Behaviour → Option Move) → AllFollow next moves others → {b c : Behaviour}
        → Beside data_ base processes x y [] b c → Follows x y next (left_move moves b) (left_move others c)
    left_follows next moves others all (both_choice r q) = all _ _ r
    left_follows next moves others all (both_parallel {meet = meet} {d = d} {e = f} r q) =
        follows_chain (alone meet (λ target. parallel meet target d)) (alone meet (λ target. parallel meet target f))
        (alone-sorts meet (λ target. parallel meet target d))
        (alone_follows meet (λ target. parallel meet target d) (λ target. parallel meet target f) (λ b c p. both_parallel p q)) (all _ _ r)
    left_follows next moves others all (both_disable {d = d} {e = f} r q) =
        follows_map (disabling d) (disabling f) (λ m. refl) (λ m n related.
        record {
          label = related.label;
          target = still-related related.label related.target q;
          asked = related.asked;
          sorts = related.sorts;
        }) (all _ _ r)
    left_follows next moves others all _ = λ m e leaves. absurd cc

    right_follows : (next : ℕ) (moves others : Behaviour → Option Move) → AllFollow next moves others → {b c : Behaviour}
        → Beside data_ base processes x y [] b c → Follows x y next (right_move moves b) (right_move others c)
    right_follows next moves others all (both_choice r q) = all _ _ q
    right_follows next moves others all (both_parallel {meet = meet} {b = b} {c = c} r q) =
        follows_chain (alone meet (λ target. parallel meet b target)) (alone meet (λ target. parallel meet c target))
        (alone-sorts meet (λ target. parallel meet b target))
        (alone_follows meet (λ target. parallel meet b target) (λ target. parallel meet c target) (λ b c p. both_parallel r p)) (all _ _ q)
    right_follows next moves others all (both_disable r q) = all _ _ q
    right_follows next moves others all _ = λ m e leaves. absurd cc

    abbrev joined : SynchronisationSet → Move → Move → Move
    joined meet m n = record {
      label = m.label;
      target = parallel meet m.target n.target;
      asked = m.asked ++ n.asked ++ pairwise (label_values m.label) (label_values n.label);
      sorts = m.sorts ++ n.sorts;
    }

    together-joined : (meet : SynchronisationSet) (m n : Move) → move_together data_.signature meet m.label n.label ≡ true
        → together data_.signature meet m n ≡ Some (joined meet m n)
    together-joined meet m n e = rw e refl

    both_follows : (next : ℕ) (moves others : Behaviour → Option Move) → AllFollow next moves others
        → (moves' others' : ℕ → Behaviour → Option Move) → ((k : ℕ) → AllFollow k (moves' k) (others' k)) → {b c : Behaviour}
        → Beside data_ base processes x y [] b c → Follows x y next (both_move (setting_of x) next moves moves' b)
        (both_move (setting_of y) next others others' c)
    both_follows next moves others all moves' others' all' (both_parallel {meet = meet} {b = b} {c = c} {d = d} {e = f} r q) m e leaves =
        let from : (k : Move) × (moves b ≡ Some k) × (option_and_then (together data_.signature meet k) (moves' (next + length k.sorts) d)
        ≡ Some m) =
        chained (λ (k : Move). option_and_then (together data_.signature meet k) (moves' (next + length k.sorts) d)) (moves b) e in
        let k : Move = from.0 in
        let from' : (l : Move) × (moves' (next + length k.sorts) d ≡ Some l) × (together data_.signature meet k l ≡ Some m) =
        chained (together data_.signature meet k) (moves' (next + length k.sorts) d) from.2 in
        let l : Move = from'.0 in
        let test : (move_together data_.signature meet k.label l.label ≡ true)
        × (joined meet k l ≡ m) = tested (move_together data_.signature meet k.label l.label) (joined meet k l) from'.2 in
        let below : RelatedLeaves x y next k.sorts × RelatedLeaves x y (next + length k.sorts) l.sorts =
        leaves_append x y next k.sorts l.sorts (subst (RelatedLeaves x y next) (ap (λ (z : Move). z.sorts) (sym test.1)) leaves) in
        let answer : Answer x y (others c) k = all _ _ r k from.1 below.0 in
        let answer' : Answer x y (others' (next + length k.sorts) f) l = all' (next + length k.sorts) _ _ q l from'.1 below.1 in
        let n : Move = answer.0 in
        let o : Move = answer'.0 in
        let meets : move_together data_.signature meet n.label o.label ≡ true = sym (together-same meet answer.2.label answer'.2.label)
        ∙ test.0 in
        let place : others' (next + length n.sorts) f ≡ Some o =
        subst (λ z. others' (next + length z) f ≡ Some o) answer.2.sorts answer'.1 in
        let whole : option_and_then (together data_.signature meet n) (others' (next + length n.sorts) f) ≡ Some (joined meet n o) =
        ap (option_and_then (together data_.signature meet n)) place ∙ together-joined meet n o meets in
        let related : RelatedMoves x y (joined meet k l) (joined meet n o) = record {
          label = answer.2.label;
          target = both_parallel answer.2.target answer'.2.target;
          asked = asked_append (asked_append answer.2.asked answer'.2.asked) (matched-related meet test.0 answer.2.label answer'.2.label);
          sorts = ap (λ ss. ss ++ l.sorts) answer.2.sorts ∙ ap (λ ss. n.sorts ++ ss) answer'.2.sorts;
        } in (
          joined meet n o,
          ap (option_and_then (λ (z : Move). option_and_then (together data_.signature meet z) (others' (next + length z.sorts) f)))
              answer.1 ∙ whole,
          subst (λ z. RelatedMoves x y z (joined meet n o)) test.1 related,
        )
    both_follows next moves others all moves' others' all' _ m e leaves = absurd cc

    hidden_follows : (next : ℕ) (moves others : Behaviour → Option Move) → AllFollow next moves others → {b c : Behaviour}
        → Beside data_ base processes x y [] b c → Follows x y next (hidden_move moves b) (hidden_move others c)
    hidden_follows next moves others all (both_hide {gates = gates} r) =
        follows_map (hiding gates) (hiding gates) (λ m. refl)
        (λ m n related. record {
          label = hidden-related gates related.label;
          target = both_hide related.target;
          asked = related.asked;
          sorts = related.sorts;
        }) (all _ _ r)
    hidden_follows next moves others all _ = λ m e leaves. absurd cc

    -- The sorts of related values are the same, so a right side of `>>` takes both or neither.
    terms_have : {sorts : List ℕ} {ts us : List Term} (variables : List Variable) → RelatedTerms data_ base x y [] sorts ts us
        → have_sorts data_.signature ts (sorts_of variables) ≡ true → RelatedTerms data_ base x y [] (sorts_of variables) ts us
    terms_have [] none_related e = none_related
    terms_have (z ∷ variables) none_related e = absurd (cc e)
    terms_have [] (one_related r rest) e = absurd (cc e)
    terms_have (z ∷ variables) (one_related {s = s} {t = t} {u = u} {ts = ts} r rest) e =
        let test : nat_eq s z.sort && have_sorts data_.signature ts (sorts_of variables) ≡ true =
        rw (sort_of_sorted data_.signature t s r.left_sorted) at e in
        let parts : (nat_eq s z.sort ≡ true) × (have_sorts data_.signature ts (sorts_of variables) ≡ true) =
        and_parts (nat_eq s z.sort) (have_sorts data_.signature ts (sorts_of variables)) test in
        one_related (subst (λ q. Related data_ base x y [] q t u) (eqb-true s z.sort parts.0) r) (terms_have variables rest parts.1)

    enabling_follows : (variables : List Variable) (d f : Behaviour) → Binders data_ base variables
        → Beside data_ base processes x y (variables ++ []) d f → (m n k : Move) (label other : Label) → RelatedLabels x y label other
        → RelatedMoves x y m n → enabling data_.signature variables d m label ≡ Some k → (l : Move)
        × (enabling data_.signature variables f n other ≡ Some l) × RelatedMoves x y k l
    enabling_follows variables d f binders q m n k inner_event other r related e = absurd (cc e)
    enabling_follows variables d f binders q m n k (gate_event g ts) other r related e = absurd (cc e)
    enabling_follows variables d f binders q m n k (exit_event ts) inner_event r related e = elim r [ ]
    enabling_follows variables d f binders q m n k (exit_event ts) (gate_event g us) r related e = elim r [ ]
    enabling_follows variables d f binders q m n k (exit_event ts) (exit_event us) (both_exit_events sorts r) related e =
        let test : (have_sorts data_.signature ts (sorts_of variables) ≡ true)
        × _ = tested (have_sorts data_.signature ts (sorts_of variables))
        (record m { label = inner_event; target = with_values (binding_of variables ts) d }) e in
        let other : have_sorts data_.signature us (sorts_of variables) ≡ true = sym (have_sorts-same (sorts_of variables) r) ∙ test.0 in
        let l : Move = record n { label = inner_event; target = with_values (binding_of variables us) f } in
        let made : RelatedMoves x y (record m { label = inner_event; target = with_values (binding_of variables ts) d }) l = record {
          label = both_inner_events;
          target = put_beside data_ base processes (bindings_put data_ base variables ts us binders (terms_have variables r test.0)) q;
          asked = related.asked;
          sorts = related.sorts;
        } in
        (l, rw other refl, subst (λ z. RelatedMoves x y z l) test.1 made)

    enabling-sorts : (variables : List Variable) (d : Behaviour) (m k : Move) (label : Label)
        → enabling data_.signature variables d m label ≡ Some k → k.sorts ≡ m.sorts
    enabling-sorts variables d m k (exit_event ts) e = ap (λ (z : Move). z.sorts)
        (sym (tested (have_sorts data_.signature ts (sorts_of variables))
        (record m { label = inner_event; target = with_values (binding_of variables ts) d }) e).1)
    enabling-sorts variables d m k _ e = absurd (cc e)

    enabled_follows : (next : ℕ) (moves others : Behaviour → Option Move) → AllFollow next moves others → {b c : Behaviour}
        → Beside data_ base processes x y [] b c → Follows x y next (enabled_move (setting_of x) moves b)
        (enabled_move (setting_of y) others c)
    enabled_follows next moves others all (both_enable {variables = variables} {d = d} {e = f} r binders q) =
        follows_chain (λ (m : Move). enabling data_.signature variables d m m.label)
        (λ (m : Move). enabling data_.signature variables f m m.label)
        (λ m k e. enabling-sorts variables d m k m.label e)
        (λ m n k related e. enabling_follows variables d f binders q m n k m.label n.label related.label related e) (all _ _ r)
    enabled_follows next moves others all _ = λ m e leaves. absurd cc

    passed_follows : (next : ℕ) (moves others : Behaviour → Option Move) → AllFollow next moves others → {b c : Behaviour}
        → Beside data_ base processes x y [] b c → Follows x y next (passed_move moves b) (passed_move others c)
    passed_follows next moves others all (both_enable {variables = variables} {d = d} {e = f} r binders q) =
        follows_chain (passing variables d) (passing variables f)
        (λ m k e. ap (λ (z : Move). z.sorts) (sym (tested_not (is_exit m.label) (record m { target = enable m.target variables d }) e).1))
        (λ m n k related e.
        let test : (is_exit m.label ≡ false) × (record m { target = enable m.target variables d } ≡ k) =
        tested_not (is_exit m.label) (record m { target = enable m.target variables d }) e in
        let other : is_exit n.label ≡ false = sym (is_exit-same related.label) ∙ test.0 in
        let l : Move = record n { target = enable n.target variables f } in
        let made : RelatedMoves x y (record m { target = enable m.target variables d }) l =
        record { label = related.label; target = both_enable related.target binders q; asked = related.asked; sorts = related.sorts } in
        (l, rw other refl, subst (λ z. RelatedMoves x y z l) test.1 made)) (all _ _ r)
    passed_follows next moves others all _ = λ m e leaves. absurd cc

    let_follows : (next : ℕ) (moves others : Behaviour → Option Move) → AllFollow next moves others → {b c : Behaviour}
        → Beside data_ base processes x y [] b c → Follows x y next (let_move (setting_of x) moves b) (let_move (setting_of y) others c)
    let_follows next moves others all (both_let variables {bindings = bindings} {others = bindings'} {b = b} {c = c} e e' binders terms
        rest) =
        let put : Puts data_ base x y (variables ++ []) [] (binding_of variables (map x.represent (let_terms bindings)))
        (binding_of variables (map y.represent (let_terms bindings'))) =
        bindings_put data_ base variables _ _ binders (represented_related terms) in
        let inside : Beside data_ base processes x y [] (with_values (binding_of (let_variables bindings)
        (map x.represent (let_terms bindings))) b) (with_values
        (binding_of (let_variables bindings') (map y.represent (let_terms bindings'))) c) =
        rw (e, e') (put_beside data_ base processes put rest) in
        all _ _ inside
    let_follows next moves others all _ = λ m e leaves. absurd cc

    value_follows : (next : ℕ) (moves others : Behaviour → Option Move) → AllFollow (suc next) moves others → {b c : Behaviour}
        → Beside data_ base processes x y [] b c → Follows x y next (value_move (setting_of x) x.leaves next moves b)
        (value_move (setting_of y) y.leaves next others c)
    value_follows next moves others all (both_choose_value {z = z} {b = b} {c = c} binders rest) m e leaves =
        let inside : Behaviour = with_values (binding_of (z ∷ []) (x.represent (x.leaves next z.sort) ∷ [])) b in
        let from : (k : Move) × (moves inside ≡ Some k) × (after_leaf z.sort k ≡ m) = mapped (after_leaf z.sort) (moves inside) e in
        let below : RelatedLeaves x y next (z.sort ∷ from.0.sorts) =
        subst (RelatedLeaves x y next) (ap (λ (k : Move). k.sorts) (sym from.2)) leaves in
        let values : RelatedTerms data_ base x y [] (z.sort ∷ []) (x.represent (x.leaves next z.sort) ∷ [])
        (y.represent (y.leaves next z.sort) ∷ []) = one_related
        (represented data_ base represent other_represent below.0) none_related in
        let put : Puts data_ base x y (z ∷ []) [] (binding_of (z ∷ []) (x.represent (x.leaves next z.sort) ∷ []))
        (binding_of (z ∷ []) (y.represent (y.leaves next z.sort) ∷ [])) = bindings_put data_ base (z ∷ []) _ _ binders values in
        let answer : Answer x y (others (with_values (binding_of (z ∷ []) (y.represent (y.leaves next z.sort) ∷ [])) c)) from.0 =
        all _ _ (put_beside data_ base processes put rest) from.0 from.1 below.1 in
        let made : RelatedMoves x y (after_leaf z.sort from.0) (after_leaf z.sort answer.0) =
        record {
          label = answer.2.label;
          target = answer.2.target;
          asked = answer.2.asked;
          sorts = ap (λ ss. z.sort ∷ ss) answer.2.sorts;
        } in (
          after_leaf z.sort answer.0,
          ap (option_map (after_leaf z.sort)) answer.1,
          subst (λ k. RelatedMoves x y k (after_leaf z.sort answer.0)) from.2 made,
        )
    value_follows next moves others all _ m e leaves = absurd cc

    relabelling_follows : (pairs : Relabelling) {next : ℕ} {one other : Option Move} → Follows x y next one other
        → Follows x y next (option_map (relabelling pairs) one) (option_map (relabelling pairs) other)
    relabelling_follows pairs follows = follows_map (relabelling pairs) (relabelling pairs) (λ m. refl)
        (λ m n related. record {
          label = label_under-related pairs related.label;
          target = under_beside data_ base processes pairs related.target;
          asked = related.asked;
          sorts = related.sorts;
        }) follows

    gate_at_follows : (g next : ℕ) (a : Option ℕ) {one other : Option Move} → Follows x y next one other
        → Follows x y next (option_and_then (λ (a : ℕ). option_map (relabelling ((g, a) ∷ [])) one) a)
        (option_and_then (λ (a : ℕ). option_map (relabelling ((g, a) ∷ [])) other) a)
    gate_at_follows g next None follows = λ m e leaves. absurd (cc e)
    gate_at_follows g next (Some a) follows = relabelling_follows ((g, a) ∷ []) follows

    gate_follows : (next k : ℕ) (moves others : Behaviour → Option Move) → AllFollow next moves others → {b c : Behaviour}
        → Beside data_ base processes x y [] b c → Follows x y next (gate_move k moves b) (gate_move k others c)
    gate_follows next k moves others all (both_choose_gate {g = g} {gates = gates} r) =
        gate_at_follows g next (slice_get gates k) (all _ _ r)
    gate_follows next k moves others all _ = λ m e leaves. absurd cc

    relabelled_follows : (next : ℕ) (moves others : Behaviour → Option Move) → AllFollow next moves others → {b c : Behaviour}
        → Beside data_ base processes x y [] b c → Follows x y next (relabelled_move moves b) (relabelled_move others c)
    relabelled_follows next moves others all (both_relabel {pairs = pairs} r) = relabelling_follows pairs (all _ _ r)
    relabelled_follows next moves others all _ = λ m e leaves. absurd cc

    module _ (bodies : (number : ℕ) (process : Process) → slice_get processes number ≡ Some process → Binders data_ base process.parameters
        × Beside data_ base processes x y (process.parameters ++ []) process.body process.body) where
      called_follows : (next : ℕ) (moves others : Behaviour → Option Move) → AllFollow next moves others → {b c : Behaviour}
          → Beside data_ base processes x y [] b c → Follows x y next (called_move (setting_of x) moves b)
          (called_move (setting_of y) others c)
      called_follows next moves others all (both_call {number = number} {gates = gates} {arguments = arguments} {others = arguments'}
          process at terms) =
          let body : Binders data_ base process.parameters × Beside data_ base processes x y (process.parameters ++ []) process.body
          process.body = bodies number process at in
          let put : Puts data_ base x y (process.parameters ++ []) [] (binding_of process.parameters (map x.represent arguments))
          (binding_of process.parameters (map y.represent arguments')) =
          bindings_put data_ base process.parameters _ _ body.0 (represented_related terms) in
          rw at (relabelling_follows (zip process.gates gates) (all _ _ (put_beside data_ base processes put body.1)))
      called_follows next moves others all _ = λ m e leaves. absurd cc

      pub follows : (s : Shape) (next : ℕ) → AllFollow next (move_of (setting_of x) x.leaves s next)
          (move_of (setting_of y) y.leaves s next)
      follows act next b c r = act_follows next (opened_beside data_ base processes r)
      follows quit next b c r = quit_follows next (opened_beside data_ base processes r)
      follows inner_step next b c r = inner_follows next (opened_beside data_ base processes r)
      follows (guarded s) next b c r = guarded_follows next (move_of (setting_of x) x.leaves s next)
          (move_of (setting_of y) y.leaves s next) (follows s next) (opened_beside data_ base processes r)
      follows (left_side s) next b c r = left_follows next (move_of (setting_of x) x.leaves s next) (move_of (setting_of y) y.leaves s next)
          (follows s next) (opened_beside data_ base processes r)
      follows (right_side s) next b c r = right_follows next (move_of (setting_of x) x.leaves s next)
          (move_of (setting_of y) y.leaves s next) (follows s next) (opened_beside data_ base processes r)
      follows (both_sides s t) next b c r = both_follows next (move_of (setting_of x) x.leaves s next)
          (move_of (setting_of y) y.leaves s next) (follows s next) (move_of (setting_of x) x.leaves t) (move_of (setting_of y) y.leaves t)
          (follows t) (opened_beside data_ base processes r)
      follows (hidden s) next b c r = hidden_follows next (move_of (setting_of x) x.leaves s next) (move_of (setting_of y) y.leaves s next)
          (follows s next) (opened_beside data_ base processes r)
      follows (enabled s) next b c r = enabled_follows next (move_of (setting_of x) x.leaves s next)
          (move_of (setting_of y) y.leaves s next) (follows s next) (opened_beside data_ base processes r)
      follows (passed s) next b c r = passed_follows next (move_of (setting_of x) x.leaves s next) (move_of (setting_of y) y.leaves s next)
          (follows s next) (opened_beside data_ base processes r)
      follows (let_bound s) next b c r = let_follows next (move_of (setting_of x) x.leaves s next) (move_of (setting_of y) y.leaves s next)
          (follows s next) (opened_beside data_ base processes r)
      follows (with_value s) next b c r = value_follows next (move_of (setting_of x) x.leaves s (suc next))
          (move_of (setting_of y) y.leaves s (suc next)) (follows s (suc next)) (opened_beside data_ base processes r)
      follows (at_gate k s) next b c r = gate_follows next k (move_of (setting_of x) x.leaves s next)
          (move_of (setting_of y) y.leaves s next) (follows s next) (opened_beside data_ base processes r)
      follows (called s) next b c r = called_follows next (move_of (setting_of x) x.leaves s next) (move_of (setting_of y) y.leaves s next)
          (follows s next) (opened_beside data_ base processes r)
      follows (relabelled s) next b c r = relabelled_follows next (move_of (setting_of x) x.leaves s next)
          (move_of (setting_of y) y.leaves s next) (follows s next) (opened_beside data_ base processes r)
