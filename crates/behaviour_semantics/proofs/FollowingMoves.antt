-- Behaviours beside one another without leaf variables: what one form of values derives another one derives too, and
-- what they reach stands beside one another again.
use Rattle.std.proofs.Common.{◌≡◌, ◌≤◌, ℕ, suc, List, [], ◌∷◌, map, Option, ap, sym, ◌∙◌, subst}
use Rattle.lotos_base.specs.Term.{Term, variable}
use Rattle.lotos_base.specs.Equation.{Data, Variable}
use Rattle.lotos_base.specs.Substitution.{Substitution, substituted}
use Rattle.lotos_base.proofs.SubstitutionLemmas.{substituted_variables}
use Rattle.behaviour_semantics.specs.Behaviour.{Behaviour, Test, Offer, ExitValue, Process, Specification}
use Rattle.behaviour_semantics.specs.Label.{Label}
use Rattle.behaviour_semantics.specs.Replacement.{test_with}
use Rattle.behaviour_semantics.specs.Rule.{Holds, AllHold, AreValues}
use Rattle.behaviour_semantics.specs.Shape.{Derivation}
use Rattle.behaviour_semantics.specs.Move.{Move, move_of}
use Rattle.behaviour_semantics.specs.Derives.{GivesMove, leaves_in}
use Rattle.behaviour_semantics.specs.Draft.{above_processes}
use Rattle.behaviour_semantics.specs.Run.{Reaches, at_start, one_move}
use Rattle.behaviour_semantics.specs.WellFormed.{IsSpecification}
use Rattle.behaviour_semantics.proofs.SupplyLemmas.{Supplied, Supplied-leaves_in}
use Rattle.behaviour_semantics.proofs.RelatedTerms.{Side, Related, RelatedTerms, none_related, one_related, IsRepresenting}
use Rattle.behaviour_semantics.proofs.RelatedBehaviours.{RelatedTests, RelatedOptions, no_tests, some_tests, RelatedOffers, no_offers, both_give, both_ask, RelatedResults, no_results, both_values, both_any, Beside, both_stop, both_exit_with, both_action, both_inner, both_guard, both_choice, both_parallel, both_hide, both_enable, both_disable, both_let, both_choose_value, both_choose_gate, both_par_gate, both_call, both_relabel}
use Rattle.behaviour_semantics.proofs.RelatedMoves.{RelatedLeaves, RelatedLabels, Answer, setting_of, follows}
use Rattle.behaviour_semantics.proofs.InstanceLemmas.{plain, plain_grounded, bodies_of, ground_related, asked_over}

pub hold_plain : (data_ : Data) (tests : List Test) → AllHold data_ tests → AllHold data_ (map (test_with variable) tests)
hold_plain data_ [] h = tt
hold_plain data_ (test ∷ tests) h =
    let same : test_with variable test ≡ test = ap (λ (t : Term). record { left = t; right = substituted variable test.right })
    (substituted_variables test.left) ∙ ap (λ (t : Term). record { left = test.left; right = t }) (substituted_variables test.right) in
    (subst (Holds data_) (sym same) h.0, hold_plain data_ tests h.1)

same_leaves : (data_ : Data) (base : ℕ) (processes : List Process) (represent other : Term → Term) (leaves : Substitution) (next : ℕ)
    (sorts : List ℕ) → Supplied data_.signature leaves next sorts → RelatedLeaves data_ base processes (plain represent leaves)
    (plain other leaves) next sorts
same_leaves data_ base processes represent other leaves next [] h = tt
same_leaves data_ base processes represent other leaves next (s ∷ sorts) h = (
  ground_related data_ base (plain represent leaves) (plain other leaves) s (leaves next s) h.0,
  same_leaves data_ base processes represent other leaves (suc next) sorts h.1,
)

-- Forms and leaves of plain sides do not count for what stands beside one another.
module _ (data_ : Data) (base : ℕ) (represent other : Term → Term) (leaves more : Substitution) where
  with_others : {scope : List Variable} {s : ℕ} {t u : Term} → Related data_ base (plain represent leaves)
      (plain other leaves) scope s t u → Related data_ base (plain represent more) (plain other more) scope s t u
  with_others r = record {
    left_sorted = r.left_sorted;
    right_sorted = r.right_sorted;
    left_free = r.left_free;
    right_free = r.right_free;
    equal = r.equal;
  }

  tests_with_others : {scope : List Variable} {test another : Test} → RelatedTests data_ base (plain represent leaves)
      (plain other leaves) scope test another → RelatedTests data_ base (plain represent more) (plain other more) scope test another
  tests_with_others r = record { sort = r.sort; left = with_others r.left; right = with_others r.right }

  options_with_others : {scope : List Variable} {test another : Option Test}
      → RelatedOptions data_ base (plain represent leaves) (plain other leaves) scope test another
      → RelatedOptions data_ base (plain represent more) (plain other more) scope test another
  options_with_others no_tests = no_tests
  options_with_others (some_tests r) = some_tests (tests_with_others r)

  offers_with_others : {scope variables : List Variable} {offers others : List Offer}
      → RelatedOffers data_ base (plain represent leaves) (plain other leaves) scope variables offers others
      → RelatedOffers data_ base (plain represent more) (plain other more) scope variables offers others
  offers_with_others no_offers = no_offers
  offers_with_others (both_give r rest) = both_give (with_others r) (offers_with_others rest)
  offers_with_others (both_ask z rest) = both_ask z (offers_with_others rest)

  results_with_others : {scope : List Variable} {sorts : List ℕ} {results others : List ExitValue}
      → RelatedResults data_ base (plain represent leaves) (plain other leaves) scope sorts results others
      → RelatedResults data_ base (plain represent more) (plain other more) scope sorts results others
  results_with_others no_results = no_results
  results_with_others (both_values r rest) = both_values (with_others r) (results_with_others rest)
  results_with_others (both_any s is_sort rest) = both_any s is_sort (results_with_others rest)

  terms_with_others : {scope : List Variable} {sorts : List ℕ} {ts us : List Term}
      → RelatedTerms data_ base (plain represent leaves) (plain other leaves) scope sorts ts us
      → RelatedTerms data_ base (plain represent more) (plain other more) scope sorts ts us
  terms_with_others none_related = none_related
  terms_with_others (one_related r rest) = one_related (with_others r) (terms_with_others rest)

  pub beside_with_others : {processes : List Process} {scope : List Variable} {b c : Behaviour}
      → Beside data_ base processes (plain represent leaves) (plain other leaves) scope b c
      → Beside data_ base processes (plain represent more) (plain other more) scope b c
  beside_with_others both_stop = both_stop
  beside_with_others (both_exit_with r) = both_exit_with (results_with_others r)
  beside_with_others (both_action r binders tests rest) =
      both_action (offers_with_others r) binders (options_with_others tests) (beside_with_others rest)
  beside_with_others (both_inner r) = both_inner (beside_with_others r)
  beside_with_others (both_guard r q) = both_guard (tests_with_others r) (beside_with_others q)
  beside_with_others (both_choice r q) = both_choice (beside_with_others r) (beside_with_others q)
  beside_with_others (both_parallel r q) = both_parallel (beside_with_others r) (beside_with_others q)
  beside_with_others (both_hide r) = both_hide (beside_with_others r)
  beside_with_others (both_enable r binders q) = both_enable (beside_with_others r) binders (beside_with_others q)
  beside_with_others (both_disable r q) = both_disable (beside_with_others r) (beside_with_others q)
  beside_with_others (both_let variables e e' binders terms r) =
      both_let variables e e' binders (terms_with_others terms) (beside_with_others r)
  beside_with_others (both_choose_value binders r) = both_choose_value binders (beside_with_others r)
  beside_with_others (both_choose_gate r) = both_choose_gate (beside_with_others r)
  beside_with_others (both_par_gate r) = both_par_gate (beside_with_others r)
  beside_with_others (both_call process at terms) = both_call process at (terms_with_others terms)
  beside_with_others (both_relabel r) = both_relabel (beside_with_others r)

-- What one form derives another one derives too.
pub record Another (data_ : Data) (base : ℕ) (represent other : Term → Term) (processes : List Process) (c : Behaviour) (d : Derivation)
    (label : Label) (target : Behaviour) : Type 0 where
  pub move : Move
  pub made : GivesMove data_ other processes c d move.label move.target
  pub labels : RelatedLabels data_ base processes (plain represent (leaves_in d.leaves)) (plain other (leaves_in d.leaves)) label move.label
  pub targets : Beside data_ base processes (plain represent (leaves_in d.leaves)) (plain other (leaves_in d.leaves)) [] target move.target

pub another : (data_ : Data) (base : ℕ) (represent other : Term → Term) (specification : Specification) (b c : Behaviour)
    → IsSpecification data_.signature specification → above_processes specification.processes ≤ base → IsRepresenting data_ represent
    → IsRepresenting data_ other → (d : Derivation) → Beside data_ base specification.processes (plain represent (leaves_in d.leaves))
    (plain other (leaves_in d.leaves)) [] b c → (label : Label) (target : Behaviour)
    → GivesMove data_ represent specification.processes b d label target
    → Another data_ base represent other specification.processes c d label target
another data_ base represent other specification b c fine le f g d beside label target moves =
    let x : Side = plain represent (leaves_in d.leaves) in
    let y : Side = plain other (leaves_in d.leaves) in
    let m : Move = record { label = label; target = target; asked = moves.asked; sorts = moves.sorts } in
    let answer : Answer data_ base specification.processes x y
    (move_of (setting_of data_ base specification.processes y) y.leaves d.shape 0 c) m =
    follows data_ base specification.processes x y f g (bodies_of data_ base x y specification fine le) d.shape 0 b c beside m moves.move
    (same_leaves data_ base specification.processes represent other (leaves_in d.leaves) 0 moves.sorts
    (Supplied-leaves_in data_.signature moves.sorts d.leaves moves.leaves)) in
    record {
      move = answer.0;
      made = record {
        asked = answer.0.asked;
        sorts = answer.0.sorts;
        move = answer.1;
        leaves = subst (λ ss. AreValues data_.signature ss d.leaves) answer.2.sorts moves.leaves;
        holds = asked_over data_ base other (leaves_in d.leaves) x (plain_grounded data_ represent (leaves_in d.leaves)) answer.2.asked
            (hold_plain data_ moves.asked moves.holds);
      };
      labels = answer.2.label;
      targets = answer.2.target;
    }

-- The same of runs.
pub record AnotherRun (data_ : Data) (base : ℕ) (represent other : Term → Term) (processes : List Process) (c : Behaviour)
    (ds : List Derivation) (target : Behaviour) : Type 0 where
  pub last : Behaviour
  pub run : Reaches data_ other processes c ds last
  pub targets : Beside data_ base processes (plain represent variable) (plain other variable) [] target last

pub another_run : (data_ : Data) (base : ℕ) (represent other : Term → Term) (specification : Specification)
    → IsSpecification data_.signature specification → above_processes specification.processes ≤ base → IsRepresenting data_ represent
    → IsRepresenting data_ other → (b c : Behaviour) (ds : List Derivation) (target : Behaviour)
    → Beside data_ base specification.processes (plain represent variable) (plain other variable) [] b c
    → Reaches data_ represent specification.processes b ds target → AnotherRun data_ base represent other specification.processes c ds
    target
another_run data_ base represent other specification fine le f g b c ds target beside at_start =
    record { last = c; run = at_start; targets = beside }
another_run data_ base represent other specification fine le f g b c ds target beside
    (one_move {next = next} {d = d} {ds = rest} {label = label} moves run) =
    let a : Another data_ base represent other specification.processes c d label next =
    another data_ base represent other specification b c fine le f g d
    (beside_with_others data_ base represent other variable (leaves_in d.leaves) beside) label next moves in
    let r : AnotherRun data_ base represent other specification.processes a.move.target rest target =
    another_run data_ base represent other specification fine le f g next a.move.target rest target
    (beside_with_others data_ base represent other (leaves_in d.leaves) variable a.targets) run in
    record { last = r.last; run = one_move a.made r.run; targets = r.targets }
