-- Functionalities and recursion of what the code keeps of a specification are decided by the plain specification and the places.
use Rattle.std.proofs.Common.{refl, ap, sym, ◌∙◌, ◌≡◌, subst, ℕ, List, [], ◌∷◌, map, length, Option, None, Some, slice_get}
use Rattle.std.proofs.lemmas.Option.{same_Some}
use Rattle.lotos_base.proofs.Members.{at_map}
use Rattle.lotos_base.specs.Equation.{Place, Data}
use Rattle.lotos_base.specs.WrittenView.{text_place_of}
use Rattle.lotos_base.specs.declared.places.Place as code
use Rattle.syntax_trees.specs.WrittenDefinition.{WrittenSpecification}
use Rattle.syntax_trees.specs.TakenItems.{without_items}
use Rattle.behaviour_semantics.specs.Behaviour.{Specification}
use Rattle.behaviour_semantics.specs.Guardedness.{IsGuarded}
use Rattle.behaviour_tree.specs.declared.definitions.Process.{Process}
use Rattle.behaviour_tree.specs.declared.definitions.Spec.{Spec}
use Rattle.static_scope.specs.KeptPlaces.{places_of}
use Rattle.static_scope.specs.TextPlaces.{text_places}
use Rattle.refusal_lines.specs.HandedOn.{call_sites_of, process_at, called_by, call_graph_of, Functionality, Disagreement, all_disagreements}
use Rattle.refusal_lines.specs.HandedOn.{IsFirstOnCycle, IsKeptCycle, LiesOnCycle, CallsHaveCycle, IsSiteAt, IsUnguarded, CallSite}
use Rattle.refusal_lines.proofs.HandedOn.{not_guarded, way_of_leads}
use Rattle.spec_acceptance.specs.PartLaws.{IsDecided}
use Rattle.spec_acceptance.specs.Checks.{KeepsSpecification, FunctionalitiesAgree, FunctionalityFault, differ_at, IsFirstDisagreement, Disagree, Guarded, RecursionFault, unguarded_at, Cyclic}
use Rattle.spec_acceptance.specs.AcceptanceLaws.{ExitsAreDecided, RanksAreDecided}
use Rattle.spec_acceptance.proofs.OneCycle.{first_is_one, kept_cycle_is_one}
use Rattle.spec_acceptance.proofs.PlacedCalls.{PlacedCall, placed_call, seen_by, calls_by, calls_are_by}
use Rattle.spec_acceptance.proofs.PlacedDisagreements.{PlacedDisagreement, seen_disagreements, disagreements_by, disagreements_are_by}

-- ---- Functionalities

-- what is kept has the disagreements that the plain specification and the places tell
module _ (data_ : Data) (tree : WrittenSpecification) (spec : Specification) where
  abbrev Kept : Spec → Type 0
  Kept kept = KeepsSpecification data_ tree spec kept

  abbrev told_all : List PlacedDisagreement
  told_all = disagreements_by data_.signature spec (text_places (without_items tree))

  seen_are_told : (kept : Spec) → Kept kept → seen_disagreements (all_disagreements kept) ≡ told_all
  seen_are_told kept keeps =
      sym (disagreements_are_by data_.signature kept keeps.over)
      ∙ ap (λ (s : Specification). disagreements_by data_.signature s (places_of kept)) keeps.same
      ∙ ap (disagreements_by data_.signature spec) keeps.places

  -- the first of them
  abbrev IsFirstTold : List PlacedDisagreement → Place → Functionality → Functionality → Type 0
  IsFirstTold [] place left right = ⊥
  IsFirstTold (first ∷ others) place left right = first ≡ (place, left, right)

  first_told : (ds : List Disagreement) (place : Place) (left right : Functionality) → IsFirstDisagreement ds place left right
      → IsFirstTold (seen_disagreements ds) place left right
  first_told [] place left right is = absurd is
  first_told (d ∷ ds) place left right is =
      ap (λ (p : Place). (p, d.left, d.right)) is.0
      ∙ ap (λ (f : Functionality). (place, f, d.right)) is.1
      ∙ ap (λ (f : Functionality). (place, left, f)) is.2

  told_once : (ds : List PlacedDisagreement) (place other : Place) (left also right too : Functionality) → IsFirstTold ds place left right
      → IsFirstTold ds other also too → differ_at place left right ≡ differ_at other also too
  told_once [] place other left also right too is not = absurd is
  told_once (d ∷ ds) place other left also right too is same =
      ap (λ (t : PlacedDisagreement). differ_at t.0 t.1 t.2) (sym is ∙ same)

  first_of_text : (place : Place) (left right : Functionality) → Disagree data_ tree spec (differ_at place left right)
      → IsFirstTold told_all place left right
  first_of_text place left right is =
      subst (λ (ds : List PlacedDisagreement). IsFirstTold ds place left right) (seen_are_told is.0 is.1)
      (first_told (all_disagreements is.0) place left right is.2)

  none_told : (ds : List Disagreement) → ds ≡ [] → seen_disagreements ds ≡ []
  none_told ds none = ap seen_disagreements none

  agree_or_differ : (b : Specification) (fault : FunctionalityFault) → FunctionalitiesAgree data_ tree spec b
      → Disagree data_ tree spec fault
      → ⊥
  agree_or_differ b (differ_at place left right) is not =
      subst (λ (ds : List PlacedDisagreement). IsFirstTold ds place left right)
      (sym (seen_are_told is.1.0 is.1.1) ∙ none_told (all_disagreements is.1.0) is.1.2) (first_of_text place left right not)

  differ_once : (fault other : FunctionalityFault) → Disagree data_ tree spec fault → Disagree data_ tree spec other → fault ≡ other
  differ_once (differ_at place left right) (differ_at other also too) is same =
      told_once told_all place other left also right too (first_of_text place left right is) (first_of_text other also too same)

  pub exits_decided : IsDecided (FunctionalitiesAgree data_ tree spec) (Disagree data_ tree spec)
  exits_decided = record {
    one_value = λ b c is also. is.0 ∙ sym also.0;
    not_both = agree_or_differ;
    one_fault = differ_once;
  }

pub exits_are_decided : ExitsAreDecided
exits_are_decided data_ tree spec = exits_decided data_ tree spec

-- ---- Recursion

-- the processes that are called
abbrev call_number : PlacedCall → ℕ
call_number c = c.1

abbrev numbers_in : List PlacedCall → List ℕ
numbers_in calls = map call_number calls

called_seen : (sites : List CallSite) → map call_number (map placed_call sites) ≡ map process_at sites
called_seen [] = refl
called_seen (s ∷ sites) = ap (λ (ns : List ℕ). s.process ∷ ns) (called_seen sites)

graph_seen : (processes : List Process) → map numbers_in (map seen_by processes) ≡ call_graph_of processes
graph_seen [] = refl
graph_seen (p ∷ processes) =
    ap (λ (ns : List ℕ). ns ∷ map numbers_in (map seen_by processes)) (called_seen (call_sites_of p.body))
    ∙ ap (λ (rest : List (List ℕ)). called_by p ∷ rest) (graph_seen processes)

-- the place of a call
abbrev place_of_call : Option PlacedCall → Option Place
place_of_call None = None
place_of_call (Some c) = Some c.0

abbrev place_among : ℕ → Option (List PlacedCall) → Option Place
place_among position None = None
place_among position (Some calls) = place_of_call (slice_get calls position)

abbrev place_there : List (List PlacedCall) → ℕ → ℕ → Option Place
place_there calls process position = place_among position (slice_get calls process)

site_placed : (kept : Spec) (process position : ℕ) (place : code.Place) → IsSiteAt kept process position place
    → place_there (map seen_by kept.processes.items) process position ≡ Some (text_place_of place)
site_placed kept process position place is =
    ap (place_among position) (at_map seen_by kept.processes.items process is.caller is.found)
    ∙ ap place_of_call (at_map placed_call (call_sites_of is.caller.body) position is.site is.stands)
    ∙ ap (λ (at : code.Place). Some (text_place_of at)) is.placed

-- the first call on a cycle of these calls, with its place and the cycle that is kept
record IsToldCycle (calls : List (List PlacedCall)) (place : Place) (process : ℕ) (cycle : List ℕ) : Type 0 where
  pub position : ℕ
  pub first : IsFirstOnCycle (map numbers_in calls) process position
  pub kept : IsKeptCycle (map numbers_in calls) process position cycle
  pub placed : place_there calls process position ≡ Some place

same_cycle : (place other : Place) (process also : ℕ) (cycle too : List ℕ) → place ≡ other → process ≡ also → cycle ≡ too
    → unguarded_at place process cycle ≡ unguarded_at other also too
same_cycle place other process also cycle too one two three =
    ap (λ (p : Place). unguarded_at p process cycle) one ∙ ap (λ (n : ℕ). unguarded_at other n cycle) two
    ∙ ap (λ (ns : List ℕ). unguarded_at other also ns) three

cycle_told_once : (calls : List (List PlacedCall)) (place other : Place) (process also : ℕ) (cycle too : List ℕ)
    → IsToldCycle calls place process cycle → IsToldCycle calls other also too
    → unguarded_at place process cycle ≡ unguarded_at other also too
cycle_told_once calls place other process also cycle too one two =
    same_cycle place other process also cycle too
    (same_Some place other (sym one.placed ∙ ap (λ (n : ℕ). place_there calls n one.position) same.0
    ∙ ap (place_there calls also) same.1 ∙ two.placed))
    same.0
    (kept_cycle_is_one (map numbers_in calls) also two.position cycle too
    (subst (λ (n : ℕ). IsKeptCycle (map numbers_in calls) n two.position cycle) same.0
    (subst (λ (i : ℕ). IsKeptCycle (map numbers_in calls) process i cycle) same.1 one.kept)) two.kept)
  where
    same : (process ≡ also) × (one.position ≡ two.position)
    same = first_is_one (map numbers_in calls) process also one.position two.position one.first two.first

-- a cycle of what is kept is none of a guarded specification
cycle_of : (kept : Spec) (process position : ℕ) → LiesOnCycle (call_graph_of kept.processes.items) process position
    → CallsHaveCycle (call_graph_of kept.processes.items)
cycle_of kept process position on = (
  process,
  (
    length on.positions,
    way_of_leads (call_graph_of kept.processes.items) process (position ∷ on.positions) on.way process on.leads,
  ),
)

module _ (data_ : Data) (tree : WrittenSpecification) (spec : Specification) where
  abbrev calls_all : List (List PlacedCall)
  calls_all = calls_by spec (text_places (without_items tree))

  calls_are_told : (kept : Spec) → KeepsSpecification data_ tree spec kept → map seen_by kept.processes.items ≡ calls_all
  calls_are_told kept keeps =
      sym (calls_are_by kept) ∙ ap (λ (s : Specification). calls_by s (places_of kept)) keeps.same ∙ ap (calls_by spec) keeps.places

  graph_told : (kept : Spec) → KeepsSpecification data_ tree spec kept → call_graph_of kept.processes.items ≡ map numbers_in calls_all
  graph_told kept keeps =
      sym (graph_seen kept.processes.items) ∙ ap (λ (calls : List (List PlacedCall)). map numbers_in calls) (calls_are_told kept keeps)

  cycle_told : (kept : Spec) (at : code.Place) (process : ℕ) (cycle : List ℕ) → KeepsSpecification data_ tree spec kept
      → IsUnguarded kept at process cycle → IsToldCycle calls_all (text_place_of at) process cycle
  cycle_told kept at process cycle keeps is = record {
    position = is.position;
    first = subst (λ (g : List (List ℕ)). IsFirstOnCycle g process is.position) (graph_told kept keeps) is.first;
    kept = subst (λ (g : List (List ℕ)). IsKeptCycle g process is.position cycle) (graph_told kept keeps) is.kept;
    placed =
        ap (λ (calls : List (List PlacedCall)). place_there calls process is.position) (sym (calls_are_told kept keeps))
        ∙ site_placed kept process is.position at is.stands;
  }

  cycle_of_text : (place : Place) (process : ℕ) (cycle : List ℕ) → Cyclic data_ tree spec (unguarded_at place process cycle)
      → IsToldCycle calls_all place process cycle
  cycle_of_text place process cycle is =
      subst (λ (p : Place). IsToldCycle calls_all p process cycle) is.3 (cycle_told is.0 is.1 process cycle is.2 is.4)

  guarded_or_cyclic : (b : Specification) (fault : RecursionFault) → Guarded spec b → Cyclic data_ tree spec fault → ⊥
  guarded_or_cyclic b (unguarded_at place process cycle) guarded is =
      not_guarded is.0.processes.items (cycle_of is.0 process is.4.position is.4.first.on_cycle)
      (subst (λ (s : Specification). IsGuarded s.processes) (sym is.2.same) guarded.1)

  cyclic_once : (fault other : RecursionFault) → Cyclic data_ tree spec fault → Cyclic data_ tree spec other → fault ≡ other
  cyclic_once (unguarded_at place process cycle) (unguarded_at other also too) is same =
      cycle_told_once calls_all place other process also cycle too (cycle_of_text place process cycle is)
      (cycle_of_text other also too same)

  pub ranks_decided : IsDecided (Guarded spec) (Cyclic data_ tree spec)
  ranks_decided = record {
    one_value = λ b c is also. is.0 ∙ sym also.0;
    not_both = guarded_or_cyclic;
    one_fault = cyclic_once;
  }

pub ranks_are_decided : RanksAreDecided
ranks_are_decided data_ tree spec = ranks_decided data_ tree spec
