-- Nodes under relabellings and side by side.
use Rattle.std.proofs.Common.{◌≡◌, ◌<◌, ◌+◌, ◌++◌, ℕ, suc, List, [], ◌∷◌, map, length, drop, get_or, Bool, true, false, cond, append_assoc, Option, None, Some, Vec, Global, refl, ap, sym, ◌∙◌, subst, add-one}
use Rattle.std.specs.declared.rc.Rc.{Rc}
use Rattle.std.specs.Prelude.{filter, not}
use Rattle.std.proofs.Math.Seq.{drop-cons}
use Rattle.std.proofs.lemmas.List.{append-nil}
use Rattle.std.proofs.lemmas.Option.{none-some, same_Some}
use Rattle.lotos_base.specs.Signature.{Signature}
use Rattle.lotos_base.specs.Term.{variable}
use Rattle.lotos_base.specs.Sorting.{IsGround}
use Rattle.lotos_base.specs.Equation.{Variable}
use Rattle.lotos_base.specs.Substitution.{Substitution, binding, is_listed}
use Rattle.behaviour_semantics.specs.Behaviour.{Behaviour, Relabelling, Specification, SynchronisationSet, call, parallel, relabel}
use Rattle.behaviour_semantics.specs.Label.{formals_of, under}
use Rattle.behaviour_semantics.specs.Replacement.{with_values}
use Rattle.behaviour_semantics.specs.Rule.{side_by_side}
use Rattle.behaviour_semantics.specs.WellFormed.{AreTermsIn, Every, IsClosedBehaviour}
use Rattle.behaviour_semantics.proofs.ClosedTargets.{ground_of}
use Rattle.behaviour_semantics.proofs.ReplacementLemmas.{unchanged}
use Rattle.lotos_base.specs.declared.places.Place.{Place}
use Rattle.sort_terms.specs.ProfiledTerm.{ProfiledTerm}
use Rattle.sort_terms.specs.SortedView.{term_in}
use Rattle.sort_terms.specs.declared.sorted.Sorted.{Sorted}
use Rattle.behaviour_tree.specs.BehaviourView.{behaviour_of, terms_of}
use Rattle.behaviour_tree.specs.Closed.{IsClosedBy}
use Rattle.behaviour_tree.specs.Over.{AreTermsOf}
use Rattle.behaviour_tree.specs.StateView.{environment_of, node_profiles, pair_profile, stands_for}
use Rattle.behaviour_tree.specs.declared.behaviours.Beh as beh
use Rattle.behaviour_tree.specs.declared.states.Node.{Node, Stop, Part, Call, Parallel', Hide', Enable', Disable', Relabel, Relabel'}
use Rattle.behaviour_instances.proofs.NothingLemmas.{nothing_put}
use Rattle.step_parts.specs.Beside.{HasClosedRest, StandsBeside, rest_profiles}
use Rattle.step_parts.specs.TargetNodes.{HasClosedParts, is_lacking, stands_apart}
use Rattle.step_parts.proofs.BinderLemmas.{nothing_free}

-- ---- Parts without values

pub no_values : (pairs : List (ℕ × Sorted)) (b : Behaviour) → pairs ≡ [] → with_values (binding (environment_of pairs)) b ≡ b
no_values pairs b e =
    ap (λ (ps : List (ℕ × Sorted)). with_values (binding (environment_of ps)) b) e
    ∙ (ap (λ (v : Substitution). with_values v b) nothing_put ∙ unchanged b)

pub no_pair_terms : (signature : Signature) (terms : List ProfiledTerm) (pairs : List (ℕ × Sorted)) → pairs ≡ []
    → AreTermsOf signature terms → AreTermsOf signature (terms ++ map pair_profile pairs)
no_pair_terms signature terms pairs e h =
    subst (AreTermsOf signature)
    (sym (ap (λ (ps : List (ℕ × Sorted)). terms ++ map pair_profile ps) e ∙ append-nil terms)) h

pub no_pair_closes : (signature : Signature) (specification : Specification) (pairs : List (ℕ × Sorted)) (b : Behaviour) → pairs ≡ []
    → IsClosedBehaviour signature specification b → IsClosedBy pairs b
no_pair_closes signature specification pairs b e h =
    subst (λ (ps : List (ℕ × Sorted)). IsClosedBy ps b) (sym e)
    (nothing_free signature (length specification.gate_names) specification.processes b h)

pub first_terms : (signature : Signature) (first second : List ProfiledTerm) → AreTermsOf signature (first ++ second)
    → AreTermsOf signature first
first_terms signature [] second h = tt
first_terms signature (t ∷ first) second h = (h.0, first_terms signature first second h.1)

pub second_terms : (signature : Signature) (first second : List ProfiledTerm) → AreTermsOf signature (first ++ second)
    → AreTermsOf signature second
second_terms signature [] second h = h
second_terms signature (t ∷ first) second h = second_terms signature first second h.1

-- ---- Calls
ground_terms : (signature : Signature) (variables : List Variable) (values : List Sorted)
    → AreTermsIn signature [] variables (terms_of values) → Every (λ (value : Sorted). IsGround (term_in value)) values
ground_terms signature variables [] h = tt
ground_terms signature [] (v ∷ values) h = absurd h
ground_terms signature (x ∷ variables) (v ∷ values) h =
    ((ground_of signature x.sort (term_in v) h.0).ground, ground_terms signature variables values h.1)

-- the values of a closed call are ground
pub call_ground : (signature : Signature) (specification : Specification) (process : ℕ) (gates : List ℕ) (values : List Sorted)
    → IsClosedBehaviour signature specification (call process gates (terms_of values))
    → Every (λ (value : Sorted). IsGround (term_in value)) values
call_ground signature specification process gates values h = ground_terms signature h.1.process.parameters values h.1.values

-- ---- Relabellings
-- what stays apart is relabelled
module _ (values : Substitution) (pairs : Relabelling) where
  pub apart_relabelled : (b : beh.Beh) → stands_apart b ≡ true
      → relabel pairs (with_values values (behaviour_of b)) ≡ under (with_values values (behaviour_of b)) pairs
  apart_relabelled beh.Stop e = absurd (cc e)
  apart_relabelled (beh.Exit results) e = refl
  apart_relabelled (beh.Action' _ _ _ _ _) e = refl
  apart_relabelled (beh.Inner' _ _) e = refl
  apart_relabelled (beh.Guard' _ _ _) e = refl
  apart_relabelled (beh.Choice' _ _ _ _ _) e = refl
  apart_relabelled (beh.Parallel' _ _ _ _ _ _) e = refl
  apart_relabelled (beh.Hide' _ _ _) e = refl
  apart_relabelled (beh.Enable' _ _ _ _ _ _) e = refl
  apart_relabelled (beh.Disable' _ _ _ _ _) e = refl
  apart_relabelled (beh.Let' _ _ _) e = refl
  apart_relabelled (beh.ChooseValue' _ _ _) e = refl
  apart_relabelled (beh.ChooseGate' _ _ _ _) e = refl
  apart_relabelled (beh.ParGate' _ _ _ _ _) e = refl
  apart_relabelled (beh.Call _ _ _ _) e = absurd (cc e)

-- what is neither `stop` nor a call stays apart
pub apart_other : (b : beh.Beh) → (b ≡ beh.Stop → ⊥)
    → ((place : Place) (process : ℕ) (gates : Vec ℕ Global) (values : Vec Sorted Global) → b ≡ beh.Call place process gates values → ⊥)
    → true ≡ stands_apart b
apart_other beh.Stop h k = absurd (h refl)
apart_other (beh.Exit results) h k = refl
apart_other (beh.Action' _ _ _ _ _) h k = refl
apart_other (beh.Inner' _ _) h k = refl
apart_other (beh.Guard' _ _ _) h k = refl
apart_other (beh.Choice' _ _ _ _ _) h k = refl
apart_other (beh.Parallel' _ _ _ _ _ _) h k = refl
apart_other (beh.Hide' _ _ _) h k = refl
apart_other (beh.Enable' _ _ _ _ _ _) h k = refl
apart_other (beh.Disable' _ _ _ _ _) h k = refl
apart_other (beh.Let' _ _ _) h k = refl
apart_other (beh.ChooseValue' _ _ _) h k = refl
apart_other (beh.ChooseGate' _ _ _ _) h k = refl
apart_other (beh.ParGate' _ _ _ _ _) h k = refl
apart_other (beh.Call place process gates values) h k = absurd (k place process gates values refl)

pub other_relabelled : (pairs : Relabelling) (b : beh.Beh) → stands_apart b ≡ true
    → relabel pairs (behaviour_of b) ≡ under (behaviour_of b) pairs
other_relabelled pairs b e =
    ap (relabel pairs) (sym (unchanged (behaviour_of b)))
    ∙ (apart_relabelled variable pairs b e ∙ ap (λ (c : Behaviour). under c pairs) (unchanged (behaviour_of b)))

-- so a node that is none of those with targets of their own
pub other_node : (pairs : Relabelling) (node : Node) → (node ≡ Stop → ⊥)
    → ((b : Rc beh.Beh Global) (e : Vec (ℕ × Sorted) Global) → node ≡ Part b e → ⊥)
    → ((process : ℕ) (gates : Vec ℕ Global) (values : Vec Sorted Global) → node ≡ Call process gates values → ⊥)
    → ((inner : Vec (ℕ × ℕ) Global) (target : Rc Node Global) → node ≡ Relabel inner target → ⊥)
    → relabel pairs (stands_for node) ≡ under (stands_for node) pairs
other_node pairs Stop s p c r = absurd (s refl)
other_node pairs (Part b e) s p c r = absurd (p b e refl)
other_node pairs (Call process gates values) s p c r = absurd (c process gates values refl)
other_node pairs (Parallel' _ _ _ _ _) s p c r = refl
other_node pairs (Hide' _ _ _) s p c r = refl
other_node pairs (Enable' _ _ _ _ _) s p c r = refl
other_node pairs (Disable' _ _ _ _) s p c r = refl
other_node pairs (Relabel' inner at target) s p c r =
    absurd (r inner (record { ptr = at.ptr; value = target }) refl)

-- the formal gates that a relabelling has
pub not_lacking : (first : Relabelling) (pair : ℕ × ℕ) (rest : Relabelling) → is_listed (formals_of first) pair.0 ≡ true
    → filter (is_lacking first) rest ≡ filter (is_lacking first) (pair ∷ rest)
not_lacking first pair rest e =
    ap (λ (b : Bool). cond (not b) (pair ∷ filter (is_lacking first) rest) (filter (is_lacking first) rest)) (sym e)

pub one_lacking : (first : Relabelling) (pair : ℕ × ℕ) (old new rest : Relabelling) → is_listed (formals_of first) pair.0 ≡ false
    → new ≡ old ++ (pair ∷ []) → new ++ filter (is_lacking first) rest ≡ old ++ filter (is_lacking first) (pair ∷ rest)
one_lacking first pair old new rest e is =
    ap (λ (xs : Relabelling). xs ++ filter (is_lacking first) rest) is
    ∙ (append_assoc old (pair ∷ []) (filter (is_lacking first) rest)
    ∙ ap (λ (b : Bool). old ++ cond (not b) (pair ∷ filter (is_lacking first) rest) (filter (is_lacking first) rest)) (sym e))

-- ---- Side by side
module _ (meet : SynchronisationSet) (f : ℕ → Behaviour) (gates : List ℕ) where
  -- one more, before those behind it
  pub one_beside : (k j gate : ℕ) (node made : Node) (rest : Option Node) → k < length gates → j ≡ k + 1 → gate ≡ get_or gates k gate
      → stands_for node ≡ f gate
      → ((behaviours : List Behaviour) → StandsBeside meet rest behaviours → StandsBeside meet (Some made) (stands_for node ∷ behaviours))
      → StandsBeside meet rest (map f (drop j gates)) → StandsBeside meet (Some made) (map f (drop k gates))
  one_beside k j gate node made rest within next is stands step before =
      subst (λ (bs : List Behaviour). StandsBeside meet (Some made) bs)
      (ap (λ (b : Behaviour). b ∷ map f (drop (suc k) gates)) stands ∙ ap (map f) (sym here))
      (step (map f (drop (suc k) gates))
      (subst (λ (n : ℕ). StandsBeside meet rest (map f (drop n gates))) (next ∙ add-one k) before))
    where
      here : drop k gates ≡ gate ∷ drop (suc k) gates
      here = drop-cons gates k gate within ∙ ap (λ (g : ℕ). g ∷ drop (suc k) gates) (sym is)

pub none_beside : (meet : SynchronisationSet) (rest : Option Node) (node : Node) (behaviours : List Behaviour) → rest ≡ None
    → StandsBeside meet rest behaviours → stands_for node ≡ side_by_side meet (stands_for node ∷ behaviours)
none_beside meet None node behaviours e h = sym (ap (λ (bs : List Behaviour). side_by_side meet (stands_for node ∷ bs)) h)
none_beside meet (Some n) node behaviours e h = absurd (cc e)

pub some_beside : (meet : SynchronisationSet) (rest : Option Node) (n node : Node) (behaviours : List Behaviour) (made : Behaviour)
    → rest ≡ Some n → StandsBeside meet rest behaviours → made ≡ parallel meet (stands_for node) (stands_for n)
    → made ≡ side_by_side meet (stands_for node ∷ behaviours)
some_beside meet None n node behaviours made e h is = absurd (none-some n e)
some_beside meet (Some m) n node [] made e h is = absurd h
some_beside meet (Some m) n node (b ∷ behaviours) made e h is =
    is ∙ (ap (λ (k : Node). parallel meet (stands_for node) (stands_for k)) (sym (same_Some m n e))
    ∙ ap (parallel meet (stands_for node)) h)

-- all of them
pub whole_stands : (meet : SynchronisationSet) (rest : Option Node) (result : Node) (behaviours : List Behaviour)
    → ((whole : Node) → rest ≡ Some whole → result ≡ whole) → (rest ≡ None → result ≡ Stop) → StandsBeside meet rest behaviours
    → stands_for result ≡ side_by_side meet behaviours
whole_stands meet None result behaviours some none h = ap stands_for (none refl) ∙ sym (ap (side_by_side meet) h)
whole_stands meet (Some node) result [] some none h = absurd h
whole_stands meet (Some node) result (b ∷ behaviours) some none h = ap stands_for (some node refl) ∙ h

pub whole_terms : (signature : Signature) (rest : Option Node) (result : Node)
    → ((whole : Node) → rest ≡ Some whole → result ≡ whole) → (rest ≡ None → result ≡ Stop)
    → AreTermsOf signature (rest_profiles rest) → AreTermsOf signature (node_profiles result)
whole_terms signature None result some none h = subst (λ (n : Node). AreTermsOf signature (node_profiles n)) (sym (none refl)) tt
whole_terms signature (Some node) result some none h =
    subst (λ (n : Node). AreTermsOf signature (node_profiles n)) (sym (some node refl)) h

pub whole_closed : (rest : Option Node) (result : Node) → ((whole : Node) → rest ≡ Some whole → result ≡ whole)
    → (rest ≡ None → result ≡ Stop) → HasClosedRest rest → HasClosedParts result
whole_closed None result some none h = subst (λ (n : Node). HasClosedParts n) (sym (none refl)) tt
whole_closed (Some node) result some none h = subst (λ (n : Node). HasClosedParts n) (sym (some node refl)) h
