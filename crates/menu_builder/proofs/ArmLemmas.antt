-- Where parts below binders and bodies of processes are placed, and what is less to list in them.
use Rattle.std.proofs.Common.{◌≡◌, ◌<◌, ◌≤◌, ℕ, zero, suc, ◌+◌, ◌*◌, max, List, [], ◌∷◌, ◌++◌, map, length, get_or, slice_get, Some, refl, ap, sym, ◌∙◌, subst, arith}
use Rattle.std.specs.Prelude.{Vec}
use Rattle.std.specs.declared.alloc.Global.{Global}
use Rattle.lotos_base.specs.declared.places.Place.{Place}
use Rattle.lotos_base.specs.Signature.{IsSort, Signature}
use Rattle.lotos_base.specs.Term.{Term}
use Rattle.behaviour_semantics.specs.Behaviour as plain
use Rattle.behaviour_semantics.specs.Behaviour.{Behaviour, let_be, choose_value, par_gate, call, relabel, Relabelling, SynchronisationSet, let_variables, let_terms}
use Rattle.behaviour_semantics.specs.Guardedness.{unguarded_calls}
use Rattle.behaviour_semantics.specs.Label.{under}
use Rattle.behaviour_semantics.specs.WellFormed.{Every}
use Rattle.sort_terms.specs.EquationView.{variable_of}
use Rattle.sort_terms.specs.ProfiledTerm.{IsOf, ProfiledTerm, profiled_variable}
use Rattle.sort_terms.specs.SortedView.{profiled_in}
use Rattle.sort_terms.specs.declared.equations.Variable as code_variable
use Rattle.sort_terms.specs.declared.sorted.Sorted.{Sorted}
use Rattle.term_match.specs.ProfiledInstance.{bare_pairs}
use Rattle.behaviour_tree.specs.BehaviourTerms.{let_profile, profiles_in}
use Rattle.behaviour_tree.specs.BehaviourView.{behaviour_of, let_of}
use Rattle.behaviour_tree.specs.Over.{AreTermsOf}
use Rattle.behaviour_tree.specs.declared.behaviours.Beh.{Beh, Stop, Exit, Action', Inner', Guard', Choice', Parallel', Hide', Enable', Disable', Let', ChooseValue', ChooseGate', ParGate', Call}
use Rattle.draft_parts.specs.HandedOn.{Draft}
use Rattle.draft_parts.specs.Environments.{ArePairsOf}
use Rattle.draft_parts.specs.BelowLaws.{binder_pairs}
use Rattle.menu_builder.specs.Placed.{AreDraftsPlaced, Basis, IsPlaced, Position, StandsAt}
use Rattle.menu_builder.proofs.CallLemmas.{listed_form, placed_form}
use Rattle.menu_builder.proofs.EffortLemmas.{above_bodies, above_ranks, effort, less_by, size}
use Rattle.menu_builder.proofs.PlaceLemmas.{call_part, let_part, par_part, value_part}

module _ (basis : Basis) (first : ℕ) (pairs : List (ℕ × ProfiledTerm)) where
  pub let_placed : (bindings : List (code_variable.Variable × Sorted)) (b : Behaviour) (terms : List ProfiledTerm)
      (inner : List (ℕ × ProfiledTerm))
      → IsPlaced basis first (let_be (map let_of bindings) b) (map let_profile bindings ++ terms) pairs
      → bare_pairs inner
      ≡ binder_pairs basis.canon (let_variables (map let_of bindings)) (let_terms (map let_of bindings)) (bare_pairs pairs)
      ++ bare_pairs pairs
      → (ArePairsOf basis.data_.signature pairs → ArePairsOf basis.data_.signature inner) → IsPlaced basis first b terms inner
  let_placed bindings b terms inner p is of_signature = record {
    at = record { base = p.at.base; next = p.at.next; scope = let_variables (map let_of bindings) ++ p.at.scope };
    numbered = p.numbered;
    stands = let_part basis p.at pairs bindings b terms inner p.stands is (of_signature p.stands.values);
  }

  pub value_placed : (x : code_variable.Variable) (b : Behaviour) (terms : List ProfiledTerm) (inner : List (ℕ × ProfiledTerm))
      (next : ℕ) → IsPlaced basis first (choose_value (variable_of x) b) terms pairs
      → inner ≡ (x.number, profiled_variable first x.sort) ∷ pairs → next ≡ suc first → IsPlaced basis next b terms inner
  value_placed x b terms inner next p is later = record {
    at = record { base = p.at.base; next = suc p.at.next; scope = variable_of x ∷ p.at.scope };
    numbered = (let same : first ≡ p.at.base + p.at.next = p.numbered in omega arith);
    stands = value_part basis p.at pairs first x b terms inner p.numbered p.stands is;
  }

  pub call_placed : (number : ℕ) (gates : List ℕ) (arguments : List Term) (process : plain.Process)
      (terms others : List ProfiledTerm) (inner : List (ℕ × ProfiledTerm)) → IsPlaced basis first (call number gates arguments) terms pairs
      → slice_get basis.specification.processes number ≡ Some process
      → bare_pairs inner ≡ binder_pairs basis.canon process.parameters arguments (bare_pairs pairs)
      → ArePairsOf basis.data_.signature inner → AreTermsOf basis.data_.signature others → IsPlaced basis first process.body others inner
  call_placed number gates arguments process terms others inner p found is values k = record {
    at = record { base = p.at.base; next = p.at.next; scope = process.parameters };
    numbered = p.numbered;
    stands = call_part basis p.at pairs number gates arguments process terms others inner p.stands found is values k;
  }

-- the member at an index
pub every_at : {X : Type 0} (P : X → Type 0) (items : List X) (i : ℕ) (x : X) → i < length items → x ≡ get_or items i x → Every P items
    → P x
every_at P [] i x within is h = absurd (let never : i < 0 = within in omega arith)
every_at P (y ∷ items) zero x within is h = subst P (sym is) h.0
every_at P (y ∷ items) (suc i) x within is h = every_at P items i x (omega arith) is h.1

-- ---- What is less to list.
-- a part of a behaviour with one part that moves, whatever the form
pub part_less : (rank : ℕ → ℕ) (processes : List plain.Process) (b : Behaviour)
    → effort rank processes b < above_ranks rank (unguarded_calls b) * above_bodies processes + suc (size b)
part_less rank processes b =
    let same : above_ranks rank (unguarded_calls b) * above_bodies processes
    ≤ above_ranks rank (unguarded_calls b) * above_bodies processes = omega arith in
    let less : size b < suc (size b) = omega arith in
    less_by _ _ (size b) (suc (size b)) same less

-- ---- Twice as much, one more and two more.
pub even_below_odd : (x y : ℕ) → x ≡ y → 2 * x < 2 * y + 1
even_below_odd x y same = omega arith

pub odd_below_even : (x y : ℕ) → x < y → 2 * x + 1 < 2 * y
odd_below_even x y less = omega arith

pub above_below_odd : (x y : ℕ) → x < y → 2 * x + 2 < 2 * y + 1
above_below_odd x y less = omega arith

less_equal : (x y : ℕ) → x < y → x ≤ y
less_equal x y less = omega arith

pub odd_below_above : (x y : ℕ) → x ≤ y → 2 * x + 1 < 2 * y + 2
odd_below_above x y less = omega arith

-- ---- Arms: a behaviour of the code with its form, and a part of it that is read from its box.
module _ (basis : Basis) (first : ℕ) (pairs : List (ℕ × ProfiledTerm)) (b form : Beh) (is : b ≡ form) (part read : Beh)
    (e : read ≡ part) where
  -- a part in the same scope is placed with its whole
  pub placed_arm : IsPlaced basis first (behaviour_of b) (profiles_in b) pairs
      → ((at : Position) → StandsAt basis at (behaviour_of form) (profiles_in form) pairs
      → StandsAt basis at (behaviour_of part) (profiles_in part) pairs)
      → IsPlaced basis first (behaviour_of read) (profiles_in read) pairs
  placed_arm p step =
      let q : IsPlaced basis first (behaviour_of form) (profiles_in form) pairs = placed_form basis first pairs b form is p in
      placed_form basis first pairs part read (sym e) (record { at = q.at; numbered = q.numbered; stands = step q.at q.stands })

-- what is read from a box is listed as its value is
pub listed_read : (basis : Basis) (first : ℕ) (pairs : List (ℕ × ProfiledTerm)) (part read : Beh) → read ≡ part → (made : List Draft)
    → AreDraftsPlaced basis first (behaviour_of read) (profiles_in read) pairs made
    → AreDraftsPlaced basis first (behaviour_of part) (profiles_in part) pairs made
listed_read basis first pairs part read e made h = listed_form basis first pairs part read (sym e) made h

-- the part of a gate `par` is less to list than its form, and so is the call of a process
pub par_arm_less : (rank : ℕ → ℕ) (processes : List plain.Process) (b form part read : Beh) → b ≡ form → read ≡ part
    → effort rank processes (behaviour_of part) < effort rank processes (behaviour_of form)
    → 2 * effort rank processes (behaviour_of read) + 2 < 2 * effort rank processes (behaviour_of b) + 1
par_arm_less rank processes b form part read is e less =
    above_below_odd _ _
    (subst (λ (x : Beh). effort rank processes (behaviour_of read) < effort rank processes (behaviour_of x)) (sym is)
    (subst (λ (y : Beh). effort rank processes (behaviour_of y) < effort rank processes (behaviour_of form)) (sym e) less))

plus_none : (x : ℕ) → x + 0 ≡ x
plus_none x = omega arith

most : (x : ℕ) → max (suc x) 0 ≡ suc x
most x = omega arith

pub call_effort : (rank : ℕ → ℕ) (processes : List plain.Process) (number : ℕ) (gates : List ℕ) (arguments : List Term)
    → suc (rank number) * above_bodies processes ≡ effort rank processes (call number gates arguments)
call_effort rank processes number gates arguments =
    sym (plus_none (max (suc (rank number)) 0 * above_bodies processes)
    ∙ ap (λ (k : ℕ). k * above_bodies processes) (most (rank number)))

pub call_arm_less : (rank : ℕ → ℕ) (processes : List plain.Process) (b : Beh) (number : ℕ) (gates : List ℕ) (arguments : List Term)
    → behaviour_of b ≡ call number gates arguments
    → 2 * (suc (rank number) * above_bodies processes) < 2 * effort rank processes (behaviour_of b) + 1
call_arm_less rank processes b number gates arguments is =
    even_below_odd _ _
    (call_effort rank processes number gates arguments ∙ ap (λ (c : Behaviour). effort rank processes c) (sym is))

-- the body of a process below a gate `par` of its calls
pub par_call_less : (rank : ℕ → ℕ) (processes : List plain.Process) (b : Beh) (number : ℕ) (gates : List ℕ) (arguments : List Term)
    (n : ℕ) → behaviour_of b ≡ call number gates arguments → n < suc (rank number) * above_bodies processes
    → 2 * n + 1 < 2 * effort rank processes (behaviour_of b) + 2
par_call_less rank processes b number gates arguments n is less =
    odd_below_above n _
    (less_equal _ _ (subst (λ (k : ℕ). n < k)
    (call_effort rank processes number gates arguments ∙ ap (λ (c : Behaviour). effort rank processes c) (sym is)) less))

-- what is left
pub left_of : (x y n : ℕ) → x < y → y ≡ n → x < n
left_of x y n less same = subst (λ (k : ℕ). x < k) same less

-- Three times as much and one more, so that the gathering of choices has room between.
pub left_in : (x y n : ℕ) → x < y → 3 * y + 1 ≡ n → 3 * x + 1 < n
left_in x y n less same = omega arith

pub gather_left : (x n : ℕ) → 3 * x + 1 ≡ n → 3 * x < n
gather_left x n same = omega arith

pub side_left : (x y n : ℕ) → x < y → 3 * (2 * y) ≡ n → 3 * (2 * x + 1) + 2 < n
side_left x y n less same = omega arith

-- ---- A gate `par` by the form of its part.
module _ (basis : Basis) (first : ℕ) (pairs : List (ℕ × ProfiledTerm)) (g : ℕ) (gates : List ℕ) (meet : SynchronisationSet) (b form : Beh)
    (is : b ≡ form) where
  pub par_placed_form : IsPlaced basis first (par_gate g gates meet (behaviour_of b)) (profiles_in b) pairs
      → IsPlaced basis first (par_gate g gates meet (behaviour_of form)) (profiles_in form) pairs
  par_placed_form p = subst (λ (x : Beh). IsPlaced basis first (par_gate g gates meet (behaviour_of x)) (profiles_in x) pairs) is p

  pub par_listed_form : (made : List Draft)
      → AreDraftsPlaced basis first (par_gate g gates meet (behaviour_of form)) (profiles_in form) pairs made
      → AreDraftsPlaced basis first (par_gate g gates meet (behaviour_of b)) (profiles_in b) pairs made
  par_listed_form made h =
      subst (λ (x : Beh). AreDraftsPlaced basis first (par_gate g gates meet (behaviour_of x)) (profiles_in x) pairs made) (sym is) h

-- the part of a gate `par` is placed with it
pub par_part_placed : (basis : Basis) (first : ℕ) (pairs : List (ℕ × ProfiledTerm)) (g : ℕ) (gates : List ℕ) (meet : SynchronisationSet)
    (b : Behaviour) (terms : List ProfiledTerm) → IsPlaced basis first (par_gate g gates meet b) terms pairs
    → IsPlaced basis first b terms pairs
par_part_placed basis first pairs g gates meet b terms p =
    record { at = p.at; numbered = p.numbered; stands = par_part basis p.at pairs g gates meet b terms p.stands }

-- below a relabelling all but `stop` and calls are relabelled as they are
pub other_relabels : (b : Beh) → (b ≡ Stop → ⊥)
    → ((place : Place) (process : ℕ) (gates : Vec ℕ Global) (values : Vec Sorted Global) → b ≡ Call place process gates values → ⊥)
    → (renamed : Relabelling) → under (behaviour_of b) renamed ≡ relabel renamed (behaviour_of b)
other_relabels Stop still other renamed = absurd (still refl)
other_relabels (Exit results) still other renamed = refl
other_relabels (Action' g offers test _ next) still other renamed = refl
other_relabels (Inner' _ next) still other renamed = refl
other_relabels (Guard' test _ next) still other renamed = refl
other_relabels (Choice' place _ left _ right) still other renamed = refl
other_relabels (Parallel' place meet _ left _ right) still other renamed = refl
other_relabels (Hide' gates _ next) still other renamed = refl
other_relabels (Enable' place _ left variables _ right) still other renamed = refl
other_relabels (Disable' place _ left _ right) still other renamed = refl
other_relabels (Let' bindings _ next) still other renamed = refl
other_relabels (ChooseValue' x _ next) still other renamed = refl
other_relabels (ChooseGate' g gates _ next) still other renamed = refl
other_relabels (ParGate' g gates meet _ next) still other renamed = refl
other_relabels (Call place process gates values) still other renamed = absurd (other place process gates values refl)

-- ---- The leaf of a value choice.
pub value_sort : (basis : Basis) (first : ℕ) (pairs : List (ℕ × ProfiledTerm)) (x : code_variable.Variable) (b : Behaviour)
    (terms : List ProfiledTerm) → IsPlaced basis first (choose_value (variable_of x) b) terms pairs
    → IsSort basis.data_.signature x.sort
value_sort basis first pairs x b terms p = p.stands.below.formed.0

pub leaf_of : (signature : Signature) (leaf : Sorted) (number sort : ℕ) → profiled_in leaf ≡ profiled_variable number sort
    → IsSort signature sort → IsOf signature (profiled_in leaf)
leaf_of signature leaf number sort e h = subst (λ (t : ProfiledTerm). IsOf signature t) (sym e) h
