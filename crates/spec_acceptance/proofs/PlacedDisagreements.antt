-- The functionality of a behaviour and its disagreements with their places, told by the plain behaviour, the signature of its
-- terms and the places that stay on it.
use Rattle.std.proofs.Common.{refl, ap, sym, ◌∙◌, ◌≡◌, ℕ, List, [], ◌∷◌, ◌++◌, map, append_assoc, Option, None, Some, slice_get, zero, suc, Bool, true, false, if◌then◌else◌}
use Rattle.std.proofs.lemmas.List.{map-append}
use Rattle.lotos_base.specs.Signature.{Signature, Operation}
use Rattle.lotos_base.specs.Term.{Term, variable, node}
use Rattle.lotos_base.specs.Equation.{Place, Variable as PlainVariable}
use Rattle.lotos_base.specs.WrittenView.{text_place_of}
use Rattle.lotos_base.specs.declared.places.Place as code
use Rattle.sort_terms.specs.ProfiledTerm.{ProfiledTerm, profiled_variable, profiled_node, bare, head_sort, IsOf}
use Rattle.sort_terms.specs.SortedView.{profiled_in, term_in}
use Rattle.sort_terms.specs.declared.equations.Variable.{Variable}
use Rattle.sort_terms.specs.declared.sorted.Sorted.{Sorted}
use Rattle.behaviour_semantics.specs.Behaviour as plain
use Rattle.behaviour_semantics.specs.Behaviour.{Behaviour, stop, exit_with, action, inner_action, guard, choice, parallel, hide, enable, disable, let_be, choose_value, choose_gate, par_gate, call, relabel, ExitValue, exit_value, any_of}
use Rattle.behaviour_semantics.specs.WellFormed.{Every}
use Rattle.behaviour_semantics.proofs.EveryLemmas.{every_front, every_back}
use Rattle.behaviour_tree.specs.BehaviourTerms.{profiles_in, exit_profiles, joined, offer_profiles, option_profiles, test_profiles, let_profile}
use Rattle.behaviour_tree.specs.BehaviourView.{behaviour_of, exit_value_of, variables_of}
use Rattle.behaviour_tree.specs.DefinitionView.{functionality_of, process_of, specification_of}
use Rattle.behaviour_tree.specs.Over.{AreTermsOf, IsSpecOver}
use Rattle.behaviour_tree.specs.declared.behaviours.Beh.{Beh, Stop, Exit, Action', Inner', Guard', Choice', Parallel', Hide', Enable', Disable', Let', ChooseValue', ChooseGate', ParGate', Call}
use Rattle.behaviour_tree.specs.declared.behaviours.ExitValue as written
use Rattle.behaviour_tree.specs.declared.behaviours.ExitValue.TheVariants as value
use Rattle.behaviour_tree.specs.declared.definitions.Process.{Process}
use Rattle.behaviour_tree.specs.declared.definitions.Spec.{Spec}
use Rattle.static_scope.specs.HandedOn.{places_in}
use Rattle.static_scope.specs.KeptPlaces.{places_of_processes, places_of}
use Rattle.refusal_lines.specs.HandedOn.{Functionality, value_sort, variable_sort, declared_by, of_either, of_both, functionality, are_same}
use Rattle.refusal_lines.specs.HandedOn.{Disagreement, at_sign, disagreements, at_definition, of_definition, of_processes}
use Rattle.refusal_lines.specs.HandedOn.{all_disagreements}
use Rattle.spec_acceptance.proofs.PlacedCalls.{Taken, behind_one, first_of, taken, Tells}

-- ---- Sorts and functionalities

-- the sort that an operation gives
abbrev result_of : Option Operation → ℕ
result_of None = zero
result_of (Some operation) = operation.result

-- the sort of a term of the signature
abbrev sort_of_term : Signature → Term → ℕ
sort_of_term signature (variable n s) = s
sort_of_term signature (node f ts) = result_of (slice_get signature.operations f)

abbrev sort_of_value : Signature → ExitValue → ℕ
sort_of_value signature (exit_value t) = sort_of_term signature t
sort_of_value signature (any_of s) = s

term_sort : (signature : Signature) (t : ProfiledTerm) → IsOf signature t → sort_of_term signature (bare t) ≡ head_sort t
term_sort signature (profiled_variable n s) of = refl
term_sort signature (profiled_node f operation ts) of = ap result_of of.0

bare_term : (sorted : Sorted) → bare (profiled_in sorted) ≡ term_in sorted
bare_term sorted = refl

sorted_sort : (signature : Signature) (t : Sorted) → IsOf signature (profiled_in t) → sort_of_term signature (term_in t) ≡ t.sort
sorted_sort signature t of =
    ap (sort_of_term signature) (sym (bare_term t)) ∙ term_sort signature (profiled_in t) of ∙ t.headed

exit_sorts : (signature : Signature) (values : List written.ExitValue) → AreTermsOf signature (joined (map exit_profiles values))
    → map (sort_of_value signature) (map exit_value_of values) ≡ map value_sort values
exit_sorts signature [] of = refl
exit_sorts signature (value.Give t ∷ values) of =
    ap (λ (s : ℕ). s ∷ map (sort_of_value signature) (map exit_value_of values)) (sorted_sort signature t of.0)
    ∙ ap (λ (ss : List ℕ). t.sort ∷ ss) (exit_sorts signature values of.1)
exit_sorts signature (value.Any s ∷ values) of = ap (λ (ss : List ℕ). s ∷ ss) (exit_sorts signature values of)

-- the functionality that a plain process declares
abbrev plain_declared : Option plain.Process → Functionality
plain_declared None = None
plain_declared (Some process) = process.exit

declared_plainly : (processes : List Process) (n : ℕ) → plain_declared (slice_get (map process_of processes) n)
    ≡ declared_by (slice_get processes n)
declared_plainly [] n = refl
declared_plainly (p ∷ processes) zero = refl
declared_plainly (p ∷ processes) (suc n) = declared_plainly processes n

abbrev plain_functionality : Signature → List plain.Process → Behaviour → Functionality
plain_functionality signature processes stop = None
plain_functionality signature processes (exit_with results) = Some (map (sort_of_value signature) results)
plain_functionality signature processes (action g offers test b) = plain_functionality signature processes b
plain_functionality signature processes (inner_action b) = plain_functionality signature processes b
plain_functionality signature processes (guard test b) = plain_functionality signature processes b
plain_functionality signature processes (choice b c) =
    of_either (plain_functionality signature processes b) (plain_functionality signature processes c)
plain_functionality signature processes (parallel meet b c) =
    of_both (plain_functionality signature processes b) (plain_functionality signature processes c)
plain_functionality signature processes (hide gates b) = plain_functionality signature processes b
plain_functionality signature processes (enable b variables c) = plain_functionality signature processes c
plain_functionality signature processes (disable b c) =
    of_either (plain_functionality signature processes b) (plain_functionality signature processes c)
plain_functionality signature processes (let_be bindings b) = plain_functionality signature processes b
plain_functionality signature processes (choose_value x b) = plain_functionality signature processes b
plain_functionality signature processes (choose_gate g gates b) = plain_functionality signature processes b
plain_functionality signature processes (par_gate g gates meet b) = plain_functionality signature processes b
plain_functionality signature processes (call number gates arguments) = plain_declared (slice_get processes number)
plain_functionality signature processes (relabel pairs b) = plain_functionality signature processes b

either_of : (f g h k : Functionality) → f ≡ h → g ≡ k → of_either f g ≡ of_either h k
either_of f g h k one other = ap (λ (x : Functionality). of_either x g) one ∙ ap (of_either h) other

both_of : (f g h k : Functionality) → f ≡ h → g ≡ k → of_both f g ≡ of_both h k
both_of f g h k one other = ap (λ (x : Functionality). of_both x g) one ∙ ap (of_both h) other

module _ (signature : Signature) (processes : List Process) where
  abbrev Fits : ProfiledTerm → Type 0
  Fits t = IsOf signature t

  abbrev plainly : Behaviour → Functionality
  plainly b = plain_functionality signature (map process_of processes) b

  pub functions_are_told : (b : Beh) → AreTermsOf signature (profiles_in b) → plainly (behaviour_of b) ≡ functionality processes b
  functions_are_told Stop of = refl
  functions_are_told (Exit values) of = ap (λ (ss : List ℕ). Some ss) (exit_sorts signature values.items of)
  functions_are_told (Action' _ offers test _ next) of =
      functions_are_told next (every_back Fits (joined (map offer_profiles offers.items) ++ option_profiles test) (profiles_in next) of)
  functions_are_told (Inner' _ next) of = functions_are_told next of
  functions_are_told (Guard' test _ next) of = functions_are_told next (every_back Fits (test_profiles test) (profiles_in next) of)
  functions_are_told (Choice' _ _ left _ right) of =
      either_of (plainly (behaviour_of left)) (plainly (behaviour_of right)) (functionality processes left) (functionality processes right)
      (functions_are_told left (every_front Fits (profiles_in left) (profiles_in right) of))
      (functions_are_told right (every_back Fits (profiles_in left) (profiles_in right) of))
  functions_are_told (Parallel' _ _ _ left _ right) of =
      both_of (plainly (behaviour_of left)) (plainly (behaviour_of right)) (functionality processes left) (functionality processes right)
      (functions_are_told left (every_front Fits (profiles_in left) (profiles_in right) of))
      (functions_are_told right (every_back Fits (profiles_in left) (profiles_in right) of))
  functions_are_told (Hide' _ _ next) of = functions_are_told next of
  functions_are_told (Enable' _ _ left _ _ right) of =
      functions_are_told right (every_back Fits (profiles_in left) (profiles_in right) of)
  functions_are_told (Disable' _ _ left _ right) of =
      either_of (plainly (behaviour_of left)) (plainly (behaviour_of right)) (functionality processes left) (functionality processes right)
      (functions_are_told left (every_front Fits (profiles_in left) (profiles_in right) of))
      (functions_are_told right (every_back Fits (profiles_in left) (profiles_in right) of))
  functions_are_told (Let' bindings _ next) of =
      functions_are_told next (every_back Fits (map let_profile bindings.items) (profiles_in next) of)
  functions_are_told (ChooseValue' _ _ next) of = functions_are_told next of
  functions_are_told (ChooseGate' _ _ _ next) of = functions_are_told next of
  functions_are_told (ParGate' _ _ _ _ next) of = functions_are_told next of
  functions_are_told (Call _ process _ _) of = declared_plainly processes process

-- ---- Disagreements

-- a disagreement with its place in the text
abbrev pub PlacedDisagreement : Type 0
PlacedDisagreement = Place × Functionality × Functionality

abbrev pub placed_disagreement : Disagreement → PlacedDisagreement
placed_disagreement d = (text_place_of d.place, d.left, d.right)

abbrev pub seen_disagreements : List Disagreement → List PlacedDisagreement
seen_disagreements ds = map placed_disagreement ds

abbrev plain_at_sign : Place → Functionality → Functionality → List PlacedDisagreement
plain_at_sign place (Some ss) (Some ts) = if are_same ss ts then [] else (place, Some ss, Some ts) ∷ []
plain_at_sign place _ _ = []

unless : (same : Bool) (d : Disagreement)
    → (if same then [] else placed_disagreement d ∷ []) ≡ seen_disagreements (if same then [] else d ∷ [])
unless true d = refl
unless false d = refl

sign_told : (place : code.Place) (left right : Functionality)
    → plain_at_sign (text_place_of place) left right ≡ seen_disagreements (at_sign place left right)
sign_told place None right = refl
sign_told place (Some ss) None = refl
sign_told place (Some ss) (Some ts) = unless (are_same ss ts) (record { place = place; left = Some ss; right = Some ts })

-- two parts with a sign between them, whose disagreement comes behind those of the parts
abbrev signed : (Place → List PlacedDisagreement) → (List Place → Taken PlacedDisagreement) → (List Place → Taken PlacedDisagreement)
    → List Place → Taken PlacedDisagreement
signed sign left right ps = (
  (left ps).0 ++ (right (behind_one (left ps).1)).0 ++ sign (first_of (record { text = 0; line = 0; column = 0 }) (left ps).1),
  (right (behind_one (left ps).1)).1,
)

signed_tells : (sign : Place → List PlacedDisagreement) (left right : List Place → Taken PlacedDisagreement) (ls rs : List Place)
    (p : Place) (xs ys zs : List PlacedDisagreement) → sign p ≡ zs → Tells left ls xs → Tells right rs ys
    → Tells (signed sign left right) (ls ++ p ∷ rs) (xs ++ ys ++ zs)
signed_tells sign left right ls rs p xs ys zs at one other rest =
    ap (signed sign left right) (append_assoc ls (p ∷ rs) rest)
    ∙ ap (λ (t : Taken PlacedDisagreement). (
      t.0 ++ (right (behind_one t.1)).0 ++ sign (first_of (record { text = 0; line = 0; column = 0 }) t.1),
      (right (behind_one t.1)).1,
    )) (one (p ∷ rs ++ rest))
    ∙ ap (λ (t : Taken PlacedDisagreement). (xs ++ t.0 ++ sign p, t.1)) (other rest)
    ∙ ap (λ (s : List PlacedDisagreement). taken (xs ++ ys ++ s) rest) at

abbrev plain_variable_sort : PlainVariable → ℕ
plain_variable_sort x = x.sort

variable_sorts : (variables : List Variable) → map plain_variable_sort (variables_of variables) ≡ map variable_sort variables
variable_sorts [] = refl
variable_sorts (x ∷ variables) = ap (λ (ss : List ℕ). x.sort ∷ ss) (variable_sorts variables)

abbrev told_disagreements : Signature → List plain.Process → Behaviour → List Place → Taken PlacedDisagreement
told_disagreements signature processes stop = taken []
told_disagreements signature processes (exit_with results) = taken []
told_disagreements signature processes (action g offers test b) = told_disagreements signature processes b
told_disagreements signature processes (inner_action b) = told_disagreements signature processes b
told_disagreements signature processes (guard test b) = told_disagreements signature processes b
told_disagreements signature processes (choice b c) =
    signed (λ p. plain_at_sign p (plain_functionality signature processes b) (plain_functionality signature processes c))
    (told_disagreements signature processes b) (told_disagreements signature processes c)
told_disagreements signature processes (parallel meet b c) =
    signed (λ p. plain_at_sign p (plain_functionality signature processes b) (plain_functionality signature processes c))
    (told_disagreements signature processes b) (told_disagreements signature processes c)
told_disagreements signature processes (hide gates b) = told_disagreements signature processes b
told_disagreements signature processes (enable b variables c) =
    signed (λ p. plain_at_sign p (plain_functionality signature processes b) (Some (map plain_variable_sort variables)))
    (told_disagreements signature processes b) (told_disagreements signature processes c)
told_disagreements signature processes (disable b c) =
    signed (λ p. plain_at_sign p (plain_functionality signature processes b) (plain_functionality signature processes c))
    (told_disagreements signature processes b) (told_disagreements signature processes c)
told_disagreements signature processes (let_be bindings b) = told_disagreements signature processes b
told_disagreements signature processes (choose_value x b) = told_disagreements signature processes b
told_disagreements signature processes (choose_gate g gates b) = told_disagreements signature processes b
told_disagreements signature processes (par_gate g gates meet b) = told_disagreements signature processes b
told_disagreements signature processes (call number gates arguments) = λ ps. taken [] (behind_one ps)
told_disagreements signature processes (relabel pairs b) = told_disagreements signature processes b

three_seen : (xs ys zs : List Disagreement) → seen_disagreements xs ++ seen_disagreements ys ++ seen_disagreements zs
    ≡ seen_disagreements (xs ++ ys ++ zs)
three_seen xs ys zs =
    ap (λ (front : List PlacedDisagreement). front ++ seen_disagreements zs) (sym (map-append placed_disagreement xs ys))
    ∙ sym (map-append placed_disagreement (xs ++ ys) zs)

sign_there : (place : code.Place) (f g h k : Functionality) → f ≡ h → g ≡ k
    → plain_at_sign (text_place_of place) f g ≡ seen_disagreements (at_sign place h k)
sign_there place f g h k one other =
    ap (λ (x : Functionality). plain_at_sign (text_place_of place) x g) one
    ∙ ap (plain_at_sign (text_place_of place) h) other
    ∙ sign_told place h k

module _ (signature : Signature) (processes : List Process) where
  abbrev Fit : ProfiledTerm → Type 0
  Fit t = IsOf signature t

  abbrev function_of : Behaviour → Functionality
  function_of b = plain_functionality signature (map process_of processes) b

  abbrev told_in : Behaviour → List Place → Taken PlacedDisagreement
  told_in b = told_disagreements signature (map process_of processes) b

  abbrev TellsOf : Beh → Type 0
  TellsOf b = Tells (told_in (behaviour_of b)) (places_in b) (seen_disagreements (disagreements processes b))

  signed_parts : (place : code.Place) (left right : Beh) (sign : Place → List PlacedDisagreement) (zs : List Disagreement)
      → sign (text_place_of place) ≡ seen_disagreements zs → TellsOf left → TellsOf right
      → Tells (signed sign (told_in (behaviour_of left)) (told_in (behaviour_of right)))
      (places_in left ++ text_place_of place ∷ places_in right)
      (seen_disagreements (disagreements processes left ++ disagreements processes right ++ zs))
  signed_parts place left right sign zs at one other rest =
      signed_tells sign (told_in (behaviour_of left)) (told_in (behaviour_of right)) (places_in left) (places_in right)
      (text_place_of place) (seen_disagreements (disagreements processes left)) (seen_disagreements (disagreements processes right))
      (seen_disagreements zs)
      at one other rest
      ∙ ap (λ (xs : List PlacedDisagreement). taken xs rest)
      (three_seen (disagreements processes left) (disagreements processes right) zs)

  two_parts : (place : code.Place) (left right : Beh) → AreTermsOf signature (profiles_in left ++ profiles_in right)
      → TellsOf left → TellsOf right
      → Tells (signed (λ p. plain_at_sign p (function_of (behaviour_of left)) (function_of (behaviour_of right)))
      (told_in (behaviour_of left)) (told_in (behaviour_of right)))
      (places_in left ++ text_place_of place ∷ places_in right)
      (seen_disagreements (disagreements processes left ++ disagreements processes right
      ++ at_sign place (functionality processes left) (functionality processes right)))
  two_parts place left right of one other =
      signed_parts place left right (λ p. plain_at_sign p (function_of (behaviour_of left)) (function_of (behaviour_of right)))
      (at_sign place (functionality processes left) (functionality processes right))
      (sign_there place (function_of (behaviour_of left)) (function_of (behaviour_of right)) (functionality processes left)
      (functionality processes right)
      (functions_are_told signature processes left (every_front Fit (profiles_in left) (profiles_in right) of))
      (functions_are_told signature processes right (every_back Fit (profiles_in left) (profiles_in right) of)))
      one other

  pub disagreements_are_told : (b : Beh) → AreTermsOf signature (profiles_in b) → TellsOf b
  disagreements_are_told Stop of = λ rest. refl
  disagreements_are_told (Exit values) of = λ rest. refl
  disagreements_are_told (Action' _ offers test _ next) of =
      disagreements_are_told next (every_back Fit (joined (map offer_profiles offers.items) ++ option_profiles test) (profiles_in next) of)
  disagreements_are_told (Inner' _ next) of = disagreements_are_told next of
  disagreements_are_told (Guard' test _ next) of =
      disagreements_are_told next (every_back Fit (test_profiles test) (profiles_in next) of)
  disagreements_are_told (Choice' place _ left _ right) of =
      two_parts place left right of
      (disagreements_are_told left (every_front Fit (profiles_in left) (profiles_in right) of))
      (disagreements_are_told right (every_back Fit (profiles_in left) (profiles_in right) of))
  disagreements_are_told (Parallel' place _ _ left _ right) of =
      two_parts place left right of
      (disagreements_are_told left (every_front Fit (profiles_in left) (profiles_in right) of))
      (disagreements_are_told right (every_back Fit (profiles_in left) (profiles_in right) of))
  disagreements_are_told (Hide' _ _ next) of = disagreements_are_told next of
  disagreements_are_told (Enable' place _ left variables _ right) of =
      signed_parts place left right
      (λ p. plain_at_sign p (function_of (behaviour_of left)) (Some (map plain_variable_sort (variables_of variables.items))))
      (at_sign place (functionality processes left) (Some (map variable_sort variables.items)))
      (sign_there place (function_of (behaviour_of left)) (Some (map plain_variable_sort (variables_of variables.items)))
      (functionality processes left) (Some (map variable_sort variables.items))
      (functions_are_told signature processes left (every_front Fit (profiles_in left) (profiles_in right) of))
      (ap (λ (ss : List ℕ). Some ss) (variable_sorts variables.items)))
      (disagreements_are_told left (every_front Fit (profiles_in left) (profiles_in right) of))
      (disagreements_are_told right (every_back Fit (profiles_in left) (profiles_in right) of))
  disagreements_are_told (Disable' place _ left _ right) of =
      two_parts place left right of
      (disagreements_are_told left (every_front Fit (profiles_in left) (profiles_in right) of))
      (disagreements_are_told right (every_back Fit (profiles_in left) (profiles_in right) of))
  disagreements_are_told (Let' bindings _ next) of =
      disagreements_are_told next (every_back Fit (map let_profile bindings.items) (profiles_in next) of)
  disagreements_are_told (ChooseValue' _ _ next) of = disagreements_are_told next of
  disagreements_are_told (ChooseGate' _ _ _ next) of = disagreements_are_told next of
  disagreements_are_told (ParGate' _ _ _ _ next) of = disagreements_are_told next of
  disagreements_are_told (Call place process _ _) of = λ rest. refl

-- ---- Those of definitions

abbrev plain_at_definition : Place → Functionality → Functionality → List PlacedDisagreement
plain_at_definition place None declared = []
plain_at_definition place (Some ss) None = (place, Some ss, None) ∷ []
plain_at_definition place (Some ss) (Some ts) = plain_at_sign place (Some ss) (Some ts)

definition_sign : (place : code.Place) (found declared : Functionality)
    → plain_at_definition (text_place_of place) found declared ≡ seen_disagreements (at_definition place found declared)
definition_sign place None declared = refl
definition_sign place (Some ss) None = refl
definition_sign place (Some ss) (Some ts) = sign_told place (Some ss) (Some ts)

-- those of a definition: its place, then those of its body
abbrev told_definition : Signature → List plain.Process → Behaviour → Functionality → List Place → Taken PlacedDisagreement
told_definition signature processes body declared ps = (
  (told_disagreements signature processes body (behind_one ps)).0
      ++ plain_at_definition (first_of (record { text = 0; line = 0; column = 0 }) ps)
      (plain_functionality signature processes body) declared,
  (told_disagreements signature processes body (behind_one ps)).1,
)

abbrev told_processes : Signature → List plain.Process → List plain.Process → List Place → List PlacedDisagreement
told_processes signature processes [] ps = []
told_processes signature processes (p ∷ rest) ps =
    (told_definition signature processes p.body p.exit ps).0
    ++ told_processes signature processes rest (told_definition signature processes p.body p.exit ps).1

abbrev pub disagreements_by : Signature → plain.Specification → List Place → List PlacedDisagreement
disagreements_by signature spec ps =
    (told_definition signature spec.processes spec.body spec.exit ps).0
    ++ told_processes signature spec.processes spec.processes (told_definition signature spec.processes spec.body spec.exit ps).1

module _ (signature : Signature) (processes : List Process) where
  in_definition : (place : code.Place) (body : Beh) (declared : Functionality) (rest : List Place) → AreTermsOf signature (profiles_in body)
      → told_definition signature (map process_of processes) (behaviour_of body) declared (text_place_of place ∷ places_in body ++ rest)
      ≡ taken (seen_disagreements (of_definition processes place body declared)) rest
  in_definition place body declared rest of =
      ap (λ (t : Taken PlacedDisagreement).
      taken (t.0 ++ plain_at_definition (text_place_of place) (function_of signature processes (behaviour_of body)) declared) t.1)
      (disagreements_are_told signature processes body of rest)
      ∙ ap (λ (f : Functionality).
      taken (seen_disagreements (disagreements processes body) ++ plain_at_definition (text_place_of place) f declared) rest)
      (functions_are_told signature processes body of)
      ∙ ap (λ (zs : List PlacedDisagreement). taken (seen_disagreements (disagreements processes body) ++ zs) rest)
      (definition_sign place (functionality processes body) declared)
      ∙ ap (λ (zs : List PlacedDisagreement). taken zs rest)
      (sym (map-append placed_disagreement (disagreements processes body) (at_definition place (functionality processes body) declared)))

  in_processes : (some : List Process) → Every (λ (p : Process). AreTermsOf signature (profiles_in p.body)) some
      → told_processes signature (map process_of processes) (map process_of some) (places_of_processes some)
      ≡ seen_disagreements (of_processes processes some)
  in_processes [] of = refl
  in_processes (p ∷ some) of =
      ap (λ (t : Taken PlacedDisagreement). t.0 ++ told_processes signature (map process_of processes) (map process_of some) t.1)
      (in_definition p.place p.body (functionality_of p.exit) (places_of_processes some) of.0)
      ∙ ap (λ (zs : List PlacedDisagreement).
      seen_disagreements (of_definition processes p.place p.body (functionality_of p.exit)) ++ zs) (in_processes some of.1)
      ∙ sym (map-append placed_disagreement (of_definition processes p.place p.body (functionality_of p.exit))
      (of_processes processes some))

pub disagreements_are_by : (signature : Signature) (kept : Spec) → IsSpecOver signature kept
    → disagreements_by signature (specification_of kept) (places_of kept) ≡ seen_disagreements (all_disagreements kept)
disagreements_are_by signature kept over =
    ap (λ (t : Taken PlacedDisagreement).
    t.0 ++ told_processes signature (map process_of kept.processes.items) (map process_of kept.processes.items) t.1)
    (in_definition signature kept.processes.items kept.place kept.body.value (functionality_of kept.exit)
    (places_of_processes kept.processes.items) over.body)
    ∙ ap (λ (zs : List PlacedDisagreement).
    seen_disagreements (of_definition kept.processes.items kept.place kept.body.value (functionality_of kept.exit)) ++ zs)
    (in_processes signature kept.processes.items kept.processes.items over.bodies)
    ∙ sym (map-append placed_disagreement (of_definition kept.processes.items kept.place kept.body.value (functionality_of kept.exit))
    (of_processes kept.processes.items kept.processes.items))
