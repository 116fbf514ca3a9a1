-- The draft of a shape, with ground leaves that meet it put in, is a derivation, and each derivation is one so.
use Rattle.std.proofs.Common.{◌≡◌, ◌≤◌, inr, ℕ, suc, ◌+◌, ◌-◌, List, [], ◌∷◌, map, Some, option_map, refl, ap, sym, ◌∙◌, subst, arith}
use Rattle.lotos_base.proofs.Options.{mapped}
use Rattle.lotos_base.specs.Signature.{Signature, IsSort, IsWellFormedSignature}
use Rattle.lotos_base.specs.Term.{Term, variable, node}
use Rattle.lotos_base.specs.Sorting.{IsGroundOf}
use Rattle.lotos_base.specs.Equation.{Data}
use Rattle.lotos_base.specs.Substitution.{Substitution, substituted}
use Rattle.lotos_base.proofs.SubstitutionLemmas.{substituted_twice, substituted_ground, ground_no_variable}
use Rattle.lotos_base.proofs.EqualityLemmas.{equal_same}
use Rattle.behaviour_semantics.specs.Behaviour.{Behaviour, Test, Process, Specification}
use Rattle.behaviour_semantics.specs.Label.{Label, inner_event, gate_event, exit_event}
use Rattle.behaviour_semantics.specs.Replacement.{test_with}
use Rattle.behaviour_semantics.specs.Rule.{as_given, AllHold, AreValues}
use Rattle.behaviour_semantics.specs.Shape.{Shape, Derivation}
use Rattle.behaviour_semantics.specs.Move.{Setting, Move, move_of, taken}
use Rattle.behaviour_semantics.specs.Derives.{Derives, leaves_in}
use Rattle.behaviour_semantics.specs.Draft.{Draft, draft_of, draft_by, label_with, leaves_from, numbered_from_zero, above, above_processes, first_apart, variable_sorts, MeetsDraft}
use Rattle.behaviour_semantics.specs.Menu.{EqualLabels}
use Rattle.behaviour_semantics.specs.WellFormed.{AreOver}
use Rattle.behaviour_semantics.specs.InstanceLaws.{Instance, DraftOf}
use Rattle.behaviour_semantics.proofs.SupplyLemmas.{Supplied, Supplied-leaves_in}
use Rattle.behaviour_semantics.proofs.RelatedTerms.{Side, with_leaves, with_leaves-leaf, Related, canon_represents, given_represents}
use Rattle.behaviour_semantics.proofs.SameBehaviours.{low_nothing, same_beside}
use Rattle.behaviour_semantics.proofs.RelatedMoves.{RelatedLeaves, RelatedMoves, Answer, setting_of, follows}
use Rattle.behaviour_semantics.proofs.InstanceLemmas.{plain, bodies_of, turned_leaves, turned_moves, closed_labels, asked_over, asked_back}

-- The leaves of a draft are the variables numbered from 0.
pub numbered-taken : (base next : ℕ) (sorts : List ℕ) → map (substituted (numbered_from_zero base)) (taken (leaves_from base) next sorts)
    ≡ taken variable next sorts
numbered-taken base next [] = refl
numbered-taken base next (s ∷ sorts) =
    let e : (base + next) - base ≡ next = omega arith in
    ap (λ (n : ℕ). variable n s ∷ map (substituted (numbered_from_zero base)) (taken (leaves_from base) (suc next) sorts)) e
    ∙ ap (λ (ts : List Term). variable next s ∷ ts) (numbered-taken base (suc next) sorts)

pub variable_sorts-taken : (next : ℕ) (sorts : List ℕ) → variable_sorts (taken variable next sorts) ≡ sorts
variable_sorts-taken next [] = refl
variable_sorts-taken next (s ∷ sorts) = ap (λ (ss : List ℕ). s ∷ ss) (variable_sorts-taken (suc next) sorts)

pub draft_sorts : (shape : Shape) (base : ℕ) (m : Move) → variable_sorts (draft_by shape base m).leaves ≡ m.sorts
draft_sorts shape base m = ap variable_sorts (numbered-taken base 0 m.sorts) ∙ variable_sorts-taken 0 m.sorts

pub draft_leaves : (shape : Shape) (base : ℕ) (m : Move)
    → (draft_by shape base m).leaves ≡ taken variable 0 (variable_sorts (draft_by shape base m).leaves)
draft_leaves shape base m = numbered-taken base 0 m.sorts ∙ ap (taken variable 0) (sym (draft_sorts shape base m))

-- Renumbered terms with the values put in are the terms with the values behind `base` put in.
abbrev behind : ℕ → List Term → Substitution
behind base values n s = leaves_in values (n - base) s

terms_behind : (base : ℕ) (values ts : List Term) → map (substituted (leaves_in values)) (map (substituted (numbered_from_zero base)) ts)
    ≡ map (substituted (behind base values)) ts
terms_behind base values [] = refl
terms_behind base values (t ∷ ts) =
    ap (λ (u : Term). u ∷ map (substituted (leaves_in values)) (map (substituted (numbered_from_zero base)) ts))
    (substituted_twice (numbered_from_zero base) (leaves_in values) t)
    ∙ ap (λ (us : List Term). substituted (behind base values) t ∷ us) (terms_behind base values ts)

label_behind : (base : ℕ) (values : List Term) (label : Label)
    → label_with (leaves_in values) (label_with (numbered_from_zero base) label) ≡ label_with (behind base values) label
label_behind base values inner_event = refl
label_behind base values (gate_event g ts) = ap (gate_event g) (terms_behind base values ts)
label_behind base values (exit_event ts) = ap exit_event (terms_behind base values ts)

tests_behind : (base : ℕ) (values : List Term) (tests : List Test)
    → map (test_with (leaves_in values)) (map (test_with (numbered_from_zero base)) tests) ≡ map (test_with (behind base values)) tests
tests_behind base values [] = refl
tests_behind base values (test ∷ tests) =
    let left : substituted (leaves_in values) (substituted (numbered_from_zero base) test.left)
    ≡ substituted (behind base values) test.left = substituted_twice (numbered_from_zero base) (leaves_in values) test.left in
    let right : substituted (leaves_in values) (substituted (numbered_from_zero base) test.right)
    ≡ substituted (behind base values) test.right = substituted_twice (numbered_from_zero base) (leaves_in values) test.right in
    let rest : map (test_with (leaves_in values)) (map (test_with (numbered_from_zero base)) tests)
    ≡ map (test_with (behind base values)) tests = tests_behind base values tests in
    cc (left, right, rest)

ground_sort : (signature : Signature) (s : ℕ) (t : Term) → IsWellFormedSignature signature → IsGroundOf signature s t → IsSort signature s
ground_sort signature s (variable n r) fine h = absurd h.ground
ground_sort signature s (node f ts) fine h = subst (IsSort signature) h.sorted.2 (fine.results f h.sorted.0 h.sorted.1)

-- The sides: the draft with variables for leaves, and the derivation with these values.
abbrev drafted : Data → (Term → Term) → ℕ → List Term → Side
drafted data_ canon base values = record {
  represent = canon;
  leaves = leaves_from base;
  values = behind base values;
  leaf =
      λ n r. IsGroundOf data_.signature r (behind base values n r);
}

abbrev valued : List Term → Side
valued values = plain as_given (leaves_in values)

leaf_related : (data_ : Data) (canon : Term → Term) (base : ℕ) (values : List Term) → IsWellFormedSignature data_.signature → (next s : ℕ)
    → IsGroundOf data_.signature s (leaves_in values next s)
    → Related data_ base (drafted data_ canon base values) (valued values) [] s (variable (base + next) s) (leaves_in values next s)
leaf_related data_ canon base values fine next s h = record {
  left_sorted = (refl, ground_sort data_.signature s (leaves_in values next s) fine h);
  right_sorted = h.sorted;
  left_free = λ n r o. inr (
    le_of n o.0,
    subst (λ (q : ℕ). IsGroundOf data_.signature q (behind base values n q)) o.1
        (subst (λ (m : ℕ). IsGroundOf data_.signature s (behind base values m s)) o.0 here),
  );
  right_free = λ n r o. absurd (ground_no_variable (leaves_in values next s) h.ground n r o);
  equal = λ left right others grounds. equal_same data_ _ _
      (with_leaves-leaf base (drafted data_ canon base values) others (base + next) s (omega arith)
      ∙ (ap (λ (m : ℕ). leaves_in values m s) place ∙ sym (substituted_ground (with_leaves base (valued values) others)
      (leaves_in values next s) h.ground)));
}
  where
    place : (base + next) - base ≡ next
    place = omega arith

    here : IsGroundOf data_.signature s (behind base values (base + next) s)
    here = subst (λ (m : ℕ). IsGroundOf data_.signature s (leaves_in values m s)) (sym place) h

    le_of : (n : ℕ) → base + next ≡ n → base ≤ n
    le_of n e = omega arith

leaves_related : (data_ : Data) (canon : Term → Term) (processes : List Process) (base : ℕ) (values : List Term)
    → IsWellFormedSignature data_.signature → (next : ℕ) (sorts : List ℕ) → Supplied data_.signature (leaves_in values) next sorts
    → RelatedLeaves data_ base processes (drafted data_ canon base values) (valued values) next sorts
leaves_related data_ canon processes base values fine next [] h = tt
leaves_related data_ canon processes base values fine next (s ∷ sorts) h =
    (leaf_related data_ canon base values fine next s h.0, leaves_related data_ canon processes base values fine (suc next) sorts h.1)

pub leaves_law : (data_ : Data) (canon : Term → Term) (processes : List Process) (shape : Shape) (b : Behaviour) (draft : Draft)
    → draft_of data_ canon processes shape b ≡ Some draft → draft.leaves ≡ taken variable 0 (variable_sorts draft.leaves)
leaves_law data_ canon processes shape b draft e =
    let base : ℕ = first_apart processes b in
    let from : (m : Move) × (move_of (record { signature = data_.signature; represent = canon; processes = processes })
    (leaves_from base) shape 0 b ≡ Some m) × (draft_by shape base m ≡ draft) =
    mapped (draft_by shape base) (move_of (record { signature = data_.signature; represent = canon; processes = processes })
    (leaves_from base) shape 0 b) e in
    subst (λ (d : Draft). d.leaves ≡ taken variable 0 (variable_sorts d.leaves)) from.2 (draft_leaves shape base from.0)

-- The move of a draft, with values that meet the draft, is the move of a derivation.
sound_move : (data_ : Data) (canon : Term → Term) (specification : Specification) (b : Behaviour) → AreOver data_ canon specification b
    → (shape : Shape) (m : Move) (values : List Term) → move_of (record {
      signature = data_.signature;
      represent = canon;
      processes =
          specification.processes;
    }) (leaves_from (first_apart specification.processes b)) shape 0 b ≡ Some m
    → MeetsDraft data_ (draft_by shape (first_apart specification.processes b) m) values
    → Instance data_ specification.processes b (draft_by shape (first_apart specification.processes b) m) values
sound_move data_ canon specification b over shape m values e meets =
    let base : ℕ = first_apart specification.processes b in
    let x : Side = drafted data_ canon base values in
    let y : Side = valued values in
    let le_processes : above_processes specification.processes ≤ base = omega arith in
    let le_b : above b ≤ base = omega arith in
    let sorted : AreValues data_.signature m.sorts values =
    subst (λ (ss : List ℕ). AreValues data_.signature ss values) (draft_sorts shape base m) meets.sorted in
    let answer : Answer data_ base specification.processes x y
    (move_of (setting_of data_ base specification.processes y) y.leaves shape 0 b) m =
    follows data_ base specification.processes x y (canon_represents data_ canon over.is_canon) (given_represents data_)
    (bodies_of data_ base x y specification over.well_formed le_processes) shape 0 b b
    (same_beside data_ base x y _ specification.processes [] b (low_nothing data_ base) le_b over.closed) m e
    (leaves_related data_ canon specification.processes base values over.signature 0 m.sorts
    (Supplied-leaves_in data_.signature m.sorts values sorted)) in
    let asked : AllHold data_ (map (test_with (behind base values)) m.asked) =
    subst (AllHold data_) (tests_behind base values m.asked) meets.met in
    record {
      label = answer.0.label;
      target = answer.0.target;
      derives = record {
        asked = answer.0.asked;
        sorts = answer.0.sorts;
        move = answer.1;
        leaves = subst (λ (ss : List ℕ). AreValues data_.signature ss values) answer.2.sorts sorted;
        holds = asked_over data_ base as_given (leaves_in values) x (λ n r h. h) answer.2.asked asked;
      };
      labels = subst (λ (l : Label). EqualLabels data_ l answer.0.label) (sym (label_behind base values m.label))
          (closed_labels data_ base as_given (leaves_in values) x (λ n r h. h) answer.2.label);
    }

pub sound_law : (data_ : Data) (canon : Term → Term) (specification : Specification) (b : Behaviour) → AreOver data_ canon specification b
    → (shape : Shape) (draft : Draft) (values : List Term) → draft_of data_ canon specification.processes shape b ≡ Some draft
    → MeetsDraft data_ draft values → Instance data_ specification.processes b draft values
sound_law data_ canon specification b over shape draft values e meets =
    let base : ℕ = first_apart specification.processes b in
    let setting : Setting = record { signature = data_.signature; represent = canon; processes = specification.processes } in
    let from : (m : Move) × (move_of setting (leaves_from base) shape 0 b ≡ Some m)
    × (draft_by shape base m ≡ draft) = mapped (draft_by shape base) (move_of setting (leaves_from base) shape 0 b) e in
    subst (λ (d : Draft). MeetsDraft data_ d values → Instance data_ specification.processes b d values) from.2
    (sound_move data_ canon specification b over shape from.0 values from.1) meets

pub complete_law : (data_ : Data) (canon : Term → Term) (specification : Specification) (b : Behaviour)
    → AreOver data_ canon specification b → (d : Derivation) (label : Label) (target : Behaviour)
    → Derives data_ specification.processes b d label target → DraftOf data_ canon specification.processes b d label
complete_law data_ canon specification b over d label target derives =
    let base : ℕ = first_apart specification.processes b in
    let values : List Term = d.leaves in
    let x : Side = drafted data_ canon base values in
    let y : Side = valued values in
    let n : Move = record { label = label; target = target; asked = derives.asked; sorts = derives.sorts } in
    let le_processes : above_processes specification.processes ≤ base = omega arith in
    let le_b : above b ≤ base = omega arith in
    let answer : Answer data_ base specification.processes y x
    (move_of (setting_of data_ base specification.processes x) x.leaves d.shape 0 b) n =
    follows data_ base specification.processes y x (given_represents data_) (canon_represents data_ canon over.is_canon)
    (bodies_of data_ base y x specification over.well_formed le_processes) d.shape 0 b b
    (same_beside data_ base y x _ specification.processes [] b (low_nothing data_ base) le_b over.closed) n derives.move
    (turned_leaves data_ base specification.processes x y 0 n.sorts
    (leaves_related data_ canon specification.processes base values over.signature 0 n.sorts
    (Supplied-leaves_in data_.signature n.sorts values derives.leaves))) in
    let m : Move = answer.0 in
    let back : RelatedMoves data_ base specification.processes x y m n = turned_moves data_ base specification.processes y x n m answer.2 in
    record {
      draft = draft_by d.shape base m;
      is_draft = ap (option_map (draft_by d.shape base)) answer.1;
      meets = record {
        sorted = subst (λ (ss : List ℕ). AreValues data_.signature ss values) (answer.2.sorts ∙ sym (draft_sorts d.shape base m))
            derives.leaves;
        met = subst (AllHold data_) (sym (tests_behind base values m.asked))
            (asked_back data_ base as_given (leaves_in values) x (λ n r h. h) back.asked derives.holds);
      };
      labels = subst (λ (l : Label). EqualLabels data_ l label) (sym (label_behind base values m.label))
          (closed_labels data_ base as_given (leaves_in values) x (λ n r h. h) back.label);
    }
