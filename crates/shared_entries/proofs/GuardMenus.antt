-- A guard of a closed behaviour either holds and is dropped by solving, or ends the work.
use Rattle.std.proofs.Common.{◌≡◌, ◌≢◌, List, ◌∷◌, map, Bool, true, false, not, ◌&&◌, ◌||◌, cond, Option, None, Some, option_map, refl, ap, sym, ◌∙◌, subst, arith}
use Rattle.std.proofs.lemmas.Option.{same_Some}
use Rattle.lotos_base.specs.Term.{Term}
use Rattle.lotos_base.specs.Sorting.{IsGroundOf}
use Rattle.lotos_base.specs.Tests.{term_eq, is_ground}
use Rattle.lotos_base.specs.Equation.{Data}
use Rattle.lotos_base.specs.Substitution.{Substitution, substituted}
use Rattle.lotos_base.proofs.Options.{mapped}
use Rattle.lotos_base.proofs.SubstitutionLemmas.{substituted_ground}
use Rattle.lotos_base.proofs.TestLemmas.{Decides-term_eq, Decides-is_ground}
use Rattle.lotos_base.proofs.CanonLemmas.{canon_ground}
use Rattle.behaviour_semantics.specs.Behaviour.{Behaviour, guard, Test, Specification}
use Rattle.behaviour_semantics.specs.Replacement.{test_with}
use Rattle.behaviour_semantics.specs.Shape.{Shape, guarded, in_guarded}
use Rattle.behaviour_semantics.specs.Move.{Move, asking}
use Rattle.behaviour_semantics.specs.Draft.{Draft, draft_of, draft_by, first_apart, numbered_from_zero}
use Rattle.behaviour_semantics.specs.NumberingLaws.{open_move}
use Rattle.behaviour_semantics.specs.Solving.{Entry, entry_of, test_in, differing, has_closed, first_replacement, tidied, replaced, SolvesTo, unsolvable, settled, replacing}
use Rattle.behaviour_semantics.specs.WellFormed.{AreOver}
use Rattle.behaviour_semantics.proofs.ClosedTargets.{ground_of}
use Rattle.behaviour_semantics.proofs.RaisedDrafts.{same_drafts}
use Rattle.behaviour_semantics.proofs.SolvingLemmas.{determined}
use Rattle.behaviour_semantics.proofs.SolvingAnyDraft.{solving_any}
use Rattle.shared_entries.specs.PartRule.{PartRule, changed, by_rule, passing_on}
use Rattle.shared_entries.proofs.RuleLabels.{passing_on_fair}
use Rattle.shared_entries.proofs.ChangedSolving.{changed_draft, solved_change}
use Rattle.shared_entries.proofs.FormDrafts.{over_part}
use Rattle.shared_entries.proofs.SolvedMenus.{IsSolvedForm, form_order}
use Rattle.shared_entries.proofs.RuleMenus.{ComesBy, Carries}

-- Drafts that are the same once they are tidied have the same outcomes.
pub same_tidied : {canon : Term → Term} {draft : Draft} {outcome : Option Entry} (other : Draft) → SolvesTo canon draft outcome
    → tidied canon draft ≡ tidied canon other → SolvesTo canon other outcome
same_tidied other (unsolvable draft closed) same =
    unsolvable other (subst (λ (d : Draft). has_closed d.conditions ≡ true) same closed)
same_tidied {canon = canon} other (settled draft not_closed none) same =
    subst (λ (d : Draft). SolvesTo canon other (Some (entry_of d))) (sym same)
    (settled other (subst (λ (d : Draft). has_closed d.conditions ≡ false) same not_closed)
    (subst (λ (d : Draft). first_replacement d.conditions ≡ None) same none))
same_tidied {canon = canon} other (replacing draft found outcome not_closed some rest) same =
    replacing other found outcome (subst (λ (d : Draft). has_closed d.conditions ≡ false) same not_closed)
    (subst (λ (d : Draft). first_replacement d.conditions ≡ Some found) same some)
    (subst (λ (d : Draft). SolvesTo canon (replaced found d) outcome) same rest)

-- The draft of a guard: the test is asked before what its body asks.
abbrev pub asked_first : Test → Draft → Draft
asked_first test draft = record {
  shape = guarded draft.shape;
  label = draft.label;
  leaves = draft.leaves;
  conditions = test ∷ draft.conditions;
}

kept_if : (test : Bool) (first : Test) (rest : List Test) → test ≡ false → cond (not test) (first ∷ rest) rest ≡ first ∷ rest
kept_if false first rest e = refl
kept_if true first rest e = absurd (cc e)

dropped_if : (test : Bool) (first : Test) (rest : List Test) → test ≡ true → cond (not test) (first ∷ rest) rest ≡ rest
dropped_if true first rest e = refl
dropped_if false first rest e = absurd (cc e)

module _ (data_ : Data) (canon : Term → Term) (specification : Specification) (test : Test) (b : Behaviour)
    (over : AreOver data_ canon specification (guard test b)) where
  abbrev rule : PartRule
  rule = passing_on guarded

  over_body : AreOver data_ canon specification b
  over_body = over_part data_ canon specification (guard test b) b over over.closed.1

  left_ground : IsGroundOf data_.signature over.closed.0.sort test.left
  left_ground = ground_of data_.signature over.closed.0.sort test.left over.closed.0.left

  right_ground : IsGroundOf data_.signature over.closed.0.sort test.right
  right_ground = ground_of data_.signature over.closed.0.sort test.right over.closed.0.right

  test_stays : (values : Substitution) → test_with values test ≡ test
  test_stays values =
      let left : substituted values test.left ≡ test.left = substituted_ground values test.left left_ground.ground in
      let right : substituted values test.right ≡ test.right = substituted_ground values test.right right_ground.ground in
      λ i. record { left = left i; right = right i }

  by_move : (base : _) (s : Shape) (o : Option Move) → option_map (draft_by (guarded s) base) (option_map (asking test) o)
      ≡ option_map (asked_first test) (option_map (draft_by s base) o)
  by_move base s None = refl
  by_move base s (Some m) =
      ap (λ (t : Test). Some (record (asked_first test (draft_by s base m)) { conditions = t ∷ (draft_by s base m).conditions }))
      (test_stays (numbered_from_zero base))

  guard_drafts : (s : Shape) → draft_of data_ canon specification.processes (guarded s) (guard test b)
      ≡ option_map (asked_first test) (draft_of data_ canon specification.processes s b)
  guard_drafts s =
      by_move (first_apart specification.processes (guard test b)) s
      (open_move data_ canon specification.processes (first_apart specification.processes (guard test b)) s 0 b)
      ∙ sym (ap (option_map (asked_first test))
      (same_drafts data_ canon specification b over_body (first_apart specification.processes (guard test b)) s (omega arith)))

  -- A test that holds is dropped.
  module _ (holds : canon test.left ≡ canon test.right) where
    dropped : (draft : Draft) → tidied canon (asked_first test draft) ≡ tidied canon (changed_draft rule draft)
    dropped draft =
        ap (λ (tests : List Test). record (tidied canon (changed_draft rule draft)) { conditions = tests })
        (dropped_if (term_eq (canon test.left) (canon test.right)) (test_in canon test) (differing (map (test_in canon) draft.conditions))
        ((Decides-term_eq (canon test.left) (canon test.right)).1 holds))

    forward : (s : Shape) (e made : Entry) → IsSolvedForm data_ canon specification b s e → by_rule rule e ≡ Some made
        → IsSolvedForm data_ canon specification (guard test b) (guarded s) made
    forward s e made f gives = record {
      draft = asked_first test f.draft;
      drafted = guard_drafts s ∙ ap (option_map (asked_first test)) f.drafted;
      solves = same_tidied (asked_first test f.draft)
          (subst (λ (x : Entry). SolvesTo canon (changed_draft rule f.draft) (Some x)) (same_Some (changed rule e) made gives)
          (solved_change data_.signature rule (passing_on_fair data_.signature guarded (λ s t before. in_guarded before)) f.solves))
          (sym (dropped f.draft));
    }

    by_outcome : (s : Shape) (made : Entry) (draft : Draft) → draft_of data_ canon specification.processes s b ≡ Some draft
        → SolvesTo canon (asked_first test draft) (Some made) → (o : Option Entry) → SolvesTo canon draft o
        → ComesBy data_ canon specification rule b s made
    by_outcome s made draft drafted solved o solves =
        let same : option_map (changed rule) o ≡ Some made =
        determined (solved_change data_.signature rule (passing_on_fair data_.signature guarded (λ s t before. in_guarded before)) solves)
        (same_tidied (changed_draft rule draft) solved (dropped draft)) in
        let from : (e : Entry) × (o ≡ Some e) × (changed rule e ≡ made) = mapped (changed rule) o same in
        record {
          entry = from.0;
          form = record { draft = draft; drafted = drafted; solves = subst (SolvesTo canon draft) from.1 solves };
          gives = ap (λ (x : Entry). Some x) from.2;
        }

    back : (s : Shape) (made : Entry) → IsSolvedForm data_ canon specification (guard test b) (guarded s) made
        → ComesBy data_ canon specification rule b s made
    back s made f =
        let d = mapped (asked_first test) (draft_of data_ canon specification.processes s b) (sym (guard_drafts s) ∙ f.drafted) in
        let o = solving_any.outcome data_ canon d.0 over_body.is_canon (form_order data_ canon specification b s d.0 over_body d.1) in
        by_outcome s made d.0 d.1 (subst (λ (x : Draft). SolvesTo canon x (Some made)) (sym d.2) f.solves) o.0 o.1

    pub guard_carries : Carries data_ canon specification rule (guard test b) b
    guard_carries = record { keeps = λ s t before. in_guarded before; forward = forward; back = back }

  -- A test that fails ends the work.
  module _ (fails : canon test.left ≢ canon test.right) where
    unequal : (t : Bool) → term_eq (canon test.left) (canon test.right) ≡ t → t ≡ false
    unequal false e = refl
    unequal true e = absurd (fails ((Decides-term_eq (canon test.left) (canon test.right)).0 e))

    both_true : (x y rest : Bool) → x ≡ true → y ≡ true → ((x && y) || rest) ≡ true
    both_true true true rest e f = refl
    both_true false y rest e f = absurd (cc e)
    both_true true false rest e f = absurd (cc f)

    closed : (draft : Draft) → has_closed (tidied canon (asked_first test draft)).conditions ≡ true
    closed draft =
        ap has_closed (kept_if (term_eq (canon test.left) (canon test.right)) (test_in canon test)
        (differing (map (test_in canon) draft.conditions)) (unequal (term_eq (canon test.left) (canon test.right)) refl))
        ∙ both_true (is_ground (canon test.left)) (is_ground (canon test.right))
        (has_closed (differing (map (test_in canon) draft.conditions)))
        ((Decides-is_ground (canon test.left)).1
        (canon_ground data_ canon test.left over.closed.0.sort over.is_canon left_ground).ground)
        ((Decides-is_ground (canon test.right)).1
        (canon_ground data_ canon test.right over.closed.0.sort over.is_canon right_ground).ground)

    pub guard_ends : (s : Shape) (made : Entry) → IsSolvedForm data_ canon specification (guard test b) (guarded s) made → ⊥
    guard_ends s made f =
        let d = mapped (asked_first test) (draft_of data_ canon specification.processes s b) (sym (guard_drafts s) ∙ f.drafted) in
        let nothing : SolvesTo canon f.draft None =
        subst (λ (x : Draft). SolvesTo canon x None) d.2 (unsolvable (asked_first test d.0) (closed d.0)) in
        cc (determined nothing f.solves)
