-- The solved forms of a behaviour are what its rule makes of the solved forms of the part that moves.
use Rattle.std.proofs.Common.{◌≡◌, Bool, true, Option, None, Some, option_map, option_and_then, if◌then◌else◌, ap, sym, ◌∙◌, subst}
use Rattle.lotos_base.specs.Term.{Term}
use Rattle.lotos_base.specs.Equation.{Data}
use Rattle.lotos_base.proofs.Options.{mapped, chained}
use Rattle.behaviour_semantics.specs.Behaviour.{Behaviour, Specification}
use Rattle.behaviour_semantics.specs.Shape.{Shape, Before}
use Rattle.behaviour_semantics.specs.Draft.{Draft, draft_of}
use Rattle.behaviour_semantics.specs.Solving.{Entry, SolvesTo}
use Rattle.behaviour_semantics.proofs.OptionLemmas.{tested}
use Rattle.behaviour_semantics.proofs.SolvingLemmas.{determined}
use Rattle.behaviour_semantics.proofs.SolvingAnyDraft.{solving_any}
use Rattle.shared_entries.specs.PartRule.{PartRule, changed, by_rule}
use Rattle.shared_entries.proofs.LabelKinds.{same_kind}
use Rattle.shared_entries.proofs.ChangedSolving.{changed_draft, draft_by_rule, solved_change}
use Rattle.shared_entries.proofs.RuleDrafts.{MovesBy}
use Rattle.shared_entries.proofs.SolvedMenus.{IsSolvedForm, form_order}

module _ (data_ : Data) (canon : Term → Term) (specification : Specification) where
  -- The solved form of a part from which an entry of the whole comes.
  pub record ComesBy (rule : PartRule) (part : Behaviour) (s : Shape) (made : Entry) : Type 0 where
    pub entry : Entry
    pub form : IsSolvedForm data_ canon specification part s entry
    pub gives : by_rule rule entry ≡ Some made

  -- The solved forms below the rule's variant are what the rule makes of those of the part.
  pub record Carries (rule : PartRule) (whole part : Behaviour) : Type 0 where
    pub keeps : (s t : Shape) → Before s t → Before (rule.variant s) (rule.variant t)
    pub forward : (s : Shape) (e made : Entry) → IsSolvedForm data_ canon specification part s e → by_rule rule e ≡ Some made
        → IsSolvedForm data_ canon specification whole (rule.variant s) made
    pub back : (s : Shape) (made : Entry) → IsSolvedForm data_ canon specification whole (rule.variant s) made
        → ComesBy rule part s made

  module _ (rule : PartRule) (whole part : Behaviour) (moves : MovesBy data_ canon specification rule whole part) where
    kind_of : (s : Shape) (draft : Draft) (e : Entry) → draft_of data_ canon specification.processes s part ≡ Some draft
        → SolvesTo canon draft (Some e) → rule.applies e.label ≡ rule.applies draft.label
    kind_of s draft e drafted solves =
        moves.fair.by_kind e.label draft.label
        (same_kind data_ canon moves.over.is_canon solves (form_order data_ canon specification part s draft moves.over drafted))

    made_entry : (s : Shape) (e made : Entry) → IsSolvedForm data_ canon specification part s e → by_rule rule e ≡ Some made
        → IsSolvedForm data_ canon specification whole (rule.variant s) made
    made_entry s e made f gives =
        let test = tested (rule.applies e.label) (changed rule e) gives in
        let applies : rule.applies f.draft.label ≡ true = sym (kind_of s f.draft e f.drafted f.solves) ∙ test.0 in
        record {
          draft = changed_draft rule f.draft;
          drafted = moves.drafts s ∙ (ap (option_and_then (draft_by_rule rule)) f.drafted
              ∙ ap (λ (t : Bool). if t then Some (changed_draft rule f.draft) else None) applies);
          solves = subst (λ (x : Entry). SolvesTo canon (changed_draft rule f.draft) (Some x)) test.1
              (solved_change data_.signature rule moves.fair f.solves);
        }

    by_outcome : (s : Shape) (made : Entry) (draft : Draft) → draft_of data_ canon specification.processes s part ≡ Some draft
        → rule.applies draft.label ≡ true → SolvesTo canon (changed_draft rule draft) (Some made)
        → (o : Option Entry) → SolvesTo canon draft o → ComesBy rule part s made
    by_outcome s made draft drafted applies solved o solves =
        let same : option_map (changed rule) o ≡ Some made =
        determined (solved_change data_.signature rule moves.fair solves) solved in
        let from : (e : Entry) × (o ≡ Some e) × (changed rule e ≡ made) = mapped (changed rule) o same in
        let solves' : SolvesTo canon draft (Some from.0) = subst (SolvesTo canon draft) from.1 solves in
        record {
          entry = from.0;
          form = record { draft = draft; drafted = drafted; solves = solves' };
          gives = ap (λ (t : Bool). if t then Some (changed rule from.0) else None) (kind_of s draft from.0 drafted solves' ∙ applies)
              ∙ ap (λ (x : Entry). Some x) from.2;
        }

    comes_from : (s : Shape) (made : Entry) → IsSolvedForm data_ canon specification whole (rule.variant s) made
        → ComesBy rule part s made
    comes_from s made f =
        let d = chained (draft_by_rule rule) (draft_of data_ canon specification.processes s part) (sym (moves.drafts s) ∙ f.drafted) in
        let test = tested (rule.applies d.0.label) (changed_draft rule d.0) d.2 in
        let o = solving_any.outcome data_ canon d.0 moves.over.is_canon
        (form_order data_ canon specification part s d.0 moves.over d.1) in
        by_outcome s made d.0 d.1 test.0 (subst (λ (x : Draft). SolvesTo canon x (Some made)) (sym test.1) f.solves) o.0 o.1

    pub carries : Carries rule whole part
    carries = record { keeps = moves.fair.keeps; forward = made_entry; back = comes_from }
