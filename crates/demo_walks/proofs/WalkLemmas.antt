-- Walks, step by step.
use Rattle.std.proofs.Common.{◌≡◌, ◌≤◌, ℕ, zero, suc, ◌+◌, ◌*◌, List, [], ◌∷◌, ◌++◌, length, map, Option, None, Some, option_map, refl, sym, ap, ◌∙◌, subst, arith, add-one}
use Rattle.history_lines.proofs.HandedOn.{over_same}
use Rattle.lotos_base.specs.Equation.{Data}
use Rattle.lotos_base.specs.Term.{Term}
use Rattle.behaviour_semantics.specs.Label.{Label}
use Rattle.history_lines.specs.HandedOn.{SessionBasis, Item, PastStep, Situation, Progress, stepped, HasStepped, StepRefusal, step_refusal}
use Rattle.history_lines.specs.HandedOn.{basis_over, IsLawfulSession, Session, label_of, Spec}
use Rattle.demo_walks.specs.DemoWalk.{WalkStep, WalkValues, Goes, GoesThrough, cell_step, round_steps, rounds_steps, is_refused}
use Rattle.demo_walks.specs.DemoSummary.{entries_before, entries_seen, later_label, last_label}
use Rattle.demo_walks.specs.WalkView.{IsOnWalk, most_entries, walk_reached}
use Rattle.demo_walks.specs.declared.tallies.Tally.{Tally}

-- ---- Steps one after another

pub goes_on : (basis : SessionBasis) (steps more : List WalkStep) (before middle after : Progress) → GoesThrough basis steps before middle
    → GoesThrough basis more middle after → GoesThrough basis (steps ++ more) before after
goes_on basis [] more before middle after here there = subst (λ (p : Progress). GoesThrough basis more p after) here there
goes_on basis (step ∷ steps) more before middle after here there =
    (here.0, here.1, goes_on basis steps more here.0 middle after here.2 there)

pub goes_once : (basis : SessionBasis) (steps : List WalkStep) (step : WalkStep) (before middle after : Progress)
    → GoesThrough basis steps before middle → Goes basis step middle after → GoesThrough basis (steps ++ (step ∷ [])) before after
goes_once basis steps step before middle after here last =
    goes_on basis steps (step ∷ []) before middle after here (after, last, refl)

-- one cell more of a round, and one round more
pub one_cell : (basis : SessionBasis) (values : WalkValues) (cell : ℕ) (before middle after : Progress)
    → GoesThrough basis (round_steps values cell) before middle → Goes basis (cell_step values cell) middle after
    → GoesThrough basis (round_steps values (cell + 1)) before after
one_cell basis values cell before middle after here last =
    subst (λ (n : ℕ). GoesThrough basis (round_steps values n) before after) (sym (add-one cell))
    (goes_once basis (round_steps values cell) (cell_step values cell) before middle after here last)

pub one_round : (basis : SessionBasis) (values : WalkValues) (cells round : ℕ) (before middle after : Progress)
    → GoesThrough basis (rounds_steps values cells round) before middle → GoesThrough basis (round_steps values cells) middle after
    → GoesThrough basis (rounds_steps values cells (round + 1)) before after
one_round basis values cells round before middle after here last =
    subst (λ (n : ℕ). GoesThrough basis (rounds_steps values cells n) before after) (sym (add-one round))
    (goes_on basis (rounds_steps values cells round) (round_steps values cells) before middle after here last)

-- ---- What a step adds to the counts

entries_more : (steps : List PastStep) (step : PastStep)
    → entries_before (steps ++ (step ∷ [])) ≡ entries_before steps + length step.before.menu
entries_more [] step = omega arith
entries_more (first ∷ steps) step = let more = entries_more steps step in omega (arith, more)

label_more : (label : Option Label) (steps : List PastStep) (step : PastStep)
    → later_label label (steps ++ (step ∷ [])) ≡ Some step.item.label
label_more label [] step = refl
label_more label (first ∷ steps) step = label_more (Some first.item.label) steps step

steps_more : (steps : List PastStep) (step : PastStep) → length (steps ++ (step ∷ [])) ≡ length steps + 1
steps_more [] step = refl
steps_more (first ∷ steps) step = let more = steps_more steps step in omega (arith, more)

-- how many steps there are, how many entries were seen, and the last label
pub record IsOneMore (old new : Progress) (label : Label) : Type 0 where
  pub steps : length new.steps ≡ length old.steps + 1
  pub entries : entries_seen new ≡ entries_seen old + length new.situation.menu
  pub last : last_label new.steps ≡ Some label

pub one_more : (basis : SessionBasis) (old new : Progress) (number : ℕ) (values : List Term) (label : Label)
    → HasStepped basis old number values label new → IsOneMore old new label
one_more basis old new number values label h =
    let past : PastStep = record { item = h.item; before = old.situation } in
    subst (λ (p : Progress). IsOneMore old p label) (sym h.appended) (record {
      steps = steps_more old.steps past;
      entries = ap (λ (n : ℕ). n + length h.next.menu) (entries_more old.steps past);
      last = label_more None old.steps past ∙ ap Some h.labelled;
    })

-- ---- Facts over data that stay the same

-- ---- A step of the code

bound_more : (old new menu before after : ℕ) → new ≡ old + menu → old ≤ (before + 1) * most_entries → menu ≤ most_entries
    → after ≡ before + 1 → new ≤ (after + 1) * most_entries
bound_more old new menu before after is bounded few more = omega (arith, is, bounded, few, more)

-- the session has taken a step, and it is noted
pub still_on_walk : {M : Type 0} (suits : M → Spec → Data → (Term → Term) → Type 0) (data_ : Data) (canon : Term → Term)
    (old new : Session M) (tally noted : Tally) (label : Label) → IsOnWalk suits data_ canon old tally
    → IsLawfulSession suits data_ canon new → IsOneMore (walk_reached old) (walk_reached new) label
    → noted.steps ≡ length (walk_reached new).steps → noted.entries ≡ tally.entries + length (walk_reached new).situation.menu
    → length (walk_reached new).situation.menu ≤ most_entries → option_map label_of noted.last ≡ Some label
    → IsOnWalk suits data_ canon new noted
still_on_walk suits data_ canon old new tally noted label on lawful more steps entries few last = record {
  lawful = lawful;
  steps = steps;
  entries = entries ∙ ap (λ (n : ℕ). n + length (walk_reached new).situation.menu) on.entries ∙ sym more.entries;
  bounded = bound_more tally.entries noted.entries _ (length (walk_reached old).steps) _ entries on.bounded few more.steps;
  label = last ∙ sym more.last;
}

-- a step that is refused leaves the session where it was
pub goes_nowhere : (basis : SessionBasis) (old new : Progress) (number : ℕ) (values : List Term) → new ≡ old
    → (why : StepRefusal) × (step_refusal basis old.situation.menu number values ≡ Some why)
    → Goes basis (record { number = number; values = Some values }) old new
goes_nowhere basis old new number values same h = is_refused values h.0 refl h.1 same

pub over_same_spec : (known other : Data) (canon another : Term → Term) (spec later : Spec) (P : SessionBasis → Type 0) → other ≡ known
    → another ≡ canon → later ≡ spec → P (basis_over other another later) → P (basis_over known canon spec)
over_same_spec known other canon another spec later P same same_canon same_spec h =
    subst (λ (s : Spec). P (basis_over known canon s)) same_spec
    (over_same known other canon another (λ (d : Data) (k : Term → Term). P (basis_over d k later)) same same_canon h)
