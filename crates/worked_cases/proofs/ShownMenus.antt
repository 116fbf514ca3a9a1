-- What shows a case: lists and tests that compute.
use Rattle.std.proofs.Common.{◌≡◌, inl, inr, ℕ, List, [], ◌∷◌, map, true, Option, None, Some, refl, ap, subst}
use Rattle.std.specs.List.{cons_option}
use Rattle.lotos_base.specs.Term.{Term}
use Rattle.behaviour_semantics.specs.Behaviour.{Behaviour, Test, Process}
use Rattle.behaviour_semantics.specs.Label.{Label}
use Rattle.behaviour_semantics.specs.Shape.{Shape, Derivation}
use Rattle.behaviour_semantics.specs.Derives.{leaves_in}
use Rattle.behaviour_semantics.specs.Draft.{Draft, draft_of}
use Rattle.behaviour_semantics.specs.Solving.{Entry, SolvesTo}
use Rattle.behaviour_semantics.specs.Transition.{Transition}
use Rattle.behaviour_semantics.specs.Menu.{Meets, IsEntry, HasEntry}
use Rattle.behaviour_semantics.specs.WellFormed.{Every, AreOver}
use Rattle.behaviour_semantics.specs.Listing.{listed_drafts, AllSolveTo, none_left, entry_then, nothing_then}
use Rattle.behaviour_semantics.specs.Listing.{IsAmong}
use Rattle.behaviour_semantics.proofs.ListedDrafts.{sound_drafts, complete_drafts}
use Rattle.behaviour_semantics.proofs.ListedMenus.{exact_list}
use Rattle.behaviour_semantics.proofs.DraftFineness.{shape_of_draft}
use Rattle.behaviour_semantics.proofs.SupplyLemmas.{Supplies-leaves_in}
use Rattle.behaviour_semantics.proofs.RuleToMove.{Found, found}
use Rattle.worked_cases.specs.BehaviourSamples.{sample_signature, sample_data, sample_canon}
use Rattle.worked_cases.specs.Showing.{FittingShape, shapes_of, entries_of, sample_specification, HasMenu, Steps, KeptSteps, sample_move, move}
use Rattle.behaviour_semantics.specs.Move.{Setting, move_of}
use Rattle.worked_cases.proofs.SampleCanon.{sample_is_canon}
use Rattle.worked_cases.proofs.SampleSignature.{sample_signature_is_well_formed}
use Rattle.worked_cases.proofs.TermTests.{values_pass, values_in, all_hold, tests_hold}
use Rattle.worked_cases.proofs.WellFormedTests.{behaviour_passes, closed_behaviour, specification_passes, well_formed_specification}

abbrev drafts_of : List FittingShape → List Draft
drafts_of lines = map (λ (l : FittingShape). l.draft) lines

abbrev AllSolved : List FittingShape → Type 0
AllSolved lines = Every (λ (l : FittingShape). SolvesTo sample_canon l.draft l.entry) lines

one_solved : (draft : Draft) (drafts : List Draft) (entries : List Entry) (outcome : Option Entry) → SolvesTo sample_canon draft outcome
    → AllSolveTo sample_canon drafts entries → AllSolveTo sample_canon (draft ∷ drafts) (cons_option outcome entries)
one_solved draft drafts entries None solves rest = nothing_then solves rest
one_solved draft drafts entries (Some entry) solves rest = entry_then solves rest

lines_solved : (lines : List FittingShape) → AllSolved lines → AllSolveTo sample_canon (drafts_of lines) (entries_of lines)
lines_solved [] h = none_left
lines_solved (l ∷ lines) h = one_solved l.draft (drafts_of lines) (entries_of lines) l.entry h.0 (lines_solved lines h.1)

module _ (processes : List Process) (b : Behaviour) where
  abbrev Listed : List Draft → Type 0
  Listed drafts = Every (λ (d : Draft). draft_of sample_data sample_canon processes d.shape b ≡ Some d) drafts

  all_listed : (drafts : List Draft) → ((d : Draft) → IsAmong d drafts → draft_of sample_data sample_canon processes d.shape b ≡ Some d)
      → Listed drafts
  all_listed [] h = tt
  all_listed (d ∷ drafts) h = (h d (inl refl), all_listed drafts (λ e a. h e (inr a)))

  listed_lines : (lines : List FittingShape) → Listed (drafts_of lines)
      → Every (λ (l : FittingShape). draft_of sample_data sample_canon processes l.draft.shape b ≡ Some l.draft) lines
  listed_lines [] h = tt
  listed_lines (l ∷ lines) h = (h.0, listed_lines lines h.1)

  among_shapes : (lines : List FittingShape) (d : Draft) → IsAmong d (drafts_of lines) → IsAmong d.shape (shapes_of lines)
  among_shapes [] d a = absurd a
  among_shapes (l ∷ lines) d (inl same) = inl (ap (λ (e : Draft). e.shape) same)
  among_shapes (l ∷ lines) d (inr a) = inr (among_shapes lines d a)

  pub over_sample : specification_passes sample_signature (sample_specification processes) ≡ true
      → behaviour_passes sample_signature (sample_specification processes) b ≡ true
      → AreOver sample_data sample_canon (sample_specification processes) b
  over_sample specification_ok behaviour_ok = record {
    signature = sample_signature_is_well_formed;
    is_canon = sample_is_canon;
    well_formed = well_formed_specification sample_signature (sample_specification processes) specification_ok;
    closed = closed_behaviour sample_signature (sample_specification processes) b behaviour_ok;
  }

  -- The menu is shown by the list of drafts to some depth, the outcome of each, and the two tests.
  pub menu : (depth : ℕ) (lines : List FittingShape) → specification_passes sample_signature (sample_specification processes) ≡ true
      → behaviour_passes sample_signature (sample_specification processes) b ≡ true
      → listed_drafts sample_data sample_canon processes depth b ≡ Some (drafts_of lines) → AllSolved lines → HasMenu processes b lines
  menu depth lines specification_ok behaviour_ok list solved =
      let over : AreOver sample_data sample_canon (sample_specification processes) b = over_sample specification_ok behaviour_ok in
      record {
        over = over;
        drafts = listed_lines lines (all_listed (drafts_of lines)
            (sound_drafts sample_data sample_canon processes b depth (drafts_of lines) list));
        no_other = λ shape fits.
            let d : Draft = fits.0 in
            subst (λ (s : Shape). IsAmong s (shapes_of lines)) (shape_of_draft sample_data sample_canon processes shape b d fits.1)
            (among_shapes lines d (complete_drafts sample_data sample_canon processes b depth (drafts_of lines) list shape d fits.1));
        solved = solved;
        exact = exact_list sample_data sample_canon (sample_specification processes) b depth (drafts_of lines) (entries_of lines) over list
            (lines_solved lines solved);
      }

  -- The setting of a step with values in canonical form.
  abbrev pub kept_setting : Setting
  kept_setting = record { signature = sample_signature; represent = sample_canon; processes = processes }

  -- A step is shown by its move and by tests of the leaves and of what is asked.
  pub steps : (shape : Shape) (leaves : List Term) (label : Label) (target : Behaviour) (asked : List Test) (sorts : List ℕ)
      → sample_move processes b shape leaves ≡ move label target asked sorts → values_pass sample_signature sorts leaves ≡ true
      → all_hold sample_signature sample_canon asked ≡ true → Steps processes b shape leaves label target
  steps shape leaves label target asked sorts moves values tests = record {
    asked = asked;
    sorts = sorts;
    move = moves;
    leaves = values_in sample_signature sorts leaves values;
    holds = tests_hold sample_data sample_canon sample_is_canon asked tests;
  }

  pub kept_steps : (shape : Shape) (leaves : List Term) (label : Label) (target : Behaviour) (asked : List Test) (sorts : List ℕ)
      → move_of kept_setting (leaves_in leaves) shape 0 b ≡ move label target asked sorts → values_pass sample_signature sorts leaves ≡ true
      → all_hold sample_signature sample_canon asked ≡ true → KeptSteps processes b shape leaves label target
  kept_steps shape leaves label target asked sorts moves values tests = record {
    asked = asked;
    sorts = sorts;
    move = moves;
    leaves = values_in sample_signature sorts leaves values;
    holds = tests_hold sample_data sample_canon sample_is_canon asked tests;
  }

  -- Each transition has its entry in the menu.
  pub entry_of_transition : (lines : List FittingShape) → HasMenu processes b lines → (label : Label) (target : Behaviour)
      → Transition sample_data processes b label target → (d : Derivation) × HasEntry sample_data (entries_of lines) d label
  entry_of_transition lines m label target t =
      let f : Found sample_data processes b label target = found sample_data processes t in
      let d : Derivation = record { shape = f.shape; leaves = f.leaves } in (
        d,
        m.exact.complete d label target (record {
          asked = f.asked;
          sorts = f.sorts;
          move = f.moves (leaves_in f.leaves) 0 (Supplies-leaves_in f.leaves);
          leaves = f.sorted;
          holds = f.holds;
        }),
      )

  -- Where no entry has an instance, there is no transition.
  pub no_transition : (lines : List FittingShape) → HasMenu processes b lines
      → ((e : Entry) (values : List Term) → IsEntry (entries_of lines) e → Meets sample_data e values → ⊥)
      → (label : Label) (target : Behaviour) → Transition sample_data processes b label target → ⊥
  no_transition lines m none label target t =
      let h : _ = (entry_of_transition lines m label target t).1 in
      none h.entry h.values h.listed h.meets
