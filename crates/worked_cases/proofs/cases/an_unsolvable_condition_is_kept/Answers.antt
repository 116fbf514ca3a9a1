use Rattle.std.proofs.Common.{List, [], ◌∷◌, refl}
use Rattle.lotos_base.specs.Term.{Term}
use Rattle.behaviour_semantics.specs.Solving.{Entry, settled, replacing}
use Rattle.behaviour_semantics.specs.Menu.{Meets}
use Rattle.worked_cases.specs.BehaviourSamples.{sample_data}
use Rattle.worked_cases.specs.OfferCases.{chasing, chasing_entry, chasing_lines}
use Rattle.worked_cases.specs.Showing.{HasMenu}
use Rattle.worked_cases.proofs.CaseLemmas.{not_two_greater, one_entry}
use Rattle.worked_cases.proofs.ShownMenus.{menu, no_transition}
use Rattle.worked_cases.proofs.cases.an_unsolvable_condition_is_kept.Goals as goal

none : (values : List Term) → Meets sample_data chasing_entry values → ⊥
none [] h = h.sorted
none (v ∷ []) h = not_two_greater v h.sorted.0 h.met.0
none (v ∷ w ∷ values) h = h.sorted.1

shown : HasMenu [] chasing chasing_lines
shown = menu _ _ 9 _ refl refl refl (replacing _ _ _ refl refl (settled _ refl refl), tt)

pub returns : goal.returns
returns c = record {
  menu = shown;
  again = settled _ refl refl;
  no_instance = none;
  asked = refl;
  no_transition = no_transition [] chasing chasing_lines shown
      (λ e values listed meets. none values (one_entry (λ (x : Entry). Meets sample_data x values) chasing_entry e listed meets));
}
