use Rattle.std.proofs.Common.{List, [], refl}
use Rattle.lotos_base.specs.Term.{Term}
use Rattle.behaviour_semantics.specs.Solving.{Entry, settled}
use Rattle.behaviour_semantics.specs.Menu.{Meets}
use Rattle.worked_cases.specs.BehaviourSamples.{sample_data}
use Rattle.worked_cases.specs.OfferCases.{over_nothing, over_nothing_entry, over_nothing_lines}
use Rattle.worked_cases.specs.Showing.{HasMenu}
use Rattle.worked_cases.proofs.CaseLemmas.{no_value, one_entry}
use Rattle.worked_cases.proofs.ShownMenus.{menu, no_transition}
use Rattle.worked_cases.proofs.cases.an_empty_choice_has_no_instance.Goals as goal

none : (values : List Term) → Meets sample_data over_nothing_entry values → ⊥
none values h = no_value values h.sorted

shown : HasMenu [] over_nothing over_nothing_lines
shown = menu _ _ 9 _ refl refl refl (settled _ refl refl, tt)

pub returns : goal.returns
returns c = record {
  menu = shown;
  no_instance = none;
  no_transition = no_transition [] over_nothing over_nothing_lines shown
      (λ e values listed meets. none values (one_entry (λ (x : Entry). Meets sample_data x values) over_nothing_entry e listed meets));
}
