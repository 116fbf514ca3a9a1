-- The sessions of `session_histories` that those of the code stand for.
use Rattle.std.specs.Prelude.{List, map}
use Rattle.lotos_base.specs.Term.{Term}
use Rattle.lotos_base.specs.Equation.{Data}
use Rattle.behaviour_tree.specs.BehaviourView.{terms_of}
use Rattle.behaviour_tree.specs.DefinitionView.{specification_of}
use Rattle.behaviour_tree.specs.MoveView.{derivation_of, label_of}
use Rattle.behaviour_tree.specs.StateView.{state_of}
use Rattle.behaviour_tree.specs.declared.definitions.Spec.{Spec}
use Rattle.behaviour_tree.specs.declared.states.State.{State}
use Rattle.menu_builder.specs.HandedOn.{Menu}
use Rattle.menu_builder.specs.Menus.{entries_in}
use Rattle.session_histories.specs.Session.{SessionBasis, Item, Situation, PastStep, Progress}
use Rattle.session_log.specs.declared.courses.Past.{Past}
use Rattle.session_log.specs.declared.courses.Course.{Course}

-- what a session goes over
abbrev pub basis_over : Data → (Term → Term) → Spec → SessionBasis
basis_over data_ canon spec = record { data_ = data_; canon = canon; specification = specification_of spec }

-- a step, with the situation that it was taken in
abbrev pub past_item_of : Past → Item
past_item_of past = record {
  number = past.number;
  values = terms_of past.values.items;
  derivation = derivation_of past.derivation;
  label = label_of past.label;
}

abbrev pub situation_of : State → Menu → Situation
situation_of state menu = record { state = state_of state; menu = entries_in menu }

abbrev pub past_of : Past → PastStep
past_of past = record { item = past_item_of past; before = situation_of past.state past.menu }

abbrev pub pasts_of : List Past → List PastStep
pasts_of history = map past_of history

-- how far a session has come
abbrev pub progress_of : Course → Progress
progress_of course = record { situation = situation_of course.state course.menu; steps = pasts_of course.history.items }
