-- When two specifications are accepted alike, and when two sessions begin alike.
use Rattle.std.specs.Prelude.{◌≡◌, ◌↔◌, []}
use Rattle.behaviour_semantics.specs.Label.{Label}
use Rattle.lotos_top.specs.HandedOn.{Beginning, Progress, shown_menu, Founded, Acceptance}
use Rattle.lotos_top.specs.Opening.{opening_text}
use Rattle.session_laws.specs.SameBases.{AreSameBases}
use Rattle.declaration_laws.specs.SameSpecification.{AreSameSpecifications}
use Rattle.session_histories.specs.Lawful.{IsLawful}
use Rattle.session_histories.specs.Replay.{shown_label, shown_state}
use Rattle.printed_texts.specs.BehaviourText.{behaviour_text}
use Rattle.session_laws.specs.SameSpelling.{AreDataSpelledAlike}
use Rattle.session_laws.specs.SameTextsLaws.{naming_with}

-- up to the book of their data
pub record AreFoundedAlike (one other : Founded) : Type 0 where
  pub spelled : AreDataSpelledAlike one.data_ other.data_
  pub same : AreSameSpecifications one.spec other.spec
  pub same_items : one.items ≡ other.items

-- with start values
pub record AreAcceptedAlike (one other : Acceptance) : Type 0 where
  pub spelled : AreDataSpelledAlike one.data_ other.data_
  pub same : AreSameSpecifications one.spec other.spec
  pub same_items : one.items ≡ other.items
  pub same_values : one.values ≡ other.values

-- Two sessions go over the same and begin in the very same state with the very same menu; the very same progress is lawful in both;
-- what is printed before them is the same; labels, and menus wherever the sessions have come, are printed alike in both; and states
-- are so but for the names of processes, for which the other names stand.
pub record BeginAlike (one other : Beginning) : Type 0 where
  pub same_bases : AreSameBases one.basis other.basis
  pub same_progress : one.progress ≡ other.progress
  pub same_lawful : (progress : Progress) → IsLawful one.basis progress ↔ IsLawful other.basis progress
  pub same_opening : opening_text one ≡ opening_text other
  pub same_labels : (label : Label) → shown_label one.basis label ≡ shown_label other.basis label
  pub same_menus : (progress : Progress) → shown_menu one.basis progress ≡ shown_menu other.basis progress
  pub same_states :
      (progress : Progress) →
      behaviour_text (naming_with one.basis.data_ one.basis.specification other.basis.specification) [] progress.situation.state
      ≡ shown_state other.basis progress
