-- What sessions of the code keep: their states are of the specification, their terms are of the signature, and they are lawful.
use Rattle.lotos_base.specs.Signature.{Signature, IsWellFormedSignature}
use Rattle.lotos_base.specs.Term.{Term}
use Rattle.lotos_base.specs.Equation.{Data}
use Rattle.behaviour_semantics.specs.WellFormed.{Every}
use Rattle.behaviour_tree.specs.BehaviourTerms.{profiles_of}
use Rattle.behaviour_tree.specs.Closed.{IsClosedNode}
use Rattle.behaviour_tree.specs.Over.{AreTermsOf, IsSpecOver, IsStateOf}
use Rattle.behaviour_tree.specs.declared.definitions.Spec.{Spec}
use Rattle.behaviour_tree.specs.declared.states.State.{State}
use Rattle.menu_builder.specs.HandedOn.{label_profiles, IsEntryOf, Menu, AreRanksOf, Ranks, menu_entries}
use Rattle.session_histories.specs.Lawful.{IsLawful}
use Rattle.session_log.specs.CourseView.{basis_over, progress_of}
use Rattle.session_log.specs.declared.courses.Past.{Past}
use Rattle.session_log.specs.declared.courses.Course.{Course}
use Rattle.session_log.specs.declared.sessions.Session.{Session}

-- The state is of the specification and closed.
pub record IsKeptState (signature : Signature) (spec : Spec) (state : State) : Type 0 where
  pub over : IsStateOf signature spec state
  pub closed : IsClosedNode state.node

-- The entries of the menu are in order over the signature.
abbrev pub IsKeptMenu : Signature → Menu → Type 0
IsKeptMenu signature menu = Every (IsEntryOf signature) (menu_entries menu)

-- So are the state and the menu before a step, and the terms of its values and of its label are of the signature.
pub record IsKeptPast (signature : Signature) (spec : Spec) (past : Past) : Type 0 where
  pub state : IsKeptState signature spec past.state
  pub menu : IsKeptMenu signature past.menu
  pub values : AreTermsOf signature (profiles_of past.values.items)
  pub label : AreTermsOf signature (label_profiles past.label)

-- All that a course holds is so, and it is lawful.
pub record IsKeptCourse (data_ : Data) (canon : Term → Term) (spec : Spec) (course : Course) : Type 0 where
  pub state : IsKeptState data_.signature spec course.state
  pub menu : IsKeptMenu data_.signature course.menu
  pub history : Every (IsKeptPast data_.signature spec) course.history.items
  pub lawful : IsLawful (basis_over data_ canon spec) (progress_of course)

-- The specification and its ranks are over the signature, and the maker of menus suits them. `suits` says which makers suit.
pub record AreSuited {M : Type 0} (suits : M → Spec → Data → (Term → Term) → Type 0) (data_ : Data) (canon : Term → Term) (spec : Spec)
    (ranks : Ranks) (maker : M) : Type 0 where
  pub signature : IsWellFormedSignature data_.signature
  pub over : IsSpecOver data_.signature spec
  pub ranked : AreRanksOf spec ranks
  pub fitting : suits maker spec data_ canon

-- The session is lawful over the data.
pub record IsLawfulSession {M : Type 0} (suits : M → Spec → Data → (Term → Term) → Type 0) (data_ : Data) (canon : Term → Term)
    (session : Session M) : Type 0 where
  pub suited : AreSuited suits data_ canon session.spec session.ranks session.maker
  pub course : IsKeptCourse data_ canon session.spec session.course
