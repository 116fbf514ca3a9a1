-- What the entries of an exact menu stand for: their instances are transitions, a plain one has exactly one, and where there is no
-- entry there is no transition.
use Rattle.std.specs.Prelude.{◌≡◌, List, []}
use Rattle.lotos_base.specs.Term.{Term}
use Rattle.lotos_base.specs.Equation.{Data}
use Rattle.behaviour_semantics.specs.Behaviour.{Behaviour, Process}
use Rattle.behaviour_semantics.specs.Label.{Label}
use Rattle.behaviour_semantics.specs.Shape.{Derivation}
use Rattle.behaviour_semantics.specs.Derives.{Derives}
use Rattle.behaviour_semantics.specs.Transition.{Transition}
use Rattle.behaviour_semantics.specs.Solving.{Entry}
use Rattle.behaviour_semantics.specs.Menu.{EqualTerms, EqualLabels, Meets, label_at, IsEntry, Exact}

module _ (data_ : Data) (processes : List Process) (b : Behaviour) where
  -- A transition with a label equal to this one.
  pub record HasTransition (shown : Label) : Type 0 where
    pub label : Label
    pub target : Behaviour
    pub transition : Transition data_ processes b label target
    pub equal : EqualLabels data_ shown label

  -- An entry of the menu, with values that meet its conditions, whose label with these values equals the other one.
  pub record HasInstance (entries : List Entry) (label : Label) : Type 0 where
    pub entry : Entry
    pub listed : IsEntry entries entry
    pub values : List Term
    pub meets : Meets data_ entry values
    pub equal : EqualLabels data_ (label_at entry values) label

  -- No values are asked for, and with none of them the entry has an instance and no other one: a transition has its label, and
  -- each derivation of its shape has its label and its leaves.
  pub record HasOneInstance (entry : Entry) : Type 0 where
    pub meets : Meets data_ entry []
    pub alone : (values : List Term) → Meets data_ entry values → values ≡ []
    pub there : HasTransition entry.label
    pub only :
        (d : Derivation) (label : Label) (target : Behaviour) →
        Derives data_ processes b d label target →
        d.shape ≡ entry.shape →
        EqualLabels data_ entry.label label × EqualTerms data_ entry.leaves d.leaves

-- an entry without variables and conditions
pub record IsPlain (entry : Entry) : Type 0 where
  pub no_variables : entry.variables ≡ []
  pub no_conditions : entry.conditions ≡ []

pub record InstancesAreTransitions : Type 0 where
  -- values that meet an entry's conditions give a transition
  pub sound :
      (data_ : Data) (canon : Term → Term) (processes : List Process) (b : Behaviour) (entries : List Entry) →
      Exact data_ canon processes b entries →
      (entry : Entry) (values : List Term) →
      IsEntry entries entry →
      Meets data_ entry values →
      HasTransition data_ processes b (label_at entry values)
  -- and each transition comes so
  pub complete :
      (data_ : Data) (canon : Term → Term) (processes : List Process) (b : Behaviour) (entries : List Entry) →
      Exact data_ canon processes b entries →
      (label : Label) (target : Behaviour) →
      Transition data_ processes b label target →
      HasInstance data_ processes b entries label

abbrev pub PlainEntriesAreOneTransition : Type 0
PlainEntriesAreOneTransition =
    (data_ : Data) (canon : Term → Term) (processes : List Process) (b : Behaviour) (entries : List Entry) →
    Exact data_ canon processes b entries →
    (entry : Entry) →
    IsEntry entries entry →
    IsPlain entry →
    HasOneInstance data_ processes b entry

abbrev pub EmptyMenusMeanNoTransition : Type 0
EmptyMenusMeanNoTransition =
    (data_ : Data) (canon : Term → Term) (processes : List Process) (b : Behaviour) →
    Exact data_ canon processes b [] →
    (label : Label) (target : Behaviour) →
    Transition data_ processes b label target →
    ⊥
