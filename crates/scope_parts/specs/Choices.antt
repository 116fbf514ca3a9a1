-- The gates that one `choice` or one `par` declares. Its declarations nest: each list of gates sees the names before it, and
-- the sign of a `par` is looked at once for each name, where the `par` of this name stands.
use Rattle.std.specs.Prelude.{ℕ, suc, List, [], ◌∷◌, map}
use Rattle.lotos_base.specs.WrittenTerm.{PlacedName}
use Rattle.syntax_trees.specs.WrittenBehaviour.{WrittenSign, choice_sign, interleaving, full_synchronisation, synchronising, disabling, enabling, WrittenGateChoice}
use Rattle.behaviour_semantics.specs.Behaviour.{Behaviour, choose_gate, par_gate, choose_value, SynchronisationSet, no_gates, all_gates, at_gates}
use Rattle.lotos_base.specs.Equation.{Variable}
use Rattle.scope_parts.specs.Resolution.{Resolution, resolved, and_then, put_in_front, beside}
use Rattle.scope_parts.specs.Scope.{Binding, bind, gates_at, first_double}

-- a declared gate with the gates that it stands for, and for a `par` the gates of its sign
pub record GateChoice : Type 0 where
  pub gate : ℕ
  pub among : List ℕ

pub record ParChoice : Type 0 where
  pub choice_ : GateChoice
  pub meet : SynchronisationSet

-- the gates of a parallel sign. Other signs do not stand there
abbrev pub sign_at : List Binding → WrittenSign → Resolution SynchronisationSet
sign_at gates choice_sign = resolved no_gates
sign_at gates interleaving = resolved no_gates
sign_at gates full_synchronisation = resolved all_gates
sign_at gates (synchronising names) = and_then (gates_at gates names) (λ numbers. resolved (at_gates numbers))
sign_at gates disabling = resolved no_gates
sign_at gates (enabling variables) = resolved no_gates

-- declared gates, numbered from a number on
abbrev pub choices_follow : List Binding → ℕ → List WrittenGateChoice → Resolution (List GateChoice)
choices_follow gates next [] = resolved []
choices_follow gates next (declared ∷ others) =
    and_then (gates_at gates declared.among)
    (λ among. put_in_front (record { gate = next; among = among }) (choices_follow (bind declared.name next gates) (suc next) others))

-- the sign at each of the declared gates
abbrev pub signs_follow : List Binding → ℕ → WrittenSign → List WrittenGateChoice → Resolution (List SynchronisationSet)
signs_follow gates next sign [] = resolved []
signs_follow gates next sign (declared ∷ others) =
    and_then (sign_at gates sign) (λ meet. put_in_front meet (signs_follow (bind declared.name next gates) (suc next) sign others))

-- each choice with the gates of its sign
abbrev pub with_signs : List GateChoice → List SynchronisationSet → List ParChoice
with_signs [] meets = []
with_signs (choice_ ∷ choices) [] = []
with_signs (choice_ ∷ choices) (meet ∷ meets) = record { choice_ = choice_; meet = meet } ∷ with_signs choices meets

-- declared gates with their places
abbrev pub placed_choice : WrittenGateChoice → PlacedName
placed_choice gate = record { place = gate.place; name = gate.name }

abbrev pub placed_choices : List WrittenGateChoice → List PlacedName
placed_choices gates = map placed_choice gates

-- the gates of one `choice`, in which no name may stand twice
abbrev pub choices_at : List Binding → ℕ → List WrittenGateChoice → Resolution (List GateChoice)
choices_at gates next declared = beside (first_double (placed_choices declared)) (choices_follow gates next declared)

-- the same of a `par`, whose sign stands behind them
abbrev pub par_choices_at : List Binding → ℕ → WrittenSign → List WrittenGateChoice → Resolution (List ParChoice)
par_choices_at gates next sign declared =
    and_then (choices_at gates next declared)
    (λ choices. and_then (signs_follow gates next sign declared) (λ meets. resolved (with_signs choices meets)))

-- a behaviour under choices, the first outermost
abbrev pub under_gates : List GateChoice → Behaviour → Behaviour
under_gates [] b = b
under_gates (choice_ ∷ choices) b = choose_gate choice_.gate choice_.among (under_gates choices b)

abbrev pub under_par : List ParChoice → Behaviour → Behaviour
under_par [] b = b
under_par (par ∷ pars) b = par_gate par.choice_.gate par.choice_.among par.meet (under_par pars b)

abbrev pub under_values : List Variable → Behaviour → Behaviour
under_values [] b = b
under_values (x ∷ variables) b = choose_value x (under_values variables b)
