-- Worked cases on behaviours that are identical and on data that are the same.
use Rattle.std.specs.Prelude.{◌≡◌, [], ◌∷◌, codes, true, false}
use Rattle.lotos_base.specs.Signature.{prefix_form}
use Rattle.lotos_base.specs.Substitution.{binding}
use Rattle.lotos_base.specs.Equation.{Data, Variable}
use Rattle.behaviour_semantics.specs.Behaviour.{Behaviour, stop, hide, give, ask}
use Rattle.certificate_theory.specs.Identity.{same_with, same_behaviour}
use Rattle.certificate_theory.specs.SameData.{AreSameData}
use Rattle.worked_cases.specs.BehaviourSamples.{one, two, nat, nat_variable, gate_a, gate_b, offering, event}
use Rattle.worked_cases.specs.MenuCases.{two_constants}
use Rattle.worked_cases.specs.ValueCases.{sum}

-- `a ?x:Nat; b !x; stop`, the same with `y` for `x`, and `b !x; stop`
abbrev pub asking_and_giving : Variable → Behaviour
asking_and_giving x = offering gate_a (ask x ∷ []) (offering gate_b (give (nat x.number) ∷ []) stop)

abbrev pub named_otherwise : Variable
named_otherwise = record { name = codes "y"; number = 0; sort = 1 }

abbrev pub giving_a_variable : Behaviour
giving_a_variable = offering gate_b (give (nat 0) ∷ []) stop

-- Identity is that of the written terms, with bound names and with lists in their order; what is put in does not reach below a
-- binder of the same number.
pub record IdentityIsTested : Type 0 where
  pub itself : same_behaviour (asking_and_giving (nat_variable 0)) (asking_and_giving (nat_variable 0)) ≡ true
  pub not_at_another_gate : same_behaviour (event gate_a stop) (event gate_b stop) ≡ false
  pub not_with_another_name : same_behaviour (asking_and_giving (nat_variable 0)) (asking_and_giving named_otherwise) ≡ false
  pub not_in_another_order :
      same_behaviour (hide (gate_a ∷ gate_b ∷ []) stop) (hide (gate_b ∷ gate_a ∷ []) stop) ≡ false
  pub put_in :
      same_with (binding ((0, one) ∷ [])) (binding []) giving_a_variable (offering gate_b (give one ∷ []) stop) ≡ true
  pub not_by_the_equations :
      same_with (binding ((0, sum) ∷ [])) (binding ((0, one) ∷ [])) giving_a_variable giving_a_variable ≡ false
  pub not_below_a_binder :
      same_with (binding ((0, one) ∷ [])) (binding ((0, two) ∷ [])) (asking_and_giving (nat_variable 0))
      (asking_and_giving (nat_variable 0)) ≡ true

-- Two constants of one sort with other spellings and origins, and in the other order.
abbrev pub spelled_otherwise : Data
spelled_otherwise = record {
  signature = record {
    sorts = record { name = codes "c"; origin = codes "Other" } ∷ [];
    operations =
        record { name = codes "C"; form = prefix_form; arguments = []; result = 0; origin = codes "Other" }
        ∷ record { name = codes "D"; form = prefix_form; arguments = []; result = 0; origin = codes "Other" }
        ∷ [];
  };
  equations = [];
}

abbrev pub in_another_order : Data
in_another_order = record {
  signature = record {
    sorts = record { name = codes "C"; origin = codes "T" } ∷ [];
    operations =
        record { name = codes "d"; form = prefix_form; arguments = []; result = 0; origin = codes "T" }
        ∷ record { name = codes "c"; form = prefix_form; arguments = []; result = 0; origin = codes "T" }
        ∷ [];
  };
  equations = [];
}

-- Data are the same one by one, whatever the spellings and origins.
pub record DataAreCompared : Type 0 where
  pub same : AreSameData two_constants spelled_otherwise
  pub not_in_another_order : AreSameData two_constants in_another_order → ⊥
