-- Same data: equal terms are equal over both, canons are canons, and behaviours have the same transitions.
use Rattle.std.proofs.Common.{◌≡◌, ℕ, zero, suc, List, [], ◌∷◌, Some, slice_get, refl, sym, ◌∙◌, subst}
use Rattle.lotos_base.specs.Term.{Term}
use Rattle.lotos_base.specs.Substitution.{Substitution, substituted, IsGrounding}
use Rattle.lotos_base.specs.Equation.{Equation, Data}
use Rattle.lotos_base.specs.Equality.{Direction, forward, backward, old_side, new_side, Link, Equal, same_term, link_then}
use Rattle.lotos_base.specs.Canon.{IsCanon}
use Rattle.lotos_base.specs.Path.{subterm, put_at}
use Rattle.behaviour_semantics.specs.Behaviour.{Behaviour, Test, Process, Specification}
use Rattle.behaviour_semantics.specs.Label.{Label}
use Rattle.behaviour_semantics.specs.Rule.{AllHold}
use Rattle.behaviour_semantics.specs.Transition.{Transition, exits, acts, acts_inside, guard_holds, chooses_left, chooses_right, left_alone, right_alone, both_act, both_exit, hides, shows, inside_hide, exit_of_hide, goes_on, enables, left_goes_on, left_ends, disables, lets, chooses_value, chooses_gate, par_copies, calls, relabels}
use Rattle.behaviour_semantics.specs.WellFormed.{AreOver}
use Rattle.behaviour_semantics.proofs.OptionLemmas.{some_value}
use Rattle.certificate_theory.specs.SameData.{AreOneEquation, AreSameEquations, AreSameData}
use Rattle.certificate_theory.specs.SameDataLaws.{SameDataAreInterchangeable}
use Rattle.certificate_theory.proofs.SameSignatures.{AgreeSignatures, agree_turned, has_sort, is_term, is_ground_of, are_values, sorts_asked, same_sorts_asked, is_behaviour, is_specification, is_well_formed}

equation_back : (one other : Equation) → AreOneEquation one other → AreOneEquation other one
equation_back one other same = record { left = sym same.left; right = sym same.right }

equations_back : (equations others : List Equation) → AreSameEquations equations others → AreSameEquations others equations
equations_back [] [] same = tt
equations_back (e ∷ equations) (f ∷ others) same = (equation_back e f same.0, equations_back equations others same.1)
equations_back [] (f ∷ others) same = absurd same
equations_back (e ∷ equations) [] same = absurd same

equation_at : (equations others : List Equation) → AreSameEquations equations others → (i : ℕ) (e : Equation)
    → slice_get equations i ≡ Some e → (f : Equation) × (slice_get others i ≡ Some f) × AreOneEquation e f
equation_at [] [] same i e at = absurd (cc at)
equation_at (d ∷ equations) (f ∷ others) same zero e at =
    (f, refl, subst (λ (z : Equation). AreOneEquation z f) (some_value at) same.0)
equation_at (d ∷ equations) (f ∷ others) same (suc i) e at = equation_at equations others same.1 i e at
equation_at [] (f ∷ others) same i e at = absurd same
equation_at (d ∷ equations) [] same i e at = absurd same

pub signatures_agree : (data_ other : Data) → AreSameData data_ other → AgreeSignatures data_.signature other.signature
signatures_agree data_ other same = record { sorts = same.sorts; operations = same.operations }

pub data_turned : (data_ other : Data) → AreSameData data_ other → AreSameData other data_
data_turned data_ other same =
    let back : AgreeSignatures other.signature data_.signature =
    agree_turned data_.signature other.signature (signatures_agree data_ other same) in
    record {
      sorts = back.sorts;
      operations = back.operations;
      equations = equations_back data_.equations other.equations same.equations;
    }

one_side : (direction : Direction) (one other : Equation) → AreOneEquation one other → old_side direction one ≡ old_side direction other
one_side forward one other same = same.left
one_side backward one other same = same.right

another_side : (direction : Direction) (one other : Equation) → AreOneEquation one other → new_side direction one ≡ new_side direction other
another_side forward one other same = same.right
another_side backward one other same = same.left

module _ (data_ other : Data) (same : AreSameData data_ other) where
  abbrev agree : AgreeSignatures data_.signature other.signature
  agree = signatures_agree data_ other same

  grounding_over : (t : Term) (values : Substitution) → IsGrounding data_.signature t values → IsGrounding other.signature t values
  grounding_over t values grounds n s o = is_ground_of data_.signature other.signature agree s (values n s) (grounds n s o)

  link_over : (t u : Term) → Link data_ t u → Link other t u
  link_over t u link =
      let at = equation_at data_.equations other.equations same.equations link.is_equation.0 link.equation link.is_equation.1 in
      record {
        path = link.path;
        equation = at.0;
        is_equation = (link.is_equation.0, at.1);
        values = link.values;
        is_instance = record {
          left = subst (λ (z : Term). IsGrounding other.signature z link.values) at.2.left
              (grounding_over link.equation.left link.values link.is_instance.left);
          right = subst (λ (z : Term). IsGrounding other.signature z link.values) at.2.right
              (grounding_over link.equation.right link.values link.is_instance.right);
        };
        direction = link.direction;
        old = subst (λ (z : Term). subterm link.path t ≡ Some (substituted link.values z))
            (one_side link.direction link.equation at.0 at.2) link.old;
        new = subst (λ (z : Term). put_at link.path (substituted link.values z) t ≡ Some u)
            (another_side link.direction link.equation at.0 at.2) link.new;
      }

  pub equal_over : {t u : Term} → Equal data_ t u → Equal other t u
  equal_over (same_term t) = same_term t
  equal_over (link_then {t = t} {u = u} link chain) = link_then (link_over t u link) (equal_over chain)

  all_hold : (tests : List Test) → AllHold data_ tests → AllHold other tests
  all_hold [] h = tt
  all_hold (test ∷ tests) h = (equal_over h.0, all_hold tests h.1)

  pub transition_over : {processes : List Process} {b : Behaviour} {label : Label} {target : Behaviour}
      → Transition data_ processes b label target → Transition other processes b label target
  transition_over (exits results chosen values) = exits results chosen (are_values data_.signature other.signature agree _ chosen values)
  transition_over (acts g offers test b chosen values holds) =
      acts g offers test b chosen (are_values data_.signature other.signature agree _ chosen values) (all_hold _ holds)
  transition_over (acts_inside b) = acts_inside b
  transition_over (guard_holds holds moves) = guard_holds (equal_over holds) (transition_over moves)
  transition_over (chooses_left moves) = chooses_left (transition_over moves)
  transition_over (chooses_right moves) = chooses_right (transition_over moves)
  transition_over (left_alone moves alone) = left_alone (transition_over moves) alone
  transition_over (right_alone moves alone) = right_alone (transition_over moves) alone
  transition_over (both_act {us = us} {vs = vs} one two meets sorts holds) =
      both_act (transition_over one) (transition_over two) meets
      (sym (same_sorts_asked data_.signature other.signature agree us vs) ∙ sorts) (all_hold _ holds)
  transition_over (both_exit {us = us} {vs = vs} one two sorts holds) =
      both_exit (transition_over one) (transition_over two)
      (sym (same_sorts_asked data_.signature other.signature agree us vs) ∙ sorts) (all_hold _ holds)
  transition_over (hides moves listed) = hides (transition_over moves) listed
  transition_over (shows moves listed) = shows (transition_over moves) listed
  transition_over (inside_hide moves) = inside_hide (transition_over moves)
  transition_over (exit_of_hide moves) = exit_of_hide (transition_over moves)
  transition_over (goes_on moves no_exit) = goes_on (transition_over moves) no_exit
  transition_over (enables {values = values} moves sorts) =
      enables (transition_over moves) (sym (sorts_asked data_.signature other.signature agree values _) ∙ sorts)
  transition_over (left_goes_on moves no_exit) = left_goes_on (transition_over moves) no_exit
  transition_over (left_ends moves) = left_ends (transition_over moves)
  transition_over (disables moves) = disables (transition_over moves)
  transition_over (lets moves) = lets (transition_over moves)
  transition_over (chooses_value v ground moves) =
      chooses_value v (is_ground_of data_.signature other.signature agree _ v ground) (transition_over moves)
  transition_over (chooses_gate k a at moves) = chooses_gate k a at (transition_over moves)
  transition_over (par_copies moves) = par_copies (transition_over moves)
  transition_over (calls process at moves) = calls process at (transition_over moves)
  transition_over (relabels moves) = relabels (transition_over moves)

-- A canon of the one data is one of the other.
canon_over : (data_ other : Data) → AreSameData data_ other → (canon : Term → Term) → IsCanon data_ canon → IsCanon other canon
canon_over data_ other same canon is =
    let there : AgreeSignatures data_.signature other.signature = signatures_agree data_ other same in
    let back : AgreeSignatures other.signature data_.signature = agree_turned data_.signature other.signature there in
    let turned : AreSameData other data_ = data_turned data_ other same in
    record {
      sorts = λ t s h. has_sort data_.signature other.signature there (canon t) s
          (is.sorts t s (has_sort other.signature data_.signature back t s h));
      instances = λ t values term grounds. equal_over data_ other same
          (is.instances t values (is_term other.signature data_.signature back t term)
          (λ n s o. is_ground_of other.signature data_.signature back s (values n s) (grounds n s o)));
      decides = λ t u s g h equal. is.decides t u s (is_ground_of other.signature data_.signature back s t g)
          (is_ground_of other.signature data_.signature back s u h) (equal_over other data_ turned equal);
      settled = λ t term. is.settled t (is_term other.signature data_.signature back t term);
      occurring = λ t n s term o. is.occurring t n s (is_term other.signature data_.signature back t term) o;
      variables = is.variables;
      substitutes = λ t values term keeps. is.substitutes t values (is_term other.signature data_.signature back t term)
          (λ n s o. has_sort other.signature data_.signature back (values n s) s (keeps n s o));
      renames = λ t number term apart. is.renames t number (is_term other.signature data_.signature back t term) apart;
    }

over_other : (data_ other : Data) (canon : Term → Term) (specification : Specification) (b : Behaviour) → AreSameData data_ other
    → AreOver data_ canon specification b → AreOver other canon specification b
over_other data_ other canon specification b same over =
    let there : AgreeSignatures data_.signature other.signature = signatures_agree data_ other same in
    record {
      signature = is_well_formed data_.signature other.signature there over.signature;
      is_canon = canon_over data_ other same canon over.is_canon;
      well_formed = is_specification data_.signature other.signature there specification over.well_formed;
      closed = is_behaviour data_.signature other.signature there _ specification.processes [] b over.closed;
    }

pub interchangeable : SameDataAreInterchangeable
interchangeable = record {
  mutual_data = data_turned;
  sorts = λ data_ other t s same h. has_sort data_.signature other.signature (signatures_agree data_ other same) t s h;
  equality = λ data_ other t u same equal. equal_over data_ other same equal;
  specifications = λ data_ other specification same fine.
      is_specification data_.signature other.signature (signatures_agree data_ other same) specification fine;
  over = over_other;
  transitions = λ data_ other processes b label target same moves. transition_over data_ other same moves;
}
