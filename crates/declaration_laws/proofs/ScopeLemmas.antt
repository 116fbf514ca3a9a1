-- What a text stands for uses the gates that are visible where it stands.
use Rattle.std.proofs.Common.{◌≡◌, ◌⊎◌, inl, inr, ℕ, suc, ◌+◌, Bool, true, false, nat_eq, if◌then◌else◌, List, [], ◌∷◌, length, slice_get, Option, None, Some, refl, ap, sym, ◌∙◌, subst, arith}
use Rattle.std.proofs.lemmas.Bool.{eq-eqb}
use Rattle.std.proofs.lemmas.Option.{same_Some}
use Rattle.std.specs.Str.{bytes_eq}
use Rattle.lotos_base.specs.Equation.{Variable}
use Rattle.lotos_base.specs.Signature.{Signature}
use Rattle.lotos_base.specs.Names.{folded}
use Rattle.lotos_base.specs.Substitution.{is_listed}
use Rattle.lotos_base.specs.WrittenTerm.{PlacedName}
use Rattle.syntax_trees.specs.WrittenBehaviour as written
use Rattle.syntax_trees.specs.WrittenBehaviour.{WrittenBehaviour, WrittenSign, WrittenGateChoice, choice_sign, interleaving, full_synchronisation, synchronising, disabling, enabling}
use Rattle.behaviour_semantics.specs.Behaviour.{Behaviour, stop, Process, SynchronisationSet}
use Rattle.behaviour_semantics.specs.WellFormed.{Every, IsBehaviour}
use Rattle.scope_parts.specs.Resolution.{Resolution, resolved, faulty, and_then, put_in_front, beside}
use Rattle.scope_parts.specs.Scope.{Binding, Scope, bound_to, bind, bind_all, found_gate, gate_at, gates_at, first_double}
use Rattle.scope_parts.specs.Numbering.{Numbers, spelled_names, each_once, choice_names, past}
use Rattle.scope_parts.specs.Choices.{GateChoice, ParChoice, choices_follow, signs_follow, sign_at, with_signs, placed_choices, choices_at, par_choices_at, under_gates, under_par, under_values}
use Rattle.scope_parts.specs.Behaviours.{numbers_from, SignIs, BehaviourIs}
use Rattle.scope_parts.proofs.FormedLists.{same_resolved}
use Rattle.declaration_laws.specs.VisibleGates.{IsOneOf, UsesOnly}
use Rattle.declaration_laws.proofs.GateLemmas.{wider}

-- ---- Gates that are visible

-- a name of the bindings stands for this number
abbrev pub HasNumber : List Binding → ℕ → Type 0
HasNumber [] n = ⊥
HasNumber (b ∷ bindings) n = (b.number ≡ n) ⊎ HasNumber bindings n

number_there : (bindings : List Binding) (key : List ℕ) (n : ℕ) → bound_to bindings key ≡ Some n → HasNumber bindings n
number_there [] key n is = absurd (cc is)
number_there (b ∷ bindings) key n is = by (bytes_eq key b.key) is (λ later. number_there bindings key n later)
  where
    by : (same : Bool) → (if same then Some b.number else bound_to bindings key) ≡ Some n
        → (bound_to bindings key ≡ Some n → HasNumber bindings n) → (b.number ≡ n) ⊎ HasNumber bindings n
    by true is later = inl (same_Some b.number n is)
    by false is later = inr (later is)

gate_there : (bindings : List Binding) (gate : PlacedName) (n : ℕ) → resolved n ≡ gate_at bindings gate → HasNumber bindings n
gate_there bindings gate n is = by (bound_to bindings (folded gate.name)) refl is
  where
    by : (found : Option ℕ) → bound_to bindings (folded gate.name) ≡ found → resolved n ≡ found_gate gate found → HasNumber bindings n
    by None found is = absurd (cc is)
    by (Some m) found is =
        number_there bindings (folded gate.name) n (found ∙ ap (λ (k : ℕ). Some k) (sym (same_resolved n m is)))

gates_there : (bindings : List Binding) (gates : List PlacedName) (numbers : List ℕ) → resolved numbers ≡ gates_at bindings gates
    → Every (HasNumber bindings) numbers
gates_there bindings [] numbers is = subst (Every (HasNumber bindings)) (sym (same_resolved numbers [] is)) tt
gates_there bindings (gate ∷ gates) numbers is =
    by (gate_at bindings gate) refl (gates_at bindings gates) (λ ns there. gates_there bindings gates ns there) is
  where
    by : (first : Resolution ℕ) → gate_at bindings gate ≡ first → (rest : Resolution (List ℕ))
        → ((ns : List ℕ) → resolved ns ≡ rest → Every (HasNumber bindings) ns)
        → resolved numbers ≡ and_then first (λ number. put_in_front number rest) → Every (HasNumber bindings) numbers
    by (resolved n) first (resolved ns) later is =
        subst (Every (HasNumber bindings)) (sym (same_resolved numbers (n ∷ ns) is)) (gate_there bindings gate n (sym first), later ns refl)
    by (resolved n) first (faulty fault) later is = absurd (cc is)
    by (faulty fault) first rest later is = absurd (cc is)

-- ---- Gates that are declared

listed_first : (m n : ℕ) (ms : List ℕ) → m ≡ n → is_listed (m ∷ ms) n ≡ true
listed_first m n ms same = ap (λ (b : Bool). if b then true else is_listed ms n) (eq-eqb m n same)

listed_later : (m n : ℕ) (ms : List ℕ) → is_listed ms n ≡ true → is_listed (m ∷ ms) n ≡ true
listed_later m n ms listed = by (nat_eq m n)
  where
    by : (same : Bool) → (if same then true else is_listed ms n) ≡ true
    by true = refl
    by false = listed

-- what is visible behind declarations was visible before, or is one of them
pub declared_or_there : {A : Type 0} (names : List (List ℕ)) (others : List A) (next : ℕ) (bindings : List Binding) (g : ℕ)
    → length others ≡ length names → HasNumber (bind_all names next bindings) g
    → HasNumber bindings g ⊎ IsOneOf (numbers_from next others) g
declared_or_there [] others next bindings g same is = inl is
declared_or_there (name ∷ names) [] next bindings g same is = absurd (omega (arith, same))
declared_or_there (name ∷ names) (x ∷ others) next bindings g same is =
    by (declared_or_there names others (suc next) (bind name next bindings) g (let s = same in omega (arith, s)) is)
  where
    by : HasNumber (bind name next bindings) g ⊎ IsOneOf (numbers_from (suc next) others) g
        → HasNumber bindings g ⊎ IsOneOf (next ∷ numbers_from (next + 1) others) g
    by (inl (inl here)) = inr (listed_first next g (numbers_from (next + 1) others) here)
    by (inl (inr there)) = inl there
    by (inr listed) =
        let one : suc next ≡ next + 1 = omega arith in
        inr (listed_later next g (numbers_from (next + 1) others)
        (subst (λ (n : ℕ). IsOneOf (numbers_from n others) g) one listed))

-- ---- Choices of gates

-- the choices of a `par`, whose signs are left out
abbrev AreChoicesOf : List GateChoice → List ParChoice → Type 0
AreChoicesOf [] [] = Unit {0}
AreChoicesOf [] (par ∷ pars) = ⊥
AreChoicesOf (choice_ ∷ choices) [] = ⊥
AreChoicesOf (choice_ ∷ choices) (par ∷ pars) = (choice_ ≡ par.choice_) × AreChoicesOf choices pars

-- as many signs as choices
follow_long : (declared : List WrittenGateChoice) (bindings : List Binding) (next : ℕ) (choices : List GateChoice)
    → resolved choices ≡ choices_follow bindings next declared → length choices ≡ length declared
follow_long [] bindings next choices is = ap (λ (cs : List GateChoice). length cs) (same_resolved choices [] is)
follow_long (one ∷ declared) bindings next choices is =
    by (gates_at bindings one.among) (choices_follow (bind one.name next bindings) (suc next) declared)
    (λ cs there. follow_long declared (bind one.name next bindings) (suc next) cs there) is
  where
    by : (first : Resolution (List ℕ)) (rest : Resolution (List GateChoice))
        → ((cs : List GateChoice) → resolved cs ≡ rest → length cs ≡ length declared)
        → resolved choices ≡ and_then first (λ among. put_in_front (record { gate = next; among = among }) rest)
        → length choices ≡ suc (length declared)
    by (resolved among) (resolved cs) later is =
        ap (λ (all : List GateChoice). length all) (same_resolved choices (record { gate = next; among = among } ∷ cs) is)
        ∙ ap suc (later cs refl)
    by (resolved among) (faulty fault) later is = absurd (cc is)
    by (faulty fault) rest later is = absurd (cc is)

signs_long : (sign : WrittenSign) (declared : List WrittenGateChoice) (bindings : List Binding) (next : ℕ)
    (meets : List SynchronisationSet) → resolved meets ≡ signs_follow bindings next sign declared → length meets ≡ length declared
signs_long sign [] bindings next meets is = ap (λ (ms : List SynchronisationSet). length ms) (same_resolved meets [] is)
signs_long sign (one ∷ declared) bindings next meets is =
    by (sign_at bindings sign) (signs_follow (bind one.name next bindings) (suc next) sign declared)
    (λ ms there. signs_long sign declared (bind one.name next bindings) (suc next) ms there) is
  where
    by : (first : Resolution SynchronisationSet) (rest : Resolution (List SynchronisationSet))
        → ((ms : List SynchronisationSet) → resolved ms ≡ rest → length ms ≡ length declared)
        → resolved meets ≡ and_then first (λ meet. put_in_front meet rest) → length meets ≡ suc (length declared)
    by (resolved meet) (resolved ms) later is =
        ap (λ (all : List SynchronisationSet). length all) (same_resolved meets (meet ∷ ms) is) ∙ ap suc (later ms refl)
    by (resolved meet) (faulty fault) later is = absurd (cc is)
    by (faulty fault) rest later is = absurd (cc is)

signed_are : (choices : List GateChoice) (meets : List SynchronisationSet) → length choices ≡ length meets
    → AreChoicesOf choices (with_signs choices meets)
signed_are [] meets same = tt
signed_are (choice_ ∷ choices) [] same = absurd (omega (arith, same))
signed_are (choice_ ∷ choices) (meet ∷ meets) same = (refl, signed_are choices meets (let s = same in omega (arith, s)))

-- a list without a double name
pub beside_there : {A : Type 0} (double : Option PlacedName) (others : Resolution A) (x : A) → resolved x ≡ beside double others
    → (double ≡ None) × (resolved x ≡ others)
beside_there None others x is = (refl, is)
beside_there (Some double) (resolved y) x is = absurd (cc is)
beside_there (Some double) (faulty fault) x is = absurd (cc is)

-- the gates of a `par` are those of a choice, with signs
record AreParChoices (bindings : List Binding) (next : ℕ) (declared : List WrittenGateChoice) (pars : List ParChoice) : Type 0 where
  pub choices : List GateChoice
  pub follow : resolved choices ≡ choices_follow bindings next declared
  pub are : AreChoicesOf choices pars

par_there : (bindings : List Binding) (next : ℕ) (sign : WrittenSign) (declared : List WrittenGateChoice) (pars : List ParChoice)
    → resolved pars ≡ par_choices_at bindings next sign declared → AreParChoices bindings next declared pars
par_there bindings next sign declared pars is =
    by (choices_at bindings next declared) refl (signs_follow bindings next sign declared) refl is
  where
    by : (first : Resolution (List GateChoice)) → choices_at bindings next declared ≡ first
        → (signs : Resolution (List SynchronisationSet)) → signs_follow bindings next sign declared ≡ signs
        → resolved pars ≡ and_then first (λ choices. and_then signs (λ meets. resolved (with_signs choices meets)))
        → AreParChoices bindings next declared pars
    by (resolved choices) first (resolved meets) signs is =
        let follow =
        (beside_there (first_double (placed_choices declared)) (choices_follow bindings next declared) choices (sym first)).1 in
        let long : length choices ≡ length meets =
        follow_long declared bindings next choices follow ∙ sym (signs_long sign declared bindings next meets (sym signs)) in
        record {
          choices = choices;
          follow = follow;
          are =
              subst (AreChoicesOf choices) (sym (same_resolved pars (with_signs choices meets) is)) (signed_are choices meets long);
        }
    by (resolved choices) first (faulty fault) signs is = absurd (cc is)
    by (faulty fault) first signs is_signs is = absurd (cc is)

module _ (processes : List Process) where
  choices_use : (declared : List WrittenGateChoice) (bindings : List Binding) (next : ℕ) (choices : List GateChoice) (b : Behaviour)
      → resolved choices ≡ choices_follow bindings next declared
      → UsesOnly (HasNumber (bind_all (choice_names declared) next bindings)) processes b
      → UsesOnly (HasNumber bindings) processes (under_gates choices b)
  choices_use [] bindings next choices b is uses =
      subst (λ (cs : List GateChoice). UsesOnly (HasNumber bindings) processes (under_gates cs b)) (sym (same_resolved choices [] is)) uses
  choices_use (one ∷ declared) bindings next choices b is uses =
      by (gates_at bindings one.among) refl (choices_follow (bind one.name next bindings) (suc next) declared)
      (λ cs there. choices_use declared (bind one.name next bindings) (suc next) cs b there uses) is
    where
      by : (first : Resolution (List ℕ)) → gates_at bindings one.among ≡ first → (rest : Resolution (List GateChoice))
          → ((cs : List GateChoice) → resolved cs ≡ rest → UsesOnly (HasNumber (bind one.name next bindings)) processes (under_gates cs b))
          → resolved choices ≡ and_then first (λ among. put_in_front (record { gate = next; among = among }) rest)
          → UsesOnly (HasNumber bindings) processes (under_gates choices b)
      by (resolved among) first (resolved cs) later is =
          subst (λ (all : List GateChoice). UsesOnly (HasNumber bindings) processes (under_gates all b))
          (sym (same_resolved choices (record { gate = next; among = among } ∷ cs) is)) (
            gates_there bindings one.among among (sym first),
            wider processes (under_gates cs b) (HasNumber (bind one.name next bindings)) (λ g. HasNumber bindings g ⊎ (g ≡ next))
                (λ g there. swapped g there) (later cs refl),
          )
        where
          swapped : (g : ℕ) → (next ≡ g) ⊎ HasNumber bindings g → HasNumber bindings g ⊎ (g ≡ next)
          swapped g (inl here) = inr (sym here)
          swapped g (inr there) = inl there
      by (resolved among) first (faulty fault) later is = absurd (cc is)
      by (faulty fault) first rest later is = absurd (cc is)

  -- those of a `par` beside the gates of its sign
  signed_use : (choices : List GateChoice) (pars : List ParChoice) (IsGate : ℕ → Type 0) (b : Behaviour) → AreChoicesOf choices pars
      → UsesOnly IsGate processes (under_gates choices b) → UsesOnly IsGate processes (under_par pars b)
  signed_use [] [] IsGate b are uses = uses
  signed_use [] (par ∷ pars) IsGate b are uses = absurd are
  signed_use (choice_ ∷ choices) [] IsGate b are uses = absurd are
  signed_use (choice_ ∷ choices) (par ∷ pars) IsGate b are uses =
      signed_one choice_ par.choice_ (under_gates choices b) (under_par pars b) IsGate are.0 uses
      (λ inner. signed_use choices pars (λ g. IsGate g ⊎ (g ≡ choice_.gate)) b are.1 inner)
    where
      signed_one : (one other : GateChoice) (c d : Behaviour) (IsGate : ℕ → Type 0) → one ≡ other
          → Every IsGate one.among × UsesOnly (λ g. IsGate g ⊎ (g ≡ one.gate)) processes c
          → (UsesOnly (λ g. IsGate g ⊎ (g ≡ one.gate)) processes c → UsesOnly (λ g. IsGate g ⊎ (g ≡ one.gate)) processes d)
          → Every IsGate other.among × UsesOnly (λ g. IsGate g ⊎ (g ≡ other.gate)) processes d
      signed_one one other c d IsGate same uses more =
          subst (λ (it : GateChoice). Every IsGate it.among × UsesOnly (λ g. IsGate g ⊎ (g ≡ it.gate)) processes d) same
          (uses.0, more uses.1)

  -- ---- Inside choices

  inside_gates : (signature : Signature) (names : ℕ) (scope : List Variable) (choices : List GateChoice) (b : Behaviour)
      → IsBehaviour signature names processes scope (under_gates choices b) → IsBehaviour signature names processes scope b
  inside_gates signature names scope [] b well = well
  inside_gates signature names scope (one ∷ choices) b well = inside_gates signature names scope choices b well.2

  inside_par : (signature : Signature) (names : ℕ) (scope : List Variable) (pars : List ParChoice) (b : Behaviour)
      → IsBehaviour signature names processes scope (under_par pars b) → IsBehaviour signature names processes scope b
  inside_par signature names scope [] b well = well
  inside_par signature names scope (one ∷ pars) b well = inside_par signature names scope pars b well.4

  -- a behaviour that is well formed where some variables are visible
  abbrev IsWell : Signature → ℕ → Behaviour → Type 0
  IsWell signature names b = (scope : List Variable) × IsBehaviour signature names processes scope b

  inside_values : (signature : Signature) (names : ℕ) (scope : List Variable) (variables : List Variable) (b : Behaviour)
      → IsBehaviour signature names processes scope (under_values variables b) → IsWell signature names b
  inside_values signature names scope [] b well = (scope, well)
  inside_values signature names scope (x ∷ variables) b well = inside_values signature names (x ∷ scope) variables b well.1

  values_use : (variables : List Variable) (IsGate : ℕ → Type 0) (b : Behaviour) → UsesOnly IsGate processes b
      → UsesOnly IsGate processes (under_values variables b)
  values_use [] IsGate b uses = uses
  values_use (x ∷ variables) IsGate b uses = values_use variables IsGate b uses

  -- ---- Behaviours

  module _ (signature : Signature) (names : ℕ) where
    -- where it is well formed, it uses the gates that are visible
    abbrev UsesVisible : Scope → Behaviour → Type 0
    UsesVisible scope b =
        (variables : List Variable) → IsBehaviour signature names processes variables b → UsesOnly (HasNumber scope.gates) processes b

    same_call : (number : ℕ) (process other : Process) → slice_get processes number ≡ Some process → slice_get processes number ≡ Some other
        → process ≡ other
    same_call number process other is also = same_Some process other (sym is ∙ also)

    sign_uses : (scope : Scope) (numbers : Numbers) (sign : WrittenSign) (left b : Behaviour)
        (Right : Scope → Numbers → Resolution Behaviour → Type 0)
        → ((inside : Scope) (behind : Numbers) (right : Behaviour) → inside.gates ≡ scope.gates → Right inside behind (resolved right)
        → UsesVisible scope right)
        → UsesVisible scope left → SignIs signature scope numbers sign left Right (resolved b) → UsesVisible scope b
    sign_uses scope numbers choice_sign left b Right rights first is =
        subst (UsesVisible scope) (sym is.2)
        (λ variables well. (first variables well.0, rights scope numbers is.0 refl is.1 variables well.1))
    sign_uses scope numbers interleaving left b Right rights first is =
        subst (UsesVisible scope) (sym is.2)
        (λ variables well. (first variables well.1, rights scope numbers is.0 refl is.1 variables well.2))
    sign_uses scope numbers full_synchronisation left b Right rights first is =
        subst (UsesVisible scope) (sym is.2)
        (λ variables well. (first variables well.1, rights scope numbers is.0 refl is.1 variables well.2))
    sign_uses scope numbers (synchronising given) left b Right rights first is =
        subst (UsesVisible scope) (sym is.2.2)
        (λ variables well. (first variables well.1, rights scope numbers is.2.0 refl is.2.1 variables well.2))
    sign_uses scope numbers disabling left b Right rights first is =
        subst (UsesVisible scope) (sym is.2)
        (λ variables well. (first variables well.0, rights scope numbers is.0 refl is.1 variables well.1))
    sign_uses scope numbers (enabling accepted) left b Right rights first is =
        subst (UsesVisible scope) (sym is.2.2)
        (λ variables well. (first variables well.0, rights _ _ is.2.0 refl is.2.1 _ well.2))

    pub behaviour_uses : (w : WrittenBehaviour) (scope : Scope) (numbers : Numbers) (b : Behaviour)
        → BehaviourIs signature scope numbers w (resolved b) → UsesVisible scope b
    behaviour_uses (written.stop place) scope numbers b is =
        subst (UsesVisible scope) (sym (same_resolved b stop is)) (λ variables well. tt)
    behaviour_uses (written.exit place values) scope numbers b is = subst (UsesVisible scope) (sym is.2) (λ variables well. tt)
    behaviour_uses (written.call place name gates values) scope numbers b is =
        subst (UsesVisible scope) (sym is.2.2.2) (λ variables well. (
          gates_there scope.gates gates is.2.0 is.2.1,
          λ process there. subst (λ (p : Process). length p.gates ≡ length is.2.0)
              (same_call is.0.number well.1.process process well.1.exists there) (sym well.1.gate_count),
        ))
    behaviour_uses (written.action place gate offers test next) scope numbers b is =
        subst (UsesVisible scope) (sym is.2.2.2.2) (λ variables well. (
          gate_there scope.gates (record { place = place; name = gate }) is.0 is.1,
          behaviour_uses next _ _ is.2.2.2.0 is.2.2.2.1 _ well.4,
        ))
    behaviour_uses (written.inner_action place next) scope numbers b is =
        subst (UsesVisible scope) (sym is.2) (λ variables well. behaviour_uses next scope numbers is.0 is.1 variables well)
    behaviour_uses (written.guard place test next) scope numbers b is =
        subst (UsesVisible scope) (sym is.2.2) (λ variables well. behaviour_uses next scope numbers is.2.0 is.2.1 variables well.1)
    behaviour_uses (written.hide place gates inside) scope numbers b is =
        subst (UsesVisible scope) (sym is.2) (λ variables well.
        wider processes is.0 (HasNumber (bind_all (each_once (spelled_names gates)) numbers.gate scope.gates))
        (λ g. HasNumber scope.gates g ⊎ IsOneOf (numbers_from numbers.gate (each_once (spelled_names gates))) g)
        (λ g there. declared_or_there (each_once (spelled_names gates)) (each_once (spelled_names gates)) numbers.gate
        scope.gates g refl there)
        (behaviour_uses inside _ _ is.0 is.1 variables well.1))
    behaviour_uses (written.let_be place values inside) scope numbers b is =
        subst (UsesVisible scope) (sym is.2.2) (λ variables well. behaviour_uses inside _ _ is.2.0 is.2.1 _ well.2)
    behaviour_uses (written.choose_value place given inside) scope numbers b is =
        subst (UsesVisible scope) (sym is.2.2) (λ variables well.
        let within = inside_values signature names variables is.0 is.2.0 well in
        values_use is.0 (HasNumber scope.gates) is.2.0 (behaviour_uses inside _ _ is.2.0 is.2.1 within.0 within.1))
    behaviour_uses (written.choose_gate place gates inside) scope numbers b is =
        subst (UsesVisible scope) (sym is.2.2) (λ variables well.
        choices_use gates scope.gates numbers.gate is.0 is.2.0
        (beside_there (first_double (placed_choices gates)) (choices_follow scope.gates numbers.gate gates) is.0 is.1).1
        (behaviour_uses inside _ _ is.2.0 is.2.1 variables (inside_gates signature names variables is.0 is.2.0 well)))
    behaviour_uses (written.par_gate place gates sign inside) scope numbers b is =
        subst (UsesVisible scope) (sym is.2.2) (λ variables well.
        let pars = par_there scope.gates numbers.gate sign gates is.0 is.1 in
        signed_use pars.choices is.0 (HasNumber scope.gates) is.2.0 pars.are
        (choices_use gates scope.gates numbers.gate pars.choices is.2.0 pars.follow
        (behaviour_uses inside _ _ is.2.0 is.2.1 variables (inside_par signature names variables is.0 is.2.0 well))))
    behaviour_uses (written.binary place sign left right) scope numbers b is =
        sign_uses scope (past left numbers) sign is.0 b (λ inside behind. BehaviourIs signature inside behind right)
        (λ inside behind second same there variables well.
        subst (λ (gates : List Binding). UsesOnly (HasNumber gates) processes second) same
        (behaviour_uses right inside behind second there variables well))
        (behaviour_uses left scope numbers is.0 is.1) is.2
