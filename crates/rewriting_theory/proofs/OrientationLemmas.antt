-- Orientation: the equations one by one.
use Rattle.std.proofs.Common.{◌≡◌, ◌≢◌, ◌<◌, ◌+◌, ℕ, zero, suc, List, [], ◌∷◌, Bool, true, false, refl, sym, ◌∙◌, ap, subst, inl, inr, arith, ◌++◌, length, ◌+◌}
use Rattle.std.specs.Prelude.{Some, ◌⊎◌, slice_get}
use Rattle.std.proofs.lemmas.Option.{same_Some}
use Rattle.lotos_base.specs.Term.{Term, variable, node}
use Rattle.lotos_base.specs.Tests.{term_eq}
use Rattle.lotos_base.specs.Equation.{Equation, Data}
use Rattle.lotos_base.specs.Equality.{Direction, forward, backward, old_side, new_side}
use Rattle.lotos_base.proofs.TestLemmas.{Decides-term_eq}
use Rattle.rewriting_theory.specs.Rule.{Rule, IsRule, IsNode, AreWellFormedRules, IsTurned, AreRulesOf}
use Rattle.rewriting_theory.specs.Precedence.{Precedence}
use Rattle.rewriting_theory.specs.PathOrder.{IsGreater}
use Rattle.rewriting_theory.specs.OrderTest.{is_greater}
use Rattle.rewriting_theory.specs.Orientation.{AreOriented, NumberedRule, rules_of, TurnsToSmaller, GiveRules, no_more, dropped, turned_next, IsOrientation, IsUnorientable, IsFirstUnorientable}
use Rattle.rewriting_theory.proofs.Accessible.{nothing_below_variable}
use Rattle.rewriting_theory.proofs.OrderPlaceLemmas.{greater_exceeds}
use Rattle.rewriting_theory.proofs.OrderLemmas.{greater_asymmetric, greater_occurs, greater_decided}

-- ---- well formed

greater_node : {p : Precedence} (t u : Term) → IsGreater p t u → IsNode t
greater_node (variable n s) u g = nothing_below_variable (greater_exceeds g)
greater_node (node f ts) u g = tt

pub oriented_well_formed : (p : Precedence) (rules : List Rule) → AreOriented p rules → AreWellFormedRules rules
oriented_well_formed p rules oriented rule is = record {
  left_node = greater_node rule.left rule.right (oriented rule is);
  occurring = λ n s o. greater_occurs p rule.left rule.right n s (oriented rule is) o;
}

-- ---- one equation

-- What becomes of an equation.
data Verdict (p : Precedence) (equation : Equation) : Type 0 where
  identical : equation.left ≡ equation.right → Verdict p equation
  turning : (direction : Direction) → equation.left ≢ equation.right
      → IsGreater p (old_side direction equation) (new_side direction equation) → Verdict p equation
  stuck : IsUnorientable p equation → Verdict p equation

pub unlike : (t u : Term) → term_eq t u ≡ false → t ≢ u
unlike t u e same = let other : term_eq t u ≡ true = (Decides-term_eq t u).1 same in cc

pub not_greater : (p : Precedence) (t u : Term) → is_greater p t u ≡ false → IsGreater p t u → ⊥
not_greater p t u e g = let other : is_greater p t u ≡ true = (greater_decided p t u).1 g in cc

verdict : (p : Precedence) (equation : Equation) → Verdict p equation
verdict p equation =
    go (term_eq equation.left equation.right) refl (is_greater p equation.left equation.right) refl
    (is_greater p equation.right equation.left) refl
  where
    go : (same : Bool) → term_eq equation.left equation.right ≡ same → (left : Bool)
        → is_greater p equation.left equation.right ≡ left → (right : Bool)
        → is_greater p equation.right equation.left ≡ right → Verdict p equation
    go true es left el right er = identical ((Decides-term_eq equation.left equation.right).0 es)
    go false es true el right er =
        turning forward (unlike equation.left equation.right es)
        ((greater_decided p equation.left equation.right).0 el)
    go false es false el true er =
        turning backward (unlike equation.left equation.right es)
        ((greater_decided p equation.right equation.left).0 er)
    go false es false el false er = stuck (record {
      differ = unlike equation.left equation.right es;
      not_left = not_greater p equation.left equation.right el;
      not_right = not_greater p equation.right equation.left er;
    })

abbrev pub turned_rule : Direction → Equation → Rule
turned_rule direction equation = record { left = old_side direction equation; right = new_side direction equation }

pub turns : (p : Precedence) (direction : Direction) (equation : Equation)
    → IsGreater p (old_side direction equation) (new_side direction equation)
    → TurnsToSmaller p direction equation (turned_rule direction equation)
turns p direction equation g = record { turned = record { left = refl; right = refl }; greater = g }

-- which sides are greater
side_greater : {p : Precedence} {direction : Direction} {equation : Equation} {rule : Rule}
    → TurnsToSmaller p direction equation rule → IsGreater p (old_side direction equation) (new_side direction equation)
side_greater {p = p} {direction = direction} {equation = equation} {rule = rule} t =
    subst (λ (u : Term). IsGreater p u (new_side direction equation)) t.turned.left
    (subst (λ (u : Term). IsGreater p rule.left u) t.turned.right t.greater)

-- what turns is not unorientable
turns_orientable : (p : Precedence) (direction : Direction) (equation : Equation) (rule : Rule)
    → TurnsToSmaller p direction equation rule → IsUnorientable p equation → ⊥
turns_orientable p forward equation rule t not = not.not_left (side_greater t)
turns_orientable p backward equation rule t not = not.not_right (side_greater t)

-- ---- all of them: rules, or a first equation that is not orientable

abbrev Outcome : Precedence → ℕ → List Equation → Type 0
Outcome p n equations =
    ((rules : List NumberedRule) × GiveRules p n equations rules)
    ⊎ ((number : ℕ) × IsFirstUnorientable p equations number)

before_first : (p : Precedence) (equation : Equation) (equations : List Equation) (number : ℕ)
    → (IsUnorientable p equation → ⊥) → IsFirstUnorientable p equations number
    → IsFirstUnorientable p (equation ∷ equations) (suc number)
before_first p equation equations number fine first = record {
  equation = first.equation;
  is_at = first.is_at;
  unorientable = first.unorientable;
  none_before = earlier;
}
  where
    earlier : (k : ℕ) (other : Equation) → k < suc number → slice_get (equation ∷ equations) k ≡ Some other
        → IsUnorientable p other → ⊥
    earlier zero other before e = subst (λ (o : Equation). IsUnorientable p o → ⊥) (same_Some equation other e) fine
    earlier (suc k) other before e = first.none_before k other (omega arith) e

pub oriented_or_not : (p : Precedence) (n : ℕ) (equations : List Equation) → Outcome p n equations
oriented_or_not p n [] = inl ([], no_more)
oriented_or_not p n (equation ∷ equations) = go (verdict p equation) (oriented_or_not p (suc n) equations)
  where
    go : Verdict p equation → Outcome p (suc n) equations → Outcome p n (equation ∷ equations)
    go (identical e) (inl rest) = inl (rest.0, dropped e rest.1)
    go (identical e) (inr rest) = inr (suc rest.0, before_first p equation equations rest.0 (λ not. not.differ e) rest.1)
    go (turning direction ne g) (inl rest) =
        inl (
          record { equation = n; rule = turned_rule direction equation } ∷ rest.0,
          turned_next direction refl ne (turns p direction equation g) rest.1,
        )
    go (turning direction ne g) (inr rest) =
        inr (
          suc rest.0,
          before_first p equation equations rest.0
              (turns_orientable p direction equation (turned_rule direction equation) (turns p direction equation g)) rest.1,
        )
    go (stuck not) rest =
        inr (0, record { equation = equation; is_at = refl; unorientable = not; none_before = λ k other before e. absurd (omega arith) })

-- where there are rules, no equation is unorientable
pub given_orientable : {p : Precedence} {n : ℕ} {equations : List Equation} {rules : List NumberedRule}
    → GiveRules p n equations rules → (k : ℕ) (equation : Equation) → slice_get equations k ≡ Some equation
    → IsUnorientable p equation → ⊥
given_orientable no_more k equation e not = cc
given_orientable {p = p} (dropped {equation = first} same rest) zero equation e not =
    not.differ (subst (λ (o : Equation). o.left ≡ o.right) (same_Some first equation e) same)
given_orientable (dropped same rest) (suc k) equation e not = given_orientable rest k equation e not
given_orientable {p = p} (turned_next {equation = first} {first = numbered} direction en ne t rest) zero equation e not =
    turns_orientable p direction first numbered.rule t (subst (λ (o : Equation). IsUnorientable p o) (sym (same_Some first equation e)) not)
given_orientable (turned_next direction en ne t rest) (suc k) equation e not = given_orientable rest k equation e not

-- ---- the rules are those of the equations

-- A rule with what it comes from.
pub record ComesOf (p : Precedence) (equations : List Equation) (rule : Rule) : Type 0 where
  pub place : ℕ
  pub equation : Equation
  pub direction : Direction
  pub is_at : slice_get equations place ≡ Some equation
  pub turns_so : TurnsToSmaller p direction equation rule

comes_later : {p : Precedence} {first : Equation} {equations : List Equation} {rule : Rule} → ComesOf p equations rule
    → ComesOf p (first ∷ equations) rule
comes_later of = record { place = suc of.place; equation = of.equation; direction = of.direction; is_at = of.is_at; turns_so = of.turns_so }

pub comes_of : {p : Precedence} {n : ℕ} {equations : List Equation} {rules : List NumberedRule} → GiveRules p n equations rules
    → (k : ℕ) (rule : Rule) → slice_get (rules_of rules) k ≡ Some rule → ComesOf p equations rule
comes_of no_more k rule e = cc
comes_of (dropped same rest) k rule e = comes_later (comes_of rest k rule e)
comes_of {p = p} (turned_next {equation = equation} {first = first} direction en ne t rest) zero rule e =
    let same : first.rule ≡ rule = same_Some first.rule rule e in
    record {
      place = zero;
      equation = equation;
      direction = direction;
      is_at = refl;
      turns_so = subst (λ (r : Rule). TurnsToSmaller p direction equation r) same t;
    }
comes_of (turned_next direction en ne t rest) (suc k) rule e = comes_later (comes_of rest k rule e)

-- The rule that an equation gives.
abbrev Given : List Rule → Equation → Type 0
Given rules equation =
    (equation.left ≡ equation.right)
    ⊎ ((rule : Rule) × (direction : Direction) × IsRule rules rule × IsTurned direction equation rule)

given_later : (first : Rule) (rules : List Rule) (equation : Equation) → Given rules equation → Given (first ∷ rules) equation
given_later first rules equation (inl same) = inl same
given_later first rules equation (inr of) = inr (of.0, of.1, (suc of.2.0, of.2.1), of.3)

given : {p : Precedence} {n : ℕ} {equations : List Equation} {rules : List NumberedRule} → GiveRules p n equations rules
    → (k : ℕ) (equation : Equation) → slice_get equations k ≡ Some equation → Given (rules_of rules) equation
given no_more k equation e = cc
given (dropped {equation = first} same rest) zero equation e =
    inl (subst (λ (o : Equation). o.left ≡ o.right) (same_Some first equation e) same)
given (dropped same rest) (suc k) equation e = given rest k equation e
given (turned_next {equation = first} {first = numbered} direction en ne t rest) zero equation e =
    inr (
      numbered.rule,
      direction,
      (0, refl),
      subst (λ (o : Equation). IsTurned direction o numbered.rule) (same_Some first equation e) t.turned,
    )
given (turned_next {first = numbered} {rules = rules} direction en ne t rest) (suc k) equation e =
    given_later numbered.rule (rules_of rules) equation (given rest k equation e)

pub rules_of_data : (p : Precedence) (data_ : Data) (rules : List NumberedRule) → IsOrientation p data_ rules
    → AreRulesOf data_ (rules_of rules) × AreOriented p (rules_of rules)
rules_of_data p data_ rules orientation = (
  record {
    rules_turned = λ rule is.
        let of = comes_of orientation is.0 rule is.1 in
        (of.equation, of.direction, (of.place, of.is_at), of.turns_so.turned);
    equations_kept = λ equation is. given orientation is.0 equation is.1;
  },
  λ rule is. (comes_of orientation is.0 rule is.1).turns_so.greater,
)

pub orientation_well_formed : (p : Precedence) (data_ : Data) (rules : List NumberedRule) → IsOrientation p data_ rules
    → AreWellFormedRules (rules_of rules)
orientation_well_formed p data_ rules is = oriented_well_formed p (rules_of rules) (rules_of_data p data_ rules is).1

-- ---- numbers

-- the number of a rule, counted from that of the first equation
numbered_at : {p : Precedence} {n : ℕ} {equations : List Equation} {rules : List NumberedRule} → GiveRules p n equations rules
    → (k : ℕ) (numbered : NumberedRule) → slice_get rules k ≡ Some numbered
    → (place : ℕ) × (equation : Equation) × (direction : Direction) × (numbered.equation ≡ n + place)
    × (slice_get equations place ≡ Some equation) × IsTurned direction equation numbered.rule
numbered_at no_more k numbered e = cc
numbered_at (dropped same rest) k numbered e =
    let later = numbered_at rest k numbered e in
    (suc later.0, later.1, later.2, omega (arith, later.3), later.4, later.5)
numbered_at (turned_next {equation = equation} {first = first} direction en ne t rest) zero numbered e =
    let same : first ≡ numbered = same_Some first numbered e in (
      0,
      equation,
      direction,
      ap (λ (r : NumberedRule). r.equation) (sym same) ∙ en ∙ omega arith,
      refl,
      subst (λ (r : NumberedRule). IsTurned direction equation r.rule) same t.turned,
    )
numbered_at (turned_next direction en ne t rest) (suc k) numbered e =
    let later = numbered_at rest k numbered e in
    (suc later.0, later.1, later.2, omega (arith, later.3), later.4, later.5)

pub rules_know : (p : Precedence) (data_ : Data) (rules : List NumberedRule) (k : ℕ) (numbered : NumberedRule)
    → IsOrientation p data_ rules → slice_get rules k ≡ Some numbered
    → (equation : Equation) × (direction : Direction) × (slice_get data_.equations numbered.equation ≡ Some equation)
    × IsTurned direction equation numbered.rule
rules_know p data_ rules k numbered orientation e =
    let at = numbered_at orientation k numbered e in
    let same : at.0 ≡ numbered.equation = omega (arith, at.3) in
    (at.1, at.2, subst (λ (n : ℕ). slice_get data_.equations n ≡ Some at.1) same at.4, at.5)

-- ---- at most one list of rules

one_direction : (p : Precedence) (equation : Equation) (one two : Direction)
    → IsGreater p (old_side one equation) (new_side one equation)
    → IsGreater p (old_side two equation) (new_side two equation) → one ≡ two
one_direction p equation forward forward g h = refl
one_direction p equation backward backward g h = refl
one_direction p equation forward backward g h = absurd (greater_asymmetric p equation.left equation.right g h)
one_direction p equation backward forward g h = absurd (greater_asymmetric p equation.left equation.right h g)

same_rule : {one two : Direction} {equation : Equation} (r s : Rule) → one ≡ two → IsTurned one equation r
    → IsTurned two equation s → r ≡ s
same_rule {equation = equation} r s e t u =
    let left : r.left ≡ s.left = t.left ∙ ap (λ (d : Direction). old_side d equation) e ∙ sym u.left in
    let right : r.right ≡ s.right = t.right ∙ ap (λ (d : Direction). new_side d equation) e ∙ sym u.right in
    λ i. record { left = left i; right = right i }

same_numbered : (a b : NumberedRule) → a.equation ≡ b.equation → a.rule ≡ b.rule → a ≡ b
same_numbered a b en er = λ i. record { equation = en i; rule = er i }

pub given_once : {p : Precedence} {n : ℕ} {equations : List Equation} {rules others : List NumberedRule}
    → GiveRules p n equations rules → GiveRules p n equations others → rules ≡ others
given_once no_more no_more = refl
given_once (dropped same rest) (dropped again other) = given_once rest other
given_once (dropped same rest) (turned_next direction en ne t other) = absurd (ne same)
given_once (turned_next direction en ne t rest) (dropped same other) = absurd (ne same)
given_once {p = p} (turned_next {equation = equation} {first = a} {rules = rules} one ea na t rest)
    (turned_next {first = b} {rules = others} two eb nb u other) =
    let way : one ≡ two = one_direction p equation one two (side_greater t) (side_greater u) in
    let head : a ≡ b = same_numbered a b (ea ∙ sym eb) (same_rule a.rule b.rule way t.turned u.turned) in
    let tail : rules ≡ others = given_once rest other in
    λ i. head i ∷ tail i

-- ---- equations after others

pub given_joined : {p : Precedence} {n : ℕ} {equations : List Equation} {rules : List NumberedRule} (others : List Equation)
    (more : List NumberedRule) → GiveRules p n equations rules → GiveRules p (n + length equations) others more
    → GiveRules p n (equations ++ others) (rules ++ more)
given_joined {p = p} others more (no_more {n = n}) later =
    let same : n + 0 ≡ n = omega arith in subst (λ (m : ℕ). GiveRules p m others more) same later
given_joined {p = p} others more (dropped {n = n} {equations = equations} same rest) later =
    let shift : n + suc (length equations) ≡ suc n + length equations = omega arith in
    dropped same (given_joined others more rest (subst (λ (m : ℕ). GiveRules p m others more) shift later))
given_joined {p = p} others more (turned_next {n = n} {equations = equations} direction en ne t rest) later =
    let shift : n + suc (length equations) ≡ suc n + length equations = omega arith in
    turned_next direction en ne t (given_joined others more rest (subst (λ (m : ℕ). GiveRules p m others more) shift later))

-- ---- the first unorientable equation

pub first_once : (p : Precedence) (equations : List Equation) (number other : ℕ) → IsFirstUnorientable p equations number
    → IsFirstUnorientable p equations other → number ≡ other
first_once p equations number other one two =
    let not_before : number < other → ⊥ = λ before. two.none_before number one.equation before one.is_at one.unorientable in
    let not_after : other < number → ⊥ = λ before. one.none_before other two.equation before two.is_at two.unorientable in
    same_number number other not_before not_after
  where
    same_number : (n m : ℕ) → (n < m → ⊥) → (m < n → ⊥) → n ≡ m
    same_number zero zero less more = refl
    same_number zero (suc m) less more = absurd (less (omega arith))
    same_number (suc n) zero less more = absurd (more (omega arith))
    same_number (suc n) (suc m) less more =
        ap (λ (k : ℕ). suc k) (same_number n m (λ h. less (omega (arith, h))) (λ h. more (omega (arith, h))))
