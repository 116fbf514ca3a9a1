-- How the standing of two shapes follows from that of their parts.
use Rattle.std.proofs.Common.{◌≡◌, ◌↔◌, ◌<◌, ℕ, IsTrue, true, false, refl, subst, arith}
use Rattle.behaviour_semantics.specs.Shape.{Shape, act, quit, inner_step, guarded, left_side, right_side, both_sides, hidden, enabled, passed, let_bound, with_value, at_gate, called, relabelled, Agree, agree_act, agree_quit, agree_inner, agree_guarded, agree_left, agree_right, agree_both, agree_hidden, agree_enabled, agree_passed, agree_enabled_passed, agree_passed_enabled, agree_let, agree_value, agree_gate, agree_called, agree_relabelled, Before, left_then_right, left_then_both, right_then_both, by_gate, in_guarded, in_left, in_right, in_first, in_second, in_hidden, in_enabled, in_passed, in_enabled_passed, in_passed_enabled, in_let, in_value, in_gate, in_called, in_relabelled}
use Rattle.behaviour_semantics.proofs.OrderLemmas.{gate_parts, apart}
use Rattle.behaviour_tree.specs.Standing.{TellsStanding}
use Rattle.behaviour_tree.specs.declared.order.Standing.{Standing}
use Rattle.behaviour_tree.specs.declared.order.Standing.TheVariants as standing

-- Shapes of one rule stand as their parts.
before_guarded : {s t : Shape} → Before (guarded s) (guarded t) → Before s t
before_guarded (in_guarded h) = h

agreeing_guarded : {s t : Shape} → Agree (guarded s) (guarded t) → Agree s t
agreeing_guarded (agree_guarded a) = a

pub tells_guarded : (r : Standing) (s t : Shape) → TellsStanding r s t → TellsStanding r (guarded s) (guarded t)
tells_guarded standing.Before s t h = in_guarded h
tells_guarded standing.Agreeing s t a = agree_guarded a
tells_guarded standing.Otherwise s t never = ((λ h. never.0 (before_guarded h)), (λ a. never.1 (agreeing_guarded a)))

before_left : {s t : Shape} → Before (left_side s) (left_side t) → Before s t
before_left (in_left h) = h

agreeing_left : {s t : Shape} → Agree (left_side s) (left_side t) → Agree s t
agreeing_left (agree_left a) = a

pub tells_left : (r : Standing) (s t : Shape) → TellsStanding r s t → TellsStanding r (left_side s) (left_side t)
tells_left standing.Before s t h = in_left h
tells_left standing.Agreeing s t a = agree_left a
tells_left standing.Otherwise s t never = ((λ h. never.0 (before_left h)), (λ a. never.1 (agreeing_left a)))

before_right : {s t : Shape} → Before (right_side s) (right_side t) → Before s t
before_right (in_right h) = h

agreeing_right : {s t : Shape} → Agree (right_side s) (right_side t) → Agree s t
agreeing_right (agree_right a) = a

pub tells_right : (r : Standing) (s t : Shape) → TellsStanding r s t → TellsStanding r (right_side s) (right_side t)
tells_right standing.Before s t h = in_right h
tells_right standing.Agreeing s t a = agree_right a
tells_right standing.Otherwise s t never = ((λ h. never.0 (before_right h)), (λ a. never.1 (agreeing_right a)))

before_hidden : {s t : Shape} → Before (hidden s) (hidden t) → Before s t
before_hidden (in_hidden h) = h

agreeing_hidden : {s t : Shape} → Agree (hidden s) (hidden t) → Agree s t
agreeing_hidden (agree_hidden a) = a

pub tells_hidden : (r : Standing) (s t : Shape) → TellsStanding r s t → TellsStanding r (hidden s) (hidden t)
tells_hidden standing.Before s t h = in_hidden h
tells_hidden standing.Agreeing s t a = agree_hidden a
tells_hidden standing.Otherwise s t never = ((λ h. never.0 (before_hidden h)), (λ a. never.1 (agreeing_hidden a)))

before_enabled : {s t : Shape} → Before (enabled s) (enabled t) → Before s t
before_enabled (in_enabled h) = h

agreeing_enabled : {s t : Shape} → Agree (enabled s) (enabled t) → Agree s t
agreeing_enabled (agree_enabled a) = a

pub tells_enabled : (r : Standing) (s t : Shape) → TellsStanding r s t → TellsStanding r (enabled s) (enabled t)
tells_enabled standing.Before s t h = in_enabled h
tells_enabled standing.Agreeing s t a = agree_enabled a
tells_enabled standing.Otherwise s t never = ((λ h. never.0 (before_enabled h)), (λ a. never.1 (agreeing_enabled a)))

before_passed : {s t : Shape} → Before (passed s) (passed t) → Before s t
before_passed (in_passed h) = h

agreeing_passed : {s t : Shape} → Agree (passed s) (passed t) → Agree s t
agreeing_passed (agree_passed a) = a

pub tells_passed : (r : Standing) (s t : Shape) → TellsStanding r s t → TellsStanding r (passed s) (passed t)
tells_passed standing.Before s t h = in_passed h
tells_passed standing.Agreeing s t a = agree_passed a
tells_passed standing.Otherwise s t never = ((λ h. never.0 (before_passed h)), (λ a. never.1 (agreeing_passed a)))

before_enabled_passed : {s t : Shape} → Before (enabled s) (passed t) → Before s t
before_enabled_passed (in_enabled_passed h) = h

agreeing_enabled_passed : {s t : Shape} → Agree (enabled s) (passed t) → Agree s t
agreeing_enabled_passed (agree_enabled_passed a) = a

pub tells_enabled_passed : (r : Standing) (s t : Shape) → TellsStanding r s t → TellsStanding r (enabled s) (passed t)
tells_enabled_passed standing.Before s t h = in_enabled_passed h
tells_enabled_passed standing.Agreeing s t a = agree_enabled_passed a
tells_enabled_passed standing.Otherwise s t never = ((λ h. never.0 (before_enabled_passed h)), (λ a. never.1 (agreeing_enabled_passed a)))

before_passed_enabled : {s t : Shape} → Before (passed s) (enabled t) → Before s t
before_passed_enabled (in_passed_enabled h) = h

agreeing_passed_enabled : {s t : Shape} → Agree (passed s) (enabled t) → Agree s t
agreeing_passed_enabled (agree_passed_enabled a) = a

pub tells_passed_enabled : (r : Standing) (s t : Shape) → TellsStanding r s t → TellsStanding r (passed s) (enabled t)
tells_passed_enabled standing.Before s t h = in_passed_enabled h
tells_passed_enabled standing.Agreeing s t a = agree_passed_enabled a
tells_passed_enabled standing.Otherwise s t never = ((λ h. never.0 (before_passed_enabled h)), (λ a. never.1 (agreeing_passed_enabled a)))

before_let : {s t : Shape} → Before (let_bound s) (let_bound t) → Before s t
before_let (in_let h) = h

agreeing_let : {s t : Shape} → Agree (let_bound s) (let_bound t) → Agree s t
agreeing_let (agree_let a) = a

pub tells_let : (r : Standing) (s t : Shape) → TellsStanding r s t → TellsStanding r (let_bound s) (let_bound t)
tells_let standing.Before s t h = in_let h
tells_let standing.Agreeing s t a = agree_let a
tells_let standing.Otherwise s t never = ((λ h. never.0 (before_let h)), (λ a. never.1 (agreeing_let a)))

before_value : {s t : Shape} → Before (with_value s) (with_value t) → Before s t
before_value (in_value h) = h

agreeing_value : {s t : Shape} → Agree (with_value s) (with_value t) → Agree s t
agreeing_value (agree_value a) = a

pub tells_value : (r : Standing) (s t : Shape) → TellsStanding r s t → TellsStanding r (with_value s) (with_value t)
tells_value standing.Before s t h = in_value h
tells_value standing.Agreeing s t a = agree_value a
tells_value standing.Otherwise s t never = ((λ h. never.0 (before_value h)), (λ a. never.1 (agreeing_value a)))

before_called : {s t : Shape} → Before (called s) (called t) → Before s t
before_called (in_called h) = h

agreeing_called : {s t : Shape} → Agree (called s) (called t) → Agree s t
agreeing_called (agree_called a) = a

pub tells_called : (r : Standing) (s t : Shape) → TellsStanding r s t → TellsStanding r (called s) (called t)
tells_called standing.Before s t h = in_called h
tells_called standing.Agreeing s t a = agree_called a
tells_called standing.Otherwise s t never = ((λ h. never.0 (before_called h)), (λ a. never.1 (agreeing_called a)))

before_relabelled : {s t : Shape} → Before (relabelled s) (relabelled t) → Before s t
before_relabelled (in_relabelled h) = h

agreeing_relabelled : {s t : Shape} → Agree (relabelled s) (relabelled t) → Agree s t
agreeing_relabelled (agree_relabelled a) = a

pub tells_relabelled : (r : Standing) (s t : Shape) → TellsStanding r s t → TellsStanding r (relabelled s) (relabelled t)
tells_relabelled standing.Before s t h = in_relabelled h
tells_relabelled standing.Agreeing s t a = agree_relabelled a
tells_relabelled standing.Otherwise s t never = ((λ h. never.0 (before_relabelled h)), (λ a. never.1 (agreeing_relabelled a)))

-- Gate choices: the earlier gate stands before, and choices of one gate stand as their parts.
gate_order : (j k : ℕ) (s t : Shape) → Before (at_gate j s) (at_gate k t) → (j < k → ⊥) → Before s t
gate_order j k s t (by_gate lt) never = absurd (never lt)
gate_order j k s t (in_gate h) never = h

gate_not_after : (j k : ℕ) (s t : Shape) → k < j → Before (at_gate j s) (at_gate k t) → ⊥
gate_not_after j k s t after (by_gate lt) = omega arith
gate_not_after j k s t after (in_gate h) = omega arith

pub tells_earlier : (j k : ℕ) (s t : Shape) → j < k → TellsStanding standing.Before (at_gate j s) (at_gate k t)
tells_earlier j k s t lt = by_gate lt

pub tells_later : (j k : ℕ) (s t : Shape) → k < j → TellsStanding standing.Otherwise (at_gate j s) (at_gate k t)
tells_later j k s t after = (gate_not_after j k s t after, (λ a. let same : j ≡ k = (gate_parts j k s t a).0 in omega arith))

same_gate : (r : Standing) (k : ℕ) (s t : Shape) → TellsStanding r s t → TellsStanding r (at_gate k s) (at_gate k t)
same_gate standing.Before k s t h = in_gate h
same_gate standing.Agreeing k s t a = agree_gate a
same_gate standing.Otherwise k s t never =
    ((λ h. never.0 (gate_order k k s t h (λ lt. omega arith))), (λ a. never.1 (gate_parts k k s t a).1))

pub tells_gate : (r : Standing) (j k : ℕ) (s t : Shape) → (j < k → ⊥) → (k < j → ⊥) → TellsStanding r s t
    → TellsStanding r (at_gate j s) (at_gate k t)
tells_gate r j k s t not_less not_more h =
    let same : j ≡ k = omega arith in subst (λ (m : ℕ). TellsStanding r (at_gate j s) (at_gate m t)) same (same_gate r j s t h)

-- Pairs of shapes: as the first ones, and where these agree as the second ones.
pub tells_first : (s t u v : Shape) → Before s u → TellsStanding standing.Before (both_sides s t) (both_sides u v)
tells_first s t u v h = in_first h

both_before : {s t u v : Shape} → (Before s u → ⊥) → (Agree s u → ⊥) → Before (both_sides s t) (both_sides u v) → ⊥
both_before never other (in_first h) = never h
both_before never other (in_second a h) = other a

both_agree : {s t u v : Shape} → Agree (both_sides s t) (both_sides u v) → Agree s u × Agree t v
both_agree (agree_both a b) = (a, b)

pub tells_neither : (s t u v : Shape) → TellsStanding standing.Otherwise s u
    → TellsStanding standing.Otherwise (both_sides s t) (both_sides u v)
tells_neither s t u v never = ((λ h. both_before never.0 never.1 h), (λ a. never.1 (both_agree a).0))

second_before : {s t u v : Shape} → Agree s u → (Before t v → ⊥) → Before (both_sides s t) (both_sides u v) → ⊥
second_before a never (in_first h) = apart h a
second_before a never (in_second b h) = never h

pub tells_second : (r : Standing) (s t u v : Shape) → Agree s u → TellsStanding r t v → TellsStanding r (both_sides s t) (both_sides u v)
tells_second standing.Before s t u v a h = in_second a h
tells_second standing.Agreeing s t u v a b = agree_both a b
tells_second standing.Otherwise s t u v a never = ((λ h. second_before a never.0 h), (λ b. never.1 (both_agree b).1))

-- Shapes without parts, and the sides of one behaviour.
pub tells_act : TellsStanding standing.Agreeing act act
tells_act = agree_act

pub tells_quit : TellsStanding standing.Agreeing quit quit
tells_quit = agree_quit

pub tells_inner : TellsStanding standing.Agreeing inner_step inner_step
tells_inner = agree_inner

pub tells_left_right : (s t : Shape) → TellsStanding standing.Before (left_side s) (right_side t)
tells_left_right s t = left_then_right

pub tells_left_both : (s t u : Shape) → TellsStanding standing.Before (left_side s) (both_sides t u)
tells_left_both s t u = left_then_both

pub tells_right_both : (s t u : Shape) → TellsStanding standing.Before (right_side s) (both_sides t u)
tells_right_both s t u = right_then_both

-- What the standing says of 'before'.
pub told_before : (s t : Shape) → TellsStanding standing.Before s t → IsTrue true ↔ Before s t
told_before s t h = ((λ same. h), (λ before. refl))

pub told_agreeing : (s t : Shape) → TellsStanding standing.Agreeing s t → IsTrue false ↔ Before s t
told_agreeing s t a = ((λ same. cc), (λ before. absurd (apart before a)))

pub told_otherwise : (s t : Shape) → TellsStanding standing.Otherwise s t → IsTrue false ↔ Before s t
told_otherwise s t never = ((λ same. cc), (λ before. absurd (never.0 before)))
