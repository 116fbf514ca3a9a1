-- The order of shapes is strict.
use Rattle.lotos_base.specs.Term.{Term}
use Rattle.lotos_base.specs.Equation.{Data}
use Rattle.std.proofs.Common.{◌≡◌, ℕ, refl, arith, List}
use Rattle.behaviour_semantics.specs.Shape.{Shape, act, quit, inner_step, guarded, left_side, right_side, both_sides, hidden, enabled, passed, let_bound, with_value, at_gate, called, relabelled, Agree, agree_act, agree_quit, agree_inner, agree_guarded, agree_left, agree_right, agree_both, agree_hidden, agree_enabled, agree_passed, agree_enabled_passed, agree_passed_enabled, agree_let, agree_value, agree_gate, agree_called, agree_relabelled, Before, left_then_right, left_then_both, right_then_both, by_gate, in_guarded, in_left, in_right, in_first, in_second, in_hidden, in_enabled, in_passed, in_enabled_passed, in_passed_enabled, in_let, in_value, in_gate, in_called, in_relabelled}
use Rattle.behaviour_semantics.specs.Behaviour.{Behaviour, Process}
use Rattle.behaviour_semantics.specs.Menu.{Exact, IsEntry}
use Rattle.behaviour_semantics.specs.Solving.{Entry}

pub Agree-refl : (s : Shape) → Agree s s
Agree-refl act = agree_act
Agree-refl quit = agree_quit
Agree-refl inner_step = agree_inner
Agree-refl (guarded s) = agree_guarded (Agree-refl s)
Agree-refl (left_side s) = agree_left (Agree-refl s)
Agree-refl (right_side s) = agree_right (Agree-refl s)
Agree-refl (both_sides s t) = agree_both (Agree-refl s) (Agree-refl t)
Agree-refl (hidden s) = agree_hidden (Agree-refl s)
Agree-refl (enabled s) = agree_enabled (Agree-refl s)
Agree-refl (passed s) = agree_passed (Agree-refl s)
Agree-refl (let_bound s) = agree_let (Agree-refl s)
Agree-refl (with_value s) = agree_value (Agree-refl s)
Agree-refl (at_gate k s) = agree_gate (Agree-refl s)
Agree-refl (called s) = agree_called (Agree-refl s)
Agree-refl (relabelled s) = agree_relabelled (Agree-refl s)

Agree-trans : {s t u : Shape} → Agree s t → Agree t u → Agree s u
Agree-trans agree_act agree_act = agree_act
Agree-trans agree_quit agree_quit = agree_quit
Agree-trans agree_inner agree_inner = agree_inner
Agree-trans (agree_guarded a) (agree_guarded b) = agree_guarded (Agree-trans a b)
Agree-trans (agree_left a) (agree_left b) = agree_left (Agree-trans a b)
Agree-trans (agree_right a) (agree_right b) = agree_right (Agree-trans a b)
Agree-trans (agree_both a c) (agree_both b d) = agree_both (Agree-trans a b) (Agree-trans c d)
Agree-trans (agree_hidden a) (agree_hidden b) = agree_hidden (Agree-trans a b)
Agree-trans (agree_enabled a) (agree_enabled b) = agree_enabled (Agree-trans a b)
Agree-trans (agree_enabled a) (agree_enabled_passed b) = agree_enabled_passed (Agree-trans a b)
Agree-trans (agree_passed a) (agree_passed b) = agree_passed (Agree-trans a b)
Agree-trans (agree_passed a) (agree_passed_enabled b) = agree_passed_enabled (Agree-trans a b)
Agree-trans (agree_enabled_passed a) (agree_passed b) = agree_enabled_passed (Agree-trans a b)
Agree-trans (agree_enabled_passed a) (agree_passed_enabled b) = agree_enabled (Agree-trans a b)
Agree-trans (agree_passed_enabled a) (agree_enabled b) = agree_passed_enabled (Agree-trans a b)
Agree-trans (agree_passed_enabled a) (agree_enabled_passed b) = agree_passed (Agree-trans a b)
Agree-trans (agree_let a) (agree_let b) = agree_let (Agree-trans a b)
Agree-trans (agree_value a) (agree_value b) = agree_value (Agree-trans a b)
Agree-trans (agree_gate a) (agree_gate b) = agree_gate (Agree-trans a b)
Agree-trans (agree_called a) (agree_called b) = agree_called (Agree-trans a b)
Agree-trans (agree_relabelled a) (agree_relabelled b) = agree_relabelled (Agree-trans a b)

-- Gate choices that agree choose one position.
pub gate_parts : (j k : ℕ) (s t : Shape) → Agree (at_gate j s) (at_gate k t) → (j ≡ k) × Agree s t
gate_parts j k s t (agree_gate a) = (refl, a)

-- A shape that comes before another one does not agree with it.
pub apart : {s t : Shape} → Before s t → Agree s t → ⊥
apart left_then_right a = elim a [ ]
apart left_then_both a = elim a [ ]
apart right_then_both a = elim a [ ]
apart (by_gate {j = j} {k = k} {s = s} {t = t} lt) a = let same : j ≡ k = (gate_parts j k s t a).0 in omega arith
apart (in_guarded h) (agree_guarded a) = apart h a
apart (in_left h) (agree_left a) = apart h a
apart (in_right h) (agree_right a) = apart h a
apart (in_first h) (agree_both a b) = apart h a
apart (in_second c h) (agree_both a b) = apart h b
apart (in_hidden h) (agree_hidden a) = apart h a
apart (in_enabled h) (agree_enabled a) = apart h a
apart (in_passed h) (agree_passed a) = apart h a
apart (in_enabled_passed h) (agree_enabled_passed a) = apart h a
apart (in_passed_enabled h) (agree_passed_enabled a) = apart h a
apart (in_let h) (agree_let a) = apart h a
apart (in_value h) (agree_value a) = apart h a
apart (in_gate {k = k} {s = s} {t = t} h) a = apart h (gate_parts k k s t a).1
apart (in_called h) (agree_called a) = apart h a
apart (in_relabelled h) (agree_relabelled a) = apart h a

Before-agree : {s t u : Shape} → Before s t → Agree t u → Before s u
Before-agree left_then_right (agree_right a) = left_then_right
Before-agree left_then_both (agree_both a b) = left_then_both
Before-agree right_then_both (agree_both a b) = right_then_both
Before-agree (by_gate lt) (agree_gate a) = by_gate lt
Before-agree (in_guarded h) (agree_guarded a) = in_guarded (Before-agree h a)
Before-agree (in_left h) (agree_left a) = in_left (Before-agree h a)
Before-agree (in_right h) (agree_right a) = in_right (Before-agree h a)
Before-agree (in_first h) (agree_both a b) = in_first (Before-agree h a)
Before-agree (in_second c h) (agree_both a b) = in_second (Agree-trans c a) (Before-agree h b)
Before-agree (in_hidden h) (agree_hidden a) = in_hidden (Before-agree h a)
Before-agree (in_enabled h) (agree_enabled a) = in_enabled (Before-agree h a)
Before-agree (in_enabled h) (agree_enabled_passed a) = in_enabled_passed (Before-agree h a)
Before-agree (in_passed h) (agree_passed a) = in_passed (Before-agree h a)
Before-agree (in_passed h) (agree_passed_enabled a) = in_passed_enabled (Before-agree h a)
Before-agree (in_enabled_passed h) (agree_passed a) = in_enabled_passed (Before-agree h a)
Before-agree (in_enabled_passed h) (agree_passed_enabled a) = in_enabled (Before-agree h a)
Before-agree (in_passed_enabled h) (agree_enabled a) = in_passed_enabled (Before-agree h a)
Before-agree (in_passed_enabled h) (agree_enabled_passed a) = in_passed (Before-agree h a)
Before-agree (in_let h) (agree_let a) = in_let (Before-agree h a)
Before-agree (in_value h) (agree_value a) = in_value (Before-agree h a)
Before-agree (in_gate h) (agree_gate a) = in_gate (Before-agree h a)
Before-agree (in_called h) (agree_called a) = in_called (Before-agree h a)
Before-agree (in_relabelled h) (agree_relabelled a) = in_relabelled (Before-agree h a)

Agree-before : {s t u : Shape} → Agree s t → Before t u → Before s u
Agree-before (agree_left a) left_then_right = left_then_right
Agree-before (agree_left a) left_then_both = left_then_both
Agree-before (agree_right a) right_then_both = right_then_both
Agree-before (agree_gate a) (by_gate lt) = by_gate lt
Agree-before (agree_guarded a) (in_guarded h) = in_guarded (Agree-before a h)
Agree-before (agree_left a) (in_left h) = in_left (Agree-before a h)
Agree-before (agree_right a) (in_right h) = in_right (Agree-before a h)
Agree-before (agree_both a b) (in_first h) = in_first (Agree-before a h)
Agree-before (agree_both a b) (in_second c h) = in_second (Agree-trans a c) (Agree-before b h)
Agree-before (agree_hidden a) (in_hidden h) = in_hidden (Agree-before a h)
Agree-before (agree_enabled a) (in_enabled h) = in_enabled (Agree-before a h)
Agree-before (agree_enabled a) (in_enabled_passed h) = in_enabled_passed (Agree-before a h)
Agree-before (agree_passed a) (in_passed h) = in_passed (Agree-before a h)
Agree-before (agree_passed a) (in_passed_enabled h) = in_passed_enabled (Agree-before a h)
Agree-before (agree_enabled_passed a) (in_passed h) = in_enabled_passed (Agree-before a h)
Agree-before (agree_enabled_passed a) (in_passed_enabled h) = in_enabled (Agree-before a h)
Agree-before (agree_passed_enabled a) (in_enabled h) = in_passed_enabled (Agree-before a h)
Agree-before (agree_passed_enabled a) (in_enabled_passed h) = in_passed (Agree-before a h)
Agree-before (agree_let a) (in_let h) = in_let (Agree-before a h)
Agree-before (agree_value a) (in_value h) = in_value (Agree-before a h)
Agree-before (agree_gate a) (in_gate h) = in_gate (Agree-before a h)
Agree-before (agree_called a) (in_called h) = in_called (Agree-before a h)
Agree-before (agree_relabelled a) (in_relabelled h) = in_relabelled (Agree-before a h)
Agree-before agree_act h = elim h [ ]
Agree-before agree_quit h = elim h [ ]
Agree-before agree_inner h = elim h [ ]

pub Before-irrefl : (s : Shape) → Before s s → ⊥
Before-irrefl s h = apart h (Agree-refl s)

chain : {s t u : Shape} → Before s t → Before t u → Before s u
chain left_then_right right_then_both = left_then_both
chain left_then_right (in_right k) = left_then_right
chain left_then_both (in_first k) = left_then_both
chain left_then_both (in_second a k) = left_then_both
chain right_then_both (in_first k) = right_then_both
chain right_then_both (in_second a k) = right_then_both
chain (by_gate lt) (by_gate lt') = by_gate (omega arith)
chain (by_gate lt) (in_gate k) = by_gate lt
chain (in_gate h) (by_gate lt) = by_gate lt
chain (in_gate h) (in_gate k) = in_gate (chain h k)
chain (in_guarded h) (in_guarded k) = in_guarded (chain h k)
chain (in_left h) left_then_right = left_then_right
chain (in_left h) left_then_both = left_then_both
chain (in_left h) (in_left k) = in_left (chain h k)
chain (in_right h) right_then_both = right_then_both
chain (in_right h) (in_right k) = in_right (chain h k)
chain (in_first h) (in_first k) = in_first (chain h k)
chain (in_first h) (in_second a k) = in_first (Before-agree h a)
chain (in_second a h) (in_first k) = in_first (Agree-before a k)
chain (in_second a h) (in_second b k) = in_second (Agree-trans a b) (chain h k)
chain (in_hidden h) (in_hidden k) = in_hidden (chain h k)
chain (in_enabled h) (in_enabled k) = in_enabled (chain h k)
chain (in_enabled h) (in_enabled_passed k) = in_enabled_passed (chain h k)
chain (in_passed h) (in_passed k) = in_passed (chain h k)
chain (in_passed h) (in_passed_enabled k) = in_passed_enabled (chain h k)
chain (in_enabled_passed h) (in_passed k) = in_enabled_passed (chain h k)
chain (in_enabled_passed h) (in_passed_enabled k) = in_enabled (chain h k)
chain (in_passed_enabled h) (in_enabled k) = in_passed_enabled (chain h k)
chain (in_passed_enabled h) (in_enabled_passed k) = in_passed (chain h k)
chain (in_let h) (in_let k) = in_let (chain h k)
chain (in_value h) (in_value k) = in_value (chain h k)
chain (in_called h) (in_called k) = in_called (chain h k)
chain (in_relabelled h) (in_relabelled k) = in_relabelled (chain h k)

pub Before-trans : (s t u : Shape) → Before s t → Before t u → Before s u
Before-trans s t u h k = chain h k

pub entries_within : (data_ : Data) (canon : Term → Term) (processes : List Process) (b : Behaviour) (menu other : List Entry)
    → Exact data_ canon processes b menu → Exact data_ canon processes b other → (x : Entry) → IsEntry menu x → IsEntry other x
entries_within data_ canon processes b menu other exact another x inside =
    let draft : _ = exact.solved x inside in another.every_solved x.shape draft.0 x draft.1 draft.2
