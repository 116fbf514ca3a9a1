-- Worked cases of the printed texts.
use Rattle.std.specs.Prelude.{◌≡◌, ℕ, List, [], ◌∷◌, codes, Option, None, Some}
use Rattle.lotos_base.specs.Term.{Term}
use Rattle.lotos_base.specs.Equation.{Variable, Data}
use Rattle.behaviour_semantics.specs.Behaviour.{Behaviour, stop, exit_with, action, inner_action, guard, choice, parallel, hide, enable, disable, let_be, choose_value, choose_gate, par_gate, call, relabel, Test, give, ask, exit_value, any_of, no_gates, all_gates, at_gates}
use Rattle.behaviour_semantics.specs.Label.{Label, inner_event, gate_event, exit_event}
use Rattle.behaviour_semantics.specs.Shape.{Shape, act}
use Rattle.behaviour_semantics.specs.Solving.{Entry}
use Rattle.printed_texts.specs.TermText.{term_text}
use Rattle.printed_texts.specs.MenuText.{label_text, menu_text}
use Rattle.printed_texts.specs.BehaviourText.{state_text}
use Rattle.printed_texts.specs.ReportLines.{head_text}
use Rattle.printed_texts.specs.Samples.{printed_sample_signature, sample_gates, printed_sample_specification, printed_a, printed_f, printed_plus, star, printed_above, small_d, capital_d, minus, h, v, printed_x, printed_y}

abbrev pub HasText : Term → List ℕ → Type 0
HasText term text = term_text printed_sample_signature (printed_x ∷ []) term ≡ text

-- Constants, prefix and infix operations, and the brackets of operands.
pub record OperandsStandInBrackets : Type 0 where
  pub constant : HasText printed_a (codes "a")
  pub prefix : HasText (printed_f (printed_plus printed_a printed_a)) (codes "f(a + a)")
  pub several : HasText (h printed_a (printed_f printed_a)) (codes "h(a, f(a))")
  pub right : HasText (printed_plus printed_a (printed_plus printed_a printed_a)) (codes "a + (a + a)")
  pub left : HasText (printed_plus (printed_plus printed_a printed_a) (printed_f printed_a)) (codes "(a + a) + f(a)")
  pub variables : HasText (printed_plus (v 0) (v 1)) (codes "x + $2")

-- A name that begins with `*` stands apart from the bracket before it.
pub record StarsStandApart : Type 0 where
  pub argument : HasText (printed_f (star printed_a)) (codes "f( *(a))")
  pub operand : HasText (printed_plus (printed_plus (star printed_a) printed_a) printed_a) (codes "( *(a) + a) + a")
  pub outside : HasText (star (printed_f printed_a)) (codes "*(f(a))")

-- The sort stands behind an operation that has a twin, without regard to the letter case of names.
pub record TwinsHaveTheirSorts : Type 0 where
  pub constant : HasText (printed_f small_d) (codes "f(d of A)")
  pub other : HasText capital_d (codes "D of B")
  pub infix_operation : HasText (minus printed_a printed_a) (codes "(a - a) of A")
  pub operand : HasText (printed_plus (minus printed_a printed_a) small_d) (codes "(a - a) of A + d of A")

abbrev pub HasLabelText : Label → List ℕ → Type 0
HasLabelText label text = label_text printed_sample_signature sample_gates label ≡ text

-- Labels.
pub record LabelsHaveTexts : Type 0 where
  pub inner : HasLabelText inner_event (codes "i")
  pub gate : HasLabelText (gate_event 1 (printed_f (star printed_a) ∷ printed_plus printed_a (v 0) ∷ [])) (codes "g !f( *(a)) !a + $1")
  pub bare_gate : HasLabelText (gate_event 0 []) (codes "a")
  pub exit : HasLabelText (exit_event (star printed_a ∷ printed_a ∷ [])) (codes "exit( *(a), a)")
  pub bare_exit : HasLabelText (exit_event []) (codes "exit")

abbrev pub printed_entry : Label → List ℕ → List Test → Entry
printed_entry label variables conditions =
    record { shape = act; label = label; variables = variables; leaves = []; conditions = conditions }

abbrev pub equation : Term → Term → Test
equation left right = record { left = left; right = right }

-- Menus.
pub record MenusHaveTexts : Type 0 where
  pub empty : menu_text printed_sample_signature sample_gates [] ≡ codes "events 0\n"
  pub variables :
      menu_text printed_sample_signature sample_gates
      (printed_entry (gate_event 1 (v 0 ∷ v 1 ∷ [])) (0 ∷ 1 ∷ []) [] ∷ printed_entry inner_event (0 ∷ []) [] ∷ [])
      ≡ codes "events 2\n1: g !$1 !$2 for $1:A, $2:B\n2: i for $1:A\n"
  pub conditions :
      menu_text printed_sample_signature sample_gates
      (printed_entry (gate_event 1 (printed_f (v 0) ∷ [])) (0 ∷ []) (equation (printed_f (v 0)) (v 0) ∷ equation (v 0) printed_a ∷ []) ∷ [])
      ≡ codes "events 1\n1: g !f($1) for $1:A if f($1) = $1, $1 = a\n"
  pub head : head_text (codes "S") (record { signature = printed_sample_signature; equations = [] })
      ≡ codes "accepted S\ndata: 2 sorts, 11 operations, 0 equations\n"

abbrev pub HasStateText : Behaviour → List ℕ → Type 0
HasStateText behaviour text = state_text printed_sample_signature printed_sample_specification behaviour ≡ text

abbrev pub at_g : Behaviour
at_g = action 1 [] None stop

-- Actions, guards and endings, and the brackets of what follows.
pub record PrefixesHaveTexts : Type 0 where
  pub nothing : HasStateText stop (codes "stop")
  pub exit : HasStateText (exit_with (exit_value (star printed_a) ∷ any_of 1 ∷ [])) (codes "exit( *(a), any B)")
  pub bare_exit : HasStateText (exit_with []) (codes "exit")
  pub offers :
      HasStateText (action 1 (give printed_a ∷ ask printed_x ∷ []) (Some (equation (printed_above (v 0)) printed_a))
      (action 0 (give (v 0) ∷ []) None stop))
      (codes "g !a ?x:A [ >(x) = a]; a !x; stop")
  pub inner : HasStateText (inner_action (choice stop at_g)) (codes "i; (stop [] g; stop)")
  pub guarded : HasStateText (guard (equation printed_a printed_a) (hide (0 ∷ 1 ∷ []) stop)) (codes "[a = a] -> (hide a, g in stop)")

-- Binary forms with their signs.
pub record SignsStandBetweenParts : Type 0 where
  pub choices : HasStateText (choice (choice stop at_g) stop) (codes "(stop [] g; stop) [] stop")
  pub interleaving : HasStateText (parallel no_gates stop (exit_with [])) (codes "stop ||| exit")
  pub synchrony : HasStateText (parallel all_gates at_g (disable at_g stop)) (codes "g; stop || (g; stop [> stop)")
  pub gates : HasStateText (parallel (at_gates (0 ∷ 1 ∷ [])) stop stop) (codes "stop |[a, g]| stop")
  pub no_gate : HasStateText (parallel (at_gates []) stop stop) (codes "stop |[]| stop")
  pub enabling : HasStateText (enable (exit_with []) [] stop) (codes "exit >> stop")
  pub accepting :
      HasStateText (enable stop (printed_x ∷ printed_y ∷ []) (action 1 (give (v 0) ∷ give (v 1) ∷ []) None stop))
      (codes "stop >> accept x:A, y:B in g !x !y; stop")

-- Word forms, calls and relabellings.
pub record WordFormsHaveTexts : Type 0 where
  pub lets :
      HasStateText (let_be ((printed_x, printed_a) ∷ (printed_y, capital_d) ∷ []) (choice (action 1 (give (v 0) ∷ []) None stop) stop))
      (codes "let x:A = a, y:B = D of B in g !x; stop [] stop")
  pub value : HasStateText (choose_value printed_x (action 1 (give (v 0) ∷ []) None stop)) (codes "choice x:A [] g !x; stop")
  pub gate : HasStateText (choose_gate 2 (0 ∷ 1 ∷ []) (action 2 [] None stop)) (codes "choice x in [a, g] [] x; stop")
  pub parallel_gates :
      HasStateText (par_gate 2 (0 ∷ 1 ∷ []) no_gates (action 2 [] None stop)) (codes "par x in [a, g] ||| x; stop")
  pub calls : HasStateText (call 0 (0 ∷ 1 ∷ []) (star printed_a ∷ printed_a ∷ [])) (codes "P[a, g]( *(a), a)")
  pub bare_call : HasStateText (call 0 [] []) (codes "P")
  pub relabelled :
      HasStateText (relabel ((2, 0) ∷ (3, 0) ∷ []) (parallel (at_gates (2 ∷ [])) (action 2 [] None stop) stop))
      (codes "relabel a for x, a for y in x; stop |[x]| stop")
  pub by_nothing : HasStateText (choice (relabel [] at_g) stop) (codes "(relabel  in g; stop) [] stop")
