-- What terms put into moves do to the rules that take the moves of parts, and to relabelling and opening.
use Rattle.std.proofs.Common.{◌≡◌, ℕ, List, [], ◌∷◌, map, Bool, true, false, if◌then◌else◌, Option, None, Some, option_map, option_and_then, refl, ap, ◌∙◌}
use Rattle.lotos_base.specs.Term.{Term}
use Rattle.lotos_base.specs.Equation.{Variable}
use Rattle.lotos_base.specs.Substitution.{Substitution, substituted, without, is_listed}
use Rattle.behaviour_semantics.specs.Behaviour.{Behaviour, stop, exit_with, action, inner_action, guard, choice, parallel, hide, enable, disable, let_be, choose_value, choose_gate, par_gate, call, relabel, SynchronisationSet, Relabelling, numbers_of}
use Rattle.behaviour_semantics.specs.Label.{Label, inner_event, gate_event, exit_event, label_under, under}
use Rattle.behaviour_semantics.specs.Replacement.{test_with, with_values}
use Rattle.behaviour_semantics.specs.Rule.{moves_alone, is_exit, hidden_label, still_disabled, copies}
use Rattle.behaviour_semantics.specs.Move.{Move, opened, alone, passing, disabling, hiding, relabelling}
use Rattle.behaviour_semantics.specs.Draft.{label_with}
use Rattle.behaviour_semantics.specs.Join.{move_with}
use Rattle.behaviour_semantics.proofs.RaisedTerms.{alone-with, is_exit-with}

-- What becomes of options on both sides.
pub if_map : {X Y : Type 0} (f : X → Y) (b : Bool) (x : X) → (if b then Some (f x) else None) ≡ option_map f (if b then Some x else None)
if_map f true x = refl
if_map f false x = refl

pub if_not_map : {X Y : Type 0} (f : X → Y) (b : Bool) (x : X) → (if b then None else Some (f x)) ≡ option_map f (if b then None else
    Some x)
if_not_map f true x = refl
if_not_map f false x = refl

pub map_natural : {X : Type 0} (w f g : X → X) (o p : Option X) → ((x : X) → g (w x) ≡ w (f x)) → p ≡ option_map w o
    → option_map g p ≡ option_map w (option_map f o)
map_natural w f g None p h e = ap (option_map g) e
map_natural w f g (Some x) p h e = ap (option_map g) e ∙ ap (λ y. Some y) (h x)

pub chain_natural : {X : Type 0} (w : X → X) (f g : X → Option X) (o p : Option X) → ((x : X) → o ≡ Some x → g (w x) ≡ option_map w (f x))
    → p ≡ option_map w o → option_and_then g p ≡ option_map w (option_and_then f o)
chain_natural w f g None p h e = ap (option_and_then g) e
chain_natural w f g (Some x) p h e = ap (option_and_then g) e ∙ h x refl

-- Relabelling, opening.
pub under-with : (values : Substitution) (b : Behaviour) (pairs : Relabelling)
    → under (with_values values b) pairs ≡ with_values values (under b pairs)
under-with values stop pairs = refl
under-with values (exit_with results) pairs = refl
under-with values (action g offers test b) pairs = refl
under-with values (inner_action b) pairs = refl
under-with values (guard test b) pairs = refl
under-with values (choice b c) pairs = refl
under-with values (parallel meet b c) pairs = refl
under-with values (hide gates b) pairs = refl
under-with values (enable b variables c) pairs = refl
under-with values (disable b c) pairs = refl
under-with values (let_be bindings b) pairs = refl
under-with values (choose_value z b) pairs = refl
under-with values (choose_gate g gates b) pairs = refl
under-with values (par_gate g gates meet b) pairs = refl
under-with values (call number gates arguments) pairs = refl
under-with values (relabel inner b) pairs = refl

pub copies-with : (values : Substitution) (g : ℕ) (gates : List ℕ) (meet : SynchronisationSet) (b : Behaviour)
    → copies g gates meet (with_values values b) ≡ with_values values (copies g gates meet b)
copies-with values g [] meet b = refl
copies-with values g (a ∷ []) meet b = under-with values b ((g, a) ∷ [])
copies-with values g (a ∷ a' ∷ gates) meet b =
    ap (λ (c : Behaviour). parallel meet c (copies g (a' ∷ gates) meet (with_values values b))) (under-with values b ((g, a) ∷ []))
    ∙ ap (parallel meet (with_values values (under b ((g, a) ∷ [])))) (copies-with values g (a' ∷ gates) meet b)

pub opened-with : (values : Substitution) (b : Behaviour) → opened (with_values values b) ≡ with_values values (opened b)
opened-with values stop = refl
opened-with values (exit_with results) = refl
opened-with values (action g offers test b) = refl
opened-with values (inner_action b) = refl
opened-with values (guard test b) = refl
opened-with values (choice b c) = refl
opened-with values (parallel meet b c) = refl
opened-with values (hide gates b) = refl
opened-with values (enable b variables c) = refl
opened-with values (disable b c) = refl
opened-with values (let_be bindings b) = refl
opened-with values (choose_value z b) = refl
opened-with values (choose_gate g gates b) = refl
opened-with values (par_gate g gates meet b) = copies-with values g gates meet b
opened-with values (call number gates arguments) = refl
opened-with values (relabel inner b) = refl

pub relabelling-with : (values : Substitution) (pairs : Relabelling) (m : Move)
    → relabelling pairs (move_with values m) ≡ move_with values (relabelling pairs m)
relabelling-with values pairs m =
    ap (λ (label : Label). record {
      label = label;
      target = under (with_values values m.target) pairs;
      asked =
          map (test_with values) m.asked;
      sorts = m.sorts;
    }) (of_label m.label)
    ∙ ap (λ (target : Behaviour). record {
      label = label_with values (label_under pairs m.label);
      target = target;
      asked =
          map (test_with values) m.asked;
      sorts = m.sorts;
    }) (under-with values m.target pairs)
  where
    of_label : (label : Label) → label_under pairs (label_with values label) ≡ label_with values (label_under pairs label)
    of_label inner_event = refl
    of_label (gate_event g ts) = refl
    of_label (exit_event ts) = refl

pub hiding-with : (values : Substitution) (gates : List ℕ) (m : Move)
    → hiding gates (move_with values m) ≡ move_with values (hiding gates m)
hiding-with values gates m =
    ap (λ (label : Label). record {
      label = label;
      target = hide gates (with_values values m.target);
      asked =
          map (test_with values) m.asked;
      sorts = m.sorts;
    }) (of_label m.label)
  where
    by : (g : ℕ) (ts : List Term) (b : Bool) → (if b then inner_event else gate_event g (map (substituted values) ts))
        ≡ label_with values (if b then inner_event else gate_event g ts)
    by g ts true = refl
    by g ts false = refl

    of_label : (label : Label) → hidden_label gates (label_with values label) ≡ label_with values (hidden_label gates label)
    of_label inner_event = refl
    of_label (gate_event g ts) = by g ts (is_listed gates g)
    of_label (exit_event ts) = refl

pub disabling-with : (values : Substitution) (c : Behaviour) (m : Move) → disabling (with_values values c) (move_with values m)
    ≡ move_with values (disabling c m)
disabling-with values c m =
    ap (λ (target : Behaviour). record {
      label = label_with values m.label;
      target = target;
      asked = map (test_with values) m.asked;
      sorts = m.sorts;
    }) (of_label m.label)
  where
    of_label : (label : Label) → still_disabled (label_with values label) (with_values values m.target) (with_values values c)
        ≡ with_values values (still_disabled label m.target c)
    of_label inner_event = refl
    of_label (gate_event g ts) = refl
    of_label (exit_event ts) = refl

pub alone-move : (values : Substitution) (meet : SynchronisationSet) (beside beside' : Behaviour → Behaviour)
    → ((t : Behaviour) → beside' (with_values values t) ≡ with_values values (beside t)) → (m : Move)
    → alone meet beside' (move_with values m) ≡ option_map (move_with values) (alone meet beside m)
alone-move values meet beside beside' same m =
    ap (λ (b : Bool). if b then Some (record {
      label = label_with values m.label;
      target = beside' (with_values values m.target);
      asked = map (test_with values) m.asked;
      sorts = m.sorts;
    }) else None) (alone-with values meet m.label)
    ∙ (ap (λ (target : Behaviour). if moves_alone meet m.label then Some
    (record { label = label_with values m.label; target = target; asked = map (test_with values) m.asked; sorts = m.sorts }) else
    None) (same m.target)
    ∙ if_map (move_with values) (moves_alone meet m.label) (record m { target = beside m.target }))

pub passing-with : (values : Substitution) (variables : List Variable) (c c' : Behaviour)
    → c' ≡ with_values (without (numbers_of variables) values) c → (m : Move)
    → passing variables c' (move_with values m) ≡ option_map (move_with values) (passing variables c m)
passing-with values variables c c' same m =
    ap (λ (b : Bool). if b then None else Some (record {
      label = label_with values m.label;
      target =
          enable (with_values values m.target) variables c';
      asked = map (test_with values) m.asked;
      sorts = m.sorts;
    }))
    (is_exit-with values m.label)
    ∙ (ap (λ (d : Behaviour). if is_exit m.label then None else Some (record {
      label = label_with values m.label;
      target =
          enable (with_values values m.target) variables d;
      asked = map (test_with values) m.asked;
      sorts = m.sorts;
    })) same
    ∙ if_not_map (move_with values) (is_exit m.label) (record m { target = enable m.target variables c }))
