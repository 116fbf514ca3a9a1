-- Shapes that do not fit a form: any other than those of its rules.
use Rattle.std.proofs.Common.{◌≡◌, ℕ, List, Option, Some, refl}
use Rattle.std.specs.declared.alloc.Global.{Global}
use Rattle.std.specs.declared.rc.Rc.{Rc}
use Rattle.lotos_base.specs.Equation.{Variable}
use Rattle.lotos_base.specs.Term.{Term}
use Rattle.behaviour_semantics.specs.Behaviour.{action, Behaviour, call, choice, choose_gate, choose_value, disable, enable, ExitValue, exit_with, guard, hide, inner_action, let_be, Offer, parallel, relabel, Relabelling, stop, SynchronisationSet, Test}
use Rattle.behaviour_semantics.specs.Fault.{not_fitting, own_wrong}
use Rattle.behaviour_semantics.specs.Move.{Setting}
use Rattle.behaviour_tree.specs.MoveView.{shape_of}
use Rattle.behaviour_tree.specs.declared.moves.Shape.{Shape, Act, Quit, Inner, Guarded', Left', Right', Both', Hidden', Enabled', Passed', Bound', Value', Gate', Called', Relabelled'}
use Rattle.behaviour_tree.specs.declared.moves.Shape.TheVariants.{Guarded, Left, Right, Both, Hidden, Enabled, Passed, Bound, Value, Gate, Called, Relabelled}

module _ (setting : Setting) (leaves : List Term) (k : ℕ) where
  pub unfit_stop : (s : Shape) → own_wrong setting leaves (shape_of s) k stop ≡ Some not_fitting
  unfit_stop Act = refl
  unfit_stop Quit = refl
  unfit_stop Inner = refl
  unfit_stop (Guarded' a p) = refl
  unfit_stop (Left' a p) = refl
  unfit_stop (Right' a p) = refl
  unfit_stop (Both' a p e q) = refl
  unfit_stop (Hidden' a p) = refl
  unfit_stop (Enabled' a p) = refl
  unfit_stop (Passed' a p) = refl
  unfit_stop (Bound' a p) = refl
  unfit_stop (Value' a p) = refl
  unfit_stop (Gate' i a p) = refl
  unfit_stop (Called' a p) = refl
  unfit_stop (Relabelled' a p) = refl

  pub unfit_exit : (s : Shape) (results : List ExitValue) → (s ≡ Quit → ⊥) → own_wrong setting leaves (shape_of s) k (exit_with results)
      ≡ Some not_fitting
  unfit_exit Act results h0 = refl
  unfit_exit Quit results h0 = absurd (h0 refl)
  unfit_exit Inner results h0 = refl
  unfit_exit (Guarded' a p) results h0 = refl
  unfit_exit (Left' a p) results h0 = refl
  unfit_exit (Right' a p) results h0 = refl
  unfit_exit (Both' a p e q) results h0 = refl
  unfit_exit (Hidden' a p) results h0 = refl
  unfit_exit (Enabled' a p) results h0 = refl
  unfit_exit (Passed' a p) results h0 = refl
  unfit_exit (Bound' a p) results h0 = refl
  unfit_exit (Value' a p) results h0 = refl
  unfit_exit (Gate' i a p) results h0 = refl
  unfit_exit (Called' a p) results h0 = refl
  unfit_exit (Relabelled' a p) results h0 = refl

  pub unfit_action : (s : Shape) (g : ℕ) (offers : List Offer) (test : Option Test) (b : Behaviour) → (s ≡ Act → ⊥) → own_wrong setting
      leaves (shape_of s) k (action g offers test b) ≡ Some not_fitting
  unfit_action Act g offers test b h0 = absurd (h0 refl)
  unfit_action Quit g offers test b h0 = refl
  unfit_action Inner g offers test b h0 = refl
  unfit_action (Guarded' a p) g offers test b h0 = refl
  unfit_action (Left' a p) g offers test b h0 = refl
  unfit_action (Right' a p) g offers test b h0 = refl
  unfit_action (Both' a p e q) g offers test b h0 = refl
  unfit_action (Hidden' a p) g offers test b h0 = refl
  unfit_action (Enabled' a p) g offers test b h0 = refl
  unfit_action (Passed' a p) g offers test b h0 = refl
  unfit_action (Bound' a p) g offers test b h0 = refl
  unfit_action (Value' a p) g offers test b h0 = refl
  unfit_action (Gate' i a p) g offers test b h0 = refl
  unfit_action (Called' a p) g offers test b h0 = refl
  unfit_action (Relabelled' a p) g offers test b h0 = refl

  pub unfit_inner : (s : Shape) (b : Behaviour) → (s ≡ Inner → ⊥) → own_wrong setting leaves (shape_of s) k (inner_action b) ≡ Some
      not_fitting
  unfit_inner Act b h0 = refl
  unfit_inner Quit b h0 = refl
  unfit_inner Inner b h0 = absurd (h0 refl)
  unfit_inner (Guarded' a p) b h0 = refl
  unfit_inner (Left' a p) b h0 = refl
  unfit_inner (Right' a p) b h0 = refl
  unfit_inner (Both' a p e q) b h0 = refl
  unfit_inner (Hidden' a p) b h0 = refl
  unfit_inner (Enabled' a p) b h0 = refl
  unfit_inner (Passed' a p) b h0 = refl
  unfit_inner (Bound' a p) b h0 = refl
  unfit_inner (Value' a p) b h0 = refl
  unfit_inner (Gate' i a p) b h0 = refl
  unfit_inner (Called' a p) b h0 = refl
  unfit_inner (Relabelled' a p) b h0 = refl

  pub unfit_guard : (s : Shape) (test : Test) (b : Behaviour) → ((part : Rc Shape Global) → s ≡ Guarded part → ⊥) → own_wrong setting
      leaves (shape_of s) k (guard test b) ≡ Some not_fitting
  unfit_guard Act test b h0 = refl
  unfit_guard Quit test b h0 = refl
  unfit_guard Inner test b h0 = refl
  unfit_guard (Guarded' a p) test b h0 = absurd (h0 (record { ptr = a.ptr; value = p }) refl)
  unfit_guard (Left' a p) test b h0 = refl
  unfit_guard (Right' a p) test b h0 = refl
  unfit_guard (Both' a p e q) test b h0 = refl
  unfit_guard (Hidden' a p) test b h0 = refl
  unfit_guard (Enabled' a p) test b h0 = refl
  unfit_guard (Passed' a p) test b h0 = refl
  unfit_guard (Bound' a p) test b h0 = refl
  unfit_guard (Value' a p) test b h0 = refl
  unfit_guard (Gate' i a p) test b h0 = refl
  unfit_guard (Called' a p) test b h0 = refl
  unfit_guard (Relabelled' a p) test b h0 = refl

  pub unfit_choice : (s : Shape) (b c : Behaviour) → ((part : Rc Shape Global) → s ≡ Left part → ⊥) → ((part : Rc Shape Global) → s ≡
      Right part → ⊥) → own_wrong setting leaves (shape_of s) k (choice b c) ≡ Some not_fitting
  unfit_choice Act b c h0 h1 = refl
  unfit_choice Quit b c h0 h1 = refl
  unfit_choice Inner b c h0 h1 = refl
  unfit_choice (Guarded' a p) b c h0 h1 = refl
  unfit_choice (Left' a p) b c h0 h1 = absurd (h0 (record { ptr = a.ptr; value = p }) refl)
  unfit_choice (Right' a p) b c h0 h1 = absurd (h1 (record { ptr = a.ptr; value = p }) refl)
  unfit_choice (Both' a p e q) b c h0 h1 = refl
  unfit_choice (Hidden' a p) b c h0 h1 = refl
  unfit_choice (Enabled' a p) b c h0 h1 = refl
  unfit_choice (Passed' a p) b c h0 h1 = refl
  unfit_choice (Bound' a p) b c h0 h1 = refl
  unfit_choice (Value' a p) b c h0 h1 = refl
  unfit_choice (Gate' i a p) b c h0 h1 = refl
  unfit_choice (Called' a p) b c h0 h1 = refl
  unfit_choice (Relabelled' a p) b c h0 h1 = refl

  pub unfit_parallel : (s : Shape) (meet : SynchronisationSet) (b c : Behaviour) → ((part : Rc Shape Global) → s ≡ Left part → ⊥) →
      ((part : Rc Shape Global) → s ≡ Right part → ⊥) → ((part other : Rc Shape Global) → s ≡ Both part other → ⊥) → own_wrong setting
      leaves (shape_of s) k (parallel meet b c) ≡ Some not_fitting
  unfit_parallel Act meet b c h0 h1 h2 = refl
  unfit_parallel Quit meet b c h0 h1 h2 = refl
  unfit_parallel Inner meet b c h0 h1 h2 = refl
  unfit_parallel (Guarded' a p) meet b c h0 h1 h2 = refl
  unfit_parallel (Left' a p) meet b c h0 h1 h2 = absurd (h0 (record { ptr = a.ptr; value = p }) refl)
  unfit_parallel (Right' a p) meet b c h0 h1 h2 = absurd (h1 (record { ptr = a.ptr; value = p }) refl)
  unfit_parallel (Both' a p e q) meet b c h0 h1 h2 = absurd (h2 (record { ptr = a.ptr; value = p }) (record { ptr = e.ptr; value = q }) refl)
  unfit_parallel (Hidden' a p) meet b c h0 h1 h2 = refl
  unfit_parallel (Enabled' a p) meet b c h0 h1 h2 = refl
  unfit_parallel (Passed' a p) meet b c h0 h1 h2 = refl
  unfit_parallel (Bound' a p) meet b c h0 h1 h2 = refl
  unfit_parallel (Value' a p) meet b c h0 h1 h2 = refl
  unfit_parallel (Gate' i a p) meet b c h0 h1 h2 = refl
  unfit_parallel (Called' a p) meet b c h0 h1 h2 = refl
  unfit_parallel (Relabelled' a p) meet b c h0 h1 h2 = refl

  pub unfit_hide : (s : Shape) (gates : List ℕ) (b : Behaviour) → ((part : Rc Shape Global) → s ≡ Hidden part → ⊥) → own_wrong setting
      leaves (shape_of s) k (hide gates b) ≡ Some not_fitting
  unfit_hide Act gates b h0 = refl
  unfit_hide Quit gates b h0 = refl
  unfit_hide Inner gates b h0 = refl
  unfit_hide (Guarded' a p) gates b h0 = refl
  unfit_hide (Left' a p) gates b h0 = refl
  unfit_hide (Right' a p) gates b h0 = refl
  unfit_hide (Both' a p e q) gates b h0 = refl
  unfit_hide (Hidden' a p) gates b h0 = absurd (h0 (record { ptr = a.ptr; value = p }) refl)
  unfit_hide (Enabled' a p) gates b h0 = refl
  unfit_hide (Passed' a p) gates b h0 = refl
  unfit_hide (Bound' a p) gates b h0 = refl
  unfit_hide (Value' a p) gates b h0 = refl
  unfit_hide (Gate' i a p) gates b h0 = refl
  unfit_hide (Called' a p) gates b h0 = refl
  unfit_hide (Relabelled' a p) gates b h0 = refl

  pub unfit_enable : (s : Shape) (b : Behaviour) (variables : List Variable) (c : Behaviour) → ((part : Rc Shape Global) → s ≡ Passed
      part → ⊥) → ((part : Rc Shape Global) → s ≡ Enabled part → ⊥) → own_wrong setting leaves (shape_of s) k (enable b variables c) ≡
      Some not_fitting
  unfit_enable Act b variables c h0 h1 = refl
  unfit_enable Quit b variables c h0 h1 = refl
  unfit_enable Inner b variables c h0 h1 = refl
  unfit_enable (Guarded' a p) b variables c h0 h1 = refl
  unfit_enable (Left' a p) b variables c h0 h1 = refl
  unfit_enable (Right' a p) b variables c h0 h1 = refl
  unfit_enable (Both' a p e q) b variables c h0 h1 = refl
  unfit_enable (Hidden' a p) b variables c h0 h1 = refl
  unfit_enable (Enabled' a p) b variables c h0 h1 = absurd (h1 (record { ptr = a.ptr; value = p }) refl)
  unfit_enable (Passed' a p) b variables c h0 h1 = absurd (h0 (record { ptr = a.ptr; value = p }) refl)
  unfit_enable (Bound' a p) b variables c h0 h1 = refl
  unfit_enable (Value' a p) b variables c h0 h1 = refl
  unfit_enable (Gate' i a p) b variables c h0 h1 = refl
  unfit_enable (Called' a p) b variables c h0 h1 = refl
  unfit_enable (Relabelled' a p) b variables c h0 h1 = refl

  pub unfit_disable : (s : Shape) (b c : Behaviour) → ((part : Rc Shape Global) → s ≡ Left part → ⊥) → ((part : Rc Shape Global) → s ≡
      Right part → ⊥) → own_wrong setting leaves (shape_of s) k (disable b c) ≡ Some not_fitting
  unfit_disable Act b c h0 h1 = refl
  unfit_disable Quit b c h0 h1 = refl
  unfit_disable Inner b c h0 h1 = refl
  unfit_disable (Guarded' a p) b c h0 h1 = refl
  unfit_disable (Left' a p) b c h0 h1 = absurd (h0 (record { ptr = a.ptr; value = p }) refl)
  unfit_disable (Right' a p) b c h0 h1 = absurd (h1 (record { ptr = a.ptr; value = p }) refl)
  unfit_disable (Both' a p e q) b c h0 h1 = refl
  unfit_disable (Hidden' a p) b c h0 h1 = refl
  unfit_disable (Enabled' a p) b c h0 h1 = refl
  unfit_disable (Passed' a p) b c h0 h1 = refl
  unfit_disable (Bound' a p) b c h0 h1 = refl
  unfit_disable (Value' a p) b c h0 h1 = refl
  unfit_disable (Gate' i a p) b c h0 h1 = refl
  unfit_disable (Called' a p) b c h0 h1 = refl
  unfit_disable (Relabelled' a p) b c h0 h1 = refl

  pub unfit_let : (s : Shape) (bindings : List (Variable × Term)) (b : Behaviour) → ((part : Rc Shape Global) → s ≡ Bound part → ⊥) →
      own_wrong setting leaves (shape_of s) k (let_be bindings b) ≡ Some not_fitting
  unfit_let Act bindings b h0 = refl
  unfit_let Quit bindings b h0 = refl
  unfit_let Inner bindings b h0 = refl
  unfit_let (Guarded' a p) bindings b h0 = refl
  unfit_let (Left' a p) bindings b h0 = refl
  unfit_let (Right' a p) bindings b h0 = refl
  unfit_let (Both' a p e q) bindings b h0 = refl
  unfit_let (Hidden' a p) bindings b h0 = refl
  unfit_let (Enabled' a p) bindings b h0 = refl
  unfit_let (Passed' a p) bindings b h0 = refl
  unfit_let (Bound' a p) bindings b h0 = absurd (h0 (record { ptr = a.ptr; value = p }) refl)
  unfit_let (Value' a p) bindings b h0 = refl
  unfit_let (Gate' i a p) bindings b h0 = refl
  unfit_let (Called' a p) bindings b h0 = refl
  unfit_let (Relabelled' a p) bindings b h0 = refl

  pub unfit_value : (s : Shape) (x : Variable) (b : Behaviour) → ((part : Rc Shape Global) → s ≡ Value part → ⊥) → own_wrong setting
      leaves (shape_of s) k (choose_value x b) ≡ Some not_fitting
  unfit_value Act x b h0 = refl
  unfit_value Quit x b h0 = refl
  unfit_value Inner x b h0 = refl
  unfit_value (Guarded' a p) x b h0 = refl
  unfit_value (Left' a p) x b h0 = refl
  unfit_value (Right' a p) x b h0 = refl
  unfit_value (Both' a p e q) x b h0 = refl
  unfit_value (Hidden' a p) x b h0 = refl
  unfit_value (Enabled' a p) x b h0 = refl
  unfit_value (Passed' a p) x b h0 = refl
  unfit_value (Bound' a p) x b h0 = refl
  unfit_value (Value' a p) x b h0 = absurd (h0 (record { ptr = a.ptr; value = p }) refl)
  unfit_value (Gate' i a p) x b h0 = refl
  unfit_value (Called' a p) x b h0 = refl
  unfit_value (Relabelled' a p) x b h0 = refl

  pub unfit_gate : (s : Shape) (g : ℕ) (gates : List ℕ) (b : Behaviour) → ((k : ℕ) (part : Rc Shape Global) → s ≡ Gate k part → ⊥) →
      own_wrong setting leaves (shape_of s) k (choose_gate g gates b) ≡ Some not_fitting
  unfit_gate Act g gates b h0 = refl
  unfit_gate Quit g gates b h0 = refl
  unfit_gate Inner g gates b h0 = refl
  unfit_gate (Guarded' a p) g gates b h0 = refl
  unfit_gate (Left' a p) g gates b h0 = refl
  unfit_gate (Right' a p) g gates b h0 = refl
  unfit_gate (Both' a p e q) g gates b h0 = refl
  unfit_gate (Hidden' a p) g gates b h0 = refl
  unfit_gate (Enabled' a p) g gates b h0 = refl
  unfit_gate (Passed' a p) g gates b h0 = refl
  unfit_gate (Bound' a p) g gates b h0 = refl
  unfit_gate (Value' a p) g gates b h0 = refl
  unfit_gate (Gate' i a p) g gates b h0 = absurd (h0 i (record { ptr = a.ptr; value = p }) refl)
  unfit_gate (Called' a p) g gates b h0 = refl
  unfit_gate (Relabelled' a p) g gates b h0 = refl

  pub unfit_call : (s : Shape) (number : ℕ) (gates : List ℕ) (arguments : List Term) → ((part : Rc Shape Global) → s ≡ Called part → ⊥)
      → own_wrong setting leaves (shape_of s) k (call number gates arguments) ≡ Some not_fitting
  unfit_call Act number gates arguments h0 = refl
  unfit_call Quit number gates arguments h0 = refl
  unfit_call Inner number gates arguments h0 = refl
  unfit_call (Guarded' a p) number gates arguments h0 = refl
  unfit_call (Left' a p) number gates arguments h0 = refl
  unfit_call (Right' a p) number gates arguments h0 = refl
  unfit_call (Both' a p e q) number gates arguments h0 = refl
  unfit_call (Hidden' a p) number gates arguments h0 = refl
  unfit_call (Enabled' a p) number gates arguments h0 = refl
  unfit_call (Passed' a p) number gates arguments h0 = refl
  unfit_call (Bound' a p) number gates arguments h0 = refl
  unfit_call (Value' a p) number gates arguments h0 = refl
  unfit_call (Gate' i a p) number gates arguments h0 = refl
  unfit_call (Called' a p) number gates arguments h0 = absurd (h0 (record { ptr = a.ptr; value = p }) refl)
  unfit_call (Relabelled' a p) number gates arguments h0 = refl

  pub unfit_relabel : (s : Shape) (pairs : Relabelling) (b : Behaviour) → ((part : Rc Shape Global) → s ≡ Relabelled part → ⊥) →
      own_wrong setting leaves (shape_of s) k (relabel pairs b) ≡ Some not_fitting
  unfit_relabel Act pairs b h0 = refl
  unfit_relabel Quit pairs b h0 = refl
  unfit_relabel Inner pairs b h0 = refl
  unfit_relabel (Guarded' a p) pairs b h0 = refl
  unfit_relabel (Left' a p) pairs b h0 = refl
  unfit_relabel (Right' a p) pairs b h0 = refl
  unfit_relabel (Both' a p e q) pairs b h0 = refl
  unfit_relabel (Hidden' a p) pairs b h0 = refl
  unfit_relabel (Enabled' a p) pairs b h0 = refl
  unfit_relabel (Passed' a p) pairs b h0 = refl
  unfit_relabel (Bound' a p) pairs b h0 = refl
  unfit_relabel (Value' a p) pairs b h0 = refl
  unfit_relabel (Gate' i a p) pairs b h0 = refl
  unfit_relabel (Called' a p) pairs b h0 = refl
  unfit_relabel (Relabelled' a p) pairs b h0 = absurd (h0 (record { ptr = a.ptr; value = p }) refl)
