-- Moves keep the names of variables.
use Rattle.std.proofs.Common.{◌≡◌, inl, inr, ℕ, suc, ◌+◌, Bool, true, false, if◌then◌else◌, List, [], ◌∷◌, ◌++◌, map, zip, length, slice_get, Option, None, Some, option_map, option_and_then, refl, ap, ap₂, sym, subst}
use Rattle.lotos_base.proofs.Options.{mapped, chained}
use Rattle.lotos_base.specs.Term.{Term}
use Rattle.lotos_base.specs.Equation.{Data, Variable}
use Rattle.lotos_base.specs.Substitution.{Substitution, substituted, without}
use Rattle.behaviour_semantics.specs.Behaviour.{Behaviour, stop, exit_with, action, inner_action, guard, choice, parallel, hide, enable, disable, let_be, choose_value, choose_gate, par_gate, call, relabel, Process, Relabelling, SynchronisationSet, asked_variables, numbers_of, sorts_of, let_variables}
use Rattle.behaviour_semantics.specs.Label.{Label, inner_event, gate_event, exit_event, under}
use Rattle.behaviour_semantics.specs.Replacement.{with_values, binding_of}
use Rattle.behaviour_semantics.specs.Rule.{moves_alone, move_together, label_values, pairwise, have_sorts, is_exit, copies}
use Rattle.behaviour_semantics.specs.Shape.{Shape, Derivation, act, quit, inner_step, guarded, left_side, right_side, both_sides, hidden, enabled, passed, let_bound, with_value, at_gate, called, relabelled}
use Rattle.behaviour_semantics.specs.Move.{Setting, Move, move_of, opened, alone, together, passing, enabling, disabling, hiding, asking, relabelling, after_leaf, act_move, quit_move, inner_move, guarded_move, left_move, right_move, both_move, hidden_move, enabled_move, passed_move, let_move, value_move, gate_move, called_move, relabelled_move}
use Rattle.behaviour_semantics.specs.Derives.{leaves_in, GivesMove}
use Rattle.behaviour_semantics.specs.Listing.{IsAmong}
use Rattle.behaviour_semantics.specs.Run.{Reaches, at_start, one_move}
use Rattle.behaviour_semantics.specs.WellFormed.{Every}
use Rattle.behaviour_semantics.proofs.EveryLemmas.{every_front, every_back}
use Rattle.behaviour_semantics.proofs.ListLemmas.{Every-append, Every-among, IsAmong-left, IsAmong-right}
use Rattle.behaviour_semantics.proofs.OptionLemmas.{some_value}
use Rattle.behaviour_semantics.proofs.InstanceLemmas.{every_at}
use Rattle.behaviour_semantics.proofs.ReplacementLemmas.{asked-with}
use Rattle.session_histories.specs.BoundNames.{names_of_variables, bound_names, names_in_bodies, names_at_hand, MovesKeepNames}

-- ---- Values put in

let_stay : (values : Substitution) (bindings : List (Variable × Term))
    → let_variables (map (λ (bound : Variable × Term). (bound.0, substituted values bound.1)) bindings) ≡ let_variables bindings
let_stay values [] = refl
let_stay values (bound ∷ bindings) = ap (λ (xs : List Variable). bound.0 ∷ xs) (let_stay values bindings)

abbrev before : List Variable → List (List ℕ) → List (List ℕ)
before xs names = names_of_variables xs ++ names

pub put_in : (values : Substitution) (b : Behaviour) → bound_names (with_values values b) ≡ bound_names b
put_in values stop = refl
put_in values (exit_with results) = refl
put_in values (action g offers test b) =
    ap₂ before (asked-with values offers) (put_in (without (numbers_of (asked_variables offers)) values) b)
put_in values (inner_action b) = put_in values b
put_in values (guard test b) = put_in values b
put_in values (choice b c) = ap₂ (λ (xs ys : List (List ℕ)). xs ++ ys) (put_in values b) (put_in values c)
put_in values (parallel meet b c) = ap₂ (λ (xs ys : List (List ℕ)). xs ++ ys) (put_in values b) (put_in values c)
put_in values (hide gates b) = put_in values b
put_in values (enable b variables c) =
    ap₂ (λ (xs ys : List (List ℕ)). xs ++ before variables ys) (put_in values b) (put_in (without (numbers_of variables) values) c)
put_in values (disable b c) = ap₂ (λ (xs ys : List (List ℕ)). xs ++ ys) (put_in values b) (put_in values c)
put_in values (let_be bindings b) =
    ap₂ before (let_stay values bindings) (put_in (without (numbers_of (let_variables bindings)) values) b)
put_in values (choose_value x b) = ap (λ (xs : List (List ℕ)). x.name ∷ xs) (put_in (without (x.number ∷ []) values) b)
put_in values (choose_gate g gates b) = put_in values b
put_in values (par_gate g gates meet b) = put_in values b
put_in values (call number gates arguments) = refl
put_in values (relabel pairs b) = put_in values b

-- ---- Relabelling

under_stays : (b : Behaviour) (pairs : Relabelling) → bound_names (under b pairs) ≡ bound_names b
under_stays stop pairs = refl
under_stays (exit_with results) pairs = refl
under_stays (action g offers test b) pairs = refl
under_stays (inner_action b) pairs = refl
under_stays (guard test b) pairs = refl
under_stays (choice b c) pairs = refl
under_stays (parallel meet b c) pairs = refl
under_stays (hide gates b) pairs = refl
under_stays (enable b variables c) pairs = refl
under_stays (disable b c) pairs = refl
under_stays (let_be bindings b) pairs = refl
under_stays (choose_value x b) pairs = refl
under_stays (choose_gate g gates b) pairs = refl
under_stays (par_gate g gates meet b) pairs = refl
under_stays (call number gates arguments) pairs = refl
under_stays (relabel inner b) pairs = refl

-- ---- Moves, where names have a property

module _ (IsName : List ℕ → Type 0) where
  abbrev pub Named : Behaviour → Type 0
  Named b = Every IsName (bound_names b)

  both : (xs ys : List (List ℕ)) → Every IsName xs → Every IsName ys → Every IsName (xs ++ ys)
  both xs ys first second = Every-append IsName xs ys first second

  front : (xs ys : List (List ℕ)) → Every IsName (xs ++ ys) → Every IsName xs
  front xs ys all = every_front IsName xs ys all

  back : (xs ys : List (List ℕ)) → Every IsName (xs ++ ys) → Every IsName ys
  back xs ys all = every_back IsName xs ys all

  put_named : (values : Substitution) (b : Behaviour) → Named b → Named (with_values values b)
  put_named values b all = subst (Every IsName) (sym (put_in values b)) all

  under_named : (b : Behaviour) (pairs : Relabelling) → Named b → Named (under b pairs)
  under_named b pairs all = subst (Every IsName) (sym (under_stays b pairs)) all

  -- a gate `par` as its copies
  copies_named : (g : ℕ) (gates : List ℕ) (meet : SynchronisationSet) (b : Behaviour) → Named b → Named (copies g gates meet b)
  copies_named g [] meet b all = tt
  copies_named g (a ∷ []) meet b all = under_named b ((g, a) ∷ []) all
  copies_named g (a ∷ c ∷ gates) meet b all =
      both (bound_names (under b ((g, a) ∷ []))) (bound_names (copies g (c ∷ gates) meet b)) (under_named b ((g, a) ∷ []) all)
      (copies_named g (c ∷ gates) meet b all)

  opened_named : (b : Behaviour) → Named b → Named (opened b)
  opened_named (par_gate g gates meet b) all = copies_named g gates meet b all
  opened_named stop all = all
  opened_named (exit_with results) all = all
  opened_named (action g offers test b) all = all
  opened_named (inner_action b) all = all
  opened_named (guard test b) all = all
  opened_named (choice b c) all = all
  opened_named (parallel meet b c) all = all
  opened_named (hide gates b) all = all
  opened_named (enable b variables c) all = all
  opened_named (disable b c) all = all
  opened_named (let_be bindings b) all = all
  opened_named (choose_value x b) all = all
  opened_named (choose_gate g gates b) all = all
  opened_named (call number gates arguments) all = all
  opened_named (relabel pairs b) all = all

  module _ (setting : Setting) (leaves : Substitution) (bodies : Every (λ (p : Process). Named p.body) setting.processes) where
    abbrev Keep : (Behaviour → Option Move) → Type 0
    Keep moves = (b : Behaviour) (m : Move) → moves b ≡ Some m → Named b → Named m.target

    same : (m n : Move) → m ≡ n → Named m.target → Named n.target
    same m n e all = subst (λ (it : Move). Named it.target) e all

    act_keeps : (next : ℕ) → Keep (act_move setting leaves next)
    act_keeps next (action g offers test b) m e all =
        same _ m (some_value e) (put_named _ b (back (names_of_variables (asked_variables offers)) (bound_names b) all))
    act_keeps next _ m e all = absurd cc

    quit_keeps : (next : ℕ) → Keep (quit_move setting leaves next)
    quit_keeps next (exit_with results) m e all = same _ m (some_value e) tt
    quit_keeps next _ m e all = absurd cc

    inner_keeps : Keep inner_move
    inner_keeps (inner_action b) m e all = same _ m (some_value e) all
    inner_keeps _ m e all = absurd cc

    guarded_keeps : (moves : Behaviour → Option Move) → Keep moves → Keep (guarded_move moves)
    guarded_keeps moves keep (guard test b) m e all =
        let from : (n : Move) × (moves b ≡ Some n) × (asking test n ≡ m) = mapped (asking test) (moves b) e in
        same (asking test from.0) m from.2 (keep b from.0 from.1 all)
    guarded_keeps moves keep _ m e all = absurd cc

    alone_keeps : (meet : SynchronisationSet) (beside : Behaviour → Behaviour) (n m : Move) → alone meet beside n ≡ Some m
        → Named (beside n.target) → Named m.target
    alone_keeps meet beside n m e all = by (moves_alone meet n.label) e
      where
        by : (may : Bool) → (if may then Some (record n { target = beside n.target }) else None) ≡ Some m → Named m.target
        by true e = same (record n { target = beside n.target }) m (some_value e) all
        by false e = absurd (cc e)

    disabling_keeps : (c : Behaviour) (n : Move) → Named n.target → Named c → Named (disabling c n).target
    disabling_keeps c n all also = by (is_exit n.label)
      where
        by : (ends : Bool) → Named (if ends then n.target else disable n.target c)
        by true = all
        by false = both (bound_names n.target) (bound_names c) all also

    left_keeps : (moves : Behaviour → Option Move) → Keep moves → Keep (left_move moves)
    left_keeps moves keep (choice b c) m e all = keep b m e (front (bound_names b) (bound_names c) all)
    left_keeps moves keep (parallel meet b c) m e all =
        let from : (n : Move) × (moves b ≡ Some n) × (alone meet (λ target. parallel meet target c) n ≡ Some m) =
        chained (alone meet (λ target. parallel meet target c)) (moves b) e in
        alone_keeps meet (λ target. parallel meet target c) from.0 m from.2
        (both (bound_names from.0.target) (bound_names c) (keep b from.0 from.1 (front (bound_names b) (bound_names c) all))
        (back (bound_names b) (bound_names c) all))
    left_keeps moves keep (disable b c) m e all =
        let from : (n : Move) × (moves b ≡ Some n) × (disabling c n ≡ m) = mapped (disabling c) (moves b) e in
        same (disabling c from.0) m from.2
        (disabling_keeps c from.0 (keep b from.0 from.1 (front (bound_names b) (bound_names c) all))
        (back (bound_names b) (bound_names c) all))
    left_keeps moves keep _ m e all = absurd cc

    right_keeps : (moves : Behaviour → Option Move) → Keep moves → Keep (right_move moves)
    right_keeps moves keep (choice b c) m e all = keep c m e (back (bound_names b) (bound_names c) all)
    right_keeps moves keep (parallel meet b c) m e all =
        let from : (n : Move) × (moves c ≡ Some n) × (alone meet (λ target. parallel meet b target) n ≡ Some m) =
        chained (alone meet (λ target. parallel meet b target)) (moves c) e in
        alone_keeps meet (λ target. parallel meet b target) from.0 m from.2
        (both (bound_names b) (bound_names from.0.target) (front (bound_names b) (bound_names c) all)
        (keep c from.0 from.1 (back (bound_names b) (bound_names c) all)))
    right_keeps moves keep (disable b c) m e all = keep c m e (back (bound_names b) (bound_names c) all)
    right_keeps moves keep _ m e all = absurd cc

    -- what is there if a test says so
    there_if : (made m : Move) (may : Bool) → (if may then Some made else None) ≡ Some m → Named made.target → Named m.target
    there_if made m true e all = same made m (some_value e) all
    there_if made m false e all = absurd (cc e)

    together_keeps : (meet : SynchronisationSet) (n o m : Move) → together setting.signature meet n o ≡ Some m → Named n.target
        → Named o.target → Named m.target
    together_keeps meet n o m e all also =
        there_if (record {
          label = n.label;
          target = parallel meet n.target o.target;
          asked = n.asked ++ o.asked ++ pairwise (label_values n.label) (label_values o.label);
          sorts = n.sorts ++ o.sorts;
        }) m (move_together setting.signature meet n.label o.label) e
        (both (bound_names n.target) (bound_names o.target) all also)

    both_keeps : (next : ℕ) (lefts : Behaviour → Option Move) (rights : ℕ → Behaviour → Option Move) → Keep lefts
        → ((n : ℕ) → Keep (rights n)) → Keep (both_move setting next lefts rights)
    both_keeps next lefts rights keep also (parallel meet b c) m e all =
        let from = chained (λ (n : Move). option_and_then (together setting.signature meet n) (rights (next + length n.sorts) c))
        (lefts b) e in
        let then_ = chained (together setting.signature meet from.0) (rights (next + length from.0.sorts) c) from.2 in
        together_keeps meet from.0 then_.0 m then_.2 (keep b from.0 from.1 (front (bound_names b) (bound_names c) all))
        (also (next + length from.0.sorts) c then_.0 then_.1 (back (bound_names b) (bound_names c) all))
    both_keeps next lefts rights keep also _ m e all = absurd cc

    hidden_keeps : (moves : Behaviour → Option Move) → Keep moves → Keep (hidden_move moves)
    hidden_keeps moves keep (hide gates b) m e all =
        let from : (n : Move) × (moves b ≡ Some n) × (hiding gates n ≡ m) = mapped (hiding gates) (moves b) e in
        same (hiding gates from.0) m from.2 (keep b from.0 from.1 all)
    hidden_keeps moves keep _ m e all = absurd cc

    enabling_keeps : (variables : List Variable) (c : Behaviour) (n m : Move) (label : Label)
        → enabling setting.signature variables c n label ≡ Some m → Named c → Named m.target
    enabling_keeps variables c n m inner_event e all = absurd (cc e)
    enabling_keeps variables c n m (gate_event g values) e all = absurd (cc e)
    enabling_keeps variables c n m (exit_event values) e all =
        there_if (record n { label = inner_event; target = with_values (binding_of variables values) c }) m
        (have_sorts setting.signature values (sorts_of variables)) e (put_named (binding_of variables values) c all)

    -- the parts of an enabling
    right_part : (b : Behaviour) (variables : List Variable) (c : Behaviour) → Named (enable b variables c) → Named c
    right_part b variables c all =
        back (names_of_variables variables) (bound_names c) (back (bound_names b) (names_of_variables variables ++ bound_names c) all)

    enabled_keeps : (moves : Behaviour → Option Move) → Keep (enabled_move setting moves)
    enabled_keeps moves (enable b variables c) m e all =
        let from = chained (λ (n : Move). enabling setting.signature variables c n n.label) (moves b) e in
        enabling_keeps variables c from.0 m from.0.label from.2 (right_part b variables c all)
    enabled_keeps moves _ m e all = absurd cc

    passing_keeps : (variables : List Variable) (c : Behaviour) (n m : Move) → passing variables c n ≡ Some m
        → Named (enable n.target variables c) → Named m.target
    passing_keeps variables c n m e all = by (is_exit n.label) e
      where
        by : (ends : Bool) → (if ends then None else Some (record n { target = enable n.target variables c })) ≡ Some m → Named m.target
        by true e = absurd (cc e)
        by false e = same (record n { target = enable n.target variables c }) m (some_value e) all

    passed_keeps : (moves : Behaviour → Option Move) → Keep moves → Keep (passed_move moves)
    passed_keeps moves keep (enable b variables c) m e all =
        let from = chained (passing variables c) (moves b) e in
        let right : List (List ℕ) = names_of_variables variables ++ bound_names c in
        passing_keeps variables c from.0 m from.2
        (both (bound_names from.0.target) right (keep b from.0 from.1 (front (bound_names b) right all)) (back (bound_names b) right all))
    passed_keeps moves keep _ m e all = absurd cc

    let_keeps : (moves : Behaviour → Option Move) → Keep moves → Keep (let_move setting moves)
    let_keeps moves keep (let_be bindings b) m e all =
        keep _ m e (put_named _ b (back (names_of_variables (let_variables bindings)) (bound_names b) all))
    let_keeps moves keep _ m e all = absurd cc

    value_keeps : (next : ℕ) (moves : Behaviour → Option Move) → Keep moves → Keep (value_move setting leaves next moves)
    value_keeps next moves keep (choose_value x b) m e all =
        let from = mapped (after_leaf x.sort) (moves _) e in
        same (after_leaf x.sort from.0) m from.2 (keep _ from.0 from.1 (put_named _ b all.1))
    value_keeps next moves keep _ m e all = absurd cc

    relabelling_keeps : (pairs : Relabelling) (n m : Move) → relabelling pairs n ≡ m → Named n.target → Named m.target
    relabelling_keeps pairs n m e all = same (relabelling pairs n) m e (under_named n.target pairs all)

    gate_keeps : (k : ℕ) (moves : Behaviour → Option Move) → Keep moves → Keep (gate_move k moves)
    gate_keeps k moves keep (choose_gate h gates b) m e all =
        let at = chained (λ (a : ℕ). option_map (relabelling ((h, a) ∷ [])) (moves b)) (slice_get gates k) e in
        let from = mapped (relabelling ((h, at.0) ∷ [])) (moves b) at.2 in
        relabelling_keeps ((h, at.0) ∷ []) from.0 m from.2 (keep b from.0 from.1 all)
    gate_keeps k moves keep _ m e all = absurd cc

    called_keeps : (moves : Behaviour → Option Move) → Keep moves → Keep (called_move setting moves)
    called_keeps moves keep (call number gates arguments) m e all =
        let at = chained (λ (process : Process). option_map (relabelling (zip process.gates gates)) (moves _))
        (slice_get setting.processes number) e in
        let from = mapped (relabelling (zip at.0.gates gates)) (moves _) at.2 in
        relabelling_keeps (zip at.0.gates gates) from.0 m from.2
        (keep _ from.0 from.1
        (put_named _ at.0.body (every_at (λ (p : Process). Named p.body) setting.processes number at.0 bodies at.1)))
    called_keeps moves keep _ m e all = absurd cc

    relabelled_keeps : (moves : Behaviour → Option Move) → Keep moves → Keep (relabelled_move moves)
    relabelled_keeps moves keep (relabel pairs b) m e all =
        let from = mapped (relabelling pairs) (moves b) e in
        relabelling_keeps pairs from.0 m from.2 (keep b from.0 from.1 all)
    relabelled_keeps moves keep _ m e all = absurd cc

    all_keep : (s : Shape) (next : ℕ) → Keep (move_of setting leaves s next)
    all_keep act next b m e all = act_keeps next (opened b) m e (opened_named b all)
    all_keep quit next b m e all = quit_keeps next (opened b) m e (opened_named b all)
    all_keep inner_step next b m e all = inner_keeps (opened b) m e (opened_named b all)
    all_keep (guarded s) next b m e all =
        guarded_keeps (move_of setting leaves s next) (all_keep s next) (opened b) m e (opened_named b all)
    all_keep (left_side s) next b m e all =
        left_keeps (move_of setting leaves s next) (all_keep s next) (opened b) m e (opened_named b all)
    all_keep (right_side s) next b m e all =
        right_keeps (move_of setting leaves s next) (all_keep s next) (opened b) m e (opened_named b all)
    all_keep (both_sides s t) next b m e all =
        both_keeps next (move_of setting leaves s next) (move_of setting leaves t) (all_keep s next) (all_keep t) (opened b) m e
        (opened_named b all)
    all_keep (hidden s) next b m e all =
        hidden_keeps (move_of setting leaves s next) (all_keep s next) (opened b) m e (opened_named b all)
    all_keep (enabled s) next b m e all = enabled_keeps (move_of setting leaves s next) (opened b) m e (opened_named b all)
    all_keep (passed s) next b m e all =
        passed_keeps (move_of setting leaves s next) (all_keep s next) (opened b) m e (opened_named b all)
    all_keep (let_bound s) next b m e all =
        let_keeps (move_of setting leaves s next) (all_keep s next) (opened b) m e (opened_named b all)
    all_keep (with_value s) next b m e all =
        value_keeps next (move_of setting leaves s (suc next)) (all_keep s (suc next)) (opened b) m e (opened_named b all)
    all_keep (at_gate k s) next b m e all =
        gate_keeps k (move_of setting leaves s next) (all_keep s next) (opened b) m e (opened_named b all)
    all_keep (called s) next b m e all =
        called_keeps (move_of setting leaves s next) (all_keep s next) (opened b) m e (opened_named b all)
    all_keep (relabelled s) next b m e all =
        relabelled_keeps (move_of setting leaves s next) (all_keep s next) (opened b) m e (opened_named b all)

  bodies_named : (processes : List Process) → Every IsName (names_in_bodies processes) → Every (λ (p : Process). Named p.body) processes
  bodies_named [] all = tt
  bodies_named (p ∷ processes) all = (
    front (bound_names p.body) (names_in_bodies processes) all,
    bodies_named processes (back (bound_names p.body) (names_in_bodies processes) all),
  )

  move_named : (data_ : Data) (represent : Term → Term) (processes : List Process) (b : Behaviour) (d : Derivation) (label : Label)
      (target : Behaviour) → Every IsName (names_in_bodies processes) → Named b → GivesMove data_ represent processes b d label target
      → Named target
  move_named data_ represent processes b d label target bodies all gives =
      all_keep (record { signature = data_.signature; represent = represent; processes = processes }) (leaves_in d.leaves)
      (bodies_named processes bodies) d.shape 0 b _ gives.move all

  pub reached_named : (data_ : Data) (represent : Term → Term) (processes : List Process) (b : Behaviour) (ds : List Derivation)
      (target : Behaviour) → Every IsName (names_in_bodies processes) → Named b → Reaches data_ represent processes b ds target
      → Named target
  reached_named data_ represent processes b _ _ bodies all at_start = all
  reached_named data_ represent processes b _ target bodies all (one_move {next = next} {d = d} {ds = ds} {label = label} move more) =
      reached_named data_ represent processes next ds target bodies
      (move_named data_ represent processes b d label next bodies all move) more

-- ---- Names that are at hand

-- what holds of the names among a list holds of each of its members
pub each_so : (P : List ℕ → Type 0) (xs : List (List ℕ)) → ((name : List ℕ) → IsAmong name xs → P name) → Every P xs
each_so P [] so = tt
each_so P (x ∷ xs) so = (so x (inl refl), each_so P xs (λ name there. so name (inr there)))

module _ (processes : List Process) (b : Behaviour) where
  abbrev AtHand : List ℕ → Type 0
  AtHand name = IsAmong name (names_at_hand processes b)

  own : Every AtHand (bound_names b)
  own = each_so AtHand (bound_names b) (λ name is. IsAmong-left name (bound_names b) (names_in_bodies processes) is)

  of_bodies : Every AtHand (names_in_bodies processes)
  of_bodies = each_so AtHand (names_in_bodies processes) (λ name is. IsAmong-right name (bound_names b) (names_in_bodies processes) is)

pub moves_keep_names : MovesKeepNames
moves_keep_names = record {
  moved = λ data_ represent processes b d label target name gives is.
      Every-among (AtHand processes b) (bound_names target) name
      (move_named (AtHand processes b) data_ represent processes b d label target
      (of_bodies processes b) (own processes b) gives) is;
  reached = λ data_ represent processes b ds target name reaches is.
      Every-among (AtHand processes b) (bound_names target) name
      (reached_named (AtHand processes b) data_ represent processes b ds target
      (of_bodies processes b) (own processes b) reaches) is;
  closed = put_in;
}
