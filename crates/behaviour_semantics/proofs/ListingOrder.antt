-- The shapes of the listed moves rise.
use Rattle.std.proofs.Common.{◌≡◌, ◌<◌, ◌⊎◌, inl, inr, ℕ, zero, suc, ◌+◌, List, [], ◌∷◌, ◌++◌, length, map, zip, filter_map, slice_get, Bool, true, false, if◌then◌else◌, Option, None, Some, option_map, option_and_then, refl, ap, sym, subst, arith}
use Rattle.std.specs.List.{cons_option}
use Rattle.lotos_base.proofs.Options.{mapped}
use Rattle.lotos_base.specs.Signature.{Signature}
use Rattle.lotos_base.specs.Term.{Term}
use Rattle.lotos_base.specs.Equation.{Variable}
use Rattle.lotos_base.specs.Substitution.{Substitution}
use Rattle.behaviour_semantics.specs.Behaviour.{Behaviour, stop, exit_with, action, inner_action, guard, choice, parallel, hide, enable, disable, let_be, choose_value, choose_gate, par_gate, call, relabel, SynchronisationSet, Process, let_variables, let_terms}
use Rattle.behaviour_semantics.specs.Replacement.{with_values, binding_of}
use Rattle.behaviour_semantics.specs.Rule.{is_exit}
use Rattle.behaviour_semantics.specs.Shape.{Shape, guarded, left_side, right_side, both_sides, hidden, enabled, passed, let_bound, with_value, at_gate, called, relabelled, Before, left_then_right, left_then_both, right_then_both, by_gate, in_guarded, in_left, in_right, in_first, in_second, in_hidden, in_enabled, in_passed, in_enabled_passed, in_passed_enabled, in_let, in_value, in_gate, in_called, in_relabelled}
use Rattle.behaviour_semantics.specs.Move.{Setting, Move, opened, alone, together, passing, enabling, disabling, hiding, asking, relabelling, after_leaf}
use Rattle.behaviour_semantics.specs.WellFormed.{Every}
use Rattle.behaviour_semantics.specs.Listing.{ShapedMove, Parts, below, each_below, below_enable, one_behind, both_below, at_gates_below, called_below, moves_by_form, listed_moves}
use Rattle.behaviour_semantics.specs.Listing.{ShapesRise, shapes_of_moves}
use Rattle.behaviour_semantics.proofs.OrderLemmas.{Agree-refl}
use Rattle.behaviour_semantics.proofs.ListLemmas.{EachOf, Every-append, Every-filter_map, EachOf-one_behind}
use Rattle.behaviour_semantics.proofs.ListingLemmas.{shaped}
use Rattle.behaviour_semantics.proofs.ListingSoundness.{each_taken, EachOf-weaker}

abbrev pub Earlier : ShapedMove → ShapedMove → Type 0
Earlier x y = Before x.shape y.shape

abbrev pub Rising : List ShapedMove → Type 0
Rising [] = Unit {0}
Rising (x ∷ xs) = Every (Earlier x) xs × Rising xs

abbrev pub RisingIn : Option (List ShapedMove) → Type 0
RisingIn None = Unit {0}
RisingIn (Some xs) = Rising xs

-- Each move of the first list comes before each one of the second.
abbrev Apart : Option (List ShapedMove) → Option (List ShapedMove) → Type 0
Apart o p = EachOf (λ x. EachOf (Earlier x) p) o

Rising-append : (xs ys : List ShapedMove) → Rising xs → Rising ys → Every (λ x. Every (Earlier x) ys) xs → Rising (xs ++ ys)
Rising-append [] ys h k a = k
Rising-append (x ∷ xs) ys h k a = (Every-append (Earlier x) xs ys h.0 a.0, Rising-append xs ys h.1 k a.1)

Rising-one_behind : (o p : Option (List ShapedMove)) → RisingIn o → RisingIn p → Apart o p → RisingIn (one_behind o p)
Rising-one_behind None p h k a = tt
Rising-one_behind (Some xs) None h k a = tt
Rising-one_behind (Some xs) (Some ys) h k a = Rising-append xs ys h k a

-- What keeps the order of two moves keeps that of a list.
abbrev KeepsOrder : (ShapedMove → Option ShapedMove) → Type 0
KeepsOrder f = (x y x' y' : ShapedMove) → Earlier x y → f x ≡ Some x' → f y ≡ Some y' → Earlier x' y'

Rising-cons_option : (f : ShapedMove → Option ShapedMove) (o : Option ShapedMove) (ys : List ShapedMove)
    → ((x : ShapedMove) → o ≡ Some x → Every (Earlier x) ys) → Rising ys → Rising (cons_option o ys)
Rising-cons_option f None ys h k = k
Rising-cons_option f (Some x) ys h k = (h x refl, k)

Rising-filter_map : (f : ShapedMove → Option ShapedMove) → KeepsOrder f → (xs : List ShapedMove) → Rising xs → Rising (filter_map f xs)
Rising-filter_map f keeps [] h = tt
Rising-filter_map f keeps (x ∷ xs) h =
    Rising-cons_option f (f x) (filter_map f xs) (λ x' e. Every-filter_map f (Earlier x) (Earlier x')
    (λ y y' before e'. keeps x y x' y' before e e') xs h.0) (Rising-filter_map f keeps xs h.1)

Rising-each : (f : ShapedMove → Option ShapedMove) → KeepsOrder f → (o : Option (List ShapedMove)) → RisingIn o
    → RisingIn (option_map (filter_map f) o)
Rising-each f keeps None h = tt
Rising-each f keeps (Some xs) h = Rising-filter_map f keeps xs h

below-keeps : (variant : Shape → Shape) (rule : Move → Option Move) → ((s t : Shape) → Before s t → Before (variant s) (variant t))
    → KeepsOrder (below variant rule)
below-keeps variant rule under_ x y x' y' before e e' =
    let p : _ = mapped (λ (m : Move). shaped (variant x.shape) m) (rule x.move) e in
    let q : _ = mapped (λ (m : Move). shaped (variant y.shape) m) (rule y.move) e' in
    subst (λ (z : ShapedMove). Before z.shape y'.shape) p.2
    (subst (λ (z : ShapedMove). Before (variant x.shape) z.shape) q.2 (under_ x.shape y.shape before))

Rising-below : (variant : Shape → Shape) (rule : Move → Option Move) → ((s t : Shape) → Before s t → Before (variant s) (variant t))
    → (o : Option (List ShapedMove)) → RisingIn o → RisingIn (each_below variant rule o)
Rising-below variant rule under_ o h = Rising-each (below variant rule) (below-keeps variant rule under_) o h

-- A left side that ended, or one that goes on: the variant of one move.
IsEnableOf : ShapedMove → ShapedMove → Type 0
IsEnableOf x x' = (x'.shape ≡ enabled x.shape) ⊎ (x'.shape ≡ passed x.shape)

enable_variant : (signature : Signature) (variables : List Variable) (c : Behaviour) (x x' : ShapedMove)
    → below_enable signature variables c x ≡ Some x' → IsEnableOf x x'
unfolding IsEnableOf
enable_variant signature variables c x x' e = by_end (is_exit x.move.label) e
  where
    by_end : (t : Bool) → (if t then below enabled (λ k. enabling signature variables c k k.label) x else below passed (passing variables c)
        x) ≡ Some x' → (x'.shape ≡ enabled x.shape) ⊎ (x'.shape ≡ passed x.shape)
    by_end true e =
        let p : _ = mapped (λ (m : Move). shaped (enabled x.shape) m) (enabling signature variables c x.move x.move.label) e in
        inl (ap (λ (z : ShapedMove). z.shape) (sym p.2))
    by_end false e =
        let p : _ = mapped (λ (m : Move). shaped (passed x.shape) m) (passing variables c x.move) e in
        inr (ap (λ (z : ShapedMove). z.shape) (sym p.2))

enable_order : (x y x' y' : ShapedMove) → Earlier x y → IsEnableOf x x' → IsEnableOf y y' → Earlier x' y'
unfolding IsEnableOf
enable_order x y x' y' before (inl e) (inl e') = subst (λ s. Before s y'.shape) (sym e)
    (subst (λ s. Before (enabled x.shape) s) (sym e') (in_enabled before))
enable_order x y x' y' before (inl e) (inr e') = subst (λ s. Before s y'.shape) (sym e)
    (subst (λ s. Before (enabled x.shape) s) (sym e') (in_enabled_passed before))
enable_order x y x' y' before (inr e) (inl e') = subst (λ s. Before s y'.shape) (sym e)
    (subst (λ s. Before (passed x.shape) s) (sym e') (in_passed_enabled before))
enable_order x y x' y' before (inr e) (inr e') = subst (λ s. Before s y'.shape) (sym e)
    (subst (λ s. Before (passed x.shape) s) (sym e') (in_passed before))

enable-keeps : (signature : Signature) (variables : List Variable) (c : Behaviour) → KeepsOrder (below_enable signature variables c)
enable-keeps signature variables c x y x' y' before e e' =
    enable_order x y x' y' before (enable_variant signature variables c x x' e) (enable_variant signature variables c y y' e')

-- The variant that stands at the root of each shape of a list.
abbrev HasVariant : (Shape → Shape) → ShapedMove → Type 0
HasVariant variant x = (s : Shape) × (variant s ≡ x.shape)

abbrev IsBoth : ShapedMove → Type 0
IsBoth x = (s : Shape) × (t : Shape) × (both_sides s t ≡ x.shape)

EachOf-anything : (o : Option (List ShapedMove)) → EachOf (λ x. Unit {0}) o
EachOf-anything None = tt
EachOf-anything (Some xs) = every xs
  where
    every : (xs : List ShapedMove) → Every (λ x. Unit {0}) xs
    every [] = tt
    every (x ∷ xs) = (tt, every xs)

each_variant : (variant : Shape → Shape) (rule : Move → Option Move) (o : Option (List ShapedMove))
    → EachOf (HasVariant variant) (each_below variant rule o)
each_variant variant rule o = each_taken variant rule (λ x. Unit {0}) (HasVariant variant) (λ s k m p e. (s, refl)) o (EachOf-anything o)

apart : (P Q : ShapedMove → Type 0) → ((x y : ShapedMove) → P x → Q y → Earlier x y) → (o p : Option (List ShapedMove)) → EachOf P o
    → EachOf Q p → Apart o p
apart P Q h o p k l = EachOf-weaker P (λ x. EachOf (Earlier x) p) (λ x px. EachOf-weaker Q (Earlier x) (λ y qy. h x y px qy) p l) o k

left_before_right : (x y : ShapedMove) → HasVariant left_side x → HasVariant right_side y → Earlier x y
left_before_right x y (s, e) (t, e') = subst (λ u. Before u y.shape) e (subst (λ u. Before (left_side s) u) e' left_then_right)

left_before_both : (x y : ShapedMove) → HasVariant left_side x → IsBoth y → Earlier x y
left_before_both x y (s, e) (t, u, e') = subst (λ v. Before v y.shape) e (subst (λ v. Before (left_side s) v) e' left_then_both)

right_before_both : (x y : ShapedMove) → HasVariant right_side x → IsBoth y → Earlier x y
right_before_both x y (s, e) (t, u, e') = subst (λ v. Before v y.shape) e (subst (λ v. Before (right_side s) v) e' right_then_both)

-- both sides, whose left one comes after a shape
abbrev IsBothAfter : Shape → ShapedMove → Type 0
IsBothAfter r x = (s : Shape) × (t : Shape) × Before r s × (both_sides s t ≡ x.shape)

module _ (signature : Signature) (meet : SynchronisationSet) (next : ℕ) (rights : ℕ → Option (List ShapedMove)) where
  block : ShapedMove → Option (List ShapedMove)
  block x = each_below (both_sides x.shape) (together signature meet x.move) (rights (next + length x.move.sorts))

  both_is_both : (lefts : List ShapedMove) → EachOf IsBoth (both_below signature meet next rights lefts)
  unfolding block
  both_is_both [] = tt
  both_is_both (x ∷ lefts) =
      EachOf-one_behind IsBoth (block x) (both_below signature meet next rights lefts)
      (EachOf-weaker (HasVariant (both_sides x.shape)) IsBoth (λ y h. (x.shape, h.0, h.1)) (block x)
      (each_variant (both_sides x.shape) (together signature meet x.move) (rights (next + length x.move.sorts))))
      (both_is_both lefts)

  both_after : (r : Shape) (lefts : List ShapedMove) → Every (λ x. Before r x.shape) lefts
      → EachOf (IsBothAfter r) (both_below signature meet next rights lefts)
  unfolding block
  both_after r [] h = tt
  both_after r (x ∷ lefts) h =
      EachOf-one_behind (IsBothAfter r) (block x) (both_below signature meet next rights lefts)
      (EachOf-weaker (HasVariant (both_sides x.shape)) (IsBothAfter r) (λ y k. (x.shape, k.0, h.0, k.1)) (block x)
      (each_variant (both_sides x.shape) (together signature meet x.move) (rights (next + length x.move.sorts))))
      (both_after r lefts h.1)

  first_before : (r : Shape) (x y : ShapedMove) → HasVariant (both_sides r) x → IsBothAfter r y → Earlier x y
  first_before r x y (t, e) (s, u, before, e') = subst (λ v. Before v y.shape) e
      (subst (λ v. Before (both_sides r t) v) e' (in_first before))

  Rising-both : ((n : ℕ) → RisingIn (rights n)) → (lefts : List ShapedMove) → Rising lefts
      → RisingIn (both_below signature meet next rights lefts)
  unfolding block
  Rising-both rising [] h = tt
  Rising-both rising (x ∷ lefts) h =
      Rising-one_behind (block x) (both_below signature meet next rights lefts)
      (Rising-below (both_sides x.shape) (together signature meet x.move) (λ s t before. in_second (Agree-refl x.shape) before)
      (rights (next + length x.move.sorts)) (rising (next + length x.move.sorts)))
      (Rising-both rising lefts h.1)
      (apart (HasVariant (both_sides x.shape)) (IsBothAfter x.shape) (first_before x.shape) (block x)
      (both_below signature meet next rights lefts)
      (each_variant (both_sides x.shape) (together signature meet x.move) (rights (next + length x.move.sorts)))
      (both_after x.shape lefts h.0))

  both_is_both_in : (o : Option (List ShapedMove)) → EachOf IsBoth (option_and_then (both_below signature meet next rights) o)
  both_is_both_in None = tt
  both_is_both_in (Some lefts) = both_is_both lefts

  Rising-both_in : ((n : ℕ) → RisingIn (rights n)) → (o : Option (List ShapedMove)) → RisingIn o
      → RisingIn (option_and_then (both_below signature meet next rights) o)
  Rising-both_in rising None h = tt
  Rising-both_in rising (Some lefts) h = Rising-both rising lefts h

-- gate choices from a position on
abbrev IsGateFrom : ℕ → ShapedMove → Type 0
IsGateFrom j x = (k : ℕ) × (s : Shape) × (j < suc k) × (at_gate k s ≡ x.shape)

gates_from : (g j : ℕ) (gates : List ℕ) (o : Option (List ShapedMove)) → EachOf (IsGateFrom j) (at_gates_below g j gates o)
gates_from g j [] o = tt
gates_from g j (a ∷ gates) o =
    EachOf-one_behind (IsGateFrom j) (each_below (at_gate j) (λ m. Some (relabelling ((g, a) ∷ []) m)) o) (at_gates_below g (suc j) gates o)
    (EachOf-weaker (HasVariant (at_gate j)) (IsGateFrom j) (λ x h. (j, h.0, omega arith, h.1))
    (each_below (at_gate j) (λ m. Some (relabelling ((g, a) ∷ []) m)) o)
    (each_variant (at_gate j) (λ m. Some (relabelling ((g, a) ∷ []) m)) o))
    (EachOf-weaker (IsGateFrom (suc j)) (IsGateFrom j) (λ x h. (h.0, h.1, omega (arith, h.2), h.3)) (at_gates_below g (suc j) gates o)
    (gates_from g (suc j) gates o))

gate_before : (j : ℕ) (x y : ShapedMove) → HasVariant (at_gate j) x → IsGateFrom (suc j) y → Earlier x y
gate_before j x y (s, e) (k, t, later, e') =
    let lt : j < k = omega arith in
    subst (λ v. Before v y.shape) e (subst (λ v. Before (at_gate j s) v) e' (by_gate lt))

Rising-gates : (g j : ℕ) (gates : List ℕ) (o : Option (List ShapedMove)) → RisingIn o → RisingIn (at_gates_below g j gates o)
Rising-gates g j [] o h = tt
Rising-gates g j (a ∷ gates) o h =
    Rising-one_behind (each_below (at_gate j) (λ m. Some (relabelling ((g, a) ∷ []) m)) o) (at_gates_below g (suc j) gates o)
    (Rising-below (at_gate j) (λ m. Some (relabelling ((g, a) ∷ []) m)) (λ s t before. in_gate before) o h)
    (Rising-gates g (suc j) gates o h)
    (apart (HasVariant (at_gate j)) (IsGateFrom (suc j)) (gate_before j)
    (each_below (at_gate j) (λ m. Some (relabelling ((g, a) ∷ []) m)) o) (at_gates_below g (suc j) gates o)
    (each_variant (at_gate j) (λ m. Some (relabelling ((g, a) ∷ []) m)) o)
    (gates_from g (suc j) gates o))

-- the lists of two sides, the left ones first
Rising-sides : (left right : Move → Option Move) (o p : Option (List ShapedMove)) → RisingIn o → RisingIn p
    → RisingIn (one_behind (each_below left_side left o) (each_below right_side right p))
Rising-sides left right o p h k =
    Rising-one_behind (each_below left_side left o) (each_below right_side right p)
    (Rising-below left_side left (λ s t before. in_left before) o h)
    (Rising-below right_side right (λ s t before. in_right before) p k)
    (apart (HasVariant left_side) (HasVariant right_side) left_before_right (each_below left_side left o) (each_below right_side right p)
    (each_variant left_side left o) (each_variant right_side right p))

module _ (setting : Setting) (leaves : Substitution) (next : ℕ) (parts : Parts)
    (rising : (n : ℕ) (b : Behaviour) → RisingIn (parts n b)) where
  Rising-parallel : (meet : SynchronisationSet) (b c : Behaviour) (left right : Move → Option Move)
      → RisingIn (one_behind (each_below left_side left (parts next b))
      (one_behind (each_below right_side right (parts next c)) (option_and_then
      (both_below setting.signature meet next (λ n. parts n c)) (parts next b))))
  Rising-parallel meet b c left right =
      let lefts : Option (List ShapedMove) = each_below left_side left (parts next b) in
      let rights : Option (List ShapedMove) = each_below right_side right (parts next c) in
      let boths : Option (List ShapedMove) = option_and_then (both_below setting.signature meet next (λ n. parts n c)) (parts next b) in
      let are_both : EachOf IsBoth boths = both_is_both_in setting.signature meet next (λ n. parts n c) (parts next b) in
      Rising-one_behind lefts (one_behind rights boths)
      (Rising-below left_side left (λ s t before. in_left before) (parts next b) (rising next b))
      (Rising-one_behind rights boths
      (Rising-below right_side right (λ s t before. in_right before) (parts next c) (rising next c))
      (Rising-both_in setting.signature meet next (λ n. parts n c) (λ n. rising n c) (parts next b) (rising next b))
      (apart (HasVariant right_side) IsBoth right_before_both rights boths (each_variant right_side right (parts next c)) are_both))
      (EachOf-weaker (HasVariant left_side) (λ x. EachOf (Earlier x) (one_behind rights boths))
      (λ x h. EachOf-one_behind (Earlier x) rights boths
      (EachOf-weaker (HasVariant right_side) (Earlier x) (λ y k. left_before_right x y h k) rights
      (each_variant right_side right (parts next c)))
      (EachOf-weaker IsBoth (Earlier x) (λ y k. left_before_both x y h k) boths are_both))
      lefts (each_variant left_side left (parts next b)))

  Rising-called : (gates : List ℕ) (arguments : List Term) (o : Option Process)
      → RisingIn (called_below setting next parts gates arguments o)
  Rising-called gates arguments None = tt
  Rising-called gates arguments (Some process) =
      let inside : Behaviour = with_values (binding_of process.parameters (map setting.represent arguments)) process.body in
      Rising-below called (λ m. Some (relabelling (zip process.gates gates) m)) (λ s t before. in_called before) (parts next inside)
      (rising next inside)

  Rising-form : (c : Behaviour) → RisingIn (moves_by_form setting leaves next parts c)
  Rising-form stop = tt
  Rising-form (exit_with results) = (tt, tt)
  Rising-form (action g offers test b) = (tt, tt)
  Rising-form (inner_action b) = (tt, tt)
  Rising-form (guard test b) = Rising-below guarded (λ m. Some (asking test m)) (λ s t before. in_guarded before) (parts next b)
      (rising next b)
  Rising-form (choice b c) = Rising-sides (λ m. Some m) (λ m. Some m) (parts next b) (parts next c) (rising next b) (rising next c)
  Rising-form (parallel meet b c) = Rising-parallel meet b c (alone meet (λ target. parallel meet target c))
      (alone meet (λ target. parallel meet b target))
  Rising-form (hide gates b) = Rising-below hidden (λ m. Some (hiding gates m)) (λ s t before. in_hidden before) (parts next b)
      (rising next b)
  Rising-form (enable b variables c) = Rising-each (below_enable setting.signature variables c) (enable-keeps setting.signature variables c)
      (parts next b) (rising next b)
  Rising-form (disable b c) = Rising-sides (λ m. Some (disabling c m)) (λ m. Some m) (parts next b) (parts next c) (rising next b)
      (rising next c)
  Rising-form (let_be bindings b) =
      let inside : Behaviour = with_values (binding_of (let_variables bindings) (map setting.represent (let_terms bindings))) b in
      Rising-below let_bound (λ m. Some m) (λ s t before. in_let before) (parts next inside) (rising next inside)
  Rising-form (choose_value x b) =
      let inside : Behaviour = with_values (binding_of (x ∷ []) (setting.represent (leaves next x.sort) ∷ [])) b in
      Rising-below with_value (λ m. Some (after_leaf x.sort m)) (λ s t before. in_value before) (parts (suc next) inside)
      (rising (suc next) inside)
  Rising-form (choose_gate g gates b) = Rising-gates g 0 gates (parts next b) (rising next b)
  Rising-form (par_gate g gates meet b) = tt
  Rising-form (call number gates arguments) = Rising-called gates arguments (slice_get setting.processes number)
  Rising-form (relabel pairs b) = Rising-below relabelled (λ m. Some (relabelling pairs m)) (λ s t before. in_relabelled before)
      (parts next b) (rising next b)

pub moves_rise : (setting : Setting) (leaves : Substitution) (depth next : ℕ) (b : Behaviour)
    → RisingIn (listed_moves setting leaves depth next b)
moves_rise setting leaves zero next b = tt
moves_rise setting leaves (suc depth) next b = Rising-form setting leaves next (listed_moves setting leaves depth)
    (moves_rise setting leaves depth) (opened b)

Every-shapes : (s : Shape) (xs : List ShapedMove) → Every (λ x. Before s x.shape) xs → Every (Before s) (shapes_of_moves xs)
Every-shapes s [] h = tt
Every-shapes s (x ∷ xs) h = (h.0, Every-shapes s xs h.1)

ShapesRise-moves : (xs : List ShapedMove) → Rising xs → ShapesRise (shapes_of_moves xs)
ShapesRise-moves [] h = tt
ShapesRise-moves (x ∷ xs) h = (Every-shapes x.shape xs h.0, ShapesRise-moves xs h.1)

pub shapes_rise : (setting : Setting) (leaves : Substitution) (depth next : ℕ) (b : Behaviour) (moves : List ShapedMove)
    → listed_moves setting leaves depth next b ≡ Some moves → ShapesRise (shapes_of_moves moves)
shapes_rise setting leaves depth next b moves e = ShapesRise-moves moves (subst RisingIn e (moves_rise setting leaves depth next b))
