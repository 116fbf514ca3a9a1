-- Behaviours that end with values of some sorts, if at all: what this says part by part.
use Rattle.std.proofs.Common.{◌≡◌, ◌⊎◌, inl, inr, ℕ, List, [], ◌∷◌, ◌++◌, map, slice_get, Option, None, Some, refl, ap, sym, ◌∙◌, subst}
use Rattle.lotos_base.specs.Signature.{Signature}
use Rattle.lotos_base.specs.Sorting.{HasSort}
use Rattle.lotos_base.specs.Substitution.{Substitution, substituted, without}
use Rattle.lotos_base.specs.Equation.{Variable}
use Rattle.lotos_base.proofs.SortLemmas.{one_sort}
use Rattle.behaviour_semantics.specs.Behaviour.{Behaviour, stop, exit_with, action, inner_action, guard, choice, parallel, hide, enable, disable, let_be, choose_value, choose_gate, par_gate, call, relabel, ExitValue, exit_value, any_of, SynchronisationSet, Relabelling, Process, asked_variables, numbers_of, sorts_of, let_variables}
use Rattle.behaviour_semantics.specs.Label.{under}
use Rattle.behaviour_semantics.specs.Replacement.{exit_value_with, with_values}
use Rattle.behaviour_semantics.specs.Rule.{copies}
use Rattle.behaviour_semantics.specs.Move.{opened}
use Rattle.behaviour_semantics.specs.WellFormed.{Every, IsExitValue, IsBehaviour}
use Rattle.behaviour_semantics.proofs.OptionLemmas.{some_value}
use Rattle.behaviour_semantics.proofs.PutTerms.{PutsIn, put_term, puts_under}
use Rattle.session_laws.specs.HasFunctionality.{HaveExitSorts, EitherEnds, left_never, right_never, ends_alike, BothEnd, left_keeps, right_keeps, both_alike, HandsOver, never_over, over_with, HasFunctionality, of_stop, of_exit, of_action, of_inner, of_guard, of_choice, of_parallel, of_hide, of_enable, of_disable, of_let, of_value, of_gate, of_par, of_call, of_relabel, IsDeclaredOrNone, EndsWithin}
use Rattle.session_laws.specs.ExitLaws.{OneFunctionality}

abbrev pub Functionality : Type 0
Functionality = Option (List ℕ)

-- two sides of a parallel with these functionalities end with this one at most
abbrev pub Together : Functionality → Functionality → Functionality → Type 0
Together left right k = (left ≡ None) ⊎ ((right ≡ None) ⊎ ((left ≡ k) × (right ≡ k)))

module _ (signature : Signature) (processes : List Process) where
  -- the behaviour ends with values of these sorts, if at all
  abbrev pub Ends : Functionality → Behaviour → Type 0
  Ends k stop = Unit {0}
  Ends k (exit_with results) = (sorts : List ℕ) × (k ≡ Some sorts) × HaveExitSorts signature results sorts
  Ends k (action g offers test b) = Ends k b
  Ends k (inner_action b) = Ends k b
  Ends k (guard test b) = Ends k b
  Ends k (choice b c) = Ends k b × Ends k c
  Ends k (parallel meet b c) = (left : Functionality) × (right : Functionality) × Ends left b × Ends right c × Together left right k
  Ends k (hide gates b) = Ends k b
  Ends k (enable b variables c) = Ends (Some (sorts_of variables)) b × Ends k c
  Ends k (disable b c) = Ends k b × Ends k c
  Ends k (let_be bindings b) = Ends k b
  Ends k (choose_value x b) = Ends k b
  Ends k (choose_gate g gates b) = Ends k b
  Ends k (par_gate g gates meet b) = Ends k b
  Ends k (call number gates arguments) = (process : Process) × (slice_get processes number ≡ Some process) × IsDeclaredOrNone process.exit k
  Ends k (relabel pairs b) = Ends k b

  -- what never ends ends with any sorts, if at all
  pub ends_any : (b : Behaviour) (k : Functionality) → Ends None b → Ends k b
  ends_any stop k ends = tt
  ends_any (exit_with results) k ends = absurd (cc ends.1)
  ends_any (action g offers test b) k ends = ends_any b k ends
  ends_any (inner_action b) k ends = ends_any b k ends
  ends_any (guard test b) k ends = ends_any b k ends
  ends_any (choice b c) k ends = (ends_any b k ends.0, ends_any c k ends.1)
  ends_any (parallel meet b c) k ends = (ends.0, ends.1, ends.2, ends.3, by ends.4)
    where
      by : Together ends.0 ends.1 None → Together ends.0 ends.1 k
      by (inl e) = inl e
      by (inr (inl e)) = inr (inl e)
      by (inr (inr (e, h))) = inl e
  ends_any (hide gates b) k ends = ends_any b k ends
  ends_any (enable b variables c) k ends = (ends.0, ends_any c k ends.1)
  ends_any (disable b c) k ends = (ends_any b k ends.0, ends_any c k ends.1)
  ends_any (let_be bindings b) k ends = ends_any b k ends
  ends_any (choose_value x b) k ends = ends_any b k ends
  ends_any (choose_gate g gates b) k ends = ends_any b k ends
  ends_any (par_gate g gates meet b) k ends = ends_any b k ends
  ends_any (call number gates arguments) k ends = (ends.0, ends.1, by ends.2)
    where
      by : IsDeclaredOrNone ends.0.exit None → IsDeclaredOrNone ends.0.exit k
      by (inl e) = inl e
      by (inr e) = inl e
  ends_any (relabel pairs b) k ends = ends_any b k ends

  pub ends_more : (b : Behaviour) (f k : Functionality) → IsDeclaredOrNone f k → Ends f b → Ends k b
  ends_more b f k (inl e) ends = ends_any b k (subst (λ (g : Functionality). Ends g b) e ends)
  ends_more b f k (inr e) ends = subst (λ (g : Functionality). Ends g b) e ends

  -- ---- From the family, and back

  either_left : {f g h : Functionality} → EitherEnds f g h → IsDeclaredOrNone f h
  either_left left_never = inl refl
  either_left right_never = inr refl
  either_left ends_alike = inr refl

  either_right : {f g h : Functionality} → EitherEnds f g h → IsDeclaredOrNone g h
  either_right left_never = inr refl
  either_right right_never = inl refl
  either_right ends_alike = inr refl

  both_within : {f g h : Functionality} → BothEnd f g h → Together f g h
  both_within left_keeps = inl refl
  both_within right_keeps = inr (inl refl)
  both_within both_alike = inr (inr (refl, refl))

  over_within : {f : Functionality} {sorts : List ℕ} → HandsOver f sorts → IsDeclaredOrNone f (Some sorts)
  over_within never_over = inl refl
  over_within over_with = inr refl

  pub ends_of : (b : Behaviour) (f : Functionality) → HasFunctionality signature processes b f → Ends f b
  ends_of _ _ of_stop = tt
  ends_of _ _ (of_exit {sorts = sorts} has) = (sorts, refl, has)
  ends_of _ _ (of_action {b = b} {f = f} has) = ends_of b f has
  ends_of _ _ (of_inner {b = b} {f = f} has) = ends_of b f has
  ends_of _ _ (of_guard {b = b} {f = f} has) = ends_of b f has
  ends_of _ _ (of_choice {b = b} {c = c} {left = l} {right = r} {f = f} has too ends) =
      (ends_more b l f (either_left ends) (ends_of b l has), ends_more c r f (either_right ends) (ends_of c r too))
  ends_of _ _ (of_parallel {b = b} {c = c} {left = l} {right = r} {f = f} has too ends) =
      (l, r, ends_of b l has, ends_of c r too, both_within ends)
  ends_of _ _ (of_hide {b = b} {f = f} has) = ends_of b f has
  ends_of _ _ (of_enable {variables = xs} {b = b} {c = c} {left = l} {f = f} has over too) =
      (ends_more b l (Some (sorts_of xs)) (over_within over) (ends_of b l has), ends_of c f too)
  ends_of _ _ (of_disable {b = b} {c = c} {left = l} {right = r} {f = f} has too ends) =
      (ends_more b l f (either_left ends) (ends_of b l has), ends_more c r f (either_right ends) (ends_of c r too))
  ends_of _ _ (of_let {b = b} {f = f} has) = ends_of b f has
  ends_of _ _ (of_value {b = b} {f = f} has) = ends_of b f has
  ends_of _ _ (of_gate {b = b} {f = f} has) = ends_of b f has
  ends_of _ _ (of_par {b = b} {f = f} has) = ends_of b f has
  ends_of _ _ (of_call process there is) = (process, there, inr is)
  ends_of _ _ (of_relabel {b = b} {f = f} has) = ends_of b f has

  pub within_ends : (b : Behaviour) (k : Functionality) → EndsWithin signature processes b k → Ends k b
  within_ends b k is = ends_more b is.found k is.within (ends_of b is.found is.has)

  -- an equal functionality of two sides that end alike
  some_alike : (b c : Behaviour) (f g k : Functionality) → IsDeclaredOrNone f k → IsDeclaredOrNone g k
      → (h : Functionality) × EitherEnds f g h × IsDeclaredOrNone h k
  some_alike b c None g k one other = (g, left_never, other)
  some_alike b c (Some ss) None k one other = (Some ss, right_never, one)
  some_alike b c (Some ss) (Some ts) k (inl e) other = absurd (cc e)
  some_alike b c (Some ss) (Some ts) k (inr e) (inl h) = absurd (cc h)
  some_alike b c (Some ss) (Some ts) k (inr e) (inr h) =
      let same : Some ss ≡ Some ts = e ∙ sym h in
      (Some ss, subst (λ (g : Functionality). EitherEnds (Some ss) g (Some ss)) same ends_alike, inr e)

  together_found : (f g l r k : Functionality) → IsDeclaredOrNone f l → IsDeclaredOrNone g r → Together l r k
      → (h : Functionality) × BothEnd f g h × IsDeclaredOrNone h k
  together_found None g l r k one other ends = (None, left_keeps, inl refl)
  together_found (Some ss) None l r k one other ends = (None, right_keeps, inl refl)
  together_found (Some ss) (Some ts) l r k (inl e) other ends = absurd (cc e)
  together_found (Some ss) (Some ts) l r k (inr e) (inl h) ends = absurd (cc h)
  together_found (Some ss) (Some ts) l r k (inr e) (inr h) (inl none) = let never : Some ss ≡ None = e ∙ none in absurd (cc never)
  together_found (Some ss) (Some ts) l r k (inr e) (inr h) (inr (inl none)) = let never : Some ts ≡ None = h ∙ none in absurd (cc never)
  together_found (Some ss) (Some ts) l r k (inr e) (inr h) (inr (inr (p, q))) =
      let same : Some ss ≡ Some ts = (e ∙ p) ∙ sym (h ∙ q) in
      (Some ss, subst (λ (g : Functionality). BothEnd (Some ss) g (Some ss)) same both_alike, inr (e ∙ p))

  over_found : (f : Functionality) (sorts : List ℕ) → IsDeclaredOrNone f (Some sorts) → HandsOver f sorts
  over_found f sorts (inl e) = subst (λ (g : Functionality). HandsOver g sorts) (sym e) never_over
  over_found f sorts (inr e) = subst (λ (g : Functionality). HandsOver g sorts) (sym e) over_with

  abbrev Found : Behaviour → Functionality → Type 0
  Found b k = EndsWithin signature processes b k

  pub found_of : (b : Behaviour) (k : Functionality) → Ends k b → Found b k
  found_of stop k ends = record { found = None; has = of_stop; within = inl refl }
  found_of (exit_with results) k ends = record { found = Some ends.0; has = of_exit ends.2; within = inr (sym ends.1) }
  found_of (action g offers test b) k ends =
      let is = found_of b k ends in record { found = is.found; has = of_action is.has; within = is.within }
  found_of (inner_action b) k ends = let is = found_of b k ends in record { found = is.found; has = of_inner is.has; within = is.within }
  found_of (guard test b) k ends = let is = found_of b k ends in record { found = is.found; has = of_guard is.has; within = is.within }
  found_of (choice b c) k ends =
      let one = found_of b k ends.0 in
      let other = found_of c k ends.1 in
      let here = some_alike b c one.found other.found k one.within other.within in
      record { found = here.0; has = of_choice one.has other.has here.1; within = here.2 }
  found_of (parallel meet b c) k ends =
      let one = found_of b ends.0 ends.2 in
      let other = found_of c ends.1 ends.3 in
      let here = together_found one.found other.found ends.0 ends.1 k one.within other.within ends.4 in
      record { found = here.0; has = of_parallel one.has other.has here.1; within = here.2 }
  found_of (hide gates b) k ends = let is = found_of b k ends in record { found = is.found; has = of_hide is.has; within = is.within }
  found_of (enable b variables c) k ends =
      let one = found_of b (Some (sorts_of variables)) ends.0 in
      let other = found_of c k ends.1 in
      record {
        found = other.found;
        has = of_enable one.has (over_found one.found (sorts_of variables) one.within) other.has;
        within = other.within;
      }
  found_of (disable b c) k ends =
      let one = found_of b k ends.0 in
      let other = found_of c k ends.1 in
      let here = some_alike b c one.found other.found k one.within other.within in
      record { found = here.0; has = of_disable one.has other.has here.1; within = here.2 }
  found_of (let_be bindings b) k ends = let is = found_of b k ends in record { found = is.found; has = of_let is.has; within = is.within }
  found_of (choose_value x b) k ends = let is = found_of b k ends in record { found = is.found; has = of_value is.has; within = is.within }
  found_of (choose_gate g gates b) k ends =
      let is = found_of b k ends in record { found = is.found; has = of_gate is.has; within = is.within }
  found_of (par_gate g gates meet b) k ends =
      let is = found_of b k ends in record { found = is.found; has = of_par is.has; within = is.within }
  found_of (call number gates arguments) k ends =
      record { found = ends.0.exit; has = of_call ends.0 ends.1 refl; within = ends.2 }
  found_of (relabel pairs b) k ends = let is = found_of b k ends in record { found = is.found; has = of_relabel is.has; within = is.within }

  -- ---- Relabelling, and a gate `par` as its copies

  pub under_ends : (b : Behaviour) (pairs : Relabelling) (k : Functionality) → Ends k b → Ends k (under b pairs)
  under_ends stop pairs k ends = tt
  under_ends (exit_with results) pairs k ends = ends
  under_ends (action g offers test b) pairs k ends = ends
  under_ends (inner_action b) pairs k ends = ends
  under_ends (guard test b) pairs k ends = ends
  under_ends (choice b c) pairs k ends = ends
  under_ends (parallel meet b c) pairs k ends = ends
  under_ends (hide gates b) pairs k ends = ends
  under_ends (enable b variables c) pairs k ends = ends
  under_ends (disable b c) pairs k ends = ends
  under_ends (let_be bindings b) pairs k ends = ends
  under_ends (choose_value x b) pairs k ends = ends
  under_ends (choose_gate g gates b) pairs k ends = ends
  under_ends (par_gate g gates meet b) pairs k ends = ends
  under_ends (call number gates arguments) pairs k ends = ends
  under_ends (relabel inner b) pairs k ends = ends

  copies_end : (g : ℕ) (gates : List ℕ) (meet : SynchronisationSet) (b : Behaviour) (k : Functionality) → Ends k b
      → Ends k (copies g gates meet b)
  copies_end g [] meet b k ends = tt
  copies_end g (a ∷ []) meet b k ends = under_ends b ((g, a) ∷ []) k ends
  copies_end g (a ∷ c ∷ gates) meet b k ends =
      (k, k, under_ends b ((g, a) ∷ []) k ends, copies_end g (c ∷ gates) meet b k ends, inr (inr (refl, refl)))

  pub opened_ends : (b : Behaviour) (k : Functionality) → Ends k b → Ends k (opened b)
  opened_ends (par_gate g gates meet b) k ends = copies_end g gates meet b k ends
  opened_ends stop k ends = ends
  opened_ends (exit_with results) k ends = ends
  opened_ends (action g offers test b) k ends = ends
  opened_ends (inner_action b) k ends = ends
  opened_ends (guard test b) k ends = ends
  opened_ends (choice b c) k ends = ends
  opened_ends (parallel meet b c) k ends = ends
  opened_ends (hide gates b) k ends = ends
  opened_ends (enable b variables c) k ends = ends
  opened_ends (disable b c) k ends = ends
  opened_ends (let_be bindings b) k ends = ends
  opened_ends (choose_value x b) k ends = ends
  opened_ends (choose_gate g gates b) k ends = ends
  opened_ends (call number gates arguments) k ends = ends
  opened_ends (relabel pairs b) k ends = ends

  -- ---- Terms put in

  put_sorts : (scope other : List Variable) (values : Substitution) → PutsIn signature scope other values → (results : List ExitValue)
      (sorts : List ℕ) → Every (IsExitValue signature scope) results → HaveExitSorts signature results sorts
      → HaveExitSorts signature (map (exit_value_with values) results) sorts
  put_sorts scope other values puts [] [] fine has = tt
  put_sorts scope other values puts [] (s ∷ sorts) fine has = absurd has
  put_sorts scope other values puts (exit_value t ∷ results) [] fine has = absurd has
  put_sorts scope other values puts (any_of r ∷ results) [] fine has = absurd has
  put_sorts scope other values puts (exit_value t ∷ results) (s ∷ sorts) fine has = (
    subst (HasSort signature (substituted values t)) (one_sort signature t fine.0.0 s fine.0.1.sorted has.0)
        (put_term signature scope other values puts fine.0.0 t fine.0.1).sorted,
    put_sorts scope other values puts results sorts fine.1 has.1,
  )
  put_sorts scope other values puts (any_of r ∷ results) (s ∷ sorts) fine has =
      (has.0, put_sorts scope other values puts results sorts fine.1 has.1)

  pub put_ends : (names : ℕ) (scope other : List Variable) (values : Substitution) → PutsIn signature scope other values → (b : Behaviour)
      (k : Functionality) → IsBehaviour signature names processes scope b → Ends k b → Ends k (with_values values b)
  put_ends names scope other values puts stop k fine ends = tt
  put_ends names scope other values puts (exit_with results) k fine ends =
      (ends.0, ends.1, put_sorts scope other values puts results ends.0 fine ends.2)
  put_ends names scope other values puts (action g offers test b) k fine ends =
      put_ends names (asked_variables offers ++ scope) (asked_variables offers ++ other)
      (without (numbers_of (asked_variables offers)) values)
      (puts_under signature scope other values (asked_variables offers) puts) b k fine.4 ends
  put_ends names scope other values puts (inner_action b) k fine ends = put_ends names scope other values puts b k fine ends
  put_ends names scope other values puts (guard test b) k fine ends = put_ends names scope other values puts b k fine.1 ends
  put_ends names scope other values puts (choice b c) k fine ends =
      (put_ends names scope other values puts b k fine.0 ends.0, put_ends names scope other values puts c k fine.1 ends.1)
  put_ends names scope other values puts (parallel meet b c) k fine ends = (
    ends.0,
    ends.1,
    put_ends names scope other values puts b ends.0 fine.1 ends.2,
    put_ends names scope other values puts c ends.1 fine.2 ends.3,
    ends.4,
  )
  put_ends names scope other values puts (hide gates b) k fine ends = put_ends names scope other values puts b k fine.1 ends
  put_ends names scope other values puts (enable b variables c) k fine ends = (
    put_ends names scope other values puts b (Some (sorts_of variables)) fine.0 ends.0,
    put_ends names (variables ++ scope) (variables ++ other) (without (numbers_of variables) values)
        (puts_under signature scope other values variables puts) c k fine.2 ends.1,
  )
  put_ends names scope other values puts (disable b c) k fine ends =
      (put_ends names scope other values puts b k fine.0 ends.0, put_ends names scope other values puts c k fine.1 ends.1)
  put_ends names scope other values puts (let_be bindings b) k fine ends =
      put_ends names (let_variables bindings ++ scope) (let_variables bindings ++ other)
      (without (numbers_of (let_variables bindings)) values)
      (puts_under signature scope other values (let_variables bindings) puts) b k fine.2 ends
  put_ends names scope other values puts (choose_value x b) k fine ends =
      put_ends names (x ∷ scope) (x ∷ other) (without (x.number ∷ []) values) (puts_under signature scope other values (x ∷ []) puts) b k
      fine.1 ends
  put_ends names scope other values puts (choose_gate g gates b) k fine ends = put_ends names scope other values puts b k fine.2 ends
  put_ends names scope other values puts (par_gate g gates meet b) k fine ends = put_ends names scope other values puts b k fine.4 ends
  put_ends names scope other values puts (call number gates arguments) k fine ends = ends
  put_ends names scope other values puts (relabel pairs b) k fine ends = put_ends names scope other values puts b k fine.1 ends

-- ---- One functionality

one_exit : (signature : Signature) (results : List ExitValue) (ss ts : List ℕ) → HaveExitSorts signature results ss
    → HaveExitSorts signature results ts → ss ≡ ts
one_exit signature [] [] [] one other = refl
one_exit signature [] [] (t ∷ ts) one other = absurd other
one_exit signature [] (s ∷ ss) ts one other = absurd one
one_exit signature (exit_value v ∷ results) [] ts one other = absurd one
one_exit signature (exit_value v ∷ results) (s ∷ ss) [] one other = absurd other
one_exit signature (exit_value v ∷ results) (s ∷ ss) (t ∷ ts) one other =
    ap (λ (n : ℕ). n ∷ ss) (one_sort signature v s t one.0 other.0)
    ∙ ap (λ (ns : List ℕ). t ∷ ns) (one_exit signature results ss ts one.1 other.1)
one_exit signature (any_of r ∷ results) [] ts one other = absurd one
one_exit signature (any_of r ∷ results) (s ∷ ss) [] one other = absurd other
one_exit signature (any_of r ∷ results) (s ∷ ss) (t ∷ ts) one other =
    ap (λ (n : ℕ). n ∷ ss) (sym one.0 ∙ other.0)
    ∙ ap (λ (ns : List ℕ). t ∷ ns) (one_exit signature results ss ts one.1 other.1)

one_either : {f g h i j k : Functionality} → f ≡ i → g ≡ j → EitherEnds f g h → EitherEnds i j k → h ≡ k
one_either e d left_never left_never = d
one_either e d left_never right_never = absurd (cc e)
one_either e d left_never ends_alike = absurd (cc e)
one_either e d right_never left_never = absurd (cc e)
one_either e d right_never right_never = e
one_either e d right_never ends_alike = e
one_either e d ends_alike left_never = absurd (cc e)
one_either e d ends_alike right_never = e
one_either e d ends_alike ends_alike = e

one_both : {f g h i j k : Functionality} → f ≡ i → g ≡ j → BothEnd f g h → BothEnd i j k → h ≡ k
one_both e d left_keeps left_keeps = refl
one_both e d left_keeps right_keeps = refl
one_both e d left_keeps both_alike = absurd (cc e)
one_both e d right_keeps left_keeps = refl
one_both e d right_keeps right_keeps = refl
one_both e d right_keeps both_alike = absurd (cc d)
one_both e d both_alike left_keeps = absurd (cc e)
one_both e d both_alike right_keeps = absurd (cc d)
one_both e d both_alike both_alike = e

pub one_functionality : OneFunctionality
one_functionality signature processes _ _ _ of_stop of_stop = refl
one_functionality signature processes _ _ _ (of_exit {results = results} {sorts = ss} one) (of_exit {sorts = ts} other) =
    ap (λ (sorts : List ℕ). Some sorts) (one_exit signature results ss ts one other)
one_functionality signature processes _ _ _ (of_action {b = b} {f = f} one) (of_action {f = g} other) =
    one_functionality signature processes b f g one other
one_functionality signature processes _ _ _ (of_inner {b = b} {f = f} one) (of_inner {f = g} other) =
    one_functionality signature processes b f g one other
one_functionality signature processes _ _ _ (of_guard {b = b} {f = f} one) (of_guard {f = g} other) =
    one_functionality signature processes b f g one other
one_functionality signature processes _ _ _ (of_choice {b = b} {c = c} {left = l} {right = r} one too ends)
    (of_choice {left = m} {right = s} other also end) =
    one_either (one_functionality signature processes b l m one other) (one_functionality signature processes c r s too also) ends end
one_functionality signature processes _ _ _ (of_parallel {b = b} {c = c} {left = l} {right = r} one too ends)
    (of_parallel {left = m} {right = s} other also end) =
    one_both (one_functionality signature processes b l m one other) (one_functionality signature processes c r s too also) ends end
one_functionality signature processes _ _ _ (of_hide {b = b} {f = f} one) (of_hide {f = g} other) =
    one_functionality signature processes b f g one other
one_functionality signature processes _ _ _ (of_enable {c = c} {f = f} one over too) (of_enable {f = g} other hands also) =
    one_functionality signature processes c f g too also
one_functionality signature processes _ _ _ (of_disable {b = b} {c = c} {left = l} {right = r} one too ends)
    (of_disable {left = m} {right = s} other also end) =
    one_either (one_functionality signature processes b l m one other) (one_functionality signature processes c r s too also) ends end
one_functionality signature processes _ _ _ (of_let {b = b} {f = f} one) (of_let {f = g} other) =
    one_functionality signature processes b f g one other
one_functionality signature processes _ _ _ (of_value {b = b} {f = f} one) (of_value {f = g} other) =
    one_functionality signature processes b f g one other
one_functionality signature processes _ _ _ (of_gate {b = b} {f = f} one) (of_gate {f = g} other) =
    one_functionality signature processes b f g one other
one_functionality signature processes _ _ _ (of_par {b = b} {f = f} one) (of_par {f = g} other) =
    one_functionality signature processes b f g one other
one_functionality signature processes _ _ _ (of_call {number = n} p there is) (of_call q found too) =
    let same : Some p ≡ Some q = sym there ∙ found in
    let exits : p.exit ≡ q.exit = ap (λ (x : Process). x.exit) (some_value same) in
    sym is ∙ exits ∙ too
one_functionality signature processes _ _ _ (of_relabel {b = b} {f = f} one) (of_relabel {f = g} other) =
    one_functionality signature processes b f g one other
