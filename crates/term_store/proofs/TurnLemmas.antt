-- What each turn does to the tasks and to what is kept.
use Rattle.std.proofs.Common.{arith, refl, ap, sym, ◌∙◌, ◌≡◌, ◌<◌, ◌≤◌, ◌+◌, ◌*◌, ◌⊎◌, inl, inr, subst, ℕ, zero, suc, List, [], ◌∷◌, ◌++◌, length, get_or, Option, None, Some, append_assoc, append-nil}
use Rattle.lotos_base.specs.Term.{Term, variable}
use Rattle.rewriting_theory.specs.Measure.{choice_cost}
use Rattle.sort_terms.specs.ProfiledTerm.{ProfiledTerm, profiled_variable, bare, all_bare}
use Rattle.path_order.specs.RulesView.{signature_in, plain_rules_in}
use Rattle.path_order.specs.declared.rules.Rules.{Rules}
use Rattle.path_order.proofs.RulesLemmas.{rules_have_forms, rules_well_formed}
use Rattle.term_store.specs.Cells.{operation_in, members, key_terms, AreBelow, IsCell, HaveTermsOf, HasOneMore, KeyStandsAt, Grows}
use Rattle.term_store.specs.FormsBelow.{HasFormsBelow}
use Rattle.term_store.specs.Kept.{kept_at, HasKeptForm, KeepsAtMost, KeepsFor, number_or, form_or_same, IsSoundStore}
use Rattle.term_store.specs.Numbered.{term_at}
use Rattle.term_store.specs.SharedView.{keys_in}
use Rattle.term_store.specs.Tasks.{AreAll, numbers_of_arguments, arguments_at, Brings, After, IsDoable, AreDoable, form_task, form_tasks, begun_tasks, whole_key}
use Rattle.term_store.specs.Turns.{AreSound, StaySound, CanBeDone, Advances, IsWholeOf, CannotStep, StepsTo}
use Rattle.term_store.specs.Weight.{rest_cost, cost_at, rest_at, weight, weights}
use Rattle.term_store.specs.declared.forms.Forms.{Forms}
use Rattle.term_store.specs.declared.tasks.Task.{Task}
use Rattle.term_store.specs.declared.tasks.Task.TheVariants.{Form, Apply, Keep}
use Rattle.term_store.proofs.BelowLemmas.{choice_costs, below_form, below_done, below_next, below_cost, cost_parts, variable_cost, has_cost}
use Rattle.std.specs.Prelude.{MatchOption}
use Rattle.std.proofs.lemmas.Option.{same_Some}
use Rattle.term_store.specs.declared.shared.SharedTerms.{SharedTerms}
use Rattle.term_store.proofs.CellLemmas.{first_cell_at, grows_not, grows_on}
use Rattle.term_store.proofs.GrowthLemmas.{grows_one}
use Rattle.term_store.proofs.FirstRuleLemmas.{variable_at, operation_term}
use Rattle.term_store.proofs.KeptLemmas.{IsFormNumber, sound_keeps, sound_grows}
use Rattle.term_store.proofs.ReadyLemmas.{Includes, after_before, after_more, ready_split, ready_grows, ready_more, bare_stays, within_grows, weights_stay, weights_join, replaced}
use Rattle.term_store.proofs.WholeLemmas.{whole_sound, whole_is}

-- the last task can be done
pub last_ready : (rules : Rules) (forms : Forms) (tasks : List Task) (task : Task) → CanBeDone rules forms (tasks ++ task ∷ [])
    → IsDoable rules (keys_in forms.shared) (HasKeptForm forms.kept.items) task
last_ready rules forms tasks task ready =
    (ready_split rules (keys_in forms.shared) (HasKeptForm forms.kept.items) tasks (task ∷ []) ready).1.0

same_known : (before after : Forms) → after.kept ≡ before.kept → Includes (HasKeptForm before.kept.items) (HasKeptForm after.kept.items)
same_known before after same n known = (known.0, ap (λ kept. kept_at kept.items n) same ∙ known.1)

-- ---- The form of a term is looked for

-- what a derivation takes: one turn, what the arguments take, and the rest
cost_parts_at : (rules : Rules) (keys : List (List ℕ)) (n : ℕ) (found : Option (ℕ × List ℕ)) → HaveTermsOf (signature_in rules) keys
    → n < length keys → operation_in (get_or keys n []) ≡ found
    → cost_at rules keys n ≡ suc (choice_costs (rules_have_forms rules)
    (all_bare (members (key_terms (signature_in rules) keys) (numbers_of_arguments found))) + rest_at rules keys n)
cost_parts_at rules keys n None have inside is =
    let it = variable_at (signature_in rules) keys n have inside (sym is) in
    let forms = rules_have_forms rules in
    let one : choice_cost forms (variable it.number it.sort) ≡ suc (rest_cost forms (variable it.number it.sort)) =
    variable_cost it.number it.sort forms in
    let more : choice_cost forms (bare (profiled_variable it.number it.sort))
    ≡ suc (0 + rest_cost forms (bare (profiled_variable it.number it.sort))) = omega (arith, one) in
    subst (λ (t : ProfiledTerm). choice_cost forms (bare t) ≡ suc (0 + rest_cost forms (bare t))) (sym it.is) more
cost_parts_at rules keys n (Some (f, ns)) have inside is =
    let forms = rules_have_forms rules in
    subst (λ (t : ProfiledTerm). choice_cost forms (bare t) ≡ suc (choice_costs forms
    (all_bare (members (key_terms (signature_in rules) keys) ns)) + rest_cost forms (bare t)))
    (sym (operation_term (signature_in rules) keys n f ns have inside (sym is)))
    (cost_parts f (all_bare (members (key_terms (signature_in rules) keys) ns)) forms (rules_well_formed rules))

form_tasks_weight : (rules : Rules) (keys : List (List ℕ)) (kept : List (Option ℕ)) (ns : List ℕ)
    → weights rules keys (form_tasks kept ns)
    ≤ 4 * choice_costs (rules_have_forms rules) (all_bare (members (key_terms (signature_in rules) keys) ns))
form_tasks_weight rules keys kept [] = omega arith
form_tasks_weight rules keys kept (n ∷ ns) =
    let others = form_tasks_weight rules keys kept ns in
    let join = weights_join rules keys (form_task n (kept_at kept n)) (form_tasks kept ns) in
    let one = go (kept_at kept n) in
    omega (arith, others, join, one)
  where
    go : (o : Option ℕ) → weights rules keys (form_task n o) ≤ 4 * cost_at rules keys n
    go None = omega arith
    go (Some m) = omega arith

form_tasks_ready : (rules : Rules) (keys : List (List ℕ)) (P : ℕ → Type 0) (kept : List (Option ℕ)) (ns : List ℕ)
    → AreBelow (length keys) ns → AreDoable rules keys P (form_tasks kept ns)
form_tasks_ready rules keys P kept [] below = tt
form_tasks_ready rules keys P kept (n ∷ ns) below = go (kept_at kept n) (form_tasks_ready rules keys P kept ns below.1)
  where
    go : (o : Option ℕ) → AreDoable rules keys P (form_tasks kept ns) → AreDoable rules keys P (form_task n o ++ form_tasks kept ns)
    go None others = (below.0, others)
    go (Some m) others = others

form_tasks_bring : (kept : List (Option ℕ)) (ns : List ℕ) → AreAll (After (HasKeptForm kept) (form_tasks kept ns)) ns
form_tasks_bring kept ns = go ns (form_tasks kept ns) (λ n is. is)
  where
    one : (n : ℕ) (ms : List ℕ) (o : Option ℕ) → kept_at kept n ≡ o → After (HasKeptForm kept) (form_task n o ++ form_tasks kept ms) n
    one n ms None is = inr refl
    one n ms (Some m) is = after_before (HasKeptForm kept) (form_tasks kept ms) n (m, is)

    later : (n : ℕ) (ms : List ℕ) (o : Option ℕ)
        → Includes (After (HasKeptForm kept) (form_tasks kept ms)) (After (HasKeptForm kept) (form_task n o ++ form_tasks kept ms))
    later n ms None k is = inl is
    later n ms (Some m) k is = is

    go : (ms : List ℕ) (tasks : List Task) → Includes (After (HasKeptForm kept) (form_tasks kept ms)) (After (HasKeptForm kept) tasks)
        → AreAll (After (HasKeptForm kept) tasks) ms
    go [] tasks more = tt
    go (n ∷ ms) tasks more = (
      more n (one n ms (kept_at kept n) refl),
      go ms tasks (λ k is. more k (later n ms (kept_at kept n) k is)),
    )

arguments_below : (keys : List (List ℕ)) (n : ℕ) (key : List ℕ) → n < length keys → IsCell n key
    → AreBelow (length keys) (numbers_of_arguments (operation_in key))
arguments_below keys n [] inside cell = tt
arguments_below keys n (zero ∷ ns) inside cell = tt
arguments_below keys n (suc m ∷ []) inside cell = tt
arguments_below keys n (suc m ∷ f ∷ ns) inside cell = go ns cell.1
  where
    go : (ms : List ℕ) → AreBelow n ms → AreBelow (length keys) ms
    go [] all = tt
    go (k ∷ ms) all = (let low = all.0 in omega (arith, low, inside), go ms all.1)

begun : (rules : Rules) (forms : Forms) (tasks : List Task) (n : ℕ) (o : Option ℕ) → AreSound rules forms
    → kept_at forms.kept.items n ≡ o → CanBeDone rules forms (tasks ++ Form n ∷ [])
    → Advances rules forms (tasks ++ Form n ∷ []) forms (tasks ++ begun_tasks forms.kept.items (keys_in forms.shared) n o)
begun rules forms tasks n (Some m) sound is ready =
    replaced rules forms forms tasks [] (Form n) (grows_not (keys_in forms.shared)) (λ k known. known) ready
    (λ k same. (m, ap (kept_at forms.kept.items) same ∙ is)) tt
    (let some = has_cost (rules_have_forms rules (bare (term_at (signature_in rules) (keys_in forms.shared) n))).1 in omega (arith, some))
begun rules forms tasks n None sound is ready =
    let keys = keys_in forms.shared in
    let kept = forms.kept.items in
    let ns = arguments_at keys n in
    let inside : n < length keys = last_ready rules forms tasks (Form n) ready in
    let below = arguments_below keys n (get_or keys n []) inside (first_cell_at keys n sound.have.cells inside) in
    let parts = cost_parts_at rules keys n (operation_in (get_or keys n [])) sound.have inside refl in
    let less = form_tasks_weight rules keys kept ns in
    replaced rules forms forms tasks (Apply n ∷ form_tasks kept ns) (Form n) (grows_not keys) (λ k known. known) ready
    (λ k same. inr same) ((inside, form_tasks_bring kept ns), form_tasks_ready rules keys (HasKeptForm kept) kept ns below)
    (omega (arith, parts, less))

-- the form of a term is looked for
pub form_turn : (rules : Rules) (forms : Forms) (tasks left : List Task) (n : ℕ) → AreSound rules forms
    → CanBeDone rules forms (tasks ++ Form n ∷ [])
    → left ≡ tasks ++ begun_tasks forms.kept.items (keys_in forms.shared) n (kept_at forms.kept.items n)
    → Advances rules forms (tasks ++ Form n ∷ []) forms left
form_turn rules forms tasks left n sound ready is =
    subst (λ (l : List Task). Advances rules forms (tasks ++ Form n ∷ []) forms l) (sym is)
    (begun rules forms tasks n (kept_at forms.kept.items n) sound refl ready)

-- ---- Forms are kept

-- what is kept stays sound
pub kept_sound : (rules : Rules) (before after : Forms) (among : ℕ → Type 0) (form : ℕ) → AreSound rules before
    → after.shared ≡ before.shared → KeepsAtMost before.kept.items among form after.kept.items
    → form < length (keys_in before.shared) → ((n : ℕ) → among n → IsFormNumber rules (keys_in before.shared) form n)
    → StaySound rules before after
kept_sound rules before after among form sound same keeps within are =
    let keys : keys_in before.shared ≡ keys_in after.shared = ap keys_in (sym same) in record {
      sound = subst (λ (ks : List (List ℕ)). IsSoundStore rules ks after.kept.items) keys
          (sound_keeps rules (keys_in before.shared) before.kept.items after.kept.items among form keeps within are sound);
      grows = subst (λ (ks : List (List ℕ)). Grows (keys_in before.shared) ks) keys (grows_not (keys_in before.shared));
    }

-- and the task that brings no more is done
pub kept_turn : (rules : Rules) (before after : Forms) (among : ℕ → Type 0) (tasks : List Task) (task : Task)
    → after.shared ≡ before.shared → KeepsFor before.kept.items among after.kept.items → Includes (Brings task) among
    → zero < weight rules (keys_in before.shared) task → CanBeDone rules before (tasks ++ task ∷ [])
    → Advances rules before (tasks ++ task ∷ []) after tasks
kept_turn rules before after among tasks task same keeps brings some ready =
    subst (λ (l : List Task). Advances rules before (tasks ++ task ∷ []) after l) (append-nil tasks)
    (replaced rules before after tasks [] task
    (subst (λ (ks : List (List ℕ)). Grows (keys_in before.shared) ks) (ap keys_in (sym same)) (grows_not (keys_in before.shared)))
    keeps.stays ready (λ n is. keeps.brought n (brings n is)) tt some)

-- the form of the next term is kept for the other two
pub record IsHanding (rules : Rules) (forms : Forms) (term whole next : ℕ) : Type 0 where
  pub within : form_or_same forms.kept.items next < length (keys_in forms.shared)
  pub are : (n : ℕ) → (n ≡ term) ⊎ (n ≡ whole) → IsFormNumber rules (keys_in forms.shared) (form_or_same forms.kept.items next) n

pub handing : (rules : Rules) (forms : Forms) (tasks : List Task) (term whole next : ℕ) → AreSound rules forms
    → CanBeDone rules forms (tasks ++ Keep term whole next ∷ []) → IsHanding rules forms term whole next
handing rules forms tasks term whole next sound ready =
    let it = last_ready rules forms tasks (Keep term whole next) ready in
    let known = it.is_known in
    let is : form_or_same forms.kept.items next ≡ known.0 = ap (number_or next) known.1 in
    record {
      within = subst (λ (m : ℕ). m < length (keys_in forms.shared)) (sym is) (sound.within next known.0 known.1);
      are = λ n which. subst (λ (m : ℕ). IsFormNumber rules (keys_in forms.shared) m n) (sym is) (go n which);
    }
  where
    go : (n : ℕ) → (n ≡ term) ⊎ (n ≡ whole) → IsFormNumber rules (keys_in forms.shared)
        (last_ready rules forms tasks (Keep term whole next) ready).is_known.0 n
    go n (inl is) =
        let it = last_ready rules forms tasks (Keep term whole next) ready in
        subst (λ (m : ℕ). IsFormNumber rules (keys_in forms.shared) it.is_known.0 m) (sym is)
        (record { inside = it.term_within; is = sound.chosen next it.is_known.0 it.is_known.1 ∙ sym it.of_term })
    go n (inr is) =
        let it = last_ready rules forms tasks (Keep term whole next) ready in
        subst (λ (m : ℕ). IsFormNumber rules (keys_in forms.shared) it.is_known.0 m) (sym is)
        (record { inside = it.whole_within; is = sound.chosen next it.is_known.0 it.is_known.1 ∙ sym it.of_whole })

-- ---- An operation on the forms of its arguments

whole_grows : (rules : Rules) (before after : List (List ℕ)) (term whole : ℕ) → Grows before after → IsWholeOf rules before term whole
    → IsWholeOf rules after term whole
whole_grows rules before after term whole grows is = record {
  term_within = within_grows before after term grows is.term_within;
  whole_within = within_grows before after whole grows is.whole_within;
  below = subst (λ (t : Term). HasFormsBelow (plain_rules_in rules) t (bare (term_at (signature_in rules) after whole)))
      (sym (bare_stays rules before after term grows is.term_within))
      (subst (λ (t : Term). HasFormsBelow (plain_rules_in rules) (bare (term_at (signature_in rules) before term)) t)
      (sym (bare_stays rules before after whole grows is.whole_within)) is.below);
}

-- the form of the whole is that of the term
pub whole_form : (rules : Rules) (keys : List (List ℕ)) (kept : List (Option ℕ)) (term whole form : ℕ) → IsSoundStore rules keys kept
    → IsWholeOf rules keys term whole → kept_at kept whole ≡ Some form → (n : ℕ) → n ≡ term → IsFormNumber rules keys form n
whole_form rules keys kept term whole form sound it is n same =
    subst (λ (m : ℕ). IsFormNumber rules keys form m) (sym same)
    (record {
      inside = it.term_within;
      is = sound.chosen whole form is ∙ sym (below_form (rules_have_forms rules) (rules_well_formed rules) it.below);
    })

-- where no rule matches it, it is the form of both
pub whole_done : (rules : Rules) (keys : List (List ℕ)) (term whole : ℕ) → IsWholeOf rules keys term whole
    → CannotStep rules keys whole → (n : ℕ) → (n ≡ term) ⊎ (n ≡ whole) → IsFormNumber rules keys whole n
whole_done rules keys term whole it none n (inl same) =
    subst (λ (m : ℕ). IsFormNumber rules keys whole m) (sym same)
    (record {
      inside = it.term_within;
      is = below_done (rules_have_forms rules) (rules_well_formed rules) it.below none
          ∙ sym (below_form (rules_have_forms rules) (rules_well_formed rules) it.below);
    })
whole_done rules keys term whole it none n (inr same) =
    subst (λ (m : ℕ). IsFormNumber rules keys whole m) (sym same)
    (record {
      inside = it.whole_within;
      is = below_done (rules_have_forms rules) (rules_well_formed rules) it.below none;
    })

-- where one does, what it makes comes next
pub next_turn : (rules : Rules) (before after : Forms) (tasks left : List Task) (term whole next : ℕ)
    → Grows (keys_in before.shared) (keys_in after.shared) → after.kept ≡ before.kept → CanBeDone rules before (tasks ++ Apply term ∷ [])
    → IsWholeOf rules (keys_in before.shared) term whole → StepsTo rules (keys_in after.shared) whole next
    → left ≡ (tasks ++ Keep term whole next ∷ []) ++ Form next ∷ [] → Advances rules before (tasks ++ Apply term ∷ []) after left
next_turn rules before after tasks left term whole next grows same ready old_whole steps is =
    let keys = keys_in after.shared in
    let it = whole_grows rules (keys_in before.shared) keys term whole grows old_whole in
    let forms = rules_have_forms rules in
    let well = rules_well_formed rules in
    let of_whole = below_next forms well it.below steps.first in
    let of_term = below_form forms well it.below ∙ of_whole in
    let cost = below_cost forms well it.below steps.first in
    let rest : rest_at rules keys term ≡ rest_at rules (keys_in before.shared) term =
    ap (rest_cost forms) (bare_stays rules (keys_in before.shared) keys term grows old_whole.term_within) in
    subst (λ (l : List Task). Advances rules before (tasks ++ Apply term ∷ []) after l)
    (sym (is ∙ append_assoc tasks (Keep term whole next ∷ []) (Form next ∷ [])))
    (replaced rules before after tasks (Keep term whole next ∷ Form next ∷ []) (Apply term) grows (same_known before after same) ready
    (λ n one. inr (inl one)) (
      record {
        term_within = it.term_within;
        whole_within = it.whole_within;
        next_within = steps.within;
        is_known = inr refl;
        of_term = of_term;
        of_whole = of_whole;
      },
      (steps.within, tt),
    )
    (omega (arith, cost, rest)))

-- ---- The whole of an operation that can be done

-- what is ready stays ready as terms come
pub done_grows : (rules : Rules) (before after : Forms) (tasks : List Task) → Grows (keys_in before.shared) (keys_in after.shared)
    → after.kept ≡ before.kept → CanBeDone rules before tasks → CanBeDone rules after tasks
done_grows rules before after tasks grows same ready =
    ready_more rules (keys_in after.shared) (HasKeptForm before.kept.items) (HasKeptForm after.kept.items) tasks
    (same_known before after same)
    (ready_grows rules (keys_in before.shared) (keys_in after.shared) (HasKeptForm before.kept.items) tasks grows ready)

-- and what advances from there advances from before
pub advances_from : (rules : Rules) (before middle after : Forms) (tasks left : List Task)
    → Grows (keys_in before.shared) (keys_in middle.shared) → middle.kept ≡ before.kept → CanBeDone rules before tasks
    → Advances rules middle tasks after left → Advances rules before tasks after left
advances_from rules before middle after tasks left grows same ready one =
    let stay = weights_stay rules (keys_in before.shared) (keys_in middle.shared) (HasKeptForm before.kept.items) tasks grows ready in
    let falls = one.falls in
    record {
      ready = one.ready;
      leads = λ n is.
          one.leads n
          (after_more (HasKeptForm before.kept.items) (HasKeptForm middle.kept.items) tasks (same_known before middle same) n is);
      falls = omega (arith, stay, falls);
    }

-- ---- As the code has it

-- the store after a step
abbrev pub with_shared : Forms → SharedTerms → Forms
with_shared forms shared = record { shared = shared; kept = forms.kept }

pub stepped : (rules : Rules) (forms : Forms) (shared : SharedTerms) → Grows (keys_in forms.shared) (keys_in shared)
    → HaveTermsOf (signature_in rules) (keys_in shared) → AreSound rules forms → StaySound rules forms (with_shared forms shared)
stepped rules forms shared grows have sound = record {
  sound = sound_grows rules (keys_in forms.shared) (keys_in shared) forms.kept.items grows have sound;
  grows = grows;
}

pub stay_on : (rules : Rules) (first second third : Forms) → StaySound rules first second → StaySound rules second third
    → StaySound rules first third
stay_on rules first second third one two = record {
  sound = two.sound;
  grows = grows_on (keys_in first.shared) (keys_in second.shared) (keys_in third.shared) one.grows two.grows;
}

pub step_taken : (rules : Rules) (keys : List (List ℕ)) (n next : ℕ) (o : Option ℕ) → o ≡ Some next
    → MatchOption o (CannotStep rules keys n) (λ m. StepsTo rules keys n m) → StepsTo rules keys n next
step_taken rules keys n next None is steps = cc
step_taken rules keys n next (Some m) is steps = subst (λ (k : ℕ). StepsTo rules keys n k) (same_Some m next is) steps

no_step_taken : (rules : Rules) (keys : List (List ℕ)) (n : ℕ) (o : Option ℕ) → o ≡ None
    → MatchOption o (CannotStep rules keys n) (λ m. StepsTo rules keys n m) → CannotStep rules keys n
no_step_taken rules keys n None is none = none
no_step_taken rules keys n (Some m) is none = cc

pub done_sound : (rules : Rules) (before : Forms) (shared : SharedTerms) (after : Forms) (term whole : ℕ) (o : Option ℕ)
    → Grows (keys_in before.shared) (keys_in shared) → HaveTermsOf (signature_in rules) (keys_in shared) → AreSound rules before
    → IsWholeOf rules (keys_in before.shared) term whole → o ≡ None
    → MatchOption o (CannotStep rules (keys_in shared) whole) (λ m. StepsTo rules (keys_in shared) whole m)
    → after.shared ≡ shared → KeepsAtMost before.kept.items (λ n. (n ≡ term) ⊎ (n ≡ whole)) whole after.kept.items
    → StaySound rules before after
done_sound rules before shared after term whole o grows have sound it is none same keeps =
    let middle = with_shared before shared in
    let first = stepped rules before shared grows have sound in
    let later = whole_grows rules (keys_in before.shared) (keys_in shared) term whole grows it in
    stay_on rules before middle after first
    (kept_sound rules middle after (λ n. (n ≡ term) ⊎ (n ≡ whole)) whole first.sound same keeps later.whole_within
    (whole_done rules (keys_in shared) term whole later (no_step_taken rules (keys_in shared) whole o is none)))

pub done_turn : (rules : Rules) (before : Forms) (shared : SharedTerms) (after : Forms) (tasks : List Task) (term whole : ℕ)
    → Grows (keys_in before.shared) (keys_in shared) → CanBeDone rules before (tasks ++ Apply term ∷ []) → after.shared ≡ shared
    → KeepsFor before.kept.items (λ n. (n ≡ term) ⊎ (n ≡ whole)) after.kept.items
    → Advances rules before (tasks ++ Apply term ∷ []) after tasks
done_turn rules before shared after tasks term whole grows ready same keeps =
    let middle = with_shared before shared in
    let later = done_grows rules before middle (tasks ++ Apply term ∷ []) grows refl ready in
    advances_from rules before middle after (tasks ++ Apply term ∷ []) tasks grows refl ready
    (kept_turn rules middle after (λ n. (n ≡ term) ⊎ (n ≡ whole)) tasks (Apply term) same keeps (λ n is. inl is) (omega arith) later)

-- the store after the whole has its number
pub whole_stays : (rules : Rules) (before middle : Forms) (tasks : List Task) (n : ℕ) → AreSound rules before
    → CanBeDone rules before (tasks ++ Apply n ∷ []) → middle.kept ≡ before.kept
    → HasOneMore (keys_in before.shared) (whole_key before.kept.items (keys_in before.shared) n) (keys_in middle.shared)
    → StaySound rules before middle
whole_stays rules before middle tasks n sound ready same more =
    let it = last_ready rules before tasks (Apply n) ready in record {
      sound = subst (λ (kept : List (Option ℕ)). IsSoundStore rules (keys_in middle.shared) kept) (ap (λ kept. kept.items) (sym same))
          (whole_sound rules (keys_in before.shared) (keys_in middle.shared) before.kept.items n sound it.0 it.1 more);
      grows = grows_one (keys_in before.shared) (whole_key before.kept.items (keys_in before.shared) n) (keys_in middle.shared) more;
    }

pub whole_number : (rules : Rules) (before middle : Forms) (tasks : List Task) (n whole : ℕ) → AreSound rules before
    → CanBeDone rules before (tasks ++ Apply n ∷ []) → middle.kept ≡ before.kept
    → HasOneMore (keys_in before.shared) (whole_key before.kept.items (keys_in before.shared) n) (keys_in middle.shared)
    → KeyStandsAt (keys_in middle.shared) (whole_key before.kept.items (keys_in before.shared) n) whole
    → IsWholeOf rules (keys_in middle.shared) n whole
whole_number rules before middle tasks n whole sound ready same more stands =
    let it = last_ready rules before tasks (Apply n) ready in
    whole_is rules (keys_in before.shared) (keys_in middle.shared) before.kept.items n whole sound it.0 it.1 more stands

pub whole_ready : (rules : Rules) (before middle : Forms) (tasks : List Task) (n : ℕ) → AreSound rules before
    → CanBeDone rules before (tasks ++ Apply n ∷ []) → middle.kept ≡ before.kept
    → HasOneMore (keys_in before.shared) (whole_key before.kept.items (keys_in before.shared) n) (keys_in middle.shared)
    → CanBeDone rules middle (tasks ++ Apply n ∷ [])
whole_ready rules before middle tasks n sound ready same more =
    done_grows rules before middle (tasks ++ Apply n ∷ []) (whole_stays rules before middle tasks n sound ready same more).grows same ready

pub advances_by_whole : (rules : Rules) (before middle after : Forms) (tasks left : List Task) (n : ℕ) → AreSound rules before
    → CanBeDone rules before (tasks ++ Apply n ∷ []) → middle.kept ≡ before.kept
    → HasOneMore (keys_in before.shared) (whole_key before.kept.items (keys_in before.shared) n) (keys_in middle.shared)
    → Advances rules middle (tasks ++ Apply n ∷ []) after left → Advances rules before (tasks ++ Apply n ∷ []) after left
advances_by_whole rules before middle after tasks left n sound ready same more one =
    advances_from rules before middle after (tasks ++ Apply n ∷ []) left
    (whole_stays rules before middle tasks n sound ready same more).grows same ready one

pub form_sound : (rules : Rules) (before middle after : Forms) (tasks : List Task) (n whole form : ℕ) → AreSound rules before
    → CanBeDone rules before (tasks ++ Apply n ∷ []) → middle.kept ≡ before.kept
    → HasOneMore (keys_in before.shared) (whole_key before.kept.items (keys_in before.shared) n) (keys_in middle.shared)
    → KeyStandsAt (keys_in middle.shared) (whole_key before.kept.items (keys_in before.shared) n) whole
    → kept_at middle.kept.items whole ≡ Some form → after.shared ≡ middle.shared
    → KeepsAtMost middle.kept.items (λ k. k ≡ n) form after.kept.items → StaySound rules before after
form_sound rules before middle after tasks n whole form sound ready same more stands is shared keeps =
    let first = whole_stays rules before middle tasks n sound ready same more in
    let it = whole_number rules before middle tasks n whole sound ready same more stands in
    stay_on rules before middle after first
    (kept_sound rules middle after (λ k. k ≡ n) form first.sound shared keeps (first.sound.within whole form is)
    (whole_form rules (keys_in middle.shared) middle.kept.items n whole form first.sound it is))

pub form_turn_of_whole : (rules : Rules) (before middle after : Forms) (tasks : List Task) (n : ℕ) → AreSound rules before
    → CanBeDone rules before (tasks ++ Apply n ∷ []) → middle.kept ≡ before.kept
    → HasOneMore (keys_in before.shared) (whole_key before.kept.items (keys_in before.shared) n) (keys_in middle.shared)
    → after.shared ≡ middle.shared → KeepsFor middle.kept.items (λ k. k ≡ n) after.kept.items
    → Advances rules before (tasks ++ Apply n ∷ []) after tasks
form_turn_of_whole rules before middle after tasks n sound ready same more shared keeps =
    advances_by_whole rules before middle after tasks tasks n sound ready same more
    (kept_turn rules middle after (λ k. k ≡ n) tasks (Apply n) shared keeps (λ k is. is) (omega arith)
    (whole_ready rules before middle tasks n sound ready same more))

pub handed_sound : (rules : Rules) (before after : Forms) (tasks : List Task) (term whole next form : ℕ) → AreSound rules before
    → CanBeDone rules before (tasks ++ Keep term whole next ∷ []) → form ≡ form_or_same before.kept.items next
    → after.shared ≡ before.shared → KeepsAtMost before.kept.items (λ n. (n ≡ term) ⊎ (n ≡ whole)) form after.kept.items
    → StaySound rules before after
handed_sound rules before after tasks term whole next form sound ready is shared keeps =
    let it = handing rules before tasks term whole next sound ready in
    kept_sound rules before after (λ n. (n ≡ term) ⊎ (n ≡ whole)) form sound shared keeps
    (subst (λ (m : ℕ). m < length (keys_in before.shared)) (sym is) it.within)
    (λ n which. subst (λ (m : ℕ). IsFormNumber rules (keys_in before.shared) m n) (sym is) (it.are n which))

pub handed_turn : (rules : Rules) (before after : Forms) (tasks : List Task) (term whole next : ℕ) → after.shared ≡ before.shared
    → KeepsFor before.kept.items (λ n. (n ≡ term) ⊎ (n ≡ whole)) after.kept.items
    → CanBeDone rules before (tasks ++ Keep term whole next ∷ [])
    → Advances rules before (tasks ++ Keep term whole next ∷ []) after tasks
handed_turn rules before after tasks term whole next shared keeps ready =
    kept_turn rules before after (λ n. (n ≡ term) ⊎ (n ≡ whole)) tasks (Keep term whole next) shared keeps (λ n is. is) (omega arith) ready
