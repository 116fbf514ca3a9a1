-- Tasks that can be done still can when more is known, and when others stand in the place of the last one.
use Rattle.std.proofs.Common.{arith, refl, ap, sym, ◌∙◌, ◌≡◌, ◌<◌, ◌+◌, ◌*◌, inl, inr, subst, ℕ, List, [], ◌∷◌, ◌++◌, length, get_or}
use Rattle.std.proofs.lemmas.List.{get_or_append_left}
use Rattle.sort_terms.specs.ProfiledTerm.{bare}
use Rattle.path_order.specs.RulesView.{signature_in}
use Rattle.path_order.specs.declared.rules.Rules.{Rules}
use Rattle.path_order.proofs.RulesLemmas.{rules_have_forms}
use Rattle.term_store.specs.Cells.{operation_in, Grows}
use Rattle.term_store.specs.Kept.{HasKeptForm, chosen_form}
use Rattle.term_store.specs.Numbered.{term_at}
use Rattle.term_store.specs.SharedView.{keys_in}
use Rattle.term_store.specs.Tasks.{AreAll, numbers_of_arguments, arguments_at, Brings, After, HaveOneForm, IsDoable, AreDoable}
use Rattle.term_store.specs.Turns.{CanBeDone, Advances}
use Rattle.term_store.specs.Weight.{rest_cost, weight, weights}
use Rattle.rewriting_theory.specs.Measure.{choice_cost}
use Rattle.term_store.specs.declared.forms.Forms.{Forms}
use Rattle.term_store.specs.declared.tasks.Task.{Task}
use Rattle.term_store.specs.declared.tasks.Task.TheVariants.{Form, Apply, Keep}
use Rattle.term_store.proofs.CellLemmas.{grown_stays}
use Rattle.term_store.proofs.NumberingLemmas.{grows_length}

-- ---- What is known

-- Whatever the one says, the other one does.
abbrev pub Includes : (ℕ → Type 0) → (ℕ → Type 0) → Type 0
Includes P Q = (n : ℕ) → P n → Q n

pub after_more : (P Q : ℕ → Type 0) (tasks : List Task) → Includes P Q → Includes (After P tasks) (After Q tasks)
after_more P Q [] more n known = more n known
after_more P Q (task ∷ tasks) more n (inl known) = inl (after_more P Q tasks more n known)
after_more P Q (task ∷ tasks) more n (inr brings) = inr brings

pub after_before : (P : ℕ → Type 0) (tasks : List Task) → Includes P (After P tasks)
after_before P [] n known = known
after_before P (task ∷ tasks) n known = inl (after_before P tasks n known)

pub after_join : (P : ℕ → Type 0) (tasks others : List Task) → Includes (After (After P others) tasks) (After P (tasks ++ others))
after_join P [] others n known = known
after_join P (task ∷ tasks) others n (inl known) = inl (after_join P tasks others n known)
after_join P (task ∷ tasks) others n (inr brings) = inr brings

pub after_split : (P : ℕ → Type 0) (tasks others : List Task) → Includes (After P (tasks ++ others)) (After (After P others) tasks)
after_split P [] others n known = known
after_split P (task ∷ tasks) others n (inl known) = inl (after_split P tasks others n known)
after_split P (task ∷ tasks) others n (inr brings) = inr brings

pub all_more : (P Q : ℕ → Type 0) (ns : List ℕ) → Includes P Q → AreAll P ns → AreAll Q ns
all_more P Q [] more all = tt
all_more P Q (n ∷ ns) more all = (more n all.0, all_more P Q ns more all.1)

-- ---- What can be done

pub ready_one : (rules : Rules) (keys : List (List ℕ)) (P Q : ℕ → Type 0) (task : Task) → Includes P Q → IsDoable rules keys P task
    → IsDoable rules keys Q task
ready_one rules keys P Q (Form k) more ready = ready
ready_one rules keys P Q (Apply k) more ready = (ready.0, all_more P Q (arguments_at keys k) more ready.1)
ready_one rules keys P Q (Keep term whole next) more ready = record {
  term_within = ready.term_within;
  whole_within = ready.whole_within;
  next_within = ready.next_within;
  is_known = more next ready.is_known;
  of_term = ready.of_term;
  of_whole = ready.of_whole;
}

pub ready_more : (rules : Rules) (keys : List (List ℕ)) (P Q : ℕ → Type 0) (tasks : List Task) → Includes P Q
    → AreDoable rules keys P tasks → AreDoable rules keys Q tasks
ready_more rules keys P Q [] more ready = tt
ready_more rules keys P Q (task ∷ tasks) more ready = (
  ready_one rules keys (After P tasks) (After Q tasks) task (after_more P Q tasks more) ready.0,
  ready_more rules keys P Q tasks more ready.1,
)

pub ready_join : (rules : Rules) (keys : List (List ℕ)) (P : ℕ → Type 0) (tasks others : List Task)
    → AreDoable rules keys (After P others) tasks → AreDoable rules keys P others → AreDoable rules keys P (tasks ++ others)
ready_join rules keys P [] others first second = second
ready_join rules keys P (task ∷ tasks) others first second = (
  ready_one rules keys (After (After P others) tasks) (After P (tasks ++ others)) task (after_join P tasks others) first.0,
  ready_join rules keys P tasks others first.1 second,
)

pub ready_split : (rules : Rules) (keys : List (List ℕ)) (P : ℕ → Type 0) (tasks others : List Task)
    → AreDoable rules keys P (tasks ++ others) → AreDoable rules keys (After P others) tasks × AreDoable rules keys P others
ready_split rules keys P [] others ready = (tt, ready)
ready_split rules keys P (task ∷ tasks) others ready =
    let inner = ready_split rules keys P tasks others ready.1 in (
      (
        ready_one rules keys (After P (tasks ++ others)) (After (After P others) tasks) task (after_split P tasks others) ready.0,
        inner.0,
      ),
      inner.1,
    )

-- ---- As terms come

pub key_stays : (before after : List (List ℕ)) (n : ℕ) → Grows before after → n < length before → get_or after n [] ≡ get_or before n []
key_stays before after n grows inside =
    ap (λ (keys : List (List ℕ)). get_or keys n []) grows.1 ∙ get_or_append_left before grows.0 [] n inside

arguments_stay : (before after : List (List ℕ)) (n : ℕ) → Grows before after → n < length before
    → arguments_at after n ≡ arguments_at before n
arguments_stay before after n grows inside =
    ap (λ (key : List ℕ). numbers_of_arguments (operation_in key)) (key_stays before after n grows inside)

pub bare_stays : (rules : Rules) (before after : List (List ℕ)) (n : ℕ) → Grows before after → n < length before
    → bare (term_at (signature_in rules) after n) ≡ bare (term_at (signature_in rules) before n)
bare_stays rules before after n grows inside = ap bare (grown_stays (signature_in rules) before after n grows inside)

pub one_form_grows : (rules : Rules) (before after : List (List ℕ)) (n m : ℕ) → Grows before after → n < length before
    → m < length before → HaveOneForm rules before n m → HaveOneForm rules after n m
one_form_grows rules before after n m grows first second one =
    ap (chosen_form rules) (bare_stays rules before after n grows first) ∙ one
    ∙ ap (chosen_form rules) (sym (bare_stays rules before after m grows second))

pub within_grows : (before after : List (List ℕ)) (n : ℕ) → Grows before after → n < length before → n < length after
within_grows before after n grows inside = let long = grows_length before after grows in omega (arith, long, inside)

ready_one_grows : (rules : Rules) (before after : List (List ℕ)) (P : ℕ → Type 0) (task : Task) → Grows before after
    → IsDoable rules before P task → IsDoable rules after P task
ready_one_grows rules before after P (Form k) grows ready = within_grows before after k grows ready
ready_one_grows rules before after P (Apply k) grows ready = (
  within_grows before after k grows ready.0,
  subst (λ (ns : List ℕ). AreAll P ns) (sym (arguments_stay before after k grows ready.0)) ready.1,
)
ready_one_grows rules before after P (Keep term whole next) grows ready = record {
  term_within = within_grows before after term grows ready.term_within;
  whole_within = within_grows before after whole grows ready.whole_within;
  next_within = within_grows before after next grows ready.next_within;
  is_known = ready.is_known;
  of_term = one_form_grows rules before after term next grows ready.term_within ready.next_within ready.of_term;
  of_whole = one_form_grows rules before after whole next grows ready.whole_within ready.next_within ready.of_whole;
}

pub ready_grows : (rules : Rules) (before after : List (List ℕ)) (P : ℕ → Type 0) (tasks : List Task) → Grows before after
    → AreDoable rules before P tasks → AreDoable rules after P tasks
ready_grows rules before after P [] grows ready = tt
ready_grows rules before after P (task ∷ tasks) grows ready =
    (ready_one_grows rules before after (After P tasks) task grows ready.0, ready_grows rules before after P tasks grows ready.1)

weight_stays : (rules : Rules) (before after : List (List ℕ)) (P : ℕ → Type 0) (task : Task) → Grows before after
    → IsDoable rules before P task → weight rules after task ≡ weight rules before task
weight_stays rules before after P (Form k) grows ready =
    ap (λ t. 4 * choice_cost (rules_have_forms rules) t) (bare_stays rules before after k grows ready)
weight_stays rules before after P (Apply k) grows ready =
    ap (λ t. 2 + 4 * rest_cost (rules_have_forms rules) t) (bare_stays rules before after k grows ready.0)
weight_stays rules before after P (Keep term whole next) grows ready = refl

pub weights_stay : (rules : Rules) (before after : List (List ℕ)) (P : ℕ → Type 0) (tasks : List Task) → Grows before after
    → AreDoable rules before P tasks → weights rules after tasks ≡ weights rules before tasks
weights_stay rules before after P [] grows ready = refl
weights_stay rules before after P (task ∷ tasks) grows ready =
    let one = weight_stays rules before after (After P tasks) task grows ready.0 in
    let others = weights_stay rules before after P tasks grows ready.1 in
    (λ i. one i + others i)

pub weights_join : (rules : Rules) (keys : List (List ℕ)) (tasks others : List Task)
    → weights rules keys (tasks ++ others) ≡ weights rules keys tasks + weights rules keys others
weights_join rules keys [] others = omega arith
weights_join rules keys (task ∷ tasks) others =
    let inner = weights_join rules keys tasks others in
    omega (arith, inner)

-- ---- Others in the place of the last task

pub replaced : (rules : Rules) (before after : Forms) (tasks others : List Task) (task : Task)
    → Grows (keys_in before.shared) (keys_in after.shared) → Includes (HasKeptForm before.kept.items) (HasKeptForm after.kept.items)
    → CanBeDone rules before (tasks ++ task ∷ []) → Includes (Brings task) (After (HasKeptForm after.kept.items) others)
    → CanBeDone rules after others → weights rules (keys_in after.shared) others < weight rules (keys_in before.shared) task
    → Advances rules before (tasks ++ task ∷ []) after (tasks ++ others)
replaced rules before after tasks others task grows known ready brings can less =
    let P = HasKeptForm before.kept.items in
    let Q = HasKeptForm after.kept.items in
    let old = keys_in before.shared in
    let new = keys_in after.shared in
    let parts = ready_split rules old P tasks (task ∷ []) ready in
    let same = weights_stay rules old new (After P (task ∷ [])) tasks grows parts.0 in
    let first = weights_join rules old tasks (task ∷ []) in
    let second = weights_join rules new tasks others in
    record {
      ready = ready_join rules new Q tasks others
          (ready_more rules new (After P (task ∷ [])) (After Q others) tasks included
          (ready_grows rules old new (After P (task ∷ [])) tasks grows parts.0))
          can;
      leads = λ n is.
          after_join Q tasks others n
          (after_more (After P (task ∷ [])) (After Q others) tasks included n (after_split P tasks (task ∷ []) n is));
      falls = omega (arith, same, first, second, less);
    }
  where
    included : Includes (After (HasKeptForm before.kept.items) (task ∷ [])) (After (HasKeptForm after.kept.items) others)
    included n (inl is) = after_before (HasKeptForm after.kept.items) others n (known n is)
    included n (inr new) = brings n new
