-- A variable that a binder on the way binds stays; another one gets what was put for it outside.
use Rattle.std.proofs.Common.{◌≡◌, ℕ, Bool, true, false, ◌||◌, nat_eq, map, if◌then◌else◌, refl, ap, ◌∙◌}
use Rattle.lotos_base.specs.Term.{Term, variable}
use Rattle.lotos_base.specs.Substitution.{Substitution, is_listed}
use Rattle.behaviour_semantics.specs.Behaviour.{asked_variables, let_variables, numbers_of}
use Rattle.behaviour_tree.specs.BehaviourView.{let_of, offer_of, variables_of}
use Rattle.behaviour_tree.specs.declared.binders.Binders.{Binders, Outermost, Action', Accept', Let', Choice'}
use Rattle.behaviour_tree.specs.Placings.{binds, substitution_below}

one_binder : (listed outer : Bool) (kept found : Term) (inner : Term) → inner ≡ (if outer then kept else found)
    → (if listed then kept else inner) ≡ (if listed || outer then kept else found)
one_binder true outer kept found inner e = refl
one_binder false outer kept found inner e = e

choice_listed : (test : Bool) → (if test then true else false) ≡ test
choice_listed true = refl
choice_listed false = refl

pub below_binders : (binders : Binders) (values : Substitution) (n s : ℕ)
    → substitution_below binders values n s ≡ (if binds binders n then variable n s else values n s)
below_binders Outermost values n s = refl
below_binders (Action' offers _ outer) values n s =
    one_binder (is_listed (numbers_of (asked_variables (map offer_of offers.now.items))) n) (binds outer n) (variable n s) (values n s)
    (substitution_below outer values n s) (below_binders outer values n s)
below_binders (Accept' variables _ outer) values n s =
    one_binder (is_listed (numbers_of (variables_of variables.now.items)) n) (binds outer n) (variable n s) (values n s)
    (substitution_below outer values n s) (below_binders outer values n s)
below_binders (Let' bindings _ outer) values n s =
    one_binder (is_listed (numbers_of (let_variables (map let_of bindings.now.items))) n) (binds outer n) (variable n s) (values n s)
    (substitution_below outer values n s) (below_binders outer values n s)
below_binders (Choice' x _ outer) values n s =
    ap (λ (test : Bool). if test then variable n s else substitution_below outer values n s) (choice_listed (nat_eq x.now.number n))
    ∙ one_binder (nat_eq x.now.number n) (binds outer n) (variable n s) (values n s) (substitution_below outer values n s)
    (below_binders outer values n s)

pub below_bound : (binders : Binders) (values : Substitution) (n s : ℕ) → binds binders n ≡ true
    → substitution_below binders values n s ≡ variable n s
below_bound binders values n s e =
    below_binders binders values n s ∙ ap (λ (test : Bool). if test then variable n s else values n s) e

pub below_free : (binders : Binders) (values : Substitution) (n s : ℕ) → binds binders n ≡ false
    → substitution_below binders values n s ≡ values n s
below_free binders values n s e =
    below_binders binders values n s ∙ ap (λ (test : Bool). if test then variable n s else values n s) e
