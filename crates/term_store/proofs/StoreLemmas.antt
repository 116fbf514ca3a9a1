-- Stores: when they are opened, and what their answers are.
use Rattle.std.proofs.Common.{arith, sym, ◌≡◌, subst, ℕ, List, [], Option, Some}
use Rattle.std.specs.Prelude.{◌↔◌, IsTrue, nat_eq}
use Rattle.std.proofs.lemmas.Bool.Decides.{Decides-eqb}
use Rattle.lotos_base.specs.Term.{Term}
use Rattle.rewriting_theory.specs.Reduction.{Reaches}
use Rattle.rewriting_theory.specs.Rewriting.{IsNormal, Rewrites}
use Rattle.rewriting_theory.proofs.ChosenLemmas.{chosen_one}
use Rattle.rewriting_theory.proofs.NewmanLemmas.{irreducible_stays}
use Rattle.rewriting_theory.proofs.PublicLemmas.{chosen_rewritten, chosen_normal}
use Rattle.sort_terms.specs.ProfiledTerm.{ProfiledTerm, bare, IsOf, FitsProfiles}
use Rattle.sort_terms.specs.SortedView.{profiled_in, term_in}
use Rattle.sort_terms.specs.declared.sorted.Sorted.{Sorted}
use Rattle.path_order.specs.RulesView.{signature_in, plain_rules_in}
use Rattle.path_order.specs.declared.rules.Rules.{Rules}
use Rattle.path_order.proofs.RulesLemmas.{rules_have_forms, rules_well_formed}
use Rattle.term_store.specs.Canonical.{NumbersForm}
use Rattle.term_store.specs.Kept.{kept_at, chosen_form, IsSoundStore}
use Rattle.term_store.specs.Numbered.{term_at}
use Rattle.term_store.specs.SharedView.{keys_in}
use Rattle.term_store.specs.StoreCanon.{store_canon, store_chooses}
use Rattle.term_store.specs.Turns.{AreSound, StaySound}
use Rattle.term_store.specs.declared.forms.Forms.{Forms}
use Rattle.term_store.specs.declared.store.Store.{Store}
use Rattle.term_store.proofs.CanonicalLemmas.{canonical_grows, numbers_decide, canonical_of, canonical_fits}

-- ---- A store without terms

nothing_kept : (n m : ℕ) → ¬ (kept_at [] n ≡ Some m)
nothing_kept n m is = cc

none_sound : (rules : Rules) → IsSoundStore rules [] []
none_sound rules = record {
  have = record {
    cells = tt;
    once = λ i j inside. absurd (omega (arith, inside));
    of = λ n inside. absurd (omega (arith, inside));
  };
  inside = λ n m is. absurd (nothing_kept n m is);
  within = λ n m is. absurd (nothing_kept n m is);
  chosen = λ n m is. absurd (nothing_kept n m is);
}

pub empty_sound : (rules : Rules) (forms : Forms) → keys_in forms.shared ≡ [] → forms.kept.items ≡ [] → AreSound rules forms
empty_sound rules forms keys kept =
    subst (λ (ks : List (List ℕ)). IsSoundStore rules ks forms.kept.items) (sym keys)
    (subst (λ (os : List (Option ℕ)). IsSoundStore rules [] os) (sym kept) (none_sound rules))

-- ---- Two canonical terms

pub same_decided : (first second third : Store) (left right : Term) (n m : ℕ) → second.rules ≡ first.rules
    → StaySound second.rules second.forms third.forms → NumbersForm first.rules second.forms left n
    → NumbersForm second.rules third.forms right m
    → IsTrue (nat_eq n m) ↔ (store_canon first left ≡ store_canon first right)
same_decided first second third left right n m same stay one other =
    let stays = subst (λ (rules : Rules). StaySound rules second.forms third.forms) same stay in
    let two = subst (λ (rules : Rules). NumbersForm rules third.forms right m) same other in
    let decide = numbers_decide first.rules third.forms left right n m stays.sound
    (canonical_grows first.rules second.forms third.forms left n stays one) two in
    ((λ yes. decide.0 ((Decides-eqb n m).0 yes)), (λ is. (Decides-eqb n m).1 (decide.1 is)))

-- ---- The term of a number

-- What is read by the number of a canonical term.
pub record IsRead (rules : Rules) (term : Sorted) (made : ProfiledTerm) : Type 0 where
  pub fits : FitsProfiles made
  pub canonical : bare made ≡ chosen_form rules (term_in term)
  pub normal : IsNormal (plain_rules_in rules) (bare made)
  pub reached : Reaches (Rewrites (plain_rules_in rules)) (term_in term) (bare made)
  pub is_of : IsOf (signature_in rules) made

pub read_canonical : (rules others : Rules) (forms : Forms) (term : Sorted) (made : ProfiledTerm) (n : ℕ) → others ≡ rules
    → AreSound others forms → IsOf (signature_in rules) (profiled_in term) → NumbersForm rules forms (term_in term) n
    → made ≡ term_at (signature_in others) (keys_in forms.shared) n → IsRead rules term made
read_canonical rules others forms term made n same sound of is made_is =
    let well = subst (λ (r : Rules). AreSound r forms) same sound in
    let there = subst (λ (r : Rules). made ≡ term_at (signature_in r) (keys_in forms.shared) n) same made_is in
    let form = canonical_of rules forms term made n well is there in
    record {
      fits = canonical_fits rules forms term made n well of is there;
      canonical = chosen_one (rules_well_formed rules) form.chosen (rules_have_forms rules (term_in term)).1;
      normal = chosen_normal (rules_well_formed rules) form.chosen;
      reached = chosen_rewritten form.chosen;
      is_of = form.is_of;
    }

-- a term in which no rule can be used is its own canonical term
pub normal_is_canon : (store : Store) (t : Term) → IsNormal (plain_rules_in store.rules) t → t ≡ store_canon store t
normal_is_canon store t stuck = irreducible_stays stuck (chosen_rewritten (store_chooses store t))
