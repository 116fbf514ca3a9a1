-- Canonical terms by their numbers.
use Rattle.std.proofs.Common.{ap, sym, ◌∙◌, ◌≡◌, subst, ℕ, Some}
use Rattle.std.specs.Prelude.{◌↔◌, IsTrue, nat_eq}
use Rattle.std.proofs.lemmas.Bool.Decides.{Decides-eqb}
use Rattle.lotos_base.specs.Term.{Term}
use Rattle.rewriting_theory.specs.ChosenForm.{Chosen}
use Rattle.rewriting_theory.specs.Rewriting.{IsNormal}
use Rattle.rewriting_theory.proofs.PublicLemmas.{chosen_normal}
use Rattle.sort_terms.specs.ProfiledTerm.{ProfiledTerm, bare, IsOf, FitsProfiles}
use Rattle.sort_terms.specs.SortedView.{profiled_in, term_in}
use Rattle.sort_terms.specs.declared.sorted.Sorted.{Sorted}
use Rattle.path_order.specs.RulesView.{signature_in, plain_rules_in}
use Rattle.path_order.specs.declared.rules.Rules.{Rules}
use Rattle.path_order.proofs.RulesLemmas.{rules_have_forms, rules_well_formed}
use Rattle.term_rewriter.specs.Form.{IsFormOf}
use Rattle.term_rewriter.proofs.FormLemmas.{form_fits}
use Rattle.term_store.specs.Canonical.{NumbersForm}
use Rattle.term_store.specs.Kept.{kept_at, chosen_form}
use Rattle.term_store.specs.Numbered.{term_at, TakesIn, IsNumberOfTerm}
use Rattle.term_store.specs.SharedView.{keys_in}
use Rattle.term_store.specs.Turns.{AreSound, StaySound}
use Rattle.term_store.specs.declared.forms.Forms.{Forms}
use Rattle.term_store.specs.declared.shared.SharedTerms.{SharedTerms}
use Rattle.term_store.proofs.CellLemmas.{grown_stays, one_number}
use Rattle.term_store.proofs.ReadyLemmas.{within_grows}
use Rattle.term_store.proofs.TurnLemmas.{with_shared, stepped}

-- the store with the term in it
pub numbered_stays : (rules : Rules) (forms : Forms) (shared : SharedTerms) (t : ProfiledTerm) → AreSound rules forms
    → IsOf (signature_in rules) t → TakesIn t (keys_in forms.shared) (keys_in shared) → StaySound rules forms (with_shared forms shared)
numbered_stays rules forms shared t sound of takes =
    stepped rules forms shared takes.grows (takes.have (signature_in rules) of sound.have) sound

-- the form that is kept for its number
pub canonical_form : (rules : Rules) (before : Forms) (shared : SharedTerms) (after : Forms) (t : ProfiledTerm) (n form : ℕ)
    → AreSound rules before → IsOf (signature_in rules) t → IsNumberOfTerm t (keys_in before.shared) (keys_in shared) n
    → StaySound rules (with_shared before shared) after → kept_at after.kept.items n ≡ Some form → NumbersForm rules after (bare t) form
canonical_form rules before shared after t n form sound of numbered stay kept = record {
  within = stay.sound.within n form kept;
  is = stay.sound.chosen n form kept
      ∙ ap (λ (u : ProfiledTerm). chosen_form rules (bare u))
      (grown_stays (signature_in rules) (keys_in shared) (keys_in after.shared) n stay.grows numbered.within
      ∙ numbered.term (signature_in rules) of sound.have);
}

-- a term whose number is kept as that of its form is irreducible
pub own_form : (rules : Rules) (before : Forms) (shared : SharedTerms) (after : Forms) (t : ProfiledTerm) (n form : ℕ)
    → AreSound rules before → IsOf (signature_in rules) t → IsNumberOfTerm t (keys_in before.shared) (keys_in shared) n
    → StaySound rules (with_shared before shared) after → kept_at after.kept.items n ≡ Some form → IsTrue (nat_eq form n)
    → IsNormal (plain_rules_in rules) (bare t)
own_form rules before shared after t n form sound of numbered stay kept own =
    subst (IsNormal (plain_rules_in rules))
    (sym (canonical_form rules before shared after t n form sound of numbered stay kept).is
    ∙ ap (λ (k : ℕ). bare (term_at (signature_in rules) (keys_in after.shared) k)) ((Decides-eqb form n).0 own)
    ∙ ap bare (grown_stays (signature_in rules) (keys_in shared) (keys_in after.shared) n stay.grows numbered.within
    ∙ numbered.term (signature_in rules) of sound.have))
    (chosen_normal (rules_well_formed rules) (rules_have_forms rules (bare t)).1)

-- ---- Two canonical terms

pub canonical_grows : (rules : Rules) (before after : Forms) (t : Term) (n : ℕ) → StaySound rules before after
    → NumbersForm rules before t n → NumbersForm rules after t n
canonical_grows rules before after t n stay is = record {
  within = within_grows (keys_in before.shared) (keys_in after.shared) n stay.grows is.within;
  is = ap bare (grown_stays (signature_in rules) (keys_in before.shared) (keys_in after.shared) n stay.grows is.within) ∙ is.is;
}

-- they are identical exactly where their numbers are
pub numbers_decide : (rules : Rules) (forms : Forms) (left right : Term) (n m : ℕ) → AreSound rules forms
    → NumbersForm rules forms left n → NumbersForm rules forms right m → (n ≡ m) ↔ (chosen_form rules left ≡ chosen_form rules right)
numbers_decide rules forms left right n m sound one other = (
  (λ same. sym one.is ∙ ap (λ (k : ℕ). bare (term_at (signature_in rules) (keys_in forms.shared) k)) same ∙ other.is),
  (λ same.
      one_number (signature_in rules) (keys_in forms.shared) sound.have.cells sound.have.once n m one.within other.within
      (one.is ∙ same ∙ sym other.is)),
)

-- ---- The term of the number

pub canonical_of : (rules : Rules) (forms : Forms) (term : Sorted) (made : ProfiledTerm) (n : ℕ) → AreSound rules forms
    → NumbersForm rules forms (term_in term) n → made ≡ term_at (signature_in rules) (keys_in forms.shared) n
    → IsFormOf (signature_in rules) (plain_rules_in rules) (profiled_in term) made
canonical_of rules forms term made n sound is same =
    subst (λ (t : ProfiledTerm). IsFormOf (signature_in rules) (plain_rules_in rules) (profiled_in term) t) (sym same)
    (record {
      chosen = subst (λ (u : Term). Chosen (plain_rules_in rules) (term_in term) u) (sym is.is) (rules_have_forms rules (term_in term)).1;
      is_of = sound.have.of n is.within;
    })

pub canonical_fits : (rules : Rules) (forms : Forms) (term : Sorted) (made : ProfiledTerm) (n : ℕ) → AreSound rules forms
    → IsOf (signature_in rules) (profiled_in term) → NumbersForm rules forms (term_in term) n
    → made ≡ term_at (signature_in rules) (keys_in forms.shared) n → FitsProfiles made
canonical_fits rules forms term made n sound of is same =
    (form_fits rules term made of (canonical_of rules forms term made n sound is same)).0
