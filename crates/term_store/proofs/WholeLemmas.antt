-- The operation on the forms that are kept for the arguments of another one.
use Rattle.std.proofs.Common.{arith, refl, ap, sym, ◌∙◌, ◌≡◌, ◌<◌, ◌≤◌, subst, ℕ, zero, suc, List, [], ◌∷◌, length, get_or, Option, None, Some}
use Rattle.std.specs.Prelude.{MatchOption}
use Rattle.std.proofs.lemmas.Option.{same_Some}
use Rattle.lotos_base.specs.Term.{Term, node}
use Rattle.rewriting_theory.specs.ChosenForm.{Chosen, AllChosen, all_chosen, chosen_then}
use Rattle.sort_terms.specs.ProfiledTerm.{ProfiledTerm, bare, all_bare, IsOf}
use Rattle.path_order.specs.RulesView.{signature_in, plain_rules_in}
use Rattle.path_order.specs.declared.rules.Rules.{Rules}
use Rattle.path_order.proofs.RulesLemmas.{rules_have_forms}
use Rattle.term_store.specs.Cells.{numbered_operation_key, operation_in, members, key_term, key_terms, AreBelow, IsCell, HasOneMore, KeyStandsAt}
use Rattle.term_store.specs.FormsBelow.{HasFormsBelow, of_variable, of_operation}
use Rattle.term_store.specs.Kept.{HasKeptForm, number_or, form_or_same, forms_of, IsSoundStore}
use Rattle.term_store.specs.Numbered.{term_at}
use Rattle.term_store.specs.Tasks.{AreAll, numbers_of_arguments, arguments_at, key_with_forms, whole_key}
use Rattle.term_store.specs.Turns.{IsWholeOf}
use Rattle.term_store.proofs.CellLemmas.{first_term_of_key, first_cell_at, grown_stays}
use Rattle.term_store.proofs.GrowthLemmas.{grows_one, terms_more, number_term}
use Rattle.term_store.proofs.KeptLemmas.{sound_grows}
use Rattle.term_store.proofs.NumberingLemmas.{members_of, grows_length}
use Rattle.term_store.proofs.FirstRuleLemmas.{variable_at, operation_term}

-- the form of a term for which one is kept
known_form : (rules : Rules) (keys : List (List ℕ)) (kept : List (Option ℕ)) (n : ℕ) → IsSoundStore rules keys kept → HasKeptForm kept n
    → (form_or_same kept n < length keys) × Chosen (plain_rules_in rules) (bare (term_at (signature_in rules) keys n))
    (bare (term_at (signature_in rules) keys (form_or_same kept n)))
known_form rules keys kept n sound known =
    let is : form_or_same kept n ≡ known.0 = ap (number_or n) known.1 in (
      subst (λ (m : ℕ). m < length keys) (sym is) (sound.within n known.0 known.1),
      subst (λ (m : ℕ). Chosen (plain_rules_in rules) (bare (term_at (signature_in rules) keys n))
          (bare (term_at (signature_in rules) keys m)))
          (sym is)
          (subst (λ (t : Term). Chosen (plain_rules_in rules) (bare (term_at (signature_in rules) keys n)) t)
          (sym (sound.chosen n known.0 known.1))
          (rules_have_forms rules (bare (term_at (signature_in rules) keys n))).1),
    )

-- those of several terms
known_forms : (rules : Rules) (keys : List (List ℕ)) (kept : List (Option ℕ)) (ns : List ℕ) → IsSoundStore rules keys kept
    → AreAll (HasKeptForm kept) ns
    → AreBelow (length keys) (forms_of kept ns) × AllChosen (plain_rules_in rules)
    (all_bare (members (key_terms (signature_in rules) keys) ns))
    (all_bare (members (key_terms (signature_in rules) keys) (forms_of kept ns)))
known_forms rules keys kept [] sound known = (tt, all_chosen)
known_forms rules keys kept (n ∷ ns) sound known =
    let one = known_form rules keys kept n sound known.0 in
    let others = known_forms rules keys kept ns sound known.1 in
    ((one.0, others.0), chosen_then one.1 others.1)

-- What is known of the key of the whole: it is a cell whose term is of the signature, and which is an operation on the forms.
record IsWholeKey (rules : Rules) (keys : List (List ℕ)) (n : ℕ) (key : List ℕ) : Type 0 where
  pub cell : IsCell (length keys) key
  pub is_of : IsOf (signature_in rules) (key_term (signature_in rules) (key_terms (signature_in rules) keys) key)
  pub below : HasFormsBelow (plain_rules_in rules) (bare (term_at (signature_in rules) keys n))
      (bare (key_term (signature_in rules) (key_terms (signature_in rules) keys) key))

cell_below : (bound more : ℕ) (key : List ℕ) → bound ≤ more → IsCell bound key → IsCell more key
cell_below bound more [] below cell = cell
cell_below bound more (zero ∷ ns) below cell = cell
cell_below bound more (suc m ∷ []) below cell = cell
cell_below bound more (suc m ∷ f ∷ ns) below cell = (cell.0, go ns cell.1)
  where
    go : (ms : List ℕ) → AreBelow bound ms → AreBelow more ms
    go [] all = tt
    go (n ∷ ms) all = (let low = all.0 in omega (arith, low, below), go ms all.1)

whole_key_is : (rules : Rules) (keys : List (List ℕ)) (kept : List (Option ℕ)) (n : ℕ) (found : Option (ℕ × List ℕ))
    → IsSoundStore rules keys kept → n < length keys → operation_in (get_or keys n []) ≡ found
    → AreAll (HasKeptForm kept) (numbers_of_arguments found)
    → IsWholeKey rules keys n (key_with_forms kept (get_or keys n []) found)
whole_key_is rules keys kept n None sound inside is known =
    let signature = signature_in rules in
    let it = variable_at signature keys n sound.have inside (sym is) in
    let same = first_term_of_key signature keys n sound.have.cells inside in
    record {
      cell = cell_below n (length keys) (get_or keys n []) (omega (arith, inside)) (first_cell_at keys n sound.have.cells inside);
      is_of = subst (λ (t : ProfiledTerm). IsOf signature t) same (sound.have.of n inside);
      below = subst (λ (t : ProfiledTerm). HasFormsBelow (plain_rules_in rules) (bare (term_at signature keys n)) (bare t)) same
          (subst (λ (t : ProfiledTerm). HasFormsBelow (plain_rules_in rules) (bare t) (bare t)) (sym it.is) of_variable);
    }
whole_key_is rules keys kept n (Some (f, ns)) sound inside is known =
    let signature = signature_in rules in
    let forms = known_forms rules keys kept ns sound known in
    let shape = operation_term signature keys n f ns sound.have inside (sym is) in
    let own = subst (λ (t : ProfiledTerm). IsOf signature t) shape (sound.have.of n inside) in
    record {
      cell = (refl, forms.0);
      is_of = (own.0, members_of signature keys (forms_of kept ns) sound.have forms.0);
      below = subst (λ (t : ProfiledTerm). HasFormsBelow (plain_rules_in rules) (bare t)
          (node f (all_bare (members (key_terms signature keys) (forms_of kept ns))))) (sym shape) (of_operation forms.1);
    }

-- What comes of the key of the whole: the terms stay sound, and where it has a number, that is the number of the whole.
pub whole_sound : (rules : Rules) (before after : List (List ℕ)) (kept : List (Option ℕ)) (n : ℕ) → IsSoundStore rules before kept
    → n < length before → AreAll (HasKeptForm kept) (arguments_at before n) → HasOneMore before (whole_key kept before n) after
    → IsSoundStore rules after kept
whole_sound rules before after kept n sound inside known more =
    let it = whole_key_is rules before kept n (operation_in (get_or before n [])) sound inside refl known in
    let key = whole_key kept before n in
    sound_grows rules before after kept (grows_one before key after more)
    (terms_more (signature_in rules) before key after more it.cell it.is_of sound.have) sound

pub whole_is : (rules : Rules) (before after : List (List ℕ)) (kept : List (Option ℕ)) (n whole : ℕ) → IsSoundStore rules before kept
    → n < length before → AreAll (HasKeptForm kept) (arguments_at before n) → HasOneMore before (whole_key kept before n) after
    → KeyStandsAt after (whole_key kept before n) whole → IsWholeOf rules after n whole
whole_is rules before after kept n whole sound inside known more stands =
    let it = whole_key_is rules before kept n (operation_in (get_or before n [])) sound inside refl known in
    let key = whole_key kept before n in
    let grows = grows_one before key after more in
    let long = grows_length before after grows in
    let have = terms_more (signature_in rules) before key after more it.cell it.is_of sound.have in
    let first = grown_stays (signature_in rules) before after n grows inside in
    let second = number_term (signature_in rules) before key after whole grows it.cell have.cells stands.within stands.is in
    record {
      term_within = omega (arith, long, inside);
      whole_within = stands.within;
      below = subst (λ (t : ProfiledTerm). HasFormsBelow (plain_rules_in rules) (bare t) (bare (term_at (signature_in rules) after whole)))
          (sym first)
          (subst (λ (t : ProfiledTerm). HasFormsBelow (plain_rules_in rules) (bare (term_at (signature_in rules) before n)) (bare t))
          (sym second) it.below);
    }

-- ---- How its key is made

pub whole_of_variable : (kept : List (Option ℕ)) (keys : List (List ℕ)) (n : ℕ) (ns : List ℕ) (o : Option ℕ) → o ≡ None
    → MatchOption o (operation_in (get_or keys n []) ≡ None) (λ f. numbered_operation_key f ns ≡ whole_key kept keys n)
    → get_or keys n [] ≡ whole_key kept keys n
whole_of_variable kept keys n ns None is none = sym (ap (key_with_forms kept (get_or keys n [])) none)
whole_of_variable kept keys n ns (Some f) is none = cc

pub whole_of_operation : (kept : List (Option ℕ)) (keys : List (List ℕ)) (n : ℕ) (ns : List ℕ) (f : ℕ) (o : Option ℕ) → o ≡ Some f
    → MatchOption o (operation_in (get_or keys n []) ≡ None) (λ g. numbered_operation_key g ns ≡ whole_key kept keys n)
    → numbered_operation_key f ns ≡ whole_key kept keys n
whole_of_operation kept keys n ns f None is key = cc
whole_of_operation kept keys n ns f (Some g) is key =
    ap (λ (h : ℕ). numbered_operation_key h ns) (sym (same_Some g f is)) ∙ key
