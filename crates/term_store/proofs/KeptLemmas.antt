-- What is kept stays right as terms come and forms are kept.
use Rattle.std.proofs.Common.{arith, refl, ap, sym, ◌∙◌, ◌≡◌, ◌<◌, ◌⊎◌, inl, inr, subst, ℕ, List, length, Option, None, Some}
use Rattle.sort_terms.specs.ProfiledTerm.{ProfiledTerm, bare}
use Rattle.path_order.specs.RulesView.{signature_in}
use Rattle.path_order.specs.declared.rules.Rules.{Rules}
use Rattle.term_store.specs.Cells.{HaveTermsOf, Grows}
use Rattle.std.specs.Prelude.{Bool, true, false, nat_eq, slice_set, ◌≢◌}
use Rattle.std.proofs.lemmas.Bool.Decides.{Decides-eqb}
use Rattle.std.proofs.lemmas.List.{get_or-set_same, get_or-set_other}
use Rattle.term_store.specs.Kept.{kept_at, HasKeptForm, chosen_form, KeepsAtMost, KeepsFor, IsSoundStore}
use Rattle.term_store.specs.Numbered.{term_at}
use Rattle.term_store.proofs.CellLemmas.{grown_stays}
use Rattle.term_store.proofs.NumberingLemmas.{grows_length}

pub sound_grows : (rules : Rules) (before after : List (List ℕ)) (kept : List (Option ℕ)) → Grows before after
    → HaveTermsOf (signature_in rules) after → IsSoundStore rules before kept → IsSoundStore rules after kept
sound_grows rules before after kept grows have sound = record {
  have = have;
  inside = λ n m is.
      let low = sound.inside n m is in let long = grows_length before after grows in omega (arith, low, long);
  within = λ n m is.
      let low = sound.within n m is in let long = grows_length before after grows in omega (arith, low, long);
  chosen = λ n m is.
      ap bare (grown_stays (signature_in rules) before after m grows (sound.within n m is)) ∙ sound.chosen n m is
      ∙ ap (λ (t : ProfiledTerm). chosen_form rules (bare t))
      (sym (grown_stays (signature_in rules) before after n grows (sound.inside n m is)));
}

-- The term with the one number is the chosen form of that with the other.
pub record IsFormNumber (rules : Rules) (keys : List (List ℕ)) (form n : ℕ) : Type 0 where
  pub inside : n < length keys
  pub is : bare (term_at (signature_in rules) keys form) ≡ chosen_form rules (bare (term_at (signature_in rules) keys n))

pub sound_keeps : (rules : Rules) (keys : List (List ℕ)) (before after : List (Option ℕ)) (among : ℕ → Type 0) (form : ℕ)
    → KeepsAtMost before among form after → form < length keys → ((n : ℕ) → among n → IsFormNumber rules keys form n)
    → IsSoundStore rules keys before → IsSoundStore rules keys after
sound_keeps rules keys before after among form keeps within forms sound = record {
  have = sound.have;
  inside = λ n m is. in_keys n m (keeps n m is);
  within = λ n m is. form_in_keys n m (keeps n m is);
  chosen = λ n m is. is_form n m (keeps n m is);
}
  where
    in_keys : (n m : ℕ) → (kept_at before n ≡ Some m) ⊎ (among n × (m ≡ form)) → n < length keys
    in_keys n m (inl old) = sound.inside n m old
    in_keys n m (inr new) = (forms n new.0).inside

    form_in_keys : (n m : ℕ) → (kept_at before n ≡ Some m) ⊎ (among n × (m ≡ form)) → m < length keys
    form_in_keys n m (inl old) = sound.within n m old
    form_in_keys n m (inr new) = subst (λ (k : ℕ). k < length keys) (sym new.1) within

    is_form : (n m : ℕ) → (kept_at before n ≡ Some m) ⊎ (among n × (m ≡ form))
        → bare (term_at (signature_in rules) keys m) ≡ chosen_form rules (bare (term_at (signature_in rules) keys n))
    is_form n m (inl old) = sound.chosen n m old
    is_form n m (inr new) = ap (λ (k : ℕ). bare (term_at (signature_in rules) keys k)) new.1 ∙ (forms n new.0).is

-- ---- A form more

pub kept_for : (before middle : List (Option ℕ)) (number form : ℕ) → ((n : ℕ) → kept_at middle n ≡ kept_at before n)
    → number < length middle → KeepsFor before (λ n. n ≡ number) (slice_set middle number (Some form))
kept_for before middle number form same inside = record {
  stays = λ n known. go n known (nat_eq n number) refl;
  brought = λ n is. here n is;
}
  where
    here : (n : ℕ) → n ≡ number → HasKeptForm (slice_set middle number (Some form)) n
    here n is =
        (form, ap (kept_at (slice_set middle number (Some form))) is ∙ get_or-set_same middle number (Some form) None inside)

    go : (n : ℕ) → HasKeptForm before n → (b : Bool) → nat_eq n number ≡ b → HasKeptForm (slice_set middle number (Some form)) n
    go n known true test = here n ((Decides-eqb n number).0 test)
    go n known false test =
        let other : n ≢ number = (λ is. let clash : true ≡ false = sym ((Decides-eqb n number).1 is) ∙ test in cc) in
        (known.0, get_or-set_other middle number n (Some form) None other ∙ same n ∙ known.1)

pub kept_for_both : (before middle after : List (Option ℕ)) (first second : ℕ) → KeepsFor before (λ n. n ≡ first) middle
    → KeepsFor middle (λ n. n ≡ second) after → KeepsFor before (λ n. (n ≡ first) ⊎ (n ≡ second)) after
kept_for_both before middle after first second one two = record {
  stays = λ n known. two.stays n (one.stays n known);
  brought = λ n is. go n is;
}
  where
    go : (n : ℕ) → (n ≡ first) ⊎ (n ≡ second) → HasKeptForm after n
    go n (inl is) = two.stays n (one.brought n is)
    go n (inr is) = two.brought n is
