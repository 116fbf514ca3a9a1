-- Lists of drafts made one by one.
use Rattle.std.proofs.Common.{◌≡◌, ◌<◌, ◌++◌, ℕ, suc, ◌+◌, List, [], ◌∷◌, filter_map, length, drop, reverse, get_or, Option, None, Some, option_map, option_to_list, refl, ap, sym, ◌∙◌, subst, add-one, append_assoc, append-nil, arith, ◌↔◌, IsSome}
use Rattle.std.specs.Prelude.{IfSome}
use Rattle.std.specs.List.{cons_option}
use Rattle.std.proofs.Math.Seq.{drop-cons}
use Rattle.std.proofs.lemmas.List.{map-append, reverse-append}
use Rattle.lotos_base.specs.Signature.{Signature}
use Rattle.behaviour_semantics.specs.Draft as plain
use Rattle.behaviour_semantics.specs.WellFormed.{Every}
use Rattle.behaviour_semantics.proofs.ListLemmas.{Every-append}
use Rattle.event_offers.specs.OfferView.{plain_draft}
use Rattle.event_offers.specs.declared.drafts.Draft.{Draft}
use Rattle.draft_parts.specs.DraftTerms.{HasTermsOf}
use Rattle.draft_parts.specs.Lists.{plain_drafts, AreMadeBy}

-- one more draft, or none
added : (made : List Draft) (o : Option Draft) (p : Option plain.Draft) (rest : List plain.Draft) → option_map plain_draft o ≡ p
    → plain_drafts (made ++ option_to_list o) ++ rest ≡ plain_drafts made ++ cons_option p rest
added made None None rest e = ap (λ (ds : List Draft). plain_drafts ds ++ rest) (append-nil made)
added made None (Some d) rest e = absurd (cc e)
added made (Some y) None rest e = absurd (cc e)
added made (Some y) (Some d) rest e =
    let same : plain_draft y ≡ d = cc in
    ap (λ (ds : List plain.Draft). ds ++ rest) (map-append plain_draft made (y ∷ []))
    ∙ (append_assoc (plain_drafts made) (plain_draft y ∷ []) rest
    ∙ ap (λ (x : plain.Draft). plain_drafts made ++ (x ∷ rest)) same)

some_over : (signature : Signature) (o : Option Draft) → IfSome o (λ (made : Draft). HasTermsOf signature made)
    → Every (HasTermsOf signature) (option_to_list o)
some_over signature None h = tt
some_over signature (Some d) h = (h, tt)

pub added_over : (signature : Signature) (made more : List Draft) (o : Option Draft) → more ≡ made ++ option_to_list o
    → Every (HasTermsOf signature) made → IfSome o (λ (d : Draft). HasTermsOf signature d) → Every (HasTermsOf signature) more
added_over signature made more o e h k =
    subst (λ (ds : List Draft). Every (HasTermsOf signature) ds) (sym e)
    (Every-append (HasTermsOf signature) made (option_to_list o) h (some_over signature o k))

-- ---- A rule, over a list that is taken from its end after it was reversed.
pub record IsHalfMade (signature : Signature) (rule : plain.Draft → Option plain.Draft) (given rest made : List Draft) : Type 0 where
  pub same : plain_drafts made ++ filter_map rule (plain_drafts (reverse rest)) ≡ filter_map rule (plain_drafts given)
  pub over : Every (HasTermsOf signature) made
  pub left : Every (HasTermsOf signature) (reverse rest)

-- what is left before a draft is taken
before_taken : (rest left : List Draft) (d : Draft) → rest ≡ left ++ d ∷ [] → reverse rest ≡ d ∷ reverse left
before_taken rest left d e = ap reverse e ∙ reverse-append left (d ∷ [])

pub taken_over : (signature : Signature) (rule : plain.Draft → Option plain.Draft) (given rest left made : List Draft) (d : Draft)
    → rest ≡ left ++ d ∷ [] → IsHalfMade signature rule given rest made → HasTermsOf signature d
taken_over signature rule given rest left made d e h =
    (subst (λ (ds : List Draft). Every (HasTermsOf signature) ds) (before_taken rest left d e) h.left).0

pub half_more : (signature : Signature) (rule : plain.Draft → Option plain.Draft) (given rest left made more : List Draft) (d : Draft)
    (o : Option Draft) → rest ≡ left ++ d ∷ [] → more ≡ made ++ option_to_list o → option_map plain_draft o ≡ rule (plain_draft d)
    → IfSome o (λ (x : Draft). HasTermsOf signature x) → IsHalfMade signature rule given rest made
    → IsHalfMade signature rule given left more
half_more signature rule given rest left made more d o e m is over h = record {
  same = ap (λ (ds : List Draft). plain_drafts ds ++ filter_map rule (plain_drafts (reverse left))) m
      ∙ (added made o (rule (plain_draft d)) (filter_map rule (plain_drafts (reverse left))) is
      ∙ (ap (λ (ds : List Draft). plain_drafts made ++ filter_map rule (plain_drafts ds)) (sym (before_taken rest left d e)) ∙ h.same));
  over = added_over signature made more o m h.over over;
  left = (subst (λ (ds : List Draft). Every (HasTermsOf signature) ds) (before_taken rest left d e) h.left).1;
}

pub half_done : (signature : Signature) (rule : plain.Draft → Option plain.Draft) (given rest made : List Draft) → rest ≡ []
    → IsHalfMade signature rule given rest made → AreMadeBy signature rule given made
half_done signature rule given rest made e h = record {
  same = sym (append-nil (plain_drafts made))
      ∙ (ap (λ (ds : List Draft). plain_drafts made ++ filter_map rule (plain_drafts (reverse ds))) (sym e) ∙ h.same);
  over = h.over;
}

-- ---- Lists that are walked by an index.
pub at_index : (signature : Signature) (drafts : List Draft) (i : ℕ) (d : Draft) → i < length drafts → d ≡ get_or drafts i d
    → Every (HasTermsOf signature) (drop i drafts) → HasTermsOf signature d × Every (HasTermsOf signature) (drop (i + 1) drafts)
at_index signature drafts i d within is h =
    let here : drop i drafts ≡ d ∷ drop (suc i) drafts =
    drop-cons drafts i d within ∙ ap (λ (y : Draft). y ∷ drop (suc i) drafts) (sym is) in
    let both : Every (HasTermsOf signature) (d ∷ drop (suc i) drafts) =
    subst (λ (ds : List Draft). Every (HasTermsOf signature) ds) here h in
    (both.0, subst (λ (j : ℕ). Every (HasTermsOf signature) (drop j drafts)) (sym (add-one i)) both.1)

-- ---- What the answers of the rules say of a draft that is there.
pub some_weaker : (draft : Draft) (R : Signature → Type 0) (o : Option Draft)
    → IfSome o (λ (made : Draft). (signature : Signature) → HasTermsOf signature draft → HasTermsOf signature made)
    → IfSome o (λ (made : Draft). (signature : Signature) → R signature → HasTermsOf signature draft → HasTermsOf signature made)
some_weaker draft R None h = tt
some_weaker draft R (Some made) h = λ signature r. h signature

pub some_at : (signature : Signature) (draft : Draft) (R : Signature → Type 0) (o : Option Draft)
    → IfSome o (λ (made : Draft). (signature : Signature) → R signature → HasTermsOf signature draft → HasTermsOf signature made)
    → R signature → HasTermsOf signature draft → IfSome o (λ (made : Draft). HasTermsOf signature made)
some_at signature draft R None h r k = tt
some_at signature draft R (Some made) h r k = h signature r k

-- ---- The ends of the loops.
none_there : (popped : Option Draft) → ((d : Draft) → popped ≡ Some d → ⊥) → popped ≡ None
none_there None apart = refl
none_there (Some d) apart = absurd (apart d refl)

pub empty_rest : (popped : Option Draft) (rest : List Draft) (n : ℕ) → (IsSome popped ↔ (0 < n)) → n ≡ length rest
    → ((d : Draft) → popped ≡ Some d → ⊥) → rest ≡ []
empty_rest popped [] n some long apart = refl
empty_rest popped (v ∷ rest) n some long apart =
    let none : popped ≡ None = none_there popped apart in
    let there : IsSome popped = some.1 (omega arith) in absurd (cc (there, none))
