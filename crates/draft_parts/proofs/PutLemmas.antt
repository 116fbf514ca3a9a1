-- Drafts that are changed where they stand, one after the other.
use Rattle.std.proofs.Common.{◌≡◌, ◌<◌, ◌≤◌, ◌++◌, ℕ, suc, ◌+◌, List, [], ◌∷◌, filter_map, length, take, drop, set, get_or, Some, refl, ap, sym, ◌∙◌, subst, add-one, append_assoc, append-nil, arith}
use Rattle.std.proofs.lemmas.List.{map-append, drop-set-lt, length-set, drop_all, take_all, take_more_set}
use Rattle.lotos_base.specs.Signature.{Signature}
use Rattle.behaviour_semantics.specs.Draft as plain
use Rattle.behaviour_semantics.specs.WellFormed.{Every}
use Rattle.event_offers.specs.OfferView.{plain_draft}
use Rattle.event_offers.specs.declared.drafts.Draft.{Draft}
use Rattle.draft_parts.specs.DraftTerms.{HasTermsOf}
use Rattle.draft_parts.specs.Lists.{plain_drafts, AreMadeBy}
use Rattle.draft_parts.proofs.MetLemmas.{here_is, over_at, over_set}

-- The drafts below an index are changed, and the others are not.
pub record ArePutSoFar (change : plain.Draft → plain.Draft) (given now : List Draft) (i : ℕ) : Type 0 where
  pub same : plain_drafts (take i now) ++ filter_map (λ (d : plain.Draft). Some (change d)) (plain_drafts (drop i now))
      ≡ filter_map (λ (d : plain.Draft). Some (change d)) (plain_drafts given)
  pub count : length now ≡ length given
  pub over : (signature : Signature) → Every (HasTermsOf signature) given → Every (HasTermsOf signature) now

pub put_begun : (change : plain.Draft → plain.Draft) (given : List Draft) → ArePutSoFar change given given 0
put_begun change given = record { same = refl; count = refl; over = λ signature h. h }

pub put_more : (change : plain.Draft → plain.Draft) (given now next : List Draft) (i : ℕ) (d e : Draft) → i < length now
    → d ≡ get_or now i d → next ≡ set now i e → plain_draft e ≡ change (plain_draft d)
    → ((signature : Signature) → HasTermsOf signature d → HasTermsOf signature e)
    → ArePutSoFar change given now i → ArePutSoFar change given next (i + 1)
put_more change given now next i d e within is n made over h =
    let all : List Draft → List plain.Draft = λ (ds : List Draft). filter_map (λ (x : plain.Draft). Some (change x)) (plain_drafts ds) in
    let further : i < i + 1 = omega arith in
    let done : take (i + 1) next ≡ take i now ++ e ∷ [] =
    ap (λ (ds : List Draft). take (i + 1) ds) n ∙ take_more_set now i e within in
    let rest : drop (i + 1) next ≡ drop (suc i) now =
    ap (λ (ds : List Draft). drop (i + 1) ds) n ∙ (drop-set-lt (i + 1) now i e further ∙ ap (λ (j : ℕ). drop j now) (add-one i)) in
    record {
      same = ap (λ (ds : List Draft). plain_drafts ds ++ all (drop (i + 1) next)) done
          ∙ (ap (λ (ds : List Draft). plain_drafts (take i now ++ e ∷ []) ++ all ds) rest
          ∙ (ap (λ (ds : List plain.Draft). ds ++ all (drop (suc i) now)) (map-append plain_draft (take i now) (e ∷ []))
          ∙ (append_assoc (plain_drafts (take i now)) (plain_draft e ∷ []) (all (drop (suc i) now))
          ∙ (ap (λ (x : plain.Draft). plain_drafts (take i now) ++ (x ∷ all (drop (suc i) now))) made
          ∙ (ap (λ (ds : List Draft). plain_drafts (take i now) ++ all ds) (sym (here_is now i d within is)) ∙ h.same)))));
      count = ap (λ (ds : List Draft). length ds) n ∙ (length-set now i e ∙ h.count);
      over = λ signature k.
          let before = h.over signature k in
          subst (λ (ds : List Draft). Every (HasTermsOf signature) ds) (sym n)
          (over_set (HasTermsOf signature) now i e before (over signature (over_at (HasTermsOf signature) now i d within is before)));
    }

pub put_done : (change : plain.Draft → plain.Draft) (signature : Signature) (given now : List Draft) (i : ℕ) → length now ≤ i
    → ArePutSoFar change given now i → Every (HasTermsOf signature) given
    → AreMadeBy signature (λ (d : plain.Draft). Some (change d)) given now
put_done change signature given now i past h k = record {
  same = sym (append-nil (plain_drafts now))
      ∙ (ap (λ (ds : List Draft). plain_drafts ds ++ []) (sym (take_all i now past))
      ∙ (ap (λ (ds : List Draft). plain_drafts (take i now)
      ++ filter_map (λ (d : plain.Draft). Some (change d)) (plain_drafts ds)) (sym (drop_all i now past)) ∙ h.same));
  over = h.over signature k;
}
