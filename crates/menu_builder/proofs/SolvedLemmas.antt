-- Drafts solved one by one, over a list that is taken from its end after it was reversed.
use Rattle.std.proofs.Common.{◌≡◌, ◌++◌, ℕ, List, [], ◌∷◌, map, reverse, Option, None, Some, option_map, option_to_list, ap, sym, ◌∙◌, subst}
use Rattle.std.specs.Prelude.{IfSome}
use Rattle.std.proofs.lemmas.List.{append_assoc, append-nil, map-append, reverse-append, reverse-reverse}
use Rattle.lotos_base.specs.Signature.{Signature}
use Rattle.lotos_base.specs.Term.{Term}
use Rattle.behaviour_semantics.specs.Draft as plain
use Rattle.behaviour_semantics.specs.Draft.{draft_with, numbered_from_zero}
use Rattle.behaviour_semantics.specs.DraftOrder.{IsInOrder}
use Rattle.behaviour_semantics.specs.Listing.{AllSolveTo, none_left, entry_then, nothing_then}
use Rattle.behaviour_semantics.specs.Solving as solving
use Rattle.behaviour_semantics.specs.Solving.{SolvesTo}
use Rattle.behaviour_semantics.specs.WellFormed.{Every}
use Rattle.behaviour_semantics.proofs.ListLemmas.{Every-append}
use Rattle.draft_parts.specs.HandedOn.{plain_draft, plain_entry, IsDraftOver, IsEntryOver, Draft, Entry}
use Rattle.draft_parts.specs.DraftTerms.{HasTermsOf}
use Rattle.draft_parts.specs.Lists.{plain_drafts}
use Rattle.menu_builder.specs.OpenMenus.{lowered_drafts}

-- what solving leaves of one draft, before the rest
one_solved : (canon : Term → Term) (draft : plain.Draft) (drafts : List plain.Draft) (o : Option Entry) (entries : List solving.Entry)
    → SolvesTo canon draft (option_map plain_entry o) → AllSolveTo canon drafts entries
    → AllSolveTo canon (draft ∷ drafts) (map plain_entry (option_to_list o) ++ entries)
one_solved canon draft drafts None entries h k = nothing_then h k
one_solved canon draft drafts (Some entry) entries h k = entry_then h k

-- a draft that is lowered is ready to be solved
pub ready_draft : (signature : Signature) (base : ℕ) (d lowered : Draft)
    → plain_draft lowered ≡ draft_with (numbered_from_zero base) (plain_draft d)
    → IsInOrder signature (draft_with (numbered_from_zero base) (plain_draft d)) → HasTermsOf signature lowered
    → IsDraftOver signature lowered
ready_draft signature base d lowered e order terms = record {
  order = subst (λ (x : plain.Draft). IsInOrder signature x) (sym e) order;
  values = terms.values;
  leaves = terms.leaves;
  conditions = terms.conditions;
}

-- The entries so far, with those of the drafts that are left, are those of all drafts.
pub record AreHalfSolved (signature : Signature) (canon : Term → Term) (base : ℕ) (given rest : List Draft) (made : List Entry) : Type
    0 where
  pub solved :
      (entries : List solving.Entry) →
      AllSolveTo canon (lowered_drafts base (plain_drafts (reverse rest))) entries →
      AllSolveTo canon (lowered_drafts base (plain_drafts given)) (map plain_entry made ++ entries)
  pub over : Every (IsEntryOver signature) made
  pub terms : Every (HasTermsOf signature) (reverse rest)
  pub order : Every (IsInOrder signature) (lowered_drafts base (plain_drafts (reverse rest)))

module _ (signature : Signature) (canon : Term → Term) (base : ℕ) (given : List Draft) where
  pub begun : (rest : List Draft) → rest ≡ reverse given → Every (HasTermsOf signature) given
      → Every (IsInOrder signature) (lowered_drafts base (plain_drafts given)) → AreHalfSolved signature canon base given rest []
  begun rest e h k =
      let back : reverse rest ≡ given = ap reverse e ∙ reverse-reverse given in
      record {
        solved = λ entries s. subst (λ (ds : List Draft). AllSolveTo canon (lowered_drafts base (plain_drafts ds)) entries) back s;
        over = tt;
        terms = subst (λ (ds : List Draft). Every (HasTermsOf signature) ds) (sym back) h;
        order = subst (λ (ds : List Draft). Every (IsInOrder signature) (lowered_drafts base (plain_drafts ds))) (sym back) k;
      }

  -- what is left before a draft is taken
  taken : (rest left : List Draft) (d : Draft) → rest ≡ left ++ d ∷ [] → reverse rest ≡ d ∷ reverse left
  taken rest left d e = ap reverse e ∙ reverse-append left (d ∷ [])

  pub taken_terms : (rest left : List Draft) (d : Draft) (made : List Entry) → rest ≡ left ++ d ∷ []
      → AreHalfSolved signature canon base given rest made → HasTermsOf signature d
  taken_terms rest left d made e h = (subst (λ (ds : List Draft). Every (HasTermsOf signature) ds) (taken rest left d e) h.terms).0

  pub taken_order : (rest left : List Draft) (d : Draft) (made : List Entry) → rest ≡ left ++ d ∷ []
      → AreHalfSolved signature canon base given rest made → IsInOrder signature (draft_with (numbered_from_zero base) (plain_draft d))
  taken_order rest left d made e h =
      (subst (λ (ds : List Draft). Every (IsInOrder signature) (lowered_drafts base (plain_drafts ds))) (taken rest left d e) h.order).0

  some_over : (o : Option Entry) → IfSome o (λ (entry : Entry). IsEntryOver signature entry)
      → Every (IsEntryOver signature) (option_to_list o)
  some_over None h = tt
  some_over (Some entry) h = (h, tt)

  pub more_solved : (rest left : List Draft) (d : Draft) (made more : List Entry) (o : Option Entry) (lowered : plain.Draft)
      → rest ≡ left ++ d ∷ [] → more ≡ made ++ option_to_list o → lowered ≡ draft_with (numbered_from_zero base) (plain_draft d)
      → SolvesTo canon lowered (option_map plain_entry o) → IfSome o (λ (entry : Entry). IsEntryOver signature entry)
      → AreHalfSolved signature canon base given rest made → AreHalfSolved signature canon base given left more
  more_solved rest left d made more o lowered e m is s over h =
      let here : reverse rest ≡ d ∷ reverse left = taken rest left d e in
      let solves : SolvesTo canon (draft_with (numbered_from_zero base) (plain_draft d)) (option_map plain_entry o) =
      subst (λ (x : plain.Draft). SolvesTo canon x (option_map plain_entry o)) is s in
      record {
        solved = λ entries k.
            subst (λ (es : List solving.Entry). AllSolveTo canon (lowered_drafts base (plain_drafts given)) es)
            (sym (append_assoc (map plain_entry made) (map plain_entry (option_to_list o)) entries)
            ∙ (ap (λ (es : List solving.Entry). es ++ entries) (sym (map-append plain_entry made (option_to_list o)))
            ∙ ap (λ (es : List Entry). map plain_entry es ++ entries) (sym m)))
            (h.solved (map plain_entry (option_to_list o) ++ entries)
            (subst (λ (ds : List Draft). AllSolveTo canon (lowered_drafts base (plain_drafts ds))
            (map plain_entry (option_to_list o) ++ entries)) (sym here)
            (one_solved canon (draft_with (numbered_from_zero base) (plain_draft d)) (lowered_drafts base (plain_drafts (reverse left))) o
            entries solves k)));
        over = subst (λ (es : List Entry). Every (IsEntryOver signature) es) (sym m)
            (Every-append (IsEntryOver signature) made (option_to_list o) h.over (some_over o over));
        terms = (subst (λ (ds : List Draft). Every (HasTermsOf signature) ds) here h.terms).1;
        order = (subst (λ (ds : List Draft). Every (IsInOrder signature) (lowered_drafts base (plain_drafts ds))) here h.order).1;
      }

  pub all_solved : (rest : List Draft) (made : List Entry) → rest ≡ [] → AreHalfSolved signature canon base given rest made
      → AllSolveTo canon (lowered_drafts base (plain_drafts given)) (map plain_entry made)
  all_solved rest made e h =
      subst (λ (es : List solving.Entry). AllSolveTo canon (lowered_drafts base (plain_drafts given)) es)
      (append-nil (map plain_entry made))
      (h.solved [] (subst (λ (ds : List Draft). AllSolveTo canon (lowered_drafts base (plain_drafts (reverse ds))) []) (sym e) none_left))
