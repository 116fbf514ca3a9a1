-- Lists of drafts put together.
use Rattle.std.proofs.Common.{◌≡◌, ◌<◌, ◌≤◌, ◌++◌, ℕ, suc, ◌+◌, List, [], ◌∷◌, map, filter_map, drop, length, get_or, Some, Bool, true, false, if◌then◌else◌, refl, ap, ◌∙◌, subst, sym, append_assoc, add-one, arith, ◌-◌, append-nil}
use Rattle.std.specs.Prelude.{Option}
use Rattle.std.proofs.Math.Dec.{eqb}
use Rattle.std.proofs.Math.ListN.{drop_of_length-le}
use Rattle.std.proofs.Math.Seq.{drop-cons}
use Rattle.std.proofs.lemmas.Bool.{eqb-true, eqb-false}
use Rattle.std.proofs.lemmas.List.{map-append, length-drop}
use Rattle.lotos_base.proofs.Pieces.{zip-nil}
use Rattle.lotos_base.specs.Signature.{Signature}
use Rattle.behaviour_semantics.specs.Behaviour.{Relabelling, SynchronisationSet}
use Rattle.behaviour_semantics.specs.Draft as plain
use Rattle.behaviour_semantics.specs.Label.{gate_under}
use Rattle.behaviour_semantics.specs.Shape.{Shape}
use Rattle.behaviour_semantics.specs.WellFormed.{Every}
use Rattle.behaviour_semantics.proofs.ListLemmas.{Every-append}
use Rattle.event_offers.specs.OfferView.{plain_draft}
use Rattle.event_offers.specs.declared.drafts.Draft.{Draft}
use Rattle.draft_parts.specs.DraftTerms.{HasTermsOf}
use Rattle.draft_parts.specs.DraftRules.{alone_draft, draft_within}
use Rattle.draft_parts.specs.Lists.{both_lists, plain_drafts, AreMadeBy}
use Rattle.draft_parts.specs.Parting.{alone_among, meeting_among}
use Rattle.draft_parts.proofs.PartingLemmas.{alone_same, alone_kept, alone_over, both_same, meeting_over}
use Rattle.draft_parts.specs.HasDrafts.{beside_drafts, gate_drafts, row_drafts}
use Rattle.draft_parts.specs.Rows.{call_pairs}
use Rattle.draft_parts.specs.Made.{AreThese}
use Rattle.draft_parts.specs.RowDrafts.{IsThisSide}
use Rattle.draft_parts.specs.declared.rows.Side.{Side}

-- one list behind another
pub two_lists : (signature : Signature) (first second made : List Draft) (ds es : List plain.Draft) → AreThese signature ds first
    → AreThese signature es second → made ≡ first ++ second → AreThese signature (ds ++ es) made
two_lists signature first second made ds es h k e = record {
  same = ap plain_drafts e
      ∙ (map-append plain_draft first second
      ∙ (ap (λ (xs : List plain.Draft). xs ++ plain_drafts second) h.same ∙ ap (λ (xs : List plain.Draft). ds ++ xs) k.same));
  over = subst (λ (xs : List Draft). Every (HasTermsOf signature) xs) (sym e)
      (Every-append (HasTermsOf signature) first second h.over k.over);
}

-- what a rule made
pub by_rule : (signature : Signature) (rule : plain.Draft → Option plain.Draft) (given made : List Draft)
    → AreMadeBy signature rule given made → AreThese signature (filter_map rule (plain_drafts given)) made
by_rule signature rule given made h = record { same = h.same; over = h.over }

-- what a rule made of a copy
pub by_rule_of : (signature : Signature) (rule : plain.Draft → Option plain.Draft) (part copy made : List Draft)
    → plain_drafts copy ≡ plain_drafts part → AreMadeBy signature rule copy made
    → AreThese signature (filter_map rule (plain_drafts part)) made
by_rule_of signature rule part copy made e h =
    record { same = h.same ∙ ap (filter_map rule) e; over = h.over }

-- What a rule that keeps each draft made of those that move alone.
pub rest_alone : (signature : Signature) (meet : SynchronisationSet) (variant : Shape → Shape) (given among made : List Draft)
    → among ≡ alone_among meet given → Every (HasTermsOf signature) given
    → (Every (HasTermsOf signature) among → AreMadeBy signature (λ (d : plain.Draft). Some (draft_within variant d)) among made)
    → AreMadeBy signature (alone_draft meet variant) given made
rest_alone signature meet variant given among made e h k =
    let m : AreMadeBy signature (λ (d : plain.Draft). Some (draft_within variant d)) among made =
    k (subst (λ (ds : List Draft). Every (HasTermsOf signature) ds) (sym e) (alone_over (HasTermsOf signature) meet given h)) in
    record {
      same = m.same ∙ (ap (λ (ds : List Draft). filter_map (λ (d : plain.Draft). Some (draft_within variant d)) (plain_drafts ds)) e
          ∙ alone_kept meet variant given);
      over = m.over;
    }

-- ---- The sides of a parallel, those that move alone apart from the others.
pub alone_made : (signature : Signature) (meet : SynchronisationSet) (variant : Shape → Shape) (given among made : List Draft)
    → among ≡ alone_among meet given → Every (HasTermsOf signature) given
    → (Every (HasTermsOf signature) among → AreMadeBy signature (alone_draft meet variant) among made)
    → AreThese signature (filter_map (alone_draft meet variant) (plain_drafts given)) made
alone_made signature meet variant given among made e h k =
    let m : AreMadeBy signature (alone_draft meet variant) among made =
    k (subst (λ (ds : List Draft). Every (HasTermsOf signature) ds) (sym e) (alone_over (HasTermsOf signature) meet given h)) in
    record {
      same = m.same ∙ (ap (λ (ds : List Draft). filter_map (alone_draft meet variant) (plain_drafts ds)) e ∙ alone_same meet variant given);
      over = m.over;
    }

pub both_made : (signature : Signature) (meet : SynchronisationSet) (first : ℕ) (lefts rights some others made : List Draft)
    → some ≡ meeting_among meet lefts → others ≡ meeting_among meet rights
    → Every (HasTermsOf signature) lefts → Every (HasTermsOf signature) rights
    → (Every (HasTermsOf signature) some → Every (HasTermsOf signature) others
    → plain_drafts made ≡ both_lists signature meet first (plain_drafts some) (plain_drafts others))
    → (Every (HasTermsOf signature) some → Every (HasTermsOf signature) others → Every (HasTermsOf signature) made)
    → AreThese signature (both_lists signature meet first (plain_drafts lefts) (plain_drafts rights)) made
both_made signature meet first lefts rights some others made e f h k same over =
    let some_over : Every (HasTermsOf signature) some =
    subst (λ (ds : List Draft). Every (HasTermsOf signature) ds) (sym e) (meeting_over (HasTermsOf signature) meet lefts h) in
    let others_over : Every (HasTermsOf signature) others =
    subst (λ (ds : List Draft). Every (HasTermsOf signature) ds) (sym f) (meeting_over (HasTermsOf signature) meet rights k) in
    record {
      same = same some_over others_over
          ∙ (ap (λ (ds : List Draft). both_lists signature meet first (plain_drafts ds) (plain_drafts others)) e
          ∙ (ap (λ (ds : List Draft). both_lists signature meet first (plain_drafts (meeting_among meet lefts)) (plain_drafts ds)) f
          ∙ both_same signature meet first lefts rights));
      over = over some_over others_over;
    }

-- ---- Gate choices, gate after gate.
-- The drafts for the gates that are done are made, and those for the rest, with them, are those of all gates.
pub record AreAtGates (signature : Signature) (formal position : ℕ) (rest : List ℕ) (part expected : List plain.Draft)
    (made : List Draft) : Type 0 where
  pub same : plain_drafts made ++ gate_drafts formal position rest part ≡ expected
  pub over : Every (HasTermsOf signature) made

pub one_gate : (signature : Signature) (formal position later : ℕ) (gates : List ℕ) (i a d : ℕ) (part expected here : List plain.Draft)
    (made copy more : List Draft) → i < length gates → a ≡ get_or gates i d → later ≡ position + 1
    → more ≡ made ++ copy
    → ((rest : List ℕ) → gate_drafts formal position (a ∷ rest) part ≡ here ++ gate_drafts formal (suc position) rest part)
    → AreThese signature here copy
    → AreAtGates signature formal position (drop i gates) part expected made
    → AreAtGates signature formal later (drop (i + 1) gates) part expected more
one_gate signature formal position later gates i a d part expected here made copy more within is next e opened c h =
    let rest : drop i gates ≡ a ∷ drop (suc i) gates =
    drop-cons gates i d within ∙ ap (λ (b : ℕ). b ∷ drop (suc i) gates) (sym is) in
    let both : AreThese signature (plain_drafts made ++ here) more =
    two_lists signature made copy more (plain_drafts made) here (record { same = refl; over = h.over }) c e in
    record {
      same = ap (λ (ds : List plain.Draft). ds ++ gate_drafts formal later (drop (i + 1) gates) part) both.same
          ∙ (ap (λ (k : ℕ). (plain_drafts made ++ here) ++ gate_drafts formal k (drop (i + 1) gates) part) (next ∙ add-one position)
          ∙ (ap (λ (j : ℕ). (plain_drafts made ++ here) ++ gate_drafts formal (suc position) (drop j gates) part) (add-one i)
          ∙ (append_assoc (plain_drafts made) here (gate_drafts formal (suc position) (drop (suc i) gates) part)
          ∙ (ap (λ (ds : List plain.Draft). plain_drafts made ++ ds) (sym (opened (drop (suc i) gates)))
          ∙ (ap (λ (gs : List ℕ). plain_drafts made ++ gate_drafts formal position gs part) (sym rest) ∙ h.same)))));
      over = both.over;
    }

pub gates_done : (signature : Signature) (formal position : ℕ) (gates : List ℕ) (i : ℕ) (part expected : List plain.Draft)
    (made : List Draft) → length gates ≤ i → AreAtGates signature formal position (drop i gates) part expected made
    → AreThese signature expected made
gates_done signature formal position gates i part expected made past h = record {
  same = sym (append-nil (plain_drafts made))
      ∙ (ap (λ (gs : List ℕ). plain_drafts made ++ gate_drafts formal position gs part) (sym (drop_of_length-le gates past)) ∙ h.same);
  over = h.over;
}

-- ---- Copies, one after the other.
pub copy_turn : (items : List Draft) (i : ℕ) (x copy : Draft) (made more : List Draft) → i < length items → x ≡ get_or items i x
    → more ≡ made ++ (copy ∷ []) → plain_draft copy ≡ plain_draft x
    → plain_drafts made ++ plain_drafts (drop i items) ≡ plain_drafts items
    → plain_drafts more ++ plain_drafts (drop (i + 1) items) ≡ plain_drafts items
copy_turn items i x copy made more within is m e before =
    let here : drop i items ≡ x ∷ drop (suc i) items =
    drop-cons items i x within ∙ ap (λ (y : Draft). y ∷ drop (suc i) items) (sym is) in
    ap (λ (j : ℕ). plain_drafts more ++ plain_drafts (drop j items)) (add-one i)
    ∙ (ap (λ (ds : List Draft). plain_drafts ds ++ plain_drafts (drop (suc i) items)) m
    ∙ (ap (λ (ds : List plain.Draft). ds ++ plain_drafts (drop (suc i) items)) (map-append plain_draft made (copy ∷ []))
    ∙ (append_assoc (plain_drafts made) (plain_draft copy ∷ []) (plain_drafts (drop (suc i) items))
    ∙ (ap (λ (d : plain.Draft). plain_drafts made ++ (d ∷ plain_drafts (drop (suc i) items))) e
    ∙ (ap (λ (ds : List Draft). plain_drafts made ++ plain_drafts ds) (sym here) ∙ before)))))

pub more_over : (signature : Signature) (made more : List Draft) (copy : Draft) → more ≡ made ++ (copy ∷ [])
    → Every (HasTermsOf signature) made → HasTermsOf signature copy → Every (HasTermsOf signature) more
more_over signature made more copy m h k =
    subst (λ (ds : List Draft). Every (HasTermsOf signature) ds) (sym m)
    (Every-append (HasTermsOf signature) made (copy ∷ []) h (k, tt))

-- ---- The relabelling of a call, gate after gate.

pub pairs_turn : (formals actuals : List ℕ) (pairs made more : Relabelling) (i f a : ℕ) → i < length formals → i < length actuals
    → f ≡ get_or formals i f → a ≡ get_or actuals i a → more ≡ made ++ ((f, gate_under pairs a) ∷ [])
    → made ++ call_pairs (drop i formals) (drop i actuals) pairs ≡ call_pairs formals actuals pairs
    → more ++ call_pairs (drop (i + 1) formals) (drop (i + 1) actuals) pairs ≡ call_pairs formals actuals pairs
pairs_turn formals actuals pairs made more i f a within inside is at m before =
    let first : drop i formals ≡ f ∷ drop (suc i) formals =
    drop-cons formals i f within ∙ ap (λ (g : ℕ). g ∷ drop (suc i) formals) (sym is) in
    let second : drop i actuals ≡ a ∷ drop (suc i) actuals =
    drop-cons actuals i a inside ∙ ap (λ (g : ℕ). g ∷ drop (suc i) actuals) (sym at) in
    ap (λ (j : ℕ). more ++ call_pairs (drop j formals) (drop j actuals) pairs) (add-one i)
    ∙ (ap (λ (ps : Relabelling). ps ++ call_pairs (drop (suc i) formals) (drop (suc i) actuals) pairs) m
    ∙ (append_assoc made ((f, gate_under pairs a) ∷ []) (call_pairs (drop (suc i) formals) (drop (suc i) actuals) pairs)
    ∙ (ap (λ (gs : List ℕ). made ++ call_pairs (f ∷ drop (suc i) formals) gs pairs) (sym second)
    ∙ (ap (λ (gs : List ℕ). made ++ call_pairs gs (drop i actuals) pairs) (sym first) ∙ before))))

pub pairs_without_actuals : (formals actuals : List ℕ) (pairs made : Relabelling) (i : ℕ) → length actuals ≤ i
    → made ++ call_pairs (drop i formals) (drop i actuals) pairs ≡ call_pairs formals actuals pairs
    → made ≡ call_pairs formals actuals pairs
pairs_without_actuals formals actuals pairs made i past before =
    sym (append-nil made)
    ∙ (ap (λ (ps : Relabelling). made ++ ps)
    (sym (zip-nil (drop i formals) (map (gate_under pairs) (drop i actuals))
    (ap (map (gate_under pairs)) (drop_of_length-le actuals past))))
    ∙ before)

pub pairs_without_formals : (formals actuals : List ℕ) (pairs made : Relabelling) (i : ℕ) → length formals ≤ i
    → made ++ call_pairs (drop i formals) (drop i actuals) pairs ≡ call_pairs formals actuals pairs
    → made ≡ call_pairs formals actuals pairs
pairs_without_formals formals actuals pairs made i past before =
    sym (append-nil made)
    ∙ (ap (λ (gs : List ℕ). made ++ call_pairs gs (drop i actuals) pairs) (sym (drop_of_length-le formals past)) ∙ before)

-- ---- Rows, from the last copy to the first.
-- the row of what is made so far, of the gates from an index on
abbrev pub row_from : Signature → SynchronisationSet → ℕ → (ℕ → List plain.Draft) → List ℕ → List plain.Draft
row_from signature meet first copy gates = row_drafts signature meet first (map copy gates)

row_of_one : (signature : Signature) (meet : SynchronisationSet) (first : ℕ) (copy : ℕ → List plain.Draft) (a : ℕ) (others : List ℕ)
    → others ≡ [] → row_from signature meet first copy (a ∷ others) ≡ copy a
row_of_one signature meet first copy a [] e = refl
row_of_one signature meet first copy a (b ∷ others) e = absurd (cc e)

row_of_more : (signature : Signature) (meet : SynchronisationSet) (first : ℕ) (copy : ℕ → List plain.Draft) (a : ℕ) (others : List ℕ)
    → (others ≡ [] → ⊥)
    → row_from signature meet first copy (a ∷ others)
    ≡ beside_drafts signature meet first (copy a) (row_from signature meet first copy others)
row_of_more signature meet first copy a [] e = absurd (e refl)
row_of_more signature meet first copy a (b ∷ others) e = refl

pub one_copy : (signature : Signature) (meet : SynchronisationSet) (first : ℕ) (copy : ℕ → List plain.Draft) (gates : List ℕ)
    (i a d : ℕ) (last : Bool) (lefts rest : List plain.Draft) (more : Side) → i < length gates → a ≡ get_or gates i d
    → last ≡ eqb (i + 1) (length gates) → lefts ≡ copy a → rest ≡ row_from signature meet first copy (drop (i + 1) gates)
    → IsThisSide signature first (if last then lefts else beside_drafts signature meet first lefts rest) more
    → IsThisSide signature first (row_from signature meet first copy (drop i gates)) more
one_copy signature meet first copy gates i a d last lefts rest more within is when left right h =
    subst (λ (ds : List plain.Draft). IsThisSide signature first ds more) (by last when) h
  where
    rest_here : drop i gates ≡ a ∷ drop (i + 1) gates
    rest_here = drop-cons gates i d within ∙ (ap (λ (b : ℕ). b ∷ drop (suc i) gates) (sym is)
        ∙ ap (λ (j : ℕ). a ∷ drop j gates) (sym (add-one i)))

    count : length (drop (i + 1) gates) ≡ length gates - (i + 1)
    count = length-drop (i + 1) gates

    none : eqb (i + 1) (length gates) ≡ true → drop (i + 1) gates ≡ []
    none e = drop_of_length-le gates (let same : i + 1 ≡ length gates = eqb-true (i + 1) (length gates) e in omega arith)

    some : eqb (i + 1) (length gates) ≡ false → drop (i + 1) gates ≡ [] → ⊥
    some e empty =
        let other : i + 1 ≡ length gates → ⊥ = eqb-false (i + 1) (length gates) e in
        let zero_left : length (drop (i + 1) gates) ≡ 0 = ap length empty in
        other (omega (arith, count, zero_left))

    by : (c : Bool) → c ≡ eqb (i + 1) (length gates)
        → (if c then lefts else beside_drafts signature meet first lefts rest) ≡ row_from signature meet first copy (drop i gates)
    by true e =
        left ∙ (sym (row_of_one signature meet first copy a (drop (i + 1) gates) (none (sym e)))
        ∙ ap (row_from signature meet first copy) (sym rest_here))
    by false e =
        ap (λ (ds : List plain.Draft). beside_drafts signature meet first ds rest) left
        ∙ (ap (beside_drafts signature meet first (copy a)) right
        ∙ (sym (row_of_more signature meet first copy a (drop (i + 1) gates) (some (sym e)))
        ∙ ap (row_from signature meet first copy) (sym rest_here)))
