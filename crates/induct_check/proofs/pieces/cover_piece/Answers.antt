use Rattle.std.proofs.Common.{refl, sym, ◌∙◌, subst}
use Rattle.std.specs.Prelude.{IsTrue}
use Rattle.lotos_base.specs.Name.{spelling}
use Rattle.sort_terms.specs.Reading.{IsSortNamed}
use Rattle.sort_terms.specs.ReaderView.{signature_read}
use Rattle.induct_parts.proofs.Outcomes.{match_none_at, match_some_at}
use Rattle.induct_check.specs.KnownView.{known_signature}
use Rattle.induct_check.proofs.PieceLemmas.{no_cover_sort, no_cover_items, no_cover_results, cover_results, HaveResult}
use Rattle.induct_check.proofs.pieces.cover_piece.Goals as goal

pub returns-in_default : goal.returns-in_default
returns-in_default c =
    no_cover_sort (known_signature c.args.known.now) c.args.sort.now c.args.items.now
    (λ s named. match_none_at _ _ c.in_ok-number.field-0 c.in_default.is c.in_ok-number.ensures s
    (subst (λ signature. IsSortNamed signature s (spelling c.of-name.result)) (sym c.requires.reader)
    (subst (λ name. IsSortNamed (known_signature c.args.known.now) s name)
    (sym (c.of-name.ensures ∙ c.in_ok-from_slice.ensures.items)) named)))

pub returns-in_default-2 : goal.returns-in_default-2
returns-in_default-2 c =
    no_cover_items (known_signature c.args.known.now) c.args.sort.now c.args.items.now
    (match_none_at _ _ c.in_ok-operations.field-0 c.in_default-2.is c.in_ok-operations.ensures)

pub returns-then-not-have_result : goal.returns-then-not-have_result
returns-then-not-have_result c =
    let signature = known_signature c.args.known.now in
    let named = subst (λ signature. IsSortNamed signature c.in-Some.number c.args.sort.now) c.requires.reader
    (subst (λ name. IsSortNamed (signature_read c.args.known.now.reader.now) c.in-Some.number name)
    (c.of-name.ensures ∙ c.in_ok-from_slice.ensures.items)
    (match_some_at _ _ c.in_ok-number.field-0 c.in-Some.number c.in-Some.is c.in_ok-number.ensures).0) in
    let listed = match_some_at _ _ c.in_ok-operations.field-0 c.in-Some-2.operations c.in-Some-2.is c.in_ok-operations.ensures in
    no_cover_results signature c.args.known.now.signature.now.well_formed c.args.sort.now c.args.items.now c.in-Some.number
    c.in-Some-2.operations.items named listed (λ have. let t : IsTrue c.have_result.result =
    c.have_result.ensures.1 (subst (HaveResult signature c.in-Some.number) (sym c.as_slice.ensures.value) have) in
    absurd (cc (t, c.if-not-have_result.true)))

pub returns : goal.returns
returns c =
    let signature = known_signature c.args.known.now in
    let named = subst (λ signature. IsSortNamed signature c.in-Some.number c.args.sort.now) c.requires.reader
    (subst (λ name. IsSortNamed (signature_read c.args.known.now.reader.now) c.in-Some.number name)
    (c.of-name.ensures ∙ c.in_ok-from_slice.ensures.items)
    (match_some_at _ _ c.in_ok-number.field-0 c.in-Some.number c.in-Some.is c.in_ok-number.ensures).0) in
    let listed = match_some_at _ _ c.in_ok-operations.field-0 c.in-Some-2.operations c.in-Some-2.is c.in_ok-operations.ensures in
    let results : HaveResult signature c.in-Some.number c.in-Some-2.operations.items =
    subst (HaveResult signature c.in-Some.number) c.as_slice.ensures.value (c.have_result.ensures.0 (cc c.if-not-have_result.false)) in (
      (
        record { sort = c.in-Some.number; operations = c.in-Some-2.operations.items },
        record { named = named; listed = listed; results = results },
        refl,
      ),
      cover_results signature c.in-Some.number c.in-Some-2.operations.items results,
    )
