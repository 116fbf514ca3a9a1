-- Signatures whose sorts and operations agree one by one: written terms have the same readings over both.
use Rattle.std.proofs.Common.{◌≡◌, ℕ, List, [], ◌∷◌, ◌++◌, Option, Bool, ◌&&◌, ◌||◌, refl, ap, sym, ◌∙◌, subst}
use Rattle.std.specs.Prelude.{if◌then◌else◌}
use Rattle.lotos_base.specs.Equation.{Variable}
use Rattle.lotos_base.specs.Signature.{Signature, Form, prefix_form}
use Rattle.lotos_base.specs.Term.{Term, Terms, variable, node, no_terms, term_then}
use Rattle.lotos_base.specs.Twins.{form_eq}
use Rattle.lotos_base.specs.WrittenTerm.{PlacedName, WrittenHead, WrittenTerm, WrittenTerms, written, no_written, written_then, written_head}
use Rattle.sort_terms.specs.Reading.{Reads, AllRead, IsAsked, IsSortNamed}
use Rattle.sort_terms.specs.ReadingOutcome.{ReadingRefusal, unknown_name, unknown_sort, ReadingOutcome, is_sort_name, is_variable_name, is_operation_name, unknown_at, unknown_sorts, in_text_order, unknown_in, unknown_in_each, ComesTo, IsReading, IsPairReading, ReadingIs, PairReadingIs, SortedTerm, SortedPair}
use Rattle.certificate_theory.proofs.SameSignatures.{AgreeSignatures, agree_turned, sort_there, operation_there}
use Rattle.scope_parts.proofs.SeenLemmas.{comes_moved}
use Rattle.declaration_laws.proofs.SameLookups.{is_operation_same, is_sort_same}

module _ (signature other : Signature) (same : AgreeSignatures signature other) where
  -- ---- Names that stand for nothing.

  unknown_here : (scope : List Variable) (head : WrittenHead) → unknown_at signature scope head ≡ unknown_at other scope head
  unknown_here scope head =
      let known : is_operation_name signature head.name head.form ≡ is_operation_name other head.name head.form =
      is_operation_same signature other same head.name head.form
      in
      (λ i. if (form_eq head.form prefix_form && is_variable_name scope head.name) || known i then [] else unknown_name head.place ∷ [])

  unknown_asked : (asked : List PlacedName) → unknown_sorts signature asked ≡ unknown_sorts other asked
  unknown_asked [] = refl
  unknown_asked (sort ∷ rest) =
      let known : is_sort_name signature sort.name ≡ is_sort_name other sort.name = is_sort_same signature other same sort.name in
      let later : unknown_sorts signature rest ≡ unknown_sorts other rest = unknown_asked rest in
      (λ i. (if known i then [] else unknown_sort sort.place ∷ []) ++ later i)

  mutual
    unknown_same : (scope : List Variable) (w : WrittenTerm) → unknown_in signature scope w ≡ unknown_in other scope w
    unknown_same scope (written head arguments) =
        let here : unknown_at signature scope head ≡ unknown_at other scope head = unknown_here scope head in
        let each : unknown_in_each signature scope arguments ≡ unknown_in_each other scope arguments = unknown_each scope arguments in
        let asked : unknown_sorts signature head.sorts ≡ unknown_sorts other head.sorts = unknown_asked head.sorts in
        (λ i. in_text_order head.form (here i) (each i) ++ asked i)

    unknown_each : (scope : List Variable) (ws : WrittenTerms) → unknown_in_each signature scope ws ≡ unknown_in_each other scope ws
    unknown_each scope no_written = refl
    unknown_each scope (written_then w ws) =
        let first : unknown_in signature scope w ≡ unknown_in other scope w = unknown_same scope w in
        let rest : unknown_in_each signature scope ws ≡ unknown_in_each other scope ws = unknown_each scope ws in
        (λ i. first i ∷ rest i)

  -- ---- Readings.

  asked_too : (asked : List PlacedName) (sort : ℕ) → IsAsked signature asked sort → IsAsked other asked sort
  asked_too [] sort h = tt
  asked_too (name ∷ rest) sort h =
      let at = sort_there signature.sorts other.sorts same.sorts sort h.0.0 h.0.1 in
      ((at.0, at.1, sym at.2 ∙ h.0.2), asked_too rest sort h.1)

  mutual
    reads_too : (scope : List Variable) (w : WrittenTerm) (t : Term) (sort : ℕ) → Reads signature scope w t sort → Reads other scope w t sort
    reads_too scope (written head ws) (variable n s) sort h = (
      record {
        bare = h.0.bare;
        declared = h.0.declared;
        last = h.0.last;
        numbered = h.0.numbered;
        sorted = h.0.sorted;
        asked = asked_too head.sorts s h.0.asked;
      },
      h.1,
    )
    reads_too scope (written head ws) (node f ts) sort h =
        let at = operation_there signature.operations other.operations same.operations f h.0 h.1.is_there in (
          at.0,
          record {
            is_there = at.1;
            named = sym at.2.name ∙ h.1.named;
            formed = sym at.2.form ∙ h.1.formed;
            visible = h.1.visible;
            asked = subst (IsAsked other head.sorts) at.2.result (asked_too head.sorts h.0.result h.1.asked);
          },
          sym at.2.result ∙ h.2,
          subst (AllRead other scope ws ts) at.2.arguments (all_read_too scope ws ts h.0.arguments h.3),
        )

    all_read_too : (scope : List Variable) (ws : WrittenTerms) (ts : Terms) (sorts : List ℕ) → AllRead signature scope ws ts sorts
        → AllRead other scope ws ts sorts
    all_read_too scope no_written no_terms [] h = tt
    all_read_too scope no_written no_terms (s ∷ ss) h = absurd h
    all_read_too scope no_written (term_then t ts) ss h = absurd h
    all_read_too scope (written_then w ws) no_terms ss h = absurd h
    all_read_too scope (written_then w ws) (term_then t ts) [] h = absurd h
    all_read_too scope (written_then w ws) (term_then t ts) (s ∷ ss) h =
        (reads_too scope w t s h.0, all_read_too scope ws ts ss h.1)

-- ---- What reading comes to.

module _ (signature other : Signature) (same : AgreeSignatures signature other) where
  pub reading_too : (scope : List Variable) (w : WrittenTerm) (expected : Option ℕ) (o : ReadingOutcome SortedTerm)
      → ReadingIs signature scope w expected o → ReadingIs other scope w expected o
  reading_too scope w expected o h =
      comes_moved (unknown_in other scope w) (written_head w).place (IsReading signature scope w expected)
      (IsReading other scope w expected)
      (λ x r. (reads_too signature other same scope w x.term x.sort r.0, r.1))
      (λ x r. (reads_too other signature (agree_turned signature other same) scope w x.term x.sort r.0, r.1)) o
      (subst (λ (it : List ReadingRefusal). ComesTo it (written_head w).place (IsReading signature scope w expected) o)
      (unknown_same signature other same scope w) h)

  pub pair_reading_too : (scope : List Variable) (left right : WrittenTerm) (o : ReadingOutcome SortedPair)
      → PairReadingIs signature scope left right o → PairReadingIs other scope left right o
  pair_reading_too scope left right o h =
      let first : unknown_in signature scope left ≡ unknown_in other scope left = unknown_same signature other same scope left in
      let second : unknown_in signature scope right ≡ unknown_in other scope right = unknown_same signature other same scope right in
      let both : unknown_in signature scope left ++ unknown_in signature scope right
      ≡ unknown_in other scope left ++ unknown_in other scope right =
      (λ i. first i ++ second i)
      in
      comes_moved (unknown_in other scope left ++ unknown_in other scope right) (written_head left).place
      (IsPairReading signature scope left right) (IsPairReading other scope left right)
      (λ x r. (reads_too signature other same scope left x.left x.sort r.0, reads_too signature other same scope right x.right x.sort r.1))
      (λ x r. (
        reads_too other signature (agree_turned signature other same) scope left x.left x.sort r.0,
        reads_too other signature (agree_turned signature other same) scope right x.right x.sort r.1,
      )) o
      (subst (λ (it : List ReadingRefusal). ComesTo it (written_head left).place (IsPairReading signature scope left right) o) both h)
