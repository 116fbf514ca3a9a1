-- Where terms and premisses are refused.
use Rattle.std.proofs.Common.{List, [], ◌∷◌, ◌++◌, Bool, true, false, inl, inr, refl, ap, sym, subst}
use Rattle.std.specs.Prelude.{ℕ, Option, None, Some, if◌then◌else◌}
use Rattle.lotos_base.specs.Equation.{Place, Variable}
use Rattle.lotos_base.specs.Signature.{Signature, Form, prefix_form, infix_form}
use Rattle.lotos_base.specs.WrittenTerm.{PlacedName, WrittenHead, WrittenTerm, WrittenTerms, written, no_written, written_then, written_head}
use Rattle.syntax_trees.specs.WrittenEquation.{WrittenPremiss}
use Rattle.behaviour_semantics.specs.WellFormed.{Every}
use Rattle.sort_terms.specs.ReadingOutcome.{ReadingRefusal, unknown_name, unknown_sort as unknown_of, is_sort_name, is_known, unknown_at, unknown_sorts, refusals_together, in_text_order, unknown_in, unknown_in_each, ReadingOutcome, refused, ComesTo, ReadingIs, PairReadingIs}
use Rattle.scope_parts.specs.ScopeFault.{unknown_gate, unknown_process, unknown_sort, double_name, gate_count, value_count, no_bool, refused_term, fault_place, refusal_place}
use Rattle.scope_parts.specs.Resolution.{faulty}
use Rattle.scope_parts.specs.Sorts.{Truth, truth_in}
use Rattle.scope_parts.specs.Terms.{AsResolution, TermIs, TrueTermIs, PremissIs, TestIs, TestOptionIs}
use Rattle.scope_parts.specs.Order.{IsOneOfPlaces}
use Rattle.scope_parts.specs.TermPlaces.{name_places, term_places, terms_places, right_places, premiss_places}
use Rattle.scope_parts.specs.BehaviourPlaces.{test_places}
use Rattle.scope_parts.proofs.OrderLemmas.{in_left, in_right}
use Rattle.scope_parts.proofs.TellsLemmas.{Within, same_fault}

-- the refusals of a list stand among these places
abbrev Stand : List Place → List ReadingRefusal → Type 0
Stand ps refusals = Every (λ (r : ReadingRefusal). IsOneOfPlaces (refusal_place r) ps) refusals

-- the places are among the others
abbrev Among : List Place → List Place → Type 0
Among qs ps = (p : Place) → IsOneOfPlaces p qs → IsOneOfPlaces p ps

stand_both : (ps : List Place) (one other : List ReadingRefusal) → Stand ps one → Stand ps other → Stand ps (one ++ other)
stand_both ps [] other first later = later
stand_both ps (r ∷ one) other first later = (first.0, stand_both ps one other first.1 later)

stand_all : (ps : List Place) (lists : List (List ReadingRefusal)) → Every (Stand ps) lists → Stand ps (refusals_together lists)
stand_all ps [] all = tt
stand_all ps (list ∷ lists) all = stand_both ps list (refusals_together lists) all.0 (stand_all ps lists all.1)

stand_in_order : (ps : List Place) (form : Form) (here : List ReadingRefusal) (lists : List (List ReadingRefusal)) → Stand ps here
    → Every (Stand ps) lists
    → Stand ps (in_text_order form here lists)
stand_in_order ps prefix_form here lists at all = stand_both ps here (refusals_together lists) at (stand_all ps lists all)
stand_in_order ps infix_form here [] at all = stand_both ps here [] at tt
stand_in_order ps infix_form here (list ∷ lists) at all =
    stand_both ps ((list ++ []) ++ here) (refusals_together lists) (stand_both ps (list ++ []) here (stand_both ps list [] all.0 tt) at)
    (stand_all ps lists all.1)

name_stands : (ps : List Place) (signature : Signature) (scope : List Variable) (head : WrittenHead) → IsOneOfPlaces head.place ps
    → Stand ps (unknown_at signature scope head)
name_stands ps signature scope head is = by_test (is_known signature scope head)
  where
    by_test : (b : Bool) → Stand ps (if b then [] else unknown_name head.place ∷ [])
    by_test true = tt
    by_test false = (is, tt)

sorts_stand : (ps : List Place) (signature : Signature) (sorts : List PlacedName) → Among (name_places sorts) ps
    → Stand ps (unknown_sorts signature sorts)
sorts_stand ps signature [] among = tt
sorts_stand ps signature (asked ∷ rest) among =
    stand_both ps (if is_sort_name signature asked.name then [] else unknown_of asked.place ∷ []) (unknown_sorts signature rest)
    (by_test (is_sort_name signature asked.name)) (sorts_stand ps signature rest (λ p is. among p (inr is)))
  where
    by_test : (b : Bool) → Stand ps (if b then [] else unknown_of asked.place ∷ [])
    by_test true = tt
    by_test false = (among asked.place (inl refl), tt)

mutual
  term_stands : (ps : List Place) (signature : Signature) (scope : List Variable) (w : WrittenTerm) → Among (term_places w) ps
      → Stand ps (unknown_in signature scope w)
  term_stands ps signature scope (written head arguments) among =
      stand_both ps (in_text_order head.form (unknown_at signature scope head) (unknown_in_each signature scope arguments))
      (unknown_sorts signature head.sorts)
      (stand_in_order ps head.form (unknown_at signature scope head) (unknown_in_each signature scope arguments)
      (name_stands ps signature scope head (among head.place (inl refl)))
      (terms_stand ps signature scope arguments
      (λ p is. among p (inr (in_left p (terms_places arguments) (name_places head.sorts) is)))))
      (sorts_stand ps signature head.sorts (λ p is. among p (inr (in_right p (terms_places arguments) (name_places head.sorts) is))))

  terms_stand : (ps : List Place) (signature : Signature) (scope : List Variable) (ws : WrittenTerms) → Among (terms_places ws) ps
      → Every (Stand ps) (unknown_in_each signature scope ws)
  terms_stand ps signature scope no_written among = tt
  terms_stand ps signature scope (written_then w ws) among = (
    term_stands ps signature scope w (λ p is. among p (in_left p (term_places w) (terms_places ws) is)),
    terms_stand ps signature scope ws (λ p is. among p (in_right p (term_places w) (terms_places ws) is)),
  )

head_among : (w : WrittenTerm) → IsOneOfPlaces (written_head w).place (term_places w)
head_among (written head arguments) = inl refl

refusal_stands : {A : Type 0} (ps : List Place) (unknown : List ReadingRefusal) (place : Place) (P : A → Type 0) (r : ReadingRefusal)
    → Stand ps unknown
    → IsOneOfPlaces place ps → ComesTo unknown place P (refused r) → IsOneOfPlaces (refusal_place r) ps
refusal_stands ps (q ∷ rest) place P r all at is = subst (λ (x : ReadingRefusal). IsOneOfPlaces (refusal_place x) ps) (sym is) all.0
refusal_stands ps [] place P r all at (inl is) = subst (λ (x : ReadingRefusal). IsOneOfPlaces (refusal_place x) ps) (sym is.1) at
refusal_stands ps [] place P r all at (inr is) = subst (λ (x : ReadingRefusal). IsOneOfPlaces (refusal_place x) ps) (sym is.1) at

only_refusals : {A : Type 0} (ps : List Place) (C : ReadingOutcome A → Type 0)
    → ((r : ReadingRefusal) → C (refused r) → IsOneOfPlaces (refusal_place r) ps)
    → Within (λ f. AsResolution C (faulty f)) ps
only_refusals ps C so (unknown_gate place name) h = absurd h
only_refusals ps C so (unknown_process place name) h = absurd h
only_refusals ps C so (unknown_sort place name) h = absurd h
only_refusals ps C so (double_name place name) h = absurd h
only_refusals ps C so (gate_count place wanted given) h = absurd h
only_refusals ps C so (value_count place wanted given) h = absurd h
only_refusals ps C so (no_bool place) h = absurd h
only_refusals ps C so (refused_term r) h = so r h

pub term_within : (signature : Signature) (scope : List Variable) (w : WrittenTerm) (expected : Option ℕ)
    → Within (λ f. TermIs signature scope w expected (faulty f)) (term_places w)
term_within signature scope w expected =
    only_refusals (term_places w) (ReadingIs signature scope w expected)
    (λ r is. refusal_stands (term_places w) (unknown_in signature scope w) (written_head w).place _ r
    (term_stands (term_places w) signature scope w (λ p here. here)) (head_among w) is)

pair_within : (signature : Signature) (scope : List Variable) (left right : WrittenTerm)
    → Within (λ f. AsResolution (PairReadingIs signature scope left right) (faulty f)) (term_places left ++ term_places right)
pair_within signature scope left right =
    only_refusals (term_places left ++ term_places right) (PairReadingIs signature scope left right)
    (λ r is. refusal_stands (term_places left ++ term_places right) (unknown_in signature scope left ++ unknown_in signature scope right)
    (written_head left).place _ r
    (stand_both (term_places left ++ term_places right) (unknown_in signature scope left) (unknown_in signature scope right)
    (term_stands (term_places left ++ term_places right) signature scope left
    (λ p here. in_left p (term_places left) (term_places right) here))
    (term_stands (term_places left ++ term_places right) signature scope right
    (λ p here. in_right p (term_places left) (term_places right) here)))
    (in_left (written_head left).place (term_places left) (term_places right) (head_among left)) is)

premiss_within : (signature : Signature) (scope : List Variable) (p : WrittenPremiss) (right : Option WrittenTerm)
    → Within (λ f. PremissIs signature scope p right (faulty f)) (p.place ∷ (term_places p.left ++ right_places right))
premiss_within signature scope p None f h = by_truth (truth_in signature) h
  where
    by_truth : (truth : Option Truth) → TrueTermIs signature scope p truth (faulty f)
        → IsOneOfPlaces (fault_place f) (p.place ∷ (term_places p.left ++ []))
    by_truth None h = inl (ap fault_place (same_fault f (no_bool p.place) h))
    by_truth (Some truth) h =
        inr (in_left (fault_place f) (term_places p.left) [] (term_within signature scope p.left (Some truth.sort) f h))
premiss_within signature scope p (Some right) f h = inr (pair_within signature scope p.left right f h)

pub test_within : (signature : Signature) (scope : List Variable) (p : WrittenPremiss)
    → Within (λ f. TestIs signature scope p (faulty f)) (premiss_places p)
test_within signature scope p = premiss_within signature scope p p.right

pub test_option_within : (signature : Signature) (scope : List Variable) (p : Option WrittenPremiss)
    → Within (λ f. TestOptionIs signature scope p (faulty f)) (test_places p)
test_option_within signature scope None f h = absurd (let no : ⊥ = cc in no)
test_option_within signature scope (Some p) f h = test_within signature scope p f h
