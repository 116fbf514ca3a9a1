-- What a book knows of its data.
use Rattle.std.proofs.Common.{◌≡◌, ℕ, zero, suc, List, [], ◌∷◌, map, ap, sym, ◌∙◌, subst}
use Rattle.std.specs.Prelude.{◌↔◌, Some, None, slice_get}
use Rattle.std.proofs.lemmas.Option.{same_Some}
use Rattle.std.proofs.Math.Logic.{∥∥₁_elim}
use Rattle.lotos_base.specs.Signature.{Signature}
use Rattle.lotos_base.specs.Term.{Term}
use Rattle.lotos_base.specs.Sorting.{HasSort, IsGround}
use Rattle.lotos_base.specs.Equality.{Equal}
use Rattle.lotos_base.proofs.TestLemmas.{Term-set}
use Rattle.rewriting_theory.specs.Rule.{Rule as PlainRule}
use Rattle.term_store.specs.StoreCanon.{store_canon, store_chooses}
use Rattle.lotos_base.specs.Equation.{Data}
use Rattle.rewriting_theory.specs.ChosenForm.{Chosen}
use Rattle.rewriting_theory.proofs.ChosenLemmas.{chosen_one}
use Rattle.rewriting_theory.proofs.ChosenCanonLemmas.{chosen_decide}
use Rattle.sort_terms.specs.EquationView.{IsSortedFlat, data_of, equation_of}
use Rattle.sort_terms.specs.ProfiledTerm.{ProfiledTerm, IsOf, head_sort}
use Rattle.sort_terms.specs.SignatureView.{signature_of}
use Rattle.sort_terms.specs.SortedView.{profiled_in, term_in}
use Rattle.sort_terms.specs.declared.sorted.Sorted.{Sorted}
use Rattle.sort_terms.specs.declared.equations.Equation.{Equation}
use Rattle.sort_terms.specs.declared.equations.Flat.{Flat}
use Rattle.sort_terms.proofs.ProfiledTermLemmas.{fitting_has_sort, sorted_fits}
use Rattle.path_order.specs.RuleSides.{IsOf-prop}
use Rattle.path_order.specs.RulesView.{rules_in, plain_rules_in, precedence_in, signature_in}
use Rattle.path_order.proofs.RulesLemmas.{rules_have_forms, rules_well_formed}
use Rattle.critical_pairs.specs.declared.joined.Joined.{Joined}
use Rattle.critical_pairs.specs.JoinedFacts.{joined_confluent}
use Rattle.lotos_base.specs.WrittenTerm.{ListedOperation}
use Rattle.equation_book.specs.Refusal.{IsOpenedBy}
use Rattle.equation_book.specs.BookCanon.{book_canon}
use Rattle.equation_book.specs.BookCanonFacts.{book_chooses, book_oriented}
use Rattle.equation_book.specs.SortedSides.{AreSortedSides}
use Rattle.equation_book.specs.SortedSidesFacts.{sorted_sides}
use Rattle.equation_book.specs.declared.book.Book.{Book}

-- a term of the data is of the signature of the rules, and the other way round
pub of_rules : (book : Book) (t : ProfiledTerm) → IsOf (signature_of book.flat.signature) t → IsOf (signature_in book.joined.rules) t
of_rules book t h =
    ∥∥₁_elim book.over (IsOf-prop (signature_in book.joined.rules) t)
    (λ same. subst (λ (s : Signature). IsOf s t) (sym same) h)

pub of_data : (book : Book) (t : ProfiledTerm) → IsOf (signature_in book.joined.rules) t → IsOf (signature_of book.flat.signature) t
of_data book t h =
    ∥∥₁_elim book.over (IsOf-prop (signature_of book.flat.signature) t)
    (λ same. subst (λ (s : Signature). IsOf s t) same h)

-- a chosen form is the canon
pub chosen_is_canon : (book : Book) (t u : Term) → Chosen (plain_rules_in book.joined.rules) t u → u ≡ book_canon book t
chosen_is_canon book t u is = chosen_one (rules_well_formed book.joined.rules) is (book_chooses book t)

-- a term of the data is of the signature of the store, and the other way round
pub of_store : (book : Book) (t : ProfiledTerm) → IsOf (signature_of book.flat.signature) t → IsOf (signature_in book.store.rules) t
of_store book t h =
    ∥∥₁_elim book.stored_over (IsOf-prop (signature_in book.store.rules) t)
    (λ same. subst (λ (s : Signature). IsOf s t) (sym same) (of_rules book t h))

pub from_store : (book : Book) (t : ProfiledTerm) → IsOf (signature_in book.store.rules) t → IsOf (signature_of book.flat.signature) t
from_store book t h =
    of_data book t
    (∥∥₁_elim book.stored_over (IsOf-prop (signature_in book.joined.rules) t) (λ same. subst (λ (s : Signature). IsOf s t) same h))

-- the canon of the store is that of the book
pub store_is_book : (book : Book) (t : Term) → store_canon book.store t ≡ book_canon book t
store_is_book book t =
    ∥∥₁_elim book.stored (Term-set (store_canon book.store t) (book_canon book t))
    (λ same.
    chosen_is_canon book t (store_canon book.store t)
    (subst (λ (rules : List PlainRule). Chosen rules t (store_canon book.store t)) same (store_chooses book.store t)))

-- books of the same rules have one canon, and are opened by the same items
pub canon_stays : (one other : Book) → one.joined ≡ other.joined → book_canon one ≡ book_canon other
canon_stays one other same =
    let canon : Joined → Term → Term = (λ joined t. (rules_have_forms joined.rules t).0) in
    ap canon same

pub opened_stays : (items : List ListedOperation) (data_ : Data) (one other : Book) → one.joined ≡ other.joined
    → IsOpenedBy items data_ (precedence_in other.joined.rules) (rules_in other.joined.rules)
    → IsOpenedBy items data_ (precedence_in one.joined.rules) (rules_in one.joined.rules)
opened_stays items data_ one other same opened =
    subst (λ (joined : Joined). IsOpenedBy items data_ (precedence_in joined.rules) (rules_in joined.rules)) (sym same) opened

-- ground terms are equal exactly where their chosen forms are identical
pub forms_decide : (book : Book) (left right : Sorted) (c d : Term) → IsOf (signature_of book.flat.signature) (profiled_in left)
    → IsOf (signature_of book.flat.signature) (profiled_in right) → IsGround (term_in left) → IsGround (term_in right)
    → left.sort ≡ right.sort → Chosen (plain_rules_in book.joined.rules) (term_in left) c
    → Chosen (plain_rules_in book.joined.rules) (term_in right) d
    → Equal (data_of book.flat) (term_in left) (term_in right) ↔ (c ≡ d)
forms_decide book left right c d one two ground also sorts first second =
    chosen_decide (precedence_in book.joined.rules) (data_of book.flat) (rules_in book.joined.rules) (term_in left) (term_in right) c d
    (head_sort (profiled_in left)) (sorted_sides book.flat book.sides) (book_oriented book) (joined_confluent book.joined)
    (record {
      ground = ground;
      sorted = fitting_has_sort (signature_of book.flat.signature) (profiled_in left) one left.fits;
    })
    (record {
      ground = also;
      sorted = subst (λ (s : ℕ). HasSort (signature_of book.flat.signature) (term_in right) s)
          (right.headed ∙ sym sorts ∙ sym left.headed)
          (fitting_has_sort (signature_of book.flat.signature) (profiled_in right) two right.fits);
    })
    first second

-- ---- Sorted data

equation_listed : (xs : List Equation) (k : ℕ) (x : Equation) → slice_get xs k ≡ Some x
    → slice_get (map equation_of xs) k ≡ Some (equation_of x)
equation_listed [] k x is = let none : None ≡ Some x = is in cc
equation_listed (y ∷ xs) zero x is = ap (λ (z : Equation). Some (equation_of z)) (same_Some y x is)
equation_listed (y ∷ xs) (suc k) x is = equation_listed xs k x is

-- data as calls are given them have sorted sides
pub flat_sorted : (flat : Flat) → IsSortedFlat flat → AreSortedSides flat
flat_sorted flat sorted k equation is =
    let sides = sorted.sides k equation is in
    let one = sorted.data_.sides (equation_of equation) (k, equation_listed flat.equations.items k equation is) in
    record {
      left_is_of = sides.0;
      right_is_of = sides.1;
      one_sort =
          (sorted_fits (signature_of flat.signature) (profiled_in equation.left) one.sort sides.0 one.left).1
          ∙ sym (sorted_fits (signature_of flat.signature) (profiled_in equation.right) one.sort sides.1 one.right).1;
    }
