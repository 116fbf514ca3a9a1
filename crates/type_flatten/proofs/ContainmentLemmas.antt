-- A presentation joined with another one: the first stays, the second lies in the union.
use Rattle.std.proofs.Common.{◌≡◌, ℕ, true, List, ◌⊎◌, map, ap, sym, ◌∙◌}
use Rattle.std.specs.Prelude.{Option, Some, slice_get, ◌||◌, nat_eq}
use Rattle.std.specs.Option.{option_map}
use Rattle.std.proofs.lemmas.Bool.{eqb-true, or_cases, or_left, or_right}
use Rattle.std.proofs.lemmas.Option.{slice_get-map}
use Rattle.lotos_base.proofs.Members.{at_map}
use Rattle.lotos_base.specs.Equation.{Equation}
use Rattle.type_definitions.proofs.NumberLists.{among_at, at_among}
use Rattle.type_definitions.specs.Images.{operation_image, equation_image}
use Rattle.type_definitions.specs.Presentation.{Presentation, is_marked_number, with_new, is_same_equation, first_position}
use Rattle.type_definitions.specs.Union.{joined_presentation, joined_sort, joined_operation, joined_equations}
use Rattle.type_definitions.proofs.WithNewLemmas.{first_appearances, unions}
use Rattle.type_presentations.proofs.OnceLemmas.{any_once}
use Rattle.type_flatten.specs.Containment.{StaysIn, LiesIn}
use Rattle.type_flatten.specs.UnionBounds.{coming_equations}

-- ---- Marks.

marked_together : (old coming : List ℕ) (n : ℕ) → is_marked_number (with_new nat_eq old coming) n
    ≡ (is_marked_number old n || is_marked_number coming n)
marked_together old coming n = any_once nat_eq (λ x y h. eqb-true x y h) n old coming

marks_stay : (old coming : List ℕ) (n : ℕ) → is_marked_number old n ≡ true → is_marked_number (with_new nat_eq old coming) n ≡ true
marks_stay old coming n h = marked_together old coming n ∙ or_left (is_marked_number old n) (is_marked_number coming n) h

marked_image : (f : ℕ → ℕ) (marks : List ℕ) (n : ℕ) → is_marked_number marks n ≡ true → is_marked_number (map f marks) (f n) ≡ true
marked_image f marks n h =
    let at = at_among marks n h in
    among_at (map f marks) at.0 (f n)
    (slice_get-map f marks at.0 ∙ ap (λ (o : Option ℕ). option_map f o) at.1)

marks_come : (f : ℕ → ℕ) (old marks : List ℕ) (n : ℕ) → is_marked_number marks n ≡ true
    → is_marked_number (with_new nat_eq old (map f marks)) (f n) ≡ true
marks_come f old marks n h =
    marked_together old (map f marks) (f n)
    ∙ or_right (is_marked_number old (f n)) (is_marked_number (map f marks) (f n)) (marked_image f marks n h)

pub no_other_marks : (old coming : List ℕ) (n : ℕ) → is_marked_number (with_new nat_eq old coming) n ≡ true
    → (is_marked_number old n ≡ true) ⊎ (is_marked_number coming n ≡ true)
no_other_marks old coming n h = or_cases (is_marked_number old n) (is_marked_number coming n) (sym (marked_together old coming n) ∙ h)

-- ---- Staying.

pub stays_itself : (p : Presentation) → StaysIn p p
stays_itself p = record {
  sorts = λ i s found. found;
  operations = λ i o found. found;
  equations = λ i e found. found;
  formal_sorts = λ n h. h;
  formal_operations = λ n h. h;
}

pub stays_further : (p q r : Presentation) → StaysIn p q → StaysIn q r → StaysIn p r
stays_further p q r first next = record {
  sorts = λ i s found. next.sorts i s (first.sorts i s found);
  operations = λ i o found. next.operations i o (first.operations i o found);
  equations = λ i e found. next.equations i e (first.equations i e found);
  formal_sorts = λ n h. next.formal_sorts n (first.formal_sorts n h);
  formal_operations = λ n h. next.formal_operations n (first.formal_operations n h);
}

pub first_stays : (p q : Presentation) → StaysIn p (joined_presentation p q)
first_stays p q = record {
  sorts = λ i s found. unions.sorts_stay p q i s found;
  operations = λ i o found. unions.operations_stay p q i o found;
  equations = λ i e found. first_appearances.equations.stays p.equations (coming_equations p q) i e found;
  formal_sorts = λ n h. marks_stay p.formal_sorts (map (joined_sort p q) q.formal_sorts) n h;
  formal_operations = λ n h. marks_stay p.formal_operations (map (joined_operation p q) q.formal_operations) n h;
}

-- ---- Lying in.

pub second_lies : (p q : Presentation) → LiesIn (joined_sort p q) (joined_operation p q) q (joined_presentation p q)
second_lies p q = record {
  sorts = λ i s found. unions.sorts_come p q i s found;
  operations = λ i o found.
      unions.operations_come p q i (operation_image (joined_sort p q) o)
      (at_map (operation_image (joined_sort p q)) q.signature.operations i o found);
  equations = λ i e found.
      let image : Equation → Equation = equation_image (joined_sort p q) (joined_operation p q) in
      let at = first_appearances.equations.comes p.equations (coming_equations p q) (image e) (i, at_map image q.equations i e found) in
      (at.0, first_position (is_same_equation (image e)) (joined_equations p q), at.1, at.2);
  formal_sorts = λ n h. marks_come (joined_sort p q) p.formal_sorts q.formal_sorts n h;
  formal_operations = λ n h. marks_come (joined_operation p q) p.formal_operations q.formal_operations n h;
}

pub lies_further : (f g : ℕ → ℕ) (q p r : Presentation) → LiesIn f g q p → StaysIn p r → LiesIn f g q r
lies_further f g q p r lies stays = record {
  sorts = λ i s found.
      let at = lies.sorts i s found in
      let there : slice_get r.signature.sorts (f i) ≡ Some at.0 = stays.sorts (f i) at.0 at.1 in (at.0, there, at.2);
  operations = λ i o found.
      let at = lies.operations i o found in
      let there : slice_get r.signature.operations (g i) ≡ Some at.0 = stays.operations (g i) at.0 at.1 in (at.0, there, at.2);
  equations = λ i e found.
      let at = lies.equations i e found in
      let there : slice_get r.equations at.1 ≡ Some at.0 = stays.equations at.1 at.0 at.2 in (at.0, at.1, there, at.3);
  formal_sorts = λ n h. stays.formal_sorts (f n) (lies.formal_sorts n h);
  formal_operations = λ n h. stays.formal_operations (g n) (lies.formal_operations n h);
}
