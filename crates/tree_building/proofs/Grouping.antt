-- Operands and signs that are grouped to the left.
use Rattle.std.proofs.Common.{◌≡◌, ◌∙◌, List, [], ◌∷◌, ◌++◌, map, refl, ap, sym, subst, append_assoc}
use Rattle.std.specs.Prelude.{fold}
use Rattle.std.proofs.lemmas.List.{append-nil, map-append}
use Rattle.lotos_base.specs.WrittenTerm.{PlacedName, WrittenTerm, written}
use Rattle.syntax_trees.specs.LeftGrouping.{IsGroupedLeft, only, at_last, grouped_left}
use Rattle.lotos_rows.specs.Terms.{of_sort}
use Rattle.tree_building.specs.TermsMeaning.{with_written_sorts}

pub with_no_sorts : (term : WrittenTerm) → with_written_sorts [] term ≡ term
with_no_sorts (written head arguments) =
    ap (λ sorts. written (record { place = head.place; name = head.name; form = head.form; sorts = sorts }) arguments)
    (append-nil head.sorts)

pub with_one_sort : (sort : PlacedName) (term : WrittenTerm) → of_sort sort term ≡ with_written_sorts (sort ∷ []) term
with_one_sort sort (written head arguments) = refl

-- the operands so far are grouped, and further ones follow
grouped_on : {A S : Type 0} (join : S → A → A → A) (operands : List A) (signs : List S) (left : A) (more : List (S × A)) →
    IsGroupedLeft join operands signs left →
    IsGroupedLeft join (operands ++ map (λ next. next.1) more) (signs ++ map (λ next. next.0) more)
    (fold (λ so_far next. join next.0 so_far next.1) left more)
grouped_on {A} {S} join operands signs left [] it =
    subst (λ (l : List S). IsGroupedLeft join (operands ++ []) l left) (sym (append-nil signs))
    (subst (λ (l : List A). IsGroupedLeft join l signs left) (sym (append-nil operands)) it)
grouped_on {A} {S} join operands signs left (next ∷ more) it =
    let inner = grouped_on join (operands ++ next.1 ∷ []) (signs ++ next.0 ∷ []) (join next.0 left next.1) more (at_last it) in
    let whole = fold (λ so_far other. join other.0 so_far other.1) (join next.0 left next.1) more in
    subst (λ (l : List S). IsGroupedLeft join (operands ++ next.1 ∷ map (λ other. other.1) more) l whole)
    (append_assoc signs (next.0 ∷ []) (map (λ other. other.0) more))
    (subst (λ (l : List A). IsGroupedLeft join l ((signs ++ next.0 ∷ []) ++ map (λ other. other.0) more) whole)
    (append_assoc operands (next.1 ∷ []) (map (λ other. other.1) more)) inner)

pub grouped_is : {A S : Type 0} (join : S → A → A → A) (first : A) (more : List (S × A)) →
    IsGroupedLeft join (first ∷ map (λ next. next.1) more) (map (λ next. next.0) more) (grouped_left join first more)
grouped_is join first more = grouped_on join (first ∷ []) [] first more only

-- what is grouped is the tree of its first operand and those behind it
fold-one_more : {A S : Type 0} (join : S → A → A → A) (first : A) (more : List (S × A)) (next : S × A) →
    grouped_left join first (more ++ next ∷ []) ≡ join next.0 (grouped_left join first more) next.1
fold-one_more join first [] next = refl
fold-one_more join first (other ∷ more) next = fold-one_more join (join other.0 first other.1) more next

record Gathered {A S : Type 0} (join : S → A → A → A) (operands : List A) (signs : List S) (tree : A) : Type 0 where
  first : A
  more : List (S × A)
  operands_are : operands ≡ first ∷ map (λ next. next.1) more
  signs_are : signs ≡ map (λ next. next.0) more
  tree_is : tree ≡ grouped_left join first more

gathered : {A S : Type 0} (join : S → A → A → A) {operands : List A} {signs : List S} {tree : A} →
    IsGroupedLeft join operands signs tree → Gathered join operands signs tree
gathered join (only {operand = operand}) = record { first = operand; more = []; operands_are = refl; signs_are = refl; tree_is = refl }
gathered join (at_last {operands = operands} {signs = signs} {left = left} {last = last} {sign = sign} it) =
    let inner = gathered join it in
    record {
      first = inner.first;
      more = inner.more ++ (sign, last) ∷ [];
      operands_are =
          ap (λ l. l ++ last ∷ []) inner.operands_are ∙ ap (λ l. inner.first ∷ l)
          (sym (map-append (λ next. next.1) inner.more ((sign, last) ∷ [])));
      signs_are = ap (λ l. l ++ sign ∷ []) inner.signs_are ∙ sym (map-append (λ next. next.0) inner.more ((sign, last) ∷ []));
      tree_is = ap (λ t. join sign t last) inner.tree_is ∙ sym (fold-one_more join inner.first inner.more (sign, last));
    }

pairs_same : {A S : Type 0} (some other : List (S × A)) → map (λ next. next.1) some ≡ map (λ next. next.1) other →
    map (λ next. next.0) some ≡ map (λ next. next.0) other → some ≡ other
pairs_same [] [] values signs = refl
pairs_same [] (next ∷ other) values signs = absurd (cc)
pairs_same (next ∷ some) [] values signs = absurd (cc)
pairs_same (next ∷ some) (mate ∷ other) values signs =
    let value : next.1 ≡ mate.1 = cc in
    let sign : next.0 ≡ mate.0 = cc in
    let more_values : map (λ pair. pair.1) some ≡ map (λ pair. pair.1) other = cc in
    let more_signs : map (λ pair. pair.0) some ≡ map (λ pair. pair.0) other = cc in
    let head : next ≡ mate = ap (λ s. (s, next.1)) sign ∙ ap (λ v. (mate.0, v)) value in
    ap (λ pair. pair ∷ some) head ∙ ap (λ l. mate ∷ l) (pairs_same some other more_values more_signs)

pub grouped_one : {A S : Type 0} (join : S → A → A → A) (first : A) (more : List (S × A)) (tree : A) →
    IsGroupedLeft join (first ∷ map (λ next. next.1) more) (map (λ next. next.0) more) tree → tree ≡ grouped_left join first more
grouped_one join first more tree it =
    let found = gathered join it in
    let begin : found.first ≡ first = cc in
    let values : map (λ next. next.1) found.more ≡ map (λ next. next.1) more = cc in
    found.tree_is ∙ ap (λ a. grouped_left join a found.more) begin ∙ ap (grouped_left join first)
    (pairs_same found.more more values (sym found.signs_are))
