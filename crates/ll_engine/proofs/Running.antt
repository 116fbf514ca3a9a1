-- The run over the rows of a derivation gives the values of its trees.
use Rattle.std.proofs.Common.{◌≡◌, ◌∙◌, ℕ, Bool, true, false, not, List, [], ◌∷◌, ◌++◌, length, map, reverse, take, refl, ap, sym, subst, append_assoc}
use Rattle.std.specs.Prelude.{Option, Some, None, option_and_then, slice_get}
use Rattle.std.specs.List.{list_all}
use Rattle.std.proofs.lemmas.Bool.{and_parts, and_from, not-true}
use Rattle.std.proofs.lemmas.List.{append-nil, reverse-append, length-map, length-reverse}
use Rattle.std.proofs.lemmas.List.Elements.{filter-append}
use Rattle.lotos_base.proofs.Tests.{list_all-at}
use Rattle.ll_engine.specs.declared.symbol.Symbol.{Symbol}
use Rattle.ll_engine.specs.declared.symbol.Symbol.TheVariants.{Token, Part}
use Rattle.ll_engine.specs.Derivation.{Production, Forest, empty, leaf, node, DerivesSymbols, leaves, leftmost}
use Rattle.ll_engine.specs.Fold.{is_dropped, kept_in_front, begins_kept, first_if, tree_begins_kept, in_front, folded_trees, first_value, value_of_tree}
use Rattle.ll_engine.specs.Run.{count_parts, Work, work, rest_if, step_of, run, kept_tokens, from_last}
use Rattle.ll_engine.proofs.Folding.{append_parts, Halves, halves, no_tokens, kept_one, kept_none, and_then_same, and_then_twice, length_folded, run-append, with_values, step-values, in_front-work}

module _ {T A : Type 0} (value_of : ℕ → Option T → List A → Option A) (keeps : ℕ → Bool) (kind : T → ℕ) (rows : List Production) where
  abbrev kept : List T → List T
  kept own = kept_tokens kind keeps own

  abbrev values_in : Forest → List T → Option (List A)
  values_in = folded_trees value_of keeps

  abbrev runs : List ℕ → Work T A → Option (Work T A)
  runs = run value_of keeps rows

  -- the run over the rows of trees whose symbols are no kept tokens
  abbrev Runs : Forest → List T → Type 0
  Runs trees own =
      (below : List A) (ahead : List T) →
      runs (reverse (leftmost trees)) (work below (reverse (kept own) ++ ahead)) ≡ option_and_then
      (λ values. Some (with_values value_of keeps below ahead values)) (values_in trees own)

  -- a row behind the rows of its parts
  abbrev RunsRow : ℕ → Production → Forest → List T → Type 0
  RunsRow number row trees own =
      (below : List A) (ahead : List T) →
      runs (reverse (leftmost trees) ++ number ∷ []) (work below (reverse (kept own) ++ ahead))
      ≡ option_and_then (λ value. Some (work (value ∷ below) ahead)) (option_and_then
      (value_of number (first_if (tree_begins_kept keeps trees) own)) (values_in trees own))

  row_behind : (number : ℕ) (row : Production) (trees inner : Forest) (own mine front : List T) (symbols : List Symbol)
      → slice_get rows number ≡ Some row →
      leftmost trees ≡ leftmost inner → DerivesSymbols rows inner symbols → count_parts row.right ≡ count_parts symbols
      → values_in trees own ≡ values_in inner mine →
      begins_kept keeps row.right ≡ tree_begins_kept keeps trees → kept own ≡ front ++ kept mine →
      ((ahead : List T) → first_if (begins_kept keeps row.right) (reverse front ++ ahead) ≡ first_if (tree_begins_kept keeps trees) own) →
      ((ahead : List T) → rest_if (begins_kept keeps row.right) (reverse front ++ ahead) ≡ ahead) → Runs inner mine
      → RunsRow number row trees own
  row_behind number row trees inner own mine front symbols is same_rows d same_count same_values same_test kept_is first_is rest_is
      inner_runs below ahead =
      let before = work below (reverse (kept own) ++ ahead) in
      let ahead_is : reverse (kept own) ++ ahead ≡ reverse (kept mine) ++ (reverse front ++ ahead) =
      ap (λ (l : List T). reverse l ++ ahead) kept_is ∙ ap (λ (l : List T). l ++ ahead) (reverse-append front (kept mine))
      ∙ append_assoc (reverse (kept mine)) (reverse front) ahead in
      run-append value_of keeps rows (reverse (leftmost trees)) (number ∷ []) before
      ∙ ap (option_and_then (runs (number ∷ [])))
      (ap (λ (l : List ℕ). runs (reverse l) before) same_rows ∙ ap (λ (l : List T). runs (reverse (leftmost inner)) (work below l))
      ahead_is ∙ inner_runs below (reverse front ++ ahead))
      ∙ and_then_twice (runs (number ∷ [])) (λ values. Some (with_values value_of keeps below (reverse front ++ ahead) values))
      (values_in inner mine)
      ∙ and_then_same (λ values. runs (number ∷ []) (with_values value_of keeps below (reverse front ++ ahead) values))
      (λ values. option_and_then (λ value. Some (work (value ∷ below) ahead))
      (value_of number (first_if (tree_begins_kept keeps trees) own) values)) (values_in inner mine)
      (λ values values_are. last_row values (length_folded value_of keeps rows inner symbols mine values d values_are ∙ sym same_count))
      ∙ sym (and_then_twice (λ value. Some (work (value ∷ below) ahead)) (value_of number (first_if (tree_begins_kept keeps trees) own))
      (values_in inner mine))
      ∙ ap (λ (o : Option (List A)). option_and_then (λ value. Some (work (value ∷ below) ahead))
      (option_and_then (value_of number (first_if (tree_begins_kept keeps trees) own)) o)) (sym same_values)
    where
      one_more : (o : Option (Work T A)) → option_and_then (runs []) o ≡ o
      one_more None = refl
      one_more (Some after) = refl

      last_row : (values : List A) → length values ≡ count_parts row.right →
          runs (number ∷ []) (with_values value_of keeps below (reverse front ++ ahead) values)
          ≡ option_and_then (λ value. Some (work (value ∷ below) ahead))
          (value_of number (first_if (tree_begins_kept keeps trees) own) values)
      last_row values len =
          one_more (step_of value_of keeps number (slice_get rows number)
          (with_values value_of keeps below (reverse front ++ ahead) values))
          ∙ ap (λ (o : Option Production). step_of value_of keeps number o
          (with_values value_of keeps below (reverse front ++ ahead) values)) is
          ∙ step-values value_of keeps number row.right below values (reverse front ++ ahead) len
          ∙ ap (λ (rest : List T). option_and_then (λ value. Some (work (value ∷ below) rest))
          (value_of number (first_if (begins_kept keeps row.right) (reverse front ++ ahead)) values)) (rest_is ahead)
          ∙ ap (λ (token : Option T). option_and_then (λ value. Some (work (value ∷ below) ahead)) (value_of number token values))
          (first_is ahead)

  -- a row whose first token is not kept, or that has none
  row_dropped : (number : ℕ) (row : Production) (trees : Forest) (own : List T) → slice_get rows number ≡ Some row
      → DerivesSymbols rows trees row.right →
      begins_kept keeps row.right ≡ false → tree_begins_kept keeps trees ≡ false → Runs trees own → RunsRow number row trees own
  row_dropped number row trees own is d right_test tree_test trees_run =
      row_behind number row trees trees own own [] row.right is refl d refl refl (right_test ∙ sym tree_test) refl
      (λ ahead. ap (λ (test : Bool). first_if test ahead) right_test ∙ sym (ap (λ (test : Bool). first_if test own) tree_test))
      (λ ahead. ap (λ (test : Bool). rest_if test ahead) right_test) trees_run

  -- a row whose first token is kept
  row_kept : (number : ℕ) (row : Production) (t : ℕ) (inner : Forest) (token : T) (mine : List T) (symbols : List Symbol)
      → slice_get rows number ≡ Some row →
      row.right ≡ Token t ∷ symbols → DerivesSymbols rows inner symbols → keeps t ≡ true → kind token ≡ t → Runs inner mine
      → RunsRow number row (leaf t inner) (token ∷ mine)
  row_kept number row t inner token mine symbols is right d kept_t kind_is inner_runs =
      let right_test : begins_kept keeps row.right ≡ true = ap (begins_kept keeps) right ∙ kept_t in
      row_behind number row (leaf t inner) inner (token ∷ mine) mine (token ∷ []) symbols is refl d (ap count_parts right) refl
      (right_test ∙ sym kept_t)
      (kept_one kind keeps token mine (ap keeps kind_is ∙ kept_t))
      (λ ahead. ap (λ (test : Bool). first_if test (token ∷ ahead)) right_test
      ∙ sym (ap (λ (test : Bool). first_if test (token ∷ mine)) kept_t))
      (λ ahead. ap (λ (test : Bool). rest_if test (token ∷ ahead)) right_test) inner_runs

  -- a tree and the trees behind it
  node_runs : (number : ℕ) (row : Production) (below rest : Forest) (own : List T) (h : Halves kind own (leaves below) (leaves rest))
      → RunsRow number row below h.front → Runs rest h.back →
      Runs (node number below rest) own
  node_runs number row below rest own h row_runs rest_runs under ahead =
      let before = work under (reverse (kept own) ++ ahead) in
      let V = option_and_then (value_of number (first_if (tree_begins_kept keeps below) h.front)) (values_in below h.front) in
      let order : reverse (leftmost (node number below rest)) ≡ reverse (leftmost rest) ++ (reverse (leftmost below) ++ number ∷ []) =
      reverse-append (number ∷ leftmost below) (leftmost rest) ∙ ap (λ (l : List ℕ). reverse (leftmost rest) ++ l)
      (reverse-append (number ∷ []) (leftmost below)) in
      let ahead_is : reverse (kept own) ++ ahead ≡ reverse (kept h.back) ++ (reverse (kept h.front) ++ ahead) =
      ap (λ (l : List T). reverse (kept l) ++ ahead) h.both
      ∙ ap (λ (l : List T). reverse l ++ ahead) (filter-append (λ (token : T). keeps (kind token)) h.front h.back)
      ∙ ap (λ (l : List T). l ++ ahead) (reverse-append (kept h.front) (kept h.back))
      ∙ append_assoc (reverse (kept h.back)) (reverse (kept h.front)) ahead in
      let len : length h.front ≡ length (leaves below) = sym (length-map h.front kind) ∙ sym (ap length h.front_are) in
      let parts = append_parts h.front h.back own (length (leaves below)) len h.both in
      ap (λ (l : List ℕ). runs l before) order
      ∙ run-append value_of keeps rows (reverse (leftmost rest)) (reverse (leftmost below) ++ number ∷ []) before
      ∙ ap (option_and_then (runs (reverse (leftmost below) ++ number ∷ [])))
      (ap (λ (l : List T). runs (reverse (leftmost rest)) (work under l)) ahead_is ∙ rest_runs under (reverse (kept h.front) ++ ahead))
      ∙ and_then_twice (runs (reverse (leftmost below) ++ number ∷ []))
      (λ values. Some (with_values value_of keeps under (reverse (kept h.front) ++ ahead) values)) (values_in rest h.back)
      ∙ and_then_same (λ values. runs (reverse (leftmost below) ++ number ∷ [])
      (with_values value_of keeps under (reverse (kept h.front) ++ ahead) values))
      (λ values. option_and_then (λ value. Some (work (value ∷ (values ++ under)) ahead)) V) (values_in rest h.back)
      (λ values values_are. row_runs (values ++ under) ahead)
      ∙ in_front-work value_of keeps under ahead V (values_in rest h.back)
      ∙ ap (option_and_then (λ values. Some (with_values value_of keeps under ahead values)))
      (ap (λ (l : List T). in_front (option_and_then (value_of number (first_if (tree_begins_kept keeps below) l)) (values_in below l))
      (values_in rest h.back)) (sym parts.0)
      ∙ ap (λ (l : List T). in_front (option_and_then (value_of number
      (first_if (tree_begins_kept keeps below) (take (length (leaves below)) own)))
      (values_in below (take (length (leaves below)) own))) (values_in rest l)) (sym parts.1))

  module _ (all_in_front : list_all (λ row. kept_in_front keeps row.right) rows ≡ true) where
    in_front_at : (number : ℕ) (row : Production) → slice_get rows number ≡ Some row → kept_in_front keeps row.right ≡ true
    in_front_at number row is = list_all-at (λ (r : Production). kept_in_front keeps r.right) rows number row all_in_front is

    abbrev AllDropped : List Symbol → Type 0
    AllDropped symbols = list_all (is_dropped keeps) symbols ≡ true

    -- what is shown of the trees of a right side, whose first symbol may be kept
    row_of_leaf : (number : ℕ) (row : Production) (t : ℕ) (inner : Forest) (own : List T) → slice_get rows number ≡ Some row
        → DerivesSymbols rows (leaf t inner) row.right →
        t ∷ leaves inner ≡ map kind own → ((symbols : List Symbol) (mine : List T) → DerivesSymbols rows inner symbols
        → leaves inner ≡ map kind mine → AllDropped symbols → Runs inner mine) →
        ((symbols : List Symbol) → DerivesSymbols rows (leaf t inner) symbols → AllDropped symbols → Runs (leaf t inner) own)
        → RunsRow number row (leaf t inner) own
    row_of_leaf number row t inner own is d e inner_runs whole_runs = by_right row.right refl own e whole_runs (keeps t) refl
      where
        by_right : (right : List Symbol) → row.right ≡ right → (tokens : List T) → t ∷ leaves inner ≡ map kind tokens →
            ((symbols : List Symbol) → DerivesSymbols rows (leaf t inner) symbols → AllDropped symbols → Runs (leaf t inner) tokens) →
            (test : Bool) → keeps t ≡ test → RunsRow number row (leaf t inner) tokens
        by_right [] right tokens e2 whole test kept_t = absurd (subst (DerivesSymbols rows (leaf t inner)) right d)
        by_right (Part p ∷ symbols) right tokens e2 whole test kept_t = absurd (subst (DerivesSymbols rows (leaf t inner)) right d)
        by_right (Token u ∷ symbols) right [] e2 whole test kept_t = absurd (cc)
        by_right (Token u ∷ symbols) right (token ∷ mine) e2 whole true kept_t =
            let derived = subst (DerivesSymbols rows (leaf t inner)) right d in
            let dropped : AllDropped symbols = ap (kept_in_front keeps) (sym right) ∙ in_front_at number row is in
            let first : t ≡ kind token = cc in
            let others : leaves inner ≡ map kind mine = cc in
            row_kept number row t inner token mine symbols is (right ∙ ap (λ (k : ℕ). Token k ∷ symbols) (sym derived.0)) derived.1
            kept_t (sym first) (inner_runs symbols mine derived.1 others dropped)
        by_right (Token u ∷ symbols) right (token ∷ mine) e2 whole false kept_t =
            let derived = subst (DerivesSymbols rows (leaf t inner)) right d in
            let dropped : AllDropped symbols = ap (kept_in_front keeps) (sym right) ∙ in_front_at number row is in
            let not_kept : keeps u ≡ false = ap keeps (sym derived.0) ∙ kept_t in
            let all : AllDropped (Token u ∷ symbols) = and_from (not (keeps u)) (list_all (is_dropped keeps) symbols)
            (ap not not_kept) dropped in
            row_dropped number row (leaf t inner) (token ∷ mine) is d (ap (begins_kept keeps) right ∙ not_kept) kept_t
            (whole (Token u ∷ symbols) derived all)

    row_of_node : (number : ℕ) (row : Production) (r : ℕ) (below rest : Forest) (own : List T) → slice_get rows number ≡ Some row
        → DerivesSymbols rows (node r below rest) row.right →
        ((symbols : List Symbol) → DerivesSymbols rows (node r below rest) symbols → AllDropped symbols → Runs (node r below rest) own)
        → RunsRow number row (node r below rest) own
    row_of_node number row r below rest own is d whole_runs = by_right row.right refl
      where
        by_right : (right : List Symbol) → row.right ≡ right → RunsRow number row (node r below rest) own
        by_right [] right = absurd (subst (DerivesSymbols rows (node r below rest)) right d)
        by_right (Token u ∷ symbols) right = absurd (subst (DerivesSymbols rows (node r below rest)) right d)
        by_right (Part p ∷ symbols) right =
            let dropped : AllDropped symbols = ap (kept_in_front keeps) (sym right) ∙ in_front_at number row is in
            row_dropped number row (node r below rest) own is d (ap (begins_kept keeps) right) refl
            (whole_runs (Part p ∷ symbols) (subst (DerivesSymbols rows (node r below rest)) right d) dropped)

    row_of_none : (number : ℕ) (row : Production) (own : List T) → slice_get rows number ≡ Some row → DerivesSymbols rows empty row.right
        → Runs empty own → RunsRow number row empty own
    row_of_none number row own is d none_runs = by_right row.right refl
      where
        by_right : (right : List Symbol) → row.right ≡ right → RunsRow number row empty own
        by_right [] right = row_dropped number row empty own is d (ap (begins_kept keeps) right) refl none_runs
        by_right (symbol ∷ symbols) right = absurd (subst (DerivesSymbols rows empty) right d)

    leaf_runs : (t u : ℕ) (rest : Forest) (symbols : List Symbol) (own : List T) → t ≡ u → AllDropped (Token u ∷ symbols)
        → t ∷ leaves rest ≡ map kind own →
        ((mine : List T) → leaves rest ≡ map kind mine → AllDropped symbols → Runs rest mine) → Runs (leaf t rest) own
    leaf_runs t u rest symbols [] same dropped e rest_runs = absurd (cc)
    leaf_runs t u rest symbols (token ∷ mine) same dropped e rest_runs = λ below ahead.
        let parts = and_parts (not (keeps u)) (list_all (is_dropped keeps) symbols) dropped in
        let first : t ≡ kind token = cc in
        let others : leaves rest ≡ map kind mine = cc in
        let not_kept : keeps (kind token) ≡ false = ap keeps (sym first ∙ same) ∙ not-true (keeps u) parts.0 in
        ap (λ (l : List T). runs (reverse (leftmost rest)) (work below (reverse l ++ ahead))) (kept_none kind keeps token mine not_kept)
        ∙ rest_runs mine others parts.1 below ahead

    pub trees_run : (trees : Forest) (symbols : List Symbol) (own : List T) → DerivesSymbols rows trees symbols
        → leaves trees ≡ map kind own
        → AllDropped symbols → Runs trees own
    trees_run empty [] own d e dropped = λ below ahead. ap (λ (l : List T). runs [] (work below (reverse (kept l) ++ ahead)))
        (no_tokens kind own e)
    trees_run empty (symbol ∷ symbols) own d e dropped = absurd d
    trees_run (leaf t rest) [] own d e dropped = absurd d
    trees_run (leaf t rest) (Token u ∷ symbols) own d e dropped = leaf_runs t u rest symbols own d.0 dropped e
        (λ mine others all. trees_run rest symbols mine d.1 others all)
    trees_run (leaf t rest) (Part p ∷ symbols) own d e dropped = absurd d
    trees_run (node r below rest) [] own d e dropped = absurd d
    trees_run (node r below rest) (Token u ∷ symbols) own d e dropped = absurd d
    trees_run (node r empty rest) (Part p ∷ symbols) own d e dropped =
        let h = halves kind own [] (leaves rest) e in
        node_runs r d.0 empty rest own h (row_of_none r d.0 h.front d.1 d.3 (trees_run empty [] h.front tt h.front_are refl))
        (trees_run rest symbols h.back d.4 h.back_are dropped)
    trees_run (node r (leaf t inner) rest) (Part p ∷ symbols) own d e dropped =
        let h = halves kind own (t ∷ leaves inner) (leaves rest) e in
        node_runs r d.0 (leaf t inner) rest own h
        (row_of_leaf r d.0 t inner h.front d.1 d.3 h.front_are (λ others mine derived are all. trees_run inner others mine derived are all)
        (λ others derived all. trees_run (leaf t inner) others h.front derived h.front_are all))
        (trees_run rest symbols h.back d.4 h.back_are dropped)
    trees_run (node r (node q under after) rest) (Part p ∷ symbols) own d e dropped =
        let h = halves kind own (leaves under ++ leaves after) (leaves rest) e in
        node_runs r d.0 (node q under after) rest own h
        (row_of_node r d.0 q under after h.front d.1 d.3 (λ others derived all. trees_run
        (node q under after) others h.front derived h.front_are all))
        (trees_run rest symbols h.back d.4 h.back_are dropped)

    -- the run over the rows of a whole derivation gives the values of its tree
    pub tree_runs : (tree : Forest) (p : ℕ) (own : List T) → DerivesSymbols rows tree (Part p ∷ []) → leaves tree ≡ map kind own →
        option_and_then (λ after. first_value after.values) (runs (reverse (leftmost tree)) (work [] (reverse (kept own))))
        ≡ value_of_tree value_of keeps tree own
    tree_runs tree p own d e =
        ap (λ (l : List T). option_and_then (λ after. first_value after.values) (runs (reverse (leftmost tree)) (work [] l)))
        (sym (append-nil (reverse (kept own))))
        ∙ ap (option_and_then (λ after. first_value after.values)) (trees_run tree (Part p ∷ []) own d e refl [] [])
        ∙ and_then_twice (λ after. first_value after.values) (λ values. Some (with_values value_of keeps [] [] values)) (values_in tree own)
        ∙ and_then_same (λ values. first_value (values ++ [])) first_value (values_in tree own)
        (λ values are. ap first_value (append-nil values))

pub length-from_last : {A B : Type 0} (f : A → B) (list : List A) → length (from_last f list) ≡ length list
unfolding from_last
length-from_last f list = length-reverse (map f list) ∙ length-map list f
