-- The steps of the parser keep what the stack promises, and where no step is left the answer is right.
use Rattle.std.proofs.Common.{◌≡◌, ◌≢◌, ℕ, zero, suc, ◌+◌, ◌<◌, ◌≤◌, true, List, [], ◌∷◌, ◌++◌, length, get_or, take, drop, reverse, refl, ap, sym, ◌∙◌, subst, arith, inl, inr, append_assoc}
use Rattle.std.specs.Prelude.{All, Some, slice_get, slice_index_or, nat_lt}
use Rattle.std.specs.List.{list_all}
use Rattle.std.specs.Option.{unwrap_or}
use Rattle.std.proofs.lemmas.Bool.{and_parts, and_from, cases_eq, cases_lt, cases_order, lt-ltb, ltb-true}
use Rattle.std.proofs.lemmas.Option.{unwrap_or-slice_get, slice_get-get_or, slice_get_within, get_or_from_slice_get, none-some}
use Rattle.std.proofs.lemmas.List.{append-nil, take_more, take_all, take-take, get_or_past, nil_from_length, reverse-append, take-append-drop}
use Rattle.ll_engine.specs.declared.symbol.Symbol.{Symbol}
use Rattle.ll_engine.specs.declared.symbol.Symbol.TheVariants.{Token, Part}
use Rattle.ll_engine.specs.Derivation.{Production, Forest, empty, leaf, node, DerivesSymbols, leaves, leftmost}
use Rattle.ll_engine.specs.Language.{ContextFree, IsLeftmostDerivation, IsViable, IsUnexpectedAt}
use Rattle.ll_engine.specs.Prediction.{MayFollow, ends, before, behind, IsPredictedBy, IsPredictive}
use Rattle.ll_engine.specs.View.{is_in_range, is_well_formed}
use Rattle.ll_engine.specs.Walk.{next_token, AreFollowed, IsReachedByRows}
use Rattle.ll_engine.proofs.Forests.{beside, leaves-beside, leftmost-beside, Derives-beside, Splits-from_append, leaves-Splits}
use Rattle.ll_engine.proofs.Ranges.{RowsInRange-well_formed, right-InRange, start-below, list_all-join, trees_of}

-- the token that comes first, or the end, predicts the row that derives it
pub IsPredictedBy-node : (g : ContextFree) (r : ℕ) (row : Production) (p : ℕ) (below : Forest) (after : List ℕ)
    → slice_get g.rows r ≡ Some row → row.left ≡ p → DerivesSymbols g.rows below row.right →
    MayFollow g p (next_token g after) → IsPredictedBy g row (next_token g (leaves below ++ after))
IsPredictedBy-node g r row p below after is left d follow = by_leaves (leaves below) refl
  where
    by_leaves : (list : List ℕ) → leaves below ≡ list → IsPredictedBy g row (next_token g (leaves below ++ after))
    by_leaves [] e =
        rw e (inr ((below, d, e), subst (λ (q : ℕ). MayFollow g q (next_token g after)) (sym left) follow))
    by_leaves (t ∷ list) e = rw e (inl (below, list, d, e))

-- what follows the parts of a row's right side, in front of a list that may follow the row's part
module _ (g : ContextFree) (r : ℕ) (row : Production) (is : slice_get g.rows r ≡ Some row) where
  pub MayFollow-row : (front back : List Symbol) (q : ℕ) → row.right ≡ front ++ Part q ∷ back → (trees : Forest)
      → DerivesSymbols g.rows trees back → (after : List ℕ) →
      MayFollow g row.left (next_token g after) → MayFollow g q (next_token g (leaves trees ++ after))
  MayFollow-row front back q e trees d after follow = by_leaves (leaves trees) refl
    where
      by_leaves : (list : List ℕ) → leaves trees ≡ list → MayFollow g q (next_token g (leaves trees ++ after))
      by_leaves [] nothing = rw nothing (behind r row front back q (next_token g after) is e (trees, d, nothing) follow)
      by_leaves (t ∷ list) begin = rw begin (before r row front back q t is e (trees, list, d, begin))

  AreFollowed-right : (symbols : List Symbol) → ((trees : Forest) → DerivesSymbols g.rows trees symbols
      → MayFollow g row.left (next_token g (leaves trees))) → AreFollowed g symbols →
      (front right : List Symbol) → row.right ≡ front ++ right → AreFollowed g (right ++ symbols)
  AreFollowed-right symbols follow followed front [] e = followed
  AreFollowed-right symbols follow followed front (Token t ∷ right) e =
      AreFollowed-right symbols follow followed (front ++ Token t ∷ []) right (e ∙ sym (append_assoc front (Token t ∷ []) right))
  AreFollowed-right symbols follow followed front (Part q ∷ right) e = (
    λ trees d.
        let s = Splits-from_append g.rows trees right symbols d in
        subst (λ (list : List ℕ). MayFollow g q (next_token g list)) (sym (leaves-Splits s))
        (MayFollow-row front right q e s.left s.left_derives (leaves s.right) (follow s.right s.right_derives)),
    AreFollowed-right symbols follow followed (front ++ Part q ∷ []) right (e ∙ sym (append_assoc front (Part q ∷ []) right)),
  )

-- one token predicts one row of a part
pub one_row : (g : ContextFree) → IsPredictive g → (part token i j : ℕ) (row other : Production) → part < g.parts → token ≤ g.tokens
    → slice_get g.rows i ≡ Some row → slice_get g.rows j ≡ Some other →
    row.left ≡ part → other.left ≡ part → IsPredictedBy g row token → IsPredictedBy g other token → i ≡ j
one_row g predictive part token i j row other below le is_row is_other row_left other_left row_predicted other_predicted =
    elim (cases_eq i j) [
      | inl same ↦ same
      | inr apart ↦ absurd (predictive.no_conflict (
        part,
        below,
        (
          token,
          record {
            in_range = le;
            first = i;
            second = j;
            first_row = row;
            second_row = other;
            apart = apart;
            is_first = is_row;
            is_second = is_other;
            first_left = row_left;
            second_left = other_left;
            first_predicted = row_predicted;
            second_predicted = other_predicted;
          },
        ),
      ))
    ]

-- the trees of no symbols
leaves-none : (rows : List Production) (trees : Forest) → DerivesSymbols rows trees [] → trees ≡ empty
leaves-none rows empty d = refl
leaves-none rows (leaf t rest) d = absurd d
leaves-none rows (node r below rest) d = absurd d

-- the first element of a list's rest
slice_get-drop : (list : List ℕ) (at : ℕ) → slice_get (drop at list) 0 ≡ slice_get list at
slice_get-drop list zero = refl
slice_get-drop [] (suc at) = refl
slice_get-drop (x ∷ list) (suc at) = slice_get-drop list at

-- the first token of a list
pub next_token-same : (g : ContextFree) (xs ys : List ℕ) (i : ℕ) → slice_get xs 0 ≡ slice_get ys i
    → next_token g xs ≡ slice_index_or ys i g.tokens
next_token-same g xs ys i e =
    sym (unwrap_or-slice_get xs 0 g.tokens) ∙ ap (λ o. unwrap_or o g.tokens) e ∙ unwrap_or-slice_get ys i g.tokens

module _ (g : ContextFree) (well_formed : is_well_formed g ≡ true) (list : List ℕ) where
  pub IsReached-start : IsReachedByRows g list 0 [] (Part g.start ∷ [])
  IsReached-start = record {
    in_range = omega arith;
    symbols_in_range = and_from (nat_lt g.start g.parts) true (lt-ltb g.start g.parts (start-below g well_formed)) refl;
    followed = (
      λ trees d. subst (λ (f : Forest). MayFollow g g.start (next_token g (leaves f))) (sym (leaves-none g.rows trees d)) ends,
      tt,
    );
    sound = λ trees d. (trees, d, refl, refl);
    complete = λ tree rest d e same. (tree, d, e);
  }

  pub IsReached-token : (at : ℕ) (rows : List ℕ) (t : ℕ) (stack : List Symbol) → slice_get list at ≡ Some t
      → IsReachedByRows g list at rows (Token t ∷ stack) →
      IsReachedByRows g list (at + 1) rows stack
  IsReached-token at rows t stack is reached = record {
    in_range = let lt = slice_get_within list at t is in omega arith;
    symbols_in_range = (and_parts (nat_lt t g.tokens) (list_all (is_in_range g.parts g.tokens) stack) reached.symbols_in_range).1;
    followed = reached.followed;
    sound = λ trees d.
        let s = reached.sound (leaf t trees) (refl, d) in
        (s.0, s.1, s.2 ∙ sym (front (leaves trees)), s.3);
    complete = λ tree rest d e same.
        let f = reached.complete tree (t ∷ rest) d (e ∙ front rest) (sym is) in
        by_tree f.0 rest f.1 f.2;
  }
    where
      front : (rest : List ℕ) → take (at + 1) list ++ rest ≡ take at list ++ (t ∷ rest)
      front rest =
          let lt = slice_get_within list at t is in
          let more = take_more list at t lt in
          let here : get_or list at t ≡ t = get_or_from_slice_get list at t t is in
          ap (λ (xs : List ℕ). xs ++ rest) (more ∙ ap (λ (x : ℕ). take at list ++ x ∷ []) here) ∙ append_assoc (take at list) (t ∷ []) rest

      by_tree : (f : Forest) (rest : List ℕ) → DerivesSymbols g.rows f (Token t ∷ stack) → leaves f ≡ t ∷ rest → (trees : Forest)
          × DerivesSymbols g.rows trees stack × (leaves trees ≡ rest)
      by_tree empty rest d e = absurd d
      by_tree (leaf x trees) rest d e = (trees, d.1, cc)
      by_tree (node r below trees) rest d e = absurd d

  -- a token on top of the stack that is the next one of the list
  is_next : (at : ℕ) (rows : List ℕ) (t : ℕ) (stack : List Symbol) → slice_index_or list at g.tokens ≡ t
      → IsReachedByRows g list at rows (Token t ∷ stack) → slice_get list at ≡ Some t
  is_next at rows t stack e reached =
      let below = ltb-true t g.tokens (and_parts (nat_lt t g.tokens) (list_all (is_in_range g.parts g.tokens) stack)
      reached.symbols_in_range).0 in
      elim (cases_lt at (length list)) [
        | inl lt ↦ slice_get-get_or list at g.tokens lt ∙ ap Some e
        | inr ge ↦ let past = get_or_past list at g.tokens ge in absurd (omega arith)
      ]

  pub IsReached-next : (at : ℕ) (rows : List ℕ) (t : ℕ) (stack : List Symbol) → slice_index_or list at g.tokens ≡ t
      → IsReachedByRows g list at rows (Token t ∷ stack) → IsReachedByRows g list (at + 1) rows stack
  IsReached-next at rows t stack e reached = IsReached-token at rows t stack (is_next at rows t stack e reached) reached

  pub place-below : (at : ℕ) (rows : List ℕ) (t : ℕ) (stack : List Symbol) → slice_index_or list at g.tokens ≡ t
      → IsReachedByRows g list at rows (Token t ∷ stack) → at < length list
  place-below at rows t stack e reached = slice_get_within list at t (is_next at rows t stack e reached)

  pub part-below : (at : ℕ) (rows : List ℕ) (p : ℕ) (stack : List Symbol) → IsReachedByRows g list at rows (Part p ∷ stack) → p < g.parts
  part-below at rows p stack reached = ltb-true p g.parts
      (and_parts (nat_lt p g.parts) (list_all (is_in_range g.parts g.tokens) stack) reached.symbols_in_range).0

  pub next-le : All (λ t. t < g.tokens) list → (at : ℕ) → slice_index_or list at g.tokens ≤ g.tokens
  next-le all at =
      elim (cases_lt at (length list)) [
        | inl lt ↦ let below = all at g.tokens lt in omega arith
        | inr ge ↦ let past = get_or_past list at g.tokens ge in omega arith
      ]

  module _ (predictive : IsPredictive g) (at : ℕ) (rows : List ℕ) where
    pub IsReached-row : (p : ℕ) (stack : List Symbol) (r : ℕ) (row : Production) → slice_get g.rows r ≡ Some row → row.left ≡ p →
        ((number : ℕ) (other : Production) → slice_get g.rows number ≡ Some other → other.left ≡ p
        → IsPredictedBy g other (slice_index_or list at g.tokens) → number ≡ r) →
        IsReachedByRows g list at rows (Part p ∷ stack) → IsReachedByRows g list at (rows ++ r ∷ []) (row.right ++ stack)
    IsReached-row p stack r row is left only reached = record {
      in_range = reached.in_range;
      symbols_in_range =
          list_all-join (is_in_range g.parts g.tokens) row.right stack (right-InRange (RowsInRange-well_formed g well_formed) r row is)
          (and_parts (nat_lt p g.parts) (list_all (is_in_range g.parts g.tokens) stack) reached.symbols_in_range).1;
      followed =
          AreFollowed-right g r row is stack (λ trees d. subst (λ (q : ℕ). MayFollow g q (next_token g (leaves trees))) (sym left)
          (reached.followed.0 trees d)) reached.followed.1 [] row.right refl;
      sound = λ trees d.
          let s = Splits-from_append g.rows trees row.right stack d in
          let t = reached.sound (node r s.left s.right) (row, is, left, s.left_derives, s.right_derives) in (
            t.0,
            t.1,
            t.2 ∙ ap (λ (xs : List ℕ). take at list ++ xs) (sym (leaves-Splits s)),
            t.3 ∙ ap (λ (xs : List ℕ). rows ++ r ∷ xs) (sym (ap leftmost s.both ∙ leftmost-beside s.left s.right))
                ∙ sym (append_assoc rows (r ∷ []) (leftmost trees)),
          );
      complete = λ tree rest d e same.
          let f = reached.complete tree rest d e same in
          by_tree f.0 rest f.1 f.2 same;
    }
      where
        by_tree : (f : Forest) (rest : List ℕ) → DerivesSymbols g.rows f (Part p ∷ stack) → leaves f ≡ rest
            → slice_get rest 0 ≡ slice_get list at →
            (trees : Forest) × DerivesSymbols g.rows trees (row.right ++ stack) × (leaves trees ≡ rest)
        by_tree empty rest d e same = absurd d
        by_tree (leaf x trees) rest d e same = absurd d
        by_tree (node i below trees) rest d e same =
            let token : next_token g (leaves below ++ leaves trees) ≡ slice_index_or list at g.tokens = ap (next_token g) e
            ∙ next_token-same g rest list at same in
            let other = subst (IsPredictedBy g d.0) token (IsPredictedBy-node g i d.0 p below (leaves trees) d.1 d.2 d.3
            (reached.followed.0 trees d.4)) in
            let number : i ≡ r = only i d.0 d.1 d.2 other in
            let row_same : d.0 ≡ row = let a : slice_get g.rows i ≡ Some row = ap (slice_get g.rows) number ∙ is in cc in (
              beside below trees,
              Derives-beside g.rows below trees row.right stack (subst (λ (x : Production). DerivesSymbols g.rows below x.right) row_same
                  d.3) d.4,
              leaves-beside below trees ∙ e,
            )

    -- where no derivation goes on with the next token, the list goes wrong there
    IsUnexpectedAt-blocked : (stack : List Symbol) → IsReachedByRows g list at rows stack
        → ((trees : Forest) → DerivesSymbols g.rows trees stack → slice_get (leaves trees) 0 ≡ slice_get list at → ⊥) →
        IsUnexpectedAt g list at
    IsUnexpectedAt-blocked stack reached blocked = record {
      in_range = reached.in_range;
      viable_before =
          let f = trees_of g.rows g.parts g.tokens predictive.productive stack reached.symbols_in_range in
          let s = reached.sound f.0 f.1 in
          (leaves f.0, (s.0, s.1, s.2));
      not_viable_with = λ lt viable.
          let more = take_more list at 0 lt in
          let e = viable.1.2 ∙ ap (λ (xs : List ℕ). xs ++ viable.0) more ∙ append_assoc (take at list) (get_or list at 0 ∷ []) viable.0 in
          let f = reached.complete viable.1.0 (get_or list at 0 ∷ viable.0) viable.1.1 e (sym (slice_get-get_or list at 0 lt)) in
          blocked f.0 f.1 (ap (λ (xs : List ℕ). slice_get xs 0) f.2 ∙ sym (slice_get-get_or list at 0 lt));
      no_sentence = λ sentence.
          let e = sentence.2 ∙ sym (take-append-drop at list) in
          let f = reached.complete sentence.0 (drop at list) sentence.1 e (slice_get-drop list at) in
          blocked f.0 f.1 (ap (λ (xs : List ℕ). slice_get xs 0) f.2 ∙ slice_get-drop list at);
    }

    pub IsUnexpectedAt-token : (t : ℕ) (stack : List Symbol) → IsReachedByRows g list at rows (Token t ∷ stack)
        → ¬ (slice_get list at ≡ Some t) → IsUnexpectedAt g list at
    IsUnexpectedAt-token t stack reached other = IsUnexpectedAt-blocked (Token t ∷ stack) reached blocked
      where
        blocked : (trees : Forest) → DerivesSymbols g.rows trees (Token t ∷ stack) → slice_get (leaves trees) 0 ≡ slice_get list at → ⊥
        blocked empty d e = d
        blocked (leaf x trees) d e = other (sym e ∙ ap Some d.0)
        blocked (node r below trees) d e = d

    pub IsUnexpectedAt-part : (p : ℕ) (stack : List Symbol) → IsReachedByRows g list at rows (Part p ∷ stack) →
        ((r : ℕ) (row : Production) → slice_get g.rows r ≡ Some row → row.left ≡ p
        → ¬ IsPredictedBy g row (slice_index_or list at g.tokens)) → IsUnexpectedAt g list at
    IsUnexpectedAt-part p stack reached none = IsUnexpectedAt-blocked (Part p ∷ stack) reached blocked
      where
        blocked : (trees : Forest) → DerivesSymbols g.rows trees (Part p ∷ stack) → slice_get (leaves trees) 0 ≡ slice_get list at → ⊥
        blocked empty d e = d
        blocked (leaf x trees) d e = d
        blocked (node r below trees) d e =
            none r d.0 d.1 d.2
            (subst (IsPredictedBy g d.0) (next_token-same g (leaves below ++ leaves trees) list at e)
            (IsPredictedBy-node g r d.0 p below (leaves trees) d.1 d.2 d.3 (reached.followed.0 trees d.4)))

    pub IsUnexpectedAt-more : IsReachedByRows g list at rows [] → at < length list → IsUnexpectedAt g list at
    IsUnexpectedAt-more reached lt = IsUnexpectedAt-blocked [] reached blocked
      where
        blocked : (trees : Forest) → DerivesSymbols g.rows trees [] → slice_get (leaves trees) 0 ≡ slice_get list at → ⊥
        blocked empty d e = none-some (get_or list at 0) (e ∙ slice_get-get_or list at 0 lt)
        blocked (leaf x trees) d e = d
        blocked (node r below trees) d e = d

    pub IsLeftmostDerivation-end : IsReachedByRows g list at rows [] → length list ≤ at → IsLeftmostDerivation g rows list
    IsLeftmostDerivation-end reached le =
        let s = reached.sound empty tt in
        (s.0, s.1, s.2 ∙ append-nil (take at list) ∙ take_all at list le, s.3 ∙ append-nil rows)

    pub IsUnexpectedAt-other : (t : ℕ) (stack : List Symbol) → IsReachedByRows g list at rows (Token t ∷ stack)
        → t ≢ slice_index_or list at g.tokens → IsUnexpectedAt g list at
    IsUnexpectedAt-other t stack reached other = IsUnexpectedAt-token t stack reached
        (λ is. other (sym (get_or_from_slice_get list at t g.tokens is)))

-- the stack with a symbol on top, and the empty stack
pub IsReached-top : (g : ContextFree) (list : List ℕ) (at : ℕ) (rows : List ℕ) (stack below : List Symbol) (symbol top : Symbol)
    → stack ≡ below ++ symbol ∷ [] → symbol ≡ top →
    IsReachedByRows g list at rows (reverse stack) → IsReachedByRows g list at rows (top ∷ reverse below)
IsReached-top g list at rows stack below symbol top e is reached =
    subst (λ (s : Symbol). IsReachedByRows g list at rows (s ∷ reverse below)) is
    (subst (IsReachedByRows g list at rows) (ap reverse e ∙ reverse-append below (symbol ∷ [])) reached)

pub IsReached-empty : (g : ContextFree) (list : List ℕ) (at : ℕ) (rows : List ℕ) (stack : List Symbol) → length stack ≡ 0
    → IsReachedByRows g list at rows (reverse stack) → IsReachedByRows g list at rows []
IsReached-empty g list at rows stack e reached = subst (IsReachedByRows g list at rows) (ap reverse (nil_from_length stack e)) reached

-- where a longer front is viable, so is a shorter one
IsViable-front : (g : ContextFree) (list : List ℕ) (m n : ℕ) → m ≤ n → IsViable g (take n list) → IsViable g (take m list)
IsViable-front g list m n le viable =
    let front = sym (take-append-drop m (take n list)) ∙ ap (λ (xs : List ℕ). xs ++ drop m (take n list)) (take-take m n list le) in (
      drop m (take n list) ++ viable.0,
      (
        viable.1.0,
        viable.1.1,
        viable.1.2 ∙ ap (λ (xs : List ℕ). xs ++ viable.0) front
            ∙ append_assoc (take m list) (drop m (take n list)) viable.0,
      ),
    )

not_before : (g : ContextFree) (list : List ℕ) (m n : ℕ) → IsUnexpectedAt g list m → IsUnexpectedAt g list n → m < n → ⊥
not_before g list m n a b lt =
    let within = b.in_range in
    a.not_viable_with (omega arith) (IsViable-front g list (m + 1) n (omega arith) b.viable_before)

-- one place is to blame
pub IsUnexpectedAt-same : (g : ContextFree) (list : List ℕ) (m n : ℕ) → IsUnexpectedAt g list m → IsUnexpectedAt g list n → m ≡ n
IsUnexpectedAt-same g list m n a b =
    elim (cases_order m n) [
      | inl same ↦ same
      | inr apart ↦ elim apart [ inl lt ↦ absurd (not_before g list m n a b lt) | inr gt ↦ absurd (not_before g list n m b a gt) ]
    ]
