-- The proofs of the laws.
use Rattle.std.proofs.Common.{◌≡◌, ℕ, ◌≤◌, true, List, [], ◌∷◌, ◌++◌, refl, ap, sym, ◌∙◌, subst, arith, append_assoc}
use Rattle.std.specs.Prelude.{Some, slice_get, nat_lt}
use Rattle.std.specs.List.{list_all}
use Rattle.std.proofs.lemmas.Bool.{and_parts, and_from, ltb-true, lt-ltb}
use Rattle.std.proofs.lemmas.List.{append-nil}
use Rattle.ll_engine.specs.declared.symbol.Symbol.{Symbol}
use Rattle.ll_engine.specs.declared.symbol.Symbol.TheVariants.{Token, Part}
use Rattle.ll_engine.specs.Derivation.{Production, Forest, empty, leaf, node, DerivesSymbols, leaves, leftmost}
use Rattle.ll_engine.specs.Language.{ContextFree}
use Rattle.ll_engine.specs.Prediction.{MayFollow, ends, IsPredictive, IsPredictedBy}
use Rattle.ll_engine.specs.View.{is_in_range, is_well_formed}
use Rattle.ll_engine.specs.Walk.{next_token}
use Rattle.ll_engine.specs.Laws.{DerivesLeftmost, done, token, replace, TreesAreLeftmost, LeftmostHasTrees, OneTree, OneDerivation, OneRow, OneUnexpected}
use Rattle.ll_engine.proofs.Forests.{leftmost-beside, Splits-from_append, leaves-Splits}
use Rattle.ll_engine.proofs.Ranges.{RowsInRange-well_formed, left-below, right-InRange, InRange, AreTokens, AreTokens-leaves, start-below, list_all-join}
use Rattle.ll_engine.proofs.Walks.{IsPredictedBy-node, MayFollow-row, one_row, IsUnexpectedAt-same}

-- trees in front of a leftmost derivation
leftmost_before : (rows : List Production) (f : Forest) (a b : List Symbol) (numbers list : List ℕ) → DerivesSymbols rows f a
    → DerivesLeftmost rows b numbers list →
    DerivesLeftmost rows (a ++ b) (leftmost f ++ numbers) (leaves f ++ list)
leftmost_before rows empty [] b numbers list d after = after
leftmost_before rows empty (x ∷ a) b numbers list d after = absurd d
leftmost_before rows (leaf t rest) [] b numbers list d after = absurd d
leftmost_before rows (leaf t rest) (Token u ∷ a) b numbers list d after =
    subst (λ (x : ℕ). DerivesLeftmost rows (Token x ∷ (a ++ b)) (leftmost rest ++ numbers) (t ∷ (leaves rest ++ list))) d.0
    (token (leftmost_before rows rest a b numbers list d.1 after))
leftmost_before rows (leaf t rest) (Part p ∷ a) b numbers list d after = absurd d
leftmost_before rows (node r below rest) [] b numbers list d after = absurd d
leftmost_before rows (node r below rest) (Token u ∷ a) b numbers list d after = absurd d
leftmost_before rows (node r below rest) (Part p ∷ a) b numbers list d after =
    let behind = leftmost_before rows rest a b numbers list d.4 after in
    let lower = leftmost_before rows below d.0.right (a ++ b) (leftmost rest ++ numbers) (leaves rest ++ list) d.3 behind in
    replace d.0 d.1 d.2
    (subst (λ (ns : List ℕ). DerivesLeftmost rows (d.0.right ++ (a ++ b)) ns ((leaves below ++ leaves rest) ++ list))
    (sym (append_assoc (leftmost below) (leftmost rest) numbers))
    (subst (DerivesLeftmost rows (d.0.right ++ (a ++ b)) (leftmost below ++ (leftmost rest ++ numbers)))
    (sym (append_assoc (leaves below) (leaves rest) list)) lower))

pub trees_are_leftmost : TreesAreLeftmost
trees_are_leftmost = λ rows trees symbols d.
    let all = leftmost_before rows trees symbols [] [] [] d done in
    subst (λ (s : List Symbol). DerivesLeftmost rows s (leftmost trees) (leaves trees)) (append-nil symbols)
    (subst (λ (ns : List ℕ). DerivesLeftmost rows (symbols ++ []) ns (leaves trees)) (append-nil (leftmost trees))
    (subst (DerivesLeftmost rows (symbols ++ []) (leftmost trees ++ [])) (append-nil (leaves trees)) all))

trees_from_leftmost : (rows : List Production) {symbols : List Symbol} {numbers list : List ℕ} → DerivesLeftmost rows symbols numbers list →
    (trees : Forest) × DerivesSymbols rows trees symbols × (leftmost trees ≡ numbers) × (leaves trees ≡ list)
trees_from_leftmost rows done = (empty, tt, refl, refl)
trees_from_leftmost rows (token {t = t} rest) =
    let f = trees_from_leftmost rows rest in
    (leaf t f.0, (refl, f.1), f.2, ap (λ (xs : List ℕ). t ∷ xs) f.3)
trees_from_leftmost rows (replace {r = r} {symbols = symbols} row is left rest) =
    let f = trees_from_leftmost rows rest in
    let s = Splits-from_append rows f.0 row.right symbols f.1 in (
      node r s.left s.right,
      (row, is, left, s.left_derives, s.right_derives),
      ap (λ (xs : List ℕ). r ∷ xs) (sym (ap leftmost s.both ∙ leftmost-beside s.left s.right) ∙ f.2),
      sym (leaves-Splits s) ∙ f.3,
    )

pub leftmost_has_trees : LeftmostHasTrees
leftmost_has_trees = λ rows symbols numbers list d. trees_from_leftmost rows d

-- the next token of a list of tokens is a token or the end
next_token-le : (g : ContextFree) (list : List ℕ) → AreTokens g.tokens list → next_token g list ≤ g.tokens
next_token-le g [] all = omega arith
next_token-le g (t ∷ list) all =
    let lt = ltb-true t g.tokens (and_parts (nat_lt t g.tokens) (list_all (λ (x : ℕ). nat_lt x g.tokens) list) all).0 in
    omega arith

module _ (g : ContextFree) (well_formed : is_well_formed g ≡ true) (predictive : IsPredictive g) where
  -- what may follow each of the symbols, in front of a list
  abbrev FollowedBy : List Symbol → List ℕ → Type 0
  FollowedBy [] after = Unit {0}
  FollowedBy (Token t ∷ symbols) after = FollowedBy symbols after
  FollowedBy (Part p ∷ symbols) after =
      ((trees : Forest) → DerivesSymbols g.rows trees symbols → MayFollow g p (next_token g (leaves trees ++ after)))
      × FollowedBy symbols after

  FollowedBy-right : (r : ℕ) (row : Production) → slice_get g.rows r ≡ Some row → (after : List ℕ)
      → MayFollow g row.left (next_token g after) →
      (front right : List Symbol) → row.right ≡ front ++ right → FollowedBy right after
  FollowedBy-right r row is after follow front [] e = tt
  FollowedBy-right r row is after follow front (Token t ∷ right) e =
      FollowedBy-right r row is after follow (front ++ Token t ∷ []) right (e ∙ sym (append_assoc front (Token t ∷ []) right))
  FollowedBy-right r row is after follow front (Part q ∷ right) e = (
    λ trees d. MayFollow-row g r row is front right q e trees d after follow,
    FollowedBy-right r row is after follow (front ++ Part q ∷ []) right (e ∙ sym (append_assoc front (Part q ∷ []) right)),
  )

  -- trees of the same symbols and with the same leaves, each in front of a list, are the same, and so are the lists
  same_trees : (f : Forest) (symbols : List Symbol) (other : Forest) (v w : List ℕ) → DerivesSymbols g.rows f symbols
      → DerivesSymbols g.rows other symbols → InRange g.parts g.tokens symbols →
      AreTokens g.tokens v → leaves f ++ v ≡ leaves other ++ w → FollowedBy symbols v → FollowedBy symbols w → (f ≡ other) × (v ≡ w)
  same_trees empty [] empty v w d o in_range tokens e follow follow_other = (refl, e)
  same_trees empty [] (leaf x rest) v w d o in_range tokens e follow follow_other = absurd o
  same_trees empty [] (node x y rest) v w d o in_range tokens e follow follow_other = absurd o
  same_trees empty (s ∷ symbols) other v w d o in_range tokens e follow follow_other = absurd d
  same_trees (leaf t rest) [] other v w d o in_range tokens e follow follow_other = absurd d
  same_trees (leaf t rest) (Part p ∷ symbols) other v w d o in_range tokens e follow follow_other = absurd d
  same_trees (leaf t rest) (Token u ∷ symbols) empty v w d o in_range tokens e follow follow_other = absurd o
  same_trees (leaf t rest) (Token u ∷ symbols) (node x y z) v w d o in_range tokens e follow follow_other = absurd o
  same_trees (leaf t rest) (Token u ∷ symbols) (leaf x after) v w d o in_range tokens e follow follow_other =
      let own = and_parts (nat_lt u g.tokens) (list_all (is_in_range g.parts g.tokens) symbols) in_range in
      let head : t ≡ x = cc in
      let tail : leaves rest ++ v ≡ leaves after ++ w = cc in
      let rests = same_trees rest symbols after v w d.1 o.1 own.1 tokens tail follow follow_other in
      let trees : rest ≡ after = rests.0 in
      (cc, rests.1)
  same_trees (node r below rest) [] other v w d o in_range tokens e follow follow_other = absurd d
  same_trees (node r below rest) (Token u ∷ symbols) other v w d o in_range tokens e follow follow_other = absurd d
  same_trees (node r below rest) (Part p ∷ symbols) empty v w d o in_range tokens e follow follow_other = absurd o
  same_trees (node r below rest) (Part p ∷ symbols) (leaf x after) v w d o in_range tokens e follow follow_other = absurd o
  same_trees (node r below rest) (Part p ∷ symbols) (node i under after) v w d o in_range tokens e follow follow_other =
      let ranges = RowsInRange-well_formed g well_formed in
      let own = and_parts (nat_lt p g.parts) (list_all (is_in_range g.parts g.tokens) symbols) in_range in
      let split : leaves below ++ (leaves rest ++ v) ≡ leaves under ++ (leaves after ++ w) =
      sym (append_assoc (leaves below) (leaves rest) v) ∙ e ∙ append_assoc (leaves under) (leaves after) w in
      let next_predicts = IsPredictedBy-node g r d.0 p below (leaves rest ++ v) d.1 d.2 d.3 (follow.0 rest d.4) in
      let other_predicts = subst (λ (list : List ℕ). IsPredictedBy g o.0 (next_token g list)) (sym split)
      (IsPredictedBy-node g i o.0 p under (leaves after ++ w) o.1 o.2 o.3 (follow_other.0 after o.4)) in
      let rest_tokens = list_all-join (λ (x : ℕ). nat_lt x g.tokens) (leaves rest) v (AreTokens-leaves ranges rest symbols d.4 own.1)
      tokens in
      let all_tokens = list_all-join (λ (x : ℕ). nat_lt x g.tokens) (leaves below) (leaves rest ++ v)
      (AreTokens-leaves ranges below d.0.right d.3 (right-InRange ranges r d.0 d.1)) rest_tokens in
      let number : r ≡ i = one_row g predictive p (next_token g (leaves below ++ (leaves rest ++ v))) r i d.0 o.0 (ltb-true p g.parts own.0)
      (next_token-le g (leaves below ++ (leaves rest ++ v)) all_tokens) d.1 o.1 d.2 o.2 next_predicts other_predicts in
      let row : o.0 ≡ d.0 = let a : slice_get g.rows i ≡ Some d.0 = ap (slice_get g.rows) (sym number) ∙ d.1 in let b = o.1 in cc in
      let lower = same_trees below d.0.right under (leaves rest ++ v) (leaves after ++ w) d.3
      (subst (λ (x : Production). DerivesSymbols g.rows under x.right) row o.3)
      (right-InRange ranges r d.0 d.1) rest_tokens split
      (FollowedBy-right r d.0 d.1 (leaves rest ++ v) (subst (λ (q : ℕ). MayFollow g q (next_token g (leaves rest ++ v))) (sym d.2)
      (follow.0 rest d.4)) [] d.0.right refl)
      (FollowedBy-right r d.0 d.1 (leaves after ++ w) (subst (λ (q : ℕ). MayFollow g q (next_token g (leaves after ++ w))) (sym d.2)
      (follow_other.0 after o.4)) [] d.0.right refl) in
      let rests = same_trees rest symbols after v w d.4 o.4 own.1 tokens lower.1 follow.1 follow_other.1 in
      let trees : below ≡ under = lower.0 in
      let afters : rest ≡ after = rests.0 in
      (cc, rests.1)

  -- behind the start part comes the end
  follow_start : FollowedBy (Part g.start ∷ []) []
  follow_start = (λ trees d. subst (λ (list : List ℕ). MayFollow g g.start (next_token g list)) (sym (nothing trees d)) ends, tt)
    where
      nothing : (trees : Forest) → DerivesSymbols g.rows trees [] → leaves trees ++ [] ≡ []
      nothing empty d = refl
      nothing (leaf t rest) d = absurd d
      nothing (node r below rest) d = absurd d

  one_tree_of : (tree other : Forest) → DerivesSymbols g.rows tree (Part g.start ∷ []) → DerivesSymbols g.rows other (Part g.start ∷ [])
      → leaves tree ≡ leaves other → tree ≡ other
  one_tree_of tree other d o e =
      (same_trees tree (Part g.start ∷ []) other [] [] d o
      (and_from (nat_lt g.start g.parts) true (lt-ltb g.start g.parts (start-below g well_formed)) refl) refl
      (ap (λ (xs : List ℕ). xs ++ []) e) follow_start follow_start).0

pub one_tree : OneTree
one_tree = λ g well_formed predictive tree other d o e. one_tree_of g well_formed predictive tree other d o e

pub one_derivation : OneDerivation
one_derivation = λ g well_formed predictive rows others list a b.
    let same = one_tree_of g well_formed predictive a.0 b.0 a.1 b.1 (a.2 ∙ sym b.2) in
    sym a.3 ∙ ap leftmost same ∙ b.3

pub one_row_of : OneRow
one_row_of = λ g well_formed predictive token i j row other le is_row is_other same row_predicted other_predicted.
    one_row g predictive row.left token i j row other (left-below (RowsInRange-well_formed g well_formed) i row is_row) le is_row is_other
    refl (sym same) row_predicted other_predicted

pub one_unexpected : OneUnexpected
one_unexpected = λ g list at other a b. IsUnexpectedAt-same g list at other a b
