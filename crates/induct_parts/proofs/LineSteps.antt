-- One line more, and one thing more: what is kept by loops over the lines of a tree or a proof, and over covers, trees and lemmas.
use Rattle.std.proofs.Common.{◌≡◌, ◌<◌, ◌≤◌, ℕ, zero, suc, ◌+◌, List, [], ◌∷◌, ◌++◌, Bool, true, false, nat_eq, length, map, take, drop, get_or, reverse, refl, ap, sym, ◌∙◌, subst, arith}
use Rattle.std.proofs.lemmas.Bool.Decides.{Decides-eqb}
use Rattle.std.proofs.lemmas.List.{map-append, reverse-append, length-reverse, take_more}
use Rattle.std.proofs.Math.ListN.{drop_of_length-le}
use Rattle.lotos_base.proofs.Pieces.{next_member}
use Rattle.lotos_base.proofs.Each.{Each, each_join}
use Rattle.certificate_theory.specs.Faults.{InductionFault, bad_line}
use Rattle.certificate_theory.specs.Lines.{DealsWith, nothing_left, LinesReach, no_line, line_first, FailsToDeal, line_missing, line_surplus, line_wrong, AreRightBehind, no_more, right_then, FirstIsWrong, wrong_here, wrong_later}
use Rattle.certificate_theory.proofs.LineLemmas.{reach_then_deal, reach_then_fail}
use Rattle.induct_parts.specs.FaultView.{HoldsOfLineFault, FromLine}
use Rattle.induct_parts.specs.declared.line_fault.LineFault.{LineFault}
use Rattle.induct_parts.specs.declared.line_fault.LineFault.TheVariants.{BadLine, NoVariable, NoCover, NoTree, NotReducible, BadUse, NotSame, NoMemory}

-- ---- faults

pub fault_more : (P Q : InductionFault → Type 0) → ((fault : InductionFault) → P fault → Q fault) → (fault : LineFault)
    → HoldsOfLineFault P fault → HoldsOfLineFault Q fault
fault_more P Q more BadLine h = more _ h
fault_more P Q more NoVariable h = more _ h
fault_more P Q more NoCover h = more _ h
fault_more P Q more (NoTree f) h = more _ h
fault_more P Q more NotReducible h = more _ h
fault_more P Q more BadUse h = more _ h
fault_more P Q more (NotSame statement) h = more _ h
fault_more P Q more NoMemory h = tt

-- ---- stacks

stack_top : {A : Type 0} (before after : List A) (x : A) → after ≡ before ++ x ∷ [] → reverse after ≡ x ∷ reverse before
stack_top before after x e = ap reverse e ∙ reverse-append before (x ∷ [])

pub pushed_alone : {A : Type 0} (empty left : List A) (x : A) → empty ≡ [] → left ≡ empty ++ x ∷ [] → reverse left ≡ x ∷ []
pushed_alone empty left x none e = stack_top empty left x e ∙ ap (λ xs. x ∷ reverse xs) none

module _ {A X L : Type 0} (ComesTo : X → L → List X → Type 0) (IsWrong : X → L → InductionFault → Type 0) (view : A → X) where
  -- the first thing that is left gives way to what the line leaves of it
  pub next_reach : (old popped new parts : List A) (x : A) (line : L) → old ≡ popped ++ x ∷ []
      → ComesTo (view x) line (map view parts) → reverse new ≡ parts ++ reverse popped
      → LinesReach ComesTo (map view (reverse old)) (line ∷ []) (map view (reverse new))
  next_reach old popped new parts x line top comes after =
      subst (λ (xs : List X). LinesReach ComesTo xs (line ∷ []) (map view (reverse new)))
      (sym (ap (map view) (stack_top popped old x top)))
      (subst (λ (ys : List X). LinesReach ComesTo (view x ∷ map view (reverse popped)) (line ∷ []) ys)
      (sym (ap (map view) after ∙ map-append view parts (reverse popped)))
      (line_first comes no_line))

  pub next_wrong : (old popped : List A) (x : A) (line : L) (fault : LineFault) → old ≡ popped ++ x ∷ []
      → HoldsOfLineFault (IsWrong (view x) line) fault → (rest : List L)
      → HoldsOfLineFault (FailsToDeal ComesTo IsWrong bad_line (map view (reverse old)) (line ∷ rest) 0) fault
  next_wrong old popped x line fault top wrong rest =
      fault_more (IsWrong (view x) line) (FailsToDeal ComesTo IsWrong bad_line (map view (reverse old)) (line ∷ rest) 0)
      (λ told h. subst (λ (xs : List X). FailsToDeal ComesTo IsWrong bad_line xs (line ∷ rest) 0 told)
      (sym (ap (map view) (stack_top popped old x top))) (line_wrong h))
      fault wrong

  pub next_surplus : (old : List A) (line : L) → old ≡ [] → (rest : List L)
      → FailsToDeal ComesTo IsWrong bad_line (map view (reverse old)) (line ∷ rest) 0 bad_line
  next_surplus old line none rest =
      subst (λ (xs : List A). FailsToDeal ComesTo IsWrong bad_line (map view (reverse xs)) (line ∷ rest) 0 bad_line) (sym none)
      (line_surplus refl)

pub top_known : {A : Type 0} (K : A → Type 0) (old popped : List A) (x : A) → old ≡ popped ++ x ∷ [] → Each K (reverse old) → K x
top_known K old popped x top known = (subst (Each K) (stack_top popped old x top) known).0

pub next_known : {A : Type 0} (K : A → Type 0) (old popped new parts : List A) (x : A) → old ≡ popped ++ x ∷ []
    → Each K (reverse old) → Each K parts → reverse new ≡ parts ++ reverse popped → Each K (reverse new)
next_known K old popped new parts x top known more after =
    subst (Each K) (sym after) (each_join K parts (reverse popped) more (subst (Each K) (stack_top popped old x top) known).1)

-- ---- lines, so far as they were looked at

-- What the lines from this index on come to is what all of them come to.
pub record DealSoFar {C X L : Type 0} (ComesTo : X → L → List X → Type 0) (IsWrong : X → L → InductionFault → Type 0)
    (view : C → L) (first : List X) (all : List C) (n : ℕ) (left : List X) : Type 0 where
  pub deals : DealsWith ComesTo left (map view (drop n all)) → DealsWith ComesTo first (map view all)
  pub fails : (k : ℕ) (fault : InductionFault) → FailsToDeal ComesTo IsWrong bad_line left (map view (drop n all)) k fault
      → FailsToDeal ComesTo IsWrong bad_line first (map view all) (n + k) fault

module _ {C X L : Type 0} (ComesTo : X → L → List X → Type 0) (IsWrong : X → L → InductionFault → Type 0) (view : C → L)
    (first : List X) (all : List C) where
  pub deal_begins : (left : List X) → left ≡ first → DealSoFar ComesTo IsWrong view first all 0 left
  deal_begins left e =
      subst (λ (xs : List X). DealSoFar ComesTo IsWrong view first all 0 xs) (sym e)
      (record {
        deals = λ d. d;
        fails = λ k fault f.
            let same : k ≡ 0 + k = omega arith in
            subst (λ (j : ℕ). FailsToDeal ComesTo IsWrong bad_line first (map view all) j fault) same f;
      })

  pub deal_goes_on : (n : ℕ) (left more : List X) (c : C) → n < length all → c ≡ get_or all n c
      → LinesReach ComesTo left (view c ∷ []) more → DealSoFar ComesTo IsWrong view first all n left
      → DealSoFar ComesTo IsWrong view first all (n + 1) more
  deal_goes_on n left more c within is reach so_far = record {
    deals = λ d. so_far.deals (subst (λ (cs : List C). DealsWith ComesTo left (map view cs)) (sym (next_member all n c within is))
        (reach_then_deal (map view (drop (n + 1) all)) reach d));
    fails = λ k fault f.
        let e : n + (1 + k) ≡ (n + 1) + k = omega arith in
        subst (λ (j : ℕ). FailsToDeal ComesTo IsWrong bad_line first (map view all) j fault) e
        (so_far.fails (1 + k) fault
        (subst (λ (cs : List C). FailsToDeal ComesTo IsWrong bad_line left (map view cs) (1 + k) fault)
        (sym (next_member all n c within is))
        (reach_then_fail (map view (drop (n + 1) all)) k fault reach f)));
  }

  pub deal_ends : (n : ℕ) (left : List X) → length all ≤ n → left ≡ [] → DealSoFar ComesTo IsWrong view first all n left
      → DealsWith ComesTo first (map view all)
  deal_ends n left past none so_far =
      so_far.deals (subst (λ (cs : List C). DealsWith ComesTo left (map view cs)) (sym (drop_of_length-le all past))
      (subst (λ (xs : List X). DealsWith ComesTo xs []) (sym none) nothing_left))

  -- a wrong line
  pub deal_wrong : (n begin line : ℕ) (left : List X) (c : C) (fault : LineFault) → n < length all → c ≡ get_or all n c
      → ((rest : List L) → HoldsOfLineFault (FailsToDeal ComesTo IsWrong bad_line left (view c ∷ rest) 0) fault)
      → line ≡ begin + n → DealSoFar ComesTo IsWrong view first all n left
      → HoldsOfLineFault (FromLine begin (FailsToDeal ComesTo IsWrong bad_line first (map view all)) line) fault
  deal_wrong n begin line left c fault within is wrong at so_far =
      fault_more (FailsToDeal ComesTo IsWrong bad_line left (view c ∷ map view (drop (n + 1) all)) 0)
      (FromLine begin (FailsToDeal ComesTo IsWrong bad_line first (map view all)) line)
      (λ told f. (
        n,
        subst (λ (j : ℕ). FailsToDeal ComesTo IsWrong bad_line first (map view all) j told) same
            (so_far.fails 0 told (subst (λ (cs : List C). FailsToDeal ComesTo IsWrong bad_line left (map view cs) 0 told)
            (sym (next_member all n c within is)) f)),
        at,
      ))
      fault (wrong (map view (drop (n + 1) all)))
    where
      same : n + 0 ≡ n
      same = omega arith

  -- lines that are missing
  pub deal_missing : (n begin line : ℕ) (left rest : List X) (x : X) → length all ≤ n → left ≡ x ∷ rest
      → line ≡ begin + n → DealSoFar ComesTo IsWrong view first all n left
      → FromLine begin (FailsToDeal ComesTo IsWrong bad_line first (map view all)) line bad_line
  deal_missing n begin line left rest x past some at so_far = (
    n,
    subst (λ (j : ℕ). FailsToDeal ComesTo IsWrong bad_line first (map view all) j bad_line) same
        (so_far.fails 0 bad_line
        (subst (λ (cs : List C). FailsToDeal ComesTo IsWrong bad_line left (map view cs) 0 bad_line)
        (sym (drop_of_length-le all past))
        (subst (λ (xs : List X). FailsToDeal ComesTo IsWrong bad_line xs [] 0 bad_line) (sym some) (line_missing refl)))),
    at,
  )
    where
      same : n + 0 ≡ n
      same = omega arith

-- a stack that is not empty
pub some_left : {A X : Type 0} (view : A → X) (left : List A) → 0 < length left
    → (x : X) × (rest : List X) × (map view (reverse left) ≡ x ∷ rest)
some_left {A = A} {X = X} view left more = go (reverse left) (subst (λ (k : ℕ). 0 < k) (sym (length-reverse left)) more)
  where
    go : (xs : List A) → 0 < length xs → (x : X) × (rest : List X) × (map view xs ≡ x ∷ rest)
    go [] less = absurd (omega (arith, less))
    go (y ∷ ys) less = (view y, map view ys, refl)

pub stack_some : {A : Type 0} (left : List A) (n : ℕ) (b : Bool) → n ≡ length left → b ≡ nat_eq n 0 → b ≡ false → 0 < length left
stack_some left n b same test not_so = go (length left) refl
  where
    go : (k : ℕ) → length left ≡ k → 0 < length left
    go zero e =
        let so : nat_eq n 0 ≡ true = (Decides-eqb n 0).1 (same ∙ e) in
        let clash : true ≡ false = sym so ∙ (sym test ∙ not_so) in
        absurd (cc clash)
    go (suc k) e = omega (arith, e)

-- ---- things one after another, so far as they were looked at

-- What those from this index on come to, the first of them at this line, is what all of them come to.
pub record RightSoFar {C X : Type 0} (IsRight : List X → X → Type 0) (IsWrong : List X → X → ℕ → InductionFault → Type 0)
    (length_of : X → ℕ) (view : C → X) (begin : ℕ) (all : List C) (n line : ℕ) : Type 0 where
  pub right : AreRightBehind IsRight (map view (take n all)) (map view (drop n all)) → AreRightBehind IsRight [] (map view all)
  pub wrong : (at : ℕ) (fault : InductionFault)
      → FirstIsWrong IsRight IsWrong length_of line (map view (take n all)) (map view (drop n all)) at fault
      → FirstIsWrong IsRight IsWrong length_of begin [] (map view all) at fault

module _ {C X : Type 0} (IsRight : List X → X → Type 0) (IsWrong : List X → X → ℕ → InductionFault → Type 0) (length_of : X → ℕ)
    (view : C → X) (begin : ℕ) (all : List C) where
  pub things_begin : RightSoFar IsRight IsWrong length_of view begin all 0 begin
  things_begin = record { right = λ r. r; wrong = λ at fault w. w }

  one_more : (n : ℕ) (c : C) → n < length all → c ≡ get_or all n c → map view (take (n + 1) all) ≡ map view (take n all) ++ view c ∷ []
  one_more n c within is = ap (map view) (take_more all n c within ∙ ap (λ (y : C). take n all ++ y ∷ []) (sym is))
      ∙ map-append view (take n all) (c ∷ [])

  pub things_go_on : (n line more : ℕ) (c : C) → n < length all → c ≡ get_or all n c → IsRight (map view (take n all)) (view c)
      → more ≡ line + length_of (view c) → RightSoFar IsRight IsWrong length_of view begin all n line
      → RightSoFar IsRight IsWrong length_of view begin all (n + 1) more
  things_go_on n line more c within is right at so_far = record {
    right = λ r. so_far.right
        (subst (λ (cs : List C). AreRightBehind IsRight (map view (take n all)) (map view cs)) (sym (next_member all n c within is))
        (right_then right
        (subst (λ (xs : List X). AreRightBehind IsRight xs (map view (drop (n + 1) all))) (one_more n c within is) r)));
    wrong = λ line_there fault w. so_far.wrong line_there fault
        (subst (λ (cs : List C). FirstIsWrong IsRight IsWrong length_of line (map view (take n all)) (map view cs) line_there fault)
        (sym (next_member all n c within is))
        (wrong_later right
        (subst (λ (k : ℕ). FirstIsWrong IsRight IsWrong length_of k (map view (take n all) ++ view c ∷ [])
        (map view (drop (n + 1) all)) line_there fault) at
        (subst (λ (xs : List X). FirstIsWrong IsRight IsWrong length_of more xs (map view (drop (n + 1) all)) line_there fault)
        (one_more n c within is) w))));
  }

  pub things_end : (n line : ℕ) → length all ≤ n → RightSoFar IsRight IsWrong length_of view begin all n line
      → AreRightBehind IsRight [] (map view all)
  things_end n line past so_far =
      so_far.right (subst (λ (cs : List C). AreRightBehind IsRight (map view (take n all)) (map view cs))
      (sym (drop_of_length-le all past)) no_more)

  pub thing_wrong : (n line at : ℕ) (c : C) (fault : LineFault) → n < length all → c ≡ get_or all n c
      → HoldsOfLineFault (FromLine line (IsWrong (map view (take n all)) (view c)) at) fault
      → RightSoFar IsRight IsWrong length_of view begin all n line
      → HoldsOfLineFault (FirstIsWrong IsRight IsWrong length_of begin [] (map view all) at) fault
  thing_wrong n line at c fault within is wrong so_far =
      fault_more (FromLine line (IsWrong (map view (take n all)) (view c)) at)
      (FirstIsWrong IsRight IsWrong length_of begin [] (map view all) at)
      (λ told h. so_far.wrong at told
      (subst (λ (cs : List C). FirstIsWrong IsRight IsWrong length_of line (map view (take n all)) (map view cs) at told)
      (sym (next_member all n c within is)) (wrong_here h.0 h.1 h.2)))
      fault wrong
