-- What is left, and what a reader keeps of it, stay aligned, line by line.
use Rattle.std.proofs.Common.{◌≡◌, ◌+◌, ℕ, suc, List, [], ◌∷◌, ◌++◌, Option, None, Some, Bool, true, false, map, length, slice_get, codes, decimal, refl, ap, sym, ◌∙◌, subst, arith}
use Rattle.std.specs.Prelude.{if◌then◌else◌}
use Rattle.std.proofs.lemmas.List.{append_assoc, append-nil, length-map}
use Rattle.std.proofs.lemmas.Option.{same_Some}
use Rattle.lotos_base.specs.Equation.{Variable}
use Rattle.lotos_base.specs.Signature.{Signature, Operation, IsOperation}
use Rattle.lotos_base.specs.Substitution.{is_listed}
use Rattle.certificate_theory.specs.Certified.{proving_of}
use Rattle.certificate_theory.specs.Covers.{Numbered, listed_from, in_signature_order, cover_of}
use Rattle.certificate_theory.specs.Lines.{LinesReach, no_line, line_first}
use Rattle.certificate_theory.specs.Proofs.{CaseComesTo}
use Rattle.certificate_theory.specs.Splits.{Case, Proving, first_case, case_with, cases_of_split, with_goal}
use Rattle.certificate_theory.specs.Patterns.{Pattern, PatternComesTo, first_pattern}
use Rattle.induct_check.proofs.PatternSteps.{line_leaves}
use Rattle.induct_parts.specs.HandedOn.{Cover, TreeLine, split_pattern, leaf_here, PatternTree, Lemma, ProofLine, split_variable, use_it, same_sides, Statement, Theory}
use Rattle.induct_check.specs.AlignedCases.{IsReached, at_the_start, behind_a_line, IsNamedFor, AreNamedFor, none_left, one_left, PartIsAligned, WhatIsLeftStaysAligned}
use Rattle.induct_check.specs.CertificateLines.{LineForm, cover_form, tree_form, split_form, lemma_form, left_form, right_form, use_form, leaf_form, same_form, no_form, path_of, line_form_of}
use Rattle.induct_check.specs.CertificateReading.{NamedCase, first_names, number_named, argument_names, named_behind, cases_by, cases_of_sort, cases_behind, OpenPart, among_covers, in_tree, behind_variables, behind_left, in_proof, ReadSoFar, Piece, new_cover, new_tree, new_tree_line, new_variables, new_left, new_lemma, new_proof_line, LineTask, read_cover, read_tree, tree_line, read_variables, read_left, read_right, proof_line, no_task, first_line, pattern_split, patterns_behind, GivesPiece, line_task_of, with_last, tree_with, lemma_with, stated_lemma, left_behind, without_first, tree_behind, proof_behind, with_piece}
use Rattle.induct_check.specs.TextFaults.{LineGives, task_behind}

-- ---- Names of split variables

argument_count : (name : List ℕ) (k : ℕ) (ss : List ℕ) → length (argument_names name k ss) ≡ length ss
argument_count name k [] = refl
argument_count name k (s ∷ ss) = ap suc (argument_count name (suc k) ss)

join_length : {X : Type 0} (xs ys : List X) → length (xs ++ ys) ≡ length xs + length ys
join_length [] ys = omega arith
join_length (x ∷ xs) ys = omega (arith, join_length xs ys)

one_named : (theory : Theory) (proving : Proving) (named : NamedCase) (point : Case) (name : List ℕ) (n s : ℕ) (one : Numbered)
    → IsNamedFor named point → IsNamedFor (named_behind named name one) (case_with theory proving point n s one)
one_named theory proving named point name n s one is = record {
  sorts = ap (λ (ss : List ℕ). ss ++ one.operation.arguments) is.sorts;
  names = join_length named.names (argument_names name 1 one.operation.arguments)
      ∙ (omega (
        arith,
        is.names,
        argument_count name 1 one.operation.arguments,
        join_length named.sorts one.operation.arguments,
      ));
}

all_named : (theory : Theory) (proving : Proving) (named : NamedCase) (point : Case) (name : List ℕ) (n s : ℕ) → IsNamedFor named point
    → (ones : List Numbered) → AreNamedFor (map (named_behind named name) ones) (map (case_with theory proving point n s) ones)
all_named theory proving named point name n s is [] = none_left
all_named theory proving named point name n s is (one ∷ ones) =
    one_left (one_named theory proving named point name n s one is) (all_named theory proving named point name n s is ones)

named_join : {xs zs : List NamedCase} {ys ws : List Case} → AreNamedFor xs ys → AreNamedFor zs ws → AreNamedFor (xs ++ zs) (ys ++ ws)
named_join none_left rest = rest
named_join (one_left is more) rest = one_left is (named_join more rest)

-- the cases behind a split, where the variable is in scope and its sort has a cover
split_named : (theory : Theory) (covers : List Cover) (proving : Proving) (named : NamedCase) (point : Case) (name : List ℕ) (s : ℕ)
    (operations : List ℕ) → IsNamedFor named point → slice_get point.sorts (number_named named.names name) ≡ Some s
    → cover_of covers s ≡ Some operations
    → AreNamedFor (cases_behind theory.data_.signature covers named name)
    (cases_of_split theory proving point (number_named named.names name) s operations)
split_named theory covers proving named point name s operations is there covered =
    let number = number_named named.names name in
    let sort : slice_get named.sorts number ≡ Some s = ap (λ (ss : List ℕ). slice_get ss number) is.sorts ∙ there in
    let same : cases_behind theory.data_.signature covers named name
    ≡ map (named_behind named name) (in_signature_order theory.data_.signature operations) =
    ap (cases_of_sort theory.data_.signature covers named name) sort ∙ ap (cases_by theory.data_.signature named name) covered in
    subst (λ (left : List NamedCase). AreNamedFor left (cases_of_split theory proving point number s operations)) (sym same)
    (all_named theory proving named point name number s is (in_signature_order theory.data_.signature operations))

-- ---- The last line

-- what so many lines and one more lead to
pub record LastReach {X L : Type 0} (ComesTo : X → L → List X → Type 0) (before : List X) (lines : List L) (line : L) (behind : List X)
    : Type 0 where
  pub x : X
  pub xs : List X
  pub parts : List X
  pub reached : LinesReach ComesTo before lines (x ∷ xs)
  pub comes : ComesTo x line parts
  pub left : behind ≡ parts ++ xs

none_more : {X L : Type 0} (ComesTo : X → L → List X → Type 0) (before behind : List X) → LinesReach ComesTo before [] behind
    → behind ≡ before
none_more ComesTo before behind no_line = refl

last_reach : {X L : Type 0} (ComesTo : X → L → List X → Type 0) (before : List X) (lines : List L) (line : L) (behind : List X)
    → LinesReach ComesTo before (lines ++ line ∷ []) behind → LastReach ComesTo before lines line behind
last_reach ComesTo before [] line behind (line_first {x = x} {xs = xs} {parts = parts} comes rest) = record {
  x = x;
  xs = xs;
  parts = parts;
  reached = no_line;
  comes = comes;
  left = none_more ComesTo (parts ++ xs) behind rest;
}
last_reach ComesTo before (l ∷ ls) line behind (line_first {x = x} {xs = xs} {parts = parts} comes rest) =
    let last = last_reach ComesTo (parts ++ xs) ls line behind rest in
    record {
      x = last.x;
      xs = last.xs;
      parts = last.parts;
      reached = line_first comes last.reached;
      comes = last.comes;
      left = last.left;
    }

-- ---- One line of a proof

-- what becomes of the names where a line of a proof is read
module _ (theory : Theory) (covers : List Cover) (proving : Proving) where
  line_named : (named : NamedCase) (left : List NamedCase) (point : Case) (points parts : List Case) (name : List ℕ)
      → IsNamedFor named point → AreNamedFor left points
      → CaseComesTo theory covers proving point (split_variable (number_named named.names name)) parts
      → AreNamedFor (cases_behind theory.data_.signature covers named name ++ left) (parts ++ points)
  line_named named left point points parts name is rest comes =
      subst (λ (ps : List Case). AreNamedFor (cases_behind theory.data_.signature covers named name ++ left) (ps ++ points)) (sym comes.4)
      (named_join (split_named theory covers proving named point name comes.0 comes.1 is comes.2.0 comes.3) rest)

  use_named : (named : NamedCase) (left : List NamedCase) (point : Case) (points parts : List Case) (result : Statement)
      → IsNamedFor named point → AreNamedFor left points → parts ≡ with_goal theory point result ∷ []
      → AreNamedFor (named ∷ left) (parts ++ points)
  use_named named left point points parts result is rest same =
      subst (λ (ps : List Case). AreNamedFor (named ∷ left) (ps ++ points)) (sym same)
      (one_left (record { sorts = is.sorts; names = is.names }) rest)

  -- the line that the form asks for, behind the names that are left
  proof_named : (form : LineForm) (left : List NamedCase) (line : ProofLine) (cases : Option (List NamedCase)) (point : Case)
      (points parts : List Case)
      → GivesPiece theory.data_.signature (line_task_of theory.data_.signature covers (in_proof left) form) (new_proof_line line cases)
      → AreNamedFor left (point ∷ points) → CaseComesTo theory covers proving point line parts
      → AreNamedFor (left_behind cases left) (parts ++ points)
  proof_named (cover_form s t) left line cases point points parts gives are comes = absurd gives
  proof_named (tree_form t) left line cases point points parts gives are comes = absurd gives
  proof_named (split_form w) (named ∷ left) line cases point points parts gives (one_left is rest) comes =
      let lines : line ≡ split_variable (number_named named.names w) = cc gives in
      let same : cases ≡ Some (cases_behind theory.data_.signature covers named w) = cc gives in
      subst (λ (cs : Option (List NamedCase)). AreNamedFor (left_behind cs (named ∷ left)) (parts ++ points)) (sym same)
      (line_named named left point points parts w is rest
      (subst (λ (l : ProofLine). CaseComesTo theory covers proving point l parts) lines comes))
  proof_named (split_form w) [] line cases point points parts gives are comes = elim are [ ]
  proof_named (lemma_form v) left line cases point points parts gives are comes = absurd (cc gives.2)
  proof_named (left_form t) left line cases point points parts gives are comes = absurd gives
  proof_named (right_form t) left line cases point points parts gives are comes = absurd gives
  proof_named (use_form u) (named ∷ left) line cases point points parts gives (one_left is rest) comes =
      let lines : line ≡ use_it u = cc gives in
      let same : cases ≡ None = cc gives in
      let used = subst (λ (l : ProofLine). CaseComesTo theory covers proving point l parts) lines comes in
      subst (λ (cs : Option (List NamedCase)). AreNamedFor (left_behind cs (named ∷ left)) (parts ++ points)) (sym same)
      (use_named named left point points parts used.0 is rest used.2)
  proof_named (use_form u) [] line cases point points parts gives are comes = elim are [ ]
  proof_named leaf_form left line cases point points parts gives are comes = absurd gives
  proof_named same_form (named ∷ left) line cases point points parts gives (one_left is rest) comes =
      let lines : line ≡ same_sides = cc gives in
      let same : cases ≡ Some [] = cc gives in
      let done = subst (λ (l : ProofLine). CaseComesTo theory covers proving point l parts) lines comes in
      subst (λ (cs : Option (List NamedCase)). AreNamedFor (left_behind cs (named ∷ left)) (parts ++ points)) (sym same)
      (subst (λ (ps : List Case). AreNamedFor left (ps ++ points)) (sym done.1) rest)
  proof_named same_form [] line cases point points parts gives are comes = elim are [ ]
  proof_named no_form left line cases point points parts gives are comes = absurd gives

-- ---- The last lemma

some_last : {X : Type 0} (f : X → X) (x : X) (xs : List X) → with_last f (x ∷ xs) ≡ [] → ⊥
some_last f x [] e = cc e
some_last f x (y ∷ ys) e = cc e

no_end : {X : Type 0} (xs : List X) (x : X) → [] ≡ xs ++ x ∷ [] → ⊥
no_end [] x e = cc e
no_end (y ∷ ys) x e = cc e

last_changed_is : {X : Type 0} (f : X → X) (all earlier : List X) (y : X) → with_last f all ≡ earlier ++ y ∷ []
    → (x : X) × (all ≡ earlier ++ x ∷ []) × (f x ≡ y)
last_changed_is f [] earlier y e = absurd (no_end earlier y e)
last_changed_is f (x ∷ []) [] y e = (x, refl, cc e)
last_changed_is f (x ∷ []) (z ∷ zs) y e = absurd (no_end zs y (cc e))
last_changed_is f (x ∷ w ∷ ws) [] y e = absurd (some_last f w ws (cc e))
last_changed_is f (x ∷ w ∷ ws) (z ∷ zs) y e =
    let first : x ≡ z = cc e in
    let rest : with_last f (w ∷ ws) ≡ zs ++ y ∷ [] = cc e in
    let found = last_changed_is f (w ∷ ws) zs y rest in
    (found.0, (λ i. first i ∷ found.1 i), found.2)

last_is : {X : Type 0} (xs ys : List X) (x y : X) → xs ++ x ∷ [] ≡ ys ++ y ∷ [] → x ≡ y
last_is [] [] x y e = cc e
last_is [] (z ∷ zs) x y e = absurd (no_end zs y (cc e))
last_is (w ∷ ws) [] x y e = absurd (no_end ws x (sym (cc e)))
last_is (w ∷ ws) (z ∷ zs) x y e = last_is ws zs x y (cc e)

-- ---- All lines

-- the pattern that a tree begins with
module _ (theory : Theory) (reading : ReadSoFar) where
  first_is : (f g : ℕ) (o operation : Operation) (pattern : Pattern) → f ≡ g → IsOperation theory.data_.signature g o
      → IsOperation theory.data_.signature f operation → pattern ≡ first_pattern (record { number = g; operation = o })
      → pattern ≡ first_pattern (record { number = f; operation = operation })
  first_is f g o operation pattern same at there is =
      let one : o ≡ operation = same_Some o operation (sym at ∙ (ap (slice_get theory.data_.signature.operations) (sym same) ∙ there)) in
      is ∙ (λ i. first_pattern (record { number = sym same i; operation = one i }))

  -- a tree that was just read
  tree_left : (f : ℕ) (pattern : Pattern) (tree : PatternTree) (operation : Operation) (patterns : List Pattern)
      → record { operation = f; lines = [] } ≡ tree → ((o : Operation) → IsOperation theory.data_.signature f o
      → pattern ≡ first_pattern (record { number = f; operation = o }))
      → IsOperation theory.data_.signature tree.operation operation
      → LinesReach (PatternComesTo theory.data_.signature theory.rules reading.certificate.covers)
      (first_pattern (record { number = tree.operation; operation = operation }) ∷ []) tree.lines patterns
      → pattern ∷ [] ≡ patterns
  tree_left f pattern tree operation patterns is first at reach =
      let number : f ≡ tree.operation = ap (λ (t : PatternTree). t.operation) is in
      let none : [] ≡ tree.lines = ap (λ (t : PatternTree). t.lines) is in
      let start : Pattern = first_pattern (record { number = tree.operation; operation = operation }) in
      let behind : patterns ≡ start ∷ [] =
      none_more (PatternComesTo theory.data_.signature theory.rules reading.certificate.covers) (start ∷ []) patterns
      (subst (λ (ls : List TreeLine). LinesReach (PatternComesTo theory.data_.signature theory.rules reading.certificate.covers)
      (start ∷ []) ls patterns) (sym none) reach) in
      let same : pattern ≡ start =
      first operation (subst (λ (g : ℕ). IsOperation theory.data_.signature g operation) (sym number) at)
      ∙ (λ i. first_pattern (record { number = number i; operation = operation })) in
      ap (λ (p : Pattern). p ∷ []) same ∙ sym behind

  tree_begun : (f : ℕ) (pattern : Pattern) → ((o : Operation) → IsOperation theory.data_.signature f o
      → pattern ≡ first_pattern (record { number = f; operation = o }))
      → PartIsAligned theory (with_piece reading (new_tree f pattern)) (in_tree (pattern ∷ []))
  tree_begun f pattern first = λ earlier tree operation patterns is at reach.
      tree_left f pattern tree operation patterns
      (last_is reading.certificate.trees earlier (record { operation = f; lines = [] }) tree is) first at reach

  -- the line that the form asks for, behind the patterns that are left
  first_line_left : (x : Pattern) (xs parts patterns : List Pattern) (line asked : TreeLine)
      → new_tree_line line patterns ≡ new_tree_line asked (patterns_behind theory.data_.signature reading.certificate.covers x asked)
      → PatternComesTo theory.data_.signature theory.rules reading.certificate.covers x line parts → patterns ++ xs ≡ parts ++ xs
  first_line_left x xs parts patterns line asked gives comes =
      let lines : line ≡ asked = cc gives in
      let left : patterns ≡ patterns_behind theory.data_.signature reading.certificate.covers x asked = cc gives in
      ap (λ (ps : List Pattern). ps ++ xs)
      (left ∙ (ap (patterns_behind theory.data_.signature reading.certificate.covers x) (sym lines)
      ∙ sym (line_leaves theory.data_.signature theory.rules reading.certificate.covers x line parts comes)))

  line_left : (left : List Pattern) (x : Pattern) (xs parts patterns : List Pattern) (line asked : TreeLine) → left ≡ x ∷ xs
      → GivesPiece theory.data_.signature (first_line theory.data_.signature reading.certificate.covers left asked)
      (new_tree_line line patterns)
      → PatternComesTo theory.data_.signature theory.rules reading.certificate.covers x line parts
      → patterns ++ without_first left ≡ parts ++ xs
  line_left [] x xs parts patterns line asked is gives comes = absurd (cc is)
  line_left (p ∷ ps) x xs parts patterns line asked is gives comes =
      let first : p ≡ x = cc is in
      let rest : ps ≡ xs = cc is in
      ap (λ (qs : List Pattern). patterns ++ qs) rest
      ∙ first_line_left x xs parts patterns line asked
      (subst (λ (q : Pattern). new_tree_line line patterns
      ≡ new_tree_line asked (patterns_behind theory.data_.signature reading.certificate.covers q asked)) first gives) comes

  split_left : (left : List Pattern) (x : Pattern) (xs parts patterns : List Pattern) (line : TreeLine) (path : Option (List ℕ))
      → left ≡ x ∷ xs
      → GivesPiece theory.data_.signature (pattern_split theory.data_.signature reading.certificate.covers left path)
      (new_tree_line line patterns)
      → PatternComesTo theory.data_.signature theory.rules reading.certificate.covers x line parts
      → patterns ++ without_first left ≡ parts ++ xs
  split_left left x xs parts patterns line None is gives comes = absurd gives
  split_left left x xs parts patterns line (Some path) is gives comes =
      line_left left x xs parts patterns line (split_pattern path) is gives comes

  form_left : (form : LineForm) (left : List Pattern) (x : Pattern) (xs parts patterns : List Pattern) (line : TreeLine) → left ≡ x ∷ xs
      → GivesPiece theory.data_.signature (line_task_of theory.data_.signature reading.certificate.covers (in_tree left) form)
      (new_tree_line line patterns)
      → PatternComesTo theory.data_.signature theory.rules reading.certificate.covers x line parts
      → patterns ++ without_first left ≡ parts ++ xs
  form_left (cover_form s t) left x xs parts patterns line is gives comes = absurd gives
  form_left (tree_form t) left x xs parts patterns line is gives comes = absurd (cc gives.4)
  form_left (split_form w) left x xs parts patterns line is gives comes =
      split_left left x xs parts patterns line (path_of w) is gives comes
  form_left (lemma_form v) left x xs parts patterns line is gives comes = absurd (cc gives.2)
  form_left (left_form t) left x xs parts patterns line is gives comes = absurd gives
  form_left (right_form t) left x xs parts patterns line is gives comes = absurd gives
  form_left (use_form u) left x xs parts patterns line is gives comes = absurd gives
  form_left leaf_form left x xs parts patterns line is gives comes = line_left left x xs parts patterns line leaf_here is gives comes
  form_left same_form left x xs parts patterns line is gives comes = absurd gives
  form_left no_form left x xs parts patterns line is gives comes = absurd gives

  tree_goes_on : (line : TreeLine) (patterns : List Pattern) (form : LineForm) (part : OpenPart) → PartIsAligned theory reading part
      → GivesPiece theory.data_.signature (line_task_of theory.data_.signature reading.certificate.covers part form)
      (new_tree_line line patterns)
      → PartIsAligned theory (with_piece reading (new_tree_line line patterns)) (tree_behind patterns part)
  tree_goes_on line patterns form among_covers h gives = tt
  tree_goes_on line patterns form (in_tree left) h gives = λ earlier tree operation behind is at reach.
      let ComesTo = PatternComesTo theory.data_.signature theory.rules reading.certificate.covers in
      let old = last_changed_is (tree_with line) reading.certificate.trees earlier tree is in
      let start : Pattern = first_pattern (record { number = old.0.operation; operation = operation }) in
      let before = subst (λ (t : PatternTree). IsOperation theory.data_.signature t.operation operation
      × LinesReach ComesTo (first_pattern (record { number = t.operation; operation = operation }) ∷ []) t.lines behind) (sym old.2)
      (at, reach) in
      let last = last_reach ComesTo (start ∷ []) old.0.lines line behind before.1 in
      form_left form left last.x last.xs last.parts patterns line
      (h earlier old.0 operation (last.x ∷ last.xs) old.1 before.0 last.reached) gives last.comes
      ∙ sym last.left
  tree_goes_on line patterns form (behind_variables variables) h gives = tt
  tree_goes_on line patterns form (behind_left variables left) h gives = tt
  tree_goes_on line patterns form (in_proof left) h gives = λ earlier lemma points is reach. h earlier lemma points is reach

  -- what the line of a tree gives
  tree_given : (f : ℕ) (pattern : Pattern) (task : LineTask) → GivesPiece theory.data_.signature task (new_tree f pattern)
      → (o : Operation) → IsOperation theory.data_.signature f o → pattern ≡ first_pattern (record { number = f; operation = o })
  tree_given f pattern (read_cover sort items) gives o at = absurd (cc gives.2)
  tree_given f pattern (read_tree item) gives o at =
      let number : f ≡ gives.0 = cc gives.4 in
      first_is f gives.0 gives.1 o pattern number gives.3 at (cc gives.4)
  tree_given f pattern (tree_line line patterns) gives o at = absurd (cc gives)
  tree_given f pattern (read_variables text) gives o at = absurd (cc gives.2)
  tree_given f pattern (read_left variables term) gives o at = absurd (cc gives.2)
  tree_given f pattern (read_right variables left term) gives o at = absurd (cc gives.4)
  tree_given f pattern (proof_line line cases) gives o at = absurd (cc gives)
  tree_given f pattern no_task gives o at = absurd gives

begun : (theory : Theory) (covers : List Cover) (proving : Proving) (variables : List Variable) (statement : Statement) (points : List Case)
    → LinesReach (CaseComesTo theory covers proving) (first_case theory (stated_lemma variables statement) ∷ []) [] points
    → AreNamedFor (first_names variables ∷ []) points
begun theory covers proving variables statement points reach =
    subst (λ (ps : List Case). AreNamedFor (first_names variables ∷ []) ps)
    (sym (none_more (CaseComesTo theory covers proving) (first_case theory (stated_lemma variables statement) ∷ []) points reach))
    (one_left (record {
      sorts = refl;
      names = length-map variables (λ (v : Variable). v.name) ∙ sym (length-map variables (λ (v : Variable). v.sort));
    }) none_left)

lemma_begun : (theory : Theory) (reading : ReadSoFar) (variables : List Variable) (statement : Statement)
    → PartIsAligned theory (with_piece reading (new_lemma variables statement)) (in_proof (first_names variables ∷ []))
lemma_begun theory reading variables statement = λ earlier lemma points is reach.
    let covers = reading.certificate.covers in
    begun theory covers (proving_of earlier (stated_lemma variables statement)) variables statement points
    (subst (λ (l : Lemma). LinesReach (CaseComesTo theory covers (proving_of earlier l)) (first_case theory l ∷ []) l.lines points)
    (sym (last_is reading.certificate.lemmas earlier (stated_lemma variables statement) lemma is)) reach)

proof_goes_on : (theory : Theory) (reading : ReadSoFar) (line : ProofLine) (cases : Option (List NamedCase)) (form : LineForm)
    (part : OpenPart) → PartIsAligned theory reading part
    → GivesPiece theory.data_.signature (line_task_of theory.data_.signature reading.certificate.covers part form) (new_proof_line line cases)
    → PartIsAligned theory (with_piece reading (new_proof_line line cases)) (proof_behind cases part)
proof_goes_on theory reading line cases form among_covers h gives = tt
proof_goes_on theory reading line cases form (in_tree left) h gives = λ earlier tree operation patterns is at reach.
    h earlier tree operation patterns is at reach
proof_goes_on theory reading line cases form (behind_variables variables) h gives = tt
proof_goes_on theory reading line cases form (behind_left variables left) h gives = tt
proof_goes_on theory reading line cases form (in_proof left) h gives = λ earlier lemma points is reach.
    let covers = reading.certificate.covers in
    let old = last_changed_is (lemma_with line) reading.certificate.lemmas earlier lemma is in
    let proving = proving_of earlier old.0 in
    let last = last_reach (CaseComesTo theory covers proving) (first_case theory old.0 ∷ []) old.0.lines line points
    (subst (λ (l : Lemma). LinesReach (CaseComesTo theory covers (proving_of earlier l)) (first_case theory l ∷ []) l.lines points)
    (sym old.2) reach) in
    subst (λ (ps : List Case). AreNamedFor (left_behind cases left) ps) (sym last.left)
    (proof_named theory covers proving form left line cases last.x last.xs last.parts gives
    (h earlier old.0 (last.x ∷ last.xs) old.1 last.reached) last.comes)

goes_on_aligned : (theory : Theory) (reading : ReadSoFar) (line : List ℕ) (piece : Piece) → PartIsAligned theory reading reading.part
    → LineGives theory.data_.signature reading line piece
    → PartIsAligned theory (with_piece reading piece) (with_piece reading piece).part
goes_on_aligned theory reading line (new_cover cover) h gives = tt
goes_on_aligned theory reading line (new_tree f pattern) h gives =
    tree_begun theory reading f pattern (tree_given theory reading f pattern (task_behind theory.data_.signature reading line) gives)
goes_on_aligned theory reading line (new_tree_line l patterns) h gives =
    tree_goes_on theory reading l patterns (line_form_of line) reading.part h gives
goes_on_aligned theory reading line (new_variables variables) h gives = tt
goes_on_aligned theory reading line (new_left variables left) h gives = tt
goes_on_aligned theory reading line (new_lemma variables statement) h gives = lemma_begun theory reading variables statement
goes_on_aligned theory reading line (new_proof_line l cases) h gives =
    proof_goes_on theory reading l cases (line_form_of line) reading.part h gives

pub what_is_left_stays_aligned : WhatIsLeftStaysAligned
what_is_left_stays_aligned theory reading at_the_start = tt
what_is_left_stays_aligned theory reading (behind_a_line {reading = before} line piece reached gives) =
    goes_on_aligned theory before line piece (what_is_left_stays_aligned theory before reached) gives
