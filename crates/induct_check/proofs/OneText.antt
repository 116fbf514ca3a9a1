-- A text of a certificate is read in one way, and has one first fault, or none where it is right.
use Rattle.std.proofs.Common.{◌≡◌, ◌<◌, ℕ, zero, suc, List, [], ◌∷◌, ◌++◌, length, Option, None, Some, slice_get, refl, sym, ap, ◌∙◌, subst}
use Rattle.std.proofs.lemmas.Option.{slice_get_within, same_Some}
use Rattle.lotos_base.specs.Equation.{Variable}
use Rattle.lotos_base.specs.Signature.{Signature, Operation, IsOperation, IsWellFormedSignature}
use Rattle.lotos_base.specs.WrittenTerm.{WrittenTerm, ListedOperation}
use Rattle.lotos_base.proofs.Members.{member_at}
use Rattle.path_order.proofs.OneListing.{listed_by_once}
use Rattle.lotos_grammar.proofs.HandedOn.{all_have_one_outcome}
use Rattle.sort_terms.specs.Reading.{IsSortNamed}
use Rattle.sort_terms.specs.ReadingOutcome.{ReadingOutcome, answered, SortedPair}
use Rattle.sort_terms.proofs.ReadsLemmas.{comes_once}
use Rattle.syntax_trees.specs.WrittenVariable.{WrittenVariable}
use Rattle.induct_parts.specs.HandedOn.{Cover, Certificate, Lemma, Statement, IsCertified, IsInductionFault, InductionFault, bad_line}
use Rattle.induct_parts.specs.HandedOn.{FirstFaultsAreOne, RightOnesHaveNoFault, Theory, Numbered}
use Rattle.certificate_theory.specs.Patterns.{first_pattern}
use Rattle.induct_check.specs.CertificateReading.{ItemsList, nothing_listed, item_lists, AreOperationsOf, IsWrittenCover, AreNumbered, AreLemmaVariables, IsWrittenSide, AreReadSides, LineTask, read_cover, read_tree, tree_line, read_variables, read_left, read_right, proof_line, no_task, Piece, new_cover, new_tree, new_variables, new_left, new_lemma, GivesPiece, FailsWithLeft, ReadSoFar, nothing_read, with_piece}
use Rattle.induct_check.specs.CheckView.{IsCertifiedText}
use Rattle.induct_check.specs.TextFaults.{task_behind, Stop, ReadText, LinesReadTo, ends, lacks_a_line, lacks_line_feed, goes_on, stops, stops_at_left, TextComesTo, IsReadAsInduction, ComesBeforeStop, IsTextFault, in_certificate, before_stop, at_stop}
use Rattle.induct_check.proofs.WrittenLemmas.{written_once}

-- ---- What a line gives

module _ (signature : Signature) (well : IsWellFormedSignature signature) where
  sort_once : (name : List ℕ) (s r : ℕ) → IsSortNamed signature s name → IsSortNamed signature r name → s ≡ r
  sort_once name s r one other = well.sort_names s r one.0 other.0 one.1 other.1 (one.2 ∙ sym other.2)

  items_once : {items : List ListedOperation} {fs gs : List ℕ} → ItemsList signature items fs → ItemsList signature items gs → fs ≡ gs
  items_once nothing_listed nothing_listed = refl
  items_once (item_lists {item = item} {f = f} {fs = fs} status lists rest) (item_lists {f = g} {fs = gs} also too more) =
      let first : f ∷ fs ≡ g ∷ gs = listed_by_once signature item (f ∷ fs) (g ∷ gs) lists too in
      let later = items_once rest more in
      (λ i. first i ++ later i)

  operations_once : (text fs gs : List ℕ) → AreOperationsOf signature text fs → AreOperationsOf signature text gs → fs ≡ gs
  operations_once text fs gs one other =
      items_once one.2
      (subst (λ (items : List ListedOperation). ItemsList signature items gs)
      (sym (all_have_one_outcome.order.one_tree 0 text one.0 other.0 one.1 other.1)) other.2)

  pub same_cover : (sort text : List ℕ) (one other : Cover) → IsSortNamed signature one.sort sort
      → AreOperationsOf signature text one.operations → IsSortNamed signature other.sort sort
      → AreOperationsOf signature text other.operations → one ≡ other
  same_cover sort text one other named listed also_named also_listed =
      let sorts : one.sort ≡ other.sort = sort_once sort one.sort other.sort named also_named in
      let operations : one.operations ≡ other.operations =
      operations_once text one.operations other.operations listed also_listed in
      (λ i. record { sort = sorts i; operations = operations i })

  cover_once : (sort text : List ℕ) (one other : Cover) → IsWrittenCover signature sort text one → IsWrittenCover signature sort text other
      → one ≡ other
  cover_once sort text one other is also =
      same_cover sort text one other is.named is.listed also.named also.listed

  -- a tree with the pattern that it begins with
  abbrev tree_of : Numbered → Piece
  tree_of one = new_tree one.number (first_pattern one)

  operation_once : (f g : ℕ) (o p : Operation) → IsOperation signature f o → IsOperation signature g p → f ≡ g → o ≡ p
  operation_once f g o p at there same =
      same_Some o p (sym at ∙ (ap (slice_get signature.operations) same ∙ there))

  tree_once : (f g : ℕ) (o p : Operation) → f ≡ g → o ≡ p
      → new_tree f (first_pattern (record { number = f; operation = o }))
      ≡ new_tree g (first_pattern (record { number = g; operation = p }))
  tree_once f g o p same operation = λ i. tree_of (record { number = same i; operation = operation i })

  variable_same : (one other : Variable) → one.name ≡ other.name → one.number ≡ other.number → one.sort ≡ other.sort → one ≡ other
  variable_same one other name number sort = λ i. record { name = name i; number = number i; sort = sort i }

  same_by_members : (xs ys : List Variable) → length xs ≡ length ys
      → ((i : ℕ) (x y : Variable) → slice_get xs i ≡ Some x → slice_get ys i ≡ Some y → x ≡ y) → xs ≡ ys
  same_by_members [] [] count same = refl
  same_by_members [] (y ∷ ys) count same = absurd (cc count)
  same_by_members (x ∷ xs) [] count same = absurd (cc count)
  same_by_members (x ∷ xs) (y ∷ ys) count same =
      let first : x ≡ y = same zero x y refl refl in
      let rest : xs ≡ ys = same_by_members xs ys (cc count) (λ i v w at there. same (suc i) v w at there) in
      (λ i. first i ∷ rest i)

  numbered_once : (ws : List WrittenVariable) (xs ys : List Variable) → AreNumbered signature ws xs → AreNumbered signature ws ys
      → xs ≡ ys
  numbered_once ws xs ys one other =
      same_by_members xs ys (one.count ∙ sym other.count) (λ i x y at there.
      let w = member_at ws i (subst (λ (n : ℕ). i < n) one.count (slice_get_within xs i x at)) in
      let first = one.each i w.0 x w.1 at in
      let second = other.each i w.0 y w.1 there in
      variable_same x y (first.0 ∙ sym second.0) (first.1 ∙ sym second.1)
      (sort_once w.0.sort x.sort y.sort first.2 second.2))

  lemma_variables_once : (text : Option (List ℕ)) (xs ys : List Variable) → AreLemmaVariables signature text xs
      → AreLemmaVariables signature text ys → xs ≡ ys
  lemma_variables_once None xs ys one other = one ∙ sym other
  lemma_variables_once (Some text) xs ys one other =
      numbered_once one.0 xs ys one.3
      (subst (λ (ws : List WrittenVariable). AreNumbered signature ws ys) (sym (written_once text one.0 other.0 one.1 other.1)) other.3)

  side_once : (variables : List Variable) (text : List ℕ) (one other : WrittenTerm) → IsWrittenSide signature variables text one
      → IsWrittenSide signature variables text other → one ≡ other
  side_once variables text one other is also =
      let same : one ∷ [] ≡ other ∷ [] = all_have_one_outcome.terms.one_tree 0 text (one ∷ []) (other ∷ []) is.read also.read in
      cc same

  pair_statement : (one other : SortedPair) → answered one ≡ answered other → one ≡ other
  pair_statement one other same = cc same

  sides_once : (variables : List Variable) (left right : WrittenTerm) (one other : Statement)
      → AreReadSides signature variables left right one
      → AreReadSides signature variables left right other → one ≡ other
  sides_once variables left right one other is also =
      let pair : SortedPair = record { left = one.left; right = one.right; sort = is.0 } in
      let second : SortedPair = record { left = other.left; right = other.right; sort = also.0 } in
      let both : answered pair ≡ answered second = comes_once _ _ _ (answered pair) (answered second) is.1 also.1 in
      let same : pair ≡ second = pair_statement pair second both in
      (λ i. record { left = (same i).left; right = (same i).right })

  gives_once : (task : LineTask) (one other : Piece) → GivesPiece signature task one → GivesPiece signature task other → one ≡ other
  gives_once (read_cover sort items) one other is also =
      is.2 ∙ ap (λ (c : Cover). new_cover c) (cover_once sort items is.0 also.0 is.1 also.1) ∙ sym also.2
  gives_once (read_tree item) one other is also =
      let same : is.0 ∷ [] ≡ also.0 ∷ [] = operations_once item (is.0 ∷ []) (also.0 ∷ []) is.2 also.2 in
      let number : is.0 ≡ also.0 = cc same in
      is.4 ∙ tree_once is.0 also.0 is.1 also.1 number (operation_once is.0 also.0 is.1 also.1 is.3 also.3 number) ∙ sym also.4
  gives_once (tree_line line patterns) one other is also = is ∙ sym also
  gives_once (read_variables text) one other is also =
      is.2 ∙ ap (λ (vs : List Variable). new_variables vs) (lemma_variables_once text is.0 also.0 is.1 also.1) ∙ sym also.2
  gives_once (read_left variables term) one other is also =
      is.2 ∙ ap (λ (w : WrittenTerm). new_left variables w) (side_once variables term is.0 also.0 is.1 also.1) ∙ sym also.2
  gives_once (read_right variables left term) one other is also =
      let side : is.0 ≡ also.0 = side_once variables term is.0 also.0 is.2 also.2 in
      let statement : is.1 ≡ also.1 =
      sides_once variables left is.0 is.1 also.1 is.3
      (subst (λ (w : WrittenTerm). AreReadSides signature variables left w also.1) (sym side) also.3) in
      is.4 ∙ ap (λ (s : Statement). new_lemma variables s) statement ∙ sym also.4
  gives_once (proof_line line cases) one other is also = is ∙ sym also
  gives_once no_task one other is also = absurd is

  -- what fails with the left side gives nothing
  gives_or_fails : (task : LineTask) (piece : Piece) → GivesPiece signature task piece → ¬ FailsWithLeft signature task
  gives_or_fails (read_cover sort items) piece is fails = fails
  gives_or_fails (read_tree item) piece is fails = fails
  gives_or_fails (tree_line line patterns) piece is fails = fails
  gives_or_fails (read_variables text) piece is fails = fails
  gives_or_fails (read_left variables term) piece is fails = fails
  gives_or_fails (read_right variables left term) piece is fails =
      let side : is.0 ≡ fails.0 = side_once variables term is.0 fails.0 is.2 fails.1 in
      fails.2 is.1 (subst (λ (w : WrittenTerm). AreReadSides signature variables left w is.1) side is.3)
  gives_or_fails (proof_line line cases) piece is fails = fails
  gives_or_fails no_task piece is fails = fails

  -- ---- What a text comes to

  pub comes_to_once : {number : ℕ} {reading : ReadSoFar} {parts : List (List ℕ)} {one other : ReadText}
      → LinesReadTo signature number reading parts one → LinesReadTo signature number reading parts other → one ≡ other
  comes_to_once (ends may) (ends also) = refl
  comes_to_once (ends may) (lacks_a_line not) = absurd (cc (may, not))
  comes_to_once (lacks_a_line not) (ends may) = absurd (cc (may, not))
  comes_to_once (lacks_a_line not) (lacks_a_line also) = refl
  comes_to_once lacks_line_feed lacks_line_feed = refl
  comes_to_once (goes_on {number = number} {reading = reading} {line = line} {next = next} {parts = parts} {text = text} piece gives rest)
      (goes_on more also later) =
      let same : piece ≡ more = gives_once (task_behind signature reading line) piece more gives also in
      comes_to_once (subst (λ (p : Piece). LinesReadTo signature (suc number) (with_piece reading p) (next ∷ parts) text) same rest) later
  comes_to_once (goes_on piece gives rest) (stops none not) = absurd (none piece gives)
  comes_to_once (goes_on {reading = reading} {line = line} piece gives rest) (stops_at_left fails) =
      absurd (gives_or_fails (task_behind signature reading line) piece gives fails)
  comes_to_once (stops none not) (goes_on piece gives rest) = absurd (none piece gives)
  comes_to_once (stops none not) (stops also too) = refl
  comes_to_once (stops none not) (stops_at_left fails) = absurd (not fails)
  comes_to_once (stops_at_left {reading = reading} {line = line} fails) (goes_on piece gives rest) =
      absurd (gives_or_fails (task_behind signature reading line) piece gives fails)
  comes_to_once (stops_at_left fails) (stops none not) = absurd (not fails)
  comes_to_once (stops_at_left fails) (stops_at_left also) = refl

-- ---- What is said of a text

module _ (one_fault : FirstFaultsAreOne) (no_fault : RightOnesHaveNoFault) (theory : Theory) (text : List ℕ)
    (well : IsWellFormedSignature theory.data_.signature) where
  once : (one other : ReadText) → TextComesTo theory.data_.signature text one → TextComesTo theory.data_.signature text other → one ≡ other
  once one other is also = comes_to_once theory.data_.signature well is also

  abbrev whole : Certificate → ReadText
  whole certificate = record { certificate = certificate; stop = None }

  abbrev stopped_so : Certificate → Stop → ReadText
  stopped_so certificate stop = record { certificate = certificate; stop = Some stop }

  never : {A : Type 0} (c d : Certificate) (stop : Stop) → whole c ≡ stopped_so d stop → A
  never c d stop same = absurd (none_is_some (ap (λ (r : ReadText). r.stop) same))
    where
      none_is_some : None ≡ Some stop → ⊥
      none_is_some e = cc e

  same_stop : (s t : Stop) → Some s ≡ Some t → s ≡ t
  same_stop s t e = cc e

  pub certified_once : (one other : List Lemma) → IsCertifiedText theory text one → IsCertifiedText theory text other → one ≡ other
  certified_once one other is also =
      sym is.lemmas_are
      ∙ ap (λ (r : ReadText). r.certificate.lemmas)
      (once (whole is.certificate) (whole also.certificate) is.read also.read)
      ∙ also.lemmas_are

  pub certified_not_faulty : (lemmas : List Lemma) (line : ℕ) (fault : InductionFault) → IsCertifiedText theory text lemmas
      → IsTextFault theory text line fault → ⊥
  certified_not_faulty lemmas line fault is (in_certificate {certificate = c} read wrong) =
      no_fault theory c line fault
      (subst (λ (d : Certificate). IsCertified theory d)
      (ap (λ (r : ReadText). r.certificate) (once (whole is.certificate) (whole c) is.read read)) is.right) wrong
  certified_not_faulty lemmas line fault is (before_stop {certificate = c} {stop = stop} comes wrong before) =
      never is.certificate c stop (once (whole is.certificate) (stopped_so c stop) is.read comes)
  certified_not_faulty lemmas line fault is (at_stop {certificate = c} {stop = stop} comes none) =
      never is.certificate c stop (once (whole is.certificate) (stopped_so c stop) is.read comes)

  -- the first fault of what was read, where two readings are one
  faults_alike : (c d : Certificate) (line more : ℕ) (fault other : InductionFault) → c ≡ d → IsInductionFault theory c line fault
      → IsInductionFault theory d more other → (line ≡ more) × (fault ≡ other)
  faults_alike c d line more fault other same wrong also =
      one_fault theory d line more fault other
      (subst (λ (e : Certificate). IsInductionFault theory e line fault) same wrong) also

  -- a fault that comes before the stop, and the stop
  not_at_stop : (c d : Certificate) (stop last : Stop) (line : ℕ) (fault : InductionFault) → stopped_so c stop ≡ stopped_so d last
      → IsInductionFault theory c line fault → ComesBeforeStop stop line fault
      → ((n : ℕ) (f : InductionFault) → IsInductionFault theory d n f → ¬ ComesBeforeStop last n f) → ⊥
  not_at_stop c d stop last line fault same wrong before none =
      none line fault
      (subst (λ (e : Certificate). IsInductionFault theory e line fault) (ap (λ (r : ReadText). r.certificate) same) wrong)
      (subst (λ (s : Stop). ComesBeforeStop s line fault) (same_stop stop last (ap (λ (r : ReadText). r.stop) same)) before)

  pub text_fault_once : (line more : ℕ) (fault other : InductionFault) → IsTextFault theory text line fault
      → IsTextFault theory text more other → (line ≡ more) × (fault ≡ other)
  text_fault_once line more fault other (in_certificate {certificate = c} read wrong) (in_certificate {certificate = d} again also) =
      faults_alike c d line more fault other (ap (λ (r : ReadText). r.certificate) (once (whole c) (whole d) read again)) wrong also
  text_fault_once line more fault other (in_certificate {certificate = c} read wrong)
      (before_stop {certificate = d} {stop = stop} comes also before) =
      never c d stop (once (whole c) (stopped_so d stop) read comes)
  text_fault_once line more fault other (in_certificate {certificate = c} read wrong)
      (at_stop {certificate = d} {stop = stop} comes none) =
      never c d stop (once (whole c) (stopped_so d stop) read comes)
  text_fault_once line more fault other (before_stop {certificate = d} {stop = stop} comes wrong before)
      (in_certificate {certificate = c} read also) =
      never c d stop (once (whole c) (stopped_so d stop) read comes)
  text_fault_once line more fault other (before_stop {certificate = c} {stop = stop} comes wrong before)
      (before_stop {certificate = d} {stop = last} again also too) =
      faults_alike c d line more fault other
      (ap (λ (r : ReadText). r.certificate) (once (stopped_so c stop) (stopped_so d last) comes again)) wrong also
  text_fault_once line more fault other (before_stop {certificate = c} {stop = stop} comes wrong before)
      (at_stop {certificate = d} {stop = last} again none) =
      absurd (not_at_stop c d stop last line fault (once (stopped_so c stop) (stopped_so d last) comes again) wrong before none)
  text_fault_once line more fault other (at_stop {certificate = d} {stop = stop} comes none)
      (in_certificate {certificate = c} read also) =
      never c d stop (once (whole c) (stopped_so d stop) read comes)
  text_fault_once line more fault other (at_stop {certificate = d} {stop = last} again none)
      (before_stop {certificate = c} {stop = stop} comes also before) =
      absurd (not_at_stop c d stop last more other (once (stopped_so c stop) (stopped_so d last) comes again) also before none)
  text_fault_once line more fault other (at_stop {certificate = c} {stop = stop} comes none)
      (at_stop {certificate = d} {stop = last} again also) = (
        ap (λ (s : Stop). s.line)
            (same_stop stop last (ap (λ (r : ReadText). r.stop) (once (stopped_so c stop) (stopped_so d last) comes again))),
        refl,
      )
