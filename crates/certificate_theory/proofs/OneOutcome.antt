-- A certificate comes to one thing at most: menus are determined, so states, faults of lines, matches and faults of pairs are.
use Rattle.std.proofs.Common.{◌≡◌, ◌<◌, ◌⊎◌, inl, inr, ℕ, zero, suc, List, [], ◌∷◌, length, Some, slice_get, refl, ap, sym, ◌∙◌, subst, arith}
use Rattle.lotos_base.specs.Term.{Term}
use Rattle.lotos_base.specs.Equation.{Data}
use Rattle.lotos_base.proofs.Options.{none_and_some}
use Rattle.behaviour_semantics.specs.Behaviour.{Behaviour, Specification}
use Rattle.behaviour_semantics.specs.Solving.{Entry}
use Rattle.behaviour_semantics.specs.Menu.{IsEntry, Exact}
use Rattle.behaviour_semantics.specs.TransitionLaws.{MovesAreDetermined}
use Rattle.behaviour_semantics.specs.OrderLaws.{AtMostOneMenuIsExact}
use Rattle.behaviour_semantics.proofs.OptionLemmas.{some_value}
use Rattle.certificate_theory.specs.Bisimulation.{turned_round}
use Rattle.certificate_theory.specs.Certificate.{CertificateLine, names_left, names_right, lists_pair, unmatched_left, unmatched_right, CertificateFault, CertificateOutcome, accepted, refused, Comparison, ListedPair, Reading, first_reading, with_left, with_right, with_pair, AreListed, compared_side_of}
use Rattle.certificate_theory.specs.NamedStates.{numbered_entry, IsClosedEntry, EntryLeads, NamesState, NamesNoState, state_is_missing, entry_is_missing, entry_is_open, HasClosedMenu, HasOpenMenu, ListsStates, ListsNoStates, left_is_missing, right_is_missing, left_is_open, right_is_open, LineIsRead, LineFails, LinesAreRead, all_read, one_read, LinesFail, fails_here, fails_later}
use Rattle.certificate_theory.specs.MatchedPairs.{IsMatched, AreMatched, IsFirstUnmatched, PairIsMatched, PairFails, left_fails, right_fails, AllPairsAreMatched, PairsFail}
use Rattle.certificate_theory.specs.Checking.{CertificateComesTo, is_accepted, has_faulty_line, lacks_starts, has_faulty_pair}
use Rattle.certificate_theory.specs.CertificateLaws.{CertificatesComeToOneThing}
use Rattle.certificate_theory.proofs.ClosedEntries.{leads_once}

which_first : (i j : ℕ) → (i ≡ j) ⊎ ((i < j) ⊎ (j < i))
which_first zero zero = inl refl
which_first zero (suc j) = inr (inl (omega arith))
which_first (suc i) zero = inr (inr (omega arith))
which_first (suc i) (suc j) = more (which_first i j)
  where
    more : (i ≡ j) ⊎ ((i < j) ⊎ (j < i)) → (suc i ≡ suc j) ⊎ ((suc i < suc j) ⊎ (suc j < suc i))
    more (inl e) = inl (ap suc e)
    more (inr (inl less)) = inr (inl (omega (arith, less)))
    more (inr (inr less)) = inr (inr (omega (arith, less)))

-- what stands at one place of a list
same_at : {X : Type 0} (xs : List X) (i : ℕ) (x y : X) → slice_get xs i ≡ Some x → slice_get xs i ≡ Some y → x ≡ y
same_at xs i x y one other = some_value (sym one ∙ other)

numbered_is_entry : (menu : List Entry) (number : ℕ) (entry : Entry) → numbered_entry menu number ≡ Some entry → IsEntry menu entry
numbered_is_entry menu zero entry at = absurd (cc at)
numbered_is_entry menu (suc n) entry at = (n, at)

module _ (determined : MovesAreDetermined) (one_menu : AtMostOneMenuIsExact) where
  -- ---- Lines.

  module _ (data_ : Data) (canon : Term → Term) (specification : Specification) where
    same_menu : (b c : Behaviour) (menu other : List Entry) → b ≡ c → Exact data_ canon specification.processes b menu
        → Exact data_ canon specification.processes c other → menu ≡ other
    same_menu b c menu other same exact exact' =
        one_menu data_ canon specification.processes c menu other
        (subst (λ (z : Behaviour). Exact data_ canon specification.processes z menu) same exact) exact'

    names_once : (states : List Behaviour) (from number : ℕ) (target another : Behaviour)
        → NamesState (compared_side_of data_ canon specification) states from number target
        → NamesState (compared_side_of data_ canon specification) states from number another → target ≡ another
    names_once states from number target another p q =
        let state : p.state ≡ q.state = same_at states from p.state q.state p.named q.named in
        let menu : p.menu ≡ q.menu = same_menu p.state q.state p.menu q.menu state p.exact q.exact in
        let entry : p.entry ≡ q.entry =
        some_value (sym p.there ∙ ap (λ (m : List Entry). numbered_entry m number) menu ∙ q.there) in
        leads_once determined data_ canon specification q.state q.entry target another
        (subst (λ (z : Behaviour). EntryLeads (compared_side_of data_ canon specification) z q.entry target) state
        (subst (λ (e : Entry). EntryLeads (compared_side_of data_ canon specification) p.state e target) entry p.leads)) q.leads

    -- an entry that is there once, and either closed or open
    entry_at_once : (states : List Behaviour) (from number : ℕ) (b c : Behaviour) (menu other : List Entry) (entry : Entry)
        → slice_get states from ≡ Some b → slice_get states from ≡ Some c → Exact data_ canon specification.processes b menu
        → Exact data_ canon specification.processes c other → numbered_entry menu number ≡ Some entry
        → numbered_entry other number ≡ Some entry
    entry_at_once states from number b c menu other entry at at' exact exact' there =
        subst (λ (m : List Entry). numbered_entry m number ≡ Some entry)
        (same_menu b c menu other (same_at states from b c at at') exact exact') there

    no_state_once : (states : List Behaviour) (from number line : ℕ) (fault other : CertificateFault)
        → NamesNoState (compared_side_of data_ canon specification) states from number line fault
        → NamesNoState (compared_side_of data_ canon specification) states from number line other → fault ≡ other
    no_state_once states from number line _ _ (state_is_missing p) (state_is_missing q) = refl
    no_state_once states from number line _ _ (entry_is_missing b m at exact p) (entry_is_missing c m' at' exact' q) = refl
    no_state_once states from number line _ _ (entry_is_open b m e at exact p n) (entry_is_open c m' e' at' exact' q n') = refl
    no_state_once states from number line _ _ (state_is_missing p) (entry_is_missing c m' at' exact' q) =
        absurd (none_and_some (slice_get states from) c p at')
    no_state_once states from number line _ _ (state_is_missing p) (entry_is_open c m' e' at' exact' q n') =
        absurd (none_and_some (slice_get states from) c p at')
    no_state_once states from number line _ _ (entry_is_missing b m at exact p) (state_is_missing q) =
        absurd (none_and_some (slice_get states from) b q at)
    no_state_once states from number line _ _ (entry_is_open b m e at exact p n) (state_is_missing q) =
        absurd (none_and_some (slice_get states from) b q at)
    no_state_once states from number line _ _ (entry_is_missing b m at exact p) (entry_is_open c m' e' at' exact' q n') =
        absurd (none_and_some (numbered_entry m number) e' p (entry_at_once states from number c b m' m e' at' at exact' exact q))
    no_state_once states from number line _ _ (entry_is_open b m e at exact p n) (entry_is_missing c m' at' exact' q) =
        absurd (none_and_some (numbered_entry m' number) e q (entry_at_once states from number b c m m' e at at' exact exact' p))

    named_or_not : (states : List Behaviour) (from number line : ℕ) (target : Behaviour) (fault : CertificateFault)
        → NamesState (compared_side_of data_ canon specification) states from number target
        → NamesNoState (compared_side_of data_ canon specification) states from number line fault → ⊥
    named_or_not states from number line target _ p (state_is_missing q) =
        none_and_some (slice_get states from) p.state q p.named
    named_or_not states from number line target _ p (entry_is_missing c m at exact q) =
        none_and_some (numbered_entry m number) p.entry q
        (entry_at_once states from number p.state c p.menu m p.entry p.named at p.exact exact p.there)
    named_or_not states from number line target _ p (entry_is_open c m e at exact q is_open) =
        let same : p.entry ≡ e =
        some_value (sym (entry_at_once states from number p.state c p.menu m p.entry p.named at p.exact exact p.there) ∙ q) in
        is_open (subst IsClosedEntry same p.closed)

    closed_or_open : (b c : Behaviour) → b ≡ c → HasClosedMenu (compared_side_of data_ canon specification) b
        → HasOpenMenu (compared_side_of data_ canon specification) c → ⊥
    closed_or_open b c same p q =
        let menu : p.menu ≡ q.menu = same_menu b c p.menu q.menu same p.exact q.exact in
        q.open_entry (p.closed q.entry (subst (λ (m : List Entry). IsEntry m q.entry) (sym menu) q.there))

  module _ (c : Comparison) where
    no_pair_once : (r : Reading) (i j line : ℕ) (fault other : CertificateFault) → ListsNoStates c r i j line fault
        → ListsNoStates c r i j line other → fault ≡ other
    no_pair_once r i j line _ _ (left_is_missing p) (left_is_missing q) = refl
    no_pair_once r i j line _ _ (left_is_missing p) (right_is_missing q) = refl
    no_pair_once r i j line _ _ (right_is_missing p) (left_is_missing q) = refl
    no_pair_once r i j line _ _ (right_is_missing p) (right_is_missing q) = refl
    no_pair_once r i j line _ _ (left_is_open b d at at' p) (left_is_open b' d' bt bt' q) = refl
    no_pair_once r i j line _ _ (left_is_open b d at at' p) (right_is_open b' d' bt bt' q) = refl
    no_pair_once r i j line _ _ (right_is_open b d at at' p) (left_is_open b' d' bt bt' q) = refl
    no_pair_once r i j line _ _ (right_is_open b d at at' p) (right_is_open b' d' bt bt' q) = refl
    no_pair_once r i j line _ _ (left_is_missing p) (left_is_open b' d' bt bt' q) = absurd (none_and_some (slice_get r.lefts i) b' p bt)
    no_pair_once r i j line _ _ (left_is_missing p) (right_is_open b' d' bt bt' q) = absurd (none_and_some (slice_get r.lefts i) b' p bt)
    no_pair_once r i j line _ _ (right_is_missing p) (left_is_open b' d' bt bt' q) =
        absurd (none_and_some (slice_get r.rights j) d' p bt')
    no_pair_once r i j line _ _ (right_is_missing p) (right_is_open b' d' bt bt' q) =
        absurd (none_and_some (slice_get r.rights j) d' p bt')
    no_pair_once r i j line _ _ (left_is_open b d at at' p) (left_is_missing q) = absurd (none_and_some (slice_get r.lefts i) b q at)
    no_pair_once r i j line _ _ (right_is_open b d at at' p) (left_is_missing q) = absurd (none_and_some (slice_get r.lefts i) b q at)
    no_pair_once r i j line _ _ (left_is_open b d at at' p) (right_is_missing q) = absurd (none_and_some (slice_get r.rights j) d q at')
    no_pair_once r i j line _ _ (right_is_open b d at at' p) (right_is_missing q) = absurd (none_and_some (slice_get r.rights j) d q at')

    listed_or_not : (r : Reading) (i j line : ℕ) (left right : Behaviour) (fault : CertificateFault) → ListsStates c r i j left right
        → ListsNoStates c r i j line fault → ⊥
    listed_or_not r i j line left right _ p (left_is_missing q) = none_and_some (slice_get r.lefts i) left q p.left_named
    listed_or_not r i j line left right _ p (right_is_missing q) = none_and_some (slice_get r.rights j) right q p.right_named
    listed_or_not r i j line left right _ p (left_is_open b d at at' q) =
        closed_or_open c.data_ c.canon c.left left b (same_at r.lefts i left b p.left_named at) p.left_closed q
    listed_or_not r i j line left right _ p (right_is_open b d at at' q) =
        closed_or_open c.data_ c.canon c.right right d (same_at r.rights j right d p.right_named at') p.right_closed q

    line_once : (r : Reading) (line : ℕ) (it : CertificateLine) (next other : Reading) → LineIsRead c r line it next
        → LineIsRead c r line it other → next ≡ other
    line_once r line (names_left from number) next other p q =
        let same : p.0 ≡ q.0 = names_once c.data_ c.canon c.left r.lefts from number p.0 q.0 p.1 q.1 in
        p.2 ∙ ap (with_left r) same ∙ sym q.2
    line_once r line (names_right from number) next other p q =
        let same : p.0 ≡ q.0 = names_once c.data_ c.canon c.right r.rights from number p.0 q.0 p.1 q.1 in
        p.2 ∙ ap (with_right r) same ∙ sym q.2
    line_once r line (lists_pair i j) next other p q =
        let left : p.0 ≡ q.0 = same_at r.lefts i p.0 q.0 p.2.left_named q.2.left_named in
        let right : p.1 ≡ q.1 = same_at r.rights j p.1 q.1 p.2.right_named q.2.right_named in
        p.3 ∙ ap (λ (b : Behaviour). with_pair r (record { line = line; left = b; right = p.1 })) left
        ∙ ap (λ (d : Behaviour). with_pair r (record { line = line; left = q.0; right = d })) right ∙ sym q.3

    line_fault_once : (r : Reading) (line : ℕ) (it : CertificateLine) (fault other : CertificateFault) → LineFails c r line it fault
        → LineFails c r line it other → fault ≡ other
    line_fault_once r line (names_left from number) fault other =
        no_state_once c.data_ c.canon c.left r.lefts from number line fault other
    line_fault_once r line (names_right from number) fault other =
        no_state_once c.data_ c.canon c.right r.rights from number line fault other
    line_fault_once r line (lists_pair i j) fault other = no_pair_once r i j line fault other

    read_or_fails : (r : Reading) (line : ℕ) (it : CertificateLine) (next : Reading) (fault : CertificateFault)
        → LineIsRead c r line it next → LineFails c r line it fault → ⊥
    read_or_fails r line (names_left from number) next fault p =
        named_or_not c.data_ c.canon c.left r.lefts from number line p.0 fault p.1
    read_or_fails r line (names_right from number) next fault p =
        named_or_not c.data_ c.canon c.right r.rights from number line p.0 fault p.1
    read_or_fails r line (lists_pair i j) next fault p = listed_or_not r i j line p.0 p.1 fault p.2

    lines_once : (lines : List CertificateLine) (r : Reading) (line : ℕ) (last other : Reading) → LinesAreRead c r line lines last
        → LinesAreRead c r line lines other → last ≡ other
    lines_once [] r line last other all_read all_read = refl
    lines_once (it ∷ lines) r line last other (one_read {next = n} p rest) (one_read {next = m} q rest') =
        lines_once lines m (suc line) last other
        (subst (λ (z : Reading). LinesAreRead c z (suc line) lines last) (line_once r line it n m p q) rest) rest'

    lines_fault_once : (lines : List CertificateLine) (r : Reading) (line : ℕ) (fault other : CertificateFault)
        → LinesFail c r line lines fault → LinesFail c r line lines other → fault ≡ other
    lines_fault_once [] r line fault other p q = elim p [ ]
    lines_fault_once (it ∷ lines) r line fault other (fails_here p) (fails_here q) = line_fault_once r line it fault other p q
    lines_fault_once (it ∷ lines) r line fault other (fails_here p) (fails_later {next = m} q rest') =
        absurd (read_or_fails r line it m fault q p)
    lines_fault_once (it ∷ lines) r line fault other (fails_later {next = n} p rest) (fails_here q) =
        absurd (read_or_fails r line it n other p q)
    lines_fault_once (it ∷ lines) r line fault other (fails_later {next = n} p rest) (fails_later {next = m} q rest') =
        lines_fault_once lines m (suc line) fault other
        (subst (λ (z : Reading). LinesFail c z (suc line) lines fault) (line_once r line it n m p q) rest) rest'

    lines_read_or_fail : (lines : List CertificateLine) (r : Reading) (line : ℕ) (last : Reading) (fault : CertificateFault)
        → LinesAreRead c r line lines last → LinesFail c r line lines fault → ⊥
    lines_read_or_fail [] r line last fault p q = elim q [ ]
    lines_read_or_fail (it ∷ lines) r line last fault (one_read {next = n} p rest) (fails_here q) = read_or_fails r line it n fault p q
    lines_read_or_fail (it ∷ lines) r line last fault (one_read {next = n} p rest) (fails_later {next = m} q rest') =
        lines_read_or_fail lines m (suc line) last fault
        (subst (λ (z : Reading). LinesAreRead c z (suc line) lines last) (line_once r line it n m p q) rest) rest'

  -- ---- Pairs.

  module _ (data_ : Data) (canon : Term → Term) (one other : Specification) (Listed : Behaviour → Behaviour → Type 0)
      (b c : Behaviour) where
    matched_in : (menu more : List Entry) (entry : Entry) → Exact data_ canon other.processes c menu
        → Exact data_ canon other.processes c more
        → IsMatched (compared_side_of data_ canon one) (compared_side_of data_ canon other) Listed b c menu entry
        → IsMatched (compared_side_of data_ canon one) (compared_side_of data_ canon other) Listed b c more entry
    matched_in menu more entry exact exact' matched =
        subst (λ (m : List Entry). IsMatched (compared_side_of data_ canon one) (compared_side_of data_ canon other) Listed b c m entry)
        (one_menu data_ canon other.processes c menu more exact exact') matched

    matched_or_not : (number : ℕ) → AreMatched (compared_side_of data_ canon one) (compared_side_of data_ canon other) Listed b c
        → IsFirstUnmatched (compared_side_of data_ canon one) (compared_side_of data_ canon other) Listed b c number → ⊥
    matched_or_not number p q =
        let menu : p.menu ≡ q.menu = one_menu data_ canon one.processes b p.menu q.menu p.exact q.exact in
        let listed : IsEntry p.menu q.entry =
        subst (λ (m : List Entry). IsEntry m q.entry) (sym menu) (numbered_is_entry q.menu number q.entry q.there) in
        q.unmatched (matched_in p.other_menu q.other_menu q.entry p.other_exact q.other_exact (p.matched q.entry listed))

    -- none is unmatched before the first
    not_before : (number another : ℕ) → number < another
        → IsFirstUnmatched (compared_side_of data_ canon one) (compared_side_of data_ canon other) Listed b c number
        → IsFirstUnmatched (compared_side_of data_ canon one) (compared_side_of data_ canon other) Listed b c another → ⊥
    not_before number another less p q =
        let menu : p.menu ≡ q.menu = one_menu data_ canon one.processes b p.menu q.menu p.exact q.exact in
        let there : numbered_entry q.menu number ≡ Some p.entry =
        subst (λ (m : List Entry). numbered_entry m number ≡ Some p.entry) menu p.there in
        p.unmatched (matched_in q.other_menu p.other_menu p.entry q.other_exact p.other_exact (q.earlier number p.entry less there))

    first_once : (number another : ℕ) → IsFirstUnmatched (compared_side_of data_ canon one) (compared_side_of data_ canon other)
        Listed b c number
        → IsFirstUnmatched (compared_side_of data_ canon one) (compared_side_of data_ canon other) Listed b c another → number ≡ another
    first_once number another p q = by (which_first number another)
      where
        by : (number ≡ another) ⊎ ((number < another) ⊎ (another < number)) → number ≡ another
        by (inl same) = same
        by (inr (inl less)) = absurd (not_before number another less p q)
        by (inr (inr less)) = absurd (not_before another number less q p)

  module _ (c : Comparison) (pairs : List ListedPair) where
    pair_fault_once : (pair : ListedPair) (fault other : CertificateFault) → PairFails c pairs pair fault
        → PairFails c pairs pair other → fault ≡ other
    pair_fault_once pair fault other (left_fails number p e) (left_fails another q e') =
        let numbers : number ≡ another =
        first_once c.data_ c.canon c.left c.right (AreListed pairs) pair.left pair.right number another p q in
        e ∙ ap (unmatched_left pair.line) numbers ∙ sym e'
    pair_fault_once pair fault other (right_fails number m p e) (right_fails another m' q e') =
        let numbers : number ≡ another =
        first_once c.data_ c.canon c.right c.left (turned_round (AreListed pairs)) pair.right pair.left number another p q in
        e ∙ ap (unmatched_right pair.line) numbers ∙ sym e'
    pair_fault_once pair fault other (left_fails number p e) (right_fails another m' q e') =
        absurd (matched_or_not c.data_ c.canon c.left c.right (AreListed pairs) pair.left pair.right number m' p)
    pair_fault_once pair fault other (right_fails number m p e) (left_fails another q e') =
        absurd (matched_or_not c.data_ c.canon c.left c.right (AreListed pairs) pair.left pair.right another m q)

    pair_matched_or_fails : (pair : ListedPair) (fault : CertificateFault) → PairIsMatched c pairs pair → PairFails c pairs pair fault → ⊥
    pair_matched_or_fails pair fault m (left_fails number p e) =
        matched_or_not c.data_ c.canon c.left c.right (AreListed pairs) pair.left pair.right number m.left p
    pair_matched_or_fails pair fault m (right_fails number m' p e) =
        matched_or_not c.data_ c.canon c.right c.left (turned_round (AreListed pairs)) pair.right pair.left number m.right p

    pairs_fault_once : (fault other : CertificateFault) → PairsFail c pairs fault → PairsFail c pairs other → fault ≡ other
    pairs_fault_once fault other p q = by (which_first p.place q.place)
      where
        by : (p.place ≡ q.place) ⊎ ((p.place < q.place) ⊎ (q.place < p.place)) → fault ≡ other
        by (inl same) =
            let pair : p.pair ≡ q.pair = some_value (sym p.there ∙ ap (slice_get pairs) same ∙ q.there) in
            pair_fault_once q.pair fault other
            (subst (λ (z : ListedPair). PairFails c pairs z fault) pair p.fails) q.fails
        by (inr (inl less)) =
            absurd (pair_matched_or_fails p.pair fault (q.earlier p.place p.pair less p.there) p.fails)
        by (inr (inr less)) =
            absurd (pair_matched_or_fails q.pair other (p.earlier q.place q.pair less q.there) q.fails)

    all_matched_or_fail : (fault : CertificateFault) → AllPairsAreMatched c pairs → PairsFail c pairs fault → ⊥
    all_matched_or_fail fault all p = pair_matched_or_fails p.pair fault (all p.place p.pair p.there) p.fails

  -- ---- The whole certificate.

  module _ (c : Comparison) (lines : List CertificateLine) where
    reading_once : (last other : Reading) → LinesAreRead c (first_reading c) 1 lines last → LinesAreRead c (first_reading c) 1 lines other
        → last ≡ other
    reading_once last other = lines_once c lines (first_reading c) 1 last other

    read_or_fail : (last : Reading) (fault : CertificateFault) → LinesAreRead c (first_reading c) 1 lines last
        → LinesFail c (first_reading c) 1 lines fault → ⊥
    read_or_fail last fault = lines_read_or_fail c lines (first_reading c) 1 last fault

    outcome_once : (outcome other : CertificateOutcome) → CertificateComesTo c lines outcome → CertificateComesTo c lines other
        → outcome ≡ other
    outcome_once _ _ (is_accepted last n read starts matched e) (is_accepted last' n' read' starts' matched' e') =
        ap accepted (e ∙ ap (λ (r : Reading). length r.pairs) (reading_once last last' read read') ∙ sym e')
    outcome_once _ _ (is_accepted last n read starts matched e) (has_faulty_line f' fails') = absurd (read_or_fail last f' read fails')
    outcome_once _ _ (is_accepted last n read starts matched e) (lacks_starts last' read' none') = absurd (none' starts)
    outcome_once _ _ (is_accepted last n read starts matched e) (has_faulty_pair last' f' read' starts' fails') =
        absurd (all_matched_or_fail c last.pairs f' matched
        (subst (λ (r : Reading). PairsFail c r.pairs f') (reading_once last' last read' read) fails'))
    outcome_once _ _ (has_faulty_line f fails) (is_accepted last' n' read' starts' matched' e') = absurd (read_or_fail last' f read' fails)
    outcome_once _ _ (has_faulty_line f fails) (has_faulty_line f' fails') =
        ap refused (lines_fault_once c lines (first_reading c) 1 f f' fails fails')
    outcome_once _ _ (has_faulty_line f fails) (lacks_starts last' read' none') = absurd (read_or_fail last' f read' fails)
    outcome_once _ _ (has_faulty_line f fails) (has_faulty_pair last' f' read' starts' fails') = absurd (read_or_fail last' f read' fails)
    outcome_once _ _ (lacks_starts last read none) (is_accepted last' n' read' starts' matched' e') = absurd (none starts')
    outcome_once _ _ (lacks_starts last read none) (has_faulty_line f' fails') = absurd (read_or_fail last f' read fails')
    outcome_once _ _ (lacks_starts last read none) (lacks_starts last' read' none') = refl
    outcome_once _ _ (lacks_starts last read none) (has_faulty_pair last' f' read' starts' fails') = absurd (none starts')
    outcome_once _ _ (has_faulty_pair last f read starts fails) (is_accepted last' n' read' starts' matched' e') =
        absurd (all_matched_or_fail c last'.pairs f matched'
        (subst (λ (r : Reading). PairsFail c r.pairs f) (reading_once last last' read read') fails))
    outcome_once _ _ (has_faulty_pair last f read starts fails) (has_faulty_line f' fails') = absurd (read_or_fail last f' read fails')
    outcome_once _ _ (has_faulty_pair last f read starts fails) (lacks_starts last' read' none') = absurd (none' starts)
    outcome_once _ _ (has_faulty_pair last f read starts fails) (has_faulty_pair last' f' read' starts' fails') =
        ap refused (pairs_fault_once c last'.pairs f f'
        (subst (λ (r : Reading). PairsFail c r.pairs f) (reading_once last last' read read') fails) fails')

pub one_outcome : MovesAreDetermined → AtMostOneMenuIsExact → CertificatesComeToOneThing
one_outcome determined one_menu = outcome_once determined one_menu
