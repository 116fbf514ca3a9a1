-- The steps of a trial of the code.
use Rattle.std.proofs.Common.{◌≡◌, ℕ, zero, suc, ◌+◌, ◌-◌, ◌*◌, ◌<◌, ◌≤◌, List, [], ◌∷◌, ◌++◌, length, get_or, map, drop, Bool, true, false, nat_eq, refl, ap, sym, ◌∙◌, subst, arith}
use Rattle.std.specs.Prelude.{if◌then◌else◌, not, ◌&&◌, MatchOption, IfErr, IsErrAnd, Result, Ok, Err, Option, None, Some}
use Rattle.std.proofs.lemmas.Bool.{eq-eqb, eqb-true, ne_eqb, and_parts}
use Rattle.std.proofs.lemmas.List.{append-nil, drop-map, length-drop, length-map, length_push, map_push}
use Rattle.lotos_base.proofs.Members.{read_map}
use Rattle.rewriting_theory.specs.Matching.{Matches, NoMatch}
use Rattle.rewriting_theory.specs.Rule.{Rule as PlainRule}
use Rattle.sort_terms.specs.ProfiledTerm.{ProfiledTerm, bare, profiled_node}
use Rattle.sort_terms.specs.TermView.{all_profiled, profiled_of, term_of, bare_terms_of}
use Rattle.sort_terms.specs.declared.terms.Term.{Term}
use Rattle.term_match.proofs.MatchLemmas.{search_is_match}
use Rattle.term_match.proofs.SearchLemmas.{Pairs}
use Rattle.path_order.specs.RuleView.{rule_of}
use Rattle.path_order.specs.RulesView.{plain_rules_in}
use Rattle.path_order.specs.declared.rules.Rules.{Rules}
use Rattle.term_rewriter.specs.FirstMatch.{NoneMatches, IsFirstRule}
use Rattle.term_rewriter.proofs.FirstLemmas.{code_at, plain_at}
use Rattle.value_lists.specs.FaultMeaning.{FaultMeans}
use Rattle.value_lists.specs.RootTest.{no_rule_matches}
use Rattle.value_lists.specs.Search as plain
use Rattle.value_lists.specs.Search.{kept, found_behind, found_by}
use Rattle.value_lists.specs.TermOrder.{term_size, term_sizes}
use Rattle.value_lists.specs.TrialView.{applied_in, found_here, found_next, found_through, HasPlace, IsPart, leaves_over_at, profiled_value, sorts_behind, trial_sorts_of, suits_at, trial_of, values_in}
use Rattle.value_lists.specs.declared.list_fault.ListFault.{ListFault}
use Rattle.value_lists.specs.declared.list_fault.ListFault.TheVariants.{TooManyValues, TooManyInstances, NoMemory}
use Rattle.value_lists.specs.declared.trials.Trial.{Trial}
use Rattle.value_lists.specs.declared.value.Value.{Value}
use Rattle.value_lists.proofs.NormalParts.{test_complete, test_fails}
use Rattle.value_lists.proofs.Profiles.{plain as plain_terms, sizes_joined}
use Rattle.value_lists.proofs.SearchLemmas.{suits_parts}
use Rattle.value_lists.proofs.TrialLemmas.{found_among, found_among_all, trial_full}

-- ---- The root test

pub none_plain : (rules : Rules) (t : ProfiledTerm) → NoneMatches rules.rules.items t
    → true ≡ no_rule_matches (plain_rules_in rules) (bare t)
none_plain rules t none =
    sym (test_complete (plain_rules_in rules) (bare t) (λ rule is.
    let from = code_at rules.rules.items is.0 rule is.1 in
    subst (λ (r : PlainRule). ¬ Matches r.left (bare t)) from.2 (none is.0 from.0 from.1)))

pub some_plain : (rules : Rules) (number : ℕ) (t : ProfiledTerm) → IsFirstRule rules.rules.items number t
    → false ≡ no_rule_matches (plain_rules_in rules) (bare t)
some_plain rules number t m =
    sym (test_fails (plain_rules_in rules) (bare t) (λ none.
    none (rule_of m.is_first.rule) (number, plain_at rules.rules.items number m.is_first.rule m.is_first.is_at)
    (_, (search_is_match _ t m.pairs m.is_first.found).makes)))

pub told_none : (rules : Rules) (t : ProfiledTerm) (found : Option ℕ)
    → MatchOption found (NoneMatches rules.rules.items t) (λ number. IsFirstRule rules.rules.items number t) → found ≡ None
    → true ≡ no_rule_matches (plain_rules_in rules) (bare t)
told_none rules t None told is = none_plain rules t told
told_none rules t (Some number) told is = absurd (cc is)

pub told_some : (rules : Rules) (t : ProfiledTerm) (found : Option ℕ) (number : ℕ)
    → MatchOption found (NoneMatches rules.rules.items t) (λ number. IsFirstRule rules.rules.items number t) → found ≡ Some number
    → false ≡ no_rule_matches (plain_rules_in rules) (bare t)
told_some rules t None number told is = absurd (cc is)
told_some rules t (Some other) number told is = some_plain rules other t told

-- ---- Faults

pub fault_handed : {T : Type 0} (result : Result T ListFault) (fault : ListFault) (P Q : Type 0) → IsErrAnd result (λ e. e ≡ fault)
    → (P → Q) → FaultMeans P ⊥ fault → IfErr result (λ e. FaultMeans Q ⊥ e)
fault_handed (Ok x) fault P Q is onward means = absurd is
fault_handed (Err e) fault P Q is onward means =
    subst (λ (f : ListFault). FaultMeans Q ⊥ f) (sym is) (go fault means)
  where
    go : (f : ListFault) → FaultMeans P ⊥ f → FaultMeans Q ⊥ f
    go TooManyValues h = onward h
    go TooManyInstances h = h
    go NoMemory h = tt

-- ---- What is kept

-- copies of the chosen arguments
pub applied_same : (self : Trial) (xs ys : List Term) → all_profiled xs ≡ all_profiled ys → applied_in self xs ≡ applied_in self ys
applied_same self xs ys same = ap (profiled_node (trial_of self).number (trial_of self).operation) same

kept_not : (trial : plain.Trial) (chosen : List ProfiledTerm) (left : ℕ) → left ≡ 0
    → trial.keeps (plain.trial_applied trial chosen) ≡ false → kept trial chosen left ≡ []
kept_not trial chosen left none not_kept = go (nat_eq left 0) (trial.keeps (plain.trial_applied trial chosen)) not_kept
  where
    go : (b k : Bool) → k ≡ false
        → (if b then (if k then plain.trial_applied trial chosen ∷ [] else []) else []) ≡ []
    go true true e = absurd (cc e)
    go true false e = refl
    go false k e = refl

kept_is : (trial : plain.Trial) (chosen : List ProfiledTerm) (left : ℕ) → left ≡ 0
    → trial.keeps (plain.trial_applied trial chosen) ≡ true → kept trial chosen left ≡ plain.trial_applied trial chosen ∷ []
kept_is trial chosen left none is_kept = go (nat_eq left 0) (eq-eqb left 0 none) (trial.keeps (plain.trial_applied trial chosen)) is_kept
  where
    go : (b : Bool) → b ≡ true → (k : Bool) → k ≡ true
        → (if b then (if k then plain.trial_applied trial chosen ∷ [] else []) else []) ≡ plain.trial_applied trial chosen ∷ []
    go true e true h = refl
    go true e false h = absurd (cc h)
    go false e k h = absurd (cc e)

kept_later : (trial : plain.Trial) (chosen : List ProfiledTerm) (left : ℕ) → (left ≡ 0 → ⊥) → kept trial chosen left ≡ []
kept_later trial chosen left some = go (nat_eq left 0) (ne_eqb left 0 some)
  where
    go : (b : Bool) → b ≡ false
        → (if b then (if trial.keeps (plain.trial_applied trial chosen) then plain.trial_applied trial chosen ∷ [] else []) else []) ≡ []
    go true e = absurd (cc e)
    go false e = refl

pub keep_not : (self : Trial) (chosen : List Term) (left : ℕ) (found : List ProfiledTerm) (term : ProfiledTerm) (b : Bool)
    → left ≡ 0 → term ≡ applied_in self chosen → b ≡ no_rule_matches (plain_rules_in self.rules.now) (bare term) → b ≡ false
    → found ≡ found ++ found_here self chosen left
keep_not self chosen left found term b none is tested failed =
    sym (append-nil found)
    ∙ ap (λ (ts : List ProfiledTerm). found ++ ts)
    (sym (kept_not (trial_of self) (map profiled_of chosen) left none
    (ap (λ (t : ProfiledTerm). no_rule_matches (plain_rules_in self.rules.now) (bare t)) (sym is) ∙ sym tested ∙ failed)))

pub keep_one : (self : Trial) (chosen : List Term) (left : ℕ) (found : List ProfiledTerm) (term : ProfiledTerm) (b : Bool)
    → left ≡ 0 → term ≡ applied_in self chosen → b ≡ no_rule_matches (plain_rules_in self.rules.now) (bare term) → b ≡ true
    → found ++ term ∷ [] ≡ found ++ found_here self chosen left
keep_one self chosen left found term b none is tested passed =
    ap (λ (t : ProfiledTerm). found ++ t ∷ []) is
    ∙ ap (λ (ts : List ProfiledTerm). found ++ ts)
    (sym (kept_is (trial_of self) (map profiled_of chosen) left none
    (ap (λ (t : ProfiledTerm). no_rule_matches (plain_rules_in self.rules.now) (bare t)) (sym is) ∙ sym tested ∙ passed)))

pub keep_full : (self : Trial) (chosen : List Term) (left : ℕ) (found : List Value) (term : ProfiledTerm) (b : Bool) (room : ℕ)
    → left ≡ 0 → term ≡ applied_in self chosen → b ≡ no_rule_matches (plain_rules_in self.rules.now) (bare term) → b ≡ true
    → length found ≡ room → room < length (values_in found ++ found_here self chosen left)
keep_full self chosen left found term b room none is tested passed full =
    let longer = length_push (values_in found) term in
    let same = length-map found profiled_value in
    subst (λ (ts : List ProfiledTerm). room < length ts)
    (keep_one self chosen left (values_in found) term b none is tested passed)
    (omega (arith, longer, same, full))

-- ---- The next argument

pub has_place : (self : Trial) (chosen others : List Term) (left n m : ℕ) → others ≡ chosen → IsPart self chosen left
    → n ≡ length chosen → m ≡ length (trial_sorts_of self) → (n ≡ m → ⊥) → HasPlace self others
has_place self chosen others left n m same part count arity differ =
    let places = part.places in
    let lengths : length others ≡ length chosen = ap length same in
    grind (arith, places, count, arity, differ, lengths)

-- what a value that suits says
-- Its size is at most what is left, and at least the next sort is there.
pub suited : (sorts : List ℕ) (left : ℕ) (value : Value) → suits_at sorts left value ≡ true → value.size ≤ left
suited [] left value h = absurd (cc h)
suited (sort ∷ sorts) left value h =
    let small = (suits_parts sort (length sorts) left (profiled_value value) h).1 in
    let size = value.sized in
    omega (arith, small, size)

-- whether a value is the last argument and leaves something, by how many are behind it
pub late_by : (sorts : List ℕ) (at left : ℕ) (value : Value) (behind : ℕ) → at < length sorts → behind ≡ length sorts - at - 1
    → leaves_over_at (drop at sorts) left value ≡ (nat_eq behind 0 && not (nat_eq value.size left))
late_by sorts at left value behind within is = go (drop at sorts) (length-drop at sorts)
  where
    go : (rest : List ℕ) → length rest ≡ length sorts - at
        → leaves_over_at rest left value ≡ (nat_eq behind 0 && not (nat_eq value.size left))
    go [] e = absurd (omega (arith, within, e))
    go (sort ∷ rest) e =
        let same : length rest ≡ behind = omega (arith, within, is, e) in
        ap (λ (n : ℕ). nat_eq n 0 && not (nat_eq value.size left)) same

-- nothing is found with a last argument that leaves something
late : (trial : plain.Trial) (chosen : List ProfiledTerm) (sorts : List ℕ) (left : ℕ) → length sorts ≡ 0 → (left ≡ 0 → ⊥)
    → found_behind trial chosen sorts left ≡ []
late trial chosen [] left none some = kept_later trial chosen left some
late trial chosen (sort ∷ sorts) left none some = absurd (omega (arith, none))

found_by_late : (trial : plain.Trial) (chosen : List ProfiledTerm) (sorts : List ℕ) (left : ℕ) (value : Value)
    → suits_at sorts left value ≡ true → leaves_over_at sorts left value ≡ true
    → found_by trial chosen sorts left (profiled_value value) ≡ []
found_by_late trial chosen [] left value h over = refl
found_by_late trial chosen (sort ∷ sorts) left value h over =
    let parts = and_parts (nat_eq (length sorts) 0) (not (nat_eq value.size left)) over in
    let none : length sorts ≡ 0 = eqb-true (length sorts) 0 parts.0 in
    let small = suited (sort ∷ sorts) left value h in
    let differ : value.size ≡ left → ⊥ = λ e. not_same value.size left e parts.1 in
    ap (λ (b : Bool). if b then found_behind trial (chosen ++ profiled_value value ∷ []) sorts
    (left - term_size (bare (profiled_value value))) else []) h
    ∙ ap (λ (n : ℕ). found_behind trial (chosen ++ profiled_value value ∷ []) sorts (left - n)) value.sized
    ∙ late trial (chosen ++ profiled_value value ∷ []) sorts (left - value.size) none (λ e. differ (omega (arith, small, e)))
  where
    not_same : (n m : ℕ) → n ≡ m → not (nat_eq n m) ≡ true → ⊥
    not_same n m e h = let no : not true ≡ true = sym (ap not (eq-eqb n m e)) ∙ h in cc no

pub with_late : (self : Trial) (chosen : List Term) (left : ℕ) (value : Value) (found : List ProfiledTerm) (b d : Bool)
    → b ≡ suits_at (sorts_behind self chosen) left value → b ≡ true → d ≡ leaves_over_at (sorts_behind self chosen) left value
    → d ≡ true → found ≡ found ++ found_through self chosen left value
with_late self chosen left value found b d tested passed over is =
    sym (append-nil found)
    ∙ ap (λ (ts : List ProfiledTerm). found ++ ts)
    (sym (found_by_late (trial_of self) (map profiled_of chosen) (sorts_behind self chosen) left value (sym tested ∙ passed)
    (sym over ∙ is)))

rest_of : (sorts : List ℕ) (i : ℕ) (sort : ℕ) (rest : List ℕ) → drop i sorts ≡ sort ∷ rest → drop (i + 1) sorts ≡ rest
rest_of [] zero sort rest h = absurd (cc h)
rest_of [] (suc i) sort rest h = absurd (cc h)
rest_of (s ∷ ss) zero sort rest h = let e : ss ≡ rest = cc in e
rest_of (s ∷ ss) (suc i) sort rest h =
    let next : suc i + 1 ≡ suc (i + 1) = omega arith in
    ap (λ (n : ℕ). drop n (s ∷ ss)) next ∙ rest_of ss i sort rest h

pub found_by_is : (trial : plain.Trial) (chosen : List ProfiledTerm) (sorts : List ℕ) (i left : ℕ) (value : Value)
    → suits_at (drop i sorts) left value ≡ true
    → found_by trial chosen (drop i sorts) left (profiled_value value)
    ≡ found_behind trial (chosen ++ profiled_value value ∷ []) (drop (i + 1) sorts) (left - value.size)
found_by_is trial chosen sorts i left value h = go (drop i sorts) refl h
  where
    go : (rest : List ℕ) → drop i sorts ≡ rest → suits_at rest left value ≡ true
        → found_by trial chosen rest left (profiled_value value)
        ≡ found_behind trial (chosen ++ profiled_value value ∷ []) (drop (i + 1) sorts) (left - value.size)
    go [] is h = absurd (cc h)
    go (sort ∷ rest) is h =
        ap (λ (b : Bool). if b then found_behind trial (chosen ++ profiled_value value ∷ []) rest
        (left - term_size (bare (profiled_value value))) else []) h
        ∙ ap (λ (n : ℕ). found_behind trial (chosen ++ profiled_value value ∷ []) rest (left - n)) value.sized
        ∙ ap (λ (ss : List ℕ). found_behind trial (chosen ++ profiled_value value ∷ []) ss (left - value.size))
        (sym (rest_of sorts i sort rest is))

-- with the value behind the chosen ones
pub through_is : (self : Trial) (chosen more : List Term) (left : ℕ) (value : Value) (copy : Term) (b : Bool)
    → more ≡ chosen ++ copy ∷ [] → profiled_of copy ≡ profiled_of value.term
    → b ≡ suits_at (sorts_behind self chosen) left value → b ≡ true
    → found_next self more (left - value.size) ≡ found_through self chosen left value
through_is self chosen more left value copy b is copied tested passed =
    let count : length more ≡ length chosen + 1 = ap length is ∙ length_push chosen copy in
    let profiles : map profiled_of more ≡ map profiled_of chosen ++ profiled_value value ∷ [] =
    ap (map profiled_of) is ∙ map_push profiled_of chosen copy ∙ ap (λ (t : ProfiledTerm). map profiled_of chosen ++ t ∷ []) copied in
    ap (λ (n : ℕ). found_behind (trial_of self) (map profiled_of more) (drop n (trial_sorts_of self)) (left - value.size)) count
    ∙ ap (λ (ts : List ProfiledTerm). found_behind (trial_of self) ts (drop (length chosen + 1) (trial_sorts_of self)) (left - value.size))
    profiles
    ∙ sym (found_by_is (trial_of self) (map profiled_of chosen) (trial_sorts_of self) (length chosen) left value (sym tested ∙ passed))

pub part_more : (self : Trial) (chosen more : List Term) (left : ℕ) (value : Value) (copy : Term) (b : Bool)
    → more ≡ chosen ++ copy ∷ [] → profiled_of copy ≡ profiled_of value.term
    → b ≡ suits_at (sorts_behind self chosen) left value → b ≡ true → IsPart self chosen left → HasPlace self chosen
    → IsPart self more (left - value.size)
part_more self chosen more left value copy b is copied tested passed part place =
    let count : length more ≡ length chosen + 1 = ap length is ∙ length_push chosen copy in
    let profiles : map profiled_of more ≡ map profiled_of chosen ++ profiled_value value ∷ [] =
    ap (map profiled_of) is ∙ map_push profiled_of chosen copy ∙ ap (λ (t : ProfiledTerm). map profiled_of chosen ++ t ∷ []) copied in
    let small = suited (sorts_behind self chosen) left value (sym tested ∙ passed) in
    let sizes : term_sizes (bare_terms_of more) ≡ term_sizes (bare_terms_of chosen) + (term_size (term_of value.term) + 0) =
    ap (λ (ts : List ProfiledTerm). term_sizes (plain_terms ts)) profiles
    ∙ sizes_joined (map profiled_of chosen) (profiled_value value ∷ []) in
    let own = value.sized in
    let whole = part.sizes in
    record {
      places = omega (arith, count, place);
      sizes = omega (arith, sizes, small, own, whole);
    }

-- at the start of the loop nothing is done
pub loop_starts : (self : Trial) (chosen : List Term) (left : ℕ) (found : List ProfiledTerm) (values : List Value)
    → HasPlace self chosen → values ≡ self.smaller.now
    → found ++ found_among (trial_of self) (map profiled_of chosen) (sorts_behind self chosen) left (values_in values)
    ≡ found ++ found_next self chosen left
loop_starts self chosen left found values place all =
    let some = drop_length (trial_sorts_of self) (length chosen) place in
    ap (λ (ts : List Value). found ++ found_among (trial_of self) (map profiled_of chosen) (sorts_behind self chosen) left (values_in ts))
    all
    ∙ ap (λ (ts : List ProfiledTerm). found ++ ts)
    (found_among_all (trial_of self) (map profiled_of chosen) (sorts_behind self chosen) left some)
  where
    drop_length : (xs : List ℕ) (i : ℕ) → i < length xs → 0 < length (drop i xs)
    drop_length [] i within = absurd (omega (arith, within))
    drop_length (x ∷ xs) zero within = omega arith
    drop_length (x ∷ xs) (suc i) within = drop_length xs i (omega (arith, within))

-- with one of the values as the next argument there is too much already
pub value_full : (self : Trial) (chosen now : List Term) (left i : ℕ) (value : Value) (found whole : List ProfiledTerm) (room : ℕ)
    → now ≡ chosen → i < length self.smaller.now → value ≡ get_or self.smaller.now i value
    → found ++ found_among (trial_of self) (map profiled_of chosen) (sorts_behind self chosen) left (values_in (drop i self.smaller.now))
    ≡ whole
    → room < length (found ++ found_through self now left value) → room < length whole
value_full self chosen now left i value found whole room same within is so_far full =
    let count = length-map self.smaller.now profiled_value in
    trial_full (trial_of self) (map profiled_of chosen) (sorts_behind self chosen) left (values_in self.smaller.now) found whole i room
    (profiled_value value) (omega (arith, within, count))
    (ap profiled_value is ∙ sym (read_map profiled_value self.smaller.now i value))
    (subst (λ (ts : List Term). room < length (found ++ found_through self ts left value)) same full)
    (ap (λ (ts : List ProfiledTerm). found ++ found_among (trial_of self) (map profiled_of chosen) (sorts_behind self chosen) left ts)
    (drop-map profiled_value i self.smaller.now) ∙ so_far)

-- what the test of a value says, by how many arguments are chosen
pub tested_at : (self : Trial) (chosen : List Term) (left n : ℕ) (value : Value) (b : Bool) → n ≡ length chosen
    → b ≡ suits_at (drop n (trial_sorts_of self)) left value → b ≡ suits_at (sorts_behind self chosen) left value
tested_at self chosen left n value b count tested = tested ∙ ap (λ (k : ℕ). suits_at (drop k (trial_sorts_of self)) left value) count

pub late_at : (self : Trial) (chosen : List Term) (left n : ℕ) (value : Value) (b : Bool) → n ≡ length chosen
    → b ≡ leaves_over_at (drop n (trial_sorts_of self)) left value → b ≡ leaves_over_at (sorts_behind self chosen) left value
late_at self chosen left n value b count tested =
    tested ∙ ap (λ (k : ℕ). leaves_over_at (drop k (trial_sorts_of self)) left value) count
