-- A line that asks for a list comes to one thing at most.
use Rattle.std.proofs.Common.{◌≡◌, ℕ, ◌<◌, ◌≤◌, List, [], ◌∷◌, length, refl, ap, sym, ◌∙◌, subst, inl, inr, arith}
use Rattle.std.specs.Prelude.{Option, Some, None, slice_get}
use Rattle.std.proofs.lemmas.Option.{same_Some}
use Rattle.lotos_base.specs.Signature.{Signature, IsWellFormedSignature}
use Rattle.lotos_base.specs.Term.{Term}
use Rattle.behaviour_semantics.specs.Solving.{Entry}
use Rattle.sort_terms.specs.Reading.{IsSortNamed}
use Rattle.session_histories.specs.Refusal.{entry_numbered}
use Rattle.session_histories.specs.Session.{SessionBasis}
use Rattle.value_lists.specs.Tuples.{TupleBefore, tuple_count, AllHaveEachOnce}
use Rattle.value_lists.specs.declared.limits.TheConstants.{MAX_VALUES, MAX_INSTANCES}
use Rattle.value_lists.proofs.ListLemmas.{listed_once, not_more_and_few, has_each_once}
use Rattle.value_lists.proofs.RisingLists.{one_list, pairs_rise, among_contains, contains_among}
use Rattle.value_lists.proofs.TupleOrderLemmas.{not_before_itself, before_then}
use Rattle.value_lists.specs.ListOutcome.{ListRefusal, ListOutcome, listed, refused, IsOwnForm, IsListOf, HasTooMany, HasFew, ValuesComeTo, has_no_sort, has_too_many, has_values, AreListsOf, IsInstanceList, MayChoose, EntryInstances, InstancesComeTo, has_no_entry, has_too_many_values, has_too_many_instances, has_instances}

-- there are too many values, or there are not
clash : (basis : SessionBasis) (size : ℕ) → HasTooMany basis size → HasFew basis size → ⊥
clash basis size more few = not_more_and_few basis.data_.signature (IsOwnForm basis) size MAX_VALUES more few

-- ---- Values

-- a name is that of one sort
one_sort : (signature : Signature) (name : List ℕ) (s r : ℕ) → IsWellFormedSignature signature → IsSortNamed signature s name
    → IsSortNamed signature r name → s ≡ r
one_sort signature name s r well h k = well.sort_names s r h.0 k.0 h.1 k.1 (h.2 ∙ sym k.2)

pub values_once : (basis : SessionBasis) (name : List ℕ) (size : ℕ) (one other : ListOutcome (List Term))
    → IsWellFormedSignature basis.data_.signature → ValuesComeTo basis name size one → ValuesComeTo basis name size other
    → one ≡ other
values_once basis name size one other well (has_no_sort none) (has_no_sort nothing) = refl
values_once basis name size one other well (has_no_sort none) (has_too_many sort named more) = absurd (none sort named)
values_once basis name size one other well (has_no_sort none) (has_values sort terms named few is) = absurd (none sort named)
values_once basis name size one other well (has_too_many sort named more) (has_no_sort none) = absurd (none sort named)
values_once basis name size one other well (has_too_many sort named more) (has_too_many again is_named most) = refl
values_once basis name size one other well (has_too_many sort named more) (has_values again terms is_named few is) =
    absurd (clash basis size more few)
values_once basis name size one other well (has_values sort terms named few is) (has_no_sort none) = absurd (none sort named)
values_once basis name size one other well (has_values sort terms named few is) (has_too_many again is_named more) =
    absurd (clash basis size more few)
values_once basis name size one other well (has_values sort terms named few is) (has_values again others is_named small are) =
    ap (λ (ts : List Term). listed ts)
    (listed_once is (subst (λ (s : ℕ). IsListOf basis size s others)
    (sym (one_sort basis.data_.signature name sort again well named is_named)) are))

-- ---- Instances

lists_once : (basis : SessionBasis) (size : ℕ) (sorts : List ℕ) (choices others : List (List Term)) → AreListsOf basis size sorts choices
    → AreListsOf basis size sorts others → choices ≡ others
lists_once basis size [] [] [] are is = refl
lists_once basis size [] [] (other ∷ others) are is = absurd is
lists_once basis size [] (choice ∷ choices) others are is = absurd are
lists_once basis size (sort ∷ sorts) [] others are is = absurd are
lists_once basis size (sort ∷ sorts) (choice ∷ choices) [] are is = absurd is
lists_once basis size (sort ∷ sorts) (choice ∷ choices) (other ∷ others) are is =
    let first : choice ≡ other = listed_once are.0 is.0 in
    let rest : choices ≡ others = lists_once basis size sorts choices others are.1 is.1 in
    λ i. first i ∷ rest i

each_once : (basis : SessionBasis) (size : ℕ) (sorts : List ℕ) (choices : List (List Term)) → AreListsOf basis size sorts choices
    → AllHaveEachOnce choices
each_once basis size [] [] are = tt
each_once basis size [] (choice ∷ choices) are = absurd are
each_once basis size (sort ∷ sorts) [] are = absurd are
each_once basis size (sort ∷ sorts) (choice ∷ choices) are = (has_each_once are.0, each_once basis size sorts choices are.1)

tuples_once : (basis : SessionBasis) (entry : Entry) (choices tuples others : List (List Term)) → AllHaveEachOnce choices
    → IsInstanceList basis entry choices tuples → IsInstanceList basis entry choices others → tuples ≡ others
tuples_once basis entry choices tuples others once one other =
    one_list (TupleBefore choices) (λ ts h. not_before_itself choices ts once h) (λ ts us vs h k. before_then choices ts us vs once h k)
    tuples others (pairs_rise (TupleBefore choices) tuples one.rising) (pairs_rise (TupleBefore choices) others other.rising)
    (λ ts h. contains_among others ts ((other.exactly ts).1 ((one.exactly ts).0 (among_contains tuples ts h))))
    (λ ts h. contains_among tuples ts ((one.exactly ts).1 ((other.exactly ts).0 (among_contains others ts h))))

-- an entry may choose, or there are too many values for its variables
cannot : (basis : SessionBasis) (size : ℕ) (entry : Entry) → 0 < length entry.variables → HasTooMany basis size
    → MayChoose basis size entry → ⊥
cannot basis size entry some more (inl none) =
    let same : length entry.variables ≡ 0 = ap length none in omega (arith, some, same)
cannot basis size entry some more (inr few) = clash basis size more few

one_entry : (menu : List Entry) (number : ℕ) (entry other : Entry) → entry_numbered menu number ≡ Some entry
    → entry_numbered menu number ≡ Some other → entry ≡ other
one_entry menu number entry other is at = same_Some entry other (sym is ∙ at)

no_entry_and_one : (menu : List Entry) (number : ℕ) (entry : Entry) → entry_numbered menu number ≡ None
    → entry_numbered menu number ≡ Some entry → ⊥
no_entry_and_one menu number entry none is = cc (none, is)

-- the lists of one entry
choices_once : (basis : SessionBasis) (size : ℕ) (entry other : Entry) (choices others : List (List Term)) → entry ≡ other
    → AreListsOf basis size entry.variables choices → AreListsOf basis size other.variables others → choices ≡ others
choices_once basis size entry other choices others same are is =
    lists_once basis size entry.variables choices others are
    (subst (λ (e : Entry). AreListsOf basis size e.variables others) (sym same) is)

too_many_and_few : (choices others : List (List Term)) → choices ≡ others → MAX_INSTANCES < tuple_count choices
    → tuple_count others ≤ MAX_INSTANCES → ⊥
too_many_and_few choices others same more few =
    let counts : tuple_count choices ≡ tuple_count others = ap tuple_count same in omega (arith, counts, more, few)

pub instances_once : (basis : SessionBasis) (menu : List Entry) (number size : ℕ) (one other : ListOutcome EntryInstances)
    → InstancesComeTo basis menu number size one → InstancesComeTo basis menu number size other → one ≡ other
instances_once basis menu number size one other (has_no_entry none) (has_no_entry nothing) = refl
instances_once basis menu number size one other (has_no_entry none) (has_too_many_values entry is some more) =
    absurd (no_entry_and_one menu number entry none is)
instances_once basis menu number size one other (has_no_entry none) (has_too_many_instances entry choices is may are more) =
    absurd (no_entry_and_one menu number entry none is)
instances_once basis menu number size one other (has_no_entry none) (has_instances entry choices tuples is may are few lists) =
    absurd (no_entry_and_one menu number entry none is)
instances_once basis menu number size one other (has_too_many_values entry is some more) (has_no_entry none) =
    absurd (no_entry_and_one menu number entry none is)
instances_once basis menu number size one other (has_too_many_values entry is some more) (has_too_many_values again at most all) = refl
instances_once basis menu number size one other (has_too_many_values entry is some more)
    (has_too_many_instances again choices at may are most) =
    absurd (cannot basis size entry some more
    (subst (λ (e : Entry). MayChoose basis size e) (sym (one_entry menu number entry again is at)) may))
instances_once basis menu number size one other (has_too_many_values entry is some more)
    (has_instances again choices tuples at may are few lists) =
    absurd (cannot basis size entry some more
    (subst (λ (e : Entry). MayChoose basis size e) (sym (one_entry menu number entry again is at)) may))
instances_once basis menu number size one other (has_too_many_instances entry choices is may are more) (has_no_entry none) =
    absurd (no_entry_and_one menu number entry none is)
instances_once basis menu number size one other (has_too_many_instances entry choices is may are more)
    (has_too_many_values again at some most) =
    absurd (cannot basis size again some most
    (subst (λ (e : Entry). MayChoose basis size e) (one_entry menu number entry again is at) may))
instances_once basis menu number size one other (has_too_many_instances entry choices is may are more)
    (has_too_many_instances again others at can all most) = refl
instances_once basis menu number size one other (has_too_many_instances entry choices is may are more)
    (has_instances again others tuples at can all few lists) =
    absurd (too_many_and_few choices others
    (choices_once basis size entry again choices others (one_entry menu number entry again is at) are all) more few)
instances_once basis menu number size one other (has_instances entry choices tuples is may are few lists) (has_no_entry none) =
    absurd (no_entry_and_one menu number entry none is)
instances_once basis menu number size one other (has_instances entry choices tuples is may are few lists)
    (has_too_many_values again at some most) =
    absurd (cannot basis size again some most
    (subst (λ (e : Entry). MayChoose basis size e) (one_entry menu number entry again is at) may))
instances_once basis menu number size one other (has_instances entry choices tuples is may are few lists)
    (has_too_many_instances again others at can all more) =
    absurd (too_many_and_few others choices
    (sym (choices_once basis size entry again choices others (one_entry menu number entry again is at) are all)) more few)
instances_once basis menu number size one other (has_instances entry choices tuples is may are few lists)
    (has_instances again others more at can all small list) =
    let same : entry ≡ again = one_entry menu number entry again is at in
    let chosen : choices ≡ others = choices_once basis size entry again choices others same are all in
    let tuples_same : tuples ≡ more =
    tuples_once basis entry choices tuples more (each_once basis size entry.variables choices are) lists
    (subst (λ (e : Entry). IsInstanceList basis e choices more) (sym same)
    (subst (λ (cs : List (List Term)). IsInstanceList basis again cs more) (sym chosen) list)) in
    λ i. listed (record { entry = same i; tuples = tuples_same i })
