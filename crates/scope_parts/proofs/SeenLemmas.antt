-- Reading a term over the variables that its names mean comes to the same as reading it over all that are visible.
use Rattle.std.proofs.Common.{◌≡◌, ℕ, zero, suc, ◌<◌, Bool, true, false, ◌||◌, List, [], ◌∷◌, ◌++◌, inl, inr, refl, ap, sym, ◌∙◌, subst, arith}
use Rattle.std.specs.Prelude.{Option, None, Some, slice_get, is_some, if◌then◌else◌}
use Rattle.std.specs.Option.{option_or}
use Rattle.std.specs.Str.{bytes_eq}
use Rattle.std.proofs.lemmas.Option.{none-some, same_Some}
use Rattle.lotos_base.proofs.Bytes.{same_bytes, bytes_same}
use Rattle.sort_terms.proofs.NodeLemmas.{last_is_one}
use Rattle.lotos_base.specs.Names.{folded, AreOneName}
use Rattle.lotos_base.specs.Signature.{Signature}
use Rattle.lotos_base.specs.Equation.{Place, Variable}
use Rattle.lotos_base.specs.Term.{Term, Terms, variable, node, no_terms, term_then}
use Rattle.lotos_base.specs.WrittenTerm.{WrittenTerm, WrittenTerms, written, no_written, written_then, written_head}
use Rattle.sort_terms.specs.Reading.{IsLastNamed, NoneNamed, Reads, AllRead}
use Rattle.sort_terms.specs.ReadingOutcome.{ReadingRefusal, ReadingOutcome, answered, refused, ComesTo, SortedTerm, SortedPair, one_name, is_variable_name, unknown_in, unknown_in_each, in_text_order, unknown_at, unknown_sorts, IsReading, IsPairReading, ReadingIs, PairReadingIs}
use Rattle.scope_parts.specs.Seen.{visible_named, found_list, seen_in, seen_in_each}

-- ---- The last variable of a name

-- how what is found later and here go together
abbrev pub LastOf : List Variable → List ℕ → Option Variable → Type 0
LastOf scope name None = NoneNamed scope name
LastOf scope name (Some v) = IsLastNamed scope name v

named_there : (v : Variable) (name : List ℕ) → one_name v.name name ≡ true → AreOneName v.name name
named_there v name = same_bytes (folded v.name) (folded name)

not_named : (v : Variable) (name : List ℕ) → one_name v.name name ≡ false → ¬ AreOneName v.name name
not_named v name test same = let both : true ≡ false = sym (bytes_same (folded v.name) (folded name) same) ∙ test in cc

one_further : (v : Variable) (scope : List Variable) (name : List ℕ) (w : Variable) → IsLastNamed scope name w
    → IsLastNamed (v ∷ scope) name w
one_further v scope name w last = record {
  position = suc last.position;
  found = last.found;
  named = last.named;
  last = later;
}
  where
    later : (i : ℕ) (u : Variable) → suc last.position < i → slice_get (v ∷ scope) i ≡ Some u → ¬ AreOneName u.name name
    later zero u before at = absurd (let no : ⊥ = omega (arith, before) in no)
    later (suc i) u before at = let rest : last.position < i = omega (arith, before) in last.last i u rest at

last_here : (v : Variable) (scope : List Variable) (name : List ℕ) → NoneNamed scope name → (b : Bool) → one_name v.name name ≡ b
    → LastOf (v ∷ scope) name (if b then Some v else None)
last_here v scope name none true named = record {
  position = 0;
  found = refl;
  named = named_there v name named;
  last = later;
}
  where
    later : (i : ℕ) (u : Variable) → 0 < i → slice_get (v ∷ scope) i ≡ Some u → ¬ AreOneName u.name name
    later zero u before at = absurd (let no : ⊥ = omega (arith, before) in no)
    later (suc i) u before at = none i u at
last_here v scope name none false named = nowhere
  where
    nowhere : NoneNamed (v ∷ scope) name
    nowhere zero u at = subst (λ (x : Variable). ¬ AreOneName x.name name) (same_Some _ _ at) (not_named v name named)
    nowhere (suc i) u at = none i u at

-- the last variable of a name is what is visible
pub last_visible : (scope : List Variable) (name : List ℕ) → LastOf scope name (visible_named scope name)
last_visible [] name = λ i v at. absurd (none-some v at)
last_visible (v ∷ scope) name = go (visible_named scope name) (last_visible scope name)
  where
    go : (later : Option Variable) → LastOf scope name later
        → LastOf (v ∷ scope) name (option_or later (if one_name v.name name then Some v else None))
    go (Some w) last = one_further v scope name w last
    go None none = last_here v scope name none (one_name v.name name) refl

pub visible_last : (scope : List Variable) (name : List ℕ) (v : Variable) → IsLastNamed scope name v → visible_named scope name ≡ Some v
visible_last scope name v last = go (visible_named scope name) (last_visible scope name)
  where
    go : (o : Option Variable) → LastOf scope name o → o ≡ Some v
    go None none = absurd (none last.position v last.found last.named)
    go (Some w) other = ap Some (last_is_one scope name w v other last)

visible_none : (scope : List Variable) (name : List ℕ) → NoneNamed scope name → visible_named scope name ≡ None
visible_none scope name none = go (visible_named scope name) (last_visible scope name)
  where
    go : (o : Option Variable) → LastOf scope name o → o ≡ None
    go None h = refl
    go (Some w) last = absurd (none last.position w last.found last.named)

-- ---- Two scopes in which the names of a term mean the same

abbrev pub AgreeAt : List Variable → List Variable → List ℕ → Type 0
AgreeAt scope other name = visible_named scope name ≡ visible_named other name

abbrev mutual
  pub AgreeIn : List Variable → List Variable → WrittenTerm → Type 0
  AgreeIn scope other (written head arguments) = AgreeAt scope other head.name × AgreeInEach scope other arguments

  pub AgreeInEach : List Variable → List Variable → WrittenTerms → Type 0
  AgreeInEach scope other no_written = Unit {0}
  AgreeInEach scope other (written_then w ws) = AgreeIn scope other w × AgreeInEach scope other ws

mutual
  pub agree_back : (scope other : List Variable) (w : WrittenTerm) → AgreeIn scope other w → AgreeIn other scope w
  agree_back scope other (written head ws) h = (sym h.0, all_agree_back scope other ws h.1)

  all_agree_back : (scope other : List Variable) (ws : WrittenTerms) → AgreeInEach scope other ws → AgreeInEach other scope ws
  all_agree_back scope other no_written h = tt
  all_agree_back scope other (written_then w ws) h = (agree_back scope other w h.0, all_agree_back scope other ws h.1)

last_moved : (scope other : List Variable) (name : List ℕ) (v : Variable) → AgreeAt scope other name → IsLastNamed scope name v
    → IsLastNamed other name v
last_moved scope other name v agree last =
    subst (λ (o : Option Variable). LastOf other name o) (sym agree ∙ visible_last scope name v last) (last_visible other name)

none_moved : (scope other : List Variable) (name : List ℕ) → AgreeAt scope other name → NoneNamed scope name → NoneNamed other name
none_moved scope other name agree none =
    subst (λ (o : Option Variable). LastOf other name o) (sym agree ∙ visible_none scope name none) (last_visible other name)

mutual
  pub reads_moved : (signature : Signature) (scope other : List Variable) (w : WrittenTerm) (t : Term) (sort : ℕ) → AgreeIn scope other w
      → Reads signature scope w t sort → Reads signature other w t sort
  reads_moved signature scope other (written head ws) (variable n s) sort agree reads = (
    record {
      bare = reads.0.bare;
      declared = reads.0.declared;
      last = last_moved scope other head.name reads.0.declared agree.0 reads.0.last;
      numbered = reads.0.numbered;
      sorted = reads.0.sorted;
      asked = reads.0.asked;
    },
    reads.1,
  )
  reads_moved signature scope other (written head ws) (node f ts) sort agree reads = (
    reads.0,
    record {
      is_there = reads.1.is_there;
      named = reads.1.named;
      formed = reads.1.formed;
      visible = λ bare. none_moved scope other head.name agree.0 (reads.1.visible bare);
      asked = reads.1.asked;
    },
    reads.2,
    all_moved signature scope other ws ts reads.0.arguments agree.1 reads.3,
  )

  all_moved : (signature : Signature) (scope other : List Variable) (ws : WrittenTerms) (ts : Terms) (sorts : List ℕ)
      → AgreeInEach scope other ws → AllRead signature scope ws ts sorts → AllRead signature other ws ts sorts
  all_moved signature scope other no_written no_terms [] agree reads = tt
  all_moved signature scope other no_written no_terms (s ∷ ss) agree reads = absurd reads
  all_moved signature scope other no_written (term_then t ts) ss agree reads = absurd reads
  all_moved signature scope other (written_then w ws) no_terms ss agree reads = absurd reads
  all_moved signature scope other (written_then w ws) (term_then t ts) [] agree reads = absurd reads
  all_moved signature scope other (written_then w ws) (term_then t ts) (s ∷ ss) agree reads =
      (reads_moved signature scope other w t s agree.0 reads.0, all_moved signature scope other ws ts ss agree.1 reads.1)

-- ---- Unknown names

named_visible : (scope : List Variable) (name : List ℕ) → is_variable_name scope name ≡ is_some (visible_named scope name)
named_visible [] name = refl
named_visible (v ∷ scope) name = go (one_name v.name name) (visible_named scope name) (is_variable_name scope name)
    (named_visible scope name)
  where
    go : (b : Bool) (later : Option Variable) (any : Bool) → any ≡ is_some later
        → (b || any) ≡ is_some (option_or later (if b then Some v else None))
    go true None any h = refl
    go true (Some w) any h = refl
    go false None any h = h
    go false (Some w) any h = h

mutual
  unknown_agrees : (signature : Signature) (scope other : List Variable) (w : WrittenTerm) → AgreeIn scope other w
      → unknown_in signature scope w ≡ unknown_in signature other w
  unknown_agrees signature scope other (written head ws) agree =
      let named : is_variable_name scope head.name ≡ is_variable_name other head.name =
      named_visible scope head.name ∙ ap is_some agree.0 ∙ sym (named_visible other head.name) in
      let here : unknown_at signature scope head ≡ unknown_at signature other head = rw named refl in
      let each = each_unknown_agrees signature scope other ws agree.1 in
      ap (λ (rs : List ReadingRefusal). in_text_order head.form rs (unknown_in_each signature scope ws)
      ++ unknown_sorts signature head.sorts) here
      ∙ ap (λ (rs : List (List ReadingRefusal)). in_text_order head.form
      (unknown_at signature other head) rs ++ unknown_sorts signature head.sorts)
      each

  each_unknown_agrees : (signature : Signature) (scope other : List Variable) (ws : WrittenTerms) → AgreeInEach scope other ws
      → unknown_in_each signature scope ws ≡ unknown_in_each signature other ws
  each_unknown_agrees signature scope other no_written agree = refl
  each_unknown_agrees signature scope other (written_then w ws) agree =
      let first = unknown_agrees signature scope other w agree.0 in
      let rest = each_unknown_agrees signature scope other ws agree.1 in
      cc

-- ---- What a question comes to

pub comes_moved : {A : Type 0} (unknown : List ReadingRefusal) (place : Place) (P Q : A → Type 0) → ((x : A) → P x → Q x)
    → ((x : A) → Q x → P x)
    → (o : ReadingOutcome A) → ComesTo unknown place P o → ComesTo unknown place Q o
comes_moved (first ∷ rest) place P Q out back (answered x) h = absurd h
comes_moved (first ∷ rest) place P Q out back (refused r) h = h
comes_moved [] place P Q out back (answered x) h =
    record { is_answer = out x h.is_answer; only = λ y q. h.only y (back y q) }
comes_moved [] place P Q out back (refused r) (inl h) = inl (λ x q. h.0 x (back x q), h.1)
comes_moved [] place P Q out back (refused r) (inr h) = inr (
  record {
    one = h.0.one;
    other = h.0.other;
    one_is = out h.0.one h.0.one_is;
    other_is = out h.0.other h.0.other_is;
    differ = h.0.differ;
  },
  h.1,
)

pub reading_moved : (signature : Signature) (scope other : List Variable) (w : WrittenTerm) (expected : Option ℕ)
    (o : ReadingOutcome SortedTerm)
    → AgreeIn scope other w → ReadingIs signature scope w expected o → ReadingIs signature other w expected o
reading_moved signature scope other w expected o agree reading =
    comes_moved (unknown_in signature other w) (written_head w).place (IsReading signature scope w expected)
    (IsReading signature other w expected)
    (λ t h. (reads_moved signature scope other w t.term t.sort agree h.0, h.1))
    (λ t h. (reads_moved signature other scope w t.term t.sort (agree_back scope other w agree) h.0, h.1)) o
    (subst (λ (unknown : List ReadingRefusal). ComesTo unknown (written_head w).place (IsReading signature scope w expected) o)
    (unknown_agrees signature scope other w agree) reading)

pub pair_moved : (signature : Signature) (scope other : List Variable) (left right : WrittenTerm) (o : ReadingOutcome SortedPair)
    → AgreeIn scope other left → AgreeIn scope other right → PairReadingIs signature scope left right o
    → PairReadingIs signature other left right o
pair_moved signature scope other left right o on_left on_right reading =
    comes_moved (unknown_in signature other left ++ unknown_in signature other right) (written_head left).place
    (IsPairReading signature scope left right) (IsPairReading signature other left right)
    (λ t h. (
      reads_moved signature scope other left t.left t.sort on_left h.0,
      reads_moved signature scope other right t.right t.sort on_right h.1,
    ))
    (λ t h. (
      reads_moved signature other scope left t.left t.sort (agree_back scope other left on_left) h.0,
      reads_moved signature other scope right t.right t.sort (agree_back scope other right on_right) h.1,
    )) o
    (subst (λ (unknown : List ReadingRefusal). ComesTo unknown (written_head left).place (IsPairReading signature scope left right) o)
    (ap (λ (rs : List ReadingRefusal). rs ++ unknown_in signature scope right) (unknown_agrees signature scope other left on_left)
    ∙ ap (λ (rs : List ReadingRefusal). unknown_in signature other left ++ rs) (unknown_agrees signature scope other right on_right))
    reading)

-- ---- The variables that the names mean

visible_folded : (scope : List Variable) (one other : List ℕ) → folded one ≡ folded other
    → visible_named scope one ≡ visible_named scope other
visible_folded [] one other same = refl
visible_folded (v ∷ scope) one other same =
    ap (λ (o : Option Variable). option_or o (if bytes_eq (folded v.name) (folded one) then Some v else None))
    (visible_folded scope one other same)
    ∙ ap (λ (k : List ℕ). option_or (visible_named scope other) (if bytes_eq (folded v.name) k then Some v else None)) same

visible_append : (xs ys : List Variable) (name : List ℕ)
    → visible_named (xs ++ ys) name ≡ option_or (visible_named ys name) (visible_named xs name)
visible_append [] ys name = go (visible_named ys name)
  where
    go : (o : Option Variable) → o ≡ option_or o None
    go None = refl
    go (Some v) = refl
visible_append (x ∷ xs) ys name =
    ap (λ (o : Option Variable). option_or o (if one_name x.name name then Some x else None)) (visible_append xs ys name)
    ∙ go (visible_named ys name) (visible_named xs name)
  where
    go : (a b : Option Variable) → option_or (option_or a b) (if one_name x.name name then Some x else None)
        ≡ option_or a (option_or b (if one_name x.name name then Some x else None))
    go None b = refl
    go (Some v) b = refl

-- each variable of the list is the one that is visible under its name
abbrev pub AreVisible : List Variable → List Variable → Type 0
AreVisible scope [] = Unit {0}
AreVisible scope (v ∷ vs) = (visible_named scope v.name ≡ Some v) × AreVisible scope vs

pub visible_both : (scope xs ys : List Variable) → AreVisible scope xs → AreVisible scope ys → AreVisible scope (xs ++ ys)
visible_both scope [] ys h k = k
visible_both scope (x ∷ xs) ys h k = (h.0, visible_both scope xs ys h.1 k)

pub visible_at : (scope vs : List Variable) (i : ℕ) (v : Variable) → AreVisible scope vs → slice_get vs i ≡ Some v
    → visible_named scope v.name ≡ Some v
visible_at scope [] i v h at = absurd (none-some v at)
visible_at scope (x ∷ vs) zero v h at = subst (λ (y : Variable). visible_named scope y.name ≡ Some y) (same_Some _ _ at) h.0
visible_at scope (x ∷ vs) (suc i) v h at = visible_at scope vs i v h.1 at

-- the names that one list has are names that the other has
abbrev pub HasNames : List Variable → List Variable → Type 0
HasNames some all = (name : List ℕ) → is_some (visible_named some name) ≡ true → is_some (visible_named all name) ≡ true

some_first : (a b : Option Variable) → is_some b ≡ true → is_some (option_or a b) ≡ true
some_first None b h = h
some_first (Some v) b h = refl

some_last : (a b : Option Variable) → is_some a ≡ true → is_some (option_or a b) ≡ true
some_last None b h = let no : ⊥ = cc in absurd no
some_last (Some v) b h = refl

pub names_first : (xs ys all : List Variable) → HasNames (xs ++ ys) all → HasNames xs all
names_first xs ys all has name h =
    has name (ap is_some (visible_append xs ys name) ∙ some_first (visible_named ys name) (visible_named xs name) h)

pub names_last : (xs ys all : List Variable) → HasNames (xs ++ ys) all → HasNames ys all
names_last xs ys all has name h =
    has name (ap is_some (visible_append xs ys name) ∙ some_last (visible_named ys name) (visible_named xs name) h)

-- what is visible has the name that it was looked for by
found_named : (scope : List Variable) (name : List ℕ) (v : Variable) → visible_named scope name ≡ Some v → AreOneName v.name name
found_named scope name v found =
    (subst (λ (o : Option Variable). LastOf scope name o) found (last_visible scope name)).named

found_visible : (scope : List Variable) (name : List ℕ) → AreVisible scope (found_list (visible_named scope name))
found_visible scope name = go (visible_named scope name) refl
  where
    go : (o : Option Variable) → visible_named scope name ≡ o → AreVisible scope (found_list o)
    go None found = tt
    go (Some v) found = (visible_folded scope v.name name (found_named scope name v found) ∙ found, tt)

found_has : (scope : List Variable) (name : List ℕ) → is_some (visible_named scope name) ≡ true
    → is_some (visible_named (found_list (visible_named scope name)) name) ≡ true
found_has scope name = go (visible_named scope name) refl
  where
    go : (o : Option Variable) → visible_named scope name ≡ o → is_some o ≡ true → is_some (visible_named (found_list o) name) ≡ true
    go None found h = h
    go (Some v) found h = rw (bytes_same (folded v.name) (folded name) (found_named scope name v found)) refl

-- a list of visible variables means the same by a name that it has, or that nothing visible has
agree_at : (scope vs : List Variable) (name : List ℕ) → AreVisible scope vs
    → (is_some (visible_named scope name) ≡ true → is_some (visible_named vs name) ≡ true) → AgreeAt vs scope name
agree_at scope vs name are has = go (visible_named vs name) refl (visible_named scope name) refl
  where
    go : (o : Option Variable) → visible_named vs name ≡ o → (p : Option Variable) → visible_named scope name ≡ p → o ≡ p
    go None none None nothing = refl
    go None none (Some v) found =
        let no : false ≡ true = sym (ap is_some none) ∙ has (ap is_some found) in absurd (let never : ⊥ = cc in never)
    go (Some v) found p is =
        let last : IsLastNamed vs name v = subst (λ (o : Option Variable). LastOf vs name o) found (last_visible vs name) in
        sym (visible_at scope vs last.position v are last.found) ∙ visible_folded scope v.name name last.named ∙ is

mutual
  pub seen_visible : (scope : List Variable) (w : WrittenTerm) → AreVisible scope (seen_in scope w)
  seen_visible scope (written head ws) = visible_both scope _ _ (found_visible scope head.name) (each_seen_visible scope ws)

  each_seen_visible : (scope : List Variable) (ws : WrittenTerms) → AreVisible scope (seen_in_each scope ws)
  each_seen_visible scope no_written = tt
  each_seen_visible scope (written_then w ws) = visible_both scope _ _ (seen_visible scope w) (each_seen_visible scope ws)

mutual
  -- a list of visible variables that has those that a term sees means the same by all names of the term
  pub seen_agrees : (scope vs : List Variable) (w : WrittenTerm) → AreVisible scope vs → HasNames (seen_in scope w) vs → AgreeIn vs scope w
  seen_agrees scope vs (written head ws) are has = (
    agree_at scope vs head.name are
        (λ h. names_first (found_list (visible_named scope head.name)) (seen_in_each scope ws) vs has head.name
        (found_has scope head.name h)),
    each_seen_agrees scope vs ws are (names_last (found_list (visible_named scope head.name)) (seen_in_each scope ws) vs has),
  )

  each_seen_agrees : (scope vs : List Variable) (ws : WrittenTerms) → AreVisible scope vs → HasNames (seen_in_each scope ws) vs
      → AgreeInEach vs scope ws
  each_seen_agrees scope vs no_written are has = tt
  each_seen_agrees scope vs (written_then w ws) are has = (
    seen_agrees scope vs w are (names_first (seen_in scope w) (seen_in_each scope ws) vs has),
    each_seen_agrees scope vs ws are (names_last (seen_in scope w) (seen_in_each scope ws) vs has),
  )

-- ---- So reading over these variables alone comes to the same

pub read_over_seen : (signature : Signature) (scope : List Variable) (w : WrittenTerm) (expected : Option ℕ) (o : ReadingOutcome SortedTerm)
    → ReadingIs signature (seen_in scope w) w expected o → ReadingIs signature scope w expected o
read_over_seen signature scope w expected o =
    reading_moved signature (seen_in scope w) scope w expected o
    (seen_agrees scope (seen_in scope w) w (seen_visible scope w) (λ name h. h))

pub pair_over_seen : (signature : Signature) (scope : List Variable) (left right : WrittenTerm) (o : ReadingOutcome SortedPair)
    → PairReadingIs signature (seen_in scope left ++ seen_in scope right) left right o → PairReadingIs signature scope left right o
pair_over_seen signature scope left right o =
    let both = visible_both scope _ _ (seen_visible scope left) (seen_visible scope right) in
    pair_moved signature (seen_in scope left ++ seen_in scope right) scope left right o
    (seen_agrees scope _ left both (names_first (seen_in scope left) (seen_in scope right) (seen_in scope left ++ seen_in scope right)
    (λ name h. h)))
    (seen_agrees scope _ right both (names_last (seen_in scope left) (seen_in scope right) (seen_in scope left ++ seen_in scope right)
    (λ name h. h)))
