-- A term that means itself where it is printed is what is read there of what it is written as.
use Rattle.std.proofs.Common.{◌≡◌, ℕ, Bool, true, ◌&&◌, List, [], ◌∷◌, ◌++◌, refl, ap, sym, ◌∙◌, subst}
use Rattle.std.specs.Prelude.{slice_get, if◌then◌else◌}
use Rattle.std.proofs.lemmas.Option.{none-some, same_Some}
use Rattle.std.proofs.lemmas.Slice.Eq.{bytes_eq-Decides}
use Rattle.std.proofs.lemmas.Bool.{and_from, or_left, or_right}
use Rattle.std.proofs.lemmas.Map.Keys.{any_passes_from_place}
use Rattle.sort_terms.proofs.NodeLemmas.{eq_forms, last_is_one}
use Rattle.lotos_base.specs.WrittenTerm.{PlacedName, WrittenHead, WrittenTerm, WrittenTerms, written, no_written, written_then, written_head}
use Rattle.lotos_base.specs.Names.{folded, AreOneName}
use Rattle.lotos_base.specs.Signature.{Signature, Sort, Operation, Form, prefix_form, infix_form, IsOperation, IsWellFormedSignature}
use Rattle.lotos_base.specs.Equation.{Place, Variable}
use Rattle.lotos_base.specs.Twins.{form_eq}
use Rattle.lotos_base.specs.Sorting.{HasSort, HaveSorts, IsGround, AreGround}
use Rattle.lotos_base.specs.Term.{Term, Terms, variable, node, no_terms, term_then}
use Rattle.lotos_base.proofs.SignatureLemmas.{profiles_tell}
use Rattle.sort_terms.specs.Counting.{IsOnly}
use Rattle.sort_terms.specs.Reading.{Reads, AllRead, IsAsked, IsVisible, IsLastNamed, NoneNamed, IsOperationAt}
use Rattle.sort_terms.specs.ReadingOutcome.{ReadingRefusal, unknown_name, unknown_sort, SortedTerm, SortedPair, answered, ComesTo, IsReading, IsPairReading, one_name, is_known, is_operation_name, is_variable_name, is_sort_name, unknown_at, unknown_sorts, unknown_in, unknown_in_each, refusals_together, in_text_order}
use Rattle.session_histories.specs.HandedOn.{variable_text}
use Rattle.session_laws.specs.WrittenAs.{IsMarkOf, no_mark, mark, IsHeadOf, IsNameAlone, IsWrittenAs, AreWrittenAs}
use Rattle.session_laws.specs.TermMeanings.{VariableMeans, IsUnhidden, TermMeans, TermsMean}
use Rattle.session_laws.specs.WrittenLaws.{HasOneReading, HaveOneReading, TermsWrittenHaveOneReading, PairsWrittenHaveOneReading, WrittenTermsHaveOneReading, WrittenListsHaveOneReading}

-- ---- No name stands for nothing

none_before : (xs ys : List ReadingRefusal) → xs ++ ys ≡ [] → xs ≡ []
none_before [] ys none = refl
none_before (x ∷ xs) ys none = cc

none_behind : (xs ys : List ReadingRefusal) → xs ++ ys ≡ [] → ys ≡ []
none_behind [] ys none = none
none_behind (x ∷ xs) ys none = cc

none_joined : (xs ys : List ReadingRefusal) → xs ≡ [] → ys ≡ [] → xs ++ ys ≡ []
none_joined xs ys first second = ap (λ (zs : List ReadingRefusal). zs ++ ys) first ∙ second

none_in_order : (form : Form) (here : List ReadingRefusal) (lists : List (List ReadingRefusal)) → here ≡ [] → refusals_together lists ≡ []
    → in_text_order form here lists ≡ []
none_in_order prefix_form here lists none rest = none_joined here (refusals_together lists) none rest
none_in_order infix_form here [] none rest = none_joined here [] none refl
none_in_order infix_form here (list ∷ lists) none rest =
    none_joined ((list ++ []) ++ here) (refusals_together lists)
    (none_joined (list ++ []) here (none_joined list [] (none_before list (refusals_together lists) rest) refl) none)
    (none_behind list (refusals_together lists) rest)

name_same : (one other : List ℕ) → AreOneName one other → one_name one other ≡ true
name_same one other same = (bytes_eq-Decides (folded one) (folded other)).1 same

head_known : (signature : Signature) (visible : List Variable) (f : ℕ) (operation : Operation) (head : WrittenHead)
    → IsOperation signature f operation
    → IsHeadOf signature operation head → unknown_at signature visible head ≡ []
head_known signature visible f operation head is_there is_head =
    ap (λ (b : Bool). if b then [] else unknown_name head.place ∷ []) known
  where
    known : is_known signature visible head ≡ true
    known =
        or_right _ (is_operation_name signature head.name head.form)
        (any_passes_from_place
        (λ (o : Operation). one_name o.name head.name && form_eq o.form head.form) signature.operations f operation is_there
        (and_from _ _ (name_same operation.name head.name (ap folded (sym is_head.named)))
        (eq_forms operation.form head.form (sym is_head.formed))))

mark_known : (signature : Signature) (operation : Operation) (sorts : List PlacedName) → IsMarkOf signature operation sorts
    → unknown_sorts signature sorts ≡ []
mark_known signature operation [] (no_mark alone) = refl
mark_known signature operation (asked ∷ []) (mark {sort} twin found named) =
    ap (λ (b : Bool). (if b then [] else unknown_sort asked.place ∷ []) ++ []) known
  where
    known : is_sort_name signature asked.name ≡ true
    known =
        any_passes_from_place (λ (s : Sort). one_name s.name asked.name) signature.sorts operation.result sort found
        (name_same sort.name asked.name (ap folded (sym named)))
mark_known signature operation (asked ∷ (more ∷ rest)) marked = elim marked [ ]

-- ---- The one reading

-- the sort that `of` asks for
mark_asks : (signature : Signature) (operation : Operation) (sorts : List PlacedName) → IsMarkOf signature operation sorts
    → IsAsked signature sorts operation.result
mark_asks signature operation [] (no_mark alone) = tt
mark_asks signature operation (asked ∷ []) (mark {sort} twin found named) = ((sort, found, ap folded (sym named)), tt)
mark_asks signature operation (asked ∷ (more ∷ rest)) marked = elim marked [ ]

-- an operation of the same name, form and arguments that has the sort asked for is this one
mark_tells : (signature : Signature) → IsWellFormedSignature signature → (f g : ℕ) (one other : Operation) (sorts : List PlacedName)
    → IsOperation signature f one → IsOperation signature g other → AreOneName one.name other.name → one.form ≡ other.form
    → one.arguments ≡ other.arguments → IsMarkOf signature one sorts → IsAsked signature sorts other.result → f ≡ g
mark_tells signature well f g one other [] at_f at_g name form arguments (no_mark alone) asks =
    profiles_tell signature f g one other well at_f at_g alone name form arguments
mark_tells signature well f g one other (asked ∷ []) at_f at_g name form arguments (mark {sort} twin found named) asks =
    well.profiles f g one other at_f at_g name form arguments
    (well.sort_names one.result other.result sort asks.0.0 found asks.0.1 (ap folded (sym named) ∙ sym asks.0.2))
mark_tells signature well f g one other (asked ∷ (more ∷ rest)) at_f at_g name form arguments marked asks = elim marked [ ]

-- the operation at a number is one
same_operation : (signature : Signature) (f g : ℕ) (one other : Operation) → IsOperation signature f one → IsOperation signature g other
    → f ≡ g → one ≡ other
same_operation signature f g one other at_f at_g same =
    same_Some one other (sym at_f ∙ ap (λ (n : ℕ). slice_get signature.operations n) same ∙ at_g)

node_same : (f g : ℕ) (ts us : Terms) → f ≡ g → ts ≡ us → node f ts ≡ node g us
node_same f g ts us numbers arguments = ap (λ (n : ℕ). node n ts) numbers ∙ ap (λ (vs : Terms). node g vs) arguments

-- what is written at a constant that is not hidden is visible
head_visible : (signature : Signature) (visible names : List Variable) (operation : Operation) (head : WrittenHead) (ts : Terms)
    (ws : WrittenTerms) → IsHeadOf signature operation head → IsUnhidden visible operation ts → AreWrittenAs signature names ts ws
    → IsVisible visible head ws
head_visible signature visible names operation head no_terms no_written is_head unhidden each =
    λ bare. subst (λ (name : List ℕ). NoneNamed visible name) (sym is_head.named) (unhidden (sym is_head.formed ∙ bare))
head_visible signature visible names operation head no_terms (written_then w ws) is_head unhidden each = absurd each
head_visible signature visible names operation head (term_then t ts) no_written is_head unhidden each = absurd each
head_visible signature visible names operation head (term_then t ts) (written_then w ws) is_head unhidden each = λ bare. absurd bare

-- what is read at a node, given what is read of its arguments
module _ (signature : Signature) (well : IsWellFormedSignature signature) (visible : List Variable) (f : ℕ) (operation : Operation)
    (head : WrittenHead) (ts : Terms) (ws : WrittenTerms) (is_there : IsOperation signature f operation)
    (is_head : IsHeadOf signature operation head) (unhidden : IsVisible visible head ws)
    (below : HaveOneReading signature visible ws ts operation.arguments) where
  node_number : (g : ℕ) (us : Terms) (other : ℕ) → Reads signature visible (written head ws) (node g us) other → f ≡ g
  node_number g us other reads =
      mark_tells signature well f g operation reads.0 head.sorts is_there reads.1.is_there
      (ap folded (sym is_head.named) ∙ sym reads.1.named) (sym is_head.formed ∙ sym reads.1.formed)
      (sym (below.only_sorts us reads.0.arguments reads.3)) is_head.marked reads.1.asked

  node_only : (u : Term) (other : ℕ) → Reads signature visible (written head ws) u other → u ≡ node f ts
  node_only (variable n s) other reads =
      absurd (unhidden reads.0.bare reads.0.last.position reads.0.declared reads.0.last.found reads.0.last.named)
  node_only (node g us) other reads =
      node_same g f us ts (sym (node_number g us other reads)) (below.only_terms us reads.0.arguments reads.3)

  node_sort : (u : Term) (other : ℕ) → Reads signature visible (written head ws) u other → other ≡ operation.result
  node_sort (variable n s) other reads =
      absurd (unhidden reads.0.bare reads.0.last.position reads.0.declared reads.0.last.found reads.0.last.named)
  node_sort (node g us) other reads =
      sym reads.2
      ∙ ap (λ (o : Operation). o.result)
      (sym (same_operation signature f g operation reads.0 is_there reads.1.is_there (node_number g us other reads)))

  at_operation : IsOperationAt signature visible head ws f operation
  at_operation = record {
    is_there = is_there;
    named = ap folded (sym is_head.named);
    formed = sym is_head.formed;
    visible = unhidden;
    asked = mark_asks signature operation head.sorts is_head.marked;
  }

  node_reading : HasOneReading signature visible (written head ws) (node f ts) operation.result
  node_reading = record {
    known =
        none_joined _ (unknown_sorts signature head.sorts)
        (none_in_order head.form _ (unknown_in_each signature visible ws) (head_known signature visible f operation head is_there is_head)
        below.known)
        (mark_known signature operation head.sorts is_head.marked);
    read = (operation, at_operation, refl, below.read);
    only_term = node_only;
    only_sort = node_sort;
  }

-- what is read at the name of a variable
module _ (signature : Signature) (visible names : List Variable) (n s : ℕ) (head : WrittenHead)
    (means : VariableMeans visible names n s) (alone : IsNameAlone (variable_text names n) head) where
  last_here : IsLastNamed visible head.name means.declared
  last_here = subst (λ (name : List ℕ). IsLastNamed visible name means.declared) (sym alone.named) means.last

  name_known : unknown_at signature visible head ≡ []
  name_known = ap (λ (b : Bool). if b then [] else unknown_name head.place ∷ []) known
    where
      known : is_known signature visible head ≡ true
      known =
          or_left (form_eq head.form prefix_form && is_variable_name visible head.name) (is_operation_name signature head.name head.form)
          (and_from _ _ (eq_forms head.form prefix_form alone.formed)
          (any_passes_from_place (λ (v : Variable). one_name v.name head.name) visible last_here.position means.declared last_here.found
          (name_same means.declared.name head.name last_here.named)))

  variable_only : (u : Term) (other : ℕ) → Reads signature visible (written head no_written) u other
      → (u ≡ variable n s) × (other ≡ s)
  variable_only (variable m r) other reads =
      let one : reads.0.declared ≡ means.declared =
      last_is_one visible head.name reads.0.declared means.declared reads.0.last last_here in
      let number : m ≡ n = sym reads.0.numbered ∙ ap (λ (v : Variable). v.number) one ∙ means.numbered in
      let sort : r ≡ s = sym reads.0.sorted ∙ ap (λ (v : Variable). v.sort) one ∙ means.sorted in
      (ap (λ (k : ℕ). variable k r) number ∙ ap (λ (k : ℕ). variable n k) sort, sym reads.1 ∙ sort)
  variable_only (node g us) other reads =
      absurd (reads.1.visible alone.formed last_here.position means.declared last_here.found last_here.named)

  variable_reading : HasOneReading signature visible (written head no_written) (variable n s) s
  variable_reading = record {
    known =
        none_joined _ (unknown_sorts signature head.sorts) (none_in_order head.form _ [] name_known refl)
        (ap (λ (sorts : List PlacedName). unknown_sorts signature sorts) alone.unmarked);
    read = (
      record {
        bare = alone.formed;
        declared = means.declared;
        last = last_here;
        numbered = means.numbered;
        sorted = means.sorted;
        asked = subst (λ (sorts : List PlacedName). IsAsked signature sorts s) (sym alone.unmarked) tt;
      },
      refl,
    );
    only_term = λ u other reads. (variable_only u other reads).0;
    only_sort = λ u other reads. (variable_only u other reads).1;
  }

-- one more term in front
listed : (signature : Signature) (visible : List Variable) (w : WrittenTerm) (ws : WrittenTerms) (t : Term) (ts : Terms) (s : ℕ)
    (ss : List ℕ)
    → HasOneReading signature visible w t s → HaveOneReading signature visible ws ts ss
    → HaveOneReading signature visible (written_then w ws) (term_then t ts) (s ∷ ss)
listed signature visible w ws t ts s ss first rest = record {
  known = none_joined (unknown_in signature visible w) (refusals_together (unknown_in_each signature visible ws)) first.known rest.known;
  read = (first.read, rest.read);
  only_terms = terms;
  only_sorts = sorts;
}
  where
    terms : (us : Terms) (others : List ℕ) → AllRead signature visible (written_then w ws) us others → us ≡ term_then t ts
    terms no_terms others reads = absurd reads
    terms (term_then u us) [] reads = absurd reads
    terms (term_then u us) (o ∷ os) reads =
        ap (λ (v : Term). term_then v us) (first.only_term u o reads.0)
        ∙ ap (λ (vs : Terms). term_then t vs) (rest.only_terms us os reads.1)

    sorts : (us : Terms) (others : List ℕ) → AllRead signature visible (written_then w ws) us others → others ≡ s ∷ ss
    sorts no_terms others reads = absurd reads
    sorts (term_then u us) [] reads = absurd reads
    sorts (term_then u us) (o ∷ os) reads =
        ap (λ (v : ℕ). v ∷ os) (first.only_sort u o reads.0) ∙ ap (λ (vs : List ℕ). s ∷ vs) (rest.only_sorts us os reads.1)

mutual
  pub one_reading : (signature : Signature) → IsWellFormedSignature signature → (visible names : List Variable) (t : Term) (sort : ℕ)
      (w : WrittenTerm) → TermMeans signature visible names t sort → IsWrittenAs signature names t w
      → HasOneReading signature visible w t sort
  one_reading signature well visible names (variable n s) sort (written head no_written) means writes =
      subst (λ (r : ℕ). HasOneReading signature visible (written head no_written) (variable n s) r) means.1
      (variable_reading signature visible names n s head means.0 writes)
  one_reading signature well visible names (variable n s) sort (written head (written_then w ws)) means writes = absurd writes
  one_reading signature well visible names (node f ts) sort (written head ws) means writes =
      subst (λ (r : ℕ). HasOneReading signature visible (written head ws) (node f ts) r) result
      (node_reading signature well visible f writes.0 head ts ws writes.1 writes.2
      (head_visible signature visible names writes.0 head ts ws writes.2 unhidden writes.3)
      (one_reading_each signature well visible names ts writes.0.arguments ws arguments writes.3))
    where
      same : means.0 ≡ writes.0
      same = same_operation signature f f means.0 writes.0 means.1 writes.1 refl

      result : writes.0.result ≡ sort
      result = ap (λ (o : Operation). o.result) (sym same) ∙ means.3

      unhidden : IsUnhidden visible writes.0 ts
      unhidden = subst (λ (o : Operation). IsUnhidden visible o ts) same means.2

      arguments : TermsMean signature visible names ts writes.0.arguments
      arguments = subst (λ (o : Operation). TermsMean signature visible names ts o.arguments) same means.4

  pub one_reading_each : (signature : Signature) → IsWellFormedSignature signature → (visible names : List Variable) (ts : Terms)
      (sorts : List ℕ) (ws : WrittenTerms) → TermsMean signature visible names ts sorts → AreWrittenAs signature names ts ws
      → HaveOneReading signature visible ws ts sorts
  one_reading_each signature well visible names no_terms [] no_written means writes =
      record { known = refl; read = tt; only_terms = no_term_more; only_sorts = no_sort_more }
    where
      no_term_more : (us : Terms) (others : List ℕ) → AllRead signature visible no_written us others → us ≡ no_terms
      no_term_more no_terms others reads = refl
      no_term_more (term_then u us) others reads = absurd reads

      no_sort_more : (us : Terms) (others : List ℕ) → AllRead signature visible no_written us others → others ≡ []
      no_sort_more no_terms [] reads = refl
      no_sort_more no_terms (s ∷ ss) reads = absurd reads
      no_sort_more (term_then u us) others reads = absurd reads
  one_reading_each signature well visible names no_terms [] (written_then w ws) means writes = absurd writes
  one_reading_each signature well visible names no_terms (s ∷ ss) ws means writes = absurd means
  one_reading_each signature well visible names (term_then t ts) [] ws means writes = absurd means
  one_reading_each signature well visible names (term_then t ts) (s ∷ ss) no_written means writes = absurd writes
  one_reading_each signature well visible names (term_then t ts) (s ∷ ss) (written_then w ws) means writes =
      listed signature visible w ws t ts s ss (one_reading signature well visible names t s w means.0 writes.0)
      (one_reading_each signature well visible names ts ss ws means.1 writes.1)

-- ---- The laws

-- an answer to a question whose names are all known
answer_found : {A : Type 0} (unknown : List ReadingRefusal) (place : Place) (P : A → Type 0) (x : A) → unknown ≡ [] → IsOnly P x
    → ComesTo unknown place P (answered x)
answer_found [] place P x none only = only
answer_found (r ∷ rs) place P x none only = cc

pub terms_have_one_reading : TermsWrittenHaveOneReading
terms_have_one_reading signature visible names sort t w expected well means writes asked =
    answer_found (unknown_in signature visible w) (written_head w).place (IsReading signature visible w expected) _ one.known
    (record { is_answer = (one.read, asked); only = only })
  where
    one : HasOneReading signature visible w t sort
    one = one_reading signature well visible names t sort w means writes

    only : (y : SortedTerm) → IsReading signature visible w expected y → y ≡ record { term = t; sort = sort }
    only y reads =
        let term : y.term ≡ t = one.only_term y.term y.sort reads.0 in
        let sort_is : y.sort ≡ sort = one.only_sort y.term y.sort reads.0 in
        let make : Term → ℕ → SortedTerm = λ u s. record { term = u; sort = s } in
        ap (λ u. make u y.sort) term ∙ ap (λ s. make t s) sort_is

pub pairs_have_one_reading : PairsWrittenHaveOneReading
pairs_have_one_reading signature visible names sort t u left right well first second writes_left writes_right =
    answer_found (unknown_in signature visible left ++ unknown_in signature visible right) (written_head left).place
    (IsPairReading signature visible left right) _ (none_joined _ _ one.known other.known)
    (record { is_answer = (one.read, other.read); only = only })
  where
    one : HasOneReading signature visible left t sort
    one = one_reading signature well visible names t sort left first writes_left

    other : HasOneReading signature visible right u sort
    other = one_reading signature well visible names u sort right second writes_right

    only : (y : SortedPair) → IsPairReading signature visible left right y → y ≡ record { left = t; right = u; sort = sort }
    only y reads =
        let term : y.left ≡ t = one.only_term y.left y.sort reads.0 in
        let term_right : y.right ≡ u = other.only_term y.right y.sort reads.1 in
        let sort_is : y.sort ≡ sort = one.only_sort y.left y.sort reads.0 in
        let make : Term → Term → ℕ → SortedPair = λ a b s. record { left = a; right = b; sort = s } in
        ap (λ a. make a y.right y.sort) term ∙ ap (λ b. make t b y.sort) term_right ∙ ap (λ s. make t u s) sort_is

-- ---- Ground terms

-- no variable hides a constant where there are none
never_hidden : (operation : Operation) (ts : Terms) → IsUnhidden [] operation ts
never_hidden operation no_terms = λ formed i v at. absurd (none-some v at)
never_hidden operation (term_then t ts) = tt

mutual
  ground_means : (signature : Signature) (t : Term) (sort : ℕ) → HasSort signature t sort → IsGround t → TermMeans signature [] [] t sort
  ground_means signature (variable n s) sort sorted ground = absurd ground
  ground_means signature (node f ts) sort sorted ground = (
    sorted.0,
    sorted.1,
    never_hidden sorted.0 ts,
    sorted.2,
    ground_mean signature ts sorted.0.arguments sorted.3 ground,
  )

  ground_mean : (signature : Signature) (ts : Terms) (sorts : List ℕ) → HaveSorts signature ts sorts → AreGround ts
      → TermsMean signature [] [] ts sorts
  ground_mean signature no_terms [] sorted ground = tt
  ground_mean signature no_terms (s ∷ ss) sorted ground = absurd sorted
  ground_mean signature (term_then t ts) [] sorted ground = absurd sorted
  ground_mean signature (term_then t ts) (s ∷ ss) sorted ground =
      (ground_means signature t s sorted.0 ground.0, ground_mean signature ts ss sorted.1 ground.1)

pub ground_terms_have_one_reading : WrittenTermsHaveOneReading
ground_terms_have_one_reading signature sort t w expected well ground writes asked =
    terms_have_one_reading signature [] [] sort t w expected well (ground_means signature t sort ground.sorted ground.ground) writes asked

pub ground_lists_have_one_reading : WrittenListsHaveOneReading
ground_lists_have_one_reading signature sorts ts ws well sorted ground writes =
    one_reading_each signature well [] [] ts sorts ws (ground_mean signature ts sorts sorted ground) writes
