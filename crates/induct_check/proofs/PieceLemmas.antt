-- What lines that ask for something give, and when they give nothing.
use Rattle.std.proofs.Common.{◌≡◌, ◌≢◌, ℕ, List, [], ◌∷◌, Option, None, Some, slice_get, Bor, slice_index_or, arith, length, refl, ap, sym, subst}
use Rattle.lotos_base.specs.Equation.{Variable}
use Rattle.lotos_base.specs.Signature.{Signature, Operation, IsOperation, IsWellFormedSignature}
use Rattle.lotos_base.specs.WrittenTerm.{WrittenTerm}
use Rattle.lotos_grammar.specs.HandedOn.{TextsHaveOneOutcome}
use Rattle.sort_terms.specs.Reading.{IsSortNamed}
use Rattle.certificate_theory.specs.Covers.{IsListedIn, HasResult}
use Rattle.certificate_theory.specs.Patterns.{Pattern, first_pattern}
use Rattle.certificate_theory.proofs.TestedCertificates.{among_member}
use Rattle.induct_parts.specs.HandedOn.{Cover, Statement}
use Rattle.induct_check.specs.CertificateReading.{ItemsList, AreOperationsOf, AreLemmaVariables, IsWrittenSide, AreReadSides, LineTask, read_cover, read_tree, read_variables, read_left, read_right, no_task, among_covers_task, in_tree_task, left_task, right_task, Piece, new_tree, new_variables, new_lemma, GivesPiece, FailsWithLeft}
use Rattle.induct_check.specs.FormView.{form_in}
use Rattle.induct_check.specs.declared.forms.Form.{Form}
use Rattle.induct_check.specs.declared.forms.Form.TheVariants as line
use Rattle.induct_check.specs.PieceView.{AreKnownVariables}
use Rattle.induct_check.proofs.OneText.{same_cover}
use Rattle.induct_check.proofs.ItemLemmas.{one_listed, first_listed}
use Rattle.induct_check.proofs.StatedLemmas.{known_variables, no_variables}

-- the line gives nothing, and is no right side either
abbrev pub GivesNothing : Signature → LineTask → Type 0
GivesNothing signature task = ((piece : Piece) → ¬ GivesPiece signature task piece) × (¬ FailsWithLeft signature task)

-- ---- Covers and trees

pub no_cover_sort : (signature : Signature) (sort items : List ℕ) → ((s : ℕ) → IsSortNamed signature s sort → ⊥)
    → GivesNothing signature (read_cover sort items)
no_cover_sort signature sort items none = ((λ p h. none h.0.sort h.1.named), (λ h. h))

pub no_cover_items : (signature : Signature) (sort items : List ℕ) → ((fs : List ℕ) → AreOperationsOf signature items fs → ⊥)
    → GivesNothing signature (read_cover sort items)
no_cover_items signature sort items none = ((λ p h. none h.0.operations h.1.listed), (λ h. h))

-- the operations have the sort as result
abbrev pub HaveResult : Signature → ℕ → List ℕ → Type 0
HaveResult signature sort operations = (i f : ℕ) → slice_get operations i ≡ Some f → HasResult signature sort f

pub no_cover_results : (signature : Signature) → IsWellFormedSignature signature → (sort items : List ℕ) (s : ℕ) (fs : List ℕ)
    → IsSortNamed signature s sort → AreOperationsOf signature items fs → ¬ HaveResult signature s fs
    → GivesNothing signature (read_cover sort items)
no_cover_results signature well sort items s fs named listed wrong = (
  (λ p h. wrong (subst (λ (c : Cover). HaveResult signature c.sort c.operations)
      (same_cover signature well sort items h.0 (record { sort = s; operations = fs }) h.1.named h.1.listed named listed) h.1.results)),
  (λ h. h),
)

pub cover_results : (signature : Signature) (s : ℕ) (fs : List ℕ) → HaveResult signature s fs → (f : ℕ) → IsListedIn fs f
    → HasResult signature s f
cover_results signature s fs results f among = let member = among_member fs f among in results member.0 f member.1

pub no_tree_item : (signature : Signature) (item : List ℕ) → ((fs : List ℕ) → AreOperationsOf signature item fs → ⊥)
    → GivesNothing signature (read_tree item)
no_tree_item signature item none = ((λ p h. none (h.0 ∷ []) h.2), (λ h. h))

one_operation : TextsHaveOneOutcome → (signature : Signature) (item : List ℕ) (fs : List ℕ) (f : ℕ) → AreOperationsOf signature item fs
    → AreOperationsOf signature item (f ∷ []) → fs ≡ f ∷ []
one_operation laws signature item fs f some one =
    let same : some.0 ≡ one.0 = laws.order.one_tree 0 item some.0 one.0 some.1 one.1 in
    one_listed signature one.0 fs f one.2 (subst (λ items. ItemsList signature items fs) same some.2)

pub several_operations : TextsHaveOneOutcome → (signature : Signature) (item : List ℕ) (fs : List ℕ) → AreOperationsOf signature item fs
    → length fs ≢ 1 → GivesNothing signature (read_tree item)
several_operations laws signature item fs listed several =
    ((λ p h. several (ap length (one_operation laws signature item fs h.0 listed h.2))), (λ h. h))

-- the operation of a tree
pub tree_operation : (signature : Signature) (item : List ℕ) (fs : List ℕ) (f : ℕ) → AreOperationsOf signature item fs → fs ≡ f ∷ []
    → (operation : Operation) × IsOperation signature f operation
tree_operation signature item fs f listed is =
    let one : AreOperationsOf signature item (f ∷ []) = subst (λ gs. AreOperationsOf signature item gs) is listed in
    first_listed signature one.0 f [] one.2

pub gives_tree : (signature : Signature) (item : List ℕ) (fs : List ℕ) (f : ℕ) (pattern : Pattern) → AreOperationsOf signature item fs
    → fs ≡ f ∷ []
    → ((o : Operation) → IsOperation signature f o → pattern ≡ first_pattern (record { number = f; operation = o }))
    → GivesPiece signature (read_tree item) (new_tree f pattern) × ((operation : Operation) × IsOperation signature f operation)
gives_tree signature item fs f pattern listed is first =
    let one : AreOperationsOf signature item (f ∷ []) = subst (λ gs. AreOperationsOf signature item gs) is listed in
    let operation = tree_operation signature item fs f listed is in
    ((f, operation.0, one, operation.1, ap (λ p. new_tree f p) (first operation.0 operation.1)), operation)

-- ---- Heads of lemmas

pub known_here : (signature : Signature) (text : Option (List ℕ)) (vs : List Variable) → AreLemmaVariables signature text vs
    → AreKnownVariables signature vs
known_here signature None vs are = subst (λ us. AreKnownVariables signature us) (sym are) (no_variables signature)
known_here signature (Some text) vs are = known_variables signature are.0 vs are.3

pub gives_variables : (signature : Signature) (text : Option (List ℕ)) (vs : List Variable) → AreLemmaVariables signature text vs
    → GivesPiece signature (read_variables text) (new_variables vs) × AreKnownVariables signature vs
gives_variables signature text vs are = ((vs, are, refl), known_here signature text vs are)

pub no_left_side : (signature : Signature) (vs : List Variable) (term : List ℕ)
    → ((side : WrittenTerm) → IsWrittenSide signature vs term side → ⊥) → GivesNothing signature (read_left vs term)
no_left_side signature vs term none = ((λ p h. none h.0 h.1), (λ h. h))

pub no_right_side : (signature : Signature) (vs : List Variable) (left : WrittenTerm) (term : List ℕ)
    → ((side : WrittenTerm) → IsWrittenSide signature vs term side → ⊥) → GivesNothing signature (read_right vs left term)
no_right_side signature vs left term none = ((λ p h. none h.0 h.2), (λ h. none h.0 h.1))

pub gives_lemma : (signature : Signature) (vs us : List Variable) (left right : WrittenTerm) (term : List ℕ) (statement : Statement)
    → us ≡ vs
    → IsWrittenSide signature vs term right → AreReadSides signature vs left right statement
    → GivesPiece signature (read_right vs left term) (new_lemma us statement)
gives_lemma signature vs us left right term statement same side sides =
    (right, statement, side, sides, ap (λ xs. new_lemma xs statement) same)

-- ---- Splits

pub one_item : (fs : List ℕ) (f : ℕ) → length fs ≡ 1 → f ≡ slice_index_or fs 0 f → fs ≡ f ∷ []
one_item [] f one is = absurd (cc one)
one_item (g ∷ []) f one is = ap (λ (n : ℕ). n ∷ []) (sym is)
one_item (g ∷ h ∷ hs) f one is = absurd (omega (arith, one))

-- ---- Forms that ask for nothing

nothing : (signature : Signature) → GivesNothing signature no_task
nothing signature = ((λ p h. h), (λ h. h))

pub none_among_covers : (signature : Signature) (form : Form)
    → ((s t : Bor (List ℕ)) → form ≡ line.Cover s t → ⊥)
    → ((t : Bor (List ℕ)) → form ≡ line.Tree t → ⊥)
    → ((o : Option (Bor (List ℕ))) → form ≡ line.Lemma o → ⊥)
    → GivesNothing signature (among_covers_task (form_in form))
none_among_covers signature (line.Cover s t) not_cover not_tree not_lemma = absurd (not_cover s t refl)
none_among_covers signature (line.Tree t) not_cover not_tree not_lemma = absurd (not_tree t refl)
none_among_covers signature (line.Split t) not_cover not_tree not_lemma = nothing signature
none_among_covers signature (line.Lemma o) not_cover not_tree not_lemma = absurd (not_lemma o refl)
none_among_covers signature (line.Left t) not_cover not_tree not_lemma = nothing signature
none_among_covers signature (line.Right t) not_cover not_tree not_lemma = nothing signature
none_among_covers signature (line.Use u) not_cover not_tree not_lemma = nothing signature
none_among_covers signature line.Leaf not_cover not_tree not_lemma = nothing signature
none_among_covers signature line.Same not_cover not_tree not_lemma = nothing signature
none_among_covers signature line.Nothing not_cover not_tree not_lemma = nothing signature

pub none_in_tree : (signature : Signature) (covers : List Cover) (left : List Pattern) (form : Form)
    → ((t : Bor (List ℕ)) → form ≡ line.Tree t → ⊥)
    → ((t : Bor (List ℕ)) → form ≡ line.Split t → ⊥)
    → ((o : Option (Bor (List ℕ))) → form ≡ line.Lemma o → ⊥)
    → (form ≡ line.Leaf → ⊥)
    → GivesNothing signature (in_tree_task signature covers left (form_in form))
none_in_tree signature covers left (line.Cover s t) not_tree not_split not_lemma not_leaf = nothing signature
none_in_tree signature covers left (line.Tree t) not_tree not_split not_lemma not_leaf = absurd (not_tree t refl)
none_in_tree signature covers left (line.Split t) not_tree not_split not_lemma not_leaf = absurd (not_split t refl)
none_in_tree signature covers left (line.Lemma o) not_tree not_split not_lemma not_leaf = absurd (not_lemma o refl)
none_in_tree signature covers left (line.Left t) not_tree not_split not_lemma not_leaf = nothing signature
none_in_tree signature covers left (line.Right t) not_tree not_split not_lemma not_leaf = nothing signature
none_in_tree signature covers left (line.Use u) not_tree not_split not_lemma not_leaf = nothing signature
none_in_tree signature covers left line.Leaf not_tree not_split not_lemma not_leaf = absurd (not_leaf refl)
none_in_tree signature covers left line.Same not_tree not_split not_lemma not_leaf = nothing signature
none_in_tree signature covers left line.Nothing not_tree not_split not_lemma not_leaf = nothing signature

pub none_behind_variables : (signature : Signature) (vs : List Variable) (form : Form)
    → ((t : Bor (List ℕ)) → form ≡ line.Left t → ⊥)
    → GivesNothing signature (left_task vs (form_in form))
none_behind_variables signature vs (line.Cover s t) not_left = nothing signature
none_behind_variables signature vs (line.Tree t) not_left = nothing signature
none_behind_variables signature vs (line.Split t) not_left = nothing signature
none_behind_variables signature vs (line.Lemma o) not_left = nothing signature
none_behind_variables signature vs (line.Left t) not_left = absurd (not_left t refl)
none_behind_variables signature vs (line.Right t) not_left = nothing signature
none_behind_variables signature vs (line.Use u) not_left = nothing signature
none_behind_variables signature vs line.Leaf not_left = nothing signature
none_behind_variables signature vs line.Same not_left = nothing signature
none_behind_variables signature vs line.Nothing not_left = nothing signature

pub none_behind_left : (signature : Signature) (vs : List Variable) (left : WrittenTerm) (form : Form)
    → ((t : Bor (List ℕ)) → form ≡ line.Right t → ⊥)
    → GivesNothing signature (right_task vs left (form_in form))
none_behind_left signature vs left (line.Cover s t) not_right = nothing signature
none_behind_left signature vs left (line.Tree t) not_right = nothing signature
none_behind_left signature vs left (line.Split t) not_right = nothing signature
none_behind_left signature vs left (line.Lemma o) not_right = nothing signature
none_behind_left signature vs left (line.Left t) not_right = nothing signature
none_behind_left signature vs left (line.Right t) not_right = absurd (not_right t refl)
none_behind_left signature vs left (line.Use u) not_right = nothing signature
none_behind_left signature vs left line.Leaf not_right = nothing signature
none_behind_left signature vs left line.Same not_right = nothing signature
none_behind_left signature vs left line.Nothing not_right = nothing signature
