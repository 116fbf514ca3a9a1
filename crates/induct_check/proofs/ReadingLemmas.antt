-- What was read, piece by piece.
use Rattle.std.proofs.Common.{◌≡◌, ◌≤◌, ℕ, List, [], ◌∷◌, ◌++◌, Some, slice_get, length, drop, map, refl, ap, sym, ◌∙◌, subst}
use Rattle.lotos_base.proofs.Each.{Each, each_join}
use Rattle.induct_parts.proofs.HandedOn.{each_front, each_back}
use Rattle.induct_parts.proofs.StepLemmas.{pushed}
use Rattle.std.proofs.Common.{Vec, Global}
use Rattle.lotos_base.specs.Signature.{Signature}
use Rattle.induct_parts.specs.CertificateView.{tree_in, lemma_in, tree_line_of, proof_line_of}
use Rattle.induct_parts.specs.SettingView.{IsKnownLemma}
use Rattle.induct_parts.specs.declared.certificates.PatternTree.{PatternTree}
use Rattle.induct_parts.specs.declared.certificates.StatedLemma.{StatedLemma}
use Rattle.induct_parts.specs.declared.certificates.TreeLine.{TreeLine}
use Rattle.induct_parts.specs.declared.certificates.ProofLine.{ProofLine}
use Rattle.induct_parts.specs.HandedOn.induction_certificate as plain
use Rattle.std.proofs.Math.ListN.{drop_of_length-le}
use Rattle.std.proofs.lemmas.List.{append-nil}
use Rattle.induct_check.specs.CertificateReading.{with_last, tree_with, lemma_with, stated_lemma}
use Rattle.induct_parts.specs.HandedOn.{IsStated}
use Rattle.lotos_base.specs.Equation.{Variable}
use Rattle.induct_parts.specs.StatementView.{IsStatementOf, statement_of}
use Rattle.induct_parts.specs.declared.statements.Statement.{Statement}

pub last_changed : {A : Type 0} (f : A → A) (xs : List A) (x : A) → with_last f (xs ++ x ∷ []) ≡ xs ++ f x ∷ []
last_changed f [] x = refl
last_changed f (y ∷ []) x = refl
last_changed f (y ∷ z ∷ zs) x = ap (λ ws. y ∷ ws) (last_changed f (z ∷ zs) x)

-- the last member is taken away, changed, and put there again
pub last_put : {A Y : Type 0} (view : A → Y) (f : Y → Y) (old left new : List A) (x y : A) → old ≡ left ++ x ∷ [] → new ≡ left ++ y ∷ []
    → view y ≡ f (view x) → map view new ≡ with_last f (map view old)
last_put view f old left new x y was is changed =
    pushed view left new y is
    ∙ (ap (λ v. map view left ++ v ∷ []) changed
    ∙ (sym (last_changed f (map view left) (view x)) ∙ ap (with_last f) (sym (pushed view left old x was))))

pub each_last_put : {A : Type 0} (P : A → Type 0) (old left new : List A) (x y : A) → old ≡ left ++ x ∷ [] → new ≡ left ++ y ∷ []
    → (P x → P y) → Each P old → Each P new
each_last_put P old left new x y was is keeps each =
    let both : Each P (left ++ x ∷ []) = subst (Each P) was each in
    subst (Each P) (sym is) (each_join P left (y ∷ []) (each_front P left (x ∷ []) both) (keeps (each_back P left (x ∷ []) both).0, tt))

pub tree_lined : (tree : PatternTree) (lines : Vec TreeLine Global) (line : TreeLine) → lines.items ≡ tree.lines.items ++ line ∷ []
    → tree_in (record { operation = tree.operation; lines = lines }) ≡ tree_with (tree_line_of line) (tree_in tree)
tree_lined tree lines line is =
    ap (λ ls. by_lines ls) (pushed tree_line_of tree.lines.items lines.items line is)
  where
    by_lines : List plain.TreeLine → plain.PatternTree
    by_lines ls = record { operation = tree.operation; lines = ls }

pub lemma_lined : (lemma : StatedLemma) (lines : Vec ProofLine Global) (line : ProofLine) → lines.items ≡ lemma.lines.items ++ line ∷ []
    → lemma_in (record { variables = lemma.variables; statement = lemma.statement; lines = lines })
    ≡ lemma_with (proof_line_of line) (lemma_in lemma)
lemma_lined lemma lines line is =
    ap (λ ls. by_lines ls) (pushed proof_line_of lemma.lines.items lines.items line is)
  where
    by_lines : List plain.ProofLine → plain.Lemma
    by_lines ls =
        record { variables = (lemma_in lemma).variables; statement = (lemma_in lemma).statement; lines = ls }

-- what is known of a lemma does not hang on its lines
pub still_known : (signature : Signature) (lemma : StatedLemma) (lines : Vec ProofLine Global) → IsKnownLemma signature lemma
    → IsKnownLemma signature (record { variables = lemma.variables; statement = lemma.statement; lines = lines })
still_known signature lemma lines h = record {
  stated = record {
    sort = h.stated.sort;
    left = h.stated.left;
    right = h.stated.right;
    left_listed = h.stated.left_listed;
    right_listed = h.stated.right_listed;
    sorts = h.stated.sorts;
  };
  over = h.over;
}

-- a list that was made to the end
pub made_end : {A Y : Type 0} (f : List A → List Y) (all : List A) (i : ℕ) (made whole : List Y) → length all ≤ i → f [] ≡ []
    → made ++ f (drop i all) ≡ whole → made ≡ whole
made_end f all i made whole past none so_far =
    sym (append-nil made) ∙ (ap (λ ys. made ++ ys) (sym (ap f (drop_of_length-le all past) ∙ none)) ∙ so_far)

-- a lemma that was just read
pub newly_known : (signature : Signature) (variables : List Variable) (statement : Statement) (sorts : Vec ℕ Global)
    (lines : Vec ProofLine Global)
    → sorts.items ≡ map (λ (v : Variable). v.sort) variables → IsStated signature (stated_lemma variables (statement_of statement))
    → IsStatementOf signature statement → IsKnownLemma signature (record { variables = sorts; statement = statement; lines = lines })
newly_known signature variables statement sorts lines same h over = record {
  stated = record {
    sort = h.sort;
    left = h.left;
    right = h.right;
    left_listed = λ n s occurs. subst (λ (ss : List ℕ). slice_get ss n ≡ Some s) (sym same) (h.left_listed n s occurs);
    right_listed = λ n s occurs. subst (λ (ss : List ℕ). slice_get ss n ≡ Some s) (sym same) (h.right_listed n s occurs);
    sorts = λ n s at. h.sorts n s (subst (λ (ss : List ℕ). slice_get ss n ≡ Some s) same at);
  };
  over = over;
}
