-- Variables found by their names, and names put together.
use Rattle.std.proofs.Common.{◌≡◌, ◌<◌, ◌+◌, ◌++◌, ℕ, suc, List, [], ◌∷◌, Bool, true, false, IsTrue, length, map, drop, get_or, codes, decimal, ap, sym, ◌∙◌, arith}
use Rattle.std.proofs.lemmas.List.{append_assoc}
use Rattle.lotos_base.proofs.Members.{read_at}
use Rattle.std.specs.Prelude.{if◌then◌else◌}
use Rattle.lotos_base.proofs.Bytes.{bytes_same, bytes_differ}
use Rattle.lotos_base.proofs.Pieces.{next_member}
use Rattle.lotos_base.specs.Name.{spelling}
use Rattle.lotos_base.specs.Names.{AreOneName, folded}
use Rattle.lotos_base.specs.declared.names.Name.{Name}
use Rattle.induct_check.specs.CertificateReading.{number_named, argument_names}

-- the name that stands first
pub first_named : (names : List Name) (i : ℕ) (one : Name) (name : List ℕ) → i < length names → one ≡ get_or names i one
    → AreOneName (spelling one) name → number_named (map spelling (drop i names)) name ≡ 0
first_named names i one name within is same =
    ap (λ (ns : List Name). number_named (map spelling ns) name) (next_member names i one within is)
    ∙ ap (λ (b : Bool). if b then 0 else suc (number_named (map spelling (drop (i + 1) names)) name))
    (bytes_same (folded (spelling one)) (folded name) same)

pub other_named : (names : List Name) (i : ℕ) (one : Name) (name : List ℕ) → i < length names → one ≡ get_or names i one
    → (AreOneName (spelling one) name → ⊥)
    → number_named (map spelling (drop i names)) name ≡ suc (number_named (map spelling (drop (i + 1) names)) name)
other_named names i one name within is differ =
    ap (λ (ns : List Name). number_named (map spelling ns) name) (next_member names i one within is)
    ∙ ap (λ (b : Bool). if b then 0 else suc (number_named (map spelling (drop (i + 1) names)) name))
    (bytes_differ (folded (spelling one)) (folded name) differ)

pub not_true : (b : Bool) → b ≡ false → IsTrue b → ⊥
not_true b is h = let both : false ≡ true = sym is ∙ h in cc both

-- one argument more
pub one_argument : (name : List ℕ) (number : ℕ) (ss : List ℕ) (made new whole : List (List ℕ)) (one : List ℕ) → number < length ss
    → new ≡ made ++ one ∷ [] → one ≡ name ++ codes "." ++ decimal (number + 1)
    → made ++ argument_names name (1 + number) (drop number ss) ≡ whole
    → new ++ argument_names name (1 + (number + 1)) (drop (number + 1) ss) ≡ whole
one_argument name number ss made new whole one within is one_is so_far =
    let after : 1 + number ≡ number + 1 = omega arith in
    let next : 1 + (number + 1) ≡ suc (1 + number) = omega arith in
    ap (λ (xs : List (List ℕ)). xs ++ argument_names name (1 + (number + 1)) (drop (number + 1) ss)) is
    ∙ (append_assoc made (one ∷ []) (argument_names name (1 + (number + 1)) (drop (number + 1) ss))
    ∙ (ap (λ (k : ℕ). made ++ one ∷ argument_names name k (drop (number + 1) ss)) next
    ∙ (ap (λ (x : List ℕ). made ++ x ∷ argument_names name (suc (1 + number)) (drop (number + 1) ss))
    (one_is ∙ ap (λ (k : ℕ). name ++ codes "." ++ decimal k) (sym after))
    ∙ (ap (λ (xs : List ℕ). made ++ argument_names name (1 + number) xs)
    (sym (next_member ss number (get_or ss number 0) within (read_at ss number within))) ∙ so_far))))
