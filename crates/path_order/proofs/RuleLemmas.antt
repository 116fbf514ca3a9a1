-- The index of rules by their heads, and rules over a signature.
use Rattle.std.proofs.Common.{◌≡◌, ℕ, zero, suc, ◌+◌, ◌<◌, ◌≤◌, List, [], ◌∷◌, ◌++◌, length, get_or, drop, refl, ap, sym, ◌∙◌, subst, arith, Vec, Global, append_assoc, append-nil}
use Rattle.std.specs.Prelude.{Some, None, slice_get, if◌then◌else◌}
use Rattle.std.specs.Option.{option_map_or}
use Rattle.std.proofs.Math.ListN.{drop_of_length-le}
use Rattle.std.proofs.Math.Seq.{drop-cons}
use Rattle.std.proofs.lemmas.List.{length-map, length-append}
use Rattle.std.proofs.lemmas.Option.{slice_get_within}
use Rattle.lotos_base.specs.Term.{Term as PlainTerm}
use Rattle.lotos_base.specs.Signature.{Signature}
use Rattle.sort_terms.specs.Operations.{operation_of}
use Rattle.sort_terms.specs.ProfiledTerm.{ProfiledTerm, profiled_variable, profiled_node, bare, IsOf}
use Rattle.sort_terms.specs.SignatureView.{signature_of}
use Rattle.sort_terms.specs.SortedView.{profiled_in, term_in}
use Rattle.sort_terms.specs.declared.signatures.Signature.{Signature as CodeSignature}
use Rattle.path_order.specs.declared.rule.Rule.{Rule}
use Rattle.path_order.specs.HeadBelow.{IsHeadBelow}
use Rattle.path_order.specs.RuleHead.{has_head, headed_from}
use Rattle.path_order.specs.RuleSides.{sides_of, all_sides, AreRulesOver}
use Rattle.path_order.specs.RuleView.{plain_rules}

-- what lists of numbers have at a position, nothing past their end
abbrev pub under : List (Vec ℕ Global) → ℕ → List ℕ
under xs f = option_map_or (λ (numbers : Vec ℕ Global). numbers.items) (slice_get xs f) []

pub empty_more : (xs new : List (Vec ℕ Global)) (v : Vec ℕ Global) → new ≡ xs ++ v ∷ [] → v.items ≡ []
    → ((f : ℕ) → under xs f ≡ []) → (f : ℕ) → under new f ≡ []
empty_more xs new v is none so_far f = ap (λ (ys : List (Vec ℕ Global)). under ys f) is ∙ go xs f so_far
  where
    go : (ys : List (Vec ℕ Global)) (k : ℕ) → ((i : ℕ) → under ys i ≡ []) → under (ys ++ v ∷ []) k ≡ []
    go [] zero empty = none
    go [] (suc k) empty = refl
    go (y ∷ ys) zero empty = empty zero
    go (y ∷ ys) (suc k) empty = go ys k (λ i. empty (suc i))

pub length_more : (xs new : List (Vec ℕ Global)) (v : Vec ℕ Global) (n : ℕ) → new ≡ xs ++ v ∷ [] → length xs ≡ n → length new ≡ n + 1
length_more xs new v n is long =
    let one : length new ≡ length xs + 1 = ap (λ (ys : List (Vec ℕ Global)). length ys) is
    ∙ length-append xs (v ∷ []) in omega (arith, one, long)

-- ---- heads

abbrev pub one_headed : ℕ → ℕ → PlainTerm → List ℕ
one_headed f i t = if has_head f t then i ∷ [] else []

pub headed_more : (f i : ℕ) (xs : List Rule) (x : Rule) (before after whole : List ℕ) → i < length xs → x ≡ get_or xs i x
    → after ≡ before ++ one_headed f i (term_in x.left) → before ++ headed_from f i (plain_rules (drop i xs)) ≡ whole
    → after ++ headed_from f (i + 1) (plain_rules (drop (i + 1) xs)) ≡ whole
headed_more f i xs x before after whole within is added so_far =
    let next : suc i ≡ i + 1 = omega arith in
    let opened : drop i xs ≡ x ∷ drop (i + 1) xs =
    drop-cons xs i x within ∙ (λ j. sym is j ∷ drop (next j) xs) in
    ap (λ (ns : List ℕ). ns ++ headed_from f (i + 1) (plain_rules (drop (i + 1) xs))) added
    ∙ append_assoc before (one_headed f i (term_in x.left)) (headed_from f (i + 1) (plain_rules (drop (i + 1) xs)))
    ∙ ap (λ (n : ℕ). before ++ (one_headed f i (term_in x.left) ++ headed_from f n (plain_rules (drop (i + 1) xs)))) (sym next)
    ∙ ap (λ (ys : List Rule). before ++ headed_from f i (plain_rules ys)) (sym opened)
    ∙ so_far

pub headed_end : (f n : ℕ) (xs : List Rule) (have whole : List ℕ) → length xs ≤ n
    → have ++ headed_from f n (plain_rules (drop n xs)) ≡ whole → have ≡ whole
headed_end f n xs have whole past so_far =
    sym (append-nil have) ∙ ap (λ (ys : List Rule). have ++ headed_from f n (plain_rules ys)) (sym (drop_of_length-le xs past)) ∙ so_far

-- the head of a term of a signature is an operation of it
head_below : (signature : Signature) (t : ProfiledTerm) → IsOf signature t → IsHeadBelow (length signature.operations) (bare t)
head_below signature (profiled_variable n s) h = tt
head_below signature (profiled_node f operation ts) h = slice_get_within signature.operations f operation h.0

pub member_of : (xs : List Rule) (i : ℕ) (x : Rule) → i < length xs → x ≡ get_or xs i x → slice_get (all_sides xs) i ≡ Some (sides_of x)
member_of [] i x within is = absurd (omega arith)
member_of (y ∷ ys) zero x within is = ap (λ (r : Rule). Some (sides_of r)) (sym is)
member_of (y ∷ ys) (suc i) x within is = member_of ys i x (omega arith) is

pub rule_head_below : (signature : CodeSignature) (xs : List Rule) (i : ℕ) (x : Rule) → AreRulesOver (signature_of signature) xs
    → i < length xs → x ≡ get_or xs i x → IsHeadBelow (length signature.ops.items) (term_in x.left)
rule_head_below signature xs i x over within is =
    subst (λ (n : ℕ). IsHeadBelow n (term_in x.left)) (length-map signature.ops.items operation_of)
    (head_below (signature_of signature) (profiled_in x.left) (over i (sides_of x) (member_of xs i x within is)).left_is_of)

pub no_sides : (signature : Signature) (xs : List Rule) → xs ≡ [] → AreRulesOver signature xs
no_sides signature xs is =
    subst (λ (ys : List Rule). AreRulesOver signature ys) (sym is) (λ k sides at. let none : None ≡ Some sides = at in cc)
