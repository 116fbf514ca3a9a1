-- Parts that are taken from a list and put on it.
use Rattle.std.proofs.Common.{◌≡◌, ◌<◌, ◌≤◌, ℕ, suc, ◌+◌, List, [], ◌∷◌, ◌++◌, drop, get_or, length, map, refl, ap, sym, ◌∙◌, arith}
use Rattle.std.proofs.Math.Seq.{drop-cons}
use Rattle.std.proofs.Math.ListN.{drop_of_length-le}
use Rattle.std.proofs.lemmas.List.{append-nil}
use Rattle.std.specs.declared.rc.Rc.{Rc}
use Rattle.std.specs.declared.alloc.Global.{Global}
use Rattle.sort_terms.specs.declared.equations.Variable.{Variable}
use Rattle.sort_terms.specs.declared.operations.Op.{Op}
use Rattle.sort_terms.specs.declared.signatures.Signature.{Signature}
use Rattle.sort_terms.specs.ProfiledTerm.{ProfiledTerms}
use Rattle.sort_terms.specs.TermView.{all_profiled}
use Rattle.sort_terms.specs.declared.terms.Term.{Term}
use Rattle.sort_terms.specs.declared.terms.Term.TheVariants.{Node}
use Rattle.sort_terms.proofs.BuiltLists.{node_with_items}
use Rattle.printed_texts.specs.Brackets.{listed}
use Rattle.printed_texts.specs.TextView.{argument_text}
use Rattle.printed_texts.proofs.BracketLemmas.{listed_nothing}
use Rattle.printed_texts.specs.Parts.{profiled_weight, part_weight, weight_of, part_weights, weights_of, with_part, written}
use Rattle.printed_texts.specs.declared.terms.Part.{Part}

written_last : (s : Signature) (names : List Variable) (parts : List Part) (part : Part) (text : List ℕ)
    → written s names (parts ++ part ∷ []) text ≡ written s names parts (with_part s names part text)
written_last s names [] part text = refl
written_last s names (first ∷ parts) part text = ap (with_part s names first) (written_last s names parts part text)

-- one part more on the list, which comes next
pub written_more : (s : Signature) (names : List Variable) (more parts : List Part) (part : Part) (text : List ℕ)
    → more ≡ parts ++ part ∷ []
    → written s names more text ≡ written s names parts (with_part s names part text)
written_more s names more parts part text is = ap (λ ps. written s names ps text) is ∙ written_last s names parts part text

weights_last : (parts : List Part) (part : Part) → part_weights (parts ++ part ∷ []) ≡ part_weights parts + part_weight part
weights_last [] part = omega arith
weights_last (first ∷ parts) part = let e = weights_last parts part in omega arith

pub weights_more : (more parts : List Part) (part : Part) → more ≡ parts ++ part ∷ []
    → part_weights more ≡ part_weights parts + part_weight part
weights_more more parts part is = ap part_weights is ∙ weights_last parts part

-- an operation on arguments, and a variable
pub weight_node : (t : Term) (op : ℕ) (profile : Rc Op Global) (arguments : ProfiledTerms) (items : List Term)
    → t ≡ Node op profile arguments → all_profiled items ≡ arguments → weight_of t ≡ 5 + weights_of items
weight_node t op profile arguments items is same = ap profiled_weight (node_with_items t op profile arguments items is same)

-- the two operands of an infix operation
pub weights_two : (ts : List Term) (t u : Term) → length ts ≡ 2 → t ≡ get_or ts 0 t → u ≡ get_or ts 1 u
    → weights_of ts ≡ 2 + weight_of t + weight_of u
weights_two [] t u h e d = grind arith
weights_two (x ∷ []) t u h e d = grind arith
weights_two (x ∷ y ∷ []) t u h e d =
    let one : weight_of x ≡ weight_of t = ap weight_of (sym e) in
    let two : weight_of y ≡ weight_of u = ap weight_of (sym d) in
    omega arith
weights_two (x ∷ y ∷ z ∷ ts) t u h e d = grind arith

-- the next argument
pub weights_next : (ts : List Term) (i : ℕ) (t : Term) → i < length ts → t ≡ get_or ts i t
    → weights_of (drop i ts) ≡ 1 + weight_of t + weights_of (drop (i + 1) ts)
weights_next ts i t within is =
    let next : suc i ≡ i + 1 = omega arith in
    let split : drop i ts ≡ get_or ts i t ∷ drop (suc i) ts = drop-cons ts i t within in
    let cut : drop i ts ≡ t ∷ drop (i + 1) ts = cc in
    let e : weights_of (drop i ts) ≡ suc (weight_of t + weights_of (drop (i + 1) ts)) = ap weights_of cut in
    omega (arith, e)

-- the five parts of an infix operation
pub written_five : (s : Signature) (names : List Variable) (old one two three four five : List Part) (a b c d e : Part) (text : List ℕ)
    → one ≡ old ++ a ∷ [] → two ≡ one ++ b ∷ [] → three ≡ two ++ c ∷ [] → four ≡ three ++ d ∷ [] → five ≡ four ++ e ∷ []
    → written s names five text
    ≡ written s names old
    (with_part s names a (with_part s names b (with_part s names c (with_part s names d (with_part s names e text)))))
written_five s names old one two three four five a b c d e text first second third fourth fifth =
    written_more s names five four e text fifth ∙ written_more s names four three d _ fourth ∙ written_more s names three two c _ third
    ∙ written_more s names two one b _ second ∙ written_more s names one old a _ first

pub weights_five : (old one two three four five : List Part) (a b c d e : Part) → one ≡ old ++ a ∷ [] → two ≡ one ++ b ∷ []
    → three ≡ two ++ c ∷ [] → four ≡ three ++ d ∷ [] → five ≡ four ++ e ∷ []
    → part_weights five ≡ part_weights old + part_weight a + part_weight b + part_weight c + part_weight d + part_weight e
weights_five old one two three four five a b c d e first second third fourth fifth =
    let g = weights_more one old a first in
    let h = weights_more two one b second in
    let i = weights_more three two c third in
    let j = weights_more four three d fourth in
    let k = weights_more five four e fifth in
    omega arith

-- arguments of which none is left
pub nothing_listed : (s : Signature) (names : List Variable) (ts : List Term) (i : ℕ) (text : List ℕ) → length ts ≤ i
    → text ≡ text ++ listed i (map (argument_text s names) (drop i ts))
nothing_listed s names ts i text past =
    sym (ap (λ us. text ++ listed i (map (argument_text s names) us)) (drop_of_length-le ts past)
    ∙ ap (λ xs. text ++ xs) (listed_nothing i) ∙ append-nil text)
