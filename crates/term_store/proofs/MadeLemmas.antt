-- Terms that are made one after another.
use Rattle.std.proofs.Common.{Vec, Global, Some, arith, refl, ap, sym, ◌∙◌, ◌≡◌, ◌<◌, ℕ, zero, suc, ◌+◌, ◌*◌, List, [], ◌∷◌, ◌++◌, length, map, get_or, take, drop, subst}
use Rattle.std.specs.declared.rc.Rc.{Rc}
use Rattle.lotos_base.specs.Signature.{Signature}
use Rattle.sort_terms.specs.ProfiledTerm.{ProfiledTerm, profiled_node}
use Rattle.sort_terms.specs.Operations.{operation_of}
use Rattle.sort_terms.specs.TermSize.{profiled_size, profiled_sizes}
use Rattle.sort_terms.specs.TermView.{profiled_of, all_profiled, profiled_terms}
use Rattle.sort_terms.specs.declared.operations.Op.{Op}
use Rattle.sort_terms.specs.declared.terms.Term.{Term as CodeTerm}
use Rattle.sort_terms.specs.MadeTerms.{made_of}
use Rattle.sort_terms.proofs.CopyLemmas.{made_more}
use Rattle.sort_terms.proofs.SizeLemmas.{some_profiled_size}
use Rattle.path_order.specs.RulesView.{signature_in}
use Rattle.path_order.specs.declared.rules.Rules.{Rules}
use Rattle.term_store.specs.Cells.{operation_in, operation_at, members, key_terms, AreBelow, HaveTermsOf}
use Rattle.term_store.specs.Made.{AreMadeOf, all_made, number_of_making, making_turns, making_turns_of, with_made, with_made_operation}
use Rattle.term_store.specs.Numbered.{term_at}
use Rattle.term_store.specs.declared.reading.Making.{Making}
use Rattle.term_store.specs.declared.reading.Making.TheVariants.{Term, Operation}
use Rattle.term_store.proofs.FirstRuleLemmas.{operation_term}
use Rattle.term_store.proofs.ReadLemmas.{members_list, profile_is}

-- ---- Lists of what is to be done.

all_made_append : (s : Signature) (keys : List (List ℕ)) (left more : List Making) (made : List ProfiledTerm)
    → all_made s keys (left ++ more) made ≡ all_made s keys left (all_made s keys more made)
all_made_append s keys [] more made = refl
all_made_append s keys (first ∷ left) more made = ap (with_made s keys first) (all_made_append s keys left more made)

pub all_made_next : (s : Signature) (keys : List (List ℕ)) (all left : List Making) (next : Making) (made : List ProfiledTerm)
    → all ≡ left ++ next ∷ [] → all_made s keys all made ≡ all_made s keys left (with_made s keys next made)
all_made_next s keys all left next made is =
    ap (λ list. all_made s keys list made) is ∙ all_made_append s keys left (next ∷ []) made

pub all_done : (s : Signature) (keys : List (List ℕ)) (left : List Making) (made : List ProfiledTerm) → length left ≡ 0
    → made ≡ all_made s keys left made
all_done s keys [] made none = refl
all_done s keys (next ∷ left) made none = absurd (omega (arith, none))

terms_made : (s : Signature) (keys : List (List ℕ)) (ns : List ℕ) (made : List ProfiledTerm)
    → all_made s keys (map Term ns) made ≡ map (term_at s keys) ns ++ made
terms_made s keys [] made = refl
terms_made s keys (n ∷ ns) made = ap (λ ts. term_at s keys n ∷ ts) (terms_made s keys ns made)

turns_append : (s : Signature) (keys : List (List ℕ)) (left more : List Making)
    → making_turns_of s keys (left ++ more) ≡ making_turns_of s keys left + making_turns_of s keys more
turns_append s keys [] more = omega arith
turns_append s keys (first ∷ left) more = let e = turns_append s keys left more in omega arith

pub turns_next : (s : Signature) (keys : List (List ℕ)) (all left : List Making) (next : Making) → all ≡ left ++ next ∷ []
    → making_turns_of s keys all ≡ making_turns s keys next + making_turns_of s keys left
turns_next s keys all left next is =
    let e = ap (making_turns_of s keys) is ∙ turns_append s keys left (next ∷ []) in omega arith

turns_of_terms : (s : Signature) (keys : List (List ℕ)) (ns : List ℕ)
    → making_turns_of s keys (map Term ns) ≡ 2 * profiled_sizes (members (key_terms s keys) ns)
turns_of_terms s keys [] = refl
turns_of_terms s keys (n ∷ ns) = let e = turns_of_terms s keys ns in omega arith

made_append : (keys : List (List ℕ)) (left more : List Making) → AreMadeOf keys left → AreMadeOf keys more → AreMadeOf keys (left ++ more)
made_append keys [] more one other = other
made_append keys (first ∷ left) more one other = (one.0, made_append keys left more one.1 other)

-- what comes next has the number of a term, and so have those before
pub made_next : (keys : List (List ℕ)) (all left : List Making) (next : Making) → all ≡ left ++ next ∷ [] → AreMadeOf keys all
    → (number_of_making next < length keys) × AreMadeOf keys left
made_next keys all left next is within = go left (subst (λ (list : List Making). AreMadeOf keys list) is within)
  where
    go : (list : List Making) → AreMadeOf keys (list ++ next ∷ []) → (number_of_making next < length keys) × AreMadeOf keys list
    go [] inside = (inside.0, tt)
    go (first ∷ list) inside = let rest = go list inside.1 in (rest.0, (inside.0, rest.1))

terms_within : (keys : List (List ℕ)) (ns : List ℕ) → AreBelow (length keys) ns → AreMadeOf keys (map Term ns)
terms_within keys [] below = tt
terms_within keys (n ∷ ns) below = (below.0, terms_within keys ns below.1)

-- ---- An operation.

front : (g : ℕ → ProfiledTerm) (ns : List ℕ) (rest : List ProfiledTerm) → take (length ns) (map g ns ++ rest) ≡ map g ns
front g [] rest = refl
front g (n ∷ ns) rest = ap (λ ts. g n ∷ ts) (front g ns rest)

behind : (g : ℕ → ProfiledTerm) (ns : List ℕ) (rest : List ProfiledTerm) → drop (length ns) (map g ns ++ rest) ≡ rest
behind g [] rest = refl
behind g (n ∷ ns) rest = behind g ns rest

-- what is to be done for an operation: its arguments, then itself
pub operation_begun : (rules : Rules) (keys : List (List ℕ)) (n f : ℕ) (ns : List ℕ) (old one more : List Making) (made : List ProfiledTerm)
    → HaveTermsOf (signature_in rules) keys → n < length keys → Some (f, ns) ≡ operation_in (get_or keys n [])
    → one ≡ old ++ Operation n ∷ [] → more ≡ one ++ map Term ns
    → all_made (signature_in rules) keys more made ≡ all_made (signature_in rules) keys old (term_at (signature_in rules) keys n ∷ made)
operation_begun rules keys n f ns old one more made have inside some is grown =
    let s = signature_in rules in
    let g = term_at s keys in
    ap (λ list. all_made s keys list made) grown ∙ all_made_append s keys one (map Term ns) made
    ∙ ap (all_made s keys one) (terms_made s keys ns made)
    ∙ all_made_next s keys one old (Operation n) (map g ns ++ made) is
    ∙ ap (λ o. all_made s keys old (with_made_operation s o (map g ns ++ made))) (sym some)
    ∙ ap (λ ts. all_made s keys old (profiled_node f (operation_at s f) (profiled_terms ts) ∷ drop (length ns) (map g ns ++ made)))
    (front g ns made)
    ∙ ap (λ ts. all_made s keys old (profiled_node f (operation_at s f) (profiled_terms (map g ns)) ∷ ts)) (behind g ns made)
    ∙ ap (λ ts. all_made s keys old (profiled_node f (operation_at s f) ts ∷ made)) (sym (members_list (key_terms s keys) ns))
    ∙ ap (λ t. all_made s keys old (t ∷ made)) (sym (operation_term s keys n f ns have inside some))

pub operation_within : (keys : List (List ℕ)) (n : ℕ) (ns : List ℕ) (old one more : List Making) → n < length keys
    → AreBelow (length keys) ns → one ≡ old ++ Operation n ∷ [] → more ≡ one ++ map Term ns → AreMadeOf keys old → AreMadeOf keys more
operation_within keys n ns old one more inside below is grown within =
    subst (λ (list : List Making). AreMadeOf keys list) (sym (grown ∙ ap (λ list. list ++ map Term ns) is))
    (made_append keys (old ++ Operation n ∷ []) (map Term ns) (made_append keys old (Operation n ∷ []) within (inside, tt))
    (terms_within keys ns below))

pub variable_less : (s : Signature) (keys : List (List ℕ)) (n : ℕ) (old : List Making)
    → making_turns_of s keys old < making_turns s keys (Term n) + making_turns_of s keys old
variable_less s keys n old = let some = some_profiled_size (term_at s keys n) in omega (arith, some)

pub operation_less : (rules : Rules) (keys : List (List ℕ)) (n f : ℕ) (ns : List ℕ) (old one more : List Making)
    → HaveTermsOf (signature_in rules) keys → n < length keys → Some (f, ns) ≡ operation_in (get_or keys n [])
    → one ≡ old ++ Operation n ∷ [] → more ≡ one ++ map Term ns
    → making_turns_of (signature_in rules) keys more < making_turns (signature_in rules) keys (Term n)
    + making_turns_of (signature_in rules) keys old
operation_less rules keys n f ns old one more have inside some is grown =
    let s = signature_in rules in
    let first = turns_next s keys one old (Operation n) is in
    let rest = ap (making_turns_of s keys) grown ∙ turns_append s keys one (map Term ns) in
    let arguments = turns_of_terms s keys ns in
    let whole : profiled_size (term_at s keys n) ≡ suc (profiled_sizes (members (key_terms s keys) ns))
    = ap profiled_size (operation_term s keys n f ns have inside some) in
    omega (arith, first, rest, arguments, whole)

-- it is made of the terms made last
pub operation_made : (rules : Rules) (keys : List (List ℕ)) (n f : ℕ) (ns : List ℕ) (profiles : List (Rc Op Global))
    (p profile : Rc Op Global) (arguments : Vec CodeTerm Global) (whole : CodeTerm) (old rest new : List CodeTerm) (left : List Making)
    → map (λ q. operation_of q.value) profiles ≡ (signature_in rules).operations → HaveTermsOf (signature_in rules) keys
    → n < length keys → Some (f, ns) ≡ operation_in (get_or keys n []) → p ≡ get_or profiles f p → profile.value ≡ p.value
    → length arguments.items ≡ length ns → made_of old ≡ map profiled_of arguments.items ++ made_of rest
    → profiled_of whole ≡ profiled_node f (operation_of profile.value) (all_profiled arguments.items) → new ≡ rest ++ whole ∷ []
    → all_made (signature_in rules) keys left (made_of new)
    ≡ all_made (signature_in rules) keys left (with_made (signature_in rules) keys (Operation n) (made_of old))
operation_made rules keys n f ns profiles p profile arguments whole old rest new left profiled have inside some is same many was own grown =
    let s = signature_in rules in
    ap (all_made s keys left)
    (made_more new rest whole grown
    ∙ ap (λ t. t ∷ made_of rest) own
    ∙ ap (λ o. profiled_node f o (all_profiled arguments.items) ∷ made_of rest)
    (profile_is rules keys n f ns profiles p profile profiled have inside some is same)
    ∙ ap (λ ts. profiled_node f (operation_at s f) (profiled_terms ts) ∷ made_of rest) (sym (taken arguments.items (length ns) many))
    ∙ ap (λ ts. profiled_node f (operation_at s f) (profiled_terms (take (length ns) (map profiled_of arguments.items ++ made_of rest)))
    ∷ ts)
    (sym (left_over arguments.items (length ns) many))
    ∙ ap (with_made_operation s (Some (f, ns))) (sym was)
    ∙ ap (λ o. with_made_operation s o (made_of old)) some)
  where
    taken : (ts : List CodeTerm) (count : ℕ) → length ts ≡ count → take count (map profiled_of ts ++ made_of rest) ≡ map profiled_of ts
    taken [] zero many = refl
    taken [] (suc count) many = absurd (omega (arith, many))
    taken (t ∷ ts) zero many = absurd (omega (arith, many))
    taken (t ∷ ts) (suc count) many = ap (λ more. profiled_of t ∷ more) (taken ts count (omega (arith, many)))

    left_over : (ts : List CodeTerm) (count : ℕ) → length ts ≡ count → drop count (map profiled_of ts ++ made_of rest) ≡ made_of rest
    left_over [] zero many = refl
    left_over [] (suc count) many = absurd (omega (arith, many))
    left_over (t ∷ ts) zero many = absurd (omega (arith, many))
    left_over (t ∷ ts) (suc count) many = left_over ts count (omega (arith, many))
