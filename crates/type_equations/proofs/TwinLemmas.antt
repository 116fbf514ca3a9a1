-- Results of operations by their keys, and the marks that follow from them.
use Rattle.std.proofs.Common.{◌≡◌, ℕ, Bool, true, false, cond, List, [], ◌∷◌, ◌++◌, refl, ap, sym, ◌∙◌, not, nat_eq}
use Rattle.std.specs.Prelude.{◌||◌, ◌&&◌, Option, Some, Vec}
use Rattle.std.specs.declared.alloc.Global.{Global}
use Rattle.std.specs.List.{list_any}
use Rattle.std.specs.Str.{bytes_eq}
use Rattle.std.proofs.lemmas.List.Folds.{list_any-append}
use Rattle.lotos_base.proofs.Bytes.{bytes_same, same_bytes}
use Rattle.lotos_base.specs.Signature.{Operation}
use Rattle.lotos_base.specs.Twins.{are_twins, has_twin}
use Rattle.type_presentations.specs.Keys.{twin_key}
use Rattle.type_presentations.specs.KeyLaws.{twins}
use Rattle.type_equations.specs.OtherResults.{has_other}
use Rattle.type_equations.specs.ResultsView.{TellTwins, known_under}
use Rattle.type_equations.specs.declared.twins.ResultsByKey.{ResultsByKey}

or_false : (b : Bool) → (b || false) ≡ b
or_false true = refl
or_false false = refl

-- what one operation more says of another
one_key : (o p : Operation) (b : Bool) → bytes_eq (twin_key o) (twin_key p) ≡ b
    → are_twins o p ≡ (b && not (nat_eq o.result p.result))
one_key o p b is = twins o p ∙ ap (λ (test : Bool). test && not (nat_eq o.result p.result)) is

-- one operation more
pub one_more : (operations : List Operation) (before after : ResultsByKey) (added : Operation) (key : Vec ℕ Global) (common : Option ℕ)
    → key.items ≡ twin_key added
    → ((q : Vec ℕ Global) → known_under after q ≡ cond (bytes_eq key.items q.items) (Some common) (known_under before q))
    → ((one : ℕ) → has_other (Some common) one ≡ (has_other (known_under before key) one || not (nat_eq one added.result)))
    → TellTwins operations before → TellTwins (operations ++ added ∷ []) after
one_more operations before after added key common is grown other tell = λ q o at.
    go q o at (bytes_eq key.items q.items) refl (grown q)
    ∙ sym (list_any-append (are_twins o) operations (added ∷ [])
    ∙ ap (λ (b : Bool). list_any (are_twins o) operations || b) (or_false (are_twins o added)))
  where
    differing : (q : Vec ℕ Global) (o : Operation) → q.items ≡ twin_key o → bytes_eq key.items q.items ≡ false
        → (b : Bool) → bytes_eq (twin_key o) (twin_key added) ≡ b → b ≡ false
    differing q o at apart true same =
        let e : twin_key o ≡ twin_key added = same_bytes (twin_key o) (twin_key added) same in
        let one : key.items ≡ q.items = is ∙ sym e ∙ sym at in
        sym (bytes_same key.items q.items one) ∙ apart
    differing q o at apart false differs = refl

    go : (q : Vec ℕ Global) (o : Operation) → q.items ≡ twin_key o → (test : Bool) → bytes_eq key.items q.items ≡ test
        → known_under after q ≡ cond test (Some common) (known_under before q)
        → has_other (known_under after q) o.result ≡ (list_any (are_twins o) operations || are_twins o added)
    go q o at true same known =
        let one : key.items ≡ twin_key o = same_bytes key.items q.items same ∙ at in
        let twin : are_twins o added ≡ not (nat_eq o.result added.result) =
        one_key o added true (bytes_same (twin_key o) (twin_key added) (sym one ∙ is)) in
        ap (λ k. has_other k o.result) known ∙ other o.result
        ∙ ap (λ (b : Bool). b || not (nat_eq o.result added.result)) (tell key o one)
        ∙ ap (λ (b : Bool). list_any (are_twins o) operations || b) (sym twin)
    go q o at false apart known =
        let twin : are_twins o added ≡ false =
        one_key o added false (differing q o at apart (bytes_eq (twin_key o) (twin_key added)) refl) in
        ap (λ k. has_other k o.result) known ∙ tell q o at ∙ sym (or_false (list_any (are_twins o) operations))
        ∙ ap (λ (b : Bool). list_any (are_twins o) operations || b) (sym twin)
