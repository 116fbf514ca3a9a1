-- Terms that are taken out of those that are kept.
use Rattle.std.proofs.Common.{arith, refl, ap, sym, ◌∙◌, ◌≡◌, ◌<◌, ℕ, zero, suc, List, [], ◌∷◌, length, map, get_or, None, Some, Global}
use Rattle.std.proofs.lemmas.Option.{same_Some}
use Rattle.std.proofs.lemmas.List.{length-map, get_or-map, get_or_default}
use Rattle.std.specs.declared.rc.Rc.{Rc}
use Rattle.lotos_base.specs.Signature.{Operation}
use Rattle.sort_terms.specs.ProfiledTerm.{ProfiledTerm, ProfiledTerms, profiled_variable, profiled_term_then}
use Rattle.sort_terms.specs.Operations.{operation_of}
use Rattle.sort_terms.specs.TermView.{profiled_terms}
use Rattle.sort_terms.specs.declared.operations.Op.{Op}
use Rattle.path_order.specs.RulesView.{signature_in}
use Rattle.path_order.specs.declared.rules.Rules.{Rules}
use Rattle.term_store.specs.Cells.{no_such_term, operation_in, operation_at, members, key_term, key_terms, IsCell, HaveTermsOf}
use Rattle.term_store.specs.KeyView.{variable_in}
use Rattle.term_store.specs.Numbered.{term_at}
use Rattle.term_store.proofs.CellLemmas.{first_term_of_key, first_cell_at}
use Rattle.term_store.proofs.FirstRuleLemmas.{operation_inside}

-- as a list
pub members_list : (terms : List ProfiledTerm) (ns : List ℕ)
    → members terms ns ≡ profiled_terms (map (λ n. get_or terms n no_such_term) ns)
members_list terms [] = refl
members_list terms (n ∷ ns) = ap (λ (ts : ProfiledTerms). profiled_term_then (get_or terms n no_such_term) ts) (members_list terms ns)

-- ---- A variable

pub variable_read : (rules : Rules) (keys : List (List ℕ)) (n number sort : ℕ) → HaveTermsOf (signature_in rules) keys
    → n < length keys → variable_in (get_or keys n []) ≡ Some (number, sort)
    → term_at (signature_in rules) keys n ≡ profiled_variable number sort
variable_read rules keys n number sort have inside is =
    first_term_of_key (signature_in rules) keys n have.cells inside ∙ go (get_or keys n []) is
  where
    go : (key : List ℕ) → variable_in key ≡ Some (number, sort)
        → key_term (signature_in rules) (key_terms (signature_in rules) keys) key ≡ profiled_variable number sort
    go [] is = cc
    go (suc m ∷ ns) is = cc
    go (zero ∷ []) is = cc
    go (zero ∷ m ∷ []) is = cc
    go (zero ∷ m ∷ s ∷ ns) is =
        ap (λ (p : ℕ × ℕ). profiled_variable p.0 p.1) (same_Some (m, s) (number, sort) is)

pub variable_missing : (rules : Rules) (keys : List (List ℕ)) (n : ℕ) → HaveTermsOf (signature_in rules) keys → n < length keys
    → operation_in (get_or keys n []) ≡ None → variable_in (get_or keys n []) ≡ None → ⊥
variable_missing rules keys n have inside none missing = go (get_or keys n []) (first_cell_at keys n have.cells inside) none missing
  where
    go : (key : List ℕ) → IsCell n key → operation_in key ≡ None → variable_in key ≡ None → ⊥
    go [] cell none missing = cell
    go (suc m ∷ []) cell none missing = cell
    go (suc m ∷ f ∷ ns) cell none missing = cc
    go (zero ∷ []) cell none missing = omega (arith, cell)
    go (zero ∷ m ∷ []) cell none missing = omega (arith, cell)
    go (zero ∷ m ∷ s ∷ ns) cell none missing = cc

-- ---- An operation

-- each operation of a term that is kept has a profile
pub profile_inside : (rules : Rules) (keys : List (List ℕ)) (n f : ℕ) (ns : List ℕ) (profiles : List (Rc Op Global))
    → map (λ q. operation_of q.value) profiles ≡ (signature_in rules).operations → HaveTermsOf (signature_in rules) keys
    → n < length keys → Some (f, ns) ≡ operation_in (get_or keys n []) → f < length profiles
profile_inside rules keys n f ns profiles profiled have inside some =
    let there = operation_inside rules keys n f ns have inside some in
    let many = length-map profiles (λ (q : Rc Op Global). operation_of q.value) in
    let same = ap length profiled in
    omega (arith, there, many, same)

-- it is that of the operation
pub profile_is : (rules : Rules) (keys : List (List ℕ)) (n f : ℕ) (ns : List ℕ) (profiles : List (Rc Op Global)) (p profile : Rc Op Global)
    → map (λ q. operation_of q.value) profiles ≡ (signature_in rules).operations → HaveTermsOf (signature_in rules) keys
    → n < length keys → Some (f, ns) ≡ operation_in (get_or keys n [])
    → p ≡ get_or profiles f p → profile.value ≡ p.value → operation_of profile.value ≡ operation_at (signature_in rules) f
profile_is rules keys n f ns profiles p profile profiled have inside some is same =
    let within = profile_inside rules keys n f ns profiles profiled have inside some in
    let value : Rc Op Global → Operation = (λ q. operation_of q.value) in
    let there = operation_at (signature_in rules) f in
    ap operation_of same ∙ ap value is ∙ sym (get_or-map value profiles f p there within)
    ∙ ap (λ (ops : List Operation). get_or ops f there) profiled
    ∙ get_or_default (signature_in rules).operations f there _ (operation_inside rules keys n f ns have inside some)
