-- Arguments built one after the other.
use Rattle.std.proofs.Common.{Vec, Global, true, ltb, ltb-true, ◌≡◌, ℕ, suc, ◌+◌, ◌<◌, List, [], ◌∷◌, ◌++◌, length, get_or, drop, refl, ap, sym, ◌∙◌, arith}
use Rattle.std.specs.Prelude.{Option, Some, None, map, slice_get}
use Rattle.std.specs.declared.rc.Rc.{Rc}
use Rattle.std.proofs.lemmas.Option.{slice_get-get_or}
use Rattle.std.specs.Option.{option_map}
use Rattle.std.proofs.Math.Seq.{drop-cons}
use Rattle.lotos_base.proofs.Members.{at_map}
use Rattle.lotos_base.specs.Signature.{Signature}
use Rattle.sort_terms.specs.ProfiledTerm.{ProfiledTerm, ProfiledTerms, profiled_node, no_profiled_terms, profiled_term_then, profiled_variable}
use Rattle.sort_terms.specs.Tables.{built_from, all_built_from, node_with, profiled_cons}
use Rattle.sort_terms.specs.TableView.{table_of, tables_of}
use Rattle.sort_terms.specs.TermView.{all_profiled, profiled_of}
use Rattle.sort_terms.specs.declared.counted.Counted.{Counted}
use Rattle.sort_terms.specs.declared.operations.Op.{Op}
use Rattle.sort_terms.specs.declared.terms.Term.{Term}
use Rattle.sort_terms.specs.declared.terms.Term.TheVariants.{Node, Var}
use Rattle.sort_terms.specs.Operations.{operation_of}
use Rattle.sort_terms.proofs.TermListLemmas.{with_last_profiled, all_profiled-append}

-- one list behind another one
abbrev pub joined_lists : ProfiledTerms → ProfiledTerms → ProfiledTerms
joined_lists no_profiled_terms qs = qs
joined_lists (profiled_term_then p ps) qs = profiled_term_then p (joined_lists ps qs)

-- terms behind those that are built already
abbrev pub behind : ProfiledTerms → Option ProfiledTerms → Option ProfiledTerms
behind ps None = None
behind ps (Some qs) = Some (joined_lists ps qs)

pub other_length_built : (signature : Signature) (sorts : List ℕ) (arguments : List Counted) → ¬ (length arguments ≡ length sorts)
    → None ≡ all_built_from signature (tables_of arguments) sorts
other_length_built signature [] [] differ = absurd (differ refl)
other_length_built signature [] (a ∷ arguments) differ = refl
other_length_built signature (s ∷ sorts) [] differ = refl
other_length_built signature (s ∷ sorts) (a ∷ arguments) differ =
    sym (cons_none (built_from signature (table_of a) s))
    ∙ ap (λ (o : Option ProfiledTerms). profiled_cons (built_from signature (table_of a) s) o)
    (other_length_built signature sorts arguments (λ same. differ (ap (λ (n : ℕ). suc n) same)))
  where
    cons_none : (o : Option ProfiledTerm) → profiled_cons o None ≡ None
    cons_none None = refl
    cons_none (Some p) = refl

dropped_built : (signature : Signature) (sorts : List ℕ) (arguments : List Counted) (i s : ℕ) (a : Counted) → i < length sorts
    → i < length arguments → s ≡ get_or sorts i s → a ≡ get_or arguments i a
    → all_built_from signature (tables_of (drop i arguments)) (drop i sorts)
    ≡ profiled_cons (built_from signature (table_of a) s) (all_built_from signature (tables_of (drop (suc i) arguments))
    (drop (suc i) sorts))
dropped_built signature sorts arguments i s a within inside is at =
    ap (λ (ss : List ℕ). all_built_from signature (tables_of (drop i arguments)) ss)
    (drop-cons sorts i s within ∙ ap (λ (x : ℕ). x ∷ drop (suc i) sorts) (sym is))
    ∙ ap (λ (rest : List Counted). all_built_from signature (tables_of rest) (s ∷ drop (suc i) sorts))
    (drop-cons arguments i a inside ∙ ap (λ (x : Counted). x ∷ drop (suc i) arguments) (sym at))

joined_last : (ps : ProfiledTerms) (p : ProfiledTerm) (qs : ProfiledTerms)
    → joined_lists ps (profiled_term_then p qs) ≡ joined_lists (with_last_profiled ps p) qs
joined_last no_profiled_terms p qs = refl
joined_last (profiled_term_then q ps) p qs = ap (λ (rs : ProfiledTerms). profiled_term_then q rs) (joined_last ps p qs)

behind_more : (ps : ProfiledTerms) (p : ProfiledTerm) (o : Option ProfiledTerms)
    → behind ps (profiled_cons (Some p) o) ≡ behind (with_last_profiled ps p) o
behind_more ps p None = refl
behind_more ps p (Some qs) = ap (λ (rs : ProfiledTerms). Some rs) (joined_last ps p qs)

-- one more argument
pub built_more : (signature : Signature) (sorts : List ℕ) (arguments : List Counted) (i s : ℕ) (a : Counted) (old new : List Term)
    (t : Term)
    → i < length sorts → i < length arguments → s ≡ get_or sorts i s → a ≡ get_or arguments i a
    → Some (profiled_of t) ≡ built_from signature (table_of a) s → new ≡ old ++ t ∷ []
    → all_built_from signature (tables_of arguments) sorts
    ≡ behind (all_profiled old) (all_built_from signature (tables_of (drop i arguments)) (drop i sorts))
    → all_built_from signature (tables_of arguments) sorts
    ≡ behind (all_profiled new) (all_built_from signature (tables_of (drop (i + 1) arguments)) (drop (i + 1) sorts))
built_more signature sorts arguments i s a old new t within inside is at some pushed so_far =
    let next : i + 1 ≡ suc i = omega arith in
    so_far
    ∙ ap (λ (o : Option ProfiledTerms). behind (all_profiled old) o) (dropped_built signature sorts arguments i s a within inside is at
    ∙ ap (λ (o : Option ProfiledTerm). profiled_cons o (all_built_from signature (tables_of (drop (suc i) arguments)) (drop (suc i) sorts)))
    (sym some))
    ∙ behind_more (all_profiled old) (profiled_of t) (all_built_from signature (tables_of (drop (suc i) arguments)) (drop (suc i) sorts))
    ∙ ap (λ (ps : ProfiledTerms). behind ps (all_built_from signature (tables_of (drop (suc i) arguments)) (drop (suc i) sorts)))
    (sym (ap all_profiled pushed ∙ all_profiled-append old t))
    ∙ ap (λ (j : ℕ). behind (all_profiled new) (all_built_from signature (tables_of (drop j arguments)) (drop j sorts))) (sym next)

joined_nothing : (ps : ProfiledTerms) → joined_lists ps no_profiled_terms ≡ ps
joined_nothing no_profiled_terms = refl
joined_nothing (profiled_term_then p ps) = ap (λ (rs : ProfiledTerms). profiled_term_then p rs) (joined_nothing ps)

-- all arguments
pub built_wholly : (signature : Signature) (sorts : List ℕ) (arguments : List Counted) (i : ℕ) (made : List Term)
    → drop i sorts ≡ [] → drop i arguments ≡ []
    → all_built_from signature (tables_of arguments) sorts
    ≡ behind (all_profiled made) (all_built_from signature (tables_of (drop i arguments)) (drop i sorts))
    → Some (all_profiled made) ≡ all_built_from signature (tables_of arguments) sorts
built_wholly signature sorts arguments i made none nothing so_far =
    sym (so_far ∙ ap (λ (rest : List Counted). behind (all_profiled made)
    (all_built_from signature (tables_of rest) (drop i sorts))) nothing
    ∙ ap (λ (ss : List ℕ). behind (all_profiled made) (all_built_from signature (tables_of []) ss)) none
    ∙ ap (λ (ps : ProfiledTerms). Some ps) (joined_nothing (all_profiled made)))

pub profiled_Node : (number : ℕ) (made : Rc Op Global) (arguments : ProfiledTerms)
    → profiled_of (Node number made arguments) ≡ profiled_node number (operation_of made.value) arguments
profiled_Node number made arguments = refl

-- an operation whose arguments are these
pub node_with_items : (t : Term) (number : ℕ) (profile : Rc Op Global) (arguments : ProfiledTerms) (items : List Term)
    → t ≡ Node number profile arguments → all_profiled items ≡ arguments
    → profiled_of t ≡ profiled_node number (operation_of profile.value) (all_profiled items)
node_with_items t number profile arguments items is same =
    ap profiled_of is ∙ ap (profiled_node number (operation_of profile.value)) (sym same)

-- an operation on arguments that are built
pub built_operation : (ops : List Op) (profiles : List (Rc Op Global)) (number : ℕ) (known made : Rc Op Global)
    (arguments : Vec Term Global) (whole : Term)
    (below : List ℕ → Option ProfiledTerms) → map (λ p. operation_of p.value) profiles ≡ map operation_of ops
    → true ≡ ltb number (length profiles) → known ≡ get_or profiles number known → made.value ≡ known.value
    → Some (all_profiled arguments.items) ≡ below known.value.arguments.items
    → profiled_of whole ≡ profiled_node number (operation_of made.value) (all_profiled arguments.items)
    → Some (profiled_of whole) ≡ node_with number below (slice_get (map operation_of ops) number)
built_operation ops profiles number known made arguments whole below same within is copy built node =
    let here : slice_get profiles number ≡ Some known =
    slice_get-get_or profiles number known (ltb-true number (length profiles) (sym within)) ∙ ap (λ (rc : Rc Op Global). Some rc)
    (sym is) in
    let operation : slice_get (map operation_of ops) number ≡ Some (operation_of known.value) =
    ap (λ os. slice_get os number) (sym same) ∙ at_map (λ (p : Rc Op Global). operation_of p.value) profiles number known here in
    sym (ap (λ o. node_with number below o) operation ∙ ap (λ o. option_map (profiled_node number (operation_of known.value)) o) (sym built)
    ∙ ap (λ (op : Op). Some (profiled_node number (operation_of op) (all_profiled arguments.items))) (sym copy)
    ∙ ap (λ (t : ProfiledTerm). Some t) (sym node))

pub profiled_Var : (n s : ℕ) → profiled_of (Var n s) ≡ profiled_variable n s
profiled_Var n s = refl
