-- The code's lists and loops.
use Rattle.std.proofs.Common.{◌≡◌, ◌<◌, ℕ, zero, suc, ◌+◌, List, [], ◌∷◌, ◌++◌, drop, map, set, length, get_or, slice_get, Some, refl, ap, sym, ◌∙◌, arith, add-one, eqb-true, Vec, Global, vec_len, Bool, true, false, ◌==◌}
use Rattle.std.proofs.lemmas.List.{length-map}
use Rattle.std.proofs.lemmas.Option.{none-some, get_or_from_slice_get}
use Rattle.behaviour_tree.specs.declared.definitions.Process.{Process}
use Rattle.process_checks.specs.Calls.{process_at, call_sites_of, call_graph_of}
use Rattle.process_checks.specs.Distances.{Reach, one_marked, marked_processes, with_caller, with_call, with_calls}
use Rattle.process_checks.specs.Graph.{IsCallAt, calls_at}
use Rattle.process_checks.specs.GraphView.{members_of_list, lists_of}
use Rattle.process_checks.specs.declared.calls.CallSite.{CallSite}

pub lists_set : (lists : List (Vec ℕ Global)) (i : ℕ) (v : Vec ℕ Global) → lists_of (set lists i v) ≡ set (lists_of lists) i v.items
lists_set [] i v = refl
lists_set (w ∷ lists) zero v = refl
lists_set (w ∷ lists) (suc i) v = ap (λ (ls : List (List ℕ)). w.items ∷ ls) (lists_set lists i v)

pub list_there : (lists : List (Vec ℕ Global)) (i : ℕ) (v : Vec ℕ Global) → i < length lists → v ≡ get_or lists i v
    → calls_at (lists_of lists) i ≡ v.items
list_there [] i v there is = absurd (omega (arith, there))
list_there (w ∷ lists) zero v there is = ap members_of_list (sym is)
list_there (w ∷ lists) (suc i) v there is = list_there lists i v (omega (arith, there)) is

-- A caller more, in the code's lists.
pub caller_put : (lists : List (Vec ℕ Global)) (process caller : ℕ) (old new : Vec ℕ Global) → process < length lists
    → old ≡ get_or lists process old → new.items ≡ old.items ++ caller ∷ []
    → lists_of (set lists process new) ≡ with_caller caller process (lists_of lists)
caller_put lists process caller old new there is more =
    lists_set lists process new
    ∙ ap (λ (ns : List ℕ). set (lists_of lists) process ns)
    (more ∙ ap (λ (ns : List ℕ). ns ++ caller ∷ []) (sym (list_there lists process old there is)))

-- One call of a list of calls at a time.
next_call : (caller : ℕ) (called : List ℕ) (i : ℕ) (callers : List (List ℕ)) → i < length called
    → with_calls caller (drop (suc i) called) (with_call caller (slice_get called i) callers) ≡ with_calls caller (drop i called) callers
next_call caller [] i callers there = absurd (omega (arith, there))
next_call caller (p ∷ called) zero callers there = refl
next_call caller (p ∷ called) (suc i) callers there = next_call caller called i callers (omega (arith, there))

pub call_added : (caller i : ℕ) (called : List ℕ) (old new whole : List (List ℕ)) (end : ℕ) → i < end → end ≡ length called
    → new ≡ with_call caller (slice_get called i) old → with_calls caller (drop i called) old ≡ whole
    → with_calls caller (drop (i + 1) called) new ≡ whole
call_added caller i called old new whole end there long is before =
    ap (λ (n : ℕ). with_calls caller (drop n called) new) (add-one i)
    ∙ ap (λ (ls : List (List ℕ)). with_calls caller (drop (suc i) called) ls) is
    ∙ next_call caller called i old (omega (arith, there, long))
    ∙ before

next_mark : (level : ℕ) (processes : List ℕ) (i : ℕ) (reach : Reach) → i < length processes
    → marked_processes level (drop (suc i) processes) (one_marked level (slice_get processes i) reach)
    ≡ marked_processes level (drop i processes) reach
next_mark level [] i reach there = absurd (omega (arith, there))
next_mark level (p ∷ processes) zero reach there = refl
next_mark level (p ∷ processes) (suc i) reach there = next_mark level processes i reach (omega (arith, there))

pub mark_added : (level i : ℕ) (processes : List ℕ) (old new whole : Reach) (end : ℕ) → i < end → end ≡ length processes
    → new ≡ one_marked level (slice_get processes i) old → marked_processes level (drop i processes) old ≡ whole
    → marked_processes level (drop (i + 1) processes) new ≡ whole
mark_added level i processes old new whole end there long is before =
    ap (λ (n : ℕ). marked_processes level (drop n processes) new) (add-one i)
    ∙ ap (λ (r : Reach). marked_processes level (drop (suc i) processes) r) is
    ∙ next_mark level processes i old (omega (arith, there, long))
    ∙ before

-- As many lists.
pub as_many_lists : (lists : List (Vec ℕ Global)) → length (lists_of lists) ≡ length lists
as_many_lists lists = length-map lists members_of_list

-- The call that a position of the graph stands for.
pub record SiteThere (processes : List Process) (process position : ℕ) : Type 0 where
  pub caller : Process
  pub found : slice_get processes process ≡ Some caller
  pub site : CallSite
  pub stands : slice_get (call_sites_of caller.body) position ≡ Some site

site_in : (sites : List CallSite) (position called : ℕ) → slice_get (map process_at sites) position ≡ Some called
    → (site : CallSite) × (slice_get sites position ≡ Some site)
site_in [] position called at = absurd (none-some called at)
site_in (s ∷ sites) zero called at = (s, refl)
site_in (s ∷ sites) (suc position) called at = site_in sites position called at

pub site_there : (processes : List Process) (process position called : ℕ) → IsCallAt (call_graph_of processes) process position called
    → SiteThere processes process position
site_there [] process position called at = absurd (none-some called at)
site_there (p ∷ processes) zero position called at =
    let found : (site : CallSite) × (slice_get (call_sites_of p.body) position ≡ Some site) =
    site_in (call_sites_of p.body) position called at in
    record { caller = p; found = refl; site = found.0; stands = found.1 }
site_there (p ∷ processes) (suc process) position called at = later (site_there processes process position called at)
  where
    later : SiteThere processes process position → SiteThere (p ∷ processes) (suc process) position
    later h = record { caller = h.caller; found = h.found; site = h.site; stands = h.stands }

-- The same process by both ways of looking it up.
pub same_process : (processes : List Process) (process : ℕ) (p q : Process) → slice_get processes process ≡ Some p
    → q ≡ get_or processes process q → q ≡ p
same_process processes process p q found is = is ∙ get_or_from_slice_get processes process p q found

pub same_site : (sites : List CallSite) (position : ℕ) (s t : CallSite) → slice_get sites position ≡ Some s
    → t ≡ get_or sites position t → t ≡ s
same_site sites position s t found is = is ∙ get_or_from_slice_get sites position s t found

-- A list that is told to be empty or not.
pub not_empty : (list : Vec ℕ Global) {told : Bool} → told ≡ (vec_len list == 0) → told ≡ false → 0 < length list.items
not_empty list {told} is false_ = by (length list.items) refl
  where
    by : (n : ℕ) → length list.items ≡ n → 0 < length list.items
    by zero e =
        let long : vec_len list ≡ 0 = list.ok.0 ∙ e in
        let f : false ≡ true = sym false_ ∙ is ∙ ap (λ (n : ℕ). n == 0) long in
        absurd (cc f)
    by (suc n) e = omega (arith, e)

pub is_nothing : (list : Vec ℕ Global) {told : Bool} → told ≡ (vec_len list == 0) → told ≡ true → list.items ≡ []
is_nothing list {told} is true_ = by list.items refl
  where
    none_there : vec_len list ≡ 0
    none_there = eqb-true (vec_len list) 0 (sym is ∙ true_)

    by : (ns : List ℕ) → list.items ≡ ns → list.items ≡ []
    by [] e = e
    by (n ∷ ns) e =
        let long : vec_len list ≡ suc (length ns) = list.ok.0 ∙ ap (λ (ms : List ℕ). length ms) e in
        let none : vec_len list ≡ 0 = none_there in
        absurd (omega (arith, long, none))
