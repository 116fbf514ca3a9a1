-- What an index has under each name once a number was added.
use Rattle.std.proofs.Common.{◌≡◌, ℕ, Bool, true, false, List, [], ◌∷◌, ◌++◌, Vec, Global, Some, None, refl, ap, sym, ◌∙◌, subst}
use Rattle.std.specs.Prelude.{if◌then◌else◌, Result, Ok, Err, OnErr}
use Rattle.std.specs.Option.{option_map_or}
use Rattle.std.specs.Map.{lookup, set_value, KeepsOthers, IsKeyTest, AreApart}
use Rattle.std.specs.Str.{bytes_eq}
use Rattle.std.proofs.lemmas.Option.{same_Some, none-some}
use Rattle.std.proofs.lemmas.List.{append-nil}
use Rattle.lotos_base.proofs.Bytes.{same_bytes, bytes_same, bytes_differ, differing_bytes}

abbrev pub Entries : Type 0
Entries = List (Vec ℕ Global × Vec ℕ Global)

-- the test for a name
abbrev pub is_key : List ℕ → Vec ℕ Global → Bool
is_key key = λ known. bytes_eq key known.items

-- what the entries have under a name
abbrev pub under : List ℕ → Entries → List ℕ
under key es = option_map_or (λ (numbers : Vec ℕ Global). numbers.items) (lookup (is_key key) es) []

-- the number behind what is under a name, if it is added under that name
abbrev pub behind : Bool → ℕ → List ℕ → List ℕ
behind same n numbers = numbers ++ (if same then n ∷ [] else [])

pushed : (es : Entries) (here key : List ℕ) (v w : Vec ℕ Global) (n : ℕ) → lookup (is_key here) es ≡ Some v
    → w.items ≡ v.items ++ n ∷ []
    → under key (set_value (is_key here) es w) ≡ behind (bytes_eq key here) n (under key es)
pushed [] here key v w n found is = absurd (none-some v found)
pushed (e ∷ es) here key v w n found is =
    go (bytes_eq here e.0.items) refl (bytes_eq key e.0.items) refl (λ later. pushed es here key v w n later is)
  where
    go : (b : Bool) → bytes_eq here e.0.items ≡ b → (d : Bool) → bytes_eq key e.0.items ≡ d
        → (lookup (is_key here) es ≡ Some v → under key (set_value (is_key here) es w) ≡ behind (bytes_eq key here) n (under key es))
        → under key (set_value (is_key here) (e ∷ es) w) ≡ behind (bytes_eq key here) n (under key (e ∷ es))
    go true at true of_key below =
        let value : e.1 ≡ v = same_Some _ _ (sym (rw at refl) ∙ found) in
        let same : bytes_eq key here ≡ true = bytes_same key here (same_bytes key e.0.items of_key ∙ sym (same_bytes here e.0.items at)) in
        rw at (rw of_key (rw same (is ∙ ap (λ (known : Vec ℕ Global). known.items ++ n ∷ []) (sym value))))
    go true at false of_key below =
        let differ : bytes_eq key here ≡ false =
        bytes_differ key here (λ same. differing_bytes key e.0.items of_key (same ∙ same_bytes here e.0.items at)) in
        rw at (rw of_key (rw differ (sym (append-nil (under key es)))))
    go false at true of_key below =
        let differ : bytes_eq key here ≡ false =
        bytes_differ key here (λ same. differing_bytes here e.0.items at (sym same ∙ same_bytes key e.0.items of_key)) in
        rw at (rw of_key (rw differ (sym (append-nil e.1.items))))
    go false at false of_key below =
        let later : lookup (is_key here) es ≡ Some v = sym (rw at refl) ∙ found in
        rw at (rw of_key (below later))

-- a number was added to the list that was found
pub pushed_under : (old new : Entries) (here name key : List ℕ) (v w : Vec ℕ Global) (n : ℕ) → here ≡ name
    → Some v ≡ lookup (is_key here) old → new ≡ set_value (is_key here) old w → w.items ≡ v.items ++ n ∷ []
    → under key new ≡ under key old ++ (if bytes_eq key name then n ∷ [] else [])
pushed_under old new here name key v w n same found is pushes =
    ap (λ (es : Entries). under key es) is ∙ pushed old here key v w n (sym found) pushes
    ∙ ap (λ (k : List ℕ). behind (bytes_eq key k) n (under key old)) same

-- the list that was found was not changed
pub unpushed_under : (old new : Entries) (here key : List ℕ) (v w : Vec ℕ Global)
    → Some v ≡ lookup (is_key here) old → new ≡ set_value (is_key here) old w → w.items ≡ v.items
    → under key new ≡ under key old
unpushed_under old new here key v w found is stays = ap (λ (es : Entries). under key es) is ∙ go old (sym found)
  where
    go : (es : Entries) → lookup (is_key here) es ≡ Some v → under key (set_value (is_key here) es w) ≡ under key es
    go [] found = absurd (none-some v found)
    go (e ∷ es) found = by_cases (bytes_eq here e.0.items) refl (bytes_eq key e.0.items) refl (go es)
      where
        by_cases : (b : Bool) → bytes_eq here e.0.items ≡ b → (d : Bool) → bytes_eq key e.0.items ≡ d
            → (lookup (is_key here) es ≡ Some v → under key (set_value (is_key here) es w) ≡ under key es)
            → under key (set_value (is_key here) (e ∷ es) w) ≡ under key (e ∷ es)
        by_cases true at true of_key below =
            let value : e.1 ≡ v = same_Some _ _ (sym (rw at refl) ∙ found) in
            rw at (rw of_key (stays ∙ ap (λ (known : Vec ℕ Global). known.items) (sym value)))
        by_cases true at false of_key below = rw at (rw of_key refl)
        by_cases false at true of_key below = rw at (rw of_key refl)
        by_cases false at false of_key below = rw at (rw of_key (below (sym (rw at refl) ∙ found)))

-- a list was added under a new name
inserted : (old new : Entries) (here name slice key : List ℕ) (w : Vec ℕ Global) (n : ℕ)
    → slice ≡ here → here ≡ name → None ≡ lookup (is_key slice) old → lookup (is_key here) new ≡ Some w
    → KeepsOthers (λ (a b : Vec ℕ Global). bytes_eq a.items b.items) (is_key here) old new → w.items ≡ n ∷ []
    → under key new ≡ behind (bytes_eq key name) n (under key old)
unfolding KeepsOthers
inserted old new here name slice key w n sliced named none found keeps is = go (bytes_eq key name) refl
  where
    go : (b : Bool) → bytes_eq key name ≡ b → under key new ≡ behind b n (under key old)
    go true same =
        let at : key ≡ here = same_bytes key name same ∙ sym named in
        let nothing : lookup (is_key key) old ≡ None =
        subst (λ (k : List ℕ). lookup (is_key k) old ≡ None) (sliced ∙ sym at) (sym none) in
        let something : lookup (is_key key) new ≡ Some w =
        subst (λ (k : List ℕ). lookup (is_key k) new ≡ Some w) (sym at) found in
        rw nothing (rw something is)
    go false differ =
        let apart : ¬ (key ≡ here) = λ same. differing_bytes key name differ (same ∙ named) in
        let test : IsKeyTest (λ (a b : Vec ℕ Global). bytes_eq a.items b.items) (is_key key) =
        λ x y passes. ap (λ (k : List ℕ). bytes_eq k y.items) (same_bytes key x.items passes) in
        let others : AreApart (is_key here) (is_key key) =
        λ k passes. bytes_differ key k.items (λ same. apart (same ∙ sym (same_bytes here k.items passes))) in
        let unchanged : lookup (is_key key) new ≡ lookup (is_key key) old = keeps (is_key key) test others in
        rw unchanged (sym (append-nil (under key old)))

-- the same, where the entries before are known by an equation
pub inserted_under : (first old new : Entries) (here name slice key : List ℕ) (w : Vec ℕ Global) (n : ℕ)
    → old ≡ first → slice ≡ here → here ≡ name → None ≡ lookup (is_key slice) first → lookup (is_key here) new ≡ Some w
    → KeepsOthers (λ (a b : Vec ℕ Global). bytes_eq a.items b.items) (is_key here) old new → w.items ≡ n ∷ []
    → under key new ≡ under key first ++ (if bytes_eq key name then n ∷ [] else [])
inserted_under first old new here name slice key w n first_is sliced named none found keeps is =
    inserted old new here name slice key w n sliced named (subst (λ (es : Entries). None ≡ lookup (is_key slice) es) (sym first_is) none)
    found keeps is
    ∙ ap (λ (es : Entries). behind (bytes_eq key name) n (under key es)) first_is

-- what holds anyway holds where there is an error
pub err_anyway : {T E P : Type 0} (r : Result T E) → P → OnErr r P
err_anyway (Ok x) h = tt
err_anyway (Err e) h = h
