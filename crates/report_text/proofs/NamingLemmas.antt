-- The own names of processes, and terms that are no constants.
use Rattle.std.proofs.Common.{◌≡◌, ℕ, List, [], ◌∷◌, length, get_or, map, nat_lt, true, false, Some, slice_get, refl, ap, sym, ◌∙◌, ltb-true}
use Rattle.std.specs.Option.{option_map}
use Rattle.std.specs.declared.alloc.Global.{Global}
use Rattle.std.specs.declared.rc.Rc.{Rc}
use Rattle.std.proofs.lemmas.Option.{slice_get-map, slice_get_read}
use Rattle.lotos_base.specs.Name.{spelling}
use Rattle.lotos_base.specs.Term as bare_terms
use Rattle.sort_terms.specs.ProfiledTerm.{ProfiledTerm, ProfiledTerms, bare, all_bare}
use Rattle.sort_terms.specs.TermView.{all_profiled, term_of}
use Rattle.sort_terms.specs.declared.operations.Op.{Op}
use Rattle.sort_terms.specs.declared.terms.Term.{Term}
use Rattle.sort_terms.specs.declared.terms.Term.TheVariants.{Node}
use Rattle.sort_terms.proofs.BuiltLists.{node_with_items}
use Rattle.behaviour_semantics.specs.Behaviour as plain
use Rattle.behaviour_tree.specs.DefinitionView.{process_of}
use Rattle.behaviour_tree.specs.declared.definitions.Process.{Process}
use Rattle.printed_texts.specs.BehaviourText.{is_constant}
use Rattle.printed_texts.specs.MenuText.{name_text}

-- the name of the process with this number
pub own_name : (processes : List Process) (number : ℕ) (called : Process) → true ≡ nat_lt number (length processes)
    → called ≡ get_or processes number called
    → name_text (slice_get (map (λ (p : plain.Process). p.name) (map process_of processes)) number) ≡ spelling called.name
own_name processes number called within is =
    ap name_text
    (slice_get-map (λ (p : plain.Process). p.name) (map process_of processes) number
    ∙ ap (option_map (λ (p : plain.Process). p.name))
    (slice_get-map process_of processes number
    ∙ ap (option_map process_of)
    (slice_get_read processes (length processes) number called refl (ltb-true number (length processes) (sym within)) is)))

-- an operation with arguments is no constant
pub no_constant : (constant op : ℕ) (profile : Rc Op Global) (arguments : ProfiledTerms) (items : List Term)
    → all_profiled items ≡ arguments → (length items ≡ 0 → ⊥) → is_constant (Some constant) (term_of (Node op profile arguments)) ≡ false
no_constant constant op profile arguments items same some =
    ap (λ (t : ProfiledTerm). is_constant (Some constant) (bare t))
    (node_with_items (Node op profile arguments) op profile arguments items refl same)
    ∙ by items some
  where
    by : (items : List Term) → (length items ≡ 0 → ⊥)
        → is_constant (Some constant) (bare_terms.node op (all_bare (all_profiled items))) ≡ false
    by [] none = absurd (none refl)
    by (t ∷ items) none = refl
