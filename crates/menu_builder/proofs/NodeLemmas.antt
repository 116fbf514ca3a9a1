-- The drafts of a node of each form, from those of its parts.
use Rattle.std.proofs.Common.{◌≡◌, ◌<◌, ◌≤◌, ℕ, suc, ◌+◌, max, List, [], ◌∷◌, ◌++◌, map, filter_map, Some, ap, sym, subst, arith}
use Rattle.lotos_base.specs.Signature.{Signature, IsWellFormedSignature}
use Rattle.lotos_base.specs.Canon.{IsCanon}
use Rattle.lotos_base.specs.Equation.{Variable}
use Rattle.lotos_base.specs.Term.{Term}
use Rattle.lotos_base.specs.Substitution.{binding}
use Rattle.behaviour_semantics.specs.Behaviour.{Behaviour, stop, call, parallel, hide, enable, disable, relabel, Relabelling, SynchronisationSet, sorts_of}
use Rattle.behaviour_semantics.specs.Draft as plain
use Rattle.behaviour_semantics.specs.Draft.{above, above_processes, above_variables, first_apart}
use Rattle.behaviour_semantics.specs.Replacement.{with_values}
use Rattle.behaviour_semantics.specs.Shape.{relabelled}
use Rattle.behaviour_semantics.specs.WellFormed.{Every, IsClosedBehaviour, IsSpecification}
use Rattle.behaviour_semantics.proofs.ReplacementLemmas.{unchanged}
use Rattle.sort_terms.specs.ProfiledTerm.{ProfiledTerm, IsOf}
use Rattle.sort_terms.specs.declared.sorted.Sorted.{Sorted}
use Rattle.term_match.specs.SubstView.{profiled_pairs}
use Rattle.behaviour_tree.specs.BehaviourTerms.{profiles_in, profiles_of}
use Rattle.behaviour_tree.specs.BehaviourView.{behaviour_of, terms_of}
use Rattle.behaviour_tree.specs.Closed.{IsClosedBy, IsClosedNode}
use Rattle.behaviour_tree.specs.Over.{AreTermsOf}
use Rattle.behaviour_tree.specs.StateView.{environment_of, node_profiles, pair_profile, stands_for}
use Rattle.behaviour_tree.specs.declared.behaviours.Beh.{Beh}
use Rattle.behaviour_tree.specs.declared.states.Node.{Node, Stop, Part, Call, Parallel', Hide', Enable', Disable', Relabel'}
use Rattle.draft_parts.specs.HandedOn.{Draft}
use Rattle.draft_parts.proofs.HandedOn.{pairs_bare}
use Rattle.draft_parts.specs.DraftRules.{hidden_draft, enable_draft}
use Rattle.draft_parts.specs.DraftTerms.{HasTermsOf}
use Rattle.draft_parts.specs.Lists.{plain_drafts}
use Rattle.draft_parts.specs.Environments.{ArePairsOf}
use Rattle.draft_parts.specs.HasDrafts.{HasDrafts, Raises, all_relabelled, either_drafts, beside_drafts}
use Rattle.draft_parts.proofs.FormLemmas.{forms}
use Rattle.draft_parts.proofs.ShadowLemmas.{raises}
use Rattle.menu_builder.specs.ClosedParts.{variables_given}
use Rattle.menu_builder.specs.NodeNumbers.{above_node}
use Rattle.menu_builder.proofs.ClosedPartLemmas.{closed_parts}
use Rattle.menu_builder.proofs.MenuNumberLemmas.{stands_below}
use Rattle.draft_parts.specs.Made.{AreThese}
use Rattle.menu_builder.specs.Placed.{Basis, StandsAt, IsPlaced, AreDraftsPlaced, setting_on_basis}
use Rattle.menu_builder.proofs.ReadyLemmas.{first_part, second_part}
use Rattle.menu_builder.specs.Nodes.{IsNodeOver, IsListedNode}

pairs_of : (signature : Signature) (pairs : List (ℕ × Sorted)) → Every (IsOf signature) (map pair_profile pairs)
    → ArePairsOf signature (profiled_pairs pairs)
pairs_of signature [] h = tt
pairs_of signature (pair ∷ pairs) h = (h.0, pairs_of signature pairs h.1)

-- how many forms a node has
abbrev pub node_size : Node → ℕ
node_size Stop = 0
node_size (Part behaviour environment) = 0
node_size (Call process gates values) = 0
node_size (Parallel' meet _ left _ right) = suc (node_size left + node_size right)
node_size (Hide' gates _ part) = suc (node_size part)
node_size (Enable' _ left variables right environment) = suc (node_size left)
node_size (Disable' _ left _ right) = suc (node_size left + node_size right)
node_size (Relabel' pairs _ part) = suc (node_size part)

pub node_less : (node form part read : Node) → node ≡ form → read ≡ part → node_size part < node_size form
    → node_size read < node_size node
node_less node form part read is e less =
    subst (λ (n : Node). node_size read < node_size n) (sym is) (subst (λ (n : Node). node_size n < node_size form) (sym e) less)

pub left_sized : (x y : ℕ) → x < suc (x + y)
left_sized x y = omega arith

pub right_sized : (x y : ℕ) → y < suc (x + y)
right_sized x y = omega arith

pub part_sized : (x : ℕ) → x < suc x
part_sized x = omega arith

pub left_most : (x y : ℕ) → x ≤ max x y
left_most x y = omega arith

pub right_most : (x y : ℕ) → y ≤ max x y
right_most x y = omega arith

module _ (basis : Basis) (base : ℕ) where
  abbrev pub Over : Node → Type 0
  Over node = IsNodeOver basis base node

  abbrev pub Listed : Node → List Draft → Type 0
  Listed node made = IsListedNode basis base node made

  abbrev pub These : List plain.Draft → List Draft → Type 0
  These expected made = AreThese basis.data_.signature expected made

  -- a node that stands for a behaviour with the expected drafts
  as_made : (node : Node) (b : Behaviour) (expected : List plain.Draft) (made : List Draft) → stands_for node ≡ b
      → These expected made → HasDrafts (setting_on_basis basis) base 0 b expected → Listed node made
  as_made node b expected made e t h = record {
    drafts = subst (λ (c : Behaviour). HasDrafts (setting_on_basis basis) base 0 c (plain_drafts made)) (sym e)
        (subst (λ (ds : List plain.Draft). HasDrafts (setting_on_basis basis) base 0 b ds) (sym t.same) h);
    over = t.over;
  }

  -- the lists of a closed behaviour with higher leaves are raised
  closed_raises : (node : Node) → Over node → Raises (setting_on_basis basis) base 0 (stands_for node)
  closed_raises node h =
      let low : above (stands_for node) ≤ above_node node = stands_below node in
      let whole : max (above_processes basis.specification.processes) (above_node node) ≤ base = h.apart in
      let apart : first_apart basis.specification.processes (stands_for node) ≤ base =
      (let both : max (above_processes basis.specification.processes) (above (stands_for node)) ≤ base = omega arith in both) in
      subst (λ (b : Behaviour). Raises (setting_on_basis basis) base 0 b) (unchanged (stands_for node))
      (raises basis.data_ basis.canon basis.specification [] [] (stands_for node) h.is_canon h.well_formed h.closed base 0 apart
      (omega arith) tt)

  -- a node by its form
  pub over_form : (node form : Node) → node ≡ form → Over node → Over form
  over_form node form e h = subst Over e h

  pub listed_as : (node form : Node) → node ≡ form → (made : List Draft) → Listed form made → Listed node made
  listed_as node form e made h = subst (λ (n : Node). Listed n made) (sym e) h

  -- a part is closed too
  pub part_over : (node part : Node) → Over node → IsClosedBehaviour basis.data_.signature basis.specification (stands_for part)
      → IsClosedNode part → AreTermsOf basis.data_.signature (node_profiles part) → above_node part ≤ above_node node → Over part
  part_over node part h closed given terms le = record {
    signature = h.signature;
    is_canon = h.is_canon;
    well_formed = h.well_formed;
    closed = closed;
    given = given;
    terms = terms;
    apart =
        let whole : max (above_processes basis.specification.processes) (above_node node) ≤ base = h.apart in
        let less : max (above_processes basis.specification.processes) (above_node part) ≤ base = omega arith in
        less;
  }

  pub first_terms : (terms others : List ProfiledTerm) → AreTermsOf basis.data_.signature (terms ++ others)
      → AreTermsOf basis.data_.signature terms
  first_terms = first_part (IsOf basis.data_.signature)

  pub second_terms : (terms others : List ProfiledTerm) → AreTermsOf basis.data_.signature (terms ++ others)
      → AreTermsOf basis.data_.signature others
  second_terms = second_part (IsOf basis.data_.signature)

  -- ---- The forms.
  pub stop_listed : (node : Node) (made : List Draft) → stands_for node ≡ stop → made ≡ [] → Listed node made
  stop_listed node made e empty =
      as_made node stop [] made e
      (record {
        same = ap plain_drafts empty;
        over = subst (λ (ds : List Draft). Every (HasTermsOf basis.data_.signature) ds) (sym empty) tt;
      })
      (forms.of_stop (setting_on_basis basis) base 0)

  pub parallel_listed : (node left right : Node) (meet : SynchronisationSet) (lefts rights made : List Draft)
      → stands_for node ≡ parallel meet (stands_for left) (stands_for right) → Over right → Listed left lefts → Listed right rights
      → These (beside_drafts basis.data_.signature meet base (plain_drafts lefts) (plain_drafts rights)) made → Listed node made
  parallel_listed node left right meet lefts rights made e over h k t =
      as_made node (parallel meet (stands_for left) (stands_for right)) _ made e t
      (subst (λ (n : ℕ). HasDrafts (setting_on_basis basis) base 0 (parallel meet (stands_for left) (stands_for right))
      (beside_drafts basis.data_.signature meet n (plain_drafts lefts) (plain_drafts rights)))
      (let same : base + 0 ≡ base = omega arith in same)
      (forms.of_parallel (setting_on_basis basis) base 0 meet (stands_for left) (stands_for right) (plain_drafts lefts)
      (plain_drafts rights)
      h.drafts k.drafts (closed_raises right over)))

  pub disable_listed : (node left right : Node) (lefts rights made : List Draft)
      → stands_for node ≡ disable (stands_for left) (stands_for right) → Listed left lefts → Listed right rights
      → These (either_drafts (plain_drafts lefts) (plain_drafts rights)) made → Listed node made
  disable_listed node left right lefts rights made e h k t =
      as_made node (disable (stands_for left) (stands_for right)) _ made e t
      (forms.of_disable (setting_on_basis basis) base 0 (stands_for left) (stands_for right) (plain_drafts lefts) (plain_drafts rights)
      h.drafts k.drafts)

  pub hide_listed : (node part : Node) (gates : List ℕ) (parts made : List Draft) → stands_for node ≡ hide gates (stands_for part)
      → Listed part parts → These (filter_map (λ (d : plain.Draft). Some (hidden_draft gates d)) (plain_drafts parts)) made
      → Listed node made
  hide_listed node part gates parts made e h t =
      as_made node (hide gates (stands_for part)) _ made e t
      (forms.of_hide (setting_on_basis basis) base 0 gates (stands_for part) (plain_drafts parts) h.drafts)

  pub enable_listed : (node left : Node) (variables : List Variable) (c : Behaviour) (parts made : List Draft)
      → stands_for node ≡ enable (stands_for left) variables c → Listed left parts
      → These (filter_map (enable_draft basis.data_.signature (sorts_of variables)) (plain_drafts parts)) made → Listed node made
  enable_listed node left variables c parts made e h t =
      as_made node (enable (stands_for left) variables c) _ made e t
      (forms.of_enable (setting_on_basis basis) base 0 (stands_for left) variables c (plain_drafts parts) h.drafts)

  pub relabel_listed : (node part : Node) (pairs : Relabelling) (parts made : List Draft)
      → stands_for node ≡ relabel pairs (stands_for part) → Listed part parts
      → These (all_relabelled relabelled pairs (plain_drafts parts)) made → Listed node made
  relabel_listed node part pairs parts made e h t =
      as_made node (relabel pairs (stands_for part)) _ made e t
      (forms.of_relabel (setting_on_basis basis) base 0 pairs (stands_for part) (plain_drafts parts) h.drafts)

  -- ---- A part of a behaviour, under its environment.
  pub part_stands : (b : Beh) (environment : List (ℕ × Sorted)) → IsWellFormedSignature basis.data_.signature
      → IsCanon basis.data_ basis.canon → IsSpecification basis.data_.signature basis.specification
      → IsClosedBehaviour basis.data_.signature basis.specification (with_values (binding (environment_of environment)) (behaviour_of b))
      → IsClosedBy environment (behaviour_of b)
      → AreTermsOf basis.data_.signature (profiles_in b ++ map pair_profile environment)
      → max (above_processes basis.specification.processes)
      (max (above_variables (variables_given (profiled_pairs environment))) (above (behaviour_of b))) ≤ base
      → StandsAt basis (record { base = base; next = 0; scope = variables_given (profiled_pairs environment) }) (behaviour_of b)
      (profiles_in b) (profiled_pairs environment)
  part_stands b environment signature is_canon well_formed closed given terms apart =
      let values : ArePairsOf basis.data_.signature (profiled_pairs environment) =
      pairs_of basis.data_.signature environment
      (second_part (IsOf basis.data_.signature) (profiles_in b) (map pair_profile environment) terms) in
      let low : first_apart basis.specification.processes (behaviour_of b) ≤ base =
      (let both : max (above_processes basis.specification.processes) (above (behaviour_of b)) ≤ base = omega arith in both) in
      record {
        below = closed_parts basis.data_ basis.canon basis.specification environment (behaviour_of b) base signature is_canon well_formed
            given values closed low (omega arith);
        values = values;
        profiles = first_part (IsOf basis.data_.signature) (profiles_in b) (map pair_profile environment) terms;
      }

  pub part_listed : (node : Node) (b : Beh) (environment : List (ℕ × Sorted)) (made : List Draft)
      → stands_for node ≡ with_values (binding (environment_of environment)) (behaviour_of b)
      → StandsAt basis (record { base = base; next = 0; scope = variables_given (profiled_pairs environment) }) (behaviour_of b)
      (profiles_in b) (profiled_pairs environment)
      → AreDraftsPlaced basis base (behaviour_of b) (profiles_in b) (profiled_pairs environment) made → Listed node made
  part_listed node b environment made e stands h = record {
    drafts = subst (λ (c : Behaviour). HasDrafts (setting_on_basis basis) base 0 c (plain_drafts made)) (sym e)
        (subst (λ (ps : List (ℕ × Term)). HasDrafts (setting_on_basis basis) base 0 (with_values (binding ps) (behaviour_of b))
        (plain_drafts made)) (pairs_bare environment)
        (h.drafts (record { base = base; next = 0; scope = variables_given (profiled_pairs environment) })
        (let same : base ≡ base + 0 = omega arith in same) stands));
    over = h.over;
  }

  -- ---- A call.
  pub call_stands : (process : ℕ) (gates : List ℕ) (terms : List Sorted) → IsCanon basis.data_ basis.canon
      → IsSpecification basis.data_.signature basis.specification
      → IsClosedBehaviour basis.data_.signature basis.specification (call process gates (terms_of terms))
      → AreTermsOf basis.data_.signature (profiles_of terms) → max (above_processes basis.specification.processes) 0 ≤ base
      → StandsAt basis (record { base = base; next = 0; scope = [] }) (call process gates (terms_of terms)) (profiles_of terms) []
  call_stands process gates terms is_canon well_formed closed of_signature apart = record {
    below = record { is_canon = is_canon; well_formed = well_formed; formed = closed; apart = apart; low = omega arith; gives = tt };
    values = tt;
    profiles = of_signature;
  }

  pub call_listed : (node : Node) (process : ℕ) (gates : List ℕ) (terms : List Sorted) (made : List Draft)
      → stands_for node ≡ call process gates (terms_of terms)
      → StandsAt basis (record { base = base; next = 0; scope = [] }) (call process gates (terms_of terms)) (profiles_of terms) []
      → AreDraftsPlaced basis base (call process gates (terms_of terms)) (profiles_of terms) [] made → Listed node made
  call_listed node process gates terms made e stands h = record {
    drafts = subst (λ (c : Behaviour). HasDrafts (setting_on_basis basis) base 0 c (plain_drafts made)) (sym e)
        (subst (λ (c : Behaviour). HasDrafts (setting_on_basis basis) base 0 c (plain_drafts made))
        (unchanged (call process gates (terms_of terms)))
        (h.drafts (record { base = base; next = 0; scope = [] }) (let same : base ≡ base + 0 = omega arith in same) stands));
    over = h.over;
  }

  -- where a closed behaviour stands, it is placed
  pub placed_at : (b : Behaviour) (terms : List ProfiledTerm) (pairs : List (ℕ × ProfiledTerm)) (scope : List Variable)
      → StandsAt basis (record { base = base; next = 0; scope = scope }) b terms pairs → IsPlaced basis base b terms pairs
  placed_at b terms pairs scope stands = record {
    at = record { base = base; next = 0; scope = scope };
    numbered = (let same : base ≡ base + 0 = omega arith in same);
    stands = stands;
  }
