-- Which steps a session can take.
use Rattle.std.proofs.Common.{◌≡◌, ◌<◌, ℕ, zero, suc, List, [], ◌∷◌, map, None, Some, refl, ap, ap₂, sym, ◌∙◌, subst, arith}
use Rattle.behaviour_semantics.proofs.SupplyLemmas.{length-values}
use Rattle.lotos_base.specs.Term.{Term}
use Rattle.lotos_base.specs.Equality.{Equal}
use Rattle.lotos_base.specs.Equation.{Data}
use Rattle.lotos_base.specs.Substitution.{Substitution, substituted}
use Rattle.lotos_base.specs.Canon.{IsCanon}
use Rattle.lotos_base.proofs.CanonLemmas.{canon_ground, canon_equal}
use Rattle.lotos_base.proofs.EqualityLemmas.{equal_back}
use Rattle.behaviour_semantics.specs.Behaviour.{Behaviour}
use Rattle.behaviour_semantics.specs.Derives.{Derives, DerivesCanonically, leaves_in}
use Rattle.behaviour_semantics.specs.Draft.{Draft, draft_of}
use Rattle.behaviour_semantics.specs.DraftOrder.{IsDraftTerm, IsLeaf}
use Rattle.behaviour_semantics.specs.DraftOrderLaws.{IsSolvedFrom}
use Rattle.behaviour_semantics.specs.EqualLeavesLaws.{EqualLeavesGiveLikeMoves, LikeMove}
use Rattle.behaviour_semantics.specs.Label.{Label}
use Rattle.behaviour_semantics.specs.Menu.{EqualLabels, EqualTerms, Exact, HasEntry, IsEntry, Meets, Rise, derivation_at, label_at}
use Rattle.behaviour_semantics.specs.OrderLaws.{AtMostOneMenuIsExact}
use Rattle.behaviour_semantics.specs.Rule.{AreValues, as_given}
use Rattle.behaviour_semantics.specs.Shape.{Before, Derivation, Shape}
use Rattle.behaviour_semantics.specs.Solving.{Entry, SolvesTo}
use Rattle.behaviour_semantics.specs.SolvingLaws.{IsTermOver}
use Rattle.behaviour_semantics.specs.TransitionLaws.{MovesAreDetermined, SameMove}
use Rattle.behaviour_semantics.specs.WellFormed.{Every}
use Rattle.behaviour_semantics.proofs.EqualLeaves.{like_move}
use Rattle.behaviour_semantics.proofs.RelatedTerms.{canon_represents, given_represents}
use Rattle.behaviour_semantics.proofs.DraftFineness.{FineDraft, fine_draft}
use Rattle.behaviour_semantics.proofs.MeetingLeaves.{alike_hold}
use Rattle.behaviour_semantics.proofs.MenuLemmas.{same_members}
use Rattle.behaviour_semantics.proofs.OptionLemmas.{some_value}
use Rattle.behaviour_semantics.proofs.SolvedValues.{equal_terms_back}
use Rattle.behaviour_semantics.proofs.SolvingAnyDraft.{solving_any}
use Rattle.behaviour_semantics.proofs.OrderLemmas.{Before-irrefl, entries_within}
use Rattle.printed_texts.specs.HandedOn.{canonical_derivation}
use Rattle.session_histories.specs.Session.{SessionBasis, Item, Situation, Progress, stepped}
use Rattle.session_histories.specs.Refusal.{entry_numbered, step_refusal}
use Rattle.session_histories.specs.Lawful.{IsSituation, IsLawfulItem, HasStepped}
use Rattle.session_histories.specs.SessionLaws.{IsStateOver}
use Rattle.session_histories.specs.StepLaws.{AreGroundTerms, HasItem}
use Rattle.session_histories.proofs.RefusalLemmas.{IsFree, free, freed, sorts_fit, fit_sorts, grounded, none_unmet, condition_free, free_of_conditions}

-- ---- Entries of a menu

pub is_listed : (menu : List Entry) (number : ℕ) (entry : Entry) → entry_numbered menu number ≡ Some entry → IsEntry menu entry
is_listed menu zero entry e = absurd (cc e)
is_listed menu (suc position) entry e = (position, e)

-- an entry of the menu of a state is the solved form of its draft
pub solved_entry : (basis : SessionBasis) (before : Situation) → IsStateOver basis before.state → IsSituation basis before
    → (entry : Entry) → IsEntry before.menu entry → (draft : Draft) × IsSolvedFrom basis.data_.signature basis.canon draft entry
solved_entry basis before over menu entry listed =
    let solved : (draft : Draft)
    × (draft_of basis.data_ basis.canon basis.specification.processes entry.shape before.state ≡ Some draft)
    × SolvesTo basis.canon draft (Some entry) = menu.solved entry listed in
    let fine : FineDraft basis.data_ solved.0 =
    fine_draft basis.data_ basis.canon basis.specification before.state over entry.shape solved.0 solved.1 in
    (solved.0, solving_any.solved basis.data_ basis.canon solved.0 entry over.is_canon fine.order solved.2)

-- values that are not refused meet their entry
pub meets : (basis : SessionBasis) (before : Situation) → IsStateOver basis before.state → IsSituation basis before → (number : ℕ)
    (values : List Term) (f : IsFree basis (entry_numbered before.menu number) values) → AreGroundTerms basis values
    → Meets basis.data_ f.entry values
meets basis before over menu number values f ground =
    let solved : (draft : Draft) × IsSolvedFrom basis.data_.signature basis.canon draft f.entry =
    solved_entry basis before over menu f.entry (is_listed before.menu number f.entry f.is) in
    let sorted : AreValues basis.data_.signature f.entry.variables values =
    sorts_fit basis.data_.signature 0 f.entry.variables values f.counted ground f.sorted in
    record {
      sorted = sorted;
      met = (none_unmet basis.data_ basis.canon over.is_canon f.entry.variables values sorted f.entry.leaves f.entry.conditions
          solved.1.as_draft.conditions solved.1.over_left solved.1.over_right).0 (condition_free basis.canon f.entry values f.met);
    }

-- values that meet their entry are not refused
pub met_free : (basis : SessionBasis) (before : Situation) → IsStateOver basis before.state → IsSituation basis before → (number : ℕ)
    (values : List Term) (entry : Entry) → entry_numbered before.menu number ≡ Some entry → Meets basis.data_ entry values
    → IsFree basis (entry_numbered before.menu number) values
met_free basis before over menu number values entry listed h =
    let solved : (draft : Draft) × IsSolvedFrom basis.data_.signature basis.canon draft entry =
    solved_entry basis before over menu entry (is_listed before.menu number entry listed) in
    record {
      entry = entry;
      is = listed;
      counted = length-values basis.data_.signature entry.variables values h.sorted;
      sorted = fit_sorts basis.data_.signature 0 entry.variables values h.sorted;
      met = free_of_conditions basis.canon entry values ((none_unmet basis.data_ basis.canon over.is_canon entry.variables values h.sorted
          entry.leaves entry.conditions solved.1.as_draft.conditions solved.1.over_left solved.1.over_right).1 h.met);
    }

-- ---- The canonical derivation of an entry

module _ (data_ : Data) (canon : Term → Term) (is_canon : IsCanon data_ canon) (put : Term → Term) where
  canonical_values : (sorts : List ℕ) (leaves : List Term) → AreValues data_.signature sorts (map put leaves)
      → AreValues data_.signature sorts (map (λ (t : Term). canon (put t)) leaves)
      × EqualTerms data_ (map put leaves) (map (λ (t : Term). canon (put t)) leaves)
  canonical_values [] [] h = (tt, tt)
  canonical_values [] (leaf ∷ leaves) h = absurd h
  canonical_values (sort ∷ sorts) [] h = absurd h
  canonical_values (sort ∷ sorts) (leaf ∷ leaves) h =
      let rest : AreValues data_.signature sorts (map (λ (t : Term). canon (put t)) leaves)
      × EqualTerms data_ (map put leaves) (map (λ (t : Term). canon (put t)) leaves) = canonical_values sorts leaves h.1 in (
        (canon_ground data_ canon (put leaf) sort is_canon h.0, rest.0),
        (equal_back (canon_equal data_ canon (put leaf) sort is_canon h.0), rest.1),
      )

-- values that meet an entry of the menu make a lawful item
pub lawful_item : EqualLeavesGiveLikeMoves → (basis : SessionBasis) (before : Situation) → IsStateOver basis before.state
    → IsSituation basis before → (number : ℕ) (values : List Term) (entry : Entry) → entry_numbered before.menu number ≡ Some entry
    → Meets basis.data_ entry values → HasItem basis before number values
lawful_item equal basis before over menu number values entry listed h =
    let derived : (label : Label) × (target : Behaviour)
    × Derives basis.data_ basis.specification.processes before.state (derivation_at entry values) label target
    × EqualLabels basis.data_ (label_at entry values) label =
    menu.sound entry (is_listed before.menu number entry listed) values h in
    let made : Derivation = canonical_derivation basis.canon entry values in
    let both : AreValues basis.data_.signature derived.2.sorts made.leaves
    × EqualTerms basis.data_ (derivation_at entry values).leaves made.leaves =
    canonical_values basis.data_ basis.canon over.is_canon (substituted (leaves_in values)) derived.2.sorts entry.leaves
    derived.2.leaves in
    let like : LikeMove basis.data_ basis.canon basis.specification.processes before.state made derived.0 derived.1 =
    equal.kept_from_derived basis.data_ basis.canon basis.specification before.state over (derivation_at entry values) made
    derived.0 derived.1
    (record { shape = refl; sorts = derived.2.sorts; first = derived.2.leaves; second = both.0; equal = both.1 }) derived.2 in
    record {
      item = record { number = number; values = values; derivation = made; label = like.label_given };
      next = like.target_given;
      numbered = refl;
      valued = refl;
      lawful = record { entry = entry; listed = listed; meets = h; derivation = refl; keeps = like.gives };
    }

pub taken : EqualLeavesGiveLikeMoves → (basis : SessionBasis) (before : Situation) (number : ℕ) (values : List Term)
    → IsStateOver basis before.state → IsSituation basis before → AreGroundTerms basis values
    → step_refusal basis before.menu number values ≡ None → HasItem basis before number values
taken equal basis before number values over menu ground e =
    let f : IsFree basis (entry_numbered before.menu number) values = free basis number _ (entry_numbered before.menu number) values e in
    lawful_item equal basis before over menu number values f.entry f.is (meets basis before over menu number values f ground)

pub not_refused : (basis : SessionBasis) (before : Situation) (item : Item) (next : Behaviour) → IsStateOver basis before.state
    → IsSituation basis before → IsLawfulItem basis before item next
    → step_refusal basis before.menu item.number item.values ≡ None
not_refused basis before item next over menu h =
    freed basis item.number _ (entry_numbered before.menu item.number) item.values
    (met_free basis before over menu item.number item.values h.entry h.listed h.meets)

-- ---- Steps lead to one place

pub stepped_once : MovesAreDetermined → AtMostOneMenuIsExact → (basis : SessionBasis) (old new other : Progress) (number : ℕ)
    (values : List Term) (label another : Label) → HasStepped basis old number values label new
    → HasStepped basis old number values another other → (new ≡ other) × (label ≡ another)
stepped_once determined menu_once basis old new other number values label another h k =
    let numbers : h.item.number ≡ k.item.number = h.numbered ∙ sym k.numbered in
    let given : h.item.values ≡ k.item.values = h.valued ∙ sym k.valued in
    let entries : h.lawful.entry ≡ k.lawful.entry =
    some_value (sym h.lawful.listed ∙ (ap (entry_numbered old.situation.menu) numbers ∙ k.lawful.listed)) in
    let derivations : h.item.derivation ≡ k.item.derivation =
    h.lawful.derivation ∙ (ap₂ (canonical_derivation basis.canon) entries given ∙ sym k.lawful.derivation) in
    let keeps : DerivesCanonically basis.data_ basis.canon basis.specification.processes old.situation.state h.item.derivation k.item.label
    k.next.state = subst
    (λ (it : Derivation). DerivesCanonically basis.data_ basis.canon basis.specification.processes old.situation.state it k.item.label
    k.next.state)
    (sym derivations) k.lawful.keeps in
    let move : SameMove basis.data_ basis.canon basis.specification.processes old.situation.state h.item.derivation h.item.label
    k.item.label h.next.state k.next.state h.lawful.keeps keeps =
    determined basis.data_ basis.canon basis.specification.processes old.situation.state h.item.derivation h.item.label k.item.label
    h.next.state k.next.state h.lawful.keeps keeps in
    let menus : h.next.menu ≡ k.next.menu =
    menu_once basis.data_ basis.canon basis.specification.processes h.next.state h.next.menu k.next.menu h.menu
    (subst (λ (it : Behaviour). Exact basis.data_ basis.canon basis.specification.processes it k.next.menu) (sym move.targets) k.menu) in
    let items : h.item ≡ k.item =
    λ i. record { number = numbers i; values = given i; derivation = derivations i; label = move.labels i } in
    let nexts : h.next ≡ k.next = λ i. record { state = move.targets i; menu = menus i } in
    (h.appended ∙ (ap₂ (stepped old) items nexts ∙ sym k.appended), sym h.labelled ∙ (move.labels ∙ k.labelled))

-- ---- A lawful item has no fault

pub equal_leaves : EqualLeavesGiveLikeMoves
equal_leaves = record {
  kept_from_derived = λ data_ canon specification b over. like_move data_ canon as_given canon specification b over
      (given_represents data_) (canon_represents data_ canon over.is_canon);
  derived_from_kept = λ data_ canon specification b over. like_move data_ canon canon as_given specification b over
      (canon_represents data_ canon over.is_canon) (given_represents data_);
  derived = λ data_ canon specification b over. like_move data_ canon as_given as_given specification b over (given_represents data_)
      (given_represents data_);
  kept = λ data_ canon specification b over. like_move data_ canon canon canon specification b over
      (canon_represents data_ canon over.is_canon) (canon_represents data_ canon over.is_canon);
}

-- ---- The derivation of an entry is one of the state only where the values meet the entry

-- one entry at most has a shape
one_of_shape : (menu : List Entry) → Rise menu → (e f : Entry) → IsEntry menu e → IsEntry menu f → e.shape ≡ f.shape → e ≡ f
one_of_shape [] rise e f (i, at) inside same = absurd (cc at)
one_of_shape (g ∷ menu) rise e f (zero, at) (zero, at') same = sym (some_value at) ∙ some_value at'
one_of_shape (g ∷ menu) rise e f (zero, at) (suc j, at') same =
    absurd (Before-irrefl f.shape (subst (λ (s : Shape). Before s f.shape) same (rise 0 (suc j) e f (omega arith) at at')))
one_of_shape (g ∷ menu) rise e f (suc i, at) (zero, at') same =
    absurd (Before-irrefl f.shape (subst (λ (s : Shape). Before f.shape s) same (rise 0 (suc i) f e (omega arith) at' at)))
one_of_shape (g ∷ menu) rise e f (suc i, at) (suc j, at') same =
    one_of_shape menu (λ k l x y lt here there. rise (suc k) (suc l) x y (let h : suc k < suc l = omega arith in h) here there) e f (i, at)
    (j, at') same

-- where leaves are equal one by one, the values of each variable that is a leaf are
leaf_values : (data_ : Data) (values others : Substitution) (leaves : List Term)
    → EqualTerms data_ (map (substituted values) leaves) (map (substituted others) leaves) → (n s : ℕ) → IsLeaf leaves n s
    → Equal data_ (values n s) (others n s)
leaf_values data_ values others [] equal n s (i, at) = absurd (cc at)
leaf_values data_ values others (leaf ∷ leaves) equal n s (zero, at) =
    subst (λ (t : Term). Equal data_ (substituted values t) (substituted others t)) (some_value at) equal.0
leaf_values data_ values others (leaf ∷ leaves) equal n s (suc i, at) = leaf_values data_ values others leaves equal.1 n s (i, at)

-- Values that meet the entry, with leaves that equal those of these values.
record OtherValues (data_ : Data) (entry : Entry) (given : List Term) : Type 0 where
  pub values : List Term
  pub meets : Meets data_ entry values
  pub leaves : EqualTerms data_ (derivation_at entry given).leaves (derivation_at entry values).leaves

-- where the derivation of an entry with some values has its entry, it is the same one
other_values : (data_ : Data) (menu : List Entry) → Rise menu → (entry : Entry) (values : List Term) → IsEntry menu entry
    → (label : Label) → HasEntry data_ menu (derivation_at entry values) label → OtherValues data_ entry values
other_values data_ menu rise entry values inside label has =
    let same : has.entry ≡ entry = one_of_shape menu rise has.entry entry has.listed inside has.shape in
    record {
      values = has.values;
      meets = subst (λ (it : Entry). Meets data_ it has.values) same has.meets;
      leaves = equal_terms_back data_ (derivation_at entry has.values).leaves (derivation_at entry values).leaves
          (subst (λ (it : Entry). EqualTerms data_ (derivation_at it has.values).leaves (derivation_at entry values).leaves) same
          has.leaves);
    }

module _ (data_ : Data) (canon : Term → Term) (is_canon : IsCanon data_ canon) (sorts : List ℕ) (values : List Term)
    (fit : AreValues data_.signature sorts values) where
  leaves_grounded : (own leaves : List Term) → Every (IsDraftTerm data_.signature own) leaves → Every (IsTermOver sorts) leaves
      → (leaf_sorts : List ℕ) × AreValues data_.signature leaf_sorts (map (substituted (leaves_in values)) leaves)
  leaves_grounded own [] h over = ([], tt)
  leaves_grounded own (leaf ∷ leaves) h over =
      let rest : (leaf_sorts : List ℕ) × AreValues data_.signature leaf_sorts (map (substituted (leaves_in values)) leaves) =
      leaves_grounded own leaves h.1 over.1 in
      (h.0.0 ∷ rest.0, (grounded data_ canon is_canon sorts values fit leaf h.0.0 h.0.1.sorted over.0, rest.1))

-- Values of the sorts of an entry meet it where its derivation with them, in canonical form, has a move: the derivation with
-- the values as they are has one too, so the menu has values that meet the entry and make equal leaves. Each variable of a
-- condition is a leaf, so the values of the two are equal there.
pub met_where_kept : EqualLeavesGiveLikeMoves → (basis : SessionBasis) (before : Situation) → IsStateOver basis before.state
    → IsSituation basis before → (number : ℕ) (values : List Term) (entry : Entry) → entry_numbered before.menu number ≡ Some entry
    → AreValues basis.data_.signature entry.variables values → (label : Label) (next : Behaviour)
    → DerivesCanonically basis.data_ basis.canon basis.specification.processes before.state
    (canonical_derivation basis.canon entry values) label next
    → Meets basis.data_ entry values
met_where_kept equal basis before over menu number values entry listed sorted label next keeps =
    let inside : IsEntry before.menu entry = is_listed before.menu number entry listed in
    let solved : (draft : Draft) × IsSolvedFrom basis.data_.signature basis.canon draft entry =
    solved_entry basis before over menu entry inside in
    let leaves : (leaf_sorts : List ℕ) × AreValues basis.data_.signature leaf_sorts (derivation_at entry values).leaves =
    leaves_grounded basis.data_ basis.canon over.is_canon entry.variables values sorted entry.leaves entry.leaves
    solved.1.as_draft.leaves solved.1.over_leaves in
    let made : Derivation = canonical_derivation basis.canon entry values in
    let both : AreValues basis.data_.signature leaves.0 made.leaves
    × EqualTerms basis.data_ (derivation_at entry values).leaves made.leaves =
    canonical_values basis.data_ basis.canon over.is_canon (substituted (leaves_in values)) leaves.0 entry.leaves leaves.1 in
    let like : LikeMove basis.data_ as_given basis.specification.processes before.state (derivation_at entry values) label next =
    equal.derived_from_kept basis.data_ basis.canon basis.specification before.state over made (derivation_at entry values) label next
    (record {
      shape = refl;
      sorts = leaves.0;
      first = both.0;
      second = leaves.1;
      equal = equal_terms_back basis.data_ (derivation_at entry values).leaves made.leaves both.1;
    }) keeps in
    let others : OtherValues basis.data_ entry values =
    other_values basis.data_ before.menu menu.rising entry values inside like.label_given
    (menu.complete (derivation_at entry values) like.label_given like.target_given like.gives) in
    record {
      sorted = sorted;
      met = alike_hold basis.data_ entry.leaves (leaves_in values) (leaves_in others.values)
          (leaf_values basis.data_ (leaves_in values) (leaves_in others.values) entry.leaves others.leaves) entry.conditions
          solved.1.as_draft.conditions others.meets.met;
    }

-- ---- A state has one menu

pub one_menu : AtMostOneMenuIsExact
one_menu = λ data_ canon processes b menu other exact another.
    same_members menu other exact.rising another.rising (entries_within data_ canon processes b menu other exact another)
    (entries_within data_ canon processes b other menu another exact)

-- two situations of one state are one
pub one_situation : (basis : SessionBasis) (one other : Situation) → one.state ≡ other.state → IsSituation basis one
    → IsSituation basis other → one ≡ other
one_situation basis one other same h k =
    let menus : one.menu ≡ other.menu =
    one_menu basis.data_ basis.canon basis.specification.processes other.state one.menu other.menu
    (subst (λ (it : Behaviour). Exact basis.data_ basis.canon basis.specification.processes it one.menu) same h) k in
    λ i. record { state = same i; menu = menus i }
