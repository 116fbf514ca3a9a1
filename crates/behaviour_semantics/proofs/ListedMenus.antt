-- The listed drafts, solved one by one, are the exact menu; and each can be solved.
use Rattle.std.proofs.Common.{◌≡◌, ◌<◌, inl, inr, ℕ, zero, suc, List, [], ◌∷◌, slice_get, Option, None, Some, refl, sym, subst, arith}
use Rattle.lotos_base.specs.Term.{Term}
use Rattle.lotos_base.specs.Equation.{Data}
use Rattle.behaviour_semantics.specs.Behaviour.{Behaviour, Specification}
use Rattle.behaviour_semantics.specs.Shape.{Shape, Before}
use Rattle.behaviour_semantics.specs.Draft.{Draft, draft_of}
use Rattle.behaviour_semantics.specs.Solving.{Entry, SolvesTo, unsolvable, settled, replacing}
use Rattle.behaviour_semantics.specs.Menu.{IsEntry, Rise, Exact}
use Rattle.behaviour_semantics.specs.WellFormed.{Every, AreOver}
use Rattle.behaviour_semantics.specs.Listing.{listed_drafts, AllSolveTo, none_left, entry_then, nothing_then}
use Rattle.behaviour_semantics.specs.Listing.{IsAmong, ShapesRise, shapes_of_drafts}
use Rattle.behaviour_semantics.proofs.OptionLemmas.{some_value}
use Rattle.behaviour_semantics.proofs.ListLemmas.{Every-at}
use Rattle.behaviour_semantics.proofs.SolvingLemmas.{determined}
use Rattle.behaviour_semantics.proofs.ExactMenus.{exact_menu}
use Rattle.behaviour_semantics.proofs.DraftFineness.{FineDraft, fine_draft}
use Rattle.behaviour_semantics.proofs.SolvingAnyDraft.{solving_any}
use Rattle.behaviour_semantics.proofs.ListedDrafts.{sound_drafts, complete_drafts, drafts_rise}

-- Solving keeps the shape.
abbrev pub HasShape : Shape → Option Entry → Type 0
HasShape shape None = Unit {0}
HasShape shape (Some entry) = entry.shape ≡ shape

pub outcome_shape : {canon : Term → Term} {draft : Draft} {outcome : Option Entry} → SolvesTo canon draft outcome
    → HasShape draft.shape outcome
outcome_shape (unsolvable draft closed) = tt
outcome_shape (settled draft not_closed none) = refl
outcome_shape (replacing draft found outcome not_closed some rest) = outcome_shape rest

module _ (canon : Term → Term) where
  -- The entries stand in the order of their drafts.
  after_shape : (s : Shape) {drafts : List Draft} {entries : List Entry} → AllSolveTo canon drafts entries
      → Every (Before s) (shapes_of_drafts drafts) → Every (λ (e : Entry). Before s e.shape) entries
  after_shape s none_left h = tt
  after_shape s (entry_then solves rest) h = (subst (Before s) (sym (outcome_shape solves)) h.0, after_shape s rest h.1)
  after_shape s (nothing_then solves rest) h = after_shape s rest h.1

  abbrev EntriesRise : List Entry → Type 0
  EntriesRise [] = Unit {0}
  EntriesRise (e ∷ entries) = Every (λ (f : Entry). Before e.shape f.shape) entries × EntriesRise entries

  entries_rise : {drafts : List Draft} {entries : List Entry} → AllSolveTo canon drafts entries → ShapesRise (shapes_of_drafts drafts)
      → EntriesRise entries
  entries_rise none_left h = tt
  entries_rise (entry_then {entries = entries} solves rest) h = (
    subst (λ (s : Shape). Every (λ (f : Entry). Before s f.shape) entries) (sym (outcome_shape solves)) (after_shape _ rest h.0),
    entries_rise rest h.1,
  )
  entries_rise (nothing_then solves rest) h = entries_rise rest h.1

  rise_at : (entries : List Entry) → EntriesRise entries → Rise entries
  rise_at [] h i j e f lt at at' = absurd (cc at)
  rise_at (g ∷ entries) h zero zero e f lt at at' = absurd (omega arith)
  rise_at (g ∷ entries) h zero (suc j) e f lt at at' = subst (λ (x : Entry). Before x.shape f.shape) (some_value at)
      (Every-at (λ (x : Entry). Before g.shape x.shape) entries j f h.0 at')
  rise_at (g ∷ entries) h (suc i) zero e f lt at at' = absurd (omega arith)
  rise_at (g ∷ entries) h (suc i) (suc j) e f lt at at' = rise_at entries h.1 i j e f (let lower : i < j = omega arith in lower) at at'

  -- The draft that an entry came from, and the entry that a draft gave.
  came_from : {drafts : List Draft} {entries : List Entry} → AllSolveTo canon drafts entries → (k : ℕ) (e : Entry)
      → slice_get entries k ≡ Some e → (d : Draft) × IsAmong d drafts × SolvesTo canon d (Some e)
  came_from none_left k e at = absurd (cc at)
  came_from (entry_then {draft = draft} solves rest) zero e at =
      (draft, inl refl, subst (λ (x : Entry). SolvesTo canon draft (Some x)) (some_value at) solves)
  came_from (entry_then solves rest) (suc k) e at = let p : _ = came_from rest k e at in (p.0, inr p.1, p.2)
  came_from (nothing_then solves rest) k e at = let p : _ = came_from rest k e at in (p.0, inr p.1, p.2)

  gave : {drafts : List Draft} {entries : List Entry} → AllSolveTo canon drafts entries → (d : Draft) (e : Entry) → IsAmong d drafts
      → SolvesTo canon d (Some e) → IsEntry entries e
  gave none_left d e a s = absurd a
  gave (entry_then {draft = draft} solves rest) d e (inl same) s =
      (0, determined solves (subst (λ (x : Draft). SolvesTo canon x (Some e)) (sym same) s))
  gave (entry_then solves rest) d e (inr a) s = let p : _ = gave rest d e a s in (suc p.0, p.1)
  gave (nothing_then {draft = draft} solves rest) d e (inl same) s =
      absurd (cc (determined solves (subst (λ (x : Draft). SolvesTo canon x (Some e)) (sym same) s)))
  gave (nothing_then solves rest) d e (inr a) s = gave rest d e a s

  -- Where each draft has an outcome, the list has its entries.
  add_outcome : (draft : Draft) (drafts : List Draft) (outcome : Option Entry) → SolvesTo canon draft outcome → (entries : List Entry)
      × AllSolveTo canon drafts entries → (entries : List Entry) × AllSolveTo canon (draft ∷ drafts) entries
  add_outcome draft drafts None solves (entries, rest) = (entries, nothing_then solves rest)
  add_outcome draft drafts (Some entry) solves (entries, rest) = (entry ∷ entries, entry_then solves rest)

  all_solved : (drafts : List Draft) → ((d : Draft) → IsAmong d drafts → (outcome : Option Entry) × SolvesTo canon d outcome)
      → (entries : List Entry) × AllSolveTo canon drafts entries
  all_solved [] h = ([], none_left)
  all_solved (d ∷ drafts) h = let o : _ = h d (inl refl) in add_outcome d drafts o.0 o.1 (all_solved drafts (λ e a. h e (inr a)))

pub exact_list : (data_ : Data) (canon : Term → Term) (specification : Specification) (b : Behaviour) (depth : ℕ) (drafts : List Draft)
    (entries : List Entry) → AreOver data_ canon specification b → listed_drafts data_ canon specification.processes depth b ≡ Some drafts
    → AllSolveTo canon drafts entries → Exact data_ canon specification.processes b entries
exact_list data_ canon specification b depth drafts entries over list solves = exact_menu data_ canon specification b entries over (record {
  rising = rise_at canon entries (entries_rise canon solves (drafts_rise data_ canon specification.processes b depth drafts list));
  fitting = λ e at. let s : _ = solved e at in (s.0, s.1);
  solved = solved;
  every_solved = λ shape draft e fits s. gave canon solves draft e
      (complete_drafts data_ canon specification.processes b depth drafts list shape draft fits) s;
})
  where
    solved : (e : Entry) → IsEntry entries e → (draft : Draft) × (draft_of data_ canon specification.processes e.shape b ≡ Some draft)
        × SolvesTo canon draft (Some e)
    solved e (k, at) =
        let p : (d : Draft) × IsAmong d drafts × SolvesTo canon d (Some e) = came_from canon solves k e at in (
          p.0,
          subst (λ (s : Shape). draft_of data_ canon specification.processes s b ≡ Some p.0) (sym (outcome_shape p.2))
              (sound_drafts data_ canon specification.processes b depth drafts list p.0 p.1),
          p.2,
        )

-- Over data with a canon, a list of drafts has an exact menu.
pub listed_menu : (data_ : Data) (canon : Term → Term) (specification : Specification) (b : Behaviour) (depth : ℕ) (drafts : List Draft)
    → AreOver data_ canon specification b → listed_drafts data_ canon specification.processes depth b ≡ Some drafts → (entries : List Entry)
    × Exact data_ canon specification.processes b entries
listed_menu data_ canon specification b depth drafts over list =
    let all : (entries : List Entry) × AllSolveTo canon drafts entries = all_solved canon drafts outcome in
    (all.0, exact_list data_ canon specification b depth drafts all.0 over list all.1)
  where
    outcome : (d : Draft) → IsAmong d drafts → (o : Option Entry) × SolvesTo canon d o
    outcome d a =
        let fits : draft_of data_ canon specification.processes d.shape b ≡ Some d =
        sound_drafts data_ canon specification.processes b depth drafts list d a in
        let f : FineDraft data_ d = fine_draft data_ canon specification b over d.shape d fits in
        let o = solving_any.outcome data_ canon d over.is_canon f.order in
        (o.0, o.1)
