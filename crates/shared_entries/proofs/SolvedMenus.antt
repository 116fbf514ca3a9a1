-- Exact menus, read as lists of solved forms.
use Rattle.std.proofs.Common.{◌≡◌, List, Some, ◌∙◌}
use Rattle.lotos_base.specs.Term.{Term}
use Rattle.lotos_base.specs.Equation.{Data}
use Rattle.behaviour_semantics.specs.Behaviour.{Behaviour, Specification}
use Rattle.behaviour_semantics.specs.Shape.{Shape}
use Rattle.behaviour_semantics.specs.Draft.{Draft, draft_of}
use Rattle.behaviour_semantics.specs.DraftOrder.{IsInOrder}
use Rattle.behaviour_semantics.specs.Solving.{Entry, SolvesTo}
use Rattle.behaviour_semantics.specs.Menu.{Exact}
use Rattle.behaviour_semantics.specs.Listing.{IsAmong}
use Rattle.behaviour_semantics.specs.WellFormed.{AreOver}
use Rattle.behaviour_semantics.proofs.DraftFineness.{FineDraft, fine_draft, shape_of_draft}
use Rattle.behaviour_semantics.proofs.ExactMenus.{exact_menu}
use Rattle.shared_entries.proofs.RisingLists.{RisingBy, entry_shape, rise_at, rising_of, among_at, at_among, same_shape}

module _ (data_ : Data) (canon : Term → Term) (specification : Specification) where
  -- The entry is the solved form of the shape's draft.
  pub record IsSolvedForm (b : Behaviour) (shape : Shape) (entry : Entry) : Type 0 where
    pub draft : Draft
    pub drafted : draft_of data_ canon specification.processes shape b ≡ Some draft
    pub solves : SolvesTo canon draft (Some entry)

  pub form_shape : (b : Behaviour) (shape : Shape) (entry : Entry) → IsSolvedForm b shape entry → entry.shape ≡ shape
  form_shape b shape entry f =
      same_shape f.solves ∙ shape_of_draft data_ canon specification.processes shape b f.draft f.drafted

  pub form_order : (b : Behaviour) (shape : Shape) (draft : Draft) → AreOver data_ canon specification b
      → draft_of data_ canon specification.processes shape b ≡ Some draft → IsInOrder data_.signature draft
  form_order b shape draft over drafted =
      let fine : FineDraft data_ draft = fine_draft data_ canon specification b over shape draft drafted in fine.order

  -- The shapes rise, each entry is the solved form of its own shape, and each solved form is an entry.
  pub record IsMenu (b : Behaviour) (entries : List Entry) : Type 0 where
    pub rising : RisingBy entry_shape entries
    pub sound : (e : Entry) → IsAmong e entries → IsSolvedForm b e.shape e
    pub complete : (s : Shape) (e : Entry) → IsSolvedForm b s e → IsAmong e entries

  pub exact_of : (b : Behaviour) (entries : List Entry) → AreOver data_ canon specification b → IsMenu b entries
      → Exact data_ canon specification.processes b entries
  exact_of b entries over menu =
      exact_menu data_ canon specification b entries over (record {
        rising = rise_at entries menu.rising;
        fitting = λ e at. let f : IsSolvedForm b e.shape e = menu.sound e (among_at entries at.0 e at.1) in (f.draft, f.drafted);
        solved = λ e at. let f : IsSolvedForm b e.shape e = menu.sound e (among_at entries at.0 e at.1) in (f.draft, f.drafted, f.solves);
        every_solved = λ shape draft entry drafted solves.
            at_among entries entry (menu.complete shape entry (record { draft = draft; drafted = drafted; solves = solves }));
      })

  pub menu_of : (b : Behaviour) (entries : List Entry) → Exact data_ canon specification.processes b entries → IsMenu b entries
  menu_of b entries exact = record {
    rising = rising_of entries exact.rising;
    sound = λ e a.
        let s = exact.solved e (at_among entries e a) in record { draft = s.0; drafted = s.1; solves = s.2 };
    complete = λ s e f.
        let at = exact.every_solved s f.draft e f.drafted f.solves in among_at entries at.0 e at.1;
  }
