-- What kept trees obey: the list at the root of an exact tree is the exact menu, whatever was kept before.
use Rattle.std.specs.Prelude.{◌≡◌, List}
use Rattle.lotos_base.specs.Term.{Term}
use Rattle.lotos_base.specs.Equation.{Data}
use Rattle.behaviour_semantics.specs.Behaviour.{Behaviour, parallel, SynchronisationSet, Specification}
use Rattle.behaviour_semantics.specs.Draft.{Draft}
use Rattle.behaviour_semantics.specs.DraftOrder.{IsInOrder}
use Rattle.behaviour_semantics.specs.Solving.{Entry}
use Rattle.behaviour_semantics.specs.Menu.{Exact}
use Rattle.behaviour_semantics.specs.Listing.{IsAmong}
use Rattle.behaviour_semantics.specs.WellFormed.{AreOver}
use Rattle.shared_entries.specs.PartMenus.{joins}
use Rattle.shared_entries.specs.KeptTree.{Kept, kept_for, kept_menu, AllExact, PartsExact, IsMadeOfParts}

pub record KeepMenus (data_ : Data) (canon : Term → Term) (specification : Specification) : Type 0 where
  -- the list at the root is the exact menu of what the tree is kept for, and so the one exact menu of each behaviour
  -- that is identical with it
  pub serves :
      (kept : Kept) (b : Behaviour) →
      AllExact data_ canon specification.processes kept →
      kept_for kept ≡ b →
      Exact data_ canon specification.processes b (kept_menu kept)
  -- a list that is made from the lists of exact parts is exact
  pub made :
      (kept : Kept) →
      AreOver data_ canon specification (kept_for kept) →
      PartsExact data_ canon specification.processes kept →
      IsMadeOfParts data_ canon specification.processes kept →
      AllExact data_ canon specification.processes kept
  -- a list that was exact stays so, whatever trees are below it now, where it is kept for the same behaviour
  pub unchanged :
      (earlier kept : Kept) →
      AllExact data_ canon specification.processes earlier →
      PartsExact data_ canon specification.processes kept →
      kept_for earlier ≡ kept_for kept →
      kept_menu earlier ≡ kept_menu kept →
      AllExact data_ canon specification.processes kept

abbrev pub KeptTreesServe : Type 0
KeptTreesServe = (data_ : Data) (canon : Term → Term) (specification : Specification) → KeepMenus data_ canon specification

-- the joins of the entries of two exact menus are drafts in order, so they can be solved
abbrev pub JoinsAreInOrder : Type 0
JoinsAreInOrder =
    (data_ : Data) (canon : Term → Term) (specification : Specification) (meet : SynchronisationSet) (b c : Behaviour)
    (lefts rights : List Entry) →
    AreOver data_ canon specification (parallel meet b c) →
    Exact data_ canon specification.processes b lefts →
    Exact data_ canon specification.processes c rights →
    (draft : Draft) →
    IsAmong draft (joins data_ meet lefts rights) →
    IsInOrder data_.signature draft
