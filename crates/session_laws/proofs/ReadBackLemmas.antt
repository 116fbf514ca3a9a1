-- A text that stands for the same as an accepted specification is accepted with the same order file.
use Rattle.std.proofs.Common.{◌≡◌, ◌+◌, ℕ, List, [], ◌∷◌, ◌++◌, take, Option, None, Some, refl, ap, sym, ◌∙◌, subst}
use Rattle.std.specs.Prelude.{option_map}
use Rattle.lotos_base.specs.Equation.{Data}
use Rattle.lotos_base.specs.Limits.{text_limit}
use Rattle.lotos_base.specs.Outside.{Texts}
use Rattle.lotos_base.specs.WrittenTerm.{ListedOperation}
use Rattle.syntax_trees.specs.WrittenDefinition.{WrittenSpecification}
use Rattle.behaviour_semantics.specs.Behaviour.{Specification}
use Rattle.behaviour_tree.specs.DefinitionView.{specification_of}
use Rattle.declaration_laws.specs.SameSpecification.{AreSameSpecifications}
use Rattle.session_laws.specs.AgreementLaws.{NoDisagreementIsAgreement}
use Rattle.session_laws.specs.SameSpelling.{AreDataSpelledAlike}
use Rattle.session_laws.proofs.SameChecks.{pass_the_same_checks}
use Rattle.session_laws.proofs.SameMenus.{do_the_same}
use Rattle.session_laws.proofs.SpelledAlike.{same_data}
use Rattle.lotos_top.specs.HandedOn.{Founded, founded_with, FoundedBy, Founds, got_from, Opens, OpensBook, FunctionalitiesAgree, ComesToAgreement, Guarded, IsGuardedIn, with_spec, Gathered, GotFile, AreGotFrom, goes_on, Resolves, GetsFile, is_got, ReadsSpecification, Gathers, ReadsOrder, Orders, Flattens}
use Rattle.lotos_top.proofs.HandedOn.{AfterBook, AfterOrder, AfterRanks, AfterExits, AfterScopes, AfterData, AfterTypes, front, back, foundings_over_texts_are_one}
use Rattle.session_laws.specs.ReadBack.{IsResolvedAs, IsReadBack, IsGotUnder}
use Rattle.session_laws.specs.AlikeLaws.{FoundedOver, TextsReadBackAreAccepted}
use Rattle.session_laws.proofs.KeptLemmas.{IsKept, kept_there}
use Rattle.session_laws.proofs.WentOn.{went_on, goes_then, goes_then_nothing}

-- ---- Files

pub got_first : (texts : Texts) (files got later : List GotFile) → files ≡ got ++ later → AreGotFrom (got_from texts) files
    → AreGotFrom (got_from texts) got
got_first texts files got later cut all =
    front (got_from texts) got later (subst (λ (xs : List GotFile). AreGotFrom (got_from texts) xs) cut all)

pub got_later : (texts : Texts) (files got later : List GotFile) → files ≡ got ++ later → AreGotFrom (got_from texts) files
    → AreGotFrom (got_from texts) later
got_later texts files got later cut all =
    back (got_from texts) got later (subst (λ (xs : List GotFile). AreGotFrom (got_from texts) xs) cut all)

abbrev pub named : (name bytes : List ℕ) → GotFile
named name bytes = record { name = name; bytes = bytes }

-- ---- The order file

-- the order file was got under its name with these bytes
abbrev IsOne : (name : List ℕ) → List GotFile → (bytes : List ℕ) → Type 0
IsOne name files bytes = files ≡ (named name bytes ∷ [])

one_got : {E : Type 0} (name : List ℕ) (files : List GotFile) (bytes : List ℕ) → GetsFile {E = E} name files (goes_on bytes)
    → IsOne name files bytes
one_got name files bytes (is_got _) = refl

-- the items are read once more, from the same bytes
record OrdersAgain (others : Texts) (order : Option (List ℕ)) (data_ : Data) (spec : Specification) (read : List (List ℕ))
    (items : List ListedOperation) : Type 0 where
  pub files : List GotFile
  pub orders : Orders (with_spec read data_ spec) order files (goes_on items)
  pub all_got : AreGotFrom (got_from others) files

module _ (texts others : Texts) (data_ other : Data) (spec second : Specification) (read other_read : List (List ℕ))
    (items : List ListedOperation) where
  orders_again : (order : Option (List ℕ)) → ((file : List ℕ) → order ≡ Some file → others file ≡ texts file) → (files : List GotFile)
      → Orders (with_spec read data_ spec) order files (goes_on items) → AreGotFrom (got_from texts) files
      → OrdersAgain others order other second other_read items
  orders_again None same files is all = record { files = []; orders = (refl, is.1); all_got = tt }
  orders_again (Some name) same files is all =
      let went = went_on (GetsFile name) (ReadsOrder (with_spec read data_ spec)) files items is in
      let one : went.got ≡ (named name went.found ∷ []) = one_got name went.got went.found went.first in
      let here : AreGotFrom (got_from texts) (named name went.found ∷ []) =
      subst (λ (xs : List GotFile). AreGotFrom (got_from texts) xs) one (got_first texts files went.got went.later went.cut all) in
      record {
        files = named name went.found ∷ [];
        orders =
            goes_then_nothing (GetsFile name) (ReadsOrder (with_spec other_read other second)) went.found (named name went.found ∷ [])
            (goes_on items) (is_got went.found) (refl, went.second.1);
        all_got = (
          ap (λ (o : Option (List ℕ)). option_map (λ (text : List ℕ). take (text_limit + 1) text) o) (same name refl) ∙ here.0,
          tt,
        );
      }

-- ---- The checks

module _ (laws : NoDisagreementIsAgreement) (d data_ : Data) (s second : Specification) (tree other_tree : WrittenSpecification)
    (spelled : AreDataSpelledAlike d data_) (same : AreSameSpecifications s second) where
  agreement_again : (one : Specification) → FunctionalitiesAgree d tree s one → (keeps : IsKept data_ other_tree second)
      → FunctionalitiesAgree data_ other_tree second second
  agreement_again one agree keeps =
      let kept = agree.1.0 in
      let alike : AreSameSpecifications (specification_of kept) (specification_of keeps.kept) =
      subst (λ (z : Specification). AreSameSpecifications z (specification_of keeps.kept)) (sym agree.1.1.same)
      (subst (λ (z : Specification). AreSameSpecifications s z) (sym keeps.keeps.same) same) in (
        refl,
        (
          keeps.kept,
          keeps.keeps,
          ((pass_the_same_checks laws).disagreements d data_ kept keeps.kept (same_data d data_ spelled) alike agree.1.1.over
              keeps.keeps.over).0 agree.1.2,
        ),
      )

  guarded_again : (one : Specification) → Guarded s one → Guarded second second
  guarded_again one guarded = (refl, do_the_same.guarded s.processes second.processes same.processes guarded.1)

  opened_again : (items one : List ListedOperation) → Opens items d one → Opens items data_ items
  opened_again items one opens = (
    refl,
    (
      opens.1.0,
      opens.1.1,
      (pass_the_same_checks laws).rules d data_ items opens.1.0 opens.1.1 (same_data d data_ spelled) opens.1.2,
    ),
  )

-- ---- All of it

-- what came in the end has the data and the specification that were found on the way
pub came_with : (order : Option (List ℕ)) (tree : WrittenSpecification) (g : Gathered) (d : Data) (s : Specification) (founded : Founded)
    (files : List GotFile) → AfterScopes order tree g d s files (goes_on founded)
    → (founded.data_ ≡ d) × (founded.spec ≡ s)
came_with order tree g d s founded files rest =
    let agrees = went_on (ComesToAgreement g d tree s) (λ _. AfterExits order tree g d s) files founded rest in
    let guards = went_on (IsGuardedIn g d tree s) (λ _. AfterRanks order g d s) agrees.later founded agrees.second in
    let orders = went_on (Orders (with_spec g.read d s) order) (λ items. AfterOrder g d s items) guards.later founded guards.second in
    let opens = went_on (OpensBook g d s orders.found) (λ _. AfterBook g d s orders.found) orders.later founded orders.second in
    (ap (λ (f : Founded). f.data_) opens.second.1, ap (λ (f : Founded). f.spec) opens.second.1)

module _ (laws : NoDisagreementIsAgreement) (texts others : Texts) (again : List ℕ) (order : Option (List ℕ)) (founded : Founded)
    (text : List ℕ) (under : IsGotUnder texts others again order text) (read : IsReadBack founded text)
    (keeps : IsKept read.data_ read.resolved.tree read.spec) where
  abbrev resolved : IsResolvedAs text read.data_ read.spec
  resolved = read.resolved

  abbrev data_ : Data
  data_ = read.data_

  abbrev second : Specification
  second = read.spec

  abbrev gathered : Gathered
  gathered = resolved.gathered

  -- what is accepted then
  abbrev other : Founded
  other = founded_with gathered data_ second founded.items

  module _ (g : Gathered) (tree : WrittenSpecification) (d : Data) (s : Specification) (spelled : AreDataSpelledAlike d data_)
      (same : AreSameSpecifications s second) where
    -- behind the order
    ordered_again : (items : List ListedOperation) → founded.items ≡ items → (files later : List GotFile)
        → Orders (with_spec g.read d s) order files (goes_on items) → AfterOrder g d s items later (goes_on founded)
        → AreGotFrom (got_from texts) files
        → (got : List GotFile) × AreGotFrom (got_from others) got × AfterRanks order gathered data_ second got (goes_on other)
    ordered_again items one files later orders rest all =
        let opens = went_on (OpensBook g d s items) (λ _. AfterBook g d s items) later founded rest in
        let once = orders_again texts others d data_ s second g.read gathered.read items order under.same_order files orders all in
        let fine : Opens items data_ items = opened_again laws d data_ s second tree resolved.tree spelled same items opens.found
        opens.first.1 in (
          once.files,
          once.all_got,
          goes_then_nothing (Orders (with_spec gathered.read data_ second) order) (λ is. AfterOrder gathered data_ second is) items
              once.files (goes_on other) once.orders
              (goes_then_nothing (OpensBook gathered data_ second items) (λ _. AfterBook gathered data_ second items) items []
              (goes_on other) (refl, fine)
              (refl, ap (λ (is : List ListedOperation). founded_with gathered data_ second is) one)),
        )

    -- behind the scopes
    scoped_again : (files : List GotFile) → AfterScopes order tree g d s files (goes_on founded) → AreGotFrom (got_from texts) files
        → (got : List GotFile) × AreGotFrom (got_from others) got
        × AfterScopes order resolved.tree gathered data_ second got (goes_on other)
    scoped_again files rest all =
        let agrees = went_on (ComesToAgreement g d tree s) (λ _. AfterExits order tree g d s) files founded rest in
        let guards = went_on (IsGuardedIn g d tree s) (λ _. AfterRanks order g d s) agrees.later founded agrees.second in
        let orders = went_on (Orders (with_spec g.read d s) order) (λ items. AfterOrder g d s items) guards.later founded guards.second in
        let opens = went_on (OpensBook g d s orders.found) (λ _. AfterBook g d s orders.found) orders.later founded orders.second in
        let items : founded.items ≡ orders.found = ap (λ (f : Founded). f.items) opens.second.1 in
        let behind = got_later texts files agrees.got agrees.later agrees.cut all in
        let ranked = got_later texts agrees.later guards.got guards.later guards.cut behind in
        let asked = got_first texts guards.later orders.got orders.later orders.cut ranked in
        let last = ordered_again orders.found items orders.got orders.later orders.first orders.second asked in (
          last.0,
          last.1,
          goes_then (ComesToAgreement gathered data_ resolved.tree second) (λ _. AfterExits order resolved.tree gathered data_ second)
              second [] last.0 (goes_on other)
              (refl, agreement_again laws d data_ s second tree resolved.tree spelled same agrees.found agrees.first.1 keeps)
              (goes_then (IsGuardedIn gathered data_ resolved.tree second) (λ _. AfterRanks order gathered data_ second) second [] last.0
              (goes_on other)
              (refl, guarded_again laws d data_ s second tree resolved.tree spelled same guards.found guards.first.1) last.2),
        )

  spelled_as : (d : Data) → founded.data_ ≡ d → AreDataSpelledAlike d data_
  spelled_as d one = subst (λ (z : Data). AreDataSpelledAlike z data_) one read.spelled

  same_as : (s : Specification) → founded.spec ≡ s → AreSameSpecifications s second
  same_as s one = subst (λ (z : Specification). AreSameSpecifications z second) one read.same

  -- behind the text
  founds_again : (tree : WrittenSpecification) (files : List GotFile) → FoundedBy order tree files (goes_on founded)
      → AreGotFrom (got_from texts) files
      → (got : List GotFile) × AreGotFrom (got_from others) got × Founds text order got (goes_on other)
  founds_again tree files rest all =
      let gathers = went_on (Gathers tree) (λ g. AfterTypes order tree g) files founded rest in
      let g : Gathered = gathers.found in
      let flattens = went_on (Flattens g) (λ d. AfterData order tree g d) gathers.later founded gathers.second in
      let d : Data = flattens.found in
      let resolves = went_on (Resolves g d tree) (λ s. AfterScopes order tree g d s) flattens.later founded flattens.second in
      let s : Specification = resolves.found in
      let behind = got_later texts files gathers.got gathers.later gathers.cut all in
      let typed = got_later texts gathers.later flattens.got flattens.later flattens.cut behind in
      let scoped = got_later texts flattens.later resolves.got resolves.later resolves.cut typed in
      let came : (founded.data_ ≡ d) × (founded.spec ≡ s) = came_with order tree g d s founded resolves.later resolves.second in
      let last = scoped_again g tree d s (spelled_as d came.0) (same_as s came.1) resolves.later resolves.second scoped in (
        last.0,
        last.1,
        goes_then (ReadsSpecification text) (λ tree. FoundedBy order tree) resolved.tree [] last.0 (goes_on other) resolved.read
            (goes_then (Gathers resolved.tree) (λ g. AfterTypes order resolved.tree g) gathered [] last.0 (goes_on other) resolved.gathers
            (goes_then (Flattens gathered) (λ d. AfterData order resolved.tree gathered d) data_ [] last.0 (goes_on other)
            (refl, resolved.has_data)
            (goes_then (Resolves gathered data_ resolved.tree) (λ s. AfterScopes order resolved.tree gathered data_ s) second [] last.0
            (goes_on other) (refl, resolved.stands) last.2))),
      )

-- it is accepted, where something can be kept of it
founded_again : NoDisagreementIsAgreement → (texts others : Texts) (spec again : List ℕ) (order : Option (List ℕ)) (founded : Founded)
    (text : List ℕ) → FoundedOver texts spec order founded → IsGotUnder texts others again order text → (read : IsReadBack founded text)
    → IsKept read.data_ read.resolved.tree read.spec
    → FoundedOver others again order (founded_with read.resolved.gathered read.data_ read.spec founded.items)
founded_again laws texts others spec again order founded text over under read keeps =
    let gets = went_on (GetsFile spec) (λ bytes. Founds bytes order) over.files founded over.came in
    let reads = went_on (ReadsSpecification gets.found) (λ tree. FoundedBy order tree) gets.later founded gets.second in
    let behind = got_later texts over.files gets.got gets.later gets.cut over.got_files in
    let last = founds_again laws texts others again order founded text under read keeps reads.found reads.later reads.second
    (got_later texts gets.later reads.got reads.later reads.cut behind) in
    record {
      files = named again text ∷ last.0;
      came =
          goes_then (GetsFile again) (λ bytes. Founds bytes order) text (named again text ∷ []) last.0
          (goes_on (founded_with read.resolved.gathered read.data_ read.spec founded.items)) (is_got text) last.2;
      got_files = (under.got, last.1);
      lacks = tt;
    }

-- and something is kept of it in whatever comes of it
pub texts_read_back_are_accepted : NoDisagreementIsAgreement → TextsReadBackAreAccepted
texts_read_back_are_accepted laws texts others spec again order founded text comes over under read is =
    let other : Founded = founded_with read.resolved.gathered read.data_ read.spec founded.items in
    let keeps : IsKept read.data_ read.resolved.tree read.spec =
    kept_there (got_from others) again order text read.data_ read.spec read.resolved under.got is.files comes is.came is.got_files is.lacks in (
      other,
      foundings_over_texts_are_one others again order comes (goes_on other) is
          (founded_again laws texts others spec again order founded text over under read keeps),
      record { spelled = read.spelled; same = read.same; same_items = refl },
    )
