-- What is known on the way, and what each look at it says.
use Rattle.std.proofs.Common.{refl, ap, sym, ◌∙◌, ◌≡◌, subst, ℕ, List, [], map}
use Rattle.std.specs.Prelude.{Vec}
use Rattle.std.specs.declared.alloc.Global.{Global}
use Rattle.lotos_base.specs.Name.{spelling}
use Rattle.lotos_base.specs.WrittenTerm.{ListedOperation}
use Rattle.lotos_base.specs.WrittenView.{listed_operation_of}
use Rattle.lotos_base.specs.Equation.{Data}
use Rattle.lotos_base.proofs.SortLemmas.{well_formed_sorted}
use Rattle.sort_terms.specs.EquationView.{data_of}
use Rattle.sort_terms.specs.declared.equations.Flat.{Flat}
use Rattle.syntax_trees.specs.WrittenDefinition.{WrittenSpecification}
use Rattle.syntax_trees.specs.TakenItems.{without_items}
use Rattle.syntax_trees.specs.TreeViews.{item_of}
use Rattle.syntax_trees.specs.declared.items.ItemText.{ItemText}
use Rattle.type_definitions.specs.DeclaredTypes.{types_of}
use Rattle.type_definitions.specs.declared.type_faults.TypeFault.{TypeFault}
use Rattle.type_definitions.specs.declared.type_faults.TypeFault.TheVariants as type
use Rattle.type_flatten.specs.FlatView.{IsFlat, IsRefused}
use Rattle.behaviour_semantics.specs.Behaviour.{Specification}
use Rattle.behaviour_semantics.specs.Guardedness.{IsGuarded}
use Rattle.behaviour_tree.specs.DefinitionView.{specification_of}
use Rattle.behaviour_tree.specs.Over.{IsSpecOver}
use Rattle.behaviour_tree.specs.declared.definitions.Spec.{Spec as CodeSpec}
use Rattle.lotos_base.specs.declared.names.Name.{Name}
use Rattle.lotos_base.specs.declared.written_terms.OrderItem.{OrderItem}
use Rattle.refusal_lines.specs.HandedOn.read_faults as read
use Rattle.refusal_lines.specs.HandedOn.exit_faults as exit
use Rattle.refusal_lines.specs.HandedOn.rank_faults as rank
use Rattle.refusal_lines.specs.HandedOn.scope_fault as scope
use Rattle.refusal_lines.specs.HandedOn.scope_faults as scoped
use Rattle.path_order.specs.RulesView.{precedence_in, rules_in}
use Rattle.refusal_lines.specs.HandedOn.{IsBookFault, IsOpenedBy, Book, BookFault, LibraryFault, CodeGathered as Gathered, TextIsMisread}
use Rattle.refusal_lines.specs.HandedOn.{IsOrderReadFault, IsOrderReading, IsSpecificationFault, ReadFault, SpecificationIs, FaultIs}
use Rattle.refusal_lines.specs.HandedOn.{resolved, resolution_faulty as faulty, ScopeFault, Blames, all_disagreements, AreRanksOf}
use Rattle.refusal_lines.specs.HandedOn.{RefusesRanks, ExitFault, RankFault, Ranks}
use Rattle.refusal_lines.specs.declared.refused.Refused.{Refused}
use Rattle.refusal_lines.specs.HandedOn.book_faults as book
use Rattle.static_scope.specs.KeptPlaces.{places_of}
use Rattle.static_scope.specs.TextPlaces.{text_places}
use Rattle.refusal_lines.specs.Refusal as plain
use Rattle.refusal_lines.specs.declared.spec_fault.SpecFault.TheVariants as fault
use Rattle.spec_acceptance.specs.Ending.{at_first, with_libraries, with_spec}
use Rattle.spec_acceptance.specs.Texts.{text_told}
use Rattle.spec_acceptance.specs.Types.{HaveData, HaveFault, types_told}
use Rattle.spec_acceptance.specs.Scopes.{Breaks, StandsFor, scopes_told}
use Rattle.spec_acceptance.specs.Checks.{FunctionalitiesAgree, Disagree, functionality_told, Guarded, Cyclic, recursion_told}
use Rattle.spec_acceptance.specs.Book.{DoesNotOpen, Opens, opening_told}
use Rattle.spec_acceptance.specs.Doing.{Faulty, IsLibraryRefusal, RefusesAs, with_libraries_refused, with_data_refused, with_spec_refused}
use Rattle.spec_acceptance.specs.Known.{KnowsData, Resolved, KnowsSpec, KnowsRanks, KnowsOrder, ReadsItems, KnowsBook}
use Rattle.spec_acceptance.specs.declared.not_accepted.NotAccepted.{NotAccepted}
use Rattle.spec_acceptance.specs.declared.not_accepted.NotAccepted.TheVariants.{File, Spec, NoMemory}
use Rattle.spec_acceptance.specs.declared.stages.WithData.{WithData}
use Rattle.spec_acceptance.specs.declared.stages.WithOrder.{WithOrder}
use Rattle.spec_acceptance.specs.declared.stages.WithRanks.{WithRanks}
use Rattle.spec_acceptance.specs.declared.stages.WithSpec.{WithSpec}
use Rattle.spec_acceptance.proofs.FaultLemmas.{by_data, by_spec, order_told, read_faulty, types_faulty, scopes_faulty, exits_faulty, ranks_faulty, order_faulty, book_faulty}

-- an answer that is this refusal, unless memory was wanted
pub refused_as : {F : Type 0} (IsFault : F → Type 0) (tell : F → plain.Refused) (IsWanting : Type 0) (r : Refused) (answer : NotAccepted)
    → RefusesAs IsWanting r answer → ((IsWanting → ⊥) → Faulty IsFault tell (Spec r)) → Faulty IsFault tell answer
refused_as IsFault tell IsWanting r (File name) is tells = absurd is
refused_as IsFault tell IsWanting r (Spec found) is tells =
    subst (λ (x : Refused). Faulty IsFault tell (Spec x)) (sym is.0) (tells is.1)
refused_as IsFault tell IsWanting r NoMemory is tells = tt

-- what a refusal then tells
pub told_spec : {F : Type 0} (tell : List (List ℕ) → Data → Specification → F → plain.Refused) (libraries read : List (List ℕ))
    (data_ other : Data) (spec also : Specification) (IsFault : F → Type 0) (answer : NotAccepted)
    → libraries ≡ read → data_ ≡ other → spec ≡ also → Faulty IsFault (tell libraries data_ spec) answer
    → Faulty IsFault (tell read other also) answer
told_spec tell libraries read data_ other spec also IsFault answer one two three is =
    subst (λ (ls : List (List ℕ)). Faulty IsFault (tell ls other also) answer) one
    (subst (λ (d : Data). Faulty IsFault (tell libraries d also) answer) two
    (subst (λ (s : Specification). Faulty IsFault (tell libraries data_ s) answer) three is))

pub tells_spec : {F : Type 0} (tell : List (List ℕ) → Data → Specification → F → plain.Refused) (whole : Resolved) (known : WithSpec)
    (IsFault : F → Type 0) (answer : NotAccepted) → KnowsSpec whole known
    → Faulty IsFault (by_spec tell known) answer → Faulty IsFault (tell whole.read whole.data_ whole.spec) answer
tells_spec tell whole known IsFault answer knows is =
    told_spec tell (map spelling known.libraries.items) whole.read (data_of known.flat) whole.data_ (specification_of known.spec) whole.spec
    IsFault answer knows.libraries knows.data_is knows.keeps.same is

-- ---- Texts and types

pub spec_misread : (text : List ℕ) (libraries : Vec Name Global) (found : ReadFault) (answer : NotAccepted) → libraries.items ≡ []
    → IsSpecificationFault 0 text found
    → RefusesAs (found ≡ read.NoMemory) (with_libraries_refused libraries (fault.Read 0 found)) answer
    → Faulty (TextIsMisread IsSpecificationFault 0 text) (text_told at_first 0) answer
spec_misread text libraries found answer none is refused =
    refused_as (TextIsMisread IsSpecificationFault 0 text) (text_told at_first 0) (found ≡ read.NoMemory)
    (with_libraries_refused libraries (fault.Read 0 found)) answer refused (λ not.
    subst (λ (names : List Name).
    Faulty (TextIsMisread IsSpecificationFault 0 text) (text_told (with_libraries (map spelling names)) 0)
    (Spec (with_libraries_refused libraries (fault.Read 0 found))))
    none (read_faulty IsSpecificationFault 0 text libraries found is not))

pub refusal_is : (so_far : Gathered) (found other : LibraryFault) (answer : NotAccepted) → found ≡ other
    → IsLibraryRefusal so_far other answer → IsLibraryRefusal so_far found answer
refusal_is so_far found other answer same is = subst (λ (f : LibraryFault). IsLibraryRefusal so_far f answer) (sym same) is

pub flat_fine : (given items : List ItemText) (libraries : Vec Name Global) (flat : Flat) → given ≡ items
    → IsFlat (types_of (map item_of given)) flat
    → KnowsData (map spelling libraries.items) (data_of flat) (record { libraries = libraries; flat = flat })
    × HaveData (types_of (map item_of items)) (data_of flat)
flat_fine given items libraries flat all is = (
  record {
    libraries = refl;
    data_is = refl;
    well_formed = is.well_formed;
    sorted = record { sides = is.sides; data_ = well_formed_sorted (data_of flat) is.well_formed };
  },
  subst (λ (ts : List ItemText). HaveData (types_of (map item_of ts)) (data_of flat)) all (is.names, is.flattened),
)

pub flat_faulty : (given items : List ItemText) (libraries : Vec Name Global) (found : TypeFault) (answer : NotAccepted) → given ≡ items
    → IsRefused (types_of (map item_of given)) found
    → RefusesAs (found ≡ type.NoMemory) (with_libraries_refused libraries (fault.Types found)) answer
    → Faulty (HaveFault (types_of (map item_of items))) (types_told (map spelling libraries.items)) answer
flat_faulty given items libraries found answer all is refused =
    refused_as (HaveFault (types_of (map item_of items))) (types_told (map spelling libraries.items)) (found ≡ type.NoMemory)
    (with_libraries_refused libraries (fault.Types found)) answer refused (λ not.
    subst (λ (ts : List ItemText). Faulty (HaveFault (types_of (map item_of ts))) (types_told (map spelling libraries.items))
    (Spec (with_libraries_refused libraries (fault.Types found)))) all
    (types_faulty (types_of (map item_of given)) libraries found is not))

-- ---- Scopes

pub resolved_fine : (tree : WrittenSpecification) (known : WithData) (spec : CodeSpec)
    → SpecificationIs (data_of known.flat).signature tree (resolved (specification_of spec))
    → IsSpecOver (data_of known.flat).signature spec → places_of spec ≡ text_places tree
    → (text : WrittenSpecification) (read : List (List ℕ)) (data_ : Data) → tree ≡ without_items text → KnowsData read data_ known
    → KnowsSpec (record { read = read; data_ = data_; tree = text; spec = specification_of spec })
    (record { libraries = known.libraries; flat = known.flat; spec = spec })
    × StandsFor data_ text (specification_of spec)
resolved_fine tree known spec is over places text read data_ same knows = (
  record {
    libraries = knows.libraries;
    data_is = knows.data_is;
    well_formed = knows.well_formed;
    sorted = knows.sorted;
    keeps = record {
      same = refl;
      over = subst (λ (d : Data). IsSpecOver d.signature spec) knows.data_is over;
      places = places ∙ ap text_places same;
    };
  },
  subst (λ (d : Data). StandsFor d text (specification_of spec)) knows.data_is
      (subst (λ (t : WrittenSpecification). SpecificationIs (data_of known.flat).signature t (resolved (specification_of spec))) same is),
)

pub resolved_faulty : (tree : WrittenSpecification) (known : WithData) (found : ScopeFault) (answer : NotAccepted)
    → FaultIs found (λ (f : scope.ScopeFault). SpecificationIs (data_of known.flat).signature tree (faulty f))
    → RefusesAs (found ≡ scoped.NoMemory) (with_data_refused known (fault.Scope found)) answer
    → (text : WrittenSpecification) (read : List (List ℕ)) (data_ : Data) → tree ≡ without_items text → KnowsData read data_ known
    → Faulty (Breaks data_ text) (scopes_told read data_) answer
resolved_faulty tree known found answer is refused text read data_ same knows =
    subst (λ (d : Data). Faulty (Breaks d text) (scopes_told read d) answer) knows.data_is
    (subst (λ (ls : List (List ℕ)). Faulty (Breaks (data_of known.flat) text) (scopes_told ls (data_of known.flat)) answer) knows.libraries
    (refused_as (Breaks (data_of known.flat) text) (by_data scopes_told known) (found ≡ scoped.NoMemory)
    (with_data_refused known (fault.Scope found)) answer refused (λ not.
    scopes_faulty text known found not
    (subst (λ (t : WrittenSpecification).
    FaultIs found (λ (f : scope.ScopeFault). SpecificationIs (data_of known.flat).signature t (faulty f))) same is))))

-- ---- Functionalities and recursion

pub agreed_fine : (known : WithSpec) → all_disagreements known.spec ≡ [] → (whole : Resolved) → KnowsSpec whole known
    → KnowsSpec whole known × FunctionalitiesAgree whole.data_ whole.tree whole.spec whole.spec
agreed_fine known nothing whole knows = (knows, (refl, (known.spec, knows.keeps, nothing)))

pub agreed_faulty : (known : WithSpec) (found : ExitFault) (answer : NotAccepted) → Blames (all_disagreements known.spec) found
    → RefusesAs (found ≡ exit.NoMemory) (with_spec_refused known (fault.Exit found)) answer
    → (whole : Resolved) → KnowsSpec whole known
    → Faulty (Disagree whole.data_ whole.tree whole.spec) (functionality_told whole.read whole.data_ whole.spec) answer
agreed_faulty known found answer is refused whole knows =
    tells_spec functionality_told whole known (Disagree whole.data_ whole.tree whole.spec) answer knows
    (refused_as (Disagree whole.data_ whole.tree whole.spec) (by_spec functionality_told known) (found ≡ exit.NoMemory)
    (with_spec_refused known (fault.Exit found)) answer refused (λ not.
    exits_faulty whole.data_ whole.tree whole.spec known found knows.keeps not is))

pub ranked_fine : (known : WithSpec) (ranks : Ranks) → AreRanksOf known.spec ranks → IsGuarded (specification_of known.spec).processes
    → (whole : Resolved) → KnowsSpec whole known
    → KnowsRanks whole (record { known = known; ranks = ranks }) × Guarded whole.spec whole.spec
ranked_fine known ranks are guarded whole knows = (
  record { spec_known = knows; ranks_known = are },
  (refl, subst (λ (s : Specification). IsGuarded s.processes) knows.keeps.same guarded),
)

pub ranked_faulty : (known : WithSpec) (found : RankFault) (answer : NotAccepted) → RefusesRanks known.spec found
    → RefusesAs (found ≡ rank.NoMemory) (with_spec_refused known (fault.Rank found)) answer
    → (whole : Resolved) → KnowsSpec whole known
    → Faulty (Cyclic whole.data_ whole.tree whole.spec) (recursion_told whole.read whole.data_ whole.spec) answer
ranked_faulty known found answer is refused whole knows =
    tells_spec recursion_told whole known (Cyclic whole.data_ whole.tree whole.spec) answer knows
    (refused_as (Cyclic whole.data_ whole.tree whole.spec) (by_spec recursion_told known) (found ≡ rank.NoMemory)
    (with_spec_refused known (fault.Rank found)) answer refused (λ not.
    ranks_faulty whole.data_ whole.tree whole.spec known found knows.keeps not is))

-- ---- The order

pub order_misread : (text : List ℕ) (known : WithRanks) (found : ReadFault) (answer : NotAccepted) → IsOrderReadFault 1 text found
    → RefusesAs (found ≡ read.NoMemory) (with_spec_refused known.known (fault.Read 1 found)) answer
    → (whole : Resolved) → KnowsRanks whole known
    → Faulty (TextIsMisread IsOrderReadFault 1 text) (text_told (with_spec whole.read whole.data_ whole.spec) 1) answer
order_misread text known found answer is refused whole knows =
    tells_spec order_told whole known.known (TextIsMisread IsOrderReadFault 1 text) answer knows.spec_known
    (refused_as (TextIsMisread IsOrderReadFault 1 text) (by_spec order_told known.known) (found ≡ read.NoMemory)
    (with_spec_refused known.known (fault.Read 1 found)) answer refused (λ not.
    order_faulty IsOrderReadFault text known.known found is not))

pub order_read : (text : List ℕ) (known : WithRanks) (items : Vec OrderItem Global)
    → IsOrderReading 1 text (map listed_operation_of items.items) → (whole : Resolved) → KnowsRanks whole known
    → ReadsItems whole text (record { known = known; items = items })
order_read text known items is whole knows = (record { ranks_known = knows; listed = refl }, is)

-- ---- The book

pub opened_fine : (ordered : WithOrder) (given : List OrderItem) (made : Book) → given ≡ ordered.items.items
    → made.flat ≡ ordered.known.known.flat
    → IsOpenedBy (map listed_operation_of given) (data_of ordered.known.known.flat) (precedence_in made.joined.rules)
    (rules_in made.joined.rules)
    → (whole : Resolved) (items : List ListedOperation) → KnowsOrder whole items ordered
    → KnowsBook whole items
    (record { libraries = ordered.known.known.libraries; spec = ordered.known.known.spec; ranks = ordered.known.ranks; book = made })
    × Opens items whole.data_ items
opened_fine ordered given made all same is whole items knows = (
  record {
    libraries = knows.ranks_known.spec_known.libraries;
    data_is = ap data_of same ∙ knows.ranks_known.spec_known.data_is;
    well_formed = knows.ranks_known.spec_known.well_formed;
    keeps = knows.ranks_known.spec_known.keeps;
    ranks_known = knows.ranks_known.ranks_known;
    opened = opened_by;
  },
  (refl, (precedence_in made.joined.rules, rules_in made.joined.rules, opened_by)),
)
  where
    opened_by : IsOpenedBy items whole.data_ (precedence_in made.joined.rules) (rules_in made.joined.rules)
    opened_by =
        subst (λ (d : Data). IsOpenedBy items d (precedence_in made.joined.rules) (rules_in made.joined.rules))
        knows.ranks_known.spec_known.data_is
        (subst (λ (os : List ListedOperation).
        IsOpenedBy os (data_of ordered.known.known.flat) (precedence_in made.joined.rules) (rules_in made.joined.rules))
        (ap (map listed_operation_of) all ∙ knows.listed) is)

-- what is known, with the data that were given back
abbrev with_flat : WithOrder → Flat → WithSpec
with_flat ordered flat = record { libraries = ordered.known.known.libraries; flat = flat; spec = ordered.known.known.spec }

pub opened_faulty : (ordered : WithOrder) (given : List OrderItem) (flat : Flat) (found : BookFault) (answer : NotAccepted)
    → given ≡ ordered.items.items → flat ≡ ordered.known.known.flat
    → IsBookFault (map listed_operation_of given) (data_of ordered.known.known.flat) found
    → RefusesAs (found ≡ book.NoMemory) (with_spec_refused (with_flat ordered flat) (fault.Book found)) answer
    → (whole : Resolved) (items : List ListedOperation) → KnowsOrder whole items ordered
    → Faulty (DoesNotOpen items whole.data_) (opening_told whole.read whole.data_ whole.spec) answer
opened_faulty ordered given flat found answer all same is refused whole items knows =
    refused_as (DoesNotOpen items whole.data_) (opening_told whole.read whole.data_ whole.spec) (found ≡ book.NoMemory)
    (with_spec_refused (with_flat ordered flat) (fault.Book found)) answer refused (λ not.
    subst (λ (f : Flat). Faulty (DoesNotOpen items whole.data_) (opening_told whole.read whole.data_ whole.spec)
    (Spec (with_spec_refused (with_flat ordered f) (fault.Book found)))) (sym same)
    (tells_spec opening_told whole ordered.known.known (DoesNotOpen items whole.data_)
    (Spec (with_spec_refused ordered.known.known (fault.Book found))) knows.ranks_known.spec_known
    (subst (λ (d : Data). Faulty (DoesNotOpen items d) (by_spec opening_told ordered.known.known)
    (Spec (with_spec_refused ordered.known.known (fault.Book found)))) knows.ranks_known.spec_known.data_is
    (subst (λ (os : List ListedOperation). Faulty (DoesNotOpen os (data_of ordered.known.known.flat))
    (by_spec opening_told ordered.known.known)
    (Spec (with_spec_refused ordered.known.known (fault.Book found)))) (ap (map listed_operation_of) all ∙ knows.listed)
    (book_faulty (map listed_operation_of given) ordered.known.known found not is)))))
