-- The layers behind the text up to the book, one after another: what each of them was given, and where it may end.
use Rattle.std.proofs.Common.{refl, sym, ◌≡◌, inl, subst, ℕ, List, map, Option}
use Rattle.std.specs.Prelude.{Result, Ok, Err, MatchResult}
use Rattle.lotos_base.specs.WrittenTerm.{ListedOperation}
use Rattle.lotos_base.specs.WrittenView.{listed_operation_of}
use Rattle.lotos_base.specs.Equation.{Data}
use Rattle.sort_terms.specs.EquationView.{IsSortedFlat, data_of}
use Rattle.syntax_trees.specs.WrittenDefinition.{WrittenSpecification}
use Rattle.syntax_trees.specs.WrittenItem.{WrittenItem}
use Rattle.syntax_trees.specs.TakenItems.{items_of_specification, without_items}
use Rattle.declaration_laws.proofs.GateListLemmas.{read_texts_have_gate_lists, gate_lists_stay}
use Rattle.behaviour_semantics.specs.Behaviour.{Specification}
use Rattle.behaviour_tree.specs.DefinitionView.{specification_of}
use Rattle.refusal_lines.specs.HandedOn.{Gathered, nothing_yet, item, memory_wanted, memory_ends, ShelfState, IsSpecificationReading}
use Rattle.refusal_lines.specs.HandedOn.{TextHasGateLists}
use Rattle.refusal_lines.specs.Refusal.{Refused}
use Rattle.type_definitions.specs.DeclaredTypes.{types_of}
use Rattle.spec_acceptance.specs.Ending.{with_spec}
use Rattle.spec_acceptance.specs.Required.{HoldsRequired, RequiresWith}
use Rattle.spec_acceptance.specs.declared.required.Required.{Required}
use Rattle.spec_acceptance.specs.Part.{goes_on}
use Rattle.spec_acceptance.specs.Texts.{GathersTypes, Gathers, Orders}
use Rattle.spec_acceptance.specs.Types.{HaveData, HaveFault, types_told}
use Rattle.spec_acceptance.specs.Scopes.{StandsFor, Breaks, scopes_told}
use Rattle.spec_acceptance.specs.Checks.{FunctionalitiesAgree, Disagree, functionality_told, Guarded, Cyclic, recursion_told}
use Rattle.spec_acceptance.specs.Book.{Opens, DoesNotOpen, opening_told}
use Rattle.spec_acceptance.specs.Acceptance.{Founded, founded_with, FoundedBy}
use Rattle.spec_acceptance.specs.Doing.{Did, Failed, Faulty}
use Rattle.spec_acceptance.specs.Known.{KnowsData, Resolved, KnowsSpec, KnowsRanks, KnowsOrder, OrdersWith, KnowsBook, FoundsWith}
use Rattle.spec_acceptance.specs.declared.books.WithBook.{WithBook}
use Rattle.spec_acceptance.specs.declared.not_accepted.NotAccepted.{NotAccepted}
use Rattle.spec_acceptance.specs.declared.not_accepted.NotAccepted.TheVariants.{NoMemory}
use Rattle.spec_acceptance.specs.declared.stages.WithData.{WithData}
use Rattle.spec_acceptance.specs.declared.stages.WithOrder.{WithOrder}
use Rattle.spec_acceptance.specs.declared.stages.WithRanks.{WithRanks}
use Rattle.spec_acceptance.specs.declared.stages.WithSpec.{WithSpec}
use Rattle.spec_acceptance.proofs.AcceptLemmas.{Leads, AfterTypes, AfterOrder, Stands, types_failed, scopes_failed, exits_failed, ranks_failed, order_failed, reached_order, book_failed, reached_book}
use Rattle.spec_acceptance.proofs.DoingLemmas.{wants_nothing, failed_first, has_done}

-- ---- What the text gives

-- the lists of gates of a text that was read, once its types are taken out
pub lists_there : (text : List ℕ) (tree now : WrittenSpecification) → IsSpecificationReading 0 text tree → now ≡ without_items tree
    → TextHasGateLists now
lists_there text tree now read left =
    subst (λ (t : WrittenSpecification). TextHasGateLists t) (sym left)
    (gate_lists_stay tree (read_texts_have_gate_lists 0 text tree read))

-- want of memory before anything is got
pub nothing_out : (a : ShelfState) (order : Option (List ℕ)) (tree : WrittenSpecification)
    → Failed a a (FoundedBy order tree) NoMemory
nothing_out a order tree =
    wants_nothing a (FoundedBy order tree)
    (inl (memory_wanted, memory_ends nothing_yet (map item (items_of_specification tree)), refl))

-- ---- The libraries end it

pub gather_out : (a b : ShelfState) (order : Option (List ℕ)) (tree : WrittenSpecification) (items : List WrittenItem)
    (fault : NotAccepted) → items ≡ items_of_specification tree → Failed a b (GathersTypes items) fault
    → Failed a b (FoundedBy order tree) fault
gather_out a b order tree items fault same is =
    failed_first {B = Founded} a b (Gathers tree) (AfterTypes order tree) fault
    (subst (λ (is : List WrittenItem). Failed a b (GathersTypes is) fault) same is)

-- ---- What comes behind them

module _ (a b : ShelfState) (order : Option (List ℕ)) (tree : WrittenSpecification) (items : List WrittenItem) (g : Gathered)
    (same : items ≡ items_of_specification tree) (did : Did a b (GathersTypes items) (goes_on g)) where
  gathers : Did a b (Gathers tree) (goes_on g)
  gathers = subst (λ (is : List WrittenItem). Did a b (GathersTypes is) (goes_on g)) same did

  pub types_out : (fault : NotAccepted) → Faulty (HaveFault (types_of g.types)) (types_told g.read) fault
      → Failed a b (FoundedBy order tree) fault
  types_out fault is = types_failed a order tree b g fault gathers is

  module _ (flat : WithData) (flattened : KnowsData g.read (data_of flat.flat) flat × HaveData (types_of g.types) (data_of flat.flat))
      (now : WrittenSpecification) (left : now ≡ without_items tree) where
    abbrev d : Data
    d = data_of flat.flat

    pub scopes_out : (fault : NotAccepted)
        → ((t : WrittenSpecification) (read : List (List ℕ)) (data_ : Data) → now ≡ without_items t → KnowsData read data_ flat
        → Faulty (Breaks data_ t) (scopes_told read data_) fault)
        → Failed a b (FoundedBy order tree) fault
    scopes_out fault is = scopes_failed a order tree b g d fault gathers flattened.1 (is tree g.read d left flattened.0)

    module _ (stood : WithSpec)
        (stands : (t : WrittenSpecification) (read : List (List ℕ)) (data_ : Data) → now ≡ without_items t → KnowsData read data_ flat
        → KnowsSpec (record { read = read; data_ = data_; tree = t; spec = specification_of stood.spec }) stood
        × StandsFor data_ t (specification_of stood.spec)) where
      abbrev s : Specification
      s = specification_of stood.spec

      abbrev whole : Resolved
      whole = record { read = g.read; data_ = d; tree = tree; spec = s }

      stands_there : KnowsSpec whole stood × StandsFor d tree s
      stands_there = stands tree g.read d left flattened.0

      pub exits_out : (fault : NotAccepted)
          → ((w : Resolved) → KnowsSpec w stood → Faulty (Disagree w.data_ w.tree w.spec) (functionality_told w.read w.data_ w.spec) fault)
          → Failed a b (FoundedBy order tree) fault
      exits_out fault is = exits_failed a order tree b g d s fault gathers flattened.1 stands_there.1 (is whole stands_there.0)

      module _ (checked : WithSpec)
          (agrees : (w : Resolved) → KnowsSpec w stood → KnowsSpec w checked × FunctionalitiesAgree w.data_ w.tree w.spec w.spec) where
        agrees_there : KnowsSpec whole checked × FunctionalitiesAgree d tree s s
        agrees_there = agrees whole stands_there.0

        pub ranks_out : (fault : NotAccepted)
            → ((w : Resolved) → KnowsSpec w checked → Faulty (Cyclic w.data_ w.tree w.spec) (recursion_told w.read w.data_ w.spec) fault)
            → Failed a b (FoundedBy order tree) fault
        ranks_out fault is =
            ranks_failed a order tree b g d s fault gathers flattened.1 stands_there.1 agrees_there.1 (is whole agrees_there.0)

        module _ (ranked : WithRanks)
            (falls : (w : Resolved) → KnowsSpec w checked → KnowsRanks w ranked × Guarded w.spec w.spec) where
          falls_there : KnowsRanks whole ranked × Guarded s s
          falls_there = falls whole agrees_there.0

          stands_all : Stands a order tree b g d s
          stands_all = record {
            data_had = flattened.1;
            stands = stands_there.1;
            agree = agrees_there.1;
            guarded = falls_there.1;
          }

          pub order_out : (c : ShelfState) (fault : NotAccepted)
              → ((w : Resolved) → KnowsRanks w ranked → Failed b c (Orders (with_spec w.read w.data_ w.spec) order) fault)
              → Failed a c (FoundedBy order tree) fault
          order_out c fault is = order_failed a order tree b g c d s fault gathers stands_all (is whole falls_there.0)

          module _ (c : ShelfState) (made : WithOrder)
              (orders : (w : Resolved) → KnowsRanks w ranked → OrdersWith w b c order made) where
            abbrev os : List ListedOperation
            os = map listed_operation_of made.items.items

            orders_there : OrdersWith whole b c order made
            orders_there = orders whole falls_there.0

            leads : Leads a c (FoundedBy order tree) (AfterOrder g d s os)
            leads = reached_order a order tree b g c d s os gathers stands_all orders_there.1

            pub sorted_there : IsSortedFlat made.known.known.flat
            sorted_there = orders_there.0.ranks_known.spec_known.sorted

            came_there : Opens os d os → Did a c (FoundedBy order tree) (goes_on (founded_with g d s os))
            came_there opened =
                (reached_book a order tree c g d s os leads opened).did c (goes_on (founded_with g d s os))
                (has_done Refused c (founded_with g d s os))

            pub finished : (answer : Result WithBook NotAccepted)
                → ((w : Resolved) (is : List ListedOperation) → KnowsOrder w is made
                → MatchResult answer (λ booked. KnowsBook w is booked × Opens is w.data_ is)
                (Faulty (DoesNotOpen is w.data_) (opening_told w.read w.data_ w.spec)))
                → MatchResult answer (FoundsWith a c (FoundedBy order tree)) (Failed a c (FoundedBy order tree))
            finished (Ok booked) opens =
                let there = opens whole os orders_there.0 in
                record { founded = founded_with g d s os; came = came_there there.1; tree = tree; known = there.0 }
            finished (Err fault) opens = book_failed a order tree c g d s os fault leads (opens whole os orders_there.0)

            -- and with the requirements of the types
            pub finished_requiring : (answer : Result WithBook NotAccepted) (required : Required)
                → HoldsRequired (types_of g.types) g.read required
                → ((w : Resolved) (is : List ListedOperation) → KnowsOrder w is made
                → MatchResult answer (λ booked. KnowsBook w is booked × Opens is w.data_ is)
                (Faulty (DoesNotOpen is w.data_) (opening_told w.read w.data_ w.spec)))
                → MatchResult answer (λ booked. RequiresWith a c (FoundedBy order tree) booked required)
                (Failed a c (FoundedBy order tree))
            finished_requiring (Ok booked) required kept opens =
                let there = opens whole os orders_there.0 in
                record {
                  founds = record { founded = founded_with g d s os; came = came_there there.1; tree = tree; known = there.0 };
                  holds = kept;
                }
            finished_requiring (Err fault) required kept opens = finished (Err fault) opens
