-- The order of flattening is that of the text as far as mentions allow.
use Rattle.std.proofs.Common.{◌≡◌, ◌⊎◌, inl, inr, ℕ, zero, suc, ◌+◌, ◌<◌, ◌≤◌, Bool, true, false, List, [], ◌∷◌, ◌++◌, length, refl, ap, sym, ◌∙◌, subst, arith}
use Rattle.std.specs.Prelude.{nat_eq, nat_lt}
use Rattle.std.proofs.lemmas.Bool.{eq-eqb, ltb-true, ltb-false, both_ways, or_left, or_right}
use Rattle.std.proofs.lemmas.Option.{same_Some}
use Rattle.type_definitions.specs.TypeGraph.{is_among, mentioned_by, Mentions, MentionsLead, leads_at_once, leads_on, IsWithin, IsAcyclic}
use Rattle.type_definitions.specs.FlatteningOrder.{FlatteningComesTo, flattened_already, flattened_now, ComesToEach, none_left, next_come_to, counted_from, IsFlatteningOrder}
use Rattle.type_definitions.specs.Walking.{IsSorted, none_sorted, one_sorted}
use Rattle.type_definitions.proofs.NumberLists.{not_true, among_at, at_among, among_none, among_left, among_cases, among_one}
use Rattle.type_definitions.specs.DeclaredTypes.{mention_graph}
use Rattle.type_definitions.proofs.UnknownLemmas.{graph_within}
use Rattle.type_definitions.proofs.OrderLemmas.{stays_done, stay_done, is_done, no_cycle}
use Rattle.type_flatten.specs.TextOrder.{TypeStandsAt, IsOrderOfText, FlatteningFollowsTheText}

abbrev IsIn : List ℕ → ℕ → Type 0
IsIn list i = is_among list i ≡ true

-- ---- What was come to

module _ (graph : List (List ℕ)) where
  -- each of the numbers is there then
  each_in : (done numbers all : List ℕ) (j : ℕ) → ComesToEach graph done numbers all → IsIn numbers j → IsIn all j
  each_in done _ all j (none_left _) h = absurd (among_none j h)
  each_in done _ all j (next_come_to _ more _ i rest now later) h =
      by (among_cases (i ∷ []) rest j h) (λ other. each_in more rest all j later other)
    where
      by : IsIn (i ∷ []) j ⊎ IsIn rest j → (IsIn rest j → IsIn all j) → IsIn all j
      by (inl one) below =
          stay_done graph more rest all j later
          (subst (IsIn more) (sym (among_one i j one)) (is_done graph done i more now))
      by (inr other) below = below other

  mutual
    sorted_one : (done : List ℕ) (i : ℕ) (all : List ℕ) → FlatteningComesTo graph done i all → IsSorted graph done → IsSorted graph all
    sorted_one done i all (flattened_already _ _ is) sorted = sorted
    sorted_one done i _ (flattened_now _ more _ new each) sorted =
        one_sorted more i (sorted_each done (mentioned_by graph i) more each sorted)
        (λ j m. each_in done (mentioned_by graph i) more j each m)

    sorted_each : (done numbers all : List ℕ) → ComesToEach graph done numbers all → IsSorted graph done → IsSorted graph all
    sorted_each done _ all (none_left _) sorted = sorted
    sorted_each done _ all (next_come_to _ more _ i rest now later) sorted =
        sorted_each more rest all later (sorted_one done i more now sorted)

  numbers_in : (first count i : ℕ) → first ≤ i → i < first + count → IsIn (counted_from first count) i
  numbers_in first zero i low high = absurd (omega (arith, low, high))
  numbers_in first (suc count) i low high = by (nat_lt first i) refl (λ above. numbers_in (suc first) count i above (omega (arith, high)))
    where
      by : (later : Bool) → nat_lt first i ≡ later → (suc first ≤ i → IsIn (counted_from (suc first) count) i)
          → IsIn (first ∷ counted_from (suc first) count) i
      by true later more =
          or_right (nat_eq i first) (is_among (counted_from (suc first) count) i)
          (more (let less = ltb-true first i later in omega (arith, less)))
      by false other more =
          let same : i ≡ first = (let most = ltb-false first i other in omega (arith, most, low)) in
          or_left (nat_eq i first) (is_among (counted_from (suc first) count) i) (eq-eqb i first same)

  -- ---- Why each type stands where it does

  -- The type at the end is new, what it mentions is there before, and it was come to by a type of the text: by itself or by mentions.
  -- All types before that one in the text are there.
  record IsLed (done : List ℕ) (i : ℕ) : Type 0 where
    pub root : ℕ
    pub leads : (root ≡ i) ⊎ MentionsLead graph root i
    pub before : (m : ℕ) → m < root → IsIn done m

  data IsBuilt : List ℕ → Type 0 where
    none_built : IsBuilt []
    one_built : (done : List ℕ) (i : ℕ) → IsBuilt done → is_among done i ≡ false → ((j : ℕ) → Mentions graph i j → IsIn done j)
        → IsLed done i → i < length graph → IsBuilt (done ++ i ∷ [])

  -- what is there behind a type that was come to: what was there, itself, and what it leads to
  abbrev From : ℕ → ℕ → Type 0
  From i j = (i ≡ j) ⊎ MentionsLead graph i j

  mutual
    grown_one : (done : List ℕ) (i : ℕ) (all : List ℕ) (j : ℕ) → FlatteningComesTo graph done i all → IsIn all j → IsIn done j ⊎ From i j
    grown_one done i all j (flattened_already _ _ is) h = inl h
    grown_one done i _ j (flattened_now _ more _ new each) h =
        by (among_cases more (i ∷ []) j h) (grown_each done (mentioned_by graph i) more j each)
      where
        by : IsIn more j ⊎ IsIn (i ∷ []) j
            → (IsIn more j → IsIn done j ⊎ ((n : ℕ) × Mentions graph i n × From n j)) → IsIn done j ⊎ From i j
        by (inr here) led = inr (inl (sym (among_one i j here)))
        by (inl there) led = by_led (led there)
          where
            by_led : IsIn done j ⊎ ((n : ℕ) × Mentions graph i n × From n j) → IsIn done j ⊎ From i j
            by_led (inl was) = inl was
            by_led (inr (n, m, inl same)) = inr (inr (leads_at_once (subst (Mentions graph i) same m)))
            by_led (inr (n, m, inr further)) = inr (inr (leads_on m further))

    grown_each : (done numbers all : List ℕ) (j : ℕ) → ComesToEach graph done numbers all → IsIn all j
        → IsIn done j ⊎ ((n : ℕ) × IsIn numbers n × From n j)
    grown_each done _ all j (none_left _) h = inl h
    grown_each done _ all j (next_come_to _ more _ i rest now later) h =
        by (grown_each more rest all j later h) (λ there. grown_one done i more j now there)
      where
        by : IsIn more j ⊎ ((n : ℕ) × IsIn rest n × From n j) → (IsIn more j → IsIn done j ⊎ From i j)
            → IsIn done j ⊎ ((n : ℕ) × IsIn (i ∷ rest) n × From n j)
        by (inr (n, there, from)) led = inr (n, or_right (nat_eq n i) (is_among rest n) there, from)
        by (inl there) led = by_led (led there)
          where
            by_led : IsIn done j ⊎ From i j → IsIn done j ⊎ ((n : ℕ) × IsIn (i ∷ rest) n × From n j)
            by_led (inl was) = inl was
            by_led (inr from) = inr (i, or_left (nat_eq i i) (is_among rest i) (eq-eqb i i refl), from)

  -- ---- The order as it is built

  module _ (acyclic : IsAcyclic graph) (within : IsWithin graph) where
    led_on : (root i j : ℕ) → (root ≡ i) ⊎ MentionsLead graph root i → Mentions graph i j → MentionsLead graph root j
    led_on root i j (inl same) m = leads_at_once (subst (λ (k : ℕ). Mentions graph k j) (sym same) m)
    led_on root i j (inr leads) m = lead_then root i j leads m
      where
        lead_then : (root i j : ℕ) → MentionsLead graph root i → Mentions graph i j → MentionsLead graph root j
        lead_then root i j (leads_at_once first) m = leads_on first (leads_at_once m)
        lead_then root i j (leads_on {j = k} first further) m = leads_on first (lead_then k i j further m)

    -- a type is not there before it is put behind what it mentions
    not_yet : (done more : List ℕ) (i : ℕ) → is_among done i ≡ false → ComesToEach graph done (mentioned_by graph i) more
        → is_among more i ≡ false
    not_yet done more i new each =
        not_true (is_among more i) (λ there. by (grown_each done (mentioned_by graph i) more i each there))
      where
        by : IsIn done i ⊎ ((n : ℕ) × IsIn (mentioned_by graph i) n × From n i) → ⊥
        by (inl was) = both_ways (is_among done i) new was
        by (inr (n, m, from)) = acyclic i n m from

    mutual
      build_one : (root : ℕ) (done : List ℕ) (i : ℕ) (all : List ℕ) → FlatteningComesTo graph done i all
          → ((m : ℕ) → m < root → IsIn done m) → (root ≡ i) ⊎ MentionsLead graph root i → i < length graph → IsBuilt done → IsBuilt all
      build_one root done i all (flattened_already _ _ is) before leads inside built = built
      build_one root done i _ (flattened_now _ more _ new each) before leads inside built =
          one_built more i
          (build_each root done (mentioned_by graph i) more each before (λ j m. led_on root i j leads m) (λ j m. within i j m) built)
          (not_yet done more i new each) (λ j m. each_in done (mentioned_by graph i) more j each m)
          (record {
            root = root;
            leads = leads;
            before = λ m less. stay_done graph done (mentioned_by graph i) more m each (before m less);
          }) inside

      build_each : (root : ℕ) (done numbers all : List ℕ) → ComesToEach graph done numbers all → ((m : ℕ) → m < root → IsIn done m)
          → ((j : ℕ) → IsIn numbers j → MentionsLead graph root j) → ((j : ℕ) → IsIn numbers j → j < length graph) → IsBuilt done
          → IsBuilt all
      build_each root done _ all (none_left _) before leads inside built = built
      build_each root done _ all (next_come_to _ more _ i rest now later) before leads inside built =
          let here : IsIn (i ∷ rest) i = or_left (nat_eq i i) (is_among rest i) (eq-eqb i i refl) in
          build_each root more rest all later (λ m less. stays_done graph done i more m now (before m less))
          (λ j there. leads j (or_right (nat_eq j i) (is_among rest j) there))
          (λ j there. inside j (or_right (nat_eq j i) (is_among rest j) there))
          (build_one root done i more now before (inr (leads i here)) (inside i here) built)

    -- all types in the order of the text
    build_all : (count first : ℕ) (done all : List ℕ) → ComesToEach graph done (counted_from first count) all
        → first + count ≤ length graph → ((m : ℕ) → m < first → IsIn done m) → IsBuilt done → IsBuilt all
    build_all zero first done all (none_left _) room before built = built
    build_all (suc count) first done all (next_come_to _ more _ _ _ now later) room before built =
        build_all count (suc first) more all later (let r = room in omega (arith, r)) (λ m less. by m (nat_lt m first) refl less)
        (build_one first done first more now before (inl refl) (let r = room in omega (arith, r)) built)
      where
        by : (m : ℕ) (earlier : Bool) → nat_lt m first ≡ earlier → m < suc first → IsIn more m
        by m true earlier less = stays_done graph done first more m now (before m (ltb-true m first earlier))
        by m false other less =
            let same : first ≡ m = (let most = ltb-false m first other in omega (arith, most, less)) in
            subst (IsIn more) same (is_done graph done first more now)

  -- ---- Positions

  at_end : (done : List ℕ) (x k i : ℕ) → TypeStandsAt (done ++ x ∷ []) k i → TypeStandsAt done k i ⊎ ((k ≡ length done) × (i ≡ x))
  at_end [] x zero i at = inr (refl, sym (same_Some x i at))
  at_end [] x (suc k) i at = absurd (cc at)
  at_end (y ∷ done) x zero i at = inl at
  at_end (y ∷ done) x (suc k) i at = by (at_end done x k i at)
    where
      by : TypeStandsAt done k i ⊎ ((k ≡ length done) × (i ≡ x)) → TypeStandsAt done k i ⊎ ((suc k ≡ suc (length done)) × (i ≡ x))
      by (inl there) = inl there
      by (inr last) = inr (ap suc last.0, last.1)

  below_end : (done : List ℕ) (k i : ℕ) → TypeStandsAt done k i → k < length done
  below_end [] k i at = absurd (cc at)
  below_end (x ∷ done) zero i at = omega arith
  below_end (x ∷ done) (suc k) i at = let less = below_end done k i at in omega (arith, less)

  closed : (order : List ℕ) → IsBuilt order → (i j : ℕ) → IsIn order i → Mentions graph i j → IsIn order j
  closed _ none_built i j there m = among_none i there
  closed _ (one_built done x built new has led inside) i j there m = by (among_cases done (x ∷ []) i there) (closed done built i j)
    where
      by : IsIn done i ⊎ IsIn (x ∷ []) i → (IsIn done i → Mentions graph i j → IsIn done j) → IsIn (done ++ x ∷ []) j
      by (inl before) below = among_left done (x ∷ []) j (below before m)
      by (inr last) below =
          among_left done (x ∷ []) j (has j (subst (λ (k : ℕ). Mentions graph k j) (among_one x i last) m))

  roots : (order : List ℕ) → IsBuilt order → (j : ℕ) → IsIn order j → IsLed order j
  roots _ none_built j there = among_none j there
  roots _ (one_built done x built new has led inside) j there = by (among_cases done (x ∷ []) j there) (roots done built j)
    where
      wider : IsLed done j → IsLed (done ++ x ∷ []) j
      wider is = record { root = is.root; leads = is.leads; before = λ m less. among_left done (x ∷ []) m (is.before m less) }

      by : IsIn done j ⊎ IsIn (x ∷ []) j → (IsIn done j → IsLed done j) → IsLed (done ++ x ∷ []) j
      by (inl before) below = wider (below before)
      by (inr last) below = wider (subst (IsLed done) (sym (among_one x j last)) led)

  only_types : (order : List ℕ) → IsBuilt order → (k i : ℕ) → TypeStandsAt order k i → i < length graph
  only_types _ none_built k i at = absurd (cc at)
  only_types _ (one_built done x built new has led inside) k i at = by (at_end done x k i at) (only_types done built k i)
    where
      by : TypeStandsAt done k i ⊎ ((k ≡ length done) × (i ≡ x)) → (TypeStandsAt done k i → i < length graph) → i < length graph
      by (inl there) below = below there
      by (inr last) below = subst (λ (n : ℕ). n < length graph) (sym last.1) inside

  once_there : (order : List ℕ) → IsBuilt order → (k l i : ℕ) → TypeStandsAt order k i → TypeStandsAt order l i → k ≡ l
  once_there _ none_built k l i at also = absurd (cc at)
  once_there _ (one_built done x built new has led inside) k l i at also =
      by (at_end done x k i at) (at_end done x l i also) (once_there done built k l i)
    where
      twice : (n : ℕ) → TypeStandsAt done n i → i ≡ x → ⊥
      twice n there same = both_ways (is_among done x) new (subst (IsIn done) same (among_at done n i there))

      by : TypeStandsAt done k i ⊎ ((k ≡ length done) × (i ≡ x)) → TypeStandsAt done l i ⊎ ((l ≡ length done) × (i ≡ x))
          → (TypeStandsAt done k i → TypeStandsAt done l i → k ≡ l) → k ≡ l
      by (inl one) (inl two) below = below one two
      by (inl one) (inr last) below = absurd (twice k one last.1)
      by (inr last) (inl two) below = absurd (twice l two last.1)
      by (inr last) (inr end) below = last.0 ∙ sym end.0

  behind_all : (order : List ℕ) → IsBuilt order → (k l i j : ℕ) → TypeStandsAt order k i → TypeStandsAt order l j → Mentions graph i j
      → l < k
  behind_all _ none_built k l i j at also m = absurd (cc at)
  behind_all _ (one_built done x built new has led inside) k l i j at also m =
      by (at_end done x k i at) (at_end done x l j also) (behind_all done built k l i j)
    where
      by : TypeStandsAt done k i ⊎ ((k ≡ length done) × (i ≡ x)) → TypeStandsAt done l j ⊎ ((l ≡ length done) × (j ≡ x))
          → (TypeStandsAt done k i → TypeStandsAt done l j → Mentions graph i j → l < k) → l < k
      by (inl one) (inl two) below = below one two m
      by (inl one) (inr last) below =
          absurd (both_ways (is_among done x) new (subst (IsIn done) last.1 (closed done built i j (among_at done k i one) m)))
      by (inr last) (inl two) below = let less = below_end done l j two in let at = last.0 in omega (arith, less, at)
      by (inr last) (inr end) below =
          absurd (both_ways (is_among done x) new (subst (IsIn done) end.1 (has j (subst (λ (n : ℕ). Mentions graph n j) last.1 m))))

  text_first : (order : List ℕ) → IsBuilt order → (k l i j : ℕ) → TypeStandsAt order k i → TypeStandsAt order l j → i < j → l < k
      → (r : ℕ) × (r ≤ i) × MentionsLead graph r j
  text_first _ none_built k l i j at also earlier before = absurd (cc at)
  text_first _ (one_built done x built new has led inside) k l i j at also earlier before =
      by (at_end done x k i at) (at_end done x l j also) (text_first done built k l i j)
    where
      rooted : TypeStandsAt done l j → i ≡ x → (r : ℕ) × (r ≤ i) × MentionsLead graph r j
      rooted there same = go (roots done built j (among_at done l j there))
        where
          go : IsLed done j → (r : ℕ) × (r ≤ i) × MentionsLead graph r j
          go is = lead (nat_lt i is.root) refl is.leads
            where
              lead : (low : Bool) → nat_lt i is.root ≡ low → (is.root ≡ j) ⊎ MentionsLead graph is.root j
                  → (r : ℕ) × (r ≤ i) × MentionsLead graph r j
              lead true low leads =
                  absurd (both_ways (is_among done x) new (subst (IsIn done) same (is.before i (ltb-true i is.root low))))
              lead false low (inl itself) =
                  let most = ltb-false i is.root low in absurd (omega (arith, most, itself, earlier))
              lead false low (inr leads) = (is.root, ltb-false i is.root low, leads)

      by : TypeStandsAt done k i ⊎ ((k ≡ length done) × (i ≡ x)) → TypeStandsAt done l j ⊎ ((l ≡ length done) × (j ≡ x))
          → (TypeStandsAt done k i → TypeStandsAt done l j → i < j → l < k → (r : ℕ) × (r ≤ i) × MentionsLead graph r j)
          → (r : ℕ) × (r ≤ i) × MentionsLead graph r j
      by (inl one) (inl two) below = below one two earlier before
      by (inr last) (inl two) below = rooted two last.1
      by (inl one) (inr end) below = let less = below_end done k i one in let at = end.0 in absurd (omega (arith, less, at, before))
      by (inr last) (inr end) below = let at = last.0 in let to = end.0 in absurd (omega (arith, at, to, before))

follows : (graph : List (List ℕ)) (order : List ℕ) → IsWithin graph → IsFlatteningOrder graph order → IsOrderOfText graph order
follows graph order within ordered =
    let sorted : IsSorted graph order = sorted_each graph [] (counted_from 0 (length graph)) order ordered none_sorted in
    let all : (i : ℕ) → i < length graph → IsIn order i = (λ i less.
    each_in graph [] (counted_from 0 (length graph)) order i ordered
    (numbers_in graph 0 (length graph) i (omega arith) (omega (arith, less)))) in
    let acyclic : IsAcyclic graph = no_cycle graph order sorted all in
    let built = build_all graph acyclic within (length graph) 0 [] order ordered (omega arith) (λ m less. absurd (omega (arith, less)))
    none_built in
    record {
      each = λ i less. at_among order i (all i less);
      only = only_types graph order built;
      once = once_there graph order built;
      behind = behind_all graph order built;
      text = text_first graph order built;
    }

pub flattening_follows_the_text : FlatteningFollowsTheText
flattening_follows_the_text = record {
  graphs = follows;
  types = λ types order known ordered. follows (mention_graph types) order (graph_within types (mention_graph types) known refl) ordered;
}
