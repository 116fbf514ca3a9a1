-- The code's tables and lists, member by member.
use Rattle.std.proofs.Common.{◌≡◌, ℕ, zero, suc, ◌+◌, ◌<◌, ◌≤◌, List, [], ◌∷◌, ◌++◌, length, get_or, take, refl, ap, sym, ◌∙◌, arith, rules, Vec, Global, Bor, ltb, ltb-true, ltb-false, Bool, true, false, nat_eq}
use Rattle.std.specs.Prelude.{Option, Some, None, is_some, IfSome, ◌&&◌, ◌||◌, nat_lt}
use Rattle.std.specs.Option.{option_map}
use Rattle.std.specs.declared.rc.Rc.{Rc}
use Rattle.std.proofs.Math.Seq.{take-length}
use Rattle.std.proofs.lemmas.List.{take_more}
use Rattle.std.proofs.lemmas.Bool.Decides.{Decides-eqb}
use Rattle.lotos_base.specs.Term.{Term as PlainTerm, Terms, variable, node, no_terms, term_then}
use Rattle.lotos_base.specs.Tests.{term_eq}
use Rattle.lotos_base.specs.Path.{argument_at}
use Rattle.rewriting_theory.specs.Precedence.{Status, Precedence}
use Rattle.rewriting_theory.specs.OrderTest.{same_length, is_greater}
use Rattle.sort_terms.specs.ProfiledTerm.{ProfiledTerms, bare, all_bare}
use Rattle.sort_terms.specs.TermView.{all_profiled, term_of, bare_terms_of}
use Rattle.sort_terms.specs.declared.operations.Op.{Op}
use Rattle.sort_terms.specs.declared.terms.Term.{Term}
use Rattle.sort_terms.specs.declared.terms.Term.TheVariants.{Var, Node as TermNode}
use Rattle.sort_terms.proofs.TermListLemmas.{with_last, terms_of-append}
use Rattle.sort_terms.proofs.BuiltLists.{node_with_items, profiled_Node, profiled_Var}
use Rattle.path_order.specs.Comparison.{ComparisonTable, ComparisonTables, table_leaf, table_node, no_tables, table_then, compared, all_compared, each_compared, table_at, part_in, equals_in, exceeds_from, exceeds_all_in, some_reaches_in}
use Rattle.path_order.specs.ComparedView.{compared_table_of, all_tables}
use Rattle.path_order.proofs.TableLemmas.{equal_whole, greater_whole, some_over_variable}
use Rattle.path_order.specs.declared.compared.Compared.{Compared, Leaf, Node, the_lemmas}

pub table_of-Leaf : (e g : Bool) → compared_table_of (Leaf e g) ≡ table_leaf e g
table_of-Leaf e g = search (rules, the_lemmas)

pub table_of-Node : (e g : Bool) (cs : Vec Compared Global) → compared_table_of (Node e g cs) ≡ table_node e g (all_tables cs.items)
table_of-Node e g cs = search (rules, the_lemmas)

table_within : (cs : List Compared) (i : ℕ) (c : Compared) → i < length cs → c ≡ get_or cs i c
    → table_at i (all_tables cs) ≡ Some (compared_table_of c)
table_within [] i c h e = absurd (omega arith)
table_within (d ∷ ds) zero c h e = ap (λ (z : Compared). Some (compared_table_of z)) (sym e)
table_within (d ∷ ds) (suc i) c h e = table_within ds i c (omega arith) e

table_past : (cs : List Compared) (i : ℕ) → length cs ≤ i → table_at i (all_tables cs) ≡ None
table_past [] i h = refl
table_past (d ∷ ds) zero h = absurd (omega arith)
table_past (d ∷ ds) (suc i) h = table_past ds i (omega arith)

-- what a look-up in the arguments gives is the table over that argument
pub part_found : (e g : Bool) (cs : List Compared) (i : ℕ) (r : Option (Bor Compared))
    → is_some r ≡ ltb i (length cs) → IfSome r (λ x. x.now ≡ get_or cs i x.now)
    → option_map (λ x. compared_table_of x.now) r ≡ part_in i (table_node e g (all_tables cs))
part_found e g cs i None some is = sym (table_past cs i (ltb-false i (length cs) (sym some)))
part_found e g cs i (Some x) some is = sym (table_within cs i x.now (ltb-true i (length cs) (sym some)) is)

-- one table more at the end
abbrev with_last_table : ComparisonTables → ComparisonTable → ComparisonTables
with_last_table no_tables c = table_then c no_tables
with_last_table (table_then d ds) c = table_then d (with_last_table ds c)

all_tables-append : (cs : List Compared) (c : Compared) → all_tables (cs ++ c ∷ []) ≡ with_last_table (all_tables cs) (compared_table_of c)
all_tables-append [] c = refl
all_tables-append (d ∷ ds) c = ap (λ ts. table_then (compared_table_of d) ts) (all_tables-append ds c)

all_compared-with_last : (p : Precedence) (t : PlainTerm) (us : Terms) (u : PlainTerm)
    → all_compared p t (with_last us u) ≡ with_last_table (all_compared p t us) (compared p t u)
all_compared-with_last p t no_terms u = refl
all_compared-with_last p t (term_then v vs) u = ap (λ ts. table_then (compared p t v) ts) (all_compared-with_last p t vs u)

-- a list that the table over one more term was added to
pub tables_more : (p : Precedence) (t : PlainTerm) (xs : List Term) (made new : List Compared) (i : ℕ) (x : Term) (y : Compared)
    → i < length xs → x ≡ get_or xs i x → new ≡ made ++ y ∷ []
    → all_tables made ≡ all_compared p t (bare_terms_of (take i xs)) → compared_table_of y ≡ compared p t (term_of x)
    → all_tables new ≡ all_compared p t (bare_terms_of (take (i + 1) xs))
tables_more p t xs made new i x y h e is so_far one =
    ap all_tables is ∙ all_tables-append made y
    ∙ (λ j. with_last_table (so_far j) (one j))
    ∙ sym (ap (λ (us : List Term). all_compared p t (bare_terms_of us))
    (take_more xs i x h ∙ ap (λ (z : Term). take i xs ++ z ∷ []) (sym e))
    ∙ ap (all_compared p t) (terms_of-append (take i xs) x) ∙ all_compared-with_last p t (bare_terms_of (take i xs)) (term_of x))

pub argument_is : (xs : List Term) (i : ℕ) (x : Term) → i < length xs → x ≡ get_or xs i x
    → argument_at i (bare_terms_of xs) ≡ Some (term_of x)
argument_is [] i x h e = absurd (omega arith)
argument_is (y ∷ ys) zero x h e = ap (λ (z : Term). Some (term_of z)) (sym e)
argument_is (y ∷ ys) (suc i) x h e = argument_is ys i x (omega arith) e

equal_lengths : (xs ys : List Term) → length xs ≡ length ys → same_length (bare_terms_of xs) (bare_terms_of ys) ≡ true
equal_lengths [] [] e = refl
equal_lengths [] (y ∷ ys) e = absurd (omega (arith, e))
equal_lengths (x ∷ xs) [] e = absurd (omega (arith, e))
equal_lengths (x ∷ xs) (y ∷ ys) e = equal_lengths xs ys (omega (arith, e))

unequal_lengths : (xs ys : List Term) → (length xs ≡ length ys → ⊥) → same_length (bare_terms_of xs) (bare_terms_of ys) ≡ false
unequal_lengths [] [] differ = absurd (differ refl)
unequal_lengths [] (y ∷ ys) differ = refl
unequal_lengths (x ∷ xs) [] differ = refl
unequal_lengths (x ∷ xs) (y ∷ ys) differ = unequal_lengths xs ys (λ same. differ (ap (λ (k : ℕ). suc k) same))

lengths_alike : (xs ys : List Term) → nat_eq (length xs) (length ys) ≡ same_length (bare_terms_of xs) (bare_terms_of ys)
lengths_alike xs ys = go (nat_eq (length xs) (length ys)) refl
  where
    go : (b : Bool) → nat_eq (length xs) (length ys) ≡ b → nat_eq (length xs) (length ys)
        ≡ same_length (bare_terms_of xs) (bare_terms_of ys)
    go true e = e ∙ sym (equal_lengths xs ys ((Decides-eqb (length xs) (length ys)).0 e))
    go false e =
        e ∙ sym (unequal_lengths xs ys (λ same. let clash : true ≡ false = sym ((Decides-eqb (length xs) (length ys)).1 same) ∙ e in cc))

pub alike : (f g : ℕ) (xs ys : List Term) → f ≡ g → nat_eq (length xs) (length ys)
    ≡ (nat_eq f g && same_length (bare_terms_of xs) (bare_terms_of ys))
alike f g xs ys same =
    lengths_alike xs ys ∙ sym (ap (λ (b : Bool). b && same_length (bare_terms_of xs) (bare_terms_of ys)) ((Decides-eqb f g).1 same))

-- ---- What terms of the code stand for

pub term_of-Var : (n s : ℕ) → term_of (Var n s) ≡ variable n s
term_of-Var n s = ap bare (profiled_Var n s)

pub term_of-Node : (f : ℕ) (profile : Rc Op Global) (ts : ProfiledTerms) → term_of (TermNode f profile ts) ≡ node f (all_bare ts)
term_of-Node f profile ts = ap bare (profiled_Node f profile ts)

-- an operation whose arguments are these
pub term_of_items : (t : Term) (f : ℕ) (profile : Rc Op Global) (arguments : ProfiledTerms) (items : List Term)
    → t ≡ TermNode f profile arguments → all_profiled items ≡ arguments → term_of t ≡ node f (bare_terms_of items)
term_of_items t f profile arguments items is same = ap bare (node_with_items t f profile arguments items is same)

-- ---- Whole tables

pub over_leaf : (p : Precedence) (f : ℕ) (ts : Terms) (rows : List ComparisonTable) (other : PlainTerm) (n s : ℕ) (r : Bool)
    → other ≡ variable n s → rows ≡ each_compared p ts other → r ≡ some_reaches_in rows
    → compared_table_of (Leaf false r) ≡ compared p (node f ts) other
over_leaf p f ts rows other n s r is rows_are r_is =
    table_of-Leaf false r
    ∙ ap (λ (b : Bool). table_leaf false b)
    (r_is ∙ ap some_reaches_in rows_are ∙ ap (λ (o : PlainTerm). some_reaches_in (each_compared p ts o)) is ∙ some_over_variable p ts n s)
    ∙ sym (ap (compared p (node f ts)) is)

pub variable_node : (p : Precedence) (n s g : ℕ) (us : Terms) (cs : Vec Compared Global) (other : PlainTerm) → other ≡ node g us
    → all_tables cs.items ≡ all_compared p (variable n s) us → compared_table_of (Node false false cs) ≡ compared p (variable n s) other
variable_node p n s g us cs other is below =
    table_of-Node false false cs ∙ ap (λ (ts : ComparisonTables). table_node false false ts) below ∙ sym (ap (compared p (variable n s)) is)

pub over_node : (p : Precedence) (f g : ℕ) (ts us : Terms) (cs : Vec Compared Global) (rows : List ComparisonTable) (other : PlainTerm)
    (e gr same above : Bool) (status : Status) → other ≡ node g us → all_tables cs.items ≡ all_compared p (node f ts) us
    → rows ≡ each_compared p ts other → e ≡ (same && equals_in 0 rows)
    → gr ≡ (some_reaches_in rows || (exceeds_all_in (all_tables cs.items) && (above || (same && exceeds_from status rows))))
    → same ≡ (nat_eq f g && same_length ts us) → above ≡ nat_lt (p.rank g) (p.rank f) → status ≡ p.status f
    → compared_table_of (Node e gr cs) ≡ compared p (node f ts) other
over_node p f g ts us cs rows other e gr same above status is below rows_eq e_is gr_is same_is above_is status_is =
    let rows_are : rows ≡ each_compared p ts (node g us) = rows_eq ∙ ap (each_compared p ts) is in
    let equal : e ≡ term_eq (node f ts) (node g us) =
    e_is ∙ (λ i. same_is i && equals_in 0 (rows_are i)) ∙ equal_whole p f g ts us in
    let greater : gr ≡ is_greater p (node f ts) (node g us) =
    gr_is
    ∙ (λ i. some_reaches_in (rows_are i)
    || (exceeds_all_in (below i) && (above_is i || (same_is i && exceeds_from (status_is i) (rows_are i)))))
    ∙ greater_whole p f g ts us in
    table_of-Node e gr cs ∙ (λ i. table_node (equal i) (greater i) (below i)) ∙ sym (ap (compared p (node f ts)) is)

-- all members
pub take_whole : (xs : List Term) (n : ℕ) → n ≡ length xs → take n xs ≡ xs
take_whole xs n e = ap (λ (k : ℕ). take k xs) e ∙ take-length xs
