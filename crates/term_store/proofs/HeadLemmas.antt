-- Terms none of whose operations stands at the head of a left side.
use Rattle.std.proofs.Common.{arith, refl, ap, sym, ◌∙◌, ◌≡◌, ◌<◌, ℕ, zero, suc, ◌+◌, ◌%◌, ◌^◌, Bool, true, List, [], ◌∷◌, length, get_or, take, min, nat_eq, bit_and, bit_or, subst}
use Rattle.std.specs.Prelude.{Option, Some, None}
use Rattle.std.specs.Int.{bit_at}
use Rattle.std.specs.List.{list_all}
use Rattle.std.specs.Option.{option_and_then}
use Rattle.std.proofs.lemmas.Bool.Decides.{Decides-eqb}
use Rattle.std.proofs.lemmas.List.Folds.{list_all_more}
use Rattle.std.proofs.lemmas.Nat.Bits.{bit_at_and, bit_at-zero, bit_at-pow_same}
use Rattle.std.proofs.lemmas.Bool.{and_from, and_parts}
use Rattle.lotos_base.proofs.Tests.{list_all-at}
use Rattle.lotos_base.specs.Path.{argument_at, subterm}
use Rattle.lotos_base.specs.Substitution.{Substitution, substituted}
use Rattle.lotos_base.specs.Term.{Term, Terms, variable, node, no_terms, term_then}
use Rattle.rewriting_theory.specs.Rewriting.{IsNormal}
use Rattle.rewriting_theory.specs.Rule.{IsNode, Rule as PlainRule}
use Rattle.sort_terms.specs.Known.{HasBit, HasBits, HaveBits}
use Rattle.sort_terms.specs.SortedView.{term_in}
use Rattle.sort_terms.proofs.FactLemmas.{bit_left, bit_right}
use Rattle.path_order.specs.RulesView.{plain_rules_in}
use Rattle.path_order.specs.RuleView.{plain_rules}
use Rattle.path_order.specs.declared.rule.Rule.{Rule}
use Rattle.path_order.specs.declared.rules.Rules.{Rules}
use Rattle.path_order.proofs.RulesLemmas.{rules_well_formed}
use Rattle.term_store.specs.Heads.{has_head_bit, have_head_bits}

-- ---- Parts of a term

argument_bits : (bits k : ℕ) (ts : Terms) (part : Term) → HaveBits bits ts → argument_at k ts ≡ Some part → HasBits bits part
argument_bits bits k no_terms part all is = absurd (cc)
argument_bits bits zero (term_then t ts) part all is = let same : t ≡ part = cc in subst (HasBits bits) same all.0
argument_bits bits (suc k) (term_then t ts) part all is = argument_bits bits k ts part all.1 is

-- what is found in an argument
bits_below : (bits k : ℕ) (ts : Terms) (find : Term → Option Term) (part : Term)
    → ((t : Term) → HasBits bits t → find t ≡ Some part → HasBits bits part) → HaveBits bits ts
    → (o : Option Term) → argument_at k ts ≡ o → option_and_then find o ≡ Some part → HasBits bits part
bits_below bits k ts find part each all None at is = absurd (cc)
bits_below bits k ts find part each all (Some t) at is = each t (argument_bits bits k ts t all at) is

part_bits : (bits : ℕ) (path : List ℕ) (t part : Term) → HasBits bits t → subterm path t ≡ Some part → HasBits bits part
part_bits bits [] t part all is = let same : t ≡ part = cc in subst (HasBits bits) same all
part_bits bits (k ∷ path) (variable n s) part all is = absurd (cc)
part_bits bits (k ∷ path) (node f ts) part all is =
    bits_below bits k ts (λ t. subterm path t) part (λ t one there. part_bits bits path t part one there) all.1
    (argument_at k ts) refl is

-- ---- No rule can be used

head_clash : (bits heads f : ℕ) → HasBit bits f → nat_eq (bit_at heads (f % 64)) 1 ≡ true → bit_and bits heads ≡ 0 → ⊥
head_clash bits heads f one two none =
    let other : bit_at heads (f % 64) ≡ 1 = (Decides-eqb (bit_at heads (f % 64)) 1).0 two in
    let both = bit_at_and bits heads (f % 64) in
    let nothing : bit_at (bit_and bits heads) (f % 64) ≡ 0 = ap (λ b. bit_at b (f % 64)) none ∙ bit_at-zero (f % 64) in
    let least : min (bit_at bits (f % 64)) (bit_at heads (f % 64)) ≡ 1 = (λ i. min (one i) (other i)) in
    let clash : 0 ≡ 1 = sym nothing ∙ both ∙ least in
    absurd (omega (arith, clash))

instance_clash : (bits heads : ℕ) (values : Substitution) (left : Term) → IsNode left → has_head_bit heads left ≡ true
    → HasBits bits (substituted values left) → bit_and bits heads ≡ 0 → ⊥
instance_clash bits heads values (variable n s) is_node head all none = is_node
instance_clash bits heads values (node f ts) is_node head all none = head_clash bits heads f all.0 head none

pub normal_by_heads : (rules : Rules) (bits heads : ℕ) (t : Term) → have_head_bits heads (plain_rules_in rules) ≡ true
    → HasBits bits t → bit_and bits heads ≡ 0 → IsNormal (plain_rules_in rules) t
normal_by_heads rules bits heads t headed all none u link =
    instance_clash bits heads link.values link.rule.left (rules_well_formed rules link.rule link.is_rule).left_node
    (list_all-at (λ (rule : PlainRule). has_head_bit heads rule.left) (plain_rules_in rules) link.is_rule.0 link.rule headed link.is_rule.1)
    (part_bits bits link.path t (substituted link.values link.rule.left) all link.old) none

-- ---- The bits of all rules

-- of rules of the code
abbrev pub rule_has_bit : ℕ → Rule → Bool
rule_has_bit bits rule = has_head_bit bits (term_in rule.left)

more_bits : (bits more : ℕ) (t : Term) → has_head_bit bits t ≡ true → has_head_bit (bit_or bits more) t ≡ true
more_bits bits more (variable n s) is = refl
more_bits bits more (node f ts) is =
    (Decides-eqb (bit_at (bit_or bits more) (f % 64)) 1).1 (bit_left bits more f ((Decides-eqb (bit_at bits (f % 64)) 1).0 is))

own_bits : (bits more : ℕ) (t : Term) → has_head_bit more t ≡ true → has_head_bit (bit_or bits more) t ≡ true
own_bits bits more (variable n s) is = refl
own_bits bits more (node f ts) is =
    (Decides-eqb (bit_at (bit_or bits more) (f % 64)) 1).1 (bit_right bits more f ((Decides-eqb (bit_at more (f % 64)) 1).0 is))

more_of_all : (bits more : ℕ) (rules : List Rule) → list_all (rule_has_bit bits) rules ≡ true
    → list_all (rule_has_bit (bit_or bits more)) rules ≡ true
more_of_all bits more [] all = refl
more_of_all bits more (rule ∷ rules) all =
    let parts = and_parts (rule_has_bit bits rule) (list_all (rule_has_bit bits) rules) all in
    and_from (rule_has_bit (bit_or bits more) rule) (list_all (rule_has_bit (bit_or bits more)) rules)
    (more_bits bits more (term_in rule.left) parts.0) (more_of_all bits more rules parts.1)

-- one rule more
pub one_more_rule : (bits more i : ℕ) (rules : List Rule) (rule : Rule) → i < length rules → rule ≡ get_or rules i rule
    → list_all (rule_has_bit bits) (take i rules) ≡ true → has_head_bit more (term_in rule.left) ≡ true
    → list_all (rule_has_bit (bit_or bits more)) (take (i + 1) rules) ≡ true
one_more_rule bits more i rules rule within is before one =
    list_all_more (rule_has_bit (bit_or bits more)) rules i rule within
    ∙ and_from (list_all (rule_has_bit (bit_or bits more)) (take i rules)) (rule_has_bit (bit_or bits more) (get_or rules i rule))
    (more_of_all bits more (take i rules) before)
    (ap (rule_has_bit (bit_or bits more)) (sym is) ∙ own_bits bits more (term_in rule.left) one)

-- the rules without their numbers
pub plain_bits : (bits : ℕ) (rules : List Rule) → list_all (rule_has_bit bits) rules ≡ true → have_head_bits bits (plain_rules rules) ≡ true
plain_bits bits [] all = refl
plain_bits bits (rule ∷ rules) all =
    let parts = and_parts (rule_has_bit bits rule) (list_all (rule_has_bit bits) rules) all in
    and_from (rule_has_bit bits rule) (have_head_bits bits (plain_rules rules)) parts.0 (plain_bits bits rules parts.1)

-- the bit of a head
pub head_has_bit : (f : ℕ) → nat_eq (bit_at (2 ^ (f % 64)) (f % 64)) 1 ≡ true
head_has_bit f = (Decides-eqb (bit_at (2 ^ (f % 64)) (f % 64)) 1).1 (bit_at-pow_same (f % 64))
