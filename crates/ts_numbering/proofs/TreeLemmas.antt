-- The equations of a rule tree by numbers, and of the alternatives of such a tree.
use Rattle.std.proofs.Common.{◌≡◌, ◌∙◌, sym, ap, refl, ℕ, ℤ, Bool, List, [], ◌∷◌, ◌++◌, map}
use Rattle.ts_base.specs.Bytes.{Bytes}
use Rattle.ts_core.specs.declared.flat.Assoc.{Assoc}
use Rattle.ts_core.specs.declared.flat.Prec.{Prec}
use Rattle.ts_core.specs.declared.rule.PrecValue.{PrecValue}
use Rattle.ts_core.specs.declared.rule.Rule.{Rule}
use Rattle.ts_core.specs.declared.rule.Rule.TheOpen.{Rule-F}
use Rattle.ts_core.specs.declared.rule.Rule.TheVariants as rule
use Rattle.ts_core.specs.declared.rule.Rule.TheVariants.{rolls-Blank, rolls-Literal, rolls-Pattern, rolls-Symbol, rolls-Seq, rolls-Choice, rolls-Repeat, rolls-Repeat1, rolls-Token, rolls-ImmediateToken, rolls-Field, rolls-Alias, rolls-Prec, rolls-PrecLeft, rolls-PrecRight, rolls-PrecDynamic}
use Rattle.ts_core.specs.declared.rule.Rule.TheFolds.{para-roll-Rule}
use Rattle.ts_rules.specs.Alternatives.{Alternatives, layer, alternatives_of, sequence, choice, members, branches, alternatives_each, choice_of, is_last, in_sequence, in_field, in_alias, in_dynamic, group, in_group, blank, single}
use Rattle.ts_rules.specs.Numbers.{Numbers, inner_trees, tree_step, tree_of, any_times, many_times, prec_of}
use Rattle.ts_rules.specs.Sights.{alias}
use Rattle.ts_rules.specs.declared.tree.Around.{Around}
use Rattle.ts_rules.specs.declared.tree.Tree.{Tree}
use Rattle.ts_rules.specs.declared.tree.Tree.TheOpen.{Tree-F}
use Rattle.ts_rules.specs.declared.tree.Tree.TheVariants as tree
use Rattle.ts_rules.specs.declared.tree.Tree.TheVariants.{rolls-Blank as tree_rolls-Blank, rolls-Step, rolls-Seq as tree_rolls-Seq, rolls-Choice as tree_rolls-Choice, rolls-Field as tree_rolls-Field, rolls-Alias as tree_rolls-Alias, rolls-Group, rolls-Dynamic}
use Rattle.ts_rules.specs.declared.tree.Tree.TheFolds.{fold-roll-Tree}

-- ---- rule trees

pub tree_blank : (n : Numbers) → tree_of n rule.Blank ≡ tree.Blank
tree_blank n = ap (tree_of n) (sym rolls-Blank) ∙ para-roll-Rule Tree (tree_step n) Rule-F.Blank

pub tree_literal : (n : Numbers) (text : Bytes) → tree_of n (rule.Literal text) ≡ tree.Step (n.token (rule.Literal text))
tree_literal n text = ap (tree_of n) (sym (rolls-Literal text)) ∙ para-roll-Rule Tree (tree_step n) (Rule-F.Literal text)

pub tree_pattern : (n : Numbers) (value : Bytes) (ignore_case : Bool) → tree_of n (rule.Pattern value ignore_case) ≡ tree.Step (n.token (rule.Pattern value ignore_case))
tree_pattern n value ignore_case = ap (tree_of n) (sym (rolls-Pattern value ignore_case)) ∙ para-roll-Rule Tree (tree_step n) (Rule-F.Pattern value ignore_case)

pub tree_symbol : (n : Numbers) (name : Bytes) → tree_of n (rule.Symbol name) ≡ tree.Step (n.rule name)
tree_symbol n name = ap (tree_of n) (sym (rolls-Symbol name)) ∙ para-roll-Rule Tree (tree_step n) (Rule-F.Symbol name)

pub tree_token : (n : Numbers) (content : Rule) → tree_of n (rule.Token content) ≡ tree.Step (n.token (rule.Token content))
tree_token n content = ap (tree_of n) (sym (rolls-Token content)) ∙ para-roll-Rule Tree (tree_step n) (Rule-F.Token content)

pub tree_immediate_token : (n : Numbers) (content : Rule) → tree_of n (rule.ImmediateToken content) ≡ tree.Step (n.token (rule.ImmediateToken content))
tree_immediate_token n content = ap (tree_of n) (sym (rolls-ImmediateToken content)) ∙ para-roll-Rule Tree (tree_step n) (Rule-F.ImmediateToken content)

pub tree_repeat : (n : Numbers) (content : Rule) → tree_of n (rule.Repeat content) ≡ any_times (n.repetition content) (tree_of n content)
tree_repeat n content = ap (tree_of n) (sym (rolls-Repeat content)) ∙ para-roll-Rule Tree (tree_step n) (Rule-F.Repeat content)

pub tree_repeat1 : (n : Numbers) (content : Rule) → tree_of n (rule.Repeat1 content) ≡ many_times (n.repetition content) (tree_of n content)
tree_repeat1 n content = ap (tree_of n) (sym (rolls-Repeat1 content)) ∙ para-roll-Rule Tree (tree_step n) (Rule-F.Repeat1 content)

pub tree_field : (n : Numbers) (name : Bytes) (content : Rule) → tree_of n (rule.Field name content) ≡ tree.Field (n.field name) (tree_of n content)
tree_field n name content = ap (tree_of n) (sym (rolls-Field name content)) ∙ para-roll-Rule Tree (tree_step n) (Rule-F.Field name content)

pub tree_alias : (n : Numbers) (content : Rule) (named : Bool) (value : Bytes) → tree_of n (rule.Alias content named value) ≡ tree.Alias (n.alias (alias value named)) (tree_of n content)
tree_alias n content named value = ap (tree_of n) (sym (rolls-Alias content named value)) ∙ para-roll-Rule Tree (tree_step n) (Rule-F.Alias content named value)

pub tree_prec : (n : Numbers) (value : PrecValue) (content : Rule) → tree_of n (rule.Prec value content) ≡ tree.Group (prec_of n value) Assoc.Absent (tree_of n content)
tree_prec n value content = ap (tree_of n) (sym (rolls-Prec value content)) ∙ para-roll-Rule Tree (tree_step n) (Rule-F.Prec value content)

pub tree_prec_left : (n : Numbers) (value : PrecValue) (content : Rule) → tree_of n (rule.PrecLeft value content) ≡ tree.Group (prec_of n value) Assoc.Left (tree_of n content)
tree_prec_left n value content = ap (tree_of n) (sym (rolls-PrecLeft value content)) ∙ para-roll-Rule Tree (tree_step n) (Rule-F.PrecLeft value content)

pub tree_prec_right : (n : Numbers) (value : PrecValue) (content : Rule) → tree_of n (rule.PrecRight value content) ≡ tree.Group (prec_of n value) Assoc.Right (tree_of n content)
tree_prec_right n value content = ap (tree_of n) (sym (rolls-PrecRight value content)) ∙ para-roll-Rule Tree (tree_step n) (Rule-F.PrecRight value content)

pub tree_prec_dynamic : (n : Numbers) (value : ℤ) (content : Rule) → tree_of n (rule.PrecDynamic value content) ≡ tree.Dynamic value (tree_of n content)
tree_prec_dynamic n value content = ap (tree_of n) (sym (rolls-PrecDynamic value content)) ∙ para-roll-Rule Tree (tree_step n) (Rule-F.PrecDynamic value content)

inner_map : (n : Numbers) (rules : List Rule) → inner_trees (map (λ (r : Rule). (r, tree_of n r)) rules) ≡ map (tree_of n) rules
inner_map n [] = refl
inner_map n (r ∷ rules) = ap (λ (ts : List Tree). tree_of n r ∷ ts) (inner_map n rules)

pub tree_seq : (n : Numbers) (members : List Rule) → tree_of n (rule.Seq members) ≡ tree.Seq (map (tree_of n) members)
tree_seq n members = ap (tree_of n) (sym (rolls-Seq members)) ∙ para-roll-Rule Tree (tree_step n) (Rule-F.Seq members) ∙ ap tree.Seq (inner_map n members)

pub tree_choice : (n : Numbers) (members : List Rule) → tree_of n (rule.Choice members) ≡ tree.Choice (map (tree_of n) members)
tree_choice n members = ap (tree_of n) (sym (rolls-Choice members)) ∙ para-roll-Rule Tree (tree_step n) (Rule-F.Choice members) ∙ ap tree.Choice (inner_map n members)

-- ---- alternatives

pub at_blank : (a : Around) → alternatives_of tree.Blank a ≡ blank ∷ []
at_blank a = ap (λ (f : Around → Alternatives). f a) (ap {B = Around → Alternatives} alternatives_of (sym tree_rolls-Blank) ∙ fold-roll-Tree (Around → Alternatives) layer Tree-F.Blank)

pub at_step : (symbol : ℕ) (a : Around) → alternatives_of (tree.Step symbol) a ≡ single symbol a ∷ []
at_step symbol a = ap (λ (f : Around → Alternatives). f a) (ap {B = Around → Alternatives} alternatives_of (sym (rolls-Step symbol)) ∙ fold-roll-Tree (Around → Alternatives) layer (Tree-F.Step symbol))

pub at_field : (field : ℕ) (inner : Tree) (a : Around) → alternatives_of (tree.Field field inner) a ≡ alternatives_of inner (in_field field a)
at_field field inner a = ap (λ (f : Around → Alternatives). f a) (ap {B = Around → Alternatives} alternatives_of (sym (tree_rolls-Field field inner)) ∙ fold-roll-Tree (Around → Alternatives) layer (Tree-F.Field field inner))

pub at_alias : (number : ℕ) (inner : Tree) (a : Around) → alternatives_of (tree.Alias number inner) a ≡ alternatives_of inner (in_alias number a)
at_alias number inner a = ap (λ (f : Around → Alternatives). f a) (ap {B = Around → Alternatives} alternatives_of (sym (tree_rolls-Alias number inner)) ∙ fold-roll-Tree (Around → Alternatives) layer (Tree-F.Alias number inner))

pub at_group : (prec : Prec) (assoc : Assoc) (inner : Tree) (a : Around) → alternatives_of (tree.Group prec assoc inner) a ≡ group a (alternatives_of inner (in_group prec assoc a))
at_group prec assoc inner a = ap (λ (f : Around → Alternatives). f a) (ap {B = Around → Alternatives} alternatives_of (sym (rolls-Group prec assoc inner)) ∙ fold-roll-Tree (Around → Alternatives) layer (Tree-F.Group prec assoc inner))

pub at_dynamic : (value : ℤ) (inner : Tree) (a : Around) → alternatives_of (tree.Dynamic value inner) a ≡ alternatives_of inner (in_dynamic value a)
at_dynamic value inner a = ap (λ (f : Around → Alternatives). f a) (ap {B = Around → Alternatives} alternatives_of (sym (rolls-Dynamic value inner)) ∙ fold-roll-Tree (Around → Alternatives) layer (Tree-F.Dynamic value inner))

last_map : (ts : List Tree) → is_last (map alternatives_of ts) ≡ is_last ts
last_map [] = refl
last_map (t ∷ ts) = refl

members_map : (ts : List Tree) (a : Around) → members (map alternatives_of ts) a ≡ alternatives_each ts a
members_map [] a = refl
members_map (t ∷ ts) a =
    ap (λ (b : Bool). alternatives_of t (in_sequence b a) ∷ members (map alternatives_of ts) a) (last_map ts)
    ∙ ap (λ (xs : List Alternatives). alternatives_of t (in_sequence (is_last ts) a) ∷ xs) (members_map ts a)

choice_map : (ts : List Tree) (a : Around) → choice (branches (map alternatives_of ts) a) ≡ choice_of ts a
choice_map [] a = refl
choice_map (t ∷ ts) a = ap (λ (xs : Alternatives). alternatives_of t a ++ xs) (choice_map ts a)

pub at_seq : (ts : List Tree) (a : Around) → alternatives_of (tree.Seq ts) a ≡ sequence (alternatives_each ts a)
at_seq ts a = ap (λ (f : Around → Alternatives). f a) (ap {B = Around → Alternatives} alternatives_of (sym (tree_rolls-Seq ts)) ∙ fold-roll-Tree (Around → Alternatives) layer (Tree-F.Seq ts)) ∙ ap sequence (members_map ts a)

pub at_choice : (ts : List Tree) (a : Around) → alternatives_of (tree.Choice ts) a ≡ choice_of ts a
at_choice ts a = ap (λ (f : Around → Alternatives). f a) (ap {B = Around → Alternatives} alternatives_of (sym (tree_rolls-Choice ts)) ∙ fold-roll-Tree (Around → Alternatives) layer (Tree-F.Choice ts)) ∙ choice_map ts a
