-- The equations of the alternatives of a tree, by its type.
use Rattle.std.proofs.Common.{◌≡◌, ◌∙◌, sym, ap, refl, ℕ, ℤ, Bool, List, [], ◌∷◌, ◌++◌, map}
use Rattle.ts_core.specs.declared.flat.Assoc.{Assoc}
use Rattle.ts_core.specs.declared.flat.Prec.{Prec}
use Rattle.ts_rules.specs.Alternatives.{Alternatives, layer, alternatives_of, sequence, choice, members, branches, alternatives_each, choice_of, is_last, in_sequence, in_field, in_alias, in_dynamic, group, in_group, blank, single}
use Rattle.ts_rules.specs.declared.tree.Around.{Around}
use Rattle.ts_rules.specs.declared.tree.Tree.{Tree}
use Rattle.ts_rules.specs.declared.tree.Tree.TheOpen.{Tree-F}
use Rattle.ts_rules.specs.declared.tree.Tree.TheVariants as tree
use Rattle.ts_rules.specs.declared.tree.Tree.TheVariants.{rolls-Blank as tree_rolls-Blank, rolls-Step, rolls-Seq as tree_rolls-Seq, rolls-Choice as tree_rolls-Choice, rolls-Field as tree_rolls-Field, rolls-Alias as tree_rolls-Alias, rolls-Group, rolls-Dynamic}
use Rattle.ts_rules.specs.declared.tree.Tree.TheFolds.{fold-roll-Tree}

pub at_blank : (a : Around) → alternatives_of tree.Blank a ≡ blank ∷ []
at_blank a = ap (λ (f : Around → Alternatives). f a) (ap {B = Around → Alternatives} alternatives_of (sym tree_rolls-Blank) ∙ fold-roll-Tree (Around → Alternatives) layer Tree-F.Blank)

pub at_step : (symbol : ℕ) (a : Around) → alternatives_of (tree.Step symbol) a ≡ single symbol a ∷ []
at_step symbol a = ap (λ (f : Around → Alternatives). f a) (ap {B = Around → Alternatives} alternatives_of (sym (rolls-Step symbol)) ∙ fold-roll-Tree (Around → Alternatives) layer (Tree-F.Step symbol))

pub at_field : (field : ℕ) (inner : Tree) (a : Around) → alternatives_of (tree.Field field inner) a ≡ alternatives_of inner (in_field field a)
at_field field inner a = ap (λ (f : Around → Alternatives). f a) (ap {B = Around → Alternatives} alternatives_of (sym (tree_rolls-Field field inner)) ∙ fold-roll-Tree (Around → Alternatives) layer (Tree-F.Field field inner))

pub at_alias : (number : ℕ) (inner : Tree) (a : Around) → alternatives_of (tree.Alias number inner) a ≡ alternatives_of inner (in_alias number a)
at_alias number inner a = ap (λ (f : Around → Alternatives). f a) (ap {B = Around → Alternatives} alternatives_of (sym (tree_rolls-Alias number inner)) ∙ fold-roll-Tree (Around → Alternatives) layer (Tree-F.Alias number inner))

pub at_group : (prec : Prec) (assoc : Assoc) (inner : Tree) (a : Around) → alternatives_of (tree.Group prec assoc inner) a ≡ group a (alternatives_of inner (in_group prec assoc a))
at_group prec assoc inner a = ap (λ (f : Around → Alternatives). f a) (ap {B = Around → Alternatives} alternatives_of (sym (rolls-Group prec assoc inner)) ∙ fold-roll-Tree (Around → Alternatives) layer (Tree-F.Group prec assoc inner))

pub at_dynamic : (value : ℤ) (inner : Tree) (a : Around) → alternatives_of (tree.Dynamic value inner) a ≡ alternatives_of inner (in_dynamic value a)
at_dynamic value inner a = ap (λ (f : Around → Alternatives). f a) (ap {B = Around → Alternatives} alternatives_of (sym (rolls-Dynamic value inner)) ∙ fold-roll-Tree (Around → Alternatives) layer (Tree-F.Dynamic value inner))

last_map : (ts : List Tree) → is_last (map alternatives_of ts) ≡ is_last ts
last_map [] = refl
last_map (t ∷ ts) = refl

members_map : (ts : List Tree) (a : Around) → members (map alternatives_of ts) a ≡ alternatives_each ts a
members_map [] a = refl
members_map (t ∷ ts) a =
    ap (λ (b : Bool). alternatives_of t (in_sequence b a) ∷ members (map alternatives_of ts) a) (last_map ts)
    ∙ ap (λ (xs : List Alternatives). alternatives_of t (in_sequence (is_last ts) a) ∷ xs) (members_map ts a)

choice_map : (ts : List Tree) (a : Around) → choice (branches (map alternatives_of ts) a) ≡ choice_of ts a
choice_map [] a = refl
choice_map (t ∷ ts) a = ap (λ (xs : Alternatives). alternatives_of t a ++ xs) (choice_map ts a)

pub at_seq : (ts : List Tree) (a : Around) → alternatives_of (tree.Seq ts) a ≡ sequence (alternatives_each ts a)
at_seq ts a = ap (λ (f : Around → Alternatives). f a) (ap {B = Around → Alternatives} alternatives_of (sym (tree_rolls-Seq ts)) ∙ fold-roll-Tree (Around → Alternatives) layer (Tree-F.Seq ts)) ∙ ap sequence (members_map ts a)

pub at_choice : (ts : List Tree) (a : Around) → alternatives_of (tree.Choice ts) a ≡ choice_of ts a
at_choice ts a = ap (λ (f : Around → Alternatives). f a) (ap {B = Around → Alternatives} alternatives_of (sym (tree_rolls-Choice ts)) ∙ fold-roll-Tree (Around → Alternatives) layer (Tree-F.Choice ts)) ∙ choice_map ts a
