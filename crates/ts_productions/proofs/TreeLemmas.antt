-- The alternatives of a rule tree by its inner trees.
use Rattle.std.proofs.Common.{◌≡◌, ◌∙◌, sym, ap, refl, ℕ, ◌+◌, ◌<◌, Bool, List, [], ◌∷◌, map, ◌++◌, length, get_or, drop}
use Rattle.std.proofs.lemmas.List.{drop_more}
use lib.IntN.{ℤ}
use Rattle.ts_rules.specs.Alternatives.{Alternatives, layer, alternatives_of, sequence, choice, members, branches, alternatives_each, choice_of, is_last, in_sequence, in_field, in_alias, in_dynamic, group, in_group, single, blank}
use Rattle.ts_core.specs.declared.flat.Assoc.{Assoc}
use Rattle.ts_core.specs.declared.flat.Prec.{Prec}
use Rattle.ts_rules.specs.declared.tree.Around.{Around}
use Rattle.ts_rules.specs.declared.tree.Tree.{Tree}
use Rattle.ts_rules.specs.declared.tree.Tree.TheOpen.{Tree-F}
use Rattle.ts_rules.specs.declared.tree.Tree.TheVariants.{Blank, Step, Seq, Choice, Field, Alias, Group, Dynamic, rolls-Blank, rolls-Step, rolls-Seq, rolls-Choice, rolls-Field, rolls-Alias, rolls-Group, rolls-Dynamic}
use Rattle.ts_rules.specs.declared.tree.Tree.TheFolds.{fold-roll-Tree}

last_map : (ts : List Tree) → is_last (map alternatives_of ts) ≡ is_last ts
last_map [] = refl
last_map (t ∷ ts) = refl

members_map : (ts : List Tree) (a : Around) → members (map alternatives_of ts) a ≡ alternatives_each ts a
members_map [] a = refl
members_map (t ∷ ts) a =
    ap (λ (b : Bool). alternatives_of t (in_sequence b a) ∷ members (map alternatives_of ts) a) (last_map ts)
    ∙ ap (λ (xs : List Alternatives). alternatives_of t (in_sequence (is_last ts) a) ∷ xs) (members_map ts a)

choice_map : (ts : List Tree) (a : Around) → choice (branches (map alternatives_of ts) a) ≡ choice_of ts a
choice_map [] a = refl
choice_map (t ∷ ts) a = ap (λ (xs : Alternatives). alternatives_of t a ++ xs) (choice_map ts a)

pub alternatives_step : (symbol : ℕ) (a : Around) → alternatives_of (Step symbol) a ≡ single symbol a ∷ []
alternatives_step symbol a =
    ap (λ (f : Around → Alternatives). f a) (ap {B = Around → Alternatives} alternatives_of (sym (rolls-Step symbol)) ∙ fold-roll-Tree (Around → Alternatives) layer (Tree-F.Step symbol))

pub alternatives_seq : (ts : List Tree) (a : Around) → alternatives_of (Seq ts) a ≡ sequence (alternatives_each ts a)
alternatives_seq ts a =
    ap (λ (f : Around → Alternatives). f a) (ap {B = Around → Alternatives} alternatives_of (sym (rolls-Seq ts)) ∙ fold-roll-Tree (Around → Alternatives) layer (Tree-F.Seq ts))
    ∙ ap sequence (members_map ts a)

pub alternatives_choice : (ts : List Tree) (a : Around) → alternatives_of (Choice ts) a ≡ choice_of ts a
alternatives_choice ts a =
    ap (λ (f : Around → Alternatives). f a) (ap {B = Around → Alternatives} alternatives_of (sym (rolls-Choice ts)) ∙ fold-roll-Tree (Around → Alternatives) layer (Tree-F.Choice ts))
    ∙ choice_map ts a

pub alternatives_group : (prec : Prec) (assoc : Assoc) (inner : Tree) (a : Around) → alternatives_of (Group prec assoc inner) a ≡ group a (alternatives_of inner (in_group prec assoc a))
alternatives_group prec assoc inner a =
    ap (λ (f : Around → Alternatives). f a) (ap {B = Around → Alternatives} alternatives_of (sym (rolls-Group prec assoc inner)) ∙ fold-roll-Tree (Around → Alternatives) layer (Tree-F.Group prec assoc inner))

pub alternatives_blank : (a : Around) → alternatives_of Blank a ≡ blank ∷ []
alternatives_blank a = ap (λ (f : Around → Alternatives). f a) (ap {B = Around → Alternatives} alternatives_of (sym rolls-Blank) ∙ fold-roll-Tree (Around → Alternatives) layer Tree-F.Blank)

pub alternatives_field : (field : ℕ) (inner : Tree) (a : Around) → alternatives_of (Field field inner) a ≡ alternatives_of inner (in_field field a)
alternatives_field field inner a =
    ap (λ (f : Around → Alternatives). f a) (ap {B = Around → Alternatives} alternatives_of (sym (rolls-Field field inner)) ∙ fold-roll-Tree (Around → Alternatives) layer (Tree-F.Field field inner))

pub alternatives_alias : (number : ℕ) (inner : Tree) (a : Around) → alternatives_of (Alias number inner) a ≡ alternatives_of inner (in_alias number a)
alternatives_alias number inner a =
    ap (λ (f : Around → Alternatives). f a) (ap {B = Around → Alternatives} alternatives_of (sym (rolls-Alias number inner)) ∙ fold-roll-Tree (Around → Alternatives) layer (Tree-F.Alias number inner))

pub alternatives_dynamic : (value : ℤ) (inner : Tree) (a : Around) → alternatives_of (Dynamic value inner) a ≡ alternatives_of inner (in_dynamic value a)
alternatives_dynamic value inner a =
    ap (λ (f : Around → Alternatives). f a) (ap {B = Around → Alternatives} alternatives_of (sym (rolls-Dynamic value inner)) ∙ fold-roll-Tree (Around → Alternatives) layer (Tree-F.Dynamic value inner))

-- the first of what is left
pub next_of : {X : Type 0} (xs : List X) (i : ℕ) (x : X) → i < length xs → x ≡ get_or xs i x → drop i xs ≡ x ∷ drop (i + 1) xs
next_of {X = X} xs i x lt at = drop_more xs i x lt ∙ ap (λ (y : X). y ∷ drop (i + 1) xs) (sym at)
