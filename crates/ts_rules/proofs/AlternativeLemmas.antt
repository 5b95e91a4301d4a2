-- The equations of a SEQ and of a CHOICE.
use Rattle.std.proofs.Common.{◌≡◌, ◌∙◌, sym, ap, refl, ℕ, ◌+◌, ◌<◌, Bool, List, [], ◌∷◌, map, ◌++◌, length, get_or, drop, append_assoc}
use Rattle.std.proofs.lemmas.List.{drop_more}
use Rattle.ts_rules.specs.Alternatives.{Alternatives, layer, alternatives_of, sequence, choice, members, branches, alternatives_each, choice_of, is_last, in_sequence, joins, followed, group, in_group}
use Rattle.ts_core.specs.declared.flat.Assoc.{Assoc}
use Rattle.ts_core.specs.declared.flat.Prec.{Prec}
use Rattle.ts_rules.specs.declared.tree.Around.{Around}
use Rattle.ts_rules.specs.declared.tree.Alternative.{Alternative}
use Rattle.ts_rules.specs.declared.tree.Tree.{Tree}
use Rattle.ts_rules.specs.declared.tree.Tree.TheOpen.{Tree-F}
use Rattle.ts_rules.specs.declared.tree.Tree.TheVariants.{Seq, Choice, Group, rolls-Seq, rolls-Choice, rolls-Group}
use Rattle.ts_rules.specs.declared.tree.Tree.TheFolds.{fold-roll-Tree}

last_map : (ts : List Tree) → is_last (map alternatives_of ts) ≡ is_last ts
last_map [] = refl
last_map (t ∷ ts) = refl

members_map : (ts : List Tree) (a : Around) → members (map alternatives_of ts) a ≡ alternatives_each ts a
members_map [] a = refl
members_map (t ∷ ts) a =
    ap (λ (b : Bool). alternatives_of t (in_sequence b a) ∷ members (map alternatives_of ts) a) (last_map ts)
    ∙ ap (λ (xs : List Alternatives). alternatives_of t (in_sequence (is_last ts) a) ∷ xs) (members_map ts a)

choice_map : (ts : List Tree) (a : Around) → choice (branches (map alternatives_of ts) a) ≡ choice_of ts a
choice_map [] a = refl
choice_map (t ∷ ts) a = ap (λ (xs : Alternatives). alternatives_of t a ++ xs) (choice_map ts a)

pub alternatives_seq : (ts : List Tree) (a : Around) → alternatives_of (Seq ts) a ≡ sequence (alternatives_each ts a)
alternatives_seq ts a =
    ap (λ (f : Around → Alternatives). f a) (ap {B = Around → Alternatives} alternatives_of (sym (rolls-Seq ts)) ∙ fold-roll-Tree (Around → Alternatives) layer (Tree-F.Seq ts))
    ∙ ap sequence (members_map ts a)

pub alternatives_choice : (ts : List Tree) (a : Around) → alternatives_of (Choice ts) a ≡ choice_of ts a
alternatives_choice ts a =
    ap (λ (f : Around → Alternatives). f a) (ap {B = Around → Alternatives} alternatives_of (sym (rolls-Choice ts)) ∙ fold-roll-Tree (Around → Alternatives) layer (Tree-F.Choice ts))
    ∙ choice_map ts a

pub alternatives_group : (prec : Prec) (assoc : Assoc) (inner : Tree) (a : Around) → alternatives_of (Group prec assoc inner) a ≡ group a (alternatives_of inner (in_group prec assoc a))
alternatives_group prec assoc inner a =
    ap (λ (f : Around → Alternatives). f a) (ap {B = Around → Alternatives} alternatives_of (sym (rolls-Group prec assoc inner)) ∙ fold-roll-Tree (Around → Alternatives) layer (Tree-F.Group prec assoc inner))

-- one more of the first
pub joins_step : (all ys : Alternatives) (i : ℕ) (x : Alternative) (found : Alternatives) → i < length all → x ≡ get_or all i x
    → joins all ys ≡ found ++ joins (drop i all) ys → joins all ys ≡ found ++ map (λ y. followed x y) ys ++ joins (drop (i + 1) all) ys
joins_step all ys i x found lt at so_far =
    so_far
    ∙ ap (λ (xs : Alternatives). found ++ joins xs ys) (drop_more all i x lt ∙ ap (λ (y : Alternative). y ∷ drop (i + 1) all) (sym at))
    ∙ sym (append_assoc found (map (λ y. followed x y) ys) (joins (drop (i + 1) all) ys))
