-- Numbers by places, and what a rule tree becomes.
use Rattle.std.proofs.Common.{◌≡◌, ◌∙◌, sym, ap, subst, refl, ℕ, ◌+◌, ◌<◌, Bool, true, not, cond, nat_lt, List, [], ◌∷◌, ◌++◌, map, length, Option, Some, None, arith, Bor, IfOk, position, take, get_or}
use Rattle.std.specs.List.{position_or_len}
use Rattle.std.specs.Map.{keys_of}
use Rattle.std.specs.Str.{bytes_eq}
use Rattle.std.specs.declared.result.Result.{Result}
use Rattle.std.proofs.lemmas.List.{length-map, take_more, map-append}
use Rattle.ts_base.specs.Bytes.{Bytes}
use Rattle.ts_core.specs.declared.rule.Rule.{Rule}
use Rattle.ts_rules.specs.Causes.{names_of}
use Rattle.ts_rules.specs.Numbers.{Numbers, tree_of, where_so, has_steps, any_times, many_times, outermost}
use Rattle.ts_rules.specs.Alternatives.{alternatives_of}
use Rattle.ts_rules.specs.declared.tree.Tree.{Tree}
use Rattle.ts_rules.specs.declared.tree.Tree.TheVariants as tree
use Rattle.ts_numbering.specs.Keys.{rules_told}
use Rattle.ts_numbering.specs.Places.{number_or, place_of_name}
use Rattle.ts_numbering.specs.Shapes.{IsShapeOf}
use Rattle.ts_numbering.specs.declared.shape.Shape.{Shape}

module _ {K X : Type 0} (f : K → X) (eq : X → X → Bool) (x : X) where
  len_map : (keys : List K) → position_or_len (λ (k : K). eq x (f k)) keys ≡ position_or_len (eq x) (map f keys)
  len_map [] = refl
  len_map (k ∷ keys) = ap (λ (n : ℕ). cond (not (eq x (f k))) (1 + n) 0) (len_map keys)

  -- a place among keys is that among the values that they stand for
  pub place_map : (keys : List K) → position (λ (k : K). eq x (f k)) keys ≡ position (eq x) (map f keys)
  place_map keys =
      ap (λ (n : ℕ). cond (nat_lt n (length keys)) (Some n) None) (len_map keys)
      ∙ ap (λ (m : ℕ). cond (nat_lt (position_or_len (eq x) (map f keys)) m) (Some (position_or_len (eq x) (map f keys))) None) (sym (length-map keys f))

key_names : (entries : List (Bor Bytes × Bor Rule)) → map (λ (k : Bor Bytes). k.now) (keys_of entries) ≡ names_of (rules_told entries)
key_names [] = refl
key_names (e ∷ entries) = ap (λ (names : List Bytes). e.0.now ∷ names) (key_names entries)

pub rules_place : (entries : List (Bor Bytes × Bor Rule)) (name : Bytes) → position (λ (k : Bor Bytes). bytes_eq name k.now) (keys_of entries) ≡ place_of_name (names_of (rules_told entries)) name
rules_place entries name = place_map (λ (k : Bor Bytes). k.now) bytes_eq name (keys_of entries) ∙ ap (λ (names : List Bytes). place_of_name names name) (key_names entries)

pub or_none : (other first r : ℕ) (place : Option ℕ) → r ≡ other → None ≡ place → r ≡ number_or other first place
or_none other first r place is h = is ∙ ap (number_or other first) h

pub or_some : (other first base k : ℕ) (place : Option ℕ) → base ≡ first → Some k ≡ place → base + k ≡ number_or other first place
or_some other first base k place is h = ap (λ (n : ℕ). n + k) is ∙ ap (number_or other first) h

pub from_none : (k : ℕ) (place : Option ℕ) → Some k ≡ place → k ≡ number_or 0 0 place
from_none k place h = let e : k ≡ 0 + k = omega arith in e ∙ ap (number_or 0 0) h

-- ---- trees

pub if_ok_is : {F : Type 0} (r : Result Tree F) (a b : Tree) → a ≡ b → IfOk r (λ (t : Tree). t ≡ a) → IfOk r (λ (t : Tree). t ≡ b)
if_ok_is r a b e h = subst (λ (x : Tree). IfOk r (λ (t : Tree). t ≡ x)) e h

pub leaf_is : (n : Numbers) (rule leaf : Rule) (k : ℕ) → rule ≡ leaf → tree_of n leaf ≡ tree.Step (n.token leaf) → k ≡ n.token rule → tree.Step k ≡ tree_of n rule
leaf_is n rule leaf k is law e = ap tree.Step (e ∙ ap n.token is) ∙ sym law ∙ ap (tree_of n) (sym is)

pub tree_is : (n : Numbers) (rule other : Rule) (t u : Tree) → rule ≡ other → tree_of n other ≡ u → t ≡ u → t ≡ tree_of n rule
tree_is n rule other t u is law e = e ∙ sym law ∙ ap (tree_of n) (sym is)

pub any_times_is : (n : Numbers) (content : Rule) (number r : ℕ) (shape : Shape) → number ≡ r → ((n : Numbers) → IsShapeOf (alternatives_of (tree_of n content)) shape)
    → tree.Choice (where_so shape.filled (tree.Step number) ++ where_so true tree.Blank) ≡ any_times r (tree_of n content)
any_times_is n content number r shape is h =
    ap (λ (k : ℕ). tree.Choice (where_so shape.filled (tree.Step k) ++ where_so true tree.Blank)) is
    ∙ ap (λ (b : Bool). tree.Choice (where_so b (tree.Step r) ++ where_so true tree.Blank)) ((h n).filled outermost)

pub many_times_is : (n : Numbers) (content : Rule) (number r : ℕ) (shape : Shape) → number ≡ r → ((n : Numbers) → IsShapeOf (alternatives_of (tree_of n content)) shape)
    → tree.Choice (where_so shape.filled (tree.Step number) ++ where_so shape.blank tree.Blank) ≡ many_times r (tree_of n content)
many_times_is n content number r shape is h =
    ap (λ (k : ℕ). tree.Choice (where_so shape.filled (tree.Step k) ++ where_so shape.blank tree.Blank)) is
    ∙ ap (λ (b : Bool). tree.Choice (where_so b (tree.Step r) ++ where_so shape.blank tree.Blank)) ((h n).filled outermost)
    ∙ ap (λ (b : Bool). tree.Choice (where_so (has_steps (tree_of n content)) (tree.Step r) ++ where_so b tree.Blank)) ((h n).blank outermost)

-- one more of a list
pub mapped_more : {X Y : Type 0} (f : X → Y) (all : List X) (i : ℕ) (x : X) (old new : List Y) (y : Y) → i < length all → x ≡ get_or all i x → y ≡ f x
    → new ≡ old ++ y ∷ [] → old ≡ map f (take i all) → new ≡ map f (take (i + 1) all)
mapped_more {X = X} {Y = Y} f all i x old new y lt at is pushed before =
    pushed ∙ ap (λ (ys : List Y). ys ++ y ∷ []) before ∙ ap (λ (z : Y). map f (take i all) ++ z ∷ []) is
    ∙ sym (ap (map f) (take_more all i x lt ∙ ap (λ (z : X). take i all ++ z ∷ []) (sym at)) ∙ map-append f (take i all) (x ∷ []))
