-- A rule tree whose texts and lists are no longer than a number below 2 ^ 32, and whose CHOICEs have
-- branches, is small in all that is seen in it.
use Rattle.std.proofs.Common.{arith, ◌≡◌, ◌∙◌, sym, ap, refl, subst, ℕ, ◌+◌, ◌^◌, ◌<◌, ◌≤◌, Bool, true, false, ◌&&◌, nat_le, List, [], ◌∷◌, ◌++◌, map, length}
use Rattle.std.specs.Prelude.{All}
use Rattle.std.specs.List.{list_all}
use Rattle.std.proofs.lemmas.Bool.Decides.{nat_tests}
use Rattle.std.proofs.lemmas.List.{length-map}
use Rattle.std.proofs.lemmas.List.Elements.{All-nil, All-cons, All-append}
use Rattle.ts_core.specs.declared.rule.PrecValue.{PrecValue}
use Rattle.ts_core.specs.declared.rule.PrecValue.TheVariants.{Number, Name}
use Rattle.ts_core.specs.declared.rule.Rule.{Rule}
use Rattle.ts_core.specs.declared.rule.Rule.TheBlock.{the_family, member-Rule}
use Rattle.ts_core.specs.declared.rule.Rule.TheFolds.{ind-Rule, map-Rule, claims, fold-roll-Rule, para-roll-Rule}
use Rattle.ts_core.specs.declared.rule.Rule.TheOpen.{Rule-F}
use Rattle.ts_core.specs.declared.rule.Rule.TheViews.{roll-Rule, out-Rule, out-roll-Rule}
use Rattle.spec_tables.specs.Fit.{IsShort}
use Rattle.ts_rules.specs.FileGrammar.{HasShortName, IsSmallLayer, IsSmallSight}
use Rattle.ts_rules.specs.Sights.{Sight, seen_all, below_step, below, sights_within, all_seen}
use Rattle.ts_grammar_json.specs.WellFormed.{is_true, choices_step, has_choices}
use Rattle.ts_grammar_json.specs.ShortParts.{is_within, has_name_within, within_step, has_parts_within}
use denote.Hole.Holds.{Such}

-- all that is seen in the tree is small
abbrev pub IsSmallTree : Rule → Type 0
IsSmallTree tree = (inside : Bool) → All IsSmallSight (sights_within tree inside)

abbrev Below : Type 0
Below = Bool → List Sight

-- what is to be shown of a tree
abbrev Claim : ℕ → Rule → Type 0
Claim n tree = has_parts_within n tree ≡ true → has_choices tree ≡ true → IsSmallTree tree

abbrev Child : ℕ → Type 0
Child n = Such the_family (claims (Claim n)) member-Rule

abbrev tree_in : (n : ℕ) → Child n → Rule
tree_in n child = child.0

-- ---- tests

left_true : (a b : Bool) → (a && b) ≡ true → a ≡ true
left_true true b both = refl
left_true false b both = both

right_true : (a b : Bool) → (a && b) ≡ true → b ≡ true
right_true true b both = both
right_true false b both = absurd (let apart : false ≡ true = both in cc)

within_is : {X : Type 0} (n : ℕ) (xs : List X) → is_within n xs ≡ true → length xs ≤ n
within_is n xs is = grind (arith, nat_tests)

short_is : {X : Type 0} (n : ℕ) (xs : List X) → n < 2 ^ 32 → is_within n xs ≡ true → IsShort xs
short_is n xs lt is = let le = within_is n xs is in omega (arith, le, lt)

mapped_is : (n : ℕ) (rs : List Rule) → n < 2 ^ 32 → is_within n (map (has_parts_within n) rs) ≡ true → IsShort rs
mapped_is n rs lt is =
    let le = within_is n (map (has_parts_within n) rs) is in
    let e : length (map (has_parts_within n) rs) ≡ length rs = length-map rs (has_parts_within n) in
    omega (arith, le, e, lt)

name_is : (n : ℕ) (p : PrecValue) → n < 2 ^ 32 → has_name_within n p ≡ true → HasShortName p
name_is n (Number value) lt is = tt
name_is n (Name name) lt is = short_is n name lt is

-- ---- layers

by_layer : (layer : Rule-F Rule) → IsSmallLayer layer → ((inside : Bool) → All IsSmallSight (below (roll-Rule layer) inside)) → IsSmallTree (roll-Rule layer)
by_layer layer small rest = λ inside.
    All-cons IsSmallSight _ (below (roll-Rule layer) inside) (subst IsSmallLayer (sym (out-roll-Rule layer)) small) (rest inside)

below_is : (layer : Rule-F Rule) (inside : Bool) (found : List Sight)
    → below_step (map-Rule Rule (Rule × Below) (λ t. (t, below t)) layer) inside ≡ found → All IsSmallSight found → All IsSmallSight (below (roll-Rule layer) inside)
below_is layer inside found e all =
    subst (λ (xs : List Sight). All IsSmallSight xs) (sym (ap (λ (f : Below). f inside) (para-roll-Rule Below below_step layer) ∙ e)) all

leaf : (layer : Rule-F Rule) → IsSmallLayer layer → ((inside : Bool) → below_step (map-Rule Rule (Rule × Below) (λ t. (t, below t)) layer) inside ≡ []) → IsSmallTree (roll-Rule layer)
leaf layer small none = by_layer layer small (λ inside. below_is layer inside [] (none inside) (All-nil IsSmallSight))

one : (layer : Rule-F Rule) (content : Rule) (at : Bool → Bool) → IsSmallLayer layer
    → ((inside : Bool) → below_step (map-Rule Rule (Rule × Below) (λ t. (t, below t)) layer) inside ≡ sights_within content (at inside)) → IsSmallTree content → IsSmallTree (roll-Rule layer)
one layer content at small is inner = by_layer layer small (λ inside. below_is layer inside (sights_within content (at inside)) (is inside) (inner (at inside)))

all_map : (ts : List Rule) (inside : Bool) → seen_all (map (λ (t : Rule). (t, below t)) ts) inside ≡ all_seen ts inside
all_map [] inside = refl
all_map (t ∷ ts) inside = ap (λ (rest : List Sight). sights_within t inside ++ rest) (all_map ts inside)

AreSmall : List Rule → Type 0
AreSmall trees = (inside : Bool) → All IsSmallSight (all_seen trees inside)

many : (layer : Rule-F Rule) (members : List Rule) → IsSmallLayer layer
    → ((inside : Bool) → below_step (map-Rule Rule (Rule × Below) (λ t. (t, below t)) layer) inside ≡ all_seen members inside) → AreSmall members → IsSmallTree (roll-Rule layer)
unfolding AreSmall
many layer members small is inner = by_layer layer small (λ inside. below_is layer inside (all_seen members inside) (is inside) (inner inside))

-- what is known of the parts of a layer
within : (n : ℕ) (layer : Rule-F Rule) → has_parts_within n (roll-Rule layer) ≡ true → within_step n (map-Rule Rule Bool (has_parts_within n) layer) ≡ true
within n layer h = sym (fold-roll-Rule Bool (within_step n) layer) ∙ h

branched : (layer : Rule-F Rule) → has_choices (roll-Rule layer) ≡ true → choices_step (map-Rule Rule Bool has_choices layer) ≡ true
branched layer h = sym (fold-roll-Rule Bool choices_step layer) ∙ h

child_small : (n : ℕ) (c : Child n) → has_parts_within n (tree_in n c) ≡ true → has_choices (tree_in n c) ≡ true → IsSmallTree (tree_in n c)
child_small n c short fine = let known : Claim n c.0 = c.1 in known short fine

abbrev trees_of : (n : ℕ) → List (Child n) → List Rule
trees_of n cs = map (tree_in n) cs

children_small : (n : ℕ) (cs : List (Child n)) → list_all is_true (map (has_parts_within n) (trees_of n cs)) ≡ true
    → list_all is_true (map has_choices (trees_of n cs)) ≡ true → AreSmall (trees_of n cs)
unfolding AreSmall
children_small n [] short fine = λ inside. All-nil IsSmallSight
children_small n (c ∷ cs) short fine = λ inside.
    All-append IsSmallSight (sights_within (tree_in n c) inside) (all_seen (trees_of n cs) inside)
    (child_small n c (left_true (has_parts_within n (tree_in n c)) (list_all is_true (map (has_parts_within n) (trees_of n cs))) short) (left_true (has_choices (tree_in n c)) (list_all is_true (map has_choices (trees_of n cs))) fine) inside)
    (children_small n cs (right_true (has_parts_within n (tree_in n c)) (list_all is_true (map (has_parts_within n) (trees_of n cs))) short) (right_true (has_choices (tree_in n c)) (list_all is_true (map has_choices (trees_of n cs))) fine) inside)

layer_small : (n : ℕ) → n < 2 ^ 32 → (y : Rule-F (Child n)) → within_step n (map-Rule Rule Bool (has_parts_within n) (map-Rule (Child n) Rule (tree_in n) y)) ≡ true
    → choices_step (map-Rule Rule Bool has_choices (map-Rule (Child n) Rule (tree_in n) y)) ≡ true → IsSmallTree (roll-Rule (map-Rule (Child n) Rule (tree_in n) y))
layer_small n lt Rule-F.Blank short fine = leaf Rule-F.Blank tt (λ inside. refl)
layer_small n lt (Rule-F.Literal text) short fine = leaf (Rule-F.Literal text) (short_is n text lt short) (λ inside. refl)
layer_small n lt (Rule-F.Pattern value ignore_case) short fine = leaf (Rule-F.Pattern value ignore_case) (short_is n value lt short) (λ inside. refl)
layer_small n lt (Rule-F.Symbol name) short fine = leaf (Rule-F.Symbol name) (short_is n name lt short) (λ inside. refl)
layer_small n lt (Rule-F.Seq cs) short fine =
    many (Rule-F.Seq (trees_of n cs)) (trees_of n cs) (mapped_is n (trees_of n cs) lt (left_true _ _ short)) (λ inside. all_map (trees_of n cs) inside)
    (children_small n cs (right_true _ _ short) fine)
layer_small n lt (Rule-F.Choice []) short fine = absurd (let apart : false ≡ true = fine in cc)
layer_small n lt (Rule-F.Choice (c ∷ cs)) short fine =
    many (Rule-F.Choice (trees_of n (c ∷ cs))) (trees_of n (c ∷ cs))
    (mapped_is n (trees_of n (c ∷ cs)) lt (left_true _ _ short), λ none. (let apart : tree_in n c ∷ trees_of n cs ≡ [] = none in cc))
    (λ inside. all_map (trees_of n (c ∷ cs)) inside)
    (children_small n (c ∷ cs) (right_true _ _ short) fine)
layer_small n lt (Rule-F.Repeat c) short fine = one (Rule-F.Repeat (tree_in n c)) (tree_in n c) (λ b. b) tt (λ inside. refl) (child_small n c short fine)
layer_small n lt (Rule-F.Repeat1 c) short fine = one (Rule-F.Repeat1 (tree_in n c)) (tree_in n c) (λ b. b) tt (λ inside. refl) (child_small n c short fine)
layer_small n lt (Rule-F.Token c) short fine = one (Rule-F.Token (tree_in n c)) (tree_in n c) (λ b. true) tt (λ inside. refl) (child_small n c short fine)
layer_small n lt (Rule-F.ImmediateToken c) short fine = one (Rule-F.ImmediateToken (tree_in n c)) (tree_in n c) (λ b. true) tt (λ inside. refl) (child_small n c short fine)
layer_small n lt (Rule-F.Field name c) short fine =
    one (Rule-F.Field name (tree_in n c)) (tree_in n c) (λ b. b) (short_is n name lt (left_true _ _ short)) (λ inside. refl) (child_small n c (right_true _ _ short) fine)
layer_small n lt (Rule-F.Alias c named value) short fine =
    one (Rule-F.Alias (tree_in n c) named value) (tree_in n c) (λ b. b) (short_is n value lt (left_true _ _ short)) (λ inside. refl) (child_small n c (right_true _ _ short) fine)
layer_small n lt (Rule-F.Prec value c) short fine =
    one (Rule-F.Prec value (tree_in n c)) (tree_in n c) (λ b. b) (name_is n value lt (left_true _ _ short)) (λ inside. refl) (child_small n c (right_true _ _ short) fine)
layer_small n lt (Rule-F.PrecLeft value c) short fine =
    one (Rule-F.PrecLeft value (tree_in n c)) (tree_in n c) (λ b. b) (name_is n value lt (left_true _ _ short)) (λ inside. refl) (child_small n c (right_true _ _ short) fine)
layer_small n lt (Rule-F.PrecRight value c) short fine =
    one (Rule-F.PrecRight value (tree_in n c)) (tree_in n c) (λ b. b) (name_is n value lt (left_true _ _ short)) (λ inside. refl) (child_small n c (right_true _ _ short) fine)
layer_small n lt (Rule-F.PrecDynamic value c) short fine = one (Rule-F.PrecDynamic value (tree_in n c)) (tree_in n c) (λ b. b) tt (λ inside. refl) (child_small n c short fine)

pub small_of : (n : ℕ) → n < 2 ^ 32 → (tree : Rule) → has_parts_within n tree ≡ true → has_choices tree ≡ true → IsSmallTree tree
small_of n lt tree = ind-Rule (Claim n) (λ x y e. subst (λ (z : Rule-F Rule). Claim n (roll-Rule z)) e (whole y)) tree
  where
    whole : (y : Rule-F (Child n)) → Claim n (roll-Rule (map-Rule (Child n) Rule (tree_in n) y))
    whole y short fine =
        let x = map-Rule (Child n) Rule (tree_in n) y in
        layer_small n lt y (within n x short) (branched x fine)
