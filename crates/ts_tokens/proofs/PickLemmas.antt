-- What is picked from a list that goes on.
use Rattle.std.proofs.Common.{◌≡◌, ◌∙◌, sym, ap, subst, refl, ℕ, ◌+◌, ◌<◌, List, [], ◌∷◌, ◌++◌, map, length, get_or, take}
use Rattle.std.proofs.lemmas.List.{take_more, map-append}
use Rattle.std.specs.Borrow.{Bor}
use Rattle.ts_core.specs.declared.re.Re.{Re}
use Rattle.ts_core.specs.declared.rule.Grammar.{Grammar}
use Rattle.ts_core.specs.declared.rule.Rule.{Rule}
use Rattle.ts_rules.specs.FirstSights.{Not, Picks, end, taken, left}
use Rattle.ts_rules.specs.Normal.{IsTokenExtra}
use Rattle.ts_rules.specs.Tokens.{Patterns, tree_re}
use Rattle.ts_tokens.specs.Extras.{ArePickedOf}
use Rattle.ts_tokens.specs.Names.{lent}

module _ {X : Type 0} (P : X → Type 0) where
  picks_push : (xs ys : List X) (x : X) → Picks P xs ys → P x → Picks P (xs ++ x ∷ []) (ys ++ x ∷ [])
  picks_push _ _ x end p = taken x [] [] p end
  picks_push _ _ x (taken a xs ys q rest) p = taken a (xs ++ x ∷ []) (ys ++ x ∷ []) q (picks_push xs ys x rest p)
  picks_push _ _ x (left a xs ys q rest) p = left a (xs ++ x ∷ []) (ys ++ x ∷ []) q (picks_push xs ys x rest p)

  picks_skip : (xs ys : List X) (x : X) → Picks P xs ys → Not (P x) → Picks P (xs ++ x ∷ []) ys
  picks_skip _ _ x end p = left x [] [] p end
  picks_skip _ _ x (taken a xs ys q rest) p = taken a (xs ++ x ∷ []) ys q (picks_skip xs ys x rest p)
  picks_skip _ _ x (left a xs ys q rest) p = left a (xs ++ x ∷ []) ys q (picks_skip xs ys x rest p)

  pub picks_begin : (all : List X) → Picks P (take 0 all) []
  picks_begin [] = end
  picks_begin (x ∷ all) = end

  one_more : (all : List X) (i : ℕ) (x : X) → i < length all → x ≡ get_or all i x → take (i + 1) all ≡ take i all ++ x ∷ []
  one_more all i x lt at = take_more all i x lt ∙ ap (λ (y : X). take i all ++ y ∷ []) (sym at)

  pub picks_more : (all ys : List X) (i : ℕ) (x : X) → i < length all → x ≡ get_or all i x → P x → Picks P (take i all) ys → Picks P (take (i + 1) all) (ys ++ x ∷ [])
  picks_more all ys i x lt at p before = subst (λ (xs : List X). Picks P xs (ys ++ x ∷ [])) (sym (one_more all i x lt at)) (picks_push (take i all) ys x before p)

  pub picks_left : (all ys : List X) (i : ℕ) (x : X) → i < length all → x ≡ get_or all i x → Not (P x) → Picks P (take i all) ys → Picks P (take (i + 1) all) ys
  picks_left all ys i x lt at p before = subst (λ (xs : List X). Picks P xs ys) (sym (one_more all i x lt at)) (picks_skip (take i all) ys x before p)

-- ---- what is lent, and separators

pub lent_push : {X : Type 0} (xs : List (Bor X)) (x : Bor X) → lent (xs ++ x ∷ []) ≡ lent xs ++ x.now ∷ []
lent_push {X = X} xs x = map-append (λ (y : Bor X). y.now) xs (x ∷ [])

pub separators_begin : (g : Grammar) (pattern : Patterns) (extras : List Rule) → ArePickedOf g pattern (take 0 extras) []
separators_begin g pattern extras = ([], picks_begin (λ (tree : Rule). Not (IsTokenExtra g tree)) extras, refl)

pub separators_left : (g : Grammar) (pattern : Patterns) (extras : List Rule) (i : ℕ) (tree : Rule) (found : List Re) → i < length extras → tree ≡ get_or extras i tree → IsTokenExtra g tree
    → ArePickedOf g pattern (take i extras) found → ArePickedOf g pattern (take (i + 1) extras) found
separators_left g pattern extras i tree found lt at token before =
    (before.0, picks_left (λ (t : Rule). Not (IsTokenExtra g t)) extras before.0 i tree lt at (λ no. no token) before.1, before.2)

pub separators_more : (g : Grammar) (pattern : Patterns) (extras : List Rule) (i : ℕ) (tree : Rule) (found new : List Re) (re : Re) → i < length extras → tree ≡ get_or extras i tree → Not (IsTokenExtra g tree)
    → re ≡ tree_re pattern tree → new ≡ found ++ re ∷ [] → ArePickedOf g pattern (take i extras) found → ArePickedOf g pattern (take (i + 1) extras) new
separators_more g pattern extras i tree found new re lt at token is pushed before = (
  before.0 ++ tree ∷ [],
  picks_more (λ (t : Rule). Not (IsTokenExtra g t)) extras before.0 i tree lt at token before.1,
  pushed ∙ ap (λ (xs : List Re). xs ++ re ∷ []) before.2 ∙ ap (λ (r : Re). map (tree_re pattern) before.0 ++ r ∷ []) is ∙ sym (map-append (tree_re pattern) before.0 (tree ∷ [])),
)
