-- Classes, item for item, and the signs that they are.
use Rattle.std.proofs.Common.{◌≡◌, ◌≢◌, ℕ, ◌<◌, Bool, true, List, [], ◌∷◌, ◌++◌, length, refl, sym, ap, subst, ◌∙◌, inl, inr}
use Rattle.std.proofs.lemmas.Bool.{ne_eqb}
use Rattle.ts_pattern.specs.declared.sight.Flaw.{Flaw}
use Rattle.ts_pattern.specs.declared.sight.Sight.{Sight}
use Rattle.ts_pattern.specs.declared.sight.Sight.TheVariants.{Sees, Wrong}
use Rattle.ts_pattern.specs.declared.item.Item.{Item}
use Rattle.ts_pattern.specs.declared.sign.Sign.{Sign}
use Rattle.ts_pattern.specs.Characters.{Text, peek}
use Rattle.ts_pattern.specs.Classes.{AreClassItems, item, is_class, opens_after, inside, IsClassSight}
use Rattle.ts_pattern.specs.Signs.{plain, IsSight}

pub items_push : (w : Text) (xs : List Item) (o : Bool) (i j k : ℕ) (x : Item) → AreClassItems w o i xs j → peek w j ≢ 93 → item w (opens_after o xs) j ≡ Sees x k → AreClassItems w o i (xs ++ x ∷ []) k
items_push w [] o i j k x g h e =
    (k, ne_eqb (peek w i) 93 (λ f. h (ap (peek w) (sym g) ∙ f)), ap (item w o) g ∙ e, refl)
items_push w (y ∷ ys) o i j k x g h e = (g.0, g.1, g.2, items_push w ys (is_class y.base) g.0 j k x g.3 h e)

pub opens_push : (o : Bool) (xs : List Item) (x : Item) → opens_after o (xs ++ x ∷ []) ≡ is_class x.base
opens_push o [] x = refl
opens_push o (y ∷ ys) x = opens_push (is_class y.base) ys x

pub class_wrong : (w : Text) (i start next : ℕ) (xs : List Item) (f : Flaw) (p : ℕ) → start ≡ inside w i → peek w start ≢ 93 →
    AreClassItems w true start xs next → peek w next ≢ 93 → item w (opens_after true xs) next ≡ Wrong f p → IsClassSight w i (Wrong f p)
class_wrong w i start next xs f p e some g going h = inr (
  ne_eqb (peek w (inside w i)) 93 (λ x. some (ap (peek w) e ∙ x)),
  (
    xs,
    next,
    subst (λ (n : ℕ). AreClassItems w true n xs next) e g,
    ne_eqb (peek w next) 93 going,
    h,
  ),
)

-- ---- signs

pub plain_sight : (w : Text) (i : ℕ) (c : Sight Sign) → peek w i ≢ 91 → i < length w → c ≡ plain w i → IsSight w i c
plain_sight w i (Sees s j) ne lt e = inl (ne_eqb (peek w i) 91 ne, lt, sym e)
plain_sight w i (Wrong f p) ne lt e = inl (ne_eqb (peek w i) 91 ne, lt, sym e)
