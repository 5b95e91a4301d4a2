-- A text is no shorter than the number of its signs.
use Rattle.std.proofs.Common.{◌≡◌, ◌∙◌, sym, ap, subst, refl, ℕ, zero, suc, ◌+◌, ◌-◌, ◌<◌, ◌≤◌, Bool, true, false, List, [], ◌∷◌, length, drop, slice_get, Some, arith}
use Rattle.std.specs.Prelude.{⊤, Option, None, ◌||◌, ◌&&◌, ◌==◌, if◌then◌else◌}
use Rattle.std.specs.List.{prefix_len}
use Rattle.ts_base.specs.Bytes.{Bytes}
use Rattle.ts_query_tree.specs.declared.sign.Sign.{Sign}
use Rattle.ts_query_tree.specs.declared.sight.Sight.{Sight}
use Rattle.ts_query_tree.specs.declared.sight.Sight.TheVariants.{Sees, Cut, Strange}
use Rattle.ts_query_tree.specs.Words.{is_name_start, is_name_byte, name_end, gap_end, begins_name, inside, ending}
use Rattle.ts_query_tree.specs.Signs.{sight, sight_of, sign_from, name_at, capture_at, without_at, predicate_at, is_predicate_mark, string, text_at}
use Rattle.ts_query_tree.specs.Trees.{Parts, spelling}
use Rattle.ts_query_tree.specs.Reads.{Signs, IsQueryText}

-- what is seen ends behind its place
abbrev IsAfter : ℕ → Sight → Type 0
IsAfter i (Sees s j) = i < j
IsAfter i (Cut s j) = ⊤
IsAfter i Strange = ⊤

either : (i : ℕ) (b : Bool) (x y : Sight) → IsAfter i x → IsAfter i y → IsAfter i (if b then x else y)
either i true x y a c = a
either i false x y a c = c

capture_after : (w : Bytes) (i : ℕ) → IsAfter i (capture_at w i)
capture_after w i = either i (begins_name w (gap_end w (i + 1))) _ _ (omega arith) tt

without_after : (w : Bytes) (i : ℕ) → IsAfter i (without_at w i)
without_after w i = either i (begins_name w (gap_end w (i + 1))) _ _ (omega arith) tt

predicate_after : (w : Bytes) (i : ℕ) → IsAfter i (predicate_at w i)
predicate_after w i =
    let k : ℕ = gap_end w (i + 1) in
    either i (begins_name w (gap_end w (i + 1)) && is_predicate_mark (slice_get w (name_end w (gap_end w (i + 1))))) _ _ (omega arith) tt

string_after : (i j : ℕ) (x : Option (Bytes × ℕ)) → i < j → IsAfter i (string i (ending j x))
string_after i j None h = tt
string_after i j (Some x) h = omega (arith, h)

text_after : (w : Bytes) (i : ℕ) → IsAfter i (text_at w i)
text_after w i = string_after i (i + 1) (inside (drop (i + 1) w)) (omega arith)

-- a name has a byte
pub run_some : (v : Bytes) (c : ℕ) → slice_get v 0 ≡ Some c → is_name_start c ≡ true → 0 < prefix_len is_name_byte v
run_some [] c at h = let no : None ≡ Some c = at in cc
run_some (d ∷ v) c at h =
    let same : Some d ≡ Some c = at in
    let e : d ≡ c = cc in
    let starts : is_name_byte d ≡ true = ap is_name_byte e ∙ ap (λ (b : Bool). b || (c == 45) || (c == 46)) h in
    subst (λ (b : Bool). 0 < (if b then 1 + prefix_len is_name_byte v else 0)) (sym starts) (omega arith)

pub from_here : (w : Bytes) (i : ℕ) → slice_get (drop i w) 0 ≡ slice_get w i
from_here [] zero = refl
from_here [] (suc i) = refl
from_here (c ∷ w) zero = refl
from_here (c ∷ w) (suc i) = from_here w i

name_after : (w : Bytes) (i c : ℕ) (b : Bool) → slice_get w i ≡ Some c → is_name_start c ≡ b → IsAfter i (if b then name_at w i else Strange)
name_after w i c true at h = omega (arith, run_some (drop i w) c (from_here w i ∙ at) h)
name_after w i c false at h = tt

sign_after : (w : Bytes) (i c : ℕ) → slice_get w i ≡ Some c → IsAfter i (sign_from w i c)
sign_after w i c at =
    either i (c == 40) _ _ (omega arith)
    (either i (c == 41) _ _ (omega arith)
    (either i (c == 91) _ _ (omega arith)
    (either i (c == 93) _ _ (omega arith)
    (either i (c == 46) _ _ (omega arith)
    (either i (c == 58) _ _ (omega arith)
    (either i (c == 63) _ _ (omega arith)
    (either i (c == 42) _ _ (omega arith)
    (either i (c == 43) _ _ (omega arith)
    (either i (c == 34) _ _ (text_after w i)
    (either i (c == 64) _ _ (capture_after w i)
    (either i (c == 33) _ _ (without_after w i)
    (either i (c == 35) _ _ (predicate_after w i)
    (name_after w i c (is_name_start c) at refl)))))))))))))

sight_after : (w : Bytes) (i : ℕ) (x : Option ℕ) → slice_get w i ≡ x → IsAfter i (sight_of w i x)
sight_after w i None at = tt
sight_after w i (Some c) at = sign_after w i c at

seen_after : (w : Bytes) (i j : ℕ) (s : Sign) → sight w i ≡ Sees s j → i < j
seen_after w i j s e = subst (λ (x : Sight). IsAfter i x) e (sight_after w i (slice_get w i) refl)

signs_fit : (w : Bytes) (ss : List Sign) (i j : ℕ) → Signs w i ss j → length ss + i ≤ j
signs_fit w [] i j h = omega (arith, h)
signs_fit w (s ∷ ss) i j h =
    omega (arith, seen_after w (gap_end w i) h.0 s h.1, signs_fit w ss h.0 j h.2)

pub text_fits : (q : Parts) (w : Bytes) → IsQueryText w q → length (spelling q) ≤ length w
text_fits q w h = omega (arith, signs_fit w (spelling q) 0 h.1 h.2, h.3)
