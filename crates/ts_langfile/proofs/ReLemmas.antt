-- How each kind of regular expression is spelled.
use Rattle.std.proofs.Common.{◌≡◌, ◌∙◌, sym, ap, refl, append_assoc, ℕ, List, [], ◌∷◌, map, ◌++◌, length, Option}
use Rattle.std.specs.List.{flat_map}
use Rattle.std.proofs.lemmas.List.{length-map, append-nil}
use Rattle.ts_base.specs.Bytes.{Bytes}
use Rattle.ts_core.specs.declared.re.Re.{Re}
use Rattle.ts_core.specs.declared.re.Re.TheOpen.{Re-F}
use Rattle.ts_core.specs.declared.re.Re.TheVariants.{Empty, Set, Cat, Alt, Repeat}
use Rattle.ts_core.specs.declared.re.Re.TheVariants.{rolls-Empty, rolls-Set, rolls-Cat, rolls-Alt, rolls-Repeat}
use Rattle.ts_core.specs.declared.re.Re.TheFolds.{fold-roll-Re}
use Rattle.ts_langfile.specs.Spelling.{joined, number32, optional, listed, range, re_step, re}

joined_map : {X : Type 0} (f : X → Bytes) (xs : List X) → flat_map (λ (part : Bytes). part) (map f xs) ≡ flat_map f xs
joined_map f [] = refl
joined_map f (x ∷ xs) = ap (λ (rest : Bytes). f x ++ rest) (joined_map f xs)

listed_map : (parts : List Re) → listed (λ (part : Bytes). part) (map re parts) ≡ listed re parts
listed_map parts = rw (length-map, joined_map) refl

pub spelled_empty : re Empty ≡ 0 ∷ []
spelled_empty = ap re (sym rolls-Empty) ∙ fold-roll-Re Bytes re_step Re-F.Empty

pub spelled_set : (ranges : List (ℕ × ℕ)) → re (Set ranges) ≡ 1 ∷ listed range ranges
spelled_set ranges = ap re (sym (rolls-Set ranges)) ∙ fold-roll-Re Bytes re_step (Re-F.Set ranges)

pub spelled_cat : (parts : List Re) → re (Cat parts) ≡ 2 ∷ listed re parts
spelled_cat parts =
    ap re (sym (rolls-Cat parts)) ∙ fold-roll-Re Bytes re_step (Re-F.Cat parts) ∙ ap (λ (rest : Bytes). 2 ∷ rest) (listed_map parts)

pub spelled_alt : (parts : List Re) → re (Alt parts) ≡ 3 ∷ listed re parts
spelled_alt parts =
    ap re (sym (rolls-Alt parts)) ∙ fold-roll-Re Bytes re_step (Re-F.Alt parts) ∙ ap (λ (rest : Bytes). 3 ∷ rest) (listed_map parts)

pub spelled_repeat : (inner : Re) (least : ℕ) (most : Option ℕ) → re (Repeat inner least most) ≡ 4 ∷ joined (re inner ∷ number32 least ∷ optional number32 most ∷ [])
spelled_repeat inner least most =
    ap re (sym (rolls-Repeat inner least most)) ∙ fold-roll-Re Bytes re_step (Re-F.Repeat inner least most)

-- ---- what was written

-- a tag, and what stands behind it
pub written : (old middle new rest : Bytes) (tag : ℕ) (r : Re) → re r ≡ tag ∷ rest → middle ≡ old ++ tag ∷ [] → new ≡ middle ++ rest → new ≡ old ++ re r
written old middle new rest tag r spelled first second =
    second ∙ rw first (append_assoc old (tag ∷ []) rest) ∙ ap (λ (x : Bytes). old ++ x) (sym spelled)

pub repeat_written : (old one two three new : Bytes) (r inner : Re) (least : ℕ) (most : Option ℕ) → r ≡ Repeat inner least most → one ≡ old ++ 4 ∷ [] → two ≡ one ++ re inner → three ≡ two ++ number32 least
    → new ≡ three ++ optional number32 most → new ≡ old ++ re r
repeat_written old one two three new r inner least most is first second third fourth =
    let rest : Bytes = re inner ++ (number32 least ++ (optional number32 most ++ [])) in
    let all : new ≡ one ++ rest = fourth ∙ rw (third, second) (simp (append_assoc, append-nil)) in
    written old one new rest 4 r (ap re is ∙ spelled_repeat inner least most) first all
