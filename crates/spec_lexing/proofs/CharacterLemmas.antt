-- Characters at the beginning of a text.
use Rattle.std.proofs.Common.{◌≡◌, ◌∙◌, sym, ap, subst, refl, ℕ, zero, suc, ◌+◌, ◌≤◌, ◌<◌, ◌⊎◌, inl, inr, ◌&&◌, Bool, true, false, List, [], ◌∷◌, ◌++◌, length, get_or, take, drop, append_assoc, length-append, arith}
use Rattle.std.specs.List.{prefix_len}
use Rattle.std.specs.Char.{IsScalar, len_utf8}
use Rattle.std.specs.Str.{IsUtf8, IsCharBoundary}
use Rattle.std.proofs.Math.Utf8.{encode, encodes, scalar, scalars}
use Rattle.std.proofs.lemmas.Str.{encode_same, length-encode, len_utf8_bounds, IsUtf8-take, IsUtf8-encode, IsCharBoundary-at_seam, IsCharBoundary-start}
use Rattle.std.proofs.Math.Dec.{leb}
use Rattle.std.proofs.lemmas.Bool.Decides.{leb_tells}
use Rattle.std.proofs.lemmas.List.{take-append-drop, length-take-le, get_or_append_left}
use Rattle.std.proofs.lemmas.List.Sums.{prefix_len_passes, prefix_len_stops, prefix_len-le-length}
use Rattle.spec_lexing.specs.Seen.{is_inner, one_character}

pub encodes_append : (u v : List ℕ) → encodes (u ++ v) ≡ encodes u ++ encodes v
encodes_append [] v = refl
encodes_append (c ∷ u) v = ap (λ (l : List ℕ). encode c ++ l) (encodes_append u v) ∙ sym (append_assoc (encode c) (encodes u) (encodes v))

-- two readings of one text: the second goes on after the first, or stops inside it
pub data Ways (w u r s : List ℕ) : Type 0 where
  on : (v : List ℕ) → u ≡ w ++ v → r ≡ encodes v ++ s → Ways w u r s
  within : (c : ℕ) (v : List ℕ) → w ≡ u ++ c ∷ v → Ways w u r s

pub ways : (w u r s : List ℕ) → encodes w ++ r ≡ encodes u ++ s → Ways w u r s
ways [] u r s e = on u refl e
ways (c ∷ w) [] r s e = within c w refl
ways (c ∷ w) (d ∷ u) r s e =
    let f : encode c ++ (encodes w ++ r) ≡ encode d ++ (encodes u ++ s) = sym (append_assoc (encode c) (encodes w) r) ∙ e ∙ append_assoc (encode d) (encodes u) s in
    let g = encode_same c d (encodes w ++ r) (encodes u ++ s) f in
    further (ways w u r s g.1) g.0
  where
    further : Ways w u r s → c ≡ d → Ways (c ∷ w) (d ∷ u) r s
    further (on v is rest) same = on v (ap (λ (x : ℕ). x ∷ u) (sym same) ∙ ap (λ (l : List ℕ). c ∷ l) is) rest
    further (within x v is) same = within x v (ap (λ (y : ℕ). y ∷ w) same ∙ ap (λ (l : List ℕ). d ∷ l) is)

-- a longer reading has more bytes
pub longer_by : (u : List ℕ) (c : ℕ) (v : List ℕ) → length (encodes u) < length (encodes (u ++ c ∷ v))
longer_by u c v =
    let e = ap (λ (l : List ℕ). length l) (encodes_append u (c ∷ v)) in
    let f = length-append (encodes u) (encodes (c ∷ v)) in
    let g = length-append (encode c) (encodes v) in
    let h = length-encode c in
    let b = len_utf8_bounds c in
    omega arith

split_and : (a b : Bool) → a && b ≡ true → (a ≡ true) × (b ≡ true)
split_and true b e = (refl, e)
split_and false b e = cc

-- the character that a text begins with, and what follows it
pub scalar_of : (tail more : List ℕ) (c : ℕ) → IsUtf8 tail → tail ≡ encode c ++ more → IsScalar c × IsUtf8 more
scalar_of tail more c ([], (good, spells)) is =
    let e = ap (λ (l : List ℕ). length l) (spells ∙ is) in
    let f = length-append (encode c) more in
    let g = length-encode c in
    let b = len_utf8_bounds c in
    absurd (omega arith)
scalar_of tail more c (d ∷ ds, (good, spells)) is =
    let both = split_and (scalar d) (scalars ds) good in
    let same = encode_same d c (encodes ds) more (spells ∙ is) in
    (subst IsScalar same.0 both.0, (ds, (both.1, same.1)))

-- a text that is not empty begins with a character
pub first_of : (tail : List ℕ) → IsUtf8 tail → 0 < length tail → (c : ℕ) × (more : List ℕ) × IsScalar c × IsUtf8 more × (tail ≡ encode c ++ more)
first_of tail ([], (good, spells)) some = let e = ap (λ (l : List ℕ). length l) spells in absurd (omega arith)
first_of tail (c ∷ cs, (good, spells)) some = let both = split_and (scalar c) (scalars cs) good in (c, encodes cs, both.0, (cs, (both.1, refl)), sym spells)

-- no place inside a character is a boundary
pub boundary_past : (c : ℕ) (more : List ℕ) (j : ℕ) → IsUtf8 (encode c ++ more) → IsCharBoundary (encode c ++ more) j → 0 < j → len_utf8 c ≤ j
boundary_past c more j utf8 bound above =
    let bytes = encode c ++ more in
    let u = IsUtf8-take bytes j utf8 bound in
    let len : length (take j bytes) ≡ j = length-take-le j bytes bound.0 in
    let f = first_of (take j bytes) u (subst (λ (n : ℕ). 0 < n) (sym len) above) in
    let e : encode f.0 ++ (f.1 ++ drop j bytes) ≡ encode c ++ more = sym (append_assoc (encode f.0) f.1 (drop j bytes)) ∙ ap (λ (l : List ℕ). l ++ drop j bytes) (sym f.4) ∙ take-append-drop j bytes in
    let same = encode_same f.0 c (f.1 ++ drop j bytes) more e in
    let a = ap (λ (l : List ℕ). length l) f.4 in
    let b = length-append (encode f.0) f.1 in
    let d = length-encode f.0 in
    let h = ap (λ (x : ℕ). length (encode x)) same.0 in
    let k = length-encode c in
    omega arith

pub not_inner : (b : ℕ) → is_inner b ≡ false → 128 ≤ b → 192 ≤ b
not_inner b is low = grind arith

inner_low : (b : ℕ) → is_inner b ≡ true → (128 ≤ b) × (b < 192)
inner_low b is = grind arith

-- how many bytes the next character has
pub one_character_is : (c : ℕ) (more : List ℕ) → IsScalar c → IsUtf8 more → one_character (encode c ++ more) ≡ len_utf8 c
one_character_is c more scalar_c utf8 = by (encode c ++ more) refl
  where
    long : len_utf8 c + length more ≡ length (encode c ++ more)
    long = let a = length-append (encode c) more in let b = length-encode c in omega arith

    seam : IsCharBoundary (encode c ++ more) (len_utf8 c)
    seam = subst (λ (n : ℕ). IsCharBoundary (encode c ++ more) n) (length-encode c) (IsCharBoundary-at_seam (encode c ++ more) (encode c) more refl utf8)

    whole : IsUtf8 (encode c ++ more)
    whole = (c ∷ utf8.0, (good, ap (λ (l : List ℕ). encode c ++ l) utf8.1.1))
      where
        good : scalar c && scalars utf8.0 ≡ true
        good = ap (λ (b : Bool). b && scalars utf8.0) scalar_c ∙ utf8.1.0

    low : (b : ℕ) (bs : List ℕ) → encode c ++ more ≡ b ∷ bs → prefix_len is_inner bs < len_utf8 c
    low b bs e = by (leb_tells (len_utf8 c) (prefix_len is_inner bs))
      where
        past : (k : ℕ) → len_utf8 c ≡ suc k → suc k ≤ prefix_len is_inner bs → ⊥
        past k is le =
            let inner = inner_low (get_or bs k 0) (prefix_len_passes is_inner bs k 0 le) in
            let at : IsCharBoundary (b ∷ bs) (suc k) = subst (λ (n : ℕ). IsCharBoundary (b ∷ bs) n) is (subst (λ (l : List ℕ). IsCharBoundary l (len_utf8 c)) e seam) in
            let short = prefix_len-le-length is_inner bs in
            let high = at.1 (omega arith) inner.0 in
            omega (arith, inner.1, high)

        from_suc : (n : ℕ) → len_utf8 c ≡ n → 1 ≤ n → n ≤ prefix_len is_inner bs → ⊥
        from_suc zero is above le = absurd (omega arith)
        from_suc (suc k) is above le = past k is le

        by : ((leb (len_utf8 c) (prefix_len is_inner bs) ≡ true) × (len_utf8 c ≤ prefix_len is_inner bs)) ⊎ ((leb (len_utf8 c) (prefix_len is_inner bs) ≡ false) × (prefix_len is_inner bs < len_utf8 c)) → prefix_len is_inner bs < len_utf8 c
        by (inl h) = absurd (from_suc (len_utf8 c) refl (len_utf8_bounds c).0 h.1)
        by (inr h) = h.1

    high : (b : ℕ) (bs : List ℕ) → encode c ++ more ≡ b ∷ bs → len_utf8 c ≤ suc (prefix_len is_inner bs)
    high b bs e = by (leb_tells (len_utf8 c) (suc (prefix_len is_inner bs)))
      where
        stop : suc (prefix_len is_inner bs) < len_utf8 c → ⊥
        stop lt =
            let len : suc (length bs) ≡ length (encode c ++ more) = sym (ap (λ (l : List ℕ). length l) e) in
            let l = long in
            let out = not_inner (get_or bs (prefix_len is_inner bs) 0) (prefix_len_stops is_inner bs 0 (omega arith)) in
            let at : IsCharBoundary (b ∷ bs) (suc (prefix_len is_inner bs)) = ((omega arith), (λ _ low. out low)) in
            let past = boundary_past c more (suc (prefix_len is_inner bs)) whole (subst (λ (l : List ℕ). IsCharBoundary l (suc (prefix_len is_inner bs))) (sym e) at) (omega arith) in
            omega arith

        by : ((leb (len_utf8 c) (suc (prefix_len is_inner bs)) ≡ true) × (len_utf8 c ≤ suc (prefix_len is_inner bs))) ⊎ ((leb (len_utf8 c) (suc (prefix_len is_inner bs)) ≡ false) × (suc (prefix_len is_inner bs) < len_utf8 c)) → len_utf8 c ≤ suc (prefix_len is_inner bs)
        by (inl h) = h.1
        by (inr h) = absurd (stop h.1)

    by : (bytes : List ℕ) → encode c ++ more ≡ bytes → one_character bytes ≡ len_utf8 c
    by [] e = let h = ap (λ (l : List ℕ). length l) e in let l = long in let b = len_utf8_bounds c in absurd (omega arith)
    by (b ∷ bs) e = let x = low b bs e in let y = high b bs e in omega arith

-- a byte inside a character begins none
pub inner_begins : (b c : ℕ) (bs tail : List ℕ) → is_inner b ≡ true → IsScalar c → b ∷ bs ≡ encode c ++ tail → ⊥
inner_begins b c bs tail inside scalar_c e =
    let u = IsCharBoundary-start (encode c) (IsUtf8-encode c scalar_c) in
    let len = length-encode c in
    let some = len_utf8_bounds c in
    let same : b ≡ get_or (encode c) 0 0 = ap (λ (l : List ℕ). get_or l 0 0) e ∙ get_or_append_left (encode c) tail 0 0 (omega arith) in
    let low = inner_low b inside in
    let high = u.1 (omega arith) (omega arith) in
    omega (arith, high)
