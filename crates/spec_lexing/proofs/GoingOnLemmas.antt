-- Beginnings of a text, and how they go on.
use Rattle.std.proofs.Common.{◌≡◌, ◌∙◌, sym, ap, subst, ℕ, ◌+◌, ◌≤◌, ◌<◌, ⊎_elim, List, [], ◌∷◌, ◌++◌, length, drop, append_assoc, length-append, arith}
use Rattle.std.specs.Char.{IsScalar}
use Rattle.std.proofs.Math.Utf8.{encode, encodes}
use Rattle.std.proofs.lemmas.Str.{encode_same}
use Rattle.std.proofs.lemmas.List.{append-nil}
use Rattle.std.proofs.lemmas.List.Elements.{Contains-push_cases}
use Rattle.ts_base.specs.Bytes.{Bytes}
use Rattle.spec_lexing.specs.Matching.{BeginsSpelled}
use Rattle.spec_lexing.proofs.CharacterLemmas.{Ways, on, within, ways, longer_by, encodes_append}
use Rattle.spec_lexing.proofs.BeginLemmas.{tail_is}

-- the shorter of two beginnings begins the longer one
pub begins_prefix : (rest : Bytes) (u w : List ℕ) (n m : ℕ) → BeginsSpelled rest u n → BeginsSpelled rest w m → n ≤ m → (v : List ℕ) × (w ≡ u ++ v)
begins_prefix rest u w n m a b le = by (ways u w a.tail b.tail (sym a.is ∙ b.is))
  where
    by : Ways u w a.tail b.tail → (v : List ℕ) × (w ≡ u ++ v)
    by (on v is tails) = (v, is)
    by (within c v is) = absurd (let l = longer_by w c v in let e = ap (λ (x : List ℕ). length (encodes x)) is in let f = a.size in let h = b.size in omega arith)

pub begins_longer : (rest : Bytes) (u v : List ℕ) (c n m : ℕ) → BeginsSpelled rest u n → BeginsSpelled rest (u ++ c ∷ v) m → n < m
begins_longer rest u v c n m a b = let l = longer_by u c v in let e = a.size in let f = b.size in omega arith

encodes_push : (u : List ℕ) (c : ℕ) → encodes (u ++ c ∷ []) ≡ encodes u ++ encode c
encodes_push u c = encodes_append u (c ∷ []) ∙ ap (λ (l : List ℕ). encodes u ++ l) (append-nil (encode c))

pub begins_more : (rest tail : Bytes) (u : List ℕ) (c n : ℕ) → IsScalar c → BeginsSpelled rest u n → drop n rest ≡ encode c ++ tail → BeginsSpelled rest (u ++ c ∷ []) (n + length (encode c))
begins_more rest tail u c n scalar_c a is = record {
  scalar = λ d there. ⊎_elim (λ old. a.scalar d old) (λ e. subst IsScalar e scalar_c) (Contains-push_cases u c d there);
  tail = tail;
  is = a.is ∙ ap (λ (l : Bytes). encodes u ++ l) (sym (tail_is rest u n a) ∙ is) ∙ sym (append_assoc (encodes u) (encode c) tail) ∙ ap (λ (l : Bytes). l ++ tail) (sym (encodes_push u c));
  size = (let e = a.size in let f = ap (λ (l : List ℕ). length l) (encodes_push u c) in let h = length-append (encodes u) (encode c) in omega arith);
}

pub begins_follows : (rest tail : Bytes) (u v : List ℕ) (c d n m : ℕ) → BeginsSpelled rest u n → drop n rest ≡ encode c ++ tail → BeginsSpelled rest (u ++ d ∷ v) m → d ≡ c
begins_follows rest tail u v c d n m a is b = by (ways u (u ++ d ∷ v) a.tail b.tail (sym a.is ∙ b.is))
  where
    same_end : (x y z : List ℕ) → x ++ y ≡ x ++ z → y ≡ z
    same_end [] y z e = e
    same_end (h ∷ x) y z e = same_end x y z (let f : x ++ y ≡ x ++ z = cc in f)

    by : Ways u (u ++ d ∷ v) a.tail b.tail → d ≡ c
    by (on t at tails) =
        let e : d ∷ v ≡ t = same_end u (d ∷ v) t at in
        let f : encode c ++ tail ≡ encode d ++ (encodes v ++ b.tail) =
        sym is ∙ tail_is rest u n a ∙ tails ∙ ap (λ (l : List ℕ). encodes l ++ b.tail) (sym e) ∙ append_assoc (encode d) (encodes v) b.tail in
        sym (encode_same c d tail (encodes v ++ b.tail) f).0
    by (within x t at) = absurd (let l = longer_by (u ++ d ∷ v) x t in let k = longer_by u d v in let e = ap (λ (l : List ℕ). length (encodes l)) at in omega arith)
