-- Names in pointers: escaped character by character, they are escaped byte by byte.
use Rattle.std.proofs.Common.{◌≡◌, ◌∙◌, sym, ap, refl, ℕ, ◌+◌, ◌/◌, ◌%◌, ◌<◌, ◌≤◌, ◌≢◌, Bool, true, false, cond, nat_lt, List, [], ◌∷◌, ◌++◌, append_assoc, map, arith}
use Rattle.std.specs.Char.{encode_utf8}
use Rattle.std.specs.Str.{encode_utf8_all, chars, IsUtf8}
use Rattle.std.proofs.lemmas.Bool.Decides.{nat_tests}
use Rattle.std.proofs.lemmas.Str.{encodes-append, encodes-chars}
use Rattle.std.proofs.lemmas.List.{append-nil, map-id}
use Rattle.ts_base.specs.Bytes.{Bytes}
use Rattle.ts_grammar_json.specs.Pointer.{escape_of, escaped}

pub escaped_append : (a b : Bytes) → escaped (a ++ b) ≡ escaped a ++ escaped b
escaped_append [] b = refl
escaped_append (byte ∷ a) b = ap (λ (w : Bytes). escape_of byte ++ w) (escaped_append a b) ∙ sym (append_assoc (escape_of byte) (escaped a) (escaped b))

high : (byte : ℕ) → 128 ≤ byte → escape_of byte ≡ byte ∷ []
high byte h = grind (arith, nat_tests)

high_one : (byte : ℕ) (rest : Bytes) → 128 ≤ byte → escaped rest ≡ rest → escaped (byte ∷ rest) ≡ byte ∷ rest
high_one byte rest h e = ap (λ (w : Bytes). w ++ escaped rest) (high byte h) ∙ ap (λ (w : Bytes). byte ∷ w) e

-- a character of more than one byte stands for itself
pub wide : (c : ℕ) → 128 ≤ c → escaped (encode_utf8 c) ≡ encode_utf8 c
unfolding encode_utf8
wide c h = by (nat_lt c 128) (grind (arith, nat_tests)) (nat_lt c 2048) (nat_lt c 65536)
  where
    next : (n : ℕ) → 128 ≤ 128 + n % 64
    next n = omega arith

    by : (a : Bool) → a ≡ false → (b d : Bool) → escaped (cond a (c ∷ []) (cond b ((192 + c / 64) ∷ (128 + c % 64) ∷ []) (cond d ((224 + c / 4096) ∷ (128 + (c / 64) % 64) ∷ (128 + c % 64) ∷ []) ((240 + c / 262144) ∷ (128 + (c / 4096) % 64) ∷ (128 + (c / 64) % 64) ∷ (128 + c % 64) ∷ [])))) ≡ cond a (c ∷ []) (cond b ((192 + c / 64) ∷ (128 + c % 64) ∷ []) (cond d ((224 + c / 4096) ∷ (128 + (c / 64) % 64) ∷ (128 + c % 64) ∷ []) ((240 + c / 262144) ∷ (128 + (c / 4096) % 64) ∷ (128 + (c / 64) % 64) ∷ (128 + c % 64) ∷ [])))
    by true apart b d = absurd (cc)
    by false e true d = high_one _ _ (omega arith) (high_one _ _ (next c) refl)
    by false e false true = high_one _ _ (omega arith) (high_one _ _ (next (c / 64)) (high_one _ _ (next c) refl))
    by false e false false = high_one _ _ (omega arith) (high_one _ _ (next (c / 4096)) (high_one _ _ (next (c / 64)) (high_one _ _ (next c) refl)))

pub narrow : (c : ℕ) → c < 128 → encode_utf8 c ≡ c ∷ []
unfolding encode_utf8
narrow c h = grind (arith, nat_tests)

-- a character that is neither ~ nor / stands for itself
pub plain : (c : ℕ) → c ≢ 126 → c ≢ 47 → escaped (encode_utf8 c) ≡ encode_utf8 c
plain c tilde slash = by (nat_lt c 128) refl
  where
    here : escape_of c ≡ c ∷ []
    here = grind (arith, nat_tests)

    by : (b : Bool) → nat_lt c 128 ≡ b → escaped (encode_utf8 c) ≡ encode_utf8 c
    by true e = let n = narrow c (grind (arith, nat_tests)) in ap escaped n ∙ ap (λ (w : Bytes). w ++ []) here ∙ sym n
    by false e = wide c (grind (arith, nat_tests))

-- one more character, behind those that are escaped
pub escaped_push : (s t : Bytes) (cs : List ℕ) (c : ℕ) → t ≡ s ++ escaped (encode_utf8 c) → s ≡ 47 ∷ escaped (encode_utf8_all cs) → t ≡ 47 ∷ escaped (encode_utf8_all (cs ++ c ∷ []))
escaped_push s t cs c e so_far =
    e ∙ ap (λ (w : Bytes). w ++ escaped (encode_utf8 c)) so_far
    ∙ ap (λ (w : Bytes). 47 ∷ w) (sym (escaped_append (encode_utf8_all cs) (encode_utf8 c)) ∙ ap escaped (sym (encodes-append cs (c ∷ []) ∙ ap (λ (w : Bytes). encode_utf8_all cs ++ w) (append-nil (encode_utf8 c)))))

pub escaped_all : (name : Bytes) (cs : List ℕ) → IsUtf8 name → map (λ (x : ℕ). x) cs ≡ chars name → encode_utf8_all cs ≡ name
escaped_all name cs utf8 all = ap encode_utf8_all (sym (map-id cs) ∙ all) ∙ encodes-chars name utf8
