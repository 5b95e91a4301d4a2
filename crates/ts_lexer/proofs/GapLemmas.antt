-- Past a separator.
use Rattle.std.proofs.Common.{◌≡◌, ◌∙◌, sym, ap, subst, ℕ, ◌+◌, List, [], ◌∷◌, ◌++◌, length, drop, append_assoc, length-append, arith}
use Rattle.std.specs.Str.{IsUtf8, IsCharBoundary}
use Rattle.std.proofs.Math.Utf8.{encode, encodes}
use Rattle.std.proofs.Math.Seq.{drop-append_seam}
use Rattle.std.proofs.lemmas.Str.{IsCharBoundary-at_seam, IsUtf8-past_char}
use Rattle.ts_base.specs.Bytes.{Bytes}
use Rattle.ts_core.specs.declared.flat.FlatGrammar.{FlatGrammar}
use Rattle.spec_lexing.specs.Matching.{MatchesSeparator}

tail_utf8 : (w rest tail : List ℕ) → IsUtf8 rest → rest ≡ encodes w ++ tail → IsUtf8 tail
tail_utf8 [] rest tail utf8 is = subst IsUtf8 is utf8
tail_utf8 (c ∷ w) rest tail utf8 is = tail_utf8 w (encodes w ++ tail) tail (IsUtf8-past_char rest (encodes w ++ tail) c utf8 (is ∙ append_assoc (encode c) (encodes w) tail)) (λ i. encodes w ++ tail)

pub record Gap (rest : Bytes) (n : ℕ) : Type 0 where
  pub utf8 : IsUtf8 (drop n rest)
  pub boundary : IsCharBoundary rest n
  pub within : n + length (drop n rest) ≡ length rest

pub gap : (g : FlatGrammar) (rest : Bytes) (n : ℕ) → IsUtf8 rest → MatchesSeparator g rest n → Gap rest n
gap g rest n utf8 x =
    let b = x.matches.begins in
    let w = x.matches.characters in
    let t = tail_utf8 w rest b.tail utf8 b.is in
    let d : drop n rest ≡ b.tail = ap (λ (m : ℕ). drop m rest) b.size ∙ ap (λ (l : List ℕ). drop (length (encodes w)) l) b.is ∙ drop-append_seam (encodes w) b.tail in
    record {
      utf8 = subst IsUtf8 (sym d) t;
      boundary = subst (λ (m : ℕ). IsCharBoundary rest m) (sym b.size) (IsCharBoundary-at_seam rest (encodes w) b.tail b.is t);
      within = (let e = ap (λ (l : List ℕ). length l) d in let f = ap (λ (l : List ℕ). length l) b.is in let h = length-append (encodes w) b.tail in let k = b.size in omega arith);
    }
