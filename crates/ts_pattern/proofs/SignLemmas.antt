-- A character that stands for itself.
use Rattle.std.proofs.Common.{◌≡◌, ◌≢◌, ℕ, ◌+◌, Bool, true, false, ◌||◌, ◌∙◌}
use Rattle.std.proofs.lemmas.Bool.{cond-false, ne_eqb}
use Rattle.ts_pattern.specs.declared.sight.Sight.TheVariants.{Sees}
use Rattle.ts_pattern.specs.Characters.{Text, peek}
use Rattle.ts_pattern.specs.Signs.{char, plain}

neither : (a b : Bool) → a ≡ false → b ≡ false → (a || b) ≡ false
neither true b e f = e
neither false b e f = f

pub plain_char : (w : Text) (i : ℕ) → peek w i ≢ 92 → peek w i ≢ 46 → peek w i ≢ 40 → peek w i ≢ 41 → peek w i ≢ 124 → peek w i ≢ 42 → peek w i ≢ 43 →
    peek w i ≢ 63 → peek w i ≢ 123 → peek w i ≢ 94 → peek w i ≢ 36 → plain w i ≡ Sees (char (peek w i)) (i + 1)
plain_char w i a b d e f g h j k l m =
    cond-false _ _ _ (ne_eqb (peek w i) 92 a) ∙ cond-false _ _ _ (ne_eqb (peek w i) 46 b) ∙ cond-false _ _ _ (ne_eqb (peek w i) 40 d)
    ∙ cond-false _ _ _ (ne_eqb (peek w i) 41 e) ∙ cond-false _ _ _ (ne_eqb (peek w i) 124 f) ∙ cond-false _ _ _ (ne_eqb (peek w i) 42 g)
    ∙ cond-false _ _ _ (ne_eqb (peek w i) 43 h) ∙ cond-false _ _ _ (ne_eqb (peek w i) 63 j) ∙ cond-false _ _ _ (ne_eqb (peek w i) 123 k)
    ∙ cond-false _ _ _ (neither _ _ (ne_eqb (peek w i) 94 l) (ne_eqb (peek w i) 36 m))
