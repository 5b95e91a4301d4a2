-- A text's bytes, which are UTF-8 or not.
use Rattle.std.proofs.Common.{◌≡◌, ℕ, Bool, true, false, List, length, Result, Ok, Err, refl, ap}
use Rattle.std.specs.Prelude.{IsUtf8}
use Rattle.std.specs.Str.{is_utf8}
use Rattle.std.proofs.lemmas.Bool.{false_from_ne_true}
use Rattle.std.proofs.lemmas.Str.{IsUtf8-from_is_utf8, is_utf8-from_IsUtf8}
use Rattle.ts_langfile.specs.declared.flaw.Flaw.{Flaw}
use Rattle.ts_langfile.specs.declared.flaw.Flaw.TheVariants.{Field}
use Rattle.ts_langfile.specs.Reader.{SeenBytes, Reader, bytes_at}
use Rattle.ts_langfile.specs.Parts.{number32_at, text_at}

pub text_right : (w start t rest : List ℕ) (n : ℕ) → number32_at w ≡ Ok (n, start) → bytes_at n start ≡ Ok (t, rest) → IsUtf8 t → text_at w ≡ Ok (t, rest)
unfolding text_at
text_right w start t rest n counted there right = rw (counted, there, is_utf8-from_IsUtf8 t right) refl

pub text_wrong : (w start t rest : List ℕ) (n : ℕ) → number32_at w ≡ Ok (n, start) → bytes_at n start ≡ Ok (t, rest) → (IsUtf8 t → ⊥) → text_at w ≡ Err (Field (length start))
unfolding text_at
text_wrong w start t rest n counted there wrong = rw (counted, there, false_from_ne_true (is_utf8 t) (λ e. wrong (IsUtf8-from_is_utf8 t e))) refl
