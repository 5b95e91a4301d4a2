-- Where a text may be cut, and where bytes stop being UTF-8.
use Rattle.std.proofs.Common.{◌≡◌, ℕ, ◌<◌, length, sym, ◌∙◌, arith}
use Rattle.std.proofs.lemmas.Str.{utf8_valid_len-IsUtf8, utf8_valid_len-IsValidUpTo}
use Rattle.std.specs.Str.{IsUtf8, IsValidUpTo}
use Rattle.std.specs.Str.Lossy.{utf8_valid_len}
use Rattle.ts_base.specs.Bytes.{Bytes}
use Rattle.ts_text.specs.Text.{BreaksAt}

-- bytes that are UTF-8 break nowhere
pub whole_breaks_nowhere : (bytes : Bytes) (n : ℕ) → IsUtf8 bytes → BreaksAt bytes n → ⊥
whole_breaks_nowhere bytes n whole broken =
    let all : utf8_valid_len bytes ≡ length bytes = utf8_valid_len-IsUtf8 bytes whole in
    let some : utf8_valid_len bytes ≡ n = utf8_valid_len-IsValidUpTo bytes n broken.breaks in
    let short : n < length bytes = broken.breaks.short in
    omega arith

-- bytes break at one place
pub breaks_once : (bytes : Bytes) (m n : ℕ) → IsValidUpTo bytes m → IsValidUpTo bytes n → m ≡ n
breaks_once bytes m n one other =
    sym (utf8_valid_len-IsValidUpTo bytes m one) ∙ utf8_valid_len-IsValidUpTo bytes n other
