-- Equal bytes: the test on two lists of bytes decides whether they are equal.
use Rattle.std.proofs.Common.{◌≡◌, List, ℕ, true, false}
use Rattle.std.specs.Str.{bytes_eq}
use Rattle.std.proofs.lemmas.Bool.{false_from_ne_true}
use Rattle.std.proofs.lemmas.Slice.Eq.{bytes_eq-Decides}
use Rattle.ts_base.specs.Bytes.{Bytes}

pub same_bytes : (a b : Bytes) → bytes_eq a b ≡ true → a ≡ b
same_bytes a b h = let d = bytes_eq-Decides a b in d.0 h

pub bytes_same : (a b : Bytes) → a ≡ b → bytes_eq a b ≡ true
bytes_same a b h = let d = bytes_eq-Decides a b in d.1 h

pub bytes_apart : (a b : Bytes) → (a ≡ b → ⊥) → bytes_eq a b ≡ false
bytes_apart a b other = false_from_ne_true (bytes_eq a b) (λ e. other (same_bytes a b e))
