-- What lexing comes to is decided by the bytes that are examined.
use Rattle.std.proofs.Common.{◌≡◌, ◌∙◌, sym, ap, refl, ℕ, zero, suc, ◌+◌, ◌≤◌, List, [], ◌∷◌, drop, slice_get, arith}
use Rattle.std.proofs.lemmas.Option.{slice_get_past}
use Rattle.ts_base.specs.Bytes.{Bytes}
use Rattle.ts_core.specs.declared.flat.FlatGrammar.{FlatGrammar}
use Rattle.spec_lexing.specs.Lexing.{Found}
use Rattle.spec_lexing.specs.Seen.{Agree}
use Rattle.spec_forced.specs.Forced.{HaveSameItems, IsDecided}
use Rattle.spec_forced.proofs.ItemLemmas.{valid_same}

pub get_drop : (m : ℕ) (xs : Bytes) (k : ℕ) → slice_get (drop m xs) k ≡ slice_get xs (m + k)
get_drop zero xs k = ap (λ (i : ℕ). slice_get xs i) (let e : k ≡ 0 + k = omega arith in e)
get_drop (suc m) [] k = slice_get_past (drop (suc m) []) k (omega arith) ∙ sym (slice_get_past [] (suc m + k) (omega arith))
get_drop (suc m) (x ∷ xs) k = get_drop m xs k ∙ ap (λ (i : ℕ). slice_get (x ∷ xs) i) (let e : suc (m + k) ≡ suc m + k = omega arith in e)

pub agree_drop : (e m r : ℕ) (a b : Bytes) → m + e ≤ r → Agree r a b → Agree e (drop m a) (drop m b)
agree_drop e m r a b le agree k lt = get_drop m a k ∙ agree (m + k) (omega (arith, le, lt)) ∙ sym (get_drop m b k)

pub agree_less : (q r : ℕ) (a b : Bytes) → q ≤ r → Agree r a b → Agree q a b
agree_less q r a b le agree k lt = agree k (omega (arith, le, lt))

pub agree_chain : (e : ℕ) (a b c : Bytes) → Agree e a b → Agree e b c → Agree e a c
agree_chain e a b c f h k lt = f k lt ∙ h k lt

pub agree_self : (e : ℕ) (a : Bytes) → Agree e a a
agree_self e a k lt = refl

pub decided_same : (g : FlatGrammar) (a b : List ℕ) (rest : Bytes) (f : Found) (e : ℕ) → HaveSameItems g a b → IsDecided g a rest f e → IsDecided g b rest f e
decided_same g a b rest f e same d = (d.0, valid_same g a b d.0 same d.1, d.2)

pub decided_again : (g : FlatGrammar) (read : List ℕ) (rest text : Bytes) (f : Found) (e : ℕ) → Agree e rest text → IsDecided g read rest f e → IsDecided g read text f e
decided_again g read rest text f e agree d = (d.0, d.1, λ other h. d.2 other (agree_chain e rest text other agree h))
