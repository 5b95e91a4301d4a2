-- The newest version of a journal, by its last accepted edit.
use Rattle.std.proofs.Common.{◌≡◌, ap, ℕ, zero, suc, List, [], ◌∷◌, length, map, Some, arith}
use Rattle.std.specs.List.{slice_get}
use Rattle.ts_shelf.specs.Latest.{latest_of}
use Rattle.ts_docs.specs.declared.parsed.ParsedText.{ParsedText}
use Rattle.ts_docs.specs.declared.parsed.Drafted.{Drafted}
use Rattle.ts_docs.specs.declared.book.Accepted.{Accepted}
use Rattle.ts_docs.specs.Books.{as_entry}

-- the version of the last accepted edit is the newest
pub latest_of_last : (opening : ParsedText) (xs : List Accepted) (k : ℕ) (a : Accepted)
    → suc k ≡ length xs → Some a ≡ slice_get xs k
    → latest_of (λ (d : Drafted). d.version) opening (map as_entry xs) ≡ a.version
latest_of_last opening [] k a e h = let f : ⊥ = omega (arith, e) in elim f [ ]
latest_of_last opening (x ∷ []) zero a e h = let same : x ≡ a = cc in ap (λ (b : Accepted). b.version) same
latest_of_last opening (x ∷ []) (suc j) a e h = let f : ⊥ = omega (arith, e) in elim f [ ]
latest_of_last opening (x ∷ y ∷ ys) zero a e h = let f : ⊥ = omega (arith, e) in elim f [ ]
latest_of_last opening (x ∷ y ∷ ys) (suc j) a e h =
    latest_of_last x.version (y ∷ ys) j a (omega (arith, e)) h
