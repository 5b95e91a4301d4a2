-- Items by which nothing is captured.
use Rattle.std.proofs.Common.{◌≡◌, ◌∙◌, sym, ap, subst, ℕ, ◌+◌, ◌<◌, ◌≤◌, ⊎_elim, List, [], ◌∷◌, ◌++◌, length, take, get_or, slice_get, Some, Bool, true, arith}
use Rattle.std.specs.List.{Contains}
use Rattle.std.proofs.lemmas.List.{length-append, take_all}
use Rattle.std.proofs.lemmas.List.Elements.{Contains-push_cases}
use Rattle.std.proofs.lemmas.Option.{slice_get-get_or}
use Rattle.spec_matches.specs.declared.found.Capture.{Capture}
use Rattle.ts_search.specs.Table.{AreSilent, AreSilentRows}
use Rattle.ts_search.proofs.PairLemmas.{last}
use Rattle.ts_search.proofs.PlaceLemmas.{none_in_nil, same_at}
use Rattle.ts_search.proofs.TakeLemmas.{take_push}

-- each of the elements that a loop has gone over
module _ {X : Type 0} (P : X → Type 0) where
  abbrev pub EachOf : List X → Type 0
  EachOf xs = (y : X) → Contains xs y → P y

  pub each_none : EachOf []
  each_none y h = absurd (none_in_nil y h)

  pub each_more : (xs : List X) (n : ℕ) (x : X) → n < length xs → x ≡ get_or xs n x → EachOf (take n xs) → P x → EachOf (take (n + 1) xs)
  each_more xs n x below is before one y there =
      ⊎_elim (λ h. before y h) (λ e. subst P e one) (Contains-push_cases (take n xs) x y (subst (λ (l : List X). Contains l y) (take_push xs n x below is) there))

  pub each_all : (xs : List X) (n : ℕ) → length xs ≤ n → EachOf (take n xs) → EachOf xs
  each_all xs n past before y there = before y (subst (λ (l : List X). Contains l y) (sym (take_all n xs past)) there)

abbrev Table : Type 0
Table = List (List (List (List (List Capture))))

-- the first items of a table have marks
pub record AreMarked (table : Table) (n : ℕ) (silent : List Bool) : Type 0 where
  pub many : length silent ≡ n
  pub are : AreSilent table silent

pub marked_none : (table : Table) (silent : List Bool) → silent ≡ [] → AreMarked table 0 silent
marked_none table silent e = record { many = ap length e; are = λ k rows h. absurd (nothing k (subst (λ (l : List Bool). slice_get l k ≡ Some true) e h)) }
  where
    nothing : (k : ℕ) → slice_get {X = Bool} [] k ≡ Some true → ⊥
    nothing k f = cc

pub marked_more : (table : Table) (n : ℕ) (rows : List (List (List (List Capture)))) (b : Bool) (silent more : List Bool) → n < length table → rows ≡ get_or table n rows → more ≡ silent ++ b ∷ [] → (b ≡ true → AreSilentRows rows)
    → AreMarked table n silent → AreMarked table (n + 1) more
marked_more table n rows b silent more below is e one before = record {
  many = ap length e ∙ (let m = before.many in grind (arith, length-append));
  are = λ k r h at. ⊎_elim
      (λ old. before.are k r old at)
      (λ new. subst AreSilentRows
      (same_at table n rows r (slice_get-get_or table n rows below ∙ ap Some (sym is)) (subst (λ (j : ℕ). slice_get table j ≡ Some r) (new.0 ∙ before.many) at))
      (one new.1))
      (last (λ (j : ℕ) (x : Bool). Unit {0}) silent b true k (subst (λ (l : List Bool). slice_get l k ≡ Some true) e h));
}
