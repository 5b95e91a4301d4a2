-- Shelves that are closed one after the other.
use Rattle.std.proofs.Common.{◌≡◌, subst, ◌+◌, ⊎_elim, List, [], ◌∷◌, ◌++◌, length, arith}
use Rattle.std.proofs.lemmas.List.{length-append}
use Rattle.ts_base.proofs.PlaceLemmas.{push_cases}
use Rattle.ts_shelf.specs.Calls.{Closes}
use Rattle.ts_docs.specs.declared.parsed.Pages.{Pages}
use Rattle.ts_workers.specs.declared.front.Front.{Front}
use Rattle.ts_workers.specs.Joins.{AreClosed}

-- the book is that of the document's shelf
abbrev pub IsClosed : Front → Pages → Type 0
IsClosed f b = Closes (λ (p : Pages). p.entries) (λ (p : Pages). p.room) (λ (p : Pages). p.opening) f.pass.knows b

pub closed_one : (fronts : List Front) (books : List Pages) (f : Front) (b : Pages) → AreClosed fronts books → IsClosed f b → AreClosed (fronts ++ f ∷ []) (books ++ b ∷ [])
closed_one fronts books f b are is = record {
  count =
      let m : length (fronts ++ f ∷ []) ≡ length fronts + 1 = length-append fronts (f ∷ []) in
      let n : length (books ++ b ∷ []) ≡ length books + 1 = length-append books (b ∷ []) in
      let same = are.count in
      omega (arith, m, n, same);
  each = λ document x y x_is y_is. ⊎_elim
      (λ w. ⊎_elim
      (λ v. are.each document x y w.1 v.1)
      (λ v. absurd (let lt = w.0 in let e = v.0 in let same = are.count in omega (arith, lt, e, same)))
      (push_cases books b document y y_is))
      (λ w. ⊎_elim
      (λ v. absurd (let lt = v.0 in let e = w.0 in let same = are.count in omega (arith, lt, e, same)))
      (λ v. subst (λ (z : Pages). IsClosed x z) v.1 (subst (λ (z : Front). IsClosed z b) w.1 is))
      (push_cases books b document y y_is))
      (push_cases fronts f document x x_is);
}
