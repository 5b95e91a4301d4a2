-- What several threads made of the items of a list, in their order.
use Rattle.std.proofs.Common.{◌≡◌, sym, subst, List, [], ◌∷◌, map}
use Rattle.std.specs.Prelude.{Ok, Err, IfOk, MatchResult, Contains}
use Rattle.std.specs.declared.result.Result.{Result}
use Rattle.std.specs.Global.{Vec}
use Rattle.std.specs.List.{AllZip}

module _ {X Y : Type 0} (E : Type 0) (R : X → Y → Type 0) where
  -- each answer is one for its item, if it has a value
  abbrev pub AreAnswers : List X → List (Result Y E) → Type 0
  AreAnswers = AllZip (λ x r. IfOk r (R x))

  all_ok : (xs : List X) (ys : List Y) → AreAnswers xs (map Ok ys) → AllZip R xs ys
  all_ok [] [] h = h
  all_ok [] (y ∷ ys) h = absurd h
  all_ok (x ∷ xs) [] h = absurd h
  all_ok (x ∷ xs) (y ∷ ys) h = (h.0, all_ok xs ys h.1)

  -- where all answers have values, each value is one for its item
  pub all_made : (xs : List X) (answers : List (Result Y E)) (all : Result (Vec Y) E) → AreAnswers xs answers
      → MatchResult all (λ (v : Vec Y). (ys : List Y) × (answers ≡ map Ok ys) × (v.items ≡ ys)) (λ (e : E). Contains answers (Err e))
      → IfOk all (λ (v : Vec Y). AllZip R xs v.items)
  all_made xs answers (Ok v) each is = subst (λ (ys : List Y). AllZip R xs ys) (sym is.2) (all_ok xs is.0 (subst (λ (rs : List (Result Y E)). AreAnswers xs rs) is.1 each))
  all_made xs answers (Err e) each is = tt
