-- Repetitions: steps after a symbol, and productions of which the second half repeats the first.
use Rattle.std.proofs.Common.{◌≡◌, ◌∙◌, sym, ap, refl, subst, ℕ, ◌+◌, ◌<◌, ◌≤◌, ⊎_elim, Bool, true, false, IsTrue, ◌↔◌, List, [], ◌∷◌, ◌++◌, length, true≢false, map, take, drop, arith}
use Rattle.std.proofs.lemmas.List.{take_all, take-append-drop, length-take, length-drop}
use Rattle.std.proofs.lemmas.Option.{slice_get_within}
use Rattle.ts_core.specs.declared.flat.FlatGrammar.{FlatGrammar}
use Rattle.ts_core.specs.declared.flat.FlatRule.{FlatRule}
use Rattle.ts_core.specs.declared.flat.Production.{Production}
use Rattle.ts_core.specs.declared.symbol.Symbol.{Symbol}
use Rattle.spec_tables.specs.Fit.{HasRule, Never, again_after}
use Rattle.ts_fit.specs.Misfits.{AreFitRepetitions, HasFormAt}
use Rattle.ts_fit.specs.Searches.{HasOwner, RepeatsContents}
use Rattle.ts_fit.proofs.ListLemmas.{cases_lt_or_eq, past}

pub untrue_from : (P : Type 0) → (P → ⊥) → IsTrue false ↔ P
untrue_from P no' = (λ t. absurd (true≢false (sym t)), λ p. absurd (no' p))

-- one element before a list
pub before_is : {X : Type 0} (again content rest : List X) (first bare : X) (b : Bool) → again ≡ first ∷ rest → first ≡ bare → IsTrue b ↔ rest ≡ content → IsTrue b ↔ again ≡ bare ∷ content
before_is again content rest first bare b e h test =
    (λ t. e ∙ ap (λ x. x ∷ rest) h ∙ ap (λ l. bare ∷ l) (test.0 t), λ w. test.1 (let f : first ∷ rest ≡ bare ∷ content = sym e ∙ w in cc))

module _ {X : Type 0} (g : X → X) where
  pub pairs_all : (xs : List X) (half : ℕ) → length xs ≡ half + half → take half (drop half xs) ≡ map g (take half xs) → xs ≡ take half xs ++ map g (take half xs)
  pairs_all xs half len same =
      let rest : take half (drop half xs) ≡ drop half xs = take_all half (drop half xs) (omega (arith, length-drop half xs)) in
      sym (take-append-drop half xs) ∙ ap (λ (l : List X). take half xs ++ l) (sym rest ∙ same)

-- ---- productions

pub repeated : (s : Symbol) (ps : List Production) (half k : ℕ) → 0 < half → length ps ≡ half + half → k ≤ half → half ≤ k → take k (drop half ps) ≡ map (again_after s) (take k ps) → IsTrue true ↔ RepeatsContents s ps
repeated s ps half k low len le ge same =
    let e : k ≡ half = omega arith in
    let all = subst (λ (n : ℕ). take n (drop half ps) ≡ map (again_after s) (take n ps)) e same in
    (λ t. record { contents = take half ps; some_content = filled; is = pairs_all (again_after s) ps half len all }, λ r. refl)
  where
    filled : Never (take half ps ≡ [])
    filled none = let h = ap (λ (l : List Production). length l) none in let m = length-take half ps in absurd (omega arith)

-- ---- owners

pub no_owner : (f : FlatGrammar) (r : FlatRule) → ((o : FlatRule) → Never (HasRule f r.owner o)) → IsTrue false ↔ HasOwner f r
no_owner f r none = untrue_from (HasOwner f r) (λ h. none h.0 h.1)

-- ---- the search for the first repetition without the form of one

abbrev pub FormedBefore : FlatGrammar → ℕ → Type 0
FormedBefore f place = (other : ℕ) → other < place → HasFormAt f other

pub formed_more : (f : FlatGrammar) (place : ℕ) → FormedBefore f place → HasFormAt f place → FormedBefore f (place + 1)
formed_more f place before here other lt = ⊎_elim (λ h. before other h) (λ e. subst (HasFormAt f) (sym e) here) (cases_lt_or_eq other place lt)

pub formed_all : (f : FlatGrammar) (place : ℕ) → length f.rules ≤ place → FormedBefore f place → AreFitRepetitions f
formed_all f place past before other r at = before other (let lt = slice_get_within f.rules other r at in omega arith) r at
