-- Where items take siblings next.
use Rattle.std.proofs.Common.{◌≡◌, ◌∙◌, sym, ap, subst, ℕ, ◌+◌, ◌<◌, ◌≤◌, ⊎_elim, inl, inr, List, [], ◌∷◌, ◌++◌, length, get_or, slice_get, Some, Bool, true, false, arith}
use Rattle.std.specs.Bool.{◌==◌}
use Rattle.std.specs.List.{Contains}
use Rattle.std.proofs.lemmas.List.{length-append}
use Rattle.std.proofs.lemmas.Option.{slice_get-get_or}
use Rattle.spec_matches.specs.declared.found.Capture.{Capture}
use Rattle.ts_search.specs.Next.{AreNext, AreNextIn, Counts, IsNextAt, Passes, TakesFirst, TakesIn, TakesOf}
use Rattle.ts_search.specs.Table.{AreSilentWays, Takes}
use Rattle.ts_search.proofs.PairLemmas.{last}
use Rattle.ts_search.proofs.PlaceLemmas.{cases_lt_or_eq, none_in_nil, same_at}

-- ---- places of a kind

module _ (P : ℕ → Type 0) where
  pub passes_none : (p : ℕ) → Passes P p p
  passes_none p = (omega arith, λ j low below t. omega (arith, low, below))

  -- from a later place on
  pub passes_later : (from place to : ℕ) → from ≤ place → place ≤ to → Passes P from to → Passes P place to
  passes_later from place to later on p = (on, λ j low below t. p.1 j (omega (arith, later, low)) below t)

  pub next_none : (next : List ℕ) → next ≡ [] → AreNextIn P next
  next_none next e p q at = absurd (nothing p q (subst (λ (l : List ℕ). slice_get l p ≡ Some q) e at))
    where
      nothing : (p q : ℕ) → slice_get {X = ℕ} [] p ≡ Some q → ⊥
      nothing p q f = cc

  pub next_more : (next more : List ℕ) (n to : ℕ) → length next ≡ n → more ≡ next ++ to ∷ [] → AreNextIn P next → Passes P n to → AreNextIn P more
  next_more next more n to many e before one p q at =
      ⊎_elim (λ old. before p q old)
      (λ new. subst (λ (j : ℕ). Passes P j q) (sym (new.0 ∙ many)) (subst (Passes P n) new.1 one))
      (last (λ (j : ℕ) (x : ℕ). Unit {0}) next to q p (subst (λ (l : List ℕ). slice_get l p ≡ Some q) e at))

-- the next of one kind, where those of another are of that kind
pub next_by : (P Q : ℕ → Type 0) → ((p : ℕ) → Q p → P p) → (next : List ℕ) → AreNextIn P next → AreNextIn Q next
next_by P Q to next are p q at = let h = are p q at in (h.0, λ j low below t. h.1 j low below (to j t))

-- ---- places in a row

pub silent_counts : (ways : List (List Capture)) (capturing : Bool) → AreSilentWays ways → capturing ≡ true → (c : List Capture) → Contains ways c → Counts capturing c → ⊥
silent_counts ways capturing silent it c there counts = counts it (silent c there)

pub none_counts : (ways : List (List Capture)) (capturing : Bool) → ways ≡ [] → (c : List Capture) → Contains ways c → Counts capturing c → ⊥
none_counts ways capturing e c there counts = none_in_nil c (subst (λ (l : List (List Capture)). Contains l c) e there)

pub none_in_more : (row : List (List (List Capture))) (capturing : Bool) (from place : ℕ) (ways : List (List Capture)) → slice_get row place ≡ Some ways → ((c : List Capture) → Contains ways c → Counts capturing c → ⊥)
    → ((j : ℕ) → from ≤ j → j < place → TakesIn row capturing j → ⊥) → (j : ℕ) → from ≤ j → j < place + 1 → TakesIn row capturing j → ⊥
none_in_more row capturing from place ways at none before j low below t =
    ⊎_elim (λ lt. before j low lt t)
    (λ e. none t.0 (subst (λ (l : List (List Capture)). Contains l t.0) (same_at row place t.1 ways (subst (λ (n : ℕ). slice_get row n ≡ Some t.1) e t.2) at) t.3) t.4)
    (cases_lt_or_eq j place below)

-- the next places in a row, as far as a loop has come
pub record NextSoFar (row : List (List (List Capture))) (capturing : Bool) (place to : ℕ) (next : List ℕ) : Type 0 where
  pub many : length next ≡ place
  pub are : AreNextIn (TakesIn row capturing) next
  pub from : ℕ
  pub earlier : from ≤ place
  pub known : Passes (TakesIn row capturing) from to

pub sofar_none : (row : List (List (List Capture))) (capturing : Bool) (to : ℕ) (next : List ℕ) → next ≡ [] → Passes (TakesIn row capturing) 0 to → NextSoFar row capturing 0 to next
sofar_none row capturing to next e known = record { many = ap length e; are = next_none (TakesIn row capturing) next e; from = 0; earlier = omega arith; known = known }

pub sofar_more : (row : List (List (List Capture))) (capturing : Bool) (place to after : ℕ) (next more : List ℕ) → more ≡ next ++ after ∷ [] → Passes (TakesIn row capturing) place after → NextSoFar row capturing place to next
    → NextSoFar row capturing (place + 1) after more
sofar_more row capturing place to after next more e known before = record {
  many = ap length e ∙ (let m = before.many in grind (arith, length-append));
  are = next_more (TakesIn row capturing) next more place after before.many e before.are known;
  from = place;
  earlier = omega arith;
  known = known;
}

-- ---- the first row of an item

pub not_empty : {X : Type 0} (xs : List X) → false ≡ (length xs == 0) → 0 < length xs
not_empty [] e = let f : false ≡ true = e in cc
not_empty (x ∷ xs) e = omega arith

pub next_of_row : (rows : List (List (List (List Capture)))) (capturing : Bool) (row : List (List (List Capture))) (next : List ℕ) → slice_get rows 0 ≡ Some row → AreNextIn (TakesIn row capturing) next → AreNextIn (TakesOf rows capturing) next
next_of_row rows capturing row next is are =
    next_by (TakesIn row capturing) (TakesOf rows capturing)
    (λ p t. subst (λ (r : List (List (List Capture))). TakesIn r capturing p) (same_at rows 0 t.0 row t.1 is) t.2) next are

-- ---- the items of a table

abbrev Table : Type 0
Table = List (List (List (List (List Capture))))

first_of : (table : Table) (capturing : Bool) (k : ℕ) (rows : List (List (List (List Capture)))) → slice_get table k ≡ Some rows → (p : ℕ) → TakesFirst table capturing k p → TakesOf rows capturing p
first_of table capturing k rows is p (c, t, counts) =
    let e : t.rows ≡ rows = same_at table k t.rows rows t.are_rows is in
    (t.row, subst (λ (r : List (List (List (List Capture)))). slice_get r 0 ≡ Some t.row) e t.is_row, (c, t.ways, t.are_ways, t.one, counts))

-- the next places of the first items
pub record NextOfFirst (table : Table) (capturing : Bool) (n : ℕ) (next : List (List ℕ)) : Type 0 where
  pub many : length next ≡ n
  pub are : AreNext table capturing next

pub first_none : (table : Table) (capturing : Bool) (next : List (List ℕ)) → next ≡ [] → NextOfFirst table capturing 0 next
first_none table capturing next e = record { many = ap length e; are = λ k places at. absurd (nothing k places (subst (λ (l : List (List ℕ)). slice_get l k ≡ Some places) e at)) }
  where
    nothing : (k : ℕ) (places : List ℕ) → slice_get {X = List ℕ} [] k ≡ Some places → ⊥
    nothing k places f = cc

pub first_more : (table : Table) (capturing : Bool) (n : ℕ) (rows : List (List (List (List Capture)))) (places : List ℕ) (next more : List (List ℕ)) → n < length table → rows ≡ get_or table n rows → more ≡ next ++ places ∷ []
    → AreNextIn (TakesOf rows capturing) places → NextOfFirst table capturing n next → NextOfFirst table capturing (n + 1) more
first_more table capturing n rows places next more below is e one before = record {
  many = ap length e ∙ (let m = before.many in grind (arith, length-append));
  are = λ k these at. ⊎_elim
      (λ old. before.are k these old)
      (λ new. subst (λ (j : ℕ). AreNextIn (TakesFirst table capturing j) these) (sym (new.0 ∙ before.many))
      (subst (AreNextIn (TakesFirst table capturing n)) new.1
      (next_by (TakesOf rows capturing) (TakesFirst table capturing n) (first_of table capturing n rows (slice_get-get_or table n rows below ∙ ap Some (sym is))) places one)))
      (last (λ (j : ℕ) (x : List ℕ). Unit {0}) next places these k (subst (λ (l : List (List ℕ)). slice_get l k ≡ Some these) e at));
}

-- what is looked up
pub next_is : (table : Table) (capturing : Bool) (next : List (List ℕ)) → AreNext table capturing next → (k p q : ℕ) → IsNextAt next k p q → Passes (TakesFirst table capturing k) p q
next_is table capturing next are k p q (inl e) = subst (Passes (TakesFirst table capturing k) p) (sym e) (passes_none (TakesFirst table capturing k) p)
next_is table capturing next are k p q (inr (places, is, at)) = are k places is p q at

pub any_counts : (c : List Capture) → Counts false c
any_counts c e n = let f : false ≡ true = e in cc

-- no place that an item takes is passed
pub passes_taken : (table : Table) (k from to : ℕ) → Passes (TakesFirst table false k) from to → (p : ℕ) → from ≤ p → p < to → ((c : List Capture) × Takes table k 0 p c) → ⊥
passes_taken table k from to passes p low below (c, t) = passes.1 p low below (c, t, any_counts c)
