-- What joins of alternatives weigh.
use Rattle.std.proofs.Common.{◌≡◌, ◌∙◌, sym, ap, refl, arith, ℕ, zero, suc, ◌+◌, ◌*◌, ◌≤◌, max, ◌⊎◌, inl, inr, List, [], ◌∷◌, map, ◌++◌}
use Rattle.std.proofs.Math.Nat.{mul_assoc, le-mul_of_pos_right}
use Rattle.ts_rules.specs.declared.tree.Around.{Around}
use Rattle.ts_rules.specs.declared.tree.Alternative.{Alternative}
use Rattle.ts_rules.specs.declared.tree.NumberedStep.{NumberedStep}
use Rattle.ts_rules.specs.Alternatives.{Alternatives, joins, sequence, followed, left, last_left}
use Rattle.ts_rules.specs.Productions.{filled, unless_blank}
use Rattle.ts_productions.specs.Sizes.{weigh, span, tall, blank_of, filled_of, total, blanks, heavy, reach, reach_together}

times_plus : (a b c : ℕ) → (a + b) * c ≡ a * c + b * c
times_plus a b c = grind arith

times_plus_right : (a b c : ℕ) → a * (b + c) ≡ a * b + a * c
times_plus_right a b c = grind arith

pub times_none : (a : ℕ) → a * 0 ≡ 0
times_none a = grind arith

pub none_times : (a : ℕ) → 0 * a ≡ 0
none_times a = grind arith

-- ---- lists without numbers

pub blank_append : (xs ys : List NumberedStep) → blank_of (xs ++ ys) ≡ blank_of xs * blank_of ys
blank_append [] ys = grind arith
blank_append (x ∷ xs) ys = sym (none_times (blank_of ys))

pub blanks_append : (xs ys : Alternatives) → blanks (xs ++ ys) ≡ blanks xs + blanks ys
blanks_append [] ys = omega arith
blanks_append (x ∷ xs) ys = let e : blanks (xs ++ ys) ≡ blanks xs + blanks ys = blanks_append xs ys in omega arith

blanks_followed : (x : Alternative) (ys : Alternatives) → blanks (map (λ y. followed x y) ys) ≡ blank_of x.steps * blanks ys
blanks_followed x [] = sym (times_none (blank_of x.steps))
blanks_followed x (y ∷ ys) =
    let one : blank_of (x.steps ++ y.steps) ≡ blank_of x.steps * blank_of y.steps = blank_append x.steps y.steps in
    let rest : blanks (map (λ z. followed x z) ys) ≡ blank_of x.steps * blanks ys = blanks_followed x ys in
    let both : blank_of x.steps * (blank_of y.steps + blanks ys) ≡ blank_of x.steps * blank_of y.steps + blank_of x.steps * blanks ys = times_plus_right (blank_of x.steps) (blank_of y.steps) (blanks ys) in
    omega arith

pub blanks_joins : (xs ys : Alternatives) → blanks (joins xs ys) ≡ blanks xs * blanks ys
blanks_joins [] ys = sym (none_times (blanks ys))
blanks_joins (x ∷ xs) ys =
    let one : blanks (map (λ y. followed x y) ys ++ joins xs ys) ≡ blanks (map (λ y. followed x y) ys) + blanks (joins xs ys) = blanks_append (map (λ y. followed x y) ys) (joins xs ys) in
    let two : blanks (map (λ y. followed x y) ys) ≡ blank_of x.steps * blanks ys = blanks_followed x ys in
    let rest : blanks (joins xs ys) ≡ blanks xs * blanks ys = blanks_joins xs ys in
    let both : (blank_of x.steps + blanks xs) * blanks ys ≡ blank_of x.steps * blanks ys + blanks xs * blanks ys = times_plus (blank_of x.steps) (blanks xs) (blanks ys) in
    omega arith

blank_left : (around : Around) (steps : List NumberedStep) → blank_of (last_left around steps) ≡ blank_of steps
blank_left around [] = refl
blank_left around (s ∷ []) = refl
blank_left around (s ∷ t ∷ steps) = refl

pub blanks_left : (around : Around) (xs : Alternatives) → blanks (map (left around) xs) ≡ blanks xs
blanks_left around [] = refl
blanks_left around (x ∷ xs) =
    let one : blank_of (last_left around x.steps) ≡ blank_of x.steps = blank_left around x.steps in
    let rest : blanks (map (left around) xs) ≡ blanks xs = blanks_left around xs in
    omega arith

module _ (W : ℕ → ℕ) where
  pub weigh_append : (xs ys : List NumberedStep) → weigh W (xs ++ ys) ≡ weigh W xs * weigh W ys
  weigh_append [] ys = grind arith
  weigh_append (x ∷ xs) ys = ap (λ (n : ℕ). W x.symbol * n) (weigh_append xs ys) ∙ sym (mul_assoc (W x.symbol) (weigh W xs) (weigh W ys))

  pub total_append : (xs ys : Alternatives) → total W (xs ++ ys) ≡ total W xs + total W ys
  total_append [] ys = omega arith
  total_append (x ∷ xs) ys = let e : total W (xs ++ ys) ≡ total W xs + total W ys = total_append xs ys in omega arith

  total_followed : (x : Alternative) (ys : Alternatives) → total W (map (λ y. followed x y) ys) ≡ weigh W x.steps * total W ys
  total_followed x [] = sym (times_none (weigh W x.steps))
  total_followed x (y ∷ ys) =
      let one : weigh W (x.steps ++ y.steps) ≡ weigh W x.steps * weigh W y.steps = weigh_append x.steps y.steps in
      let rest : total W (map (λ z. followed x z) ys) ≡ weigh W x.steps * total W ys = total_followed x ys in
      let both : weigh W x.steps * (weigh W y.steps + total W ys) ≡ weigh W x.steps * weigh W y.steps + weigh W x.steps * total W ys = times_plus_right (weigh W x.steps) (weigh W y.steps) (total W ys) in
      omega arith

  pub total_joins : (xs ys : Alternatives) → total W (joins xs ys) ≡ total W xs * total W ys
  total_joins [] ys = sym (none_times (total W ys))
  total_joins (x ∷ xs) ys =
      let one : total W (map (λ y. followed x y) ys ++ joins xs ys) ≡ total W (map (λ y. followed x y) ys) + total W (joins xs ys) = total_append (map (λ y. followed x y) ys) (joins xs ys) in
      let two : total W (map (λ y. followed x y) ys) ≡ weigh W x.steps * total W ys = total_followed x ys in
      let rest : total W (joins xs ys) ≡ total W xs * total W ys = total_joins xs ys in
      let both : (weigh W x.steps + total W xs) * total W ys ≡ weigh W x.steps * total W ys + total W xs * total W ys = times_plus (weigh W x.steps) (total W xs) (total W ys) in
      omega arith

  weigh_apart : (steps : List NumberedStep) → weigh W steps ≡ blank_of steps + filled_of W steps
  weigh_apart [] = refl
  weigh_apart (s ∷ steps) = omega arith

  pub total_apart : (xs : Alternatives) → total W xs ≡ blanks xs + heavy W xs
  total_apart [] = refl
  total_apart (x ∷ xs) =
      let one : weigh W x.steps ≡ blank_of x.steps + filled_of W x.steps = weigh_apart x.steps in
      let rest : total W xs ≡ blanks xs + heavy W xs = total_apart xs in
      omega arith

  pub heavy_joins : (xs ys : Alternatives) → heavy W (joins xs ys) ≡ heavy W xs * total W ys + blanks xs * heavy W ys
  heavy_joins xs ys =
      let all : total W (joins xs ys) ≡ blanks (joins xs ys) + heavy W (joins xs ys) = total_apart (joins xs ys) in
      let product : total W (joins xs ys) ≡ total W xs * total W ys = total_joins xs ys in
      let blank : blanks (joins xs ys) ≡ blanks xs * blanks ys = blanks_joins xs ys in
      let left_side : total W xs * total W ys ≡ blanks xs * total W ys + heavy W xs * total W ys = ap (λ (n : ℕ). n * total W ys) (total_apart xs) ∙ times_plus (blanks xs) (heavy W xs) (total W ys) in
      let right_side : blanks xs * total W ys ≡ blanks xs * blanks ys + blanks xs * heavy W ys = ap (λ (n : ℕ). blanks xs * n) (total_apart ys) ∙ times_plus_right (blanks xs) (blanks ys) (heavy W ys) in
      omega arith

  pub heavy_append : (xs ys : Alternatives) → heavy W (xs ++ ys) ≡ heavy W xs + heavy W ys
  heavy_append [] ys = omega arith
  heavy_append (x ∷ xs) ys = let e : heavy W (xs ++ ys) ≡ heavy W xs + heavy W ys = heavy_append xs ys in omega arith

  weigh_left : (around : Around) (steps : List NumberedStep) → weigh W (last_left around steps) ≡ weigh W steps
  weigh_left around [] = refl
  weigh_left around (s ∷ []) = refl
  weigh_left around (s ∷ t ∷ steps) = ap (λ (n : ℕ). W s.symbol * n) (weigh_left around (t ∷ steps))

  filled_left : (around : Around) (steps : List NumberedStep) → filled_of W (last_left around steps) ≡ filled_of W steps
  filled_left around [] = refl
  filled_left around (s ∷ []) = refl
  filled_left around (s ∷ t ∷ steps) = ap (λ (n : ℕ). W s.symbol * n) (weigh_left around (t ∷ steps))

  pub heavy_left : (around : Around) (xs : Alternatives) → heavy W (map (left around) xs) ≡ heavy W xs
  heavy_left around [] = refl
  heavy_left around (x ∷ xs) =
      let one : filled_of W (last_left around x.steps) ≡ filled_of W x.steps = filled_left around x.steps in
      let rest : heavy W (map (left around) xs) ≡ heavy W xs = heavy_left around xs in
      omega arith

  -- those that are not empty
  by_steps : (x : Alternative) (steps : List NumberedStep) (rest : Alternatives) → x.steps ≡ steps → total W (unless_blank x steps ++ rest) ≡ filled_of W steps + total W rest
  by_steps x [] rest e = omega arith
  by_steps x (s ∷ steps) rest e = ap (λ (ss : List NumberedStep). weigh W ss + total W rest) e

  pub total_filled : (xs : Alternatives) → total W (filled xs) ≡ heavy W xs
  total_filled [] = refl
  total_filled (x ∷ xs) = by_steps x x.steps (filled xs) refl ∙ ap (λ (n : ℕ). filled_of W x.steps + n) (total_filled xs)

  -- ---- how long they are

  module _ (L : ℕ → ℕ) where
    pub tall_some : (w s : ℕ) → 1 ≤ w → tall w s ≡ s
    tall_some zero s h = absurd (omega arith)
    tall_some (suc w) s h = refl

    pub tall_none : (w s : ℕ) → w ≡ 0 → tall w s ≡ 0
    tall_none zero s h = refl
    tall_none (suc w) s h = absurd (omega arith)

    pub zero_or : (n : ℕ) → (n ≡ 0) ⊎ (1 ≤ n)
    zero_or zero = inl refl
    zero_or (suc n) = inr (omega arith)

    pub span_append : (xs ys : List NumberedStep) → span L (xs ++ ys) ≡ span L xs + span L ys
    span_append [] ys = omega arith
    span_append (x ∷ xs) ys = let e : span L (xs ++ ys) ≡ span L xs + span L ys = span_append xs ys in omega arith

    pub reach_append : (xs ys : Alternatives) → reach W L (xs ++ ys) ≡ max (reach W L xs) (reach W L ys)
    reach_append [] ys = omega arith
    reach_append (x ∷ xs) ys = let e : reach W L (xs ++ ys) ≡ max (reach W L xs) (reach W L ys) = reach_append xs ys in omega arith

    pub reach_none : (xs : Alternatives) → total W xs ≡ 0 → reach W L xs ≡ 0
    reach_none [] h = refl
    reach_none (x ∷ xs) h =
        let one : tall (weigh W x.steps) (span L x.steps) ≡ 0 = tall_none (weigh W x.steps) (span L x.steps) (omega arith) in
        let rest : reach W L xs ≡ 0 = reach_none xs (omega arith) in
        omega arith

    product_some : (a b : ℕ) → 1 ≤ a → 1 ≤ b → 1 ≤ a * b
    product_some a b h k = let e : a ≤ a * b = le-mul_of_pos_right a (omega arith) in omega arith

    reach_followed : (x : Alternative) (ys : Alternatives) → 1 ≤ weigh W x.steps → 1 ≤ total W ys → reach W L (map (λ y. followed x y) ys) ≡ span L x.steps + reach W L ys
    reach_followed x [] some more = absurd (omega arith)
    reach_followed x (y ∷ ys) some more = by_both (zero_or (weigh W y.steps)) (zero_or (total W ys)) (λ h. reach_followed x ys some h)
      where
        here : weigh W (x.steps ++ y.steps) ≡ weigh W x.steps * weigh W y.steps
        here = weigh_append x.steps y.steps

        long_here : span L (x.steps ++ y.steps) ≡ span L x.steps + span L y.steps
        long_here = span_append x.steps y.steps

        by_both : (weigh W y.steps ≡ 0) ⊎ (1 ≤ weigh W y.steps) → (total W ys ≡ 0) ⊎ (1 ≤ total W ys) → (1 ≤ total W ys → reach W L (map (λ z. followed x z) ys) ≡ span L x.steps + reach W L ys)
            → max (tall (weigh W (x.steps ++ y.steps)) (span L (x.steps ++ y.steps))) (reach W L (map (λ z. followed x z) ys)) ≡ span L x.steps + max (tall (weigh W y.steps) (span L y.steps)) (reach W L ys)
        by_both (inl none) (inl done) go = absurd (omega (arith, more, none, done))
        by_both (inl none) (inr left_over) go =
            let one : tall (weigh W (x.steps ++ y.steps)) (span L (x.steps ++ y.steps)) ≡ 0 = tall_none (weigh W (x.steps ++ y.steps)) (span L (x.steps ++ y.steps)) (here ∙ ap (λ (n : ℕ). weigh W x.steps * n) none ∙ times_none (weigh W x.steps)) in
            let two : tall (weigh W y.steps) (span L y.steps) ≡ 0 = tall_none (weigh W y.steps) (span L y.steps) none in
            let rest : reach W L (map (λ z. followed x z) ys) ≡ span L x.steps + reach W L ys = go left_over in
            omega arith
        by_both (inr there) (inl done) go =
            let one : tall (weigh W (x.steps ++ y.steps)) (span L (x.steps ++ y.steps)) ≡ span L (x.steps ++ y.steps) = tall_some (weigh W (x.steps ++ y.steps)) (span L (x.steps ++ y.steps)) (let e : 1 ≤ weigh W x.steps * weigh W y.steps = product_some (weigh W x.steps) (weigh W y.steps) some there in omega (arith, here, e)) in
            let two : tall (weigh W y.steps) (span L y.steps) ≡ span L y.steps = tall_some (weigh W y.steps) (span L y.steps) there in
            let rest : reach W L (map (λ z. followed x z) ys) ≡ 0 = reach_none (map (λ z. followed x z) ys) (total_followed x ys ∙ ap (λ (n : ℕ). weigh W x.steps * n) done ∙ times_none (weigh W x.steps)) in
            let last : reach W L ys ≡ 0 = reach_none ys done in
            omega (arith, one, two, rest, last, long_here)
        by_both (inr there) (inr left_over) go =
            let one : tall (weigh W (x.steps ++ y.steps)) (span L (x.steps ++ y.steps)) ≡ span L (x.steps ++ y.steps) = tall_some (weigh W (x.steps ++ y.steps)) (span L (x.steps ++ y.steps)) (let e : 1 ≤ weigh W x.steps * weigh W y.steps = product_some (weigh W x.steps) (weigh W y.steps) some there in omega (arith, here, e)) in
            let two : tall (weigh W y.steps) (span L y.steps) ≡ span L y.steps = tall_some (weigh W y.steps) (span L y.steps) there in
            let rest : reach W L (map (λ z. followed x z) ys) ≡ span L x.steps + reach W L ys = go left_over in
            omega (arith, one, two, rest, long_here)

    reach_some : (xs ys : Alternatives) → 1 ≤ total W xs → 1 ≤ total W ys → reach W L (joins xs ys) ≡ reach W L xs + reach W L ys
    reach_some [] ys some more = absurd (omega arith)
    reach_some (x ∷ xs) ys some more = by_both (zero_or (weigh W x.steps)) (zero_or (total W xs)) (λ h. reach_some xs ys h more)
      where
        apart : reach W L (map (λ y. followed x y) ys ++ joins xs ys) ≡ max (reach W L (map (λ y. followed x y) ys)) (reach W L (joins xs ys))
        apart = reach_append (map (λ y. followed x y) ys) (joins xs ys)

        by_both : (weigh W x.steps ≡ 0) ⊎ (1 ≤ weigh W x.steps) → (total W xs ≡ 0) ⊎ (1 ≤ total W xs) → (1 ≤ total W xs → reach W L (joins xs ys) ≡ reach W L xs + reach W L ys)
            → reach W L (map (λ y. followed x y) ys ++ joins xs ys) ≡ max (tall (weigh W x.steps) (span L x.steps)) (reach W L xs) + reach W L ys
        by_both (inl none) (inl done) go = absurd (omega (arith, some, none, done))
        by_both (inl none) (inr left_over) go =
            let one : tall (weigh W x.steps) (span L x.steps) ≡ 0 = tall_none (weigh W x.steps) (span L x.steps) none in
            let two : reach W L (map (λ y. followed x y) ys) ≡ 0 = reach_none (map (λ y. followed x y) ys) (total_followed x ys ∙ ap (λ (n : ℕ). n * total W ys) none ∙ none_times (total W ys)) in
            let rest : reach W L (joins xs ys) ≡ reach W L xs + reach W L ys = go left_over in
            omega (arith, one, two, rest, apart)
        by_both (inr there) (inl done) go =
            let one : tall (weigh W x.steps) (span L x.steps) ≡ span L x.steps = tall_some (weigh W x.steps) (span L x.steps) there in
            let two : reach W L (map (λ y. followed x y) ys) ≡ span L x.steps + reach W L ys = reach_followed x ys there more in
            let rest : reach W L (joins xs ys) ≡ 0 = reach_none (joins xs ys) (total_joins xs ys ∙ ap (λ (n : ℕ). n * total W ys) done ∙ none_times (total W ys)) in
            let last : reach W L xs ≡ 0 = reach_none xs done in
            omega (arith, one, two, rest, last, apart)
        by_both (inr there) (inr left_over) go =
            let one : tall (weigh W x.steps) (span L x.steps) ≡ span L x.steps = tall_some (weigh W x.steps) (span L x.steps) there in
            let two : reach W L (map (λ y. followed x y) ys) ≡ span L x.steps + reach W L ys = reach_followed x ys there more in
            let rest : reach W L (joins xs ys) ≡ reach W L xs + reach W L ys = go left_over in
            omega (arith, one, two, rest, apart)

    pub both_some : (a b : ℕ) → 1 ≤ a * b → (1 ≤ a) × (1 ≤ b)
    both_some zero b h = absurd (let e : 0 * b ≡ 0 = none_times b in omega arith)
    both_some (suc a) zero h = absurd (let e : suc a * 0 ≡ 0 = times_none (suc a) in omega arith)
    both_some (suc a) (suc b) h = (omega arith, omega arith)

    pub reach_joins : (xs ys : Alternatives) → 1 ≤ total W (joins xs ys) → reach W L (joins xs ys) ≡ reach W L xs + reach W L ys
    reach_joins xs ys some =
        let both : (1 ≤ total W xs) × (1 ≤ total W ys) = both_some (total W xs) (total W ys) (let e : total W (joins xs ys) ≡ total W xs * total W ys = total_joins xs ys in omega arith) in
        reach_some xs ys both.0 both.1

    pub reach_sequence : (parts : List Alternatives) → 1 ≤ total W (sequence parts) → reach W L (sequence parts) ≡ reach_together W L parts
    reach_sequence [] some = refl
    reach_sequence (xs ∷ parts) some =
        let both : (1 ≤ total W xs) × (1 ≤ total W (sequence parts)) = both_some (total W xs) (total W (sequence parts)) (let e : total W (joins xs (sequence parts)) ≡ total W xs * total W (sequence parts) = total_joins xs (sequence parts) in omega arith) in
        reach_joins xs (sequence parts) some ∙ ap (λ (n : ℕ). reach W L xs + n) (reach_sequence parts both.1)

    span_left : (around : Around) (steps : List NumberedStep) → span L (last_left around steps) ≡ span L steps
    span_left around [] = refl
    span_left around (s ∷ []) = refl
    span_left around (s ∷ t ∷ steps) = ap (λ (n : ℕ). L s.symbol + n) (span_left around (t ∷ steps))

    pub reach_left : (around : Around) (xs : Alternatives) → reach W L (map (left around) xs) ≡ reach W L xs
    reach_left around [] = refl
    reach_left around (x ∷ xs) =
        ap (λ (n : ℕ). max (tall n (span L (last_left around x.steps))) (reach W L (map (left around) xs))) (weigh_left around x.steps)
        ∙ ap (λ (n : ℕ). max (tall (weigh W x.steps) n) (reach W L (map (left around) xs))) (span_left around x.steps)
        ∙ ap (λ (n : ℕ). max (tall (weigh W x.steps) (span L x.steps)) n) (reach_left around xs)

    reach_by : (x : Alternative) (steps : List NumberedStep) (rest : Alternatives) → x.steps ≡ steps → reach W L (unless_blank x steps ++ rest) ≡ max (tall (weigh W steps) (span L steps)) (reach W L rest)
    reach_by x [] rest e = omega arith
    reach_by x (s ∷ steps) rest e = ap (λ (ss : List NumberedStep). max (tall (weigh W ss) (span L ss)) (reach W L rest)) e

    pub reach_filled : (xs : Alternatives) → reach W L (filled xs) ≡ reach W L xs
    reach_filled [] = refl
    reach_filled (x ∷ xs) = reach_by x x.steps (filled xs) refl ∙ ap (λ (n : ℕ). max (tall (weigh W x.steps) (span L x.steps)) n) (reach_filled xs)
