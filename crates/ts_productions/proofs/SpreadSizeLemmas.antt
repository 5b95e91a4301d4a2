-- How many expansions alternatives have, and how long they are, by what their steps weigh.
use Rattle.std.proofs.Common.{◌≡◌, ◌∙◌, sym, ap, refl, arith, ℕ, zero, suc, ◌+◌, ◌*◌, ◌≤◌, min, max, ⊎_elim, List, [], ◌∷◌, map, ◌++◌, length, Option, Some, None, option_map, All}
use Rattle.std.specs.List.{flat_map}
use Rattle.std.proofs.lemmas.List.{length-append, length-map, map-append}
use Rattle.std.proofs.lemmas.List.Elements.{All-head, All-tail}
use lib.IntN.{ℤ}
use Rattle.ts_rules.specs.declared.size.Size.{Size}
use Rattle.ts_rules.specs.declared.tree.Alternative.{Alternative}
use Rattle.ts_rules.specs.declared.tree.NumberedStep.{NumberedStep}
use Rattle.ts_rules.specs.Alternatives.{Alternatives, stronger, longest_of}
use Rattle.ts_rules.specs.Productions.{marked_by}
use Rattle.ts_productions.specs.declared.expansion.Expansion.{Expansion}
use Rattle.ts_productions.specs.declared.weights.Weights.{Weights}
use Rattle.ts_productions.specs.Expansions.{Expansions, close, plain, last_by, Table, by_option, spread, spread_of, spread_all, onward}
use Rattle.ts_productions.specs.Sizes.{many_of, longest_by, longest_in, count_in, length_in, weigh, span, tall, total, reach, IsSizeBy, IsSizeOf, IsWeighed, AllAgree}
use Rattle.ts_productions.proofs.AlikeLemmas.{Alike, alike_cap, alike_times, alike_plus}
use Rattle.ts_productions.proofs.SizeLemmas.{none_times, zero_or, tall_some, tall_none, both_some}

longest_append : (xs ys : Alternatives) → longest_of (xs ++ ys) ≡ max (longest_of xs) (longest_of ys)
longest_append [] ys = omega arith
longest_append (x ∷ xs) ys = let e : longest_of (xs ++ ys) ≡ max (longest_of xs) (longest_of ys) = longest_append xs ys in omega arith

close_length : (b c : List NumberedStep) (l : Option NumberedStep) (f g : NumberedStep → NumberedStep) → length (close (b ++ map f c) (option_map g l)) ≡ length b + length (close c l)
close_length b c None f g = length-append b (map f c) ∙ ap (λ (n : ℕ). length b + n) (length-map c f)
close_length b c (Some s) f g =
    let one : length ((b ++ map f c) ++ g s ∷ []) ≡ length (b ++ map f c) + 1 = length-append (b ++ map f c) (g s ∷ []) in
    let two : length (b ++ map f c) ≡ length b + length (map f c) = length-append b (map f c) in
    let three : length (map f c) ≡ length c = length-map c f in
    let four : length (c ++ s ∷ []) ≡ length c + 1 = length-append c (s ∷ []) in
    omega (arith, one, two, three, four)

module _ (F : Table) where
  flat_count : (d : ℤ) (c : List NumberedStep) (s : NumberedStep) (ss : List NumberedStep) (n : ℕ) → ((y : Expansion) → length (onward F d c s ss y) ≡ n)
      → (inner : Expansions) → length (flat_map (onward F d c s ss) inner) ≡ length inner * n
  flat_count d c s ss n each [] = sym (none_times n)
  flat_count d c s ss n each (y ∷ ys) =
      let one : length (onward F d c s ss y ++ flat_map (onward F d c s ss) ys) ≡ length (onward F d c s ss y) + length (flat_map (onward F d c s ss) ys) = length-append (onward F d c s ss y) (flat_map (onward F d c s ss) ys) in
      let two : length (onward F d c s ss y) ≡ n = each y in
      let rest : length (flat_map (onward F d c s ss) ys) ≡ length ys * n = flat_count d c s ss n each ys in
      grind arith

  pub spread_count : (d : ℤ) (c : List NumberedStep) (l : Option NumberedStep) (steps : List NumberedStep) → length (spread F d c l steps) ≡ weigh (count_in F) steps
  spread_count d c l [] = refl
  spread_count d c l (s ∷ ss) = by_cases (F s.symbol) (spread_count d (close c l) (Some s) ss)
      (λ y. spread_count (stronger d y.dynamic) (close c l ++ map (marked_by s) y.steps) (option_map (last_by s) y.last) ss)
    where
      by_cases : (o : Option Expansions) → length (spread F d (close c l) (Some s) ss) ≡ weigh (count_in F) ss → ((y : Expansion) → length (onward F d (close c l) s ss y) ≡ weigh (count_in F) ss)
          → length (by_option o (spread F d (close c l) (Some s) ss) (λ (inner : Expansions). flat_map (onward F d (close c l) s ss) inner)) ≡ by_option o 1 (λ (inner : Expansions). length inner) * weigh (count_in F) ss
      by_cases None one each = one ∙ sym (grind arith)
      by_cases (Some inner) one each = flat_count d (close c l) s ss (weigh (count_in F) ss) each inner

  flat_length : (d : ℤ) (c : List NumberedStep) (s : NumberedStep) (ss : List NumberedStep) (n : ℕ)
      → ((y : Expansion) → longest_of (map plain (onward F d c s ss y)) ≡ (length c + length (close y.steps y.last)) + n)
      → (y : Expansion) (ys : Expansions) → longest_of (map plain (flat_map (onward F d c s ss) (y ∷ ys))) ≡ length c + (longest_in (y ∷ ys) + n)
  flat_length d c s ss n each y [] =
      let one : longest_of (map plain (onward F d c s ss y ++ [])) ≡ max (longest_of (map plain (onward F d c s ss y))) 0 = ap longest_of (map-append plain (onward F d c s ss y) []) ∙ longest_append (map plain (onward F d c s ss y)) [] in
      let two : longest_of (map plain (onward F d c s ss y)) ≡ (length c + length (close y.steps y.last)) + n = each y in
      omega (arith, one, two)
  flat_length d c s ss n each y (z ∷ zs) =
      let one : longest_of (map plain (onward F d c s ss y ++ flat_map (onward F d c s ss) (z ∷ zs))) ≡ max (longest_of (map plain (onward F d c s ss y))) (longest_of (map plain (flat_map (onward F d c s ss) (z ∷ zs)))) =
      ap longest_of (map-append plain (onward F d c s ss y) (flat_map (onward F d c s ss) (z ∷ zs))) ∙ longest_append (map plain (onward F d c s ss y)) (map plain (flat_map (onward F d c s ss) (z ∷ zs))) in
      let two : longest_of (map plain (onward F d c s ss y)) ≡ (length c + length (close y.steps y.last)) + n = each y in
      let rest : longest_of (map plain (flat_map (onward F d c s ss) (z ∷ zs))) ≡ length c + (longest_in (z ∷ zs) + n) = flat_length d c s ss n each z zs in
      omega (arith, one, two, rest)

  pub spread_length : (d : ℤ) (c : List NumberedStep) (l : Option NumberedStep) (steps : List NumberedStep) → 1 ≤ weigh (count_in F) steps
      → longest_of (map plain (spread F d c l steps)) ≡ length (close c l) + span (length_in F) steps
  spread_length d c l [] some = omega arith
  spread_length d c l (s ∷ ss) some = by_cases (F s.symbol) some (λ more. spread_length d (close c l) (Some s) ss more)
      (λ more y. spread_length (stronger d y.dynamic) (close c l ++ map (marked_by s) y.steps) (option_map (last_by s) y.last) ss more)
    where
      by_cases : (o : Option Expansions) → 1 ≤ by_option o 1 (λ (inner : Expansions). length inner) * weigh (count_in F) ss
          → (1 ≤ weigh (count_in F) ss → longest_of (map plain (spread F d (close c l) (Some s) ss)) ≡ length (close c l ++ s ∷ []) + span (length_in F) ss)
          → (1 ≤ weigh (count_in F) ss → (y : Expansion) → longest_of (map plain (onward F d (close c l) s ss y)) ≡ length (close (close c l ++ map (marked_by s) y.steps) (option_map (last_by s) y.last)) + span (length_in F) ss)
          → longest_of (map plain (by_option o (spread F d (close c l) (Some s) ss) (λ (inner : Expansions). flat_map (onward F d (close c l) s ss) inner))) ≡ length (close c l) + (by_option o 1 longest_in + span (length_in F) ss)
      by_cases None h one each =
          let more : 1 ≤ weigh (count_in F) ss = (both_some (count_in F) (length_in F) 1 (weigh (count_in F) ss) h).1 in
          let a : longest_of (map plain (spread F d (close c l) (Some s) ss)) ≡ length (close c l ++ s ∷ []) + span (length_in F) ss = one more in
          let b : length (close c l ++ s ∷ []) ≡ length (close c l) + 1 = length-append (close c l) (s ∷ []) in
          omega (arith, a, b)
      by_cases (Some []) h one each = absurd (let e : 0 * weigh (count_in F) ss ≡ 0 = none_times (weigh (count_in F) ss) in omega (arith, e, h))
      by_cases (Some (y ∷ ys)) h one each =
          let more : 1 ≤ weigh (count_in F) ss = (both_some (count_in F) (length_in F) (length (y ∷ ys)) (weigh (count_in F) ss) h).1 in
          flat_length d (close c l) s ss (span (length_in F) ss) (λ z. each more z ∙ ap (λ (n : ℕ). n + span (length_in F) ss) (close_length (close c l) z.steps z.last (marked_by s) (last_by s))) y ys

  pub all_count : (ps : Alternatives) → length (spread_all F ps) ≡ total (count_in F) ps
  all_count [] = refl
  all_count (p ∷ ps) =
      let one : length (spread_of F p ++ spread_all F ps) ≡ length (spread_of F p) + length (spread_all F ps) = length-append (spread_of F p) (spread_all F ps) in
      let two : length (spread_of F p) ≡ weigh (count_in F) p.steps = spread_count p.dynamic [] None p.steps in
      let rest : length (spread_all F ps) ≡ total (count_in F) ps = all_count ps in
      omega (arith, one, two, rest)

  none_length : (xs : Expansions) → length xs ≡ 0 → longest_in xs ≡ 0
  none_length [] h = refl
  none_length (x ∷ xs) h = absurd (omega arith)

  one_length : (p : Alternative) → longest_in (spread_of F p) ≡ tall (weigh (count_in F) p.steps) (span (length_in F) p.steps)
  one_length p = ⊎_elim
      (λ none. none_length (spread_of F p) (spread_count p.dynamic [] None p.steps ∙ none) ∙ sym (tall_none (count_in F) (length_in F) (weigh (count_in F) p.steps) (span (length_in F) p.steps) none))
      (λ some. spread_length p.dynamic [] None p.steps some ∙ (let e : 0 + span (length_in F) p.steps ≡ span (length_in F) p.steps = omega arith in e) ∙ sym (tall_some (count_in F) (length_in F) (weigh (count_in F) p.steps) (span (length_in F) p.steps) some))
      (zero_or (count_in F) (length_in F) (weigh (count_in F) p.steps))

  pub all_length : (ps : Alternatives) → longest_in (spread_all F ps) ≡ reach (count_in F) (length_in F) ps
  all_length [] = refl
  all_length (p ∷ ps) =
      let one : longest_in (spread_of F p ++ spread_all F ps) ≡ max (longest_in (spread_of F p)) (longest_in (spread_all F ps)) =
      ap longest_of (map-append plain (spread_of F p) (spread_all F ps)) ∙ longest_append (map plain (spread_of F p)) (map plain (spread_all F ps)) in
      one ∙ ap (λ (n : ℕ). max n (longest_in (spread_all F ps))) (one_length p) ∙ ap (λ (n : ℕ). max (tall (weigh (count_in F) p.steps) (span (length_in F) p.steps)) n) (all_length ps)

-- ---- counts that stop at the bounds

module _ (F : Table) (w : Weights) where
  pub cap_weigh : (steps : List NumberedStep) → All (λ (t : NumberedStep). IsWeighed F w t.symbol) steps → Alike 65536 (weigh (many_of w) steps) (weigh (count_in F) steps)
  cap_weigh [] all = refl
  cap_weigh (s ∷ steps) all =
      let here : IsWeighed F w s.symbol = All-head (λ (t : NumberedStep). IsWeighed F w t.symbol) s steps all in
      alike_times 65536 (many_of w s.symbol) (count_in F s.symbol) (weigh (many_of w) steps) (weigh (count_in F) steps)
      (ap (min 65536) here.0 ∙ alike_cap 65536 (count_in F s.symbol)) (cap_weigh steps (All-tail (λ (t : NumberedStep). IsWeighed F w t.symbol) s steps all))

  cap_span : (steps : List NumberedStep) → All (λ (t : NumberedStep). IsWeighed F w t.symbol) steps → Alike 256 (span (longest_by w) steps) (span (length_in F) steps)
  cap_span [] all = refl
  cap_span (s ∷ steps) all =
      let here : IsWeighed F w s.symbol = All-head (λ (t : NumberedStep). IsWeighed F w t.symbol) s steps all in
      alike_plus 256 (longest_by w s.symbol) (length_in F s.symbol) (span (longest_by w) steps) (span (length_in F) steps)
      (ap (min 256) here.1 ∙ alike_cap 256 (length_in F s.symbol)) (cap_span steps (All-tail (λ (t : NumberedStep). IsWeighed F w t.symbol) s steps all))

  cap_total : (xs : Alternatives) → AllAgree F w xs → Alike 65536 (total (many_of w) xs) (total (count_in F) xs)
  cap_total [] all = refl
  cap_total (x ∷ xs) all =
      alike_plus 65536 (weigh (many_of w) x.steps) (weigh (count_in F) x.steps) (total (many_of w) xs) (total (count_in F) xs)
      (cap_weigh x.steps (All-head (λ (y : Alternative). All (λ (t : NumberedStep). IsWeighed F w t.symbol) y.steps) x xs all))
      (cap_total xs (All-tail (λ (y : Alternative). All (λ (t : NumberedStep). IsWeighed F w t.symbol) y.steps) x xs all))

  cap_tall : (a b s t : ℕ) → Alike 65536 a b → Alike 256 s t → Alike 256 (tall a s) (tall b t)
  cap_tall zero zero s t e f = refl
  cap_tall zero (suc b) s t e f = absurd (omega arith)
  cap_tall (suc a) zero s t e f = absurd (omega arith)
  cap_tall (suc a) (suc b) s t e f = f

  cap_reach : (xs : Alternatives) → AllAgree F w xs → Alike 256 (reach (many_of w) (longest_by w) xs) (reach (count_in F) (length_in F) xs)
  cap_reach [] all = refl
  cap_reach (x ∷ xs) all =
      let here : All (λ (t : NumberedStep). IsWeighed F w t.symbol) x.steps = All-head (λ (y : Alternative). All (λ (t : NumberedStep). IsWeighed F w t.symbol) y.steps) x xs all in
      let one : Alike 256 (tall (weigh (many_of w) x.steps) (span (longest_by w) x.steps)) (tall (weigh (count_in F) x.steps) (span (length_in F) x.steps)) =
      cap_tall (weigh (many_of w) x.steps) (weigh (count_in F) x.steps) (span (longest_by w) x.steps) (span (length_in F) x.steps) (cap_weigh x.steps here) (cap_span x.steps here) in
      let rest : Alike 256 (reach (many_of w) (longest_by w) xs) (reach (count_in F) (length_in F) xs) = cap_reach xs (All-tail (λ (y : Alternative). All (λ (t : NumberedStep). IsWeighed F w t.symbol) y.steps) x xs all) in
      omega (arith, one, rest)

  -- what is counted by the bounded weights is the size of the expansions
  pub size_of_spread : (xs : Alternatives) (z : Size) → AllAgree F w xs → IsSizeBy w xs z → IsSizeOf (spread_all F xs) z
  size_of_spread xs z all is = record {
    many = is.many ∙ cap_total xs all ∙ ap (min 65536) (sym (all_count F xs));
    longest = is.longest ∙ cap_reach xs all ∙ ap (min 256) (sym (all_length F xs));
  }

  pub void_spread : (x : Alternative) → All (λ (t : NumberedStep). IsWeighed F w t.symbol) x.steps → weigh (many_of w) x.steps ≡ 0 → spread_of F x ≡ []
  void_spread x all none = empty (spread_of F x) (spread_count F x.dynamic [] None x.steps ∙ (let e = cap_weigh x.steps all in omega (arith, e, none)))
    where
      empty : (xs : Expansions) → length xs ≡ 0 → xs ≡ []
      empty [] h = refl
      empty (y ∷ ys) h = absurd (omega arith)
