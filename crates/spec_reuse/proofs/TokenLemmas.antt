-- A token that can come after a reduction is one on which the reduction is at hand.
use Rattle.std.proofs.Common.{◌≡◌, ◌∙◌, sym, ap, refl, subst, ℕ, zero, suc, ◌+◌, ◌≤◌, List, [], ◌∷◌, ◌++◌, length, take, drop, reverse, slice_get, Option, Some, None, unwrap_or, option_map, get_or, arith}
use Rattle.std.proofs.lemmas.List.{take_more, take_all, reverse-append, length-map}
use Rattle.std.proofs.lemmas.Option.{slice_get-map, slice_get_within, get_or_from_slice_get, slice_get-get_or, slice_get_past}
use Rattle.ts_core.specs.declared.flat.FlatGrammar.{FlatGrammar}
use Rattle.ts_core.specs.declared.flat.Production.{Production}
use Rattle.ts_core.specs.declared.flat.Step.{Step}
use Rattle.spec_grammar.specs.Symbols.{production_at}
use Rattle.spec_tables.specs.Items.{Item, Line, line_steps, plain_step, start_item, IsBefore, IsProductionOf, CanBeginWith, itself, by_first, MayStandBehind, AsksFor, advanced, Valid, begun, asked, advanced_past}
use Rattle.spec_tables.specs.Actions.{shift, reduce, accept, Reduces, may_shift, may_reduce, may_accept}
use Rattle.spec_trees.specs.Made.{step_symbols}
use Rattle.spec_runs.specs.Configurations.{HasMove}
use Rattle.spec_runs.specs.Moves.{IsUnused}

-- ---- lists

split_at : (xs : List ℕ) (k x : ℕ) → slice_get xs k ≡ Some x → xs ≡ take k xs ++ x ∷ drop (suc k) xs
split_at [] k x e = absurd (let w = slice_get_within [] k x e in omega (arith, w))
split_at (y ∷ ys) zero x e = let q : y ≡ x = (let h : Some y ≡ Some x = e in cc) in ap (λ (z : ℕ). z ∷ ys) q
split_at (y ∷ ys) (suc k) x e = ap (λ (zs : List ℕ). y ∷ zs) (split_at ys k x e)

take_next : (xs : List ℕ) (n x : ℕ) → slice_get xs n ≡ Some x → reverse (take (suc n) xs) ≡ x ∷ reverse (take n xs)
take_next xs n x h =
    ap (λ (m : ℕ). reverse (take m xs)) (let e : suc n ≡ n + 1 = omega arith in e)
    ∙ ap reverse (take_more xs n x (slice_get_within xs n x h) ∙ ap (λ (y : ℕ). take n xs ++ y ∷ []) (get_or_from_slice_get xs n x x h)) ∙ reverse-append (take n xs) (x ∷ [])

abbrev pub name_of : Step → ℕ
name_of step = step.symbol.0

-- ---- the symbol that no step names

steps_of : (g : FlatGrammar) (number left : ℕ) (p : Production) → production_at g number ≡ Some (left, p) → line_steps g (Some number) ≡ p.steps
steps_of g number left p at = ap (λ (o : Option (ℕ × Production)). unwrap_or (option_map (λ (q : ℕ × Production). q.1.steps) o) []) at

-- a step before a dot of a production is one of its symbols
named : (g : FlatGrammar) (number : ℕ) (dot : ℕ) (step : Step) → slice_get (line_steps g (Some number)) dot ≡ Some step → IsUnused g step.symbol.0 → ⊥
named g number dot step before unused = by (production_at g number) refl before
  where
    by : (o : Option (ℕ × Production)) → production_at g number ≡ o → slice_get (unwrap_or (option_map (λ (q : ℕ × Production). q.1.steps) o) []) dot ≡ Some step → ⊥
    by None e h = let w = slice_get_within [] dot step h in omega (arith, w)
    by (Some q) e h =
        let at : slice_get (step_symbols q.1) dot ≡ Some step.symbol.0 = slice_get-map name_of q.1.steps dot ∙ ap (option_map name_of) h in
        unused number q.0 q.1 e (take dot (step_symbols q.1)) (drop (suc dot) (step_symbols q.1)) (split_at (step_symbols q.1) dot step.symbol.0 at)

-- the start item is valid with its dot at the start only where nothing was read
at_start : (g : FlatGrammar) (read : List ℕ) (i : Item) → Valid g read i → i.dot ≡ 0 → i.line ≡ None → read ≡ []
at_start g _ _ begun none line = refl
at_start g read _ (asked _ i j v a) none line = absurd (let e : Some a.number ≡ None = sym a.line ∙ line in cc)
at_start g _ _ (advanced_past read i step v b) none line = absurd (let e : suc i.dot ≡ 0 = none in omega arith)

start_dot : (g : FlatGrammar) (dot : ℕ) (step : Step) → slice_get (line_steps g None) dot ≡ Some step → dot ≡ 0
start_dot g dot step before = let w = slice_get_within (line_steps g None) dot step before in omega (arith, w)

-- an item stands before an unused symbol only where nothing was read
before_unused : (g : FlatGrammar) (read : List ℕ) (i : Item) (step : Step) → Valid g read i → IsBefore g i step → IsUnused g step.symbol.0 → read ≡ []
before_unused g read i step v before unused = by i.line refl
  where
    by : (l : Line) → i.line ≡ l → read ≡ []
    by None e = at_start g read i v (start_dot g i.dot step (subst (λ (l : Line). slice_get (line_steps g l) i.dot ≡ Some step) e before)) e
    by (Some number) e = absurd (named g number i.dot step (subst (λ (l : Line). slice_get (line_steps g l) i.dot ≡ Some step) e before) unused)

-- ---- going on through a production

abbrev item_of : ℕ → ℕ → ℕ → Item
item_of number dot t = record { line = Some number; dot = dot; token = t }

module _ (g : FlatGrammar) (number left : ℕ) (p : Production) (at : production_at g number ≡ Some (left, p)) (t : ℕ) (earlier : List ℕ) where
  goes_on : Valid g earlier (item_of number 0 t) → (k : ℕ) → k ≤ length p.steps → Valid g (reverse (take k (step_symbols p)) ++ earlier) (item_of number k t)
  goes_on v zero le = v
  goes_on v (suc k) le =
      let step : Step = get_or p.steps k (plain_step 0) in
      let there : slice_get p.steps k ≡ Some step = slice_get-get_or p.steps k (plain_step 0) (let h : suc k ≤ length p.steps = le in omega (arith, h)) in
      let before : slice_get (line_steps g (Some number)) k ≡ Some step = ap (λ (s : List Step). slice_get s k) (steps_of g number left p at) ∙ there in
      let next : slice_get (step_symbols p) k ≡ Some step.symbol.0 = slice_get-map name_of p.steps k ∙ ap (option_map name_of) there in
      let deeper : Valid g (reverse (take k (step_symbols p)) ++ earlier) (item_of number k t) = goes_on v k (let h : suc k ≤ length p.steps = le in omega (arith, h)) in
      subst (λ (l : List ℕ). Valid g (l ++ earlier) (item_of number (suc k) t)) (sym (take_next (step_symbols p) k step.symbol.0 next))
      (advanced_past (reverse (take k (step_symbols p)) ++ earlier) (item_of number k t) step deeper before)

  through : Valid g earlier (item_of number 0 t) → Reduces g (reverse (step_symbols p) ++ earlier) t (item_of number (length p.steps) t)
  through v = record {
    number = number;
    valid = subst (λ (l : List ℕ). Valid g (reverse l ++ earlier) (item_of number (length p.steps) t))
        (take_all (length p.steps) (step_symbols p) (omega (arith, length-map p.steps name_of)))
        (goes_on v (length p.steps) (omega arith));
    line = refl;
    complete = ap (λ (s : List Step). length s) (sym (steps_of g number left p at));
    on = refl;
  }

-- ---- what can come next

-- the dot stands before a step that can begin with the token, or at the end with the token behind
abbrev Next : FlatGrammar → Item → ℕ → Type 0
Next g i t = MayStandBehind g (slice_get (line_steps g i.line) i.dot) i.token t

module _ (g : FlatGrammar) (empty : (number left : ℕ) (p : Production) → production_at g number ≡ Some (left, p) → p.steps ≡ [] → IsUnused g left) (number left : ℕ) (p : Production) (at : production_at g number ≡ Some (left, p)) (earlier : List ℕ) (t : ℕ) where
  -- what can begin a production can begin its symbol
  begins_symbol : (read : List ℕ) (i j : Item) → Valid g read i → read ≡ left ∷ earlier → (a : AsksFor g i j) → Next g j t → CanBeginWith g a.step.symbol.0 t
  begins_symbol read i j v is a next = by (slice_get (line_steps g (Some a.number)) 0) refl
      (subst (λ (d : ℕ). MayStandBehind g (slice_get (line_steps g (Some a.number)) d) j.token t) a.begins
      (subst (λ (l : Line). MayStandBehind g (slice_get (line_steps g l) j.dot) j.token t) a.line next))
    where
      none : slice_get (line_steps g (Some a.number)) 0 ≡ None → ⊥
      none e =
          let steps : line_steps g (Some a.number) ≡ a.production.0.steps = steps_of g a.number a.step.symbol.0 a.production.0 a.production.1 in
          let unused = empty a.number a.step.symbol.0 a.production.0 a.production.1 (no_first a.production.0.steps (ap (λ (s : List Step). slice_get s 0) (sym steps) ∙ e)) in
          let read_none : read ≡ [] = before_unused g read i a.step v a.before unused in
          let h : [] ≡ left ∷ earlier = sym read_none ∙ is in
          cc
        where
          no_first : (s : List Step) → slice_get s 0 ≡ None → s ≡ []
          no_first [] q = refl
          no_first (x ∷ xs) q = absurd (let h : Some x ≡ None = q in cc)

      by : (o : Option Step) → slice_get (line_steps g (Some a.number)) 0 ≡ o → MayStandBehind g o j.token t → CanBeginWith g a.step.symbol.0 t
      by None e h = absurd (none e)
      by (Some first) e h = by_first a.step.symbol.0 a.number t first a.production e h

  pub comes : (read : List ℕ) (j : Item) → Valid g read j → read ≡ left ∷ earlier → Next g j t → Reduces g (reverse (step_symbols p) ++ earlier) t (item_of number (length p.steps) t)
  comes _ _ begun is next = absurd (let h : [] ≡ left ∷ earlier = is in cc)
  comes read _ (asked _ i j v a) is next =
      comes read i v is (subst (λ (o : Option Step). MayStandBehind g o i.token t) (sym a.before) (begins_symbol read i j v is a next))
  comes _ _ (advanced_past read i step v before) is next =
      let same : step.symbol.0 ≡ left = cc in
      let rest : read ≡ earlier = cc in
      let production : IsProductionOf g step.symbol.0 number = (p, subst (λ (l : ℕ). production_at g number ≡ Some (l, p)) (sym same) at) in
      let asks : AsksFor g i (item_of number 0 t) = record {
        step = step;
        before = before;
        number = number;
        production = production;
        line = refl;
        begins = refl;
        follows = next;
      } in
      through g number left p at t earlier (subst (λ (l : List ℕ). Valid g l (item_of number 0 t)) rest (asked read i (item_of number 0 t) v asks))

  -- some valid item waits for the token of a move
  pub moves : HasMove g (left ∷ earlier) t → Reduces g (reverse (step_symbols p) ++ earlier) t (item_of number (length p.steps) t)
  moves (shift, may_shift s alone) =
      comes (left ∷ earlier) s.item s.valid refl
      (subst (λ (o : Option Step). MayStandBehind g o s.item.token t) (sym s.before) (subst (λ (n : ℕ). CanBeginWith g n t) (sym s.is) (itself t s.is_token)))
  moves (reduce n, may_reduce i _ stays line alone) =
      let r = stays.reduces in
      comes (left ∷ earlier) i r.valid refl
      (subst (λ (o : Option Step). MayStandBehind g o i.token t)
      (sym (slice_get_past (line_steps g i.line) i.dot (let h = r.complete in omega (arith, h)))) (sym r.on))
  moves (accept, may_accept is v) = comes (left ∷ earlier) (advanced start_item) v refl is
