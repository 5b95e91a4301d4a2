-- Behind a symbol that no production names only acceptance stays.
use Rattle.std.proofs.Common.{◌≡◌, ◌∙◌, sym, ap, refl, subst, ℕ, zero, suc, List, [], ◌∷◌, ◌++◌, append-nil, append_assoc, map, reverse, slice_get, Option, Some, None, unwrap_or, option_map, arith}
use Rattle.std.proofs.lemmas.List.{reverse-append, reverse-reverse}
use Rattle.std.proofs.lemmas.Option.{slice_get_within}
use Rattle.ts_core.specs.declared.flat.FlatGrammar.{FlatGrammar}
use Rattle.ts_core.specs.declared.flat.Production.{Production}
use Rattle.ts_core.specs.declared.flat.Step.{Step}
use Rattle.spec_grammar.specs.Symbols.{start_symbol, production_at}
use Rattle.spec_tables.specs.Actions.{Move, Act, shift, reduce, accept}
use Rattle.spec_tables.specs.Items.{Line, Item, line_steps, plain_step, IsBefore, Valid, begun, asked, advanced_past}
use Rattle.spec_trees.specs.Made.{step_symbols}
use Rattle.spec_runs.specs.Moves.{StandsBefore, IsUnused}
use Rattle.spec_packing.specs.Laws.{RunLaws}

-- a list is cut where an element stands
part_of : (steps : List Step) (n : ℕ) (step : Step) → slice_get steps n ≡ Some step → (before : List ℕ) × (after : List ℕ) × (map (λ (x : Step). x.symbol.0) steps ≡ before ++ step.symbol.0 ∷ after)
part_of [] n step e = absurd (let h = slice_get_within [] n step e in omega (arith, h))
part_of (x ∷ steps) zero step e = ([], map (λ (x : Step). x.symbol.0) steps, (let h : Some x ≡ Some step = e in let same : x ≡ step = cc in ap (λ (y : Step). y.symbol.0 ∷ map (λ (x : Step). x.symbol.0) steps) same))
part_of (x ∷ steps) (suc n) step e = let r = part_of steps n step e in (x.symbol.0 ∷ r.0, r.1, ap (λ (l : List ℕ). x.symbol.0 ∷ l) r.2)

module _ (g : FlatGrammar) (symbol : ℕ) (unused : IsUnused g symbol) where
  never_step : (number n : ℕ) (step : Step) → slice_get (line_steps g (Some number)) n ≡ Some step → step.symbol.0 ≡ symbol → ⊥
  never_step number n step e is = by (production_at g number) refl
    where
      by : (o : Option (ℕ × Production)) → production_at g number ≡ o → ⊥
      by None none =
          let h : slice_get [] n ≡ Some step = subst (λ (o : Option (ℕ × Production)). slice_get (unwrap_or (option_map (λ (p : ℕ × Production). p.1.steps) o) []) n ≡ Some step) none e in
          let w = slice_get_within [] n step h in omega (arith, w)
      by (Some q) there =
          let h : slice_get q.1.steps n ≡ Some step = subst (λ (o : Option (ℕ × Production)). slice_get (unwrap_or (option_map (λ (p : ℕ × Production). p.1.steps) o) []) n ≡ Some step) there e in
          let r = part_of q.1.steps n step h in
          unused number q.0 q.1 there r.0 r.1 (r.2 ∙ ap (λ (x : ℕ). r.0 ++ x ∷ r.1) is)

  -- the start item with its dot at its end, with the symbol read last
  record IsAtEnd (above : List ℕ) (line : Line) (dot : ℕ) : Type 0 where
    pub start : line ≡ None
    pub end : dot ≡ 1
    pub last : above ≡ []

  nothing_behind : (above : List ℕ) (i : Item) (step : Step) → IsAtEnd above i.line i.dot → IsBefore g i step → ⊥
  nothing_behind above i step k e =
      let h : slice_get (plain_step (start_symbol g) ∷ []) i.dot ≡ Some step = subst (λ (l : Line). slice_get (line_steps g l) i.dot ≡ Some step) k.start e in
      let w = slice_get_within (plain_step (start_symbol g) ∷ []) i.dot step h in
      let d = k.end in
      omega (arith, w, d)

  at_end : (read : List ℕ) (i : Item) → Valid g read i → (above below : List ℕ) → read ≡ above ++ symbol ∷ below → IsAtEnd above i.line i.dot
  at_end _ _ begun [] below e = absurd (let h : [] ≡ symbol ∷ below = e in cc)
  at_end _ _ begun (x ∷ above) below e = absurd (let h : [] ≡ x ∷ (above ++ symbol ∷ below) = e in cc)
  at_end _ _ (asked read i j v a) above below e = absurd (nothing_behind above i a.step (at_end read i v above below e) a.before)
  at_end _ _ (advanced_past read i step v before) (x ∷ above) below e =
      let rest : read ≡ above ++ symbol ∷ below = (let h : step.symbol.0 ∷ read ≡ x ∷ (above ++ symbol ∷ below) = e in cc) in
      absurd (nothing_behind above i step (at_end read i v above below rest) before)
  at_end _ _ (advanced_past read i step v before) [] below e = by i.line refl
    where
      is : step.symbol.0 ≡ symbol
      is = let h : step.symbol.0 ∷ read ≡ symbol ∷ below = e in cc

      by : (l : Line) → i.line ≡ l → IsAtEnd [] i.line (suc i.dot)
      by None line =
          let h : slice_get (plain_step (start_symbol g) ∷ []) i.dot ≡ Some step = subst (λ (l : Line). slice_get (line_steps g l) i.dot ≡ Some step) line before in
          let w = slice_get_within (plain_step (start_symbol g) ∷ []) i.dot step h in
          record { start = line; end = omega (arith, w); last = refl }
      by (Some number) line = absurd (never_step number i.dot step (subst (λ (l : Line). slice_get (line_steps g l) i.dot ≡ Some step) line before) is)

  none_stands : (above below : List ℕ) (other : ℕ) → StandsBefore g (above ++ symbol ∷ below) other → ⊥
  none_stands above below other s = nothing_behind above s.0 s.1 (at_end (above ++ symbol ∷ below) s.0 s.2 above below refl) s.3

  -- symbols that end with steps end so behind the symbol, or the symbol is one of the steps
  none_ends : (above below : List ℕ) (number left : ℕ) (p : Production) (turned earlier : List ℕ) → production_at g number ≡ Some (left, p) → (front : List ℕ) → step_symbols p ≡ reverse turned ++ front → above ++ symbol ∷ below ≡ turned ++ earlier → StandsBefore g earlier left → ⊥
  none_ends above below number left p [] earlier at front steps e s = none_stands above below left (subst (λ (r : List ℕ). StandsBefore g r left) (sym e) s)
  none_ends [] below number left p (x ∷ turned) earlier at front steps e s =
      let h : symbol ∷ below ≡ x ∷ (turned ++ earlier) = e in
      let same : x ≡ symbol = cc in
      let is : step_symbols p ≡ reverse turned ++ symbol ∷ front =
      steps ∙ ap (λ (l : List ℕ). l ++ front) (reverse-append (x ∷ []) turned) ∙ append_assoc (reverse turned) (x ∷ []) front ∙ ap (λ (y : ℕ). reverse turned ++ y ∷ front) same in
      unused number left p at (reverse turned) front is
  none_ends (y ∷ above) below number left p (x ∷ turned) earlier at front steps e s =
      let h : y ∷ (above ++ symbol ∷ below) ≡ x ∷ (turned ++ earlier) = e in
      let rest : above ++ symbol ∷ below ≡ turned ++ earlier = cc in
      let is : step_symbols p ≡ reverse turned ++ x ∷ front = steps ∙ ap (λ (l : List ℕ). l ++ front) (reverse-append (x ∷ []) turned) ∙ append_assoc (reverse turned) (x ∷ []) front in
      none_ends above below number left p turned earlier at (x ∷ front) is rest s

  pub only_accepts : RunLaws → (above below : List ℕ) (token : ℕ) (move : Move) → Act g (above ++ symbol ∷ below) token move → move ≡ accept
  only_accepts laws above below token shift a = absurd (none_stands above below token (laws.shifts g (above ++ symbol ∷ below) token a).1)
  only_accepts laws above below token (reduce number) a =
      let r = laws.reduces g (above ++ symbol ∷ below) token number a in
      absurd (none_ends above below number r.left r.production (reverse (step_symbols r.production)) r.earlier r.at []
      (sym (reverse-reverse (step_symbols r.production)) ∙ sym (append-nil (reverse (reverse (step_symbols r.production))))) r.read_is r.before)
  only_accepts laws above below token accept a = refl
