-- The trees of each configuration that is reached are made well.
use Rattle.std.proofs.Common.{◌≡◌, ◌∙◌, sym, ap, refl, subst, ℕ, ◌<◌, Bool, true, false, true≢false, nat_eq, List, [], ◌∷◌, ◌++◌, append-nil, length, reverse, drop, Option, Some, None, All, arith}
use Rattle.std.proofs.lemmas.List.{reverse-append, reverse-reverse, length-map, length-reverse}
use Rattle.std.proofs.lemmas.List.Elements.{All-head, All-tail}
use Rattle.ts_base.specs.Bytes.{Bytes}
use Rattle.ts_core.specs.declared.flat.FlatGrammar.{FlatGrammar}
use Rattle.ts_core.specs.declared.flat.Production.{Production}
use Rattle.ts_core.specs.declared.flat.Step.{Step}
use Rattle.ts_core.specs.declared.flat.TokenDef.{TokenDef}
use Rattle.ts_core.specs.declared.symbol.Symbol.{Symbol}
use Rattle.spec_grammar.specs.Symbols.{production_at, is_repetition, is_among}
use Rattle.spec_lexing.specs.Matching.{MatchesToken, plainly, as_keyword}
use Rattle.spec_lexing.specs.Lexing.{Found, token, absent, behind, Lexes, takes, ends, passes, stops}
use Rattle.spec_tables.specs.Fit.{Fit, IsToken as IsTokenSymbol}
use Rattle.spec_tables.specs.Items.{IsToken}
use Rattle.spec_trees.specs.declared.tree.Tree.{Tree}
use Rattle.spec_trees.specs.Trees.{symbol_of, is_extra_node}
use Rattle.spec_trees.specs.Made.{reduced, filling, step_symbols}
use Rattle.spec_runs.specs.Configurations.{Configuration, starting, stack_symbols, NextIs, AreExtras, IsReduction}
use Rattle.spec_runs.specs.Moves.{EndsWithProduction}
use Rattle.spec_runs.specs.Runs.{StepsOn, shift_token, pass_extra, reduce_trees, Run, run_here, run_on, IsReached}
use Rattle.spec_packing.specs.Laws.{RunLaws}
use Rattle.spec_packing.proofs.MadeLemmas.{IsMade, AllMade, CanMake, IsLawful, made_bare, made_token, made_passed, made_reduced}

-- ---- a token that is found and is not the end has bytes

HasBytes : Found → Type 0
HasBytes (token s pad size) = 0 < s.0 → 0 < size
HasBytes (absent n) = Unit {0}

bytes_behind : (n : ℕ) (f : Found) → HasBytes f → HasBytes (behind n f)
unfolding HasBytes
bytes_behind n (token s pad size) h = h
bytes_behind n (absent m) h = h

matched : (g : FlatGrammar) (d : TokenDef) (rest : Bytes) (n : ℕ) → MatchesToken g d rest n → 0 < n
matched g d rest n (plainly k m) = m.some
matched g d rest n (as_keyword k word is longest m) = m.some

bytes_found : (g : FlatGrammar) (valid : List Symbol) (first : Bool) (rest : Bytes) (f : Found) → Lexes g valid first rest f → HasBytes f
unfolding HasBytes
bytes_found g valid _ _ _ (takes first rest s n best) = λ some. matched g best.token rest n best.candidate.matches
bytes_found g valid _ _ _ (ends first is) = λ some. some
bytes_found g valid _ _ _ (passes first rest n f pass deep) = bytes_behind n f (bytes_found g valid false (drop n rest) f deep)
bytes_found g valid _ _ _ (stops first rest none lack) = tt

pub next_bytes : (g : FlatGrammar) (text : Bytes) (c : Configuration) (s : Symbol) (pad size : ℕ) → NextIs g text c (token s pad size) → 0 < s.0 → 0 < size
unfolding HasBytes
next_bytes g text c s pad size n = bytes_found g n.0 true (drop c.place text) (token s pad size) n.2

among_tokens : (g : FlatGrammar) (n : ℕ) (ss : List Symbol) → All (IsTokenSymbol g) ss → is_among n ss ≡ true → IsToken g n
among_tokens g n [] a e = absurd (true≢false (sym e))
among_tokens g n (s ∷ ss) a e = by (nat_eq s.0 n) refl (among_tokens g n ss (All-tail (IsTokenSymbol g) s ss a))
  where
    by : (b : Bool) → nat_eq s.0 n ≡ b → (is_among n ss ≡ true → IsToken g n) → IsToken g n
    by true h more = let same : s.0 ≡ n = grind arith in subst (λ (m : ℕ). IsToken g m) same (All-head (IsTokenSymbol g) s ss a)
    by false h more = more (let f : is_among n (s ∷ ss) ≡ is_among n ss = rw h refl in sym f ∙ e)

-- ---- the symbols of a stack

pub filling_append : (xs ys : List Tree) → filling (xs ++ ys) ≡ filling xs ++ filling ys
filling_append [] ys = refl
filling_append (x ∷ xs) ys = by (is_extra_node x) refl (filling_append xs ys)
  where
    by : (b : Bool) → is_extra_node x ≡ b → filling (xs ++ ys) ≡ filling xs ++ filling ys → filling (x ∷ xs ++ ys) ≡ filling (x ∷ xs) ++ filling ys
    by true e h = rw e h
    by false e h = rw e (ap (λ (l : List ℕ). symbol_of x ∷ l) h)

filling_turned : (xs : List Tree) → filling (reverse xs) ≡ reverse (filling xs)
filling_turned [] = refl
filling_turned (x ∷ xs) = by (is_extra_node x) refl (filling_turned xs)
  where
    by : (b : Bool) → is_extra_node x ≡ b → filling (reverse xs) ≡ reverse (filling xs) → filling (reverse (x ∷ xs)) ≡ reverse (filling (x ∷ xs))
    by true e h = ap filling (reverse-append (x ∷ []) xs) ∙ filling_append (reverse xs) (x ∷ []) ∙ ap (λ (l : List ℕ). l ++ filling (x ∷ [])) h ∙ rw e (append-nil (reverse (filling xs)))
    by false e h = ap filling (reverse-append (x ∷ []) xs) ∙ filling_append (reverse xs) (x ∷ []) ∙ ap (λ (l : List ℕ). l ++ filling (x ∷ [])) h ∙ rw e (sym (reverse-append (symbol_of x ∷ []) (filling xs)))

pub filling_extras : (xs ts : List Tree) → AreExtras xs → filling (xs ++ ts) ≡ filling ts
filling_extras [] ts a = refl
filling_extras (x ∷ xs) ts a = rw a.0 (filling_extras xs ts a.1)

-- two beginnings of one list that are equally long are one
same_front : (xs ys a b : List ℕ) → length xs ≡ length ys → xs ++ a ≡ ys ++ b → xs ≡ ys
same_front [] [] a b e h = refl
same_front [] (y ∷ ys) a b e h = absurd (omega (arith, e))
same_front (x ∷ xs) [] a b e h = absurd (omega (arith, e))
same_front (x ∷ xs) (y ∷ ys) a b e h =
    let t : xs ++ a ≡ ys ++ b = cc in
    let first : x ≡ y = cc in
    let rest : xs ≡ ys = same_front xs ys a b (omega (arith, e)) t in cc

-- ---- trees of a stack that are made well

pub all_made_append : (g : FlatGrammar) (xs ys : List Tree) → AllMade g xs → AllMade g ys → AllMade g (xs ++ ys)
all_made_append g [] ys a b = b
all_made_append g (x ∷ xs) ys a b = (a.0, all_made_append g xs ys a.1 b)

pub all_made_left : (g : FlatGrammar) (xs ys : List Tree) → AllMade g (xs ++ ys) → AllMade g xs
all_made_left g [] ys a = tt
all_made_left g (x ∷ xs) ys a = (a.0, all_made_left g xs ys a.1)

pub all_made_right : (g : FlatGrammar) (xs ys : List Tree) → AllMade g (xs ++ ys) → AllMade g ys
all_made_right g [] ys a = a
all_made_right g (x ∷ xs) ys a = all_made_right g xs ys a.1

all_made_turned : (g : FlatGrammar) (xs : List Tree) → AllMade g xs → AllMade g (reverse xs)
all_made_turned g [] a = tt
all_made_turned g (x ∷ xs) a = subst (λ (l : List Tree). AllMade g l) (sym (reverse-append (x ∷ []) xs)) (all_made_append g (reverse xs) (x ∷ []) (all_made_turned g xs a.1) (a.0, tt))

pub all_made_back : (g : FlatGrammar) (xs : List Tree) → AllMade g (reverse xs) → AllMade g xs
all_made_back g xs a = subst (λ (l : List Tree). AllMade g l) (reverse-reverse xs) (all_made_turned g (reverse xs) a)

module _ (laws : RunLaws) (g : FlatGrammar) (fit : Fit g) where
  pub lawful : (number left : ℕ) (p : Production) → production_at g number ≡ Some (left, p) → IsLawful g number left p
  lawful number left p at = record {
    unused = laws.unused g fit number left p at;
    filled = λ rep none. true≢false (sym rep ∙ ap (is_repetition g) (laws.empty_start g fit number left p at none) ∙ laws.start_rule g fit);
    repeats = λ a form. laws.repeats g fit number left a p at form;
  }

  -- the children of a reduction
  pub reduction_makes : (number : ℕ) (stack : List Tree) (node : Tree) (after : List Tree) → EndsWithProduction g (stack_symbols stack) number → AllMade g stack → (r : IsReduction g number stack node after) → CanMake g number r.left r.production r.children
  reduction_makes number stack node after ending made r =
      let e : ◌≡◌ {A = Option (ℕ × Production)} (Some (r.left, r.production)) (Some (ending.left, ending.production)) = sym r.at ∙ ending.at in
      let both : ◌≡◌ {A = ℕ × Production} (r.left, r.production) (ending.left, ending.production) = cc in
      let same : r.production ≡ ending.production = ap (λ (q : ℕ × Production). q.1) both in
      let read : filling stack ≡ reverse (filling r.children) ++ filling r.below =
      ap filling r.stack_is ∙ filling_extras r.lifted (reverse r.children ++ r.below) r.extras
      ∙ filling_append (reverse r.children) r.below ∙ ap (λ (l : List ℕ). l ++ filling r.below) (filling_turned r.children) in
      let steps : List ℕ = step_symbols ending.production in
      let many : length (reverse (filling r.children)) ≡ length (reverse steps) =
      length-reverse (filling r.children) ∙ r.count ∙ ap (λ (q : Production). length q.steps) same ∙ sym (length-map ending.production.steps (λ (step : Step). step.symbol.0)) ∙ sym (length-reverse steps) in
      let turned : reverse (filling r.children) ≡ reverse steps = same_front (reverse (filling r.children)) (reverse steps) (filling r.below) ending.earlier many (sym read ∙ ending.read_is) in
      let filled : filling r.children ≡ steps = sym (reverse-reverse (filling r.children)) ∙ ap (λ (l : List ℕ). reverse l) turned ∙ reverse-reverse steps in
      let all : AllMade g (r.lifted ++ (reverse r.children ++ r.below)) = subst (λ (l : List Tree). AllMade g l) r.stack_is made in
      record {
        at = r.at;
        filled = filled ∙ ap step_symbols (sym same);
        begins = r.first_fills;
        made = all_made_back g r.children (all_made_left g (reverse r.children) r.below (all_made_right g r.lifted (reverse r.children ++ r.below) all));
      }

  reduction_made : (number : ℕ) (stack : List Tree) (node : Tree) (after : List Tree) → EndsWithProduction g (stack_symbols stack) number → AllMade g stack → IsReduction g number stack node after → AllMade g after
  reduction_made number stack node after ending made r =
      let c = reduction_makes number stack node after ending made r in
      let all : AllMade g (r.lifted ++ (reverse r.children ++ r.below)) = subst (λ (l : List Tree). AllMade g l) r.stack_is made in
      let here : IsMade g node = subst (λ (t : Tree). IsMade g t) (sym r.node_is)
      (made_bare laws.keeps g (reduced g number 0 None r.children)
      (made_reduced g number r.left r.production (lawful number r.left r.production r.at) r.children c)) in
      subst (λ (l : List Tree). AllMade g l) (sym r.after_is)
      (all_made_append g r.lifted (node ∷ r.below) (all_made_left g r.lifted (reverse r.children ++ r.below) all)
      (here, all_made_right g (reverse r.children) r.below (all_made_right g r.lifted (reverse r.children ++ r.below) all)))

  module _ (text : Bytes) where
    pub made_step : (c d : Configuration) → AllMade g c.stack → StepsOn g text c d → AllMade g d.stack
    made_step c _ made (shift_token s pad size next act) =
        let low = (laws.shifts g (stack_symbols c.stack) s.0 act).0 in
        (made_token laws.keeps g s.0 pad size low (next_bytes g text c s pad size next low.0), made)
    made_step c _ made (pass_extra s pad size next is_one none) =
        let low = among_tokens g s.0 g.extras fit.extras.1 is_one in
        (made_passed laws.keeps g laws.extra s.0 pad size low (next_bytes g text c s pad size next low.0), made)
    made_step c _ made (reduce_trees number node after move r shallow) =
        reduction_made number c.stack node after (laws.reduces g (stack_symbols c.stack) move.symbol.0 number move.stays) made r

    made_run : (c d : Configuration) → AllMade g c.stack → Run g text c d → AllMade g d.stack
    made_run c _ made (run_here _) = made
    made_run c d made (run_on _ e _ step rest) = made_run e d (made_step c e made step) rest

    pub made_reached : (c : Configuration) → IsReached g text c → AllMade g c.stack
    made_reached c r = made_run starting c tt r
