-- The extras above a node are found again after it.
use Rattle.std.proofs.Common.{◌≡◌, ◌∙◌, sym, ap, refl, subst, ℕ, zero, suc, ◌+◌, ◌-◌, ◌<◌, ◌≤◌, ◌⊎◌, inl, inr, ⊎_elim, true, true≢false, List, [], ◌∷◌, ◌++◌, append_assoc, length, reverse, drop, get_or, arith}
use Rattle.std.proofs.lemmas.List.{drop-drop, reverse-append}
use Rattle.std.specs.List.{Contains}
use Rattle.ts_base.specs.Bytes.{Bytes}
use Rattle.ts_core.specs.declared.flat.FlatGrammar.{FlatGrammar}
use Rattle.ts_core.specs.declared.symbol.Symbol.{Symbol}
use Rattle.spec_grammar.specs.Symbols.{is_extra}
use Rattle.spec_lexing.specs.Lexing.{Found, token, Lex}
use Rattle.spec_lexing.specs.Seen.{Agree}
use Rattle.spec_tables.specs.Fit.{Fit}
use Rattle.spec_trees.specs.declared.tree.Tree.{Tree}
use Rattle.spec_trees.specs.Trees.{is_extra_node, span_of, all_spans}
use Rattle.spec_trees.specs.Made.{as_extra, filling, step_symbols}
use Rattle.spec_runs.specs.Configurations.{stack_symbols, token_tree, HasMove, AreValidTokens, AreExtras}
use Rattle.spec_forced.specs.Forced.{IsDecided, ForcedRun, run_begins, run_shifts, run_passes, run_reduces}
use Rattle.spec_forced.specs.Laws.{ForcedLaws}
use Rattle.spec_forced.proofs.StackLemmas.{filling_extras, spans_append, beside}
use Rattle.spec_forced.proofs.SpanLemmas.{Reads, reads, piled, token_says, passed_says}

-- ---- members of a list of symbols

same_symbol : (a b : Symbol) → (a ≡ b) ⊎ (a ≡ b → ⊥)
same_symbol a b = by (nat_same a.0 b.0)
  where
    nat_same : (m n : ℕ) → (m ≡ n) ⊎ (m ≡ n → ⊥)
    nat_same zero zero = inl refl
    nat_same zero (suc n) = inr (λ e. omega (arith, e))
    nat_same (suc m) zero = inr (λ e. omega (arith, e))
    nat_same (suc m) (suc n) = ⊎_elim (λ e. inl (ap suc e)) (λ other. inr (λ e. other (omega (arith, e)))) (nat_same m n)

    by : (a.0 ≡ b.0) ⊎ (a.0 ≡ b.0 → ⊥) → (a ≡ b) ⊎ (a ≡ b → ⊥)
    by (inl e) = inl (ap {B = Symbol} (λ (n : ℕ). record { 0 = n }) e)
    by (inr other) = inr (λ e. other (ap (λ (s : Symbol). s.0) e))

is_in : (ss : List Symbol) (s : Symbol) → Contains ss s ⊎ (Contains ss s → ⊥)
is_in [] s = inr (λ w. let h = w.1 in omega (arith, h))
is_in (x ∷ xs) s = by (same_symbol x s) (is_in xs s)
  where
    later : (Contains xs s → ⊥) → (x ≡ s → ⊥) → (k : ℕ) → k < length (x ∷ xs) → get_or (x ∷ xs) k s ≡ s → ⊥
    later none other zero low is = other is
    later none other (suc k) low is = none (k, (let h : suc k < suc (length xs) = low in omega (arith, h)), is)

    by : (x ≡ s) ⊎ (x ≡ s → ⊥) → Contains xs s ⊎ (Contains xs s → ⊥) → Contains (x ∷ xs) s ⊎ (Contains (x ∷ xs) s → ⊥)
    by (inl e) more = inl (0, omega arith, e)
    by (inr other) (inl w) = inl (suc w.0, (let h = w.1 in omega (arith, h)), w.2)
    by (inr other) (inr none) = inr (λ w. later none other w.0 w.1 w.2)

-- ---- what is found among more tokens than the valid ones

pub record FoundAmong (g : FlatGrammar) (read : List ℕ) (rest : Bytes) (f : Found) (e : ℕ) : Type 0 where
  pub wide : List Symbol
  pub holds : (t : Symbol) → HasMove g read t.0 ⊎ (is_extra g t.0 ≡ true) → Contains wide t
  pub decided : (other : Bytes) → Agree e rest other → Lex g wide other f

pub found_among : (g : FlatGrammar) (read : List ℕ) (rest : Bytes) (f : Found) (e : ℕ) → IsDecided g read rest f e → FoundAmong g read rest f e
found_among g read rest f e d = record { wide = d.0; holds = λ t h. (d.1 t).1 h; decided = d.2 }

-- no token has a move after the second symbols alone
abbrev pub Narrows : FlatGrammar → List ℕ → List ℕ → Type 0
Narrows g inner outer = (t : ℕ) → HasMove g outer t → (HasMove g inner t → ⊥) → ⊥

pub found_fewer : (g : FlatGrammar) (inner outer : List ℕ) (rest : Bytes) (f : Found) (e : ℕ) → Narrows g inner outer → FoundAmong g inner rest f e → FoundAmong g outer rest f e
found_fewer g inner outer rest f e narrow h = record { wide = h.wide; holds = holds; decided = h.decided }
  where
    holds : (t : Symbol) → HasMove g outer t.0 ⊎ (is_extra g t.0 ≡ true) → Contains h.wide t
    holds t (inr extra) = h.holds t (inr extra)
    holds t (inl move) = ⊎_elim (λ c. c) (λ none. absurd (narrow t.0 move (λ m. none (h.holds t (inl m))))) (is_in h.wide t)

module _ (laws : ForcedLaws) where
  -- where the valid tokens are listed, it is what lexing comes to
  pub found_decides : (g : FlatGrammar) (read : List ℕ) (rest : Bytes) (s : Symbol) (pad size e : ℕ) (valid : List Symbol) → AreValidTokens g read valid → is_extra g s.0 ≡ true → FoundAmong g read rest (token s pad size) e → IsDecided g read rest (token s pad size) e
  found_decides g read rest s pad size e valid are extra h =
      (valid, are, λ other agree. laws.fewer_tokens g h.wide valid other s pad size (λ t c. h.holds t ((are t).0 c)) ((are s).1 (inr extra)) (h.decided other agree))

  pub narrows : (g : FlatGrammar) → Fit g → (number : ℕ) (read : List ℕ) (stack : List Tree) (node : Tree) (after children below : List Tree) → Reads laws g number read stack node after children below → Narrows g (filling stack ++ read) (filling after ++ read)
  narrows g fit number read stack node after children below x t move none =
      let earlier : List ℕ = filling below ++ read in
      let waits = laws.no_new_tokens g fit number x.left t x.production earlier x.at (subst (λ (l : List ℕ). HasMove g l t) x.behind move) in
      laws.some_move_stays g (reverse (step_symbols x.production) ++ earlier) t _ waits (λ m. none (subst (λ (l : List ℕ). HasMove g l t) (sym x.before) m))

-- ---- extras that are passed one after another, the last one first

pub data Strays (g : FlatGrammar) (read : List ℕ) (rest : Bytes) (extent : ℕ) : List Tree → ℕ → Type 0 where
  no_more : Strays g read rest extent [] 0
  one_more : (xs : List Tree) (m : ℕ) (s : Symbol) (pad size e : ℕ) → Strays g read rest extent xs m → FoundAmong g read (drop m rest) (token s pad size) e → m + e ≤ extent
      → is_extra g s.0 ≡ true → (HasMove g read s.0 → ⊥) → Strays g read rest extent (as_extra (token_tree s pad size) ∷ xs) (m + (pad + size))

pub strays_fewer : (g : FlatGrammar) (inner outer : List ℕ) (rest : Bytes) (extent : ℕ) (xs : List Tree) (m : ℕ) → Narrows g inner outer → Strays g inner rest extent xs m → Strays g outer rest extent xs m
strays_fewer g inner outer rest extent _ _ narrow no_more = no_more
strays_fewer g inner outer rest extent _ _ narrow (one_more xs m s pad size e d found fits extra idle) =
    one_more xs m s pad size e (strays_fewer g inner outer rest extent xs m narrow d) (found_fewer g inner outer (drop m rest) (token s pad size) e narrow found) fits extra
    (λ move. narrow s.0 move idle)

-- the first of them
pub record Lowest (g : FlatGrammar) (read : List ℕ) (rest : Bytes) (xs : List Tree) : Type 0 where
  pub symbol : Symbol
  pub pad : ℕ
  pub size : ℕ
  pub e : ℕ
  pub others : List Tree
  pub turned : reverse xs ≡ as_extra (token_tree symbol pad size) ∷ others
  pub found : FoundAmong g read rest (token symbol pad size) e
  pub extra : is_extra g symbol.0 ≡ true
  pub idle : HasMove g read symbol.0 → ⊥

pub lowest : (g : FlatGrammar) (read : List ℕ) (rest : Bytes) (extent : ℕ) (xs : List Tree) (m : ℕ) → Strays g read rest extent xs m → ((xs ≡ []) × (m ≡ 0)) ⊎ Lowest g read rest xs
lowest g read rest extent _ _ no_more = inl (refl, refl)
lowest g read rest extent _ _ (one_more xs m s pad size e d found fits extra idle) =
    let t : Tree = as_extra (token_tree s pad size) in
    inr (⊎_elim
    (λ none. record {
      symbol = s;
      pad = pad;
      size = size;
      e = e;
      others = [];
      turned = ap (λ (l : List Tree). reverse (t ∷ l)) none.0;
      found = subst (λ (n : ℕ). FoundAmong g read (drop n rest) (token s pad size) e) none.1 found;
      extra = extra;
      idle = idle;
    })
    (λ l. record {
      symbol = l.symbol;
      pad = l.pad;
      size = l.size;
      e = l.e;
      others = l.others ++ t ∷ [];
      turned = reverse-append (t ∷ []) xs ∙ ap (λ (k : List Tree). k ++ t ∷ []) l.turned;
      found = l.found;
      extra = l.extra;
      idle = l.idle;
    })
    (lowest g read rest extent xs m d))

-- ---- the extras on top of a forced run

module _ (laws : ForcedLaws) (g : FlatGrammar) (fit : Fit g) (read : List ℕ) (rest : Bytes) (extent : ℕ) where
  -- one extra more
  passed_more : (xs under stack : List Tree) (m : ℕ) (s : Symbol) (pad size e : ℕ) → stack ≡ xs ++ under → AreExtras xs → m ≡ all_spans stack → IsDecided g (stack_symbols stack ++ read) (drop m rest) (token s pad size) e → m + e ≤ extent
      → is_extra g s.0 ≡ true → (HasMove g (stack_symbols stack ++ read) s.0 → ⊥) → Strays g (filling under ++ read) (drop (all_spans under) rest) (extent - all_spans under) xs (all_spans xs)
      → Strays g (filling under ++ read) (drop (all_spans under) rest) (extent - all_spans under) (as_extra (token_tree s pad size) ∷ xs) (all_spans (as_extra (token_tree s pad size) ∷ xs))
  passed_more xs under stack m s pad size e is extras bytes seen fits extra idle h =
      let o : ℕ = all_spans under in
      let l = passed_says laws s pad size in
      let symbols : filling stack ++ read ≡ filling under ++ read = ap (λ (x : List ℕ). x ++ read) (ap filling is ∙ filling_extras xs under extras) in
      let at : m ≡ o + all_spans xs = omega (arith, bytes, ap all_spans is, spans_append xs under) in
      let text : drop m rest ≡ drop (all_spans xs) (drop o rest) = ap (λ (n : ℕ). drop n rest) at ∙ sym (drop-drop (all_spans xs) o rest) in
      let found : FoundAmong g (filling under ++ read) (drop (all_spans xs) (drop o rest)) (token s pad size) e =
      found_among g (filling under ++ read) (drop (all_spans xs) (drop o rest)) (token s pad size) e
      (subst (λ (x : Bytes). IsDecided g (filling under ++ read) x (token s pad size) e) text (subst (λ (x : List ℕ). IsDecided g x (drop m rest) (token s pad size) e) symbols seen)) in
      subst (λ (n : ℕ). Strays g (filling under ++ read) (drop o rest) (extent - o) (as_extra (token_tree s pad size) ∷ xs) n)
      (let q : all_spans xs + (pad + size) ≡ span_of (as_extra (token_tree s pad size)) + all_spans xs = omega (arith, l.span_is) in q)
      (one_more xs (all_spans xs) s pad size e h found (omega (arith, fits, at)) extra (λ move. idle (subst (λ (x : List ℕ). HasMove g x s.0) (sym symbols) move)))

  pub trail : (stack : List Tree) (m : ℕ) → ForcedRun g read rest extent stack m → (xs under : List Tree) → stack ≡ xs ++ under → AreExtras xs → Strays g (filling under ++ read) (drop (all_spans under) rest) (extent - all_spans under) xs (all_spans xs)
  trail _ _ run_begins [] under is extras = no_more
  trail _ _ run_begins (x ∷ xs) under is extras = absurd (let e : [] ≡ x ∷ (xs ++ under) = is in cc)
  trail _ _ (run_shifts stack m s pad size e d seen fits only) [] under is extras = no_more
  trail _ _ (run_shifts stack m s pad size e d seen fits only) (x ∷ xs) under is extras =
      let same : token_tree s pad size ≡ x = head_same (token_tree s pad size) x stack (xs ++ under) is in
      absurd (true≢false (sym extras.0 ∙ ap is_extra_node (sym same) ∙ (token_says laws s pad size).extra_is))
    where
      head_same : (a b : Tree) (ts bs : List Tree) → a ∷ ts ≡ b ∷ bs → a ≡ b
      head_same a b ts bs e = cc
  trail _ _ (run_passes stack m s pad size e d seen fits extra idle) [] under is extras = no_more
  trail _ _ (run_passes stack m s pad size e d seen fits extra idle) (x ∷ xs) under is extras =
      let both = parts (as_extra (token_tree s pad size)) x stack (xs ++ under) is in
      subst (λ (y : Tree). Strays g (filling under ++ read) (drop (all_spans under) rest) (extent - all_spans under) (y ∷ xs) (all_spans (y ∷ xs))) both.0
      (passed_more xs under stack m s pad size e both.1 extras.1 (piled laws g fit read rest extent stack m d).1 seen fits extra idle (trail stack m d xs under both.1 extras.1))
    where
      parts : (a b : Tree) (ts bs : List Tree) → a ∷ ts ≡ b ∷ bs → (a ≡ b) × (ts ≡ bs)
      parts a b ts bs e = let h : a ≡ b = cc in let t : ts ≡ bs = cc in (h, t)
  trail _ _ (run_reduces stack m s pad size e number node after d seen fits only steps r shallow) xs under is extras =
      let run = run_reduces stack m s pad size e number node after d seen fits only steps r shallow in
      let x = reads laws g number read stack node after r (laws.reduces g (stack_symbols stack ++ read) s.0 number only.stays) in
      let b = beside r.lifted under node r.below xs x.fills extras (sym r.after_is ∙ is) in
      let inner : List Tree = b.others ++ (reverse r.children ++ r.below) in
      let split : stack ≡ xs ++ inner =
      r.stack_is ∙ ap (λ (l : List Tree). l ++ (reverse r.children ++ r.below)) b.lifted_is ∙ append_assoc xs b.others (reverse r.children ++ r.below) in
      let h : Strays g (filling inner ++ read) (drop (all_spans inner) rest) (extent - all_spans inner) xs (all_spans xs) = trail stack m d xs inner split extras in
      let place : all_spans inner ≡ all_spans under =
      omega (
        arith,
        (piled laws g fit read rest extent stack m d).1,
        (piled laws g fit read rest extent after m run).1,
        ap all_spans split,
        ap all_spans is,
        spans_append xs inner,
        spans_append xs under,
      ) in
      let low : filling inner ++ read ≡ filling stack ++ read = ap (λ (l : List ℕ). l ++ read) (sym (ap filling split ∙ filling_extras xs inner extras)) in
      let high : filling after ++ read ≡ filling under ++ read = ap (λ (l : List ℕ). l ++ read) (ap filling is ∙ filling_extras xs under extras) in
      let h₁ : Strays g (filling stack ++ read) (drop (all_spans inner) rest) (extent - all_spans inner) xs (all_spans xs) =
      subst (λ (l : List ℕ). Strays g l (drop (all_spans inner) rest) (extent - all_spans inner) xs (all_spans xs)) low h in
      let h₂ : Strays g (filling after ++ read) (drop (all_spans inner) rest) (extent - all_spans inner) xs (all_spans xs) =
      strays_fewer g (filling stack ++ read) (filling after ++ read) (drop (all_spans inner) rest) (extent - all_spans inner) xs (all_spans xs)
      (narrows laws g fit number read stack node after r.children r.below x) h₁ in
      subst (λ (n : ℕ). Strays g (filling under ++ read) (drop n rest) (extent - n) xs (all_spans xs)) place
      (subst (λ (l : List ℕ). Strays g l (drop (all_spans inner) rest) (extent - all_spans inner) xs (all_spans xs)) high h₂)
