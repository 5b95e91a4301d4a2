-- A forced run is the only run, and a node that stands may be pushed whole.
use Rattle.std.proofs.Common.{◌≡◌, ◌∙◌, sym, ap, refl, subst, ℕ, ◌+◌, ◌-◌, ◌↔◌, List, [], ◌∷◌, ◌++◌, append_assoc, drop, arith}
use Rattle.std.proofs.lemmas.List.{drop-drop}
use Rattle.ts_base.specs.Bytes.{Bytes}
use Rattle.ts_core.specs.declared.flat.FlatGrammar.{FlatGrammar}
use Rattle.ts_core.specs.declared.symbol.Symbol.{Symbol}
use Rattle.spec_lexing.specs.Lexing.{Found, token, Lex}
use Rattle.spec_tables.specs.Actions.{Move, shift, reduce}
use Rattle.spec_tables.specs.Fit.{Fit}
use Rattle.spec_trees.specs.declared.tree.Tree.{Tree}
use Rattle.spec_trees.specs.Trees.{span_of, all_spans, bare}
use Rattle.spec_trees.specs.Made.{as_extra}
use Rattle.spec_runs.specs.Configurations.{Configuration, starting, stack_symbols, token_tree, pushed, HasMove, AreValidTokens, NextIs, AreExtras}
use Rattle.spec_runs.specs.Outcomes.{FreshOutcome, deep_outcome, tree_outcome, stuck_outcome, Fresh}
use Rattle.spec_forced.specs.Forced.{IsOnlyMove, IsDecided, ForcedRun, run_begins, run_shifts, run_passes, run_reduces, IsForced}
use Rattle.spec_forced.specs.Laws.{ForcedLaws}
use Rattle.spec_forced.specs.OnlyRuns.{IsOnlyStep, OnlyRun, only_here, GoesTooDeep, GoesToTree, GoesToStop, EndAlike, FreshBy, FreshFrom}
use Rattle.spec_forced.proofs.SeenLemmas.{agree_self}
use Rattle.spec_forced.proofs.StackLemmas.{filling_append, filling_none, spans_append}
use Rattle.spec_forced.proofs.ForcedLemmas.{reduction_above}
use Rattle.spec_forced.proofs.SpanLemmas.{piled, token_says, passed_says, as_extra_is}
use Rattle.spec_forced.proofs.TrailLemmas.{Strays, no_more, one_more, found_decides, trail}
use Rattle.spec_forced.proofs.OnlyLemmas.{shift_alone, pass_alone, reduce_alone, only_more, only_alike, alike_back, alike_chain}

-- the configuration with trees above, so many bytes on
abbrev pub above : Configuration → List Tree → ℕ → Configuration
above c up m = record { stack = up ++ c.stack; place = c.place + m }

module _ (laws : ForcedLaws) (g : FlatGrammar) (text : Bytes) where
  module _ (c : Configuration) where
    pub symbols_above : (up : List Tree) → stack_symbols up ++ stack_symbols c.stack ≡ stack_symbols (up ++ c.stack)
    symbols_above up = sym (filling_append up c.stack)

    pub next_above : (up : List Tree) (m : ℕ) (f : Found) (e : ℕ) → IsDecided g (stack_symbols up ++ stack_symbols c.stack) (drop m (drop c.place text)) f e → NextIs g text (above c up m) f
    next_above up m f e d = (
      d.0,
      subst (λ (l : List ℕ). AreValidTokens g l d.0) (symbols_above up) d.1,
      subst (λ (x : Bytes). Lex g d.0 x f) (drop-drop m c.place text) (d.2 (drop m (drop c.place text)) (agree_self e (drop m (drop c.place text)))),
    )

    pub only_above : (up : List Tree) (t : ℕ) (move : Move) → IsOnlyMove g (stack_symbols up ++ stack_symbols c.stack) t move → IsOnlyMove g (stack_symbols (up ++ c.stack)) t move
    only_above up t move o = subst (λ (l : List ℕ). IsOnlyMove g l t move) (symbols_above up) o

    placed : (x : Configuration) (stack : List Tree) (a b : ℕ) → a ≡ b → IsOnlyStep g text x (record { stack = stack; place = a }) → IsOnlyStep g text x (record { stack = stack; place = b })
    placed x stack a b e h = subst (λ (n : ℕ). IsOnlyStep g text x (record { stack = stack; place = n })) e h

    -- what a forced run puts on the stack is put there by the only run
    pub runs_above : (extent : ℕ) (up : List Tree) (m : ℕ) → ForcedRun g (stack_symbols c.stack) (drop c.place text) extent up m → OnlyRun g text c (above c up m)
    runs_above extent _ _ run_begins =
        subst (λ (n : ℕ). OnlyRun g text c (record { stack = c.stack; place = n })) (let e : c.place ≡ c.place + 0 = omega arith in e) (only_here c)
    runs_above extent _ _ (run_shifts up m s pad size e d seen fits only) =
        let x = above c up m in
        only_more g text c x (above c (token_tree s pad size ∷ up) (m + (pad + size))) (runs_above extent up m d)
        (placed x (token_tree s pad size ∷ (up ++ c.stack)) (c.place + m + span_of (token_tree s pad size)) (c.place + (m + (pad + size))) (omega (arith, (token_says laws s pad size).span_is))
        (shift_alone laws g text x s pad size (next_above up m (token s pad size) e seen) (only_above up s.0 shift only)))
    runs_above extent _ _ (run_passes up m s pad size e d seen fits extra idle) =
        let x = above c up m in
        only_more g text c x (above c (as_extra (token_tree s pad size) ∷ up) (m + (pad + size))) (runs_above extent up m d)
        (placed x (as_extra (token_tree s pad size) ∷ (up ++ c.stack)) (c.place + m + span_of (as_extra (token_tree s pad size))) (c.place + (m + (pad + size))) (omega (arith, (passed_says laws s pad size).span_is))
        (pass_alone laws g text x s pad size (next_above up m (token s pad size) e seen) extra (λ move. idle (subst (λ (l : List ℕ). HasMove g l s.0) (sym (symbols_above up)) move))))
    runs_above extent _ _ (run_reduces up m s pad size e number node after d seen fits only steps r shallow) =
        let x = above c up m in
        only_more g text c x (above c after m) (runs_above extent up m d)
        (reduce_alone laws g text x s pad size (next_above up m (token s pad size) e seen) number node (after ++ c.stack) (only_above up s.0 (reduce number) only) (reduction_above g number up node after c.stack steps r) shallow)

  -- ---- a node pushed whole

  strays_extras : (read : List ℕ) (rest : Bytes) (extent : ℕ) (xs : List Tree) (m : ℕ) → Strays g read rest extent xs m → AreExtras xs
  strays_extras read rest extent _ _ no_more = tt
  strays_extras read rest extent _ _ (one_more xs m s pad size e d found fits extra idle) = (as_extra_is (token_tree s pad size), strays_extras read rest extent xs m d)

  -- extras that are passed are a forced run, where the valid tokens are listed
  pub strays_run : (read : List ℕ) (rest : Bytes) (extent : ℕ) (valid : List Symbol) → AreValidTokens g read valid → (xs : List Tree) (m : ℕ) → Strays g read rest extent xs m → ForcedRun g read rest extent xs m
  strays_run read rest extent valid are _ _ no_more = run_begins
  strays_run read rest extent valid are _ _ (one_more xs m s pad size e d found fits extra idle) =
      let symbols : read ≡ stack_symbols xs ++ read = ap (λ (l : List ℕ). l ++ read) (sym (filling_none xs (strays_extras read rest extent xs m d))) in
      run_passes xs m s pad size e (strays_run read rest extent valid are xs m d)
      (subst (λ (l : List ℕ). IsDecided g l (drop m rest) (token s pad size) e) symbols (found_decides laws g read (drop m rest) s pad size e valid are extra found)) fits extra
      (λ move. idle (subst (λ (l : List ℕ). HasMove g l s.0) (sym symbols) move))

  module _ (fit : Fit g) (c : Configuration) (t : Tree) (e : ℕ) (f : IsForced g (stack_symbols c.stack) (drop c.place text) t e) (valid : List Symbol) (are : AreValidTokens g (stack_symbols (bare t ∷ c.stack)) valid) where
    pub met : Configuration
    met = record { stack = f.extras ++ bare t ∷ c.stack; place = c.place + f.bytes }

    pub from_below : OnlyRun g text c met
    unfolding met
    from_below = subst (λ (l : List Tree). OnlyRun g text c (record { stack = l; place = c.place + f.bytes })) (append_assoc f.extras (bare t ∷ []) c.stack) (runs_above c e (f.extras ++ bare t ∷ []) f.bytes f.run)

    pub from_pushed : OnlyRun g text (pushed c (bare t)) met
    unfolding met
    from_pushed =
        let rest : Bytes = drop c.place text in
        let p : Configuration = pushed c (bare t) in
        let under : List Tree = bare t ∷ [] in
        let bytes : f.bytes ≡ all_spans (f.extras ++ under) = (piled laws g fit (stack_symbols c.stack) rest e (f.extras ++ under) f.bytes f.run).1 in
        let s = trail laws g fit (stack_symbols c.stack) rest e (f.extras ++ under) f.bytes f.run f.extras under refl f.all_extras in
        let symbols : stack_symbols under ++ stack_symbols c.stack ≡ stack_symbols p.stack = sym (filling_append under c.stack) in
        let at : all_spans under ≡ span_of (bare t) = omega arith in
        let far : drop (all_spans under) rest ≡ drop p.place text = ap (λ (n : ℕ). drop n rest) at ∙ drop-drop (span_of (bare t)) c.place text in
        let s₁ = subst (λ (l : List ℕ). Strays g l (drop (all_spans under) rest) (e - all_spans under) f.extras (all_spans f.extras)) symbols s in
        let s₂ = subst (λ (x : Bytes). Strays g (stack_symbols p.stack) x (e - all_spans under) f.extras (all_spans f.extras)) far s₁ in
        let run = strays_run (stack_symbols p.stack) (drop p.place text) (e - all_spans under) valid are f.extras (all_spans f.extras) s₂ in
        subst (λ (n : ℕ). OnlyRun g text p (record { stack = f.extras ++ bare t ∷ c.stack; place = n }))
        (let q : c.place + span_of (bare t) + all_spans f.extras ≡ c.place + f.bytes = omega (arith, bytes, spans_append f.extras under, at) in q)
        (runs_above p (e - all_spans under) f.extras (all_spans f.extras) run)

    pub alike_pushed : EndAlike g text c (pushed c (bare t))
    alike_pushed = alike_chain g text c met (pushed c (bare t)) (only_alike g text c met from_below) (alike_back g text (pushed c (bare t)) met (only_alike g text (pushed c (bare t)) met from_pushed))

-- ---- outcomes

-- where runs end in the same ways they come to the same
pub by_alike : (D E : Type 0) (A B : Tree → Type 0) (S Z : ℕ → Type 0) → D ↔ E → ((t : Tree) → A t ↔ B t) → ((p : ℕ) → S p ↔ Z p) → (o : FreshOutcome) → FreshBy D A S o → FreshBy E B Z o
by_alike D E A B S Z d a s deep_outcome h = d.0 h
by_alike D E A B S Z d a s (tree_outcome t) h = record {
  shallow = λ k. h.shallow (d.1 k);
  accepted = (a (bare t)).0 h.accepted;
  best = λ u k. h.best u ((a u).1 k);
}
by_alike D E A B S Z d a s (stuck_outcome place) h = record {
  shallow = λ k. h.shallow (d.1 k);
  none = λ t k. h.none t ((a t).1 k);
  stops = (s place).0 h.stops;
  greatest = λ p k. h.greatest p ((s p).1 k);
}

pub fresh_alike : (g : FlatGrammar) (text : Bytes) (c d : Configuration) → EndAlike g text c d → (o : FreshOutcome) → FreshFrom g text c o → FreshFrom g text d o
fresh_alike g text c d a o h =
    by_alike (GoesTooDeep g text c) (GoesTooDeep g text d) (GoesToTree g text c) (GoesToTree g text d) (GoesToStop g text c) (GoesToStop g text d) a.deep a.tree a.stop o h

pub fresh_start : (g : FlatGrammar) (text : Bytes) (o : FreshOutcome) → FreshFrom g text starting o ↔ Fresh g text o
fresh_start g text deep_outcome = ((λ h. h), (λ h. h))
fresh_start g text (tree_outcome t) = (
  (λ h. record { shallow = h.shallow; accepted = h.accepted; best = h.best }),
  (λ h. record { shallow = h.shallow; accepted = h.accepted; best = h.best }),
)
fresh_start g text (stuck_outcome place) = (
  (λ h. record { shallow = h.shallow; none = h.none; stops = h.stops; greatest = h.greatest }),
  (λ h. record { shallow = h.shallow; none = h.none; stops = h.stops; greatest = h.greatest }),
)
