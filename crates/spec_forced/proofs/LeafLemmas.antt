-- Leaves and extras that are seen stand, and extras stand after a reduction too.
use Rattle.std.proofs.Common.{◌≡◌, ◌∙◌, sym, ap, subst, ℕ, ◌+◌, ⊎_elim, true, true≢false, List, [], ◌∷◌, ◌++◌, length, length-append, reverse, Option, Some, None, arith}
use Rattle.std.proofs.lemmas.List.{reverse-append}
use Rattle.ts_base.specs.Bytes.{Bytes}
use Rattle.ts_core.specs.declared.flat.FlatGrammar.{FlatGrammar}
use Rattle.ts_core.specs.declared.flat.Production.{Production}
use Rattle.ts_core.specs.declared.symbol.Symbol.{Symbol}
use Rattle.spec_grammar.specs.Symbols.{production_at, is_extra}
use Rattle.spec_lexing.specs.Lexing.{token}
use Rattle.spec_tables.specs.Actions.{shift}
use Rattle.spec_tables.specs.Fit.{Fit}
use Rattle.spec_trees.specs.declared.tree.Tree.{Tree}
use Rattle.spec_trees.specs.declared.tree.Tree.TheFolds.{fold-roll-Tree}
use Rattle.spec_trees.specs.Trees.{is_extra_node, bare, bare_node}
use Rattle.spec_trees.specs.Made.{leaf_of, as_extra, step_symbols}
use Rattle.spec_runs.specs.Configurations.{token_tree, HasMove, AreValidTokens}
use Rattle.spec_forced.specs.Forced.{IsOnlyMove, IsDecided, ForcedRun, run_begins, run_shifts, run_passes, IsForced, Stands}
use Rattle.spec_forced.specs.Laws.{ForcedLaws}
use Rattle.spec_forced.proofs.ItemLemmas.{same_self}
use Rattle.spec_forced.proofs.SeenLemmas.{agree_self}
use Rattle.spec_forced.proofs.ForcedLemmas.{forced_stands}
use Rattle.spec_forced.proofs.SpanLemmas.{leaf_layer}
use Rattle.spec_forced.proofs.TrailLemmas.{Narrows, found_among, found_fewer, found_decides}
use Rattle.spec_forced.proofs.FirstLemmas.{First, first}

-- a bare leaf has no extent and no state
leaf_bare : (laws : ForcedLaws) (on pad size extent : ℕ) (state : Option ℕ) → bare (leaf_of on pad size extent state) ≡ bare (leaf_of on pad size 0 None)
leaf_bare laws on pad size extent state = fold-roll-Tree Tree bare_node (leaf_layer laws on pad size extent state) ∙ sym (fold-roll-Tree Tree bare_node (leaf_layer laws on pad size 0 None))

module _ (laws : ForcedLaws) (g : FlatGrammar) (read : List ℕ) (rest : Bytes) (s : Symbol) (pad size e extent : ℕ) (state : Option ℕ) (seen : IsDecided g read rest (token s pad size) e) where
  pub leaf_forced : IsOnlyMove g read s.0 shift → IsForced g read rest (leaf_of s.0 pad size extent state) e
  leaf_forced only = record {
    extras = [];
    all_extras = tt;
    bytes = 0 + (pad + size);
    run = subst (λ (t : Tree). ForcedRun g read rest e (t ∷ []) (0 + (pad + size))) (sym (leaf_bare laws s.0 pad size extent state))
        (run_shifts [] 0 s pad size e run_begins seen (omega arith) only);
  }

  pub extra_forced : is_extra g s.0 ≡ true → (HasMove g read s.0 → ⊥) → IsForced g read rest (as_extra (leaf_of s.0 pad size extent state)) e
  extra_forced extra idle =
      let same : bare (as_extra (leaf_of s.0 pad size extent state)) ≡ as_extra (token_tree s pad size) =
      laws.extra (leaf_of s.0 pad size extent state) ∙ ap as_extra (leaf_bare laws s.0 pad size extent state) in
      record {
        extras = [];
        all_extras = tt;
        bytes = 0 + (pad + size);
        run = subst (λ (t : Tree). ForcedRun g read rest e (t ∷ []) (0 + (pad + size))) (sym same)
            (run_passes [] 0 s pad size e run_begins seen (omega arith) extra idle);
      }

-- ---- an extra after a reduction

module _ (laws : ForcedLaws) (g : FlatGrammar) (fit : Fit g) (number left : ℕ) (p : Production) (at : production_at g number ≡ Some (left, p)) (earlier : List ℕ) where
  pub narrow : Narrows g (reverse (step_symbols p) ++ earlier) (left ∷ earlier)
  narrow t move none = laws.some_move_stays g (reverse (step_symbols p) ++ earlier) t _ (laws.no_new_tokens g fit number left t p earlier at move) none

  heads : (a b : Tree) (xs ys : List Tree) → a ∷ xs ≡ b ∷ ys → a ≡ b
  heads a b xs ys e = cc

  begins : (rest : Bytes) (x : Tree) (e : ℕ) (f : IsForced g (reverse (step_symbols p) ++ earlier) rest x e) → First g (reverse (step_symbols p) ++ earlier) rest e (f.extras ++ bare x ∷ [])
  begins rest x e f =
      ⊎_elim (λ none. absurd (let n : length (f.extras ++ bare x ∷ []) ≡ 0 = ap (λ (l : List Tree). length l) none.0 in omega (arith, n, length-append f.extras (bare x ∷ [])))) (λ h. h)
      (first laws g (reverse (step_symbols p) ++ earlier) rest e (f.extras ++ bare x ∷ []) f.bytes f.run)

  extra_again : (valid : List Symbol) → AreValidTokens g (left ∷ earlier) valid → (rest : Bytes) (x : Tree) (e : ℕ) → is_extra_node x ≡ true → IsForced g (reverse (step_symbols p) ++ earlier) rest x e → IsForced g (left ∷ earlier) rest x e
  extra_again valid are rest x e marked f =
      let h = begins rest x e f in
      let low : h.low ≡ bare x = heads h.low (bare x) h.others (reverse f.extras) (sym h.turned ∙ reverse-append f.extras (bare x ∷ [])) in
      let own : is_extra_node h.low ≡ true = ap is_extra_node low ∙ (laws.keeps x).extra ∙ marked in
      ⊎_elim (λ k. absurd (true≢false (sym own ∙ k.1)))
      (λ k.
      let found = found_fewer g (reverse (step_symbols p) ++ earlier) (left ∷ earlier) rest (token h.symbol h.pad h.size) h.e narrow (found_among g (reverse (step_symbols p) ++ earlier) rest (token h.symbol h.pad h.size) h.e h.seen) in
      let seen = found_decides laws g (left ∷ earlier) rest h.symbol h.pad h.size h.e valid are k.1 found in
      record {
        extras = [];
        all_extras = tt;
        bytes = 0 + (h.pad + h.size);
        run = subst (λ (t : Tree). ForcedRun g (left ∷ earlier) rest e (t ∷ []) (0 + (h.pad + h.size))) (sym k.0 ∙ low)
            (run_passes [] 0 h.symbol h.pad h.size h.e run_begins seen (omega (arith, h.fits)) k.1 (λ move. narrow h.symbol.0 move k.2));
      })
      h.kind

  pub extra_stays : (valid : List Symbol) → AreValidTokens g (left ∷ earlier) valid → (rest : Bytes) (x : Tree) (e : ℕ) → is_extra_node x ≡ true → Stands g (reverse (step_symbols p) ++ earlier) rest x e → Stands g (left ∷ earlier) rest x e
  extra_stays valid are rest x e marked s other text same agree =
      let inner : List ℕ = reverse (step_symbols p) ++ earlier in
      forced_stands g (left ∷ earlier) text x e (extra_again valid are text x e marked (s inner text (same_self g inner) agree)) other text same (agree_self e text)
