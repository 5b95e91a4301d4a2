-- Lexing within a piece of a text.
use Rattle.std.proofs.Common.{◌≡◌, ◌∙◌, sym, ap, subst, ℕ, ◌+◌, ◌-◌, ◌≤◌, ◌<◌, max, Bool, false, List, [], ◌++◌, length, length-append, length-drop, drop, Some, None, arith}
use Rattle.std.specs.Str.{IsUtf8}
use Rattle.std.specs.List.{Contains}
use Rattle.std.proofs.lemmas.List.{append-nil, drop-append-le, drop-drop}
use Rattle.ts_base.specs.Bytes.{Bytes}
use Rattle.ts_core.specs.declared.flat.FlatGrammar.{FlatGrammar}
use Rattle.ts_core.specs.declared.symbol.Symbol.{Symbol}
use Rattle.spec_lexing.specs.Lexing.{end_symbol}
use Rattle.ts_lexer.specs.declared.scanned.Match.{Match}
use Rattle.ts_lexer.specs.declared.scanned.Scanned.{Scanned}
use Rattle.ts_lexer.specs.Scanned.{IsScanned}
use Rattle.ts_lexer.specs.Within.{IsFoundIn}
use Rattle.ts_lexer.proofs.GapLemmas.{gap}
use Rattle.ts_lexer.proofs.PassLemmas.{Passing, best_at, best_within, none_at, reach_within, take_lex, take_seen, stop_lex, stop_seen, passing_more}

-- what has been read of a piece from a place on, and what is left of it, are as many bytes at each
-- later place
pub sum_from : (piece tail : Bytes) (from place to : ℕ) → from ≤ place → place ≤ to → to ≤ length piece → to - from + length (drop to piece ++ tail) ≡ place - from + length (drop place piece ++ tail)
sum_from piece tail from place to low high within =
    let a = length-append (drop to piece) tail in
    let b = length-append (drop place piece) tail in
    let d = length-drop to piece in
    let e = length-drop place piece in
    omega arith

module _ (g : FlatGrammar) (valid : List Symbol) (piece : Bytes) (first : Bool) (pad extent : ℕ) (within : pad ≤ length piece) (here : Scanned) where
  -- what is known of a place whatever follows the piece: here nothing follows it
  module _ (x : IsScanned g valid first (drop pad piece ++ []) here) where
    pub reach_near : pad + here.reach ≤ length piece + 1
    reach_near =
        let r = reach_within g valid (drop pad piece ++ []) here.reach x.reach in
        let a = length-append (drop pad piece) [] in
        let d = length-drop pad piece in
        omega arith

    module _ (utf8 : IsUtf8 (drop pad piece)) (above : 0 < here.separator) where
      nothing : drop pad piece ++ [] ≡ drop pad piece
      nothing = append-nil (drop pad piece)

      pub separator_within : pad + here.separator ≤ length piece
      separator_within =
          let w = (gap g (drop pad piece ++ []) here.separator (subst IsUtf8 (sym nothing) utf8) (x.separator above)).within in
          let a = length-append (drop pad piece) [] in
          let d = length-drop pad piece in
          omega arith

      pub separator_utf8 : IsUtf8 (drop (pad + here.separator) piece)
      separator_utf8 = subst IsUtf8
          (ap (λ (l : Bytes). drop here.separator l) nothing ∙ drop-drop here.separator pad piece)
          (gap g (drop pad piece ++ []) here.separator (subst IsUtf8 (sym nothing) utf8) (x.separator above)).utf8

  module _ (tail : Bytes) (near : extent ≤ length piece + 1) (close : pad + here.reach ≤ length piece + 1) (k : Passing g valid (piece ++ tail) (drop pad piece ++ tail) first pad extent)
      (x : IsScanned g valid first (drop pad piece ++ tail) here) where
    pub taken : (found : Match) → here.best ≡ Some found → IsFoundIn g valid (piece ++ tail) (record { found = Some found; pad = pad; extent = max extent (pad + here.reach) })
    taken found is =
        let b = best_at g valid first (drop pad piece ++ tail) here.best found is x.best in
        let size = best_within g valid first (drop pad piece ++ tail) found.symbol found.size b in
        let a = length-append piece tail in
        let e = length-append (drop pad piece) tail in
        let d = length-drop pad piece in (
          record {
            lex = take_lex g valid (piece ++ tail) (drop pad piece ++ tail) first pad extent k here x found b;
            seen = take_seen g valid (piece ++ tail) (drop pad piece ++ tail) first pad extent k here x found b;
          },
          record { pad = omega arith; extent = omega arith; found = omega arith },
        )

    -- the piece goes on, so that the text does
    module _ (lacks : here.best ≡ None) (some : pad < length piece) where
      no_end : drop pad piece ++ tail ≡ [] → Contains valid end_symbol → ⊥
      no_end none is =
          let e = ap (λ (l : Bytes). length l) none in
          let a = length-append (drop pad piece) tail in
          let d = length-drop pad piece in
          omega arith

      pub stopped : here.separator ≡ 0 → IsFoundIn g valid (piece ++ tail) (record { found = None; pad = pad; extent = max extent (pad + here.reach) })
      stopped zero_is =
          let tokens = none_at g valid first (drop pad piece ++ tail) here.best lacks x.best in
          let a = length-append piece tail in (
            record {
              lex = stop_lex g valid (piece ++ tail) (drop pad piece ++ tail) first pad extent k here x tokens no_end zero_is;
              seen = stop_seen g valid (piece ++ tail) (drop pad piece ++ tail) first pad extent k here x tokens no_end zero_is;
            },
            record { pad = omega arith; extent = omega arith; found = tt },
          )

      pub passed_more : 0 < here.separator → pad + here.separator ≤ length piece → Passing g valid (piece ++ tail) (drop (pad + here.separator) piece ++ tail) false (pad + here.separator) (max extent (pad + here.reach))
      passed_more above inside =
          let tokens = none_at g valid first (drop pad piece ++ tail) here.best lacks x.best in
          let d = length-drop pad piece in
          let is : drop here.separator (drop pad piece ++ tail) ≡ drop (pad + here.separator) piece ++ tail =
          drop-append-le here.separator (drop pad piece) tail (omega arith) ∙ ap (λ (l : Bytes). l ++ tail) (drop-drop here.separator pad piece) in
          subst (λ (l : Bytes). Passing g valid (piece ++ tail) l false (pad + here.separator) (max extent (pad + here.reach))) is
          (passing_more g valid (piece ++ tail) (drop pad piece ++ tail) first pad extent k here x tokens no_end above)
