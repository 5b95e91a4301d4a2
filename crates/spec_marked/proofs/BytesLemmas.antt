-- What stands over bytes that no part of an edit meets stands in the edited text.
use Rattle.std.proofs.Common.{◌≡◌, ◌∙◌, sym, ap, ℕ, zero, suc, ◌+◌, arith, false, List, [], ◌∷◌, drop, slice_get}
use Rattle.std.proofs.lemmas.Option.{slice_get_past}
use Rattle.ts_base.specs.Bytes.{Bytes}
use Rattle.ts_core.specs.declared.flat.FlatGrammar.{FlatGrammar}
use Rattle.ts_text.specs.declared.edit.Edit.{Edit}
use Rattle.ts_text.specs.Edit.{InRange, apply_of}
use Rattle.spec_lexing.specs.Seen.{Agree}
use Rattle.spec_trees.specs.declared.tree.Tree.{Tree}
use Rattle.spec_trees.specs.Trees.{node_extent}
use Rattle.spec_reuse.specs.Changes.{is_met, moved}
use Rattle.spec_forced.specs.Sound.{States, StandsForState, StandsBehindForState}
use Rattle.spec_marked.specs.Laws.{MarkedLaws}

get_drop : (m : ℕ) (xs : Bytes) (k : ℕ) → slice_get (drop m xs) k ≡ slice_get xs (m + k)
get_drop zero xs k = ap (λ (i : ℕ). slice_get xs i) (let e : k ≡ 0 + k = omega arith in e)
get_drop (suc m) [] k = slice_get_past (drop (suc m) []) k (omega arith) ∙ sym (slice_get_past [] (suc m + k) (omega arith))
get_drop (suc m) (x ∷ xs) k = get_drop m xs k ∙ ap (λ (i : ℕ). slice_get (x ∷ xs) i) (let e : suc (m + k) ≡ suc m + k = omega arith in e)

-- the bytes of a node's extent are the same at its new place
same_bytes : MarkedLaws → (text : Bytes) (e : Edit) (place extent : ℕ) → InRange text e → is_met e.parts place extent ≡ false → Agree extent (drop place text) (drop (moved e place) (apply_of text e))
same_bytes laws text e place extent range unmet k lt =
    get_drop place text k
    ∙ sym (laws.bytes_stay text e place extent k range unmet lt)
    ∙ sym (get_drop (moved e place) (apply_of text e) k)

pub stands_moved : MarkedLaws → (g : FlatGrammar) (states : States) (text : Bytes) (e : Edit) (place state : ℕ) (t : Tree) → InRange text e → is_met e.parts place (node_extent t) ≡ false → StandsForState g states text place state t → StandsForState g states (apply_of text e) (moved e place) state t
stands_moved laws g states text e place state t range unmet f = record {
  way = f.way;
  at = f.at;
  stands = laws.stands_again g f.way f.way (drop place text) (drop (moved e place) (apply_of text e)) t (node_extent t) (λ i. ((λ v. v), (λ v. v))) (same_bytes laws text e place (node_extent t) range unmet) f.stands;
}

-- an element that stands behind a repetition, at its new place
pub behind_moved : MarkedLaws → (g : FlatGrammar) (states : States) (text : Bytes) (e : Edit) (place state symbol number : ℕ) (children : List Tree) (extent : ℕ) → InRange text e → is_met e.parts place extent ≡ false → StandsBehindForState g states text place state symbol number children extent
    → StandsBehindForState g states (apply_of text e) (moved e place) state symbol number children extent
behind_moved laws g states text e place state symbol number children extent range unmet f = record {
  way = f.way;
  at = f.at;
  stands = laws.behind_again g symbol f.way f.way (drop place text) (drop (moved e place) (apply_of text e)) number children extent (λ i. ((λ v. v), (λ v. v))) (same_bytes laws text e place extent range unmet) f.stands;
}
