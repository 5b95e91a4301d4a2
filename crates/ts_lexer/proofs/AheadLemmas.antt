-- Rows of verdicts, made one after another.
use Rattle.std.proofs.Common.{◌≡◌, ◌∙◌, sym, ap, refl, subst, ℕ, ◌+◌, ⊎_elim, Bool, true, false, List, [], ◌∷◌, ◌++◌, length, slice_get, Option, Some, None, append_assoc, length-append, arith}
use Rattle.std.proofs.lemmas.List.{append-nil}
use Rattle.std.proofs.lemmas.Option.{slice_get_within}
use Rattle.ts_base.proofs.PlaceLemmas.{in_prefix, push_cases}
use Rattle.ts_core.specs.declared.flat.FlatGrammar.{FlatGrammar}
use Rattle.ts_core.specs.declared.symbol.Symbol.{Symbol}
use Rattle.ts_automata.specs.declared.tables.SetTables.{SetTables}
use Rattle.ts_automata.specs.Sets.{EachAt, sets_of}
use Rattle.ts_automata.specs.Machine.{state_count}
use Rattle.ts_lexer.specs.declared.ahead.LexTables.{LexTables}
use Rattle.ts_lexer.specs.declared.ahead.RowPair.{RowPair}
use Rattle.ts_lexer.specs.declared.verdict.Verdict.{Verdict}
use Rattle.ts_lexer.specs.declared.view.View.{View}
use Rattle.ts_lexer.specs.Ahead.{contents_of, IsNumbered, HasMoreRows, AreVerdicts, HasPair, IsReady, HavePairs}
use Rattle.ts_lexer.specs.Judged.{JudgesNodes}

-- the row has the verdicts on the first so many sets
pub record Judging (g : FlatGrammar) (valid : List Symbol) (first : Bool) (m : SetTables) (row : List Verdict) (k : ℕ) : Type 0 where
  pub count : length row ≡ k
  pub each : EachAt (λ n v. (s : List ℕ) → slice_get (sets_of m.sets.keys) n ≡ Some s → JudgesNodes g valid first m.automaton s v) row

pub judging_none : (g : FlatGrammar) (valid : List Symbol) (first : Bool) (m : SetTables) → Judging g valid first m [] 0
judging_none g valid first m = record { count = refl; each = λ n v at. absurd (let w = slice_get_within [] n v at in omega (arith, w)) }

pub judging_more : (g : FlatGrammar) (valid : List Symbol) (first : Bool) (m : SetTables) (row : List Verdict) (k : ℕ) (v : Verdict) (set : List ℕ) → Judging g valid first m row k
    → slice_get (sets_of m.sets.keys) k ≡ Some set → JudgesNodes g valid first m.automaton set v → Judging g valid first m (row ++ v ∷ []) (k + 1)
judging_more g valid first m row k v set before at judged = record {
  count = (let c = before.count in let l = length-append row (v ∷ []) in omega arith);
  each = λ n x there s of. ⊎_elim
      (λ w. before.each n x w.1 s of)
      (λ w.
      let same : n ≡ k = (let c = before.count in let e = w.0 in omega arith) in
      let f : Some set ≡ Some s = sym at ∙ ap (λ (i : ℕ). slice_get (sets_of m.sets.keys) i) (sym same) ∙ of in
      let h : set ≡ s = cc in
      subst (λ (y : Verdict). JudgesNodes g valid first m.automaton s y) w.1 (subst (λ (l : List ℕ). JudgesNodes g valid first m.automaton l v) h judged))
      (push_cases row v n x there);
}

pub judging_all : (g : FlatGrammar) (valid : List Symbol) (first : Bool) (m : SetTables) (row : List Verdict) (k : ℕ) → k ≡ state_count m → Judging g valid first m row k → AreVerdicts g valid first m row
judging_all g valid first m row k all j = record { count = j.count ∙ all; each = j.each }

-- ---- more rows

pub more_none : (t : LexTables) → HasMoreRows t t
more_none t = record { machine = refl; rules = refl; more = []; rows = sym (append-nil (contents_of t.rows.keys)) }

pub more_both : (a b c : LexTables) → HasMoreRows a b → HasMoreRows b c → HasMoreRows a c
more_both a b c p q = record {
  machine = q.machine ∙ p.machine;
  rules = q.rules ∙ p.rules;
  more = p.more ++ q.more;
  rows = q.rows ∙ ap (λ (l : List (List Verdict)). l ++ q.more) p.rows ∙ append_assoc (contents_of a.rows.keys) p.more q.more;
}

pub more_rows : (a b c : LexTables) (xs ys : List Verdict) (m n : ℕ) → b.machine ≡ a.machine → b.rules ≡ a.rules → c.machine ≡ b.machine → c.rules ≡ b.rules
    → IsNumbered (contents_of a.rows.keys) (contents_of b.rows.keys) xs m → IsNumbered (contents_of b.rows.keys) (contents_of c.rows.keys) ys n → HasMoreRows a c
more_rows a b c xs ys m n e f h i p q = more_both a b c (record { machine = e; rules = f; more = p.more; rows = p.is }) (record { machine = h; rules = i; more = q.more; rows = q.is })

kept : (old new : LexTables) (n : ℕ) (row : List Verdict) → HasMoreRows old new → slice_get (contents_of old.rows.keys) n ≡ Some row → slice_get (contents_of new.rows.keys) n ≡ Some row
kept old new n row more at =
    ap (λ (l : List (List Verdict)). slice_get l n) more.rows ∙ in_prefix (contents_of old.rows.keys) more.more n (slice_get_within (contents_of old.rows.keys) n row at) ∙ at

pub pair_kept : (g : FlatGrammar) (valid : List Symbol) (old new : LexTables) (p : RowPair) → HasMoreRows old new → HasPair g valid old p → HasPair g valid new p
pair_kept g valid old new p more has = record {
  early = has.early;
  early_at = kept old new p.first has.early more has.early_at;
  early_is = subst (λ (m : SetTables). AreVerdicts g valid true m has.early) (sym more.machine) has.early_is;
  late = has.late;
  late_at = kept old new p.later has.late more has.late_at;
  late_is = subst (λ (m : SetTables). AreVerdicts g valid false m has.late) (sym more.machine) has.late_is;
}

pub pair_made : (g : FlatGrammar) (valid : List Symbol) (a b c : LexTables) (xs ys : List Verdict) (m n : ℕ) → c.machine ≡ b.machine → c.rules ≡ b.rules
    → IsNumbered (contents_of a.rows.keys) (contents_of b.rows.keys) xs m → IsNumbered (contents_of b.rows.keys) (contents_of c.rows.keys) ys n
    → AreVerdicts g valid true c.machine xs → AreVerdicts g valid false c.machine ys → HasPair g valid c (record { first = m; later = n })
pair_made g valid a b c xs ys m n h i p q early late = record {
  early = xs;
  early_at = kept b c m xs (record { machine = h; rules = i; more = q.more; rows = q.is }) p.at;
  early_is = early;
  late = ys;
  late_at = q.at;
  late_is = late;
}

pub pairs_none : (g : FlatGrammar) (t : LexTables) (lists : List (List Symbol)) → HavePairs g t lists []
pairs_none g t lists k valid p at there = absurd (let w = slice_get_within [] k (Some p) there in omega (arith, w))

pub pairs_more : (g : FlatGrammar) (old new : LexTables) (lists : List (List Symbol)) (pairs : List (Option RowPair)) (k : ℕ) (list : List Symbol) (o : Option RowPair) → length pairs ≡ k
    → HasMoreRows old new → slice_get lists k ≡ Some list → ((p : RowPair) → o ≡ Some p → HasPair g list new p) → HavePairs g old lists pairs → HavePairs g new lists (pairs ++ o ∷ [])
pairs_more g old new lists pairs k list o count more at one before n valid p of there = ⊎_elim
    (λ w. pair_kept g valid old new p more (before n valid p of w.1))
    (λ w.
    let same : n ≡ k = w.0 ∙ count in
    let f : Some list ≡ Some valid = sym at ∙ ap (λ (i : ℕ). slice_get lists i) (sym same) ∙ of in
    let h : list ≡ valid = cc in
    subst (λ (l : List Symbol). HasPair g l new p) h (one p w.1))
    (push_cases pairs o n (Some p) there)

-- ---- what is ready

pub ready_pair : (g : FlatGrammar) (valid : List Symbol) (t : LexTables) (v : View) (o : Option RowPair) (p : RowPair) → o ≡ Some p → IsReady g valid t v o → HasPair g valid t p
ready_pair g valid t v None p e h = absurd (let f : None ≡ Some p = e in cc)
ready_pair g valid t v (Some q) p e h = let f : q ≡ p = cc in subst (λ (x : RowPair). HasPair g valid t x) f h
