-- A node over nodes that stand is forced.
use Rattle.std.proofs.Common.{◌≡◌, ◌∙◌, sym, ap, refl, subst, ℕ, ◌+◌, ◌≤◌, inr, ⊎_elim, true, List, [], ◌∷◌, ◌++◌, append_assoc, append-nil, length, length-append, reverse, map, drop, Option, None, arith}
use Rattle.std.proofs.lemmas.List.{drop-drop, reverse-append, reverse-reverse}
use Rattle.ts_base.specs.Bytes.{Bytes}
use Rattle.ts_core.specs.declared.flat.FlatGrammar.{FlatGrammar}
use Rattle.ts_core.specs.declared.symbol.Symbol.{Symbol}
use Rattle.spec_grammar.specs.Symbols.{is_extra}
use Rattle.spec_lexing.specs.Lexing.{Found, token, absent, Lex}
use Rattle.spec_tables.specs.Actions.{reduce}
use Rattle.spec_tables.specs.Fit.{Fit}
use Rattle.spec_trees.specs.declared.tree.Tree.{Tree}
use Rattle.spec_trees.specs.Trees.{node_extent, span_of, all_spans, tree_depth, bare}
use Rattle.spec_trees.specs.Made.{as_extra, reduced, filling, EndBy, BeginsFilled, most_depth}
use Rattle.spec_runs.specs.Configurations.{stack_symbols, token_tree, HasMove, AreExtras, IsReduction}
use Rattle.spec_forced.specs.Forced.{IsOnlyMove, IsDecided, ForcedRun, run_begins, run_reduces, IsForced, StandInTurn, MakesNode}
use Rattle.spec_forced.specs.Laws.{ForcedLaws}
use Rattle.spec_forced.proofs.ItemLemmas.{same_self}
use Rattle.spec_forced.proofs.SeenLemmas.{agree_self}
use Rattle.spec_forced.proofs.ForcedLemmas.{joins}
use Rattle.spec_forced.proofs.StackLemmas.{filling_append, filling_extras, spans_append, spans_turned, extras_left}
use Rattle.spec_forced.proofs.SpanLemmas.{bare_span, bare_spans, bare_fillings, piled}
use Rattle.spec_forced.proofs.TrailLemmas.{FoundAmong, Lowest, lowest, trail}
use Rattle.spec_forced.proofs.FirstLemmas.{First, first}

-- ---- one thing is found

tree_found : Found → Tree
tree_found (token s pad size) = as_extra (token_tree s pad size)
tree_found (absent n) = as_extra (token_tree (record { 0 = 0 }) 0 0)

number_found : Found → ℕ
number_found (token s pad size) = s.0
number_found (absent n) = 0

-- an extra that is found among more tokens is what is seen
pub same_seen : (laws : ForcedLaws) (g : FlatGrammar) (read : List ℕ) (rest : Bytes) (s r : Symbol) (pad size e pad' size' e' : ℕ) → is_extra g s.0 ≡ true → FoundAmong g read rest (token s pad size) e → IsDecided g read rest (token r pad' size') e'
    → token r pad' size' ≡ token s pad size
same_seen laws g read rest s r pad size e pad' size' e' extra found (valid, are, decided) =
    let narrow : Lex g valid rest (token s pad size) =
    laws.fewer_tokens g found.wide valid rest s pad size (λ t c. found.holds t ((are t).0 c)) ((are s).1 (inr extra)) (found.decided rest (agree_self e rest)) in
    laws.one_lexing g valid rest (token r pad' size') (token s pad size) (decided rest (agree_self e' rest)) narrow

-- ---- nodes one after another

-- A run that has put trees on the stack, and some extras above them that are still to come.
pub record Pending (g : FlatGrammar) (read : List ℕ) (rest : Bytes) (extent : ℕ) (done : List Tree) : Type 0 where
  pub ahead : List Tree
  pub all_extras : AreExtras ahead
  pub bytes : ℕ
  pub run : ForcedRun g read rest extent (ahead ++ done) bytes

module _ (laws : ForcedLaws) (g : FlatGrammar) (fit : Fit g) (read : List ℕ) (rest : Bytes) (extent : ℕ) where
  -- nothing is still to come, and the node's own run goes on
  from_there : (done : List Tree) (t : Tree) (e bytes : ℕ) → ForcedRun g read rest extent done bytes → IsForced g (filling done ++ read) (drop (all_spans done) rest) t e → all_spans done + e ≤ extent → Pending g read rest extent (bare t ∷ done)
  from_there done t e bytes run f fits =
      let at : all_spans done ≡ bytes = sym (piled laws g fit read rest extent done bytes run).1 in
      let both : ForcedRun g read rest extent ((f.extras ++ bare t ∷ []) ++ done) (bytes + f.bytes) =
      joins g read rest extent done bytes run (filling done ++ read) (drop (all_spans done) rest) e (f.extras ++ bare t ∷ []) f.bytes refl (ap (λ (n : ℕ). drop n rest) at) (omega (arith, fits, at)) f.run in
      record {
        ahead = f.extras;
        all_extras = f.all_extras;
        bytes = bytes + f.bytes;
        run = subst (λ (l : List Tree). ForcedRun g read rest extent l (bytes + f.bytes)) (append_assoc f.extras (bare t ∷ []) done) both;
      }

  -- the first extra that is to come, where there is one
  next_ahead : (done ahead : List Tree) (z : Tree) (bytes : ℕ) → AreExtras (z ∷ ahead) → ForcedRun g read rest extent ((z ∷ ahead) ++ done) bytes → Lowest g (filling done ++ read) (drop (all_spans done) rest) (z ∷ ahead)
  next_ahead done ahead z bytes extras run =
      ⊎_elim (λ none. absurd (let e : z ∷ ahead ≡ [] = none.0 in cc)) (λ l. l)
      (lowest g (filling done ++ read) (drop (all_spans done) rest) _ (z ∷ ahead) _ (trail laws g fit read rest extent ((z ∷ ahead) ++ done) bytes run (z ∷ ahead) done refl extras))

  first_of : (under : List ℕ) (far : Bytes) (t : Tree) (e : ℕ) (f : IsForced g under far t e) → First g under far e (f.extras ++ bare t ∷ [])
  first_of under far t e f =
      ⊎_elim (λ none. absurd (let n : length (f.extras ++ bare t ∷ []) ≡ 0 = ap (λ (l : List Tree). length l) none.0 in omega (arith, n, length-append f.extras (bare t ∷ [])))) (λ h. h)
      (first laws g under far e (f.extras ++ bare t ∷ []) f.bytes f.run)

  heads : (a b : Tree) (xs ys : List Tree) → a ∷ xs ≡ b ∷ ys → a ≡ b
  heads a b xs ys e = cc

  -- an extra is to come, and the node is that extra
  takes_ahead : (done ahead : List Tree) (z t : Tree) (e bytes : ℕ) → AreExtras (z ∷ ahead) → ForcedRun g read rest extent ((z ∷ ahead) ++ done) bytes → IsForced g (filling done ++ read) (drop (all_spans done) rest) t e → Pending g read rest extent (bare t ∷ done)
  unfolding tree_found number_found
  takes_ahead done ahead z t e bytes extras run f =
      let under : List ℕ = filling done ++ read in
      let far : Bytes = drop (all_spans done) rest in
      let l = next_ahead done ahead z bytes extras run in
      let h = first_of under far t e f in
      let same = same_seen laws g under far l.symbol h.symbol l.pad l.size l.e h.pad h.size h.e l.extra l.found h.seen in
      let own : reverse (f.extras ++ bare t ∷ []) ≡ bare t ∷ reverse f.extras = reverse-append f.extras (bare t ∷ []) in
      let low : h.low ≡ bare t = heads h.low (bare t) h.others (reverse f.extras) (sym h.turned ∙ own) in
      let is : as_extra (token_tree l.symbol l.pad l.size) ≡ bare t =
      ⊎_elim
      (λ k. absurd (l.idle (subst (λ (n : ℕ). HasMove g under n) (ap number_found same) k.0)))
      (λ k. sym (ap tree_found same) ∙ sym k.0 ∙ low)
      h.kind in
      let split : z ∷ ahead ≡ reverse l.others ++ bare t ∷ [] =
      sym (reverse-reverse (z ∷ ahead)) ∙ ap (λ (x : List Tree). reverse x) l.turned ∙ reverse-append (as_extra (token_tree l.symbol l.pad l.size) ∷ []) l.others ∙ ap (λ (x : Tree). reverse l.others ++ x ∷ []) is in
      record {
        ahead = reverse l.others;
        all_extras = extras_left (reverse l.others) (bare t ∷ []) (subst (λ (x : List Tree). AreExtras x) split extras);
        bytes = bytes;
        run = subst (λ (x : List Tree). ForcedRun g read rest extent x bytes)
            (ap (λ (x : List Tree). x ++ done) split ∙ append_assoc (reverse l.others) (bare t ∷ []) done) run;
      }

  next : (done : List Tree) (t : Tree) (e : ℕ) → Pending g read rest extent done → IsForced g (filling done ++ read) (drop (all_spans done) rest) t e → all_spans done + e ≤ extent → Pending g read rest extent (bare t ∷ done)
  next done t e p f fits = by p.ahead p.all_extras p.bytes p.run
    where
      by : (ahead : List Tree) → AreExtras ahead → (bytes : ℕ) → ForcedRun g read rest extent (ahead ++ done) bytes → Pending g read rest extent (bare t ∷ done)
      by [] extras bytes run = from_there done t e bytes run f fits
      by (z ∷ ahead) extras bytes run = takes_ahead done ahead z t e bytes extras run f

  -- all of some nodes
  pub in_turn : (ts done : List Tree) → Pending g read rest extent done → StandInTurn g (filling done ++ read) (drop (all_spans done) rest) ts → EndBy extent (all_spans done) ts → Pending g read rest extent (reverse (map bare ts) ++ done)
  in_turn [] done p s c = p
  in_turn (t ∷ ts) done p s c =
      let under : List ℕ = filling done ++ read in
      let far : Bytes = drop (all_spans done) rest in
      let f : IsForced g under far t (node_extent t) = s.0 under far (same_self g under) (agree_self (node_extent t) far) in
      let symbols : filling (t ∷ []) ++ under ≡ filling (bare t ∷ done) ++ read =
      ap (λ (l : List ℕ). l ++ under) (sym (bare_fillings laws (t ∷ []))) ∙ sym (append_assoc (filling (bare t ∷ [])) (filling done) read)
      ∙ ap (λ (l : List ℕ). l ++ read) (sym (filling_append (bare t ∷ []) done)) in
      let at : all_spans done + span_of t ≡ all_spans (bare t ∷ done) = omega (arith, bare_span laws t) in
      let text : drop (span_of t) far ≡ drop (all_spans (bare t ∷ done)) rest = drop-drop (span_of t) (all_spans done) rest ∙ ap (λ (n : ℕ). drop n rest) at in
      let more : StandInTurn g (filling (bare t ∷ done) ++ read) (drop (all_spans (bare t ∷ done)) rest) ts =
      subst (λ (x : Bytes). StandInTurn g (filling (bare t ∷ done) ++ read) x ts) text (subst (λ (l : List ℕ). StandInTurn g l (drop (span_of t) far) ts) symbols s.1) in
      let deep = in_turn ts (bare t ∷ done) (next done t (node_extent t) p f c.0) more (subst (λ (n : ℕ). EndBy extent n ts) at c.1) in
      subst (λ (l : List Tree). Pending g read rest extent l)
      (sym (append_assoc (reverse (map bare ts)) (bare t ∷ []) done) ∙ ap (λ (l : List Tree). l ++ done) (sym (reverse-append (bare t ∷ []) (map bare ts)))) deep

  -- nothing is still to come where the token seen has a move
  pub all_done : (done : List Tree) (s : Symbol) (pad size e : ℕ) → Pending g read rest extent done → IsDecided g (filling done ++ read) (drop (all_spans done) rest) (token s pad size) e → HasMove g (filling done ++ read) s.0 → ForcedRun g read rest extent done (all_spans done)
  unfolding number_found
  all_done done s pad size e p seen move = by p.ahead p.all_extras p.bytes p.run
    where
      by : (ahead : List Tree) → AreExtras ahead → (bytes : ℕ) → ForcedRun g read rest extent (ahead ++ done) bytes → ForcedRun g read rest extent done (all_spans done)
      by [] extras bytes run = subst (λ (n : ℕ). ForcedRun g read rest extent done n) (piled laws g fit read rest extent done bytes run).1 run
      by (z ∷ ahead) extras bytes run =
          let l = next_ahead done ahead z bytes extras run in
          let same = same_seen laws g (filling done ++ read) (drop (all_spans done) rest) l.symbol s l.pad l.size l.e pad size e l.extra l.found seen in
          absurd (l.idle (subst (λ (n : ℕ). HasMove g (filling done ++ read) n) (ap number_found same) move))

-- ---- the node

pub map_append : (xs ys : List Tree) → map bare (xs ++ ys) ≡ map bare xs ++ map bare ys
map_append [] ys = refl
map_append (x ∷ xs) ys = ap (λ (l : List Tree). bare x ∷ l) (map_append xs ys)

pub map_turned : (xs : List Tree) → map bare (reverse xs) ≡ reverse (map bare xs)
map_turned [] = refl
map_turned (x ∷ xs) =
    ap (λ (l : List Tree). map bare l) (reverse-append (x ∷ []) xs) ∙ map_append (reverse xs) (x ∷ []) ∙ ap (λ (l : List Tree). l ++ bare x ∷ []) (map_turned xs)
    ∙ sym (reverse-append (bare x ∷ []) (map bare xs))

-- what lies above the stack before a reduction: the children, and above them the extras that are to be lifted
abbrev pub laid_stack : List Tree → List Tree → List Tree
laid_stack children lifted = map bare lifted ++ (reverse (map bare children) ++ [])

pub turned_stack : (children : List Tree) → reverse (map bare children) ++ [] ≡ map bare (reverse children)
turned_stack children = append-nil (reverse (map bare children)) ∙ sym (map_turned children)

-- a forced run has put them there, and sees the token behind them
pub record Laid (g : FlatGrammar) (read : List ℕ) (rest : Bytes) (extent : ℕ) (children lifted : List Tree) (s : Symbol) (pad size ahead : ℕ) : Type 0 where
  pub symbols : stack_symbols (reverse children) ++ read ≡ stack_symbols (laid_stack children lifted) ++ read
  pub spans : all_spans children + all_spans lifted ≡ all_spans (laid_stack children lifted)
  pub all_extras : AreExtras (map bare lifted)
  pub seen : IsDecided g (stack_symbols (laid_stack children lifted) ++ read) (drop (all_spans (laid_stack children lifted)) rest) (token s pad size) ahead
  pub run : ForcedRun g read rest extent (laid_stack children lifted) (all_spans (laid_stack children lifted))

module _ (laws : ForcedLaws) where
  bare_extras : (xs : List Tree) → AreExtras xs → AreExtras (map bare xs)
  bare_extras [] a = tt
  bare_extras (x ∷ xs) a = ((laws.keeps x).extra ∙ a.0, bare_extras xs a.1)

  bare_begins : (xs : List Tree) → BeginsFilled xs → BeginsFilled (map bare xs)
  bare_begins [] h = tt
  bare_begins (x ∷ xs) h = (laws.keeps x).extra ∙ h

  pub begins_laid : (children : List Tree) → BeginsFilled (reverse children) → BeginsFilled (reverse (map bare children) ++ [])
  begins_laid children ends = subst (λ (l : List Tree). BeginsFilled l) (sym (turned_stack children)) (bare_begins (reverse children) ends)

  pub laid : (g : FlatGrammar) → Fit g → (read : List ℕ) (rest : Bytes) (extent : ℕ) (children lifted : List Tree) (s : Symbol) (pad size ahead : ℕ) → AreExtras lifted → StandInTurn g read rest (children ++ reverse lifted) → EndBy extent 0 (children ++ reverse lifted)
      → IsDecided g (stack_symbols (reverse children) ++ read) (drop (all_spans children + all_spans lifted) rest) (token s pad size) ahead → HasMove g (stack_symbols (reverse children) ++ read) s.0 → Laid g read rest extent children lifted s pad size ahead
  laid g fit read rest extent children lifted s pad size ahead all_extras stand covers seen move =
      let done : List Tree = laid_stack children lifted in
      let nothing : Pending g read rest extent [] = record { ahead = []; all_extras = tt; bytes = 0; run = run_begins } in
      let p = in_turn laws g fit read rest extent (children ++ reverse lifted) [] nothing stand covers in
      let turned : reverse (map bare (children ++ reverse lifted)) ++ [] ≡ done =
      append-nil (reverse (map bare (children ++ reverse lifted)))
      ∙ ap (λ (l : List Tree). reverse l) (map_append children (reverse lifted) ∙ ap (λ (l : List Tree). map bare children ++ l) (map_turned lifted))
      ∙ reverse-append (map bare children) (reverse (map bare lifted)) ∙ ap (λ (l : List Tree). l ++ reverse (map bare children)) (reverse-reverse (map bare lifted))
      ∙ ap (λ (l : List Tree). map bare lifted ++ l) (sym (append-nil (reverse (map bare children)))) in
      let kids : reverse (map bare children) ++ [] ≡ map bare (reverse children) = turned_stack children in
      let extras : AreExtras (map bare lifted) = bare_extras lifted all_extras in
      let symbols : stack_symbols (reverse children) ++ read ≡ filling done ++ read =
      ap (λ (l : List ℕ). l ++ read) (sym (filling_extras (map bare lifted) (reverse (map bare children) ++ []) extras ∙ ap filling kids ∙ bare_fillings laws (reverse children))) in
      let at : all_spans children + all_spans lifted ≡ all_spans done =
      omega (
        arith,
        spans_append (map bare lifted) (reverse (map bare children) ++ []),
        bare_spans laws lifted,
        ap all_spans kids,
        bare_spans laws (reverse children),
        spans_turned children,
      ) in
      let seen_done : IsDecided g (filling done ++ read) (drop (all_spans done) rest) (token s pad size) ahead =
      subst (λ (n : ℕ). IsDecided g (filling done ++ read) (drop n rest) (token s pad size) ahead) at
      (subst (λ (l : List ℕ). IsDecided g l (drop (all_spans children + all_spans lifted) rest) (token s pad size) ahead) symbols seen) in
      record {
        symbols = symbols;
        spans = at;
        all_extras = extras;
        seen = seen_done;
        run = all_done laws g fit read rest extent done s pad size ahead (subst (λ (l : List Tree). Pending g read rest extent l) turned p) seen_done (subst (λ (l : List ℕ). HasMove g l s.0) symbols move);
      }

  pub made_forced : (g : FlatGrammar) → Fit g → (read : List ℕ) (rest : Bytes) (number : ℕ) (children lifted : List Tree) (extent e : ℕ) (state : Option ℕ) → MakesNode g read rest number children lifted extent → tree_depth (reduced g number e state children) ≤ most_depth
      → IsForced g read rest (reduced g number e state children) extent
  made_forced g fit read rest number children lifted extent e state m shallow =
      let node : Tree = bare (reduced g number 0 None (map bare children)) in
      let stack : List Tree = laid_stack children lifted in
      let l = laid g fit read rest extent children lifted m.symbol m.pad m.size m.ahead m.all_extras m.stand m.covers m.seen (reduce number, m.only.stays) in
      let only : IsOnlyMove g (filling stack ++ read) m.symbol.0 (reduce number) = subst (λ (x : List ℕ). IsOnlyMove g x m.symbol.0 (reduce number)) l.symbols m.only in
      let same : bare (reduced g number e state children) ≡ node = laws.reduced_bare g number e state children in
      let reduction : IsReduction g number stack node (map bare lifted ++ node ∷ []) = record {
        left = m.left;
        production = m.production;
        at = m.at;
        lifted = map bare lifted;
        children = map bare children;
        below = [];
        stack_is = refl;
        extras = l.all_extras;
        all_lifted = begins_laid children m.ends;
        count = ap (λ (x : List ℕ). length x) (bare_fillings laws children) ∙ m.count;
        first_fills = bare_begins children m.begins;
        node_is = refl;
        after_is = refl;
      } in
      let depth : tree_depth node ≤ most_depth = omega (arith, shallow, (laws.keeps (reduced g number e state children)).depth, ap tree_depth same) in
      let after : ForcedRun g read rest extent (map bare lifted ++ node ∷ []) (all_spans stack) =
      run_reduces stack (all_spans stack) m.symbol m.pad m.size m.ahead number node (map bare lifted ++ node ∷ []) l.run l.seen (omega (arith, l.spans, m.reach)) only (m.left, m.production, m.at, m.some) reduction depth in
      record {
        extras = map bare lifted;
        all_extras = l.all_extras;
        bytes = all_spans stack;
        run = subst (λ (t : Tree). ForcedRun g read rest extent (map bare lifted ++ t ∷ []) (all_spans stack)) (sym same) after;
      }
