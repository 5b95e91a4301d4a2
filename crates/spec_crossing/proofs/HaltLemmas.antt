-- Each run ends, and so some end is there: a node that is too deep, an accepted tree, or a stop.
use Rattle.std.proofs.Common.{◌≡◌, ◌∙◌, sym, ap, refl, subst, ℕ, zero, suc, ◌+◌, ◌<◌, ◌⊎◌, inl, inr, ⊎_elim, Bool, true, false, List, [], ◌∷◌, ◌++◌, append-nil, length, reverse, drop, None, arith}
use Rattle.std.specs.List.{Contains}
use Rattle.std.proofs.lemmas.List.{reverse-append, reverse-reverse, length-map, length-reverse}
use Rattle.ts_base.specs.Bytes.{Bytes}
use Rattle.ts_core.specs.declared.flat.FlatGrammar.{FlatGrammar}
use Rattle.ts_core.specs.declared.flat.Step.{Step}
use Rattle.ts_core.specs.declared.symbol.Symbol.{Symbol}
use Rattle.spec_grammar.specs.Symbols.{start_symbol}
use Rattle.spec_lexing.specs.Lexing.{Found, token, absent, behind, Lexes, takes, ends, passes, stops, end_symbol}
use Rattle.spec_tables.specs.Actions.{Act, Move, shift, reduce, accept}
use Rattle.spec_tables.specs.Fit.{Fit}
use Rattle.spec_trees.specs.declared.tree.Tree.{Tree}
use Rattle.spec_trees.specs.Trees.{symbol_of, is_extra_node, tree_depth, bare}
use Rattle.spec_trees.specs.Made.{as_extra, accepted, reduced, filling, step_symbols, BeginsFilled, most_depth}
use Rattle.spec_runs.specs.Configurations.{Configuration, HasMove, NextIs, AreExtras, IsReduction, token_tree, pushed}
use Rattle.spec_runs.specs.Moves.{EndsWithProduction}
use Rattle.spec_runs.specs.Runs.{CanMove, StepsOn, shift_token, pass_extra, reduce_trees, Run, run_here, run_on, ComesTooDeep, AcceptsTree, StopsAt}
use Rattle.spec_graph.specs.Laws.{GraphLaws}
use Rattle.spec_graph.proofs.EntryLemmas.{filling_tree, filling_extra, filling_turned}
use Rattle.spec_graph.proofs.LayLemmas.{order_cases, extras_append}

-- ---- a token that is found is valid

same_token : (s t : Symbol) (p q m n : ℕ) → token s p m ≡ token t q n → s ≡ t
same_token s t p q m n e = cc

pub valid_token : (g : FlatGrammar) (valid : List Symbol) (first : Bool) (rest : Bytes) (h : Found) → Lexes g valid first rest h → (s : Symbol) (pad size : ℕ) → h ≡ token s pad size → Contains valid s
valid_token g valid _ _ _ (takes first rest symbol n best) s pad size e = subst (λ (x : Symbol). Contains valid x) (same_token symbol s 0 pad n size e) best.candidate.is_valid
valid_token g valid _ _ _ (ends first here) s pad size e = subst (λ (x : Symbol). Contains valid x) (same_token end_symbol s 0 pad 0 size e) here
valid_token g valid _ _ _ (stops first rest none over) s pad size e = absurd (let h : absent 0 ≡ token s pad size = e in cc)
valid_token g valid _ _ _ (passes first rest n found past on) s pad size e = by found refl e (λ t p m is. valid_token g valid false (drop n rest) found on t p m is)
  where
    by : (h : Found) → found ≡ h → behind n h ≡ token s pad size → ((t : Symbol) (p m : ℕ) → found ≡ token t p m → Contains valid t) → Contains valid s
    by (token t p m) is same again = subst (λ (x : Symbol). Contains valid x) (same_token t s (n + p) pad m size same) (again t p m is)
    by (absent far) is same again = absurd (let h : absent (n + far) ≡ token s pad size = same in cc)

-- ---- where a stack is cut

-- extras on top, then what is taken, which begins and ends with trees that fill a step, and the rest
record Cut (w : List Tree) (read : List ℕ) : Type 0 where
  pub lifted : List Tree
  pub taken : List Tree
  pub below : List Tree
  pub is : w ≡ lifted ++ (taken ++ below)
  pub extras : AreExtras lifted
  pub filled : filling taken ≡ read
  pub top : BeginsFilled (taken ++ below)
  pub bottom : BeginsFilled (reverse taken)

record Chunk (t : Tree) (w : List Tree) (read : List ℕ) : Type 0 where
  pub taken : List Tree
  pub below : List Tree
  pub is : w ≡ taken ++ below
  pub filled : filling taken ≡ read
  pub bottom : BeginsFilled (reverse (t ∷ taken))

front : (xs ys : List Tree) → 0 < length xs → BeginsFilled xs → BeginsFilled (xs ++ ys)
front [] ys lt b = absurd (omega (arith, lt))
front (x ∷ xs) ys lt b = b

turned_on : (t : Tree) (xs : List Tree) → 0 < length xs → BeginsFilled (reverse xs) → BeginsFilled (reverse (t ∷ xs))
turned_on t xs lt b =
    let len : length (reverse xs) ≡ length xs = length-reverse xs in
    subst (λ (l : List Tree). BeginsFilled l) (sym (reverse-append (t ∷ []) xs)) (front (reverse xs) (t ∷ []) (omega (arith, len, lt)) b)

chunk : (t : Tree) (w : List Tree) (read rest : List ℕ) → filling w ≡ read ++ rest → is_extra_node t ≡ false ⊎ (0 < length read) → Chunk t w read
chunk t w [] rest e (inl fills) = record { taken = []; below = w; is = refl; filled = refl; bottom = fills }
chunk t w [] rest e (inr some) = absurd (omega (arith, some))
chunk t [] (x ∷ read) rest e some = absurd (let h : [] ≡ x ∷ (read ++ rest) = e in cc)
chunk t (u ∷ w) (x ∷ read) rest e some = by (is_extra_node u) refl (λ h. chunk u w (x ∷ read) rest h (inr (omega arith))) (λ fills h. chunk u w read rest h (inl fills))
  where
    by : (b : Bool) → is_extra_node u ≡ b → (filling w ≡ (x ∷ read) ++ rest → Chunk u w (x ∷ read))
        → (is_extra_node u ≡ false → filling w ≡ read ++ rest → Chunk u w read) → Chunk t (u ∷ w) (x ∷ read)
    by true is passed filled =
        let c = passed (sym (filling_extra u w is) ∙ e) in
        record {
          taken = u ∷ c.taken;
          below = c.below;
          is = ap (λ (l : List Tree). u ∷ l) c.is;
          filled = filling_extra u c.taken is ∙ c.filled;
          bottom = turned_on t (u ∷ c.taken) (omega arith) c.bottom;
        }
    by false is passed filled =
        let all : symbol_of u ∷ filling w ≡ x ∷ (read ++ rest) = sym (filling_tree u w is) ∙ e in
        let head : symbol_of u ≡ x = cc in
        let tail : filling w ≡ read ++ rest = cc in
        let c = filled is tail in
        record {
          taken = u ∷ c.taken;
          below = c.below;
          is = ap (λ (l : List Tree). u ∷ l) c.is;
          filled = filling_tree u c.taken is ∙ ap (λ (l : List ℕ). symbol_of u ∷ l) c.filled ∙ ap (λ (n : ℕ). n ∷ read) head;
          bottom = turned_on t (u ∷ c.taken) (omega arith) c.bottom;
        }

cut : (w : List Tree) (x : ℕ) (read rest : List ℕ) → filling w ≡ (x ∷ read) ++ rest → Cut w (x ∷ read)
cut [] x read rest e = absurd (let h : [] ≡ x ∷ (read ++ rest) = e in cc)
cut (u ∷ w) x read rest e = by (is_extra_node u) refl (λ h. cut w x read rest h)
  where
    by : (b : Bool) → is_extra_node u ≡ b → (filling w ≡ (x ∷ read) ++ rest → Cut w (x ∷ read)) → Cut (u ∷ w) (x ∷ read)
    by true is passed =
        let c = passed (sym (filling_extra u w is) ∙ e) in
        record {
          lifted = u ∷ c.lifted;
          taken = c.taken;
          below = c.below;
          is = ap (λ (l : List Tree). u ∷ l) c.is;
          extras = (is, c.extras);
          filled = c.filled;
          top = c.top;
          bottom = c.bottom;
        }
    by false is passed =
        let all : symbol_of u ∷ filling w ≡ x ∷ (read ++ rest) = sym (filling_tree u w is) ∙ e in
        let head : symbol_of u ≡ x = cc in
        let tail : filling w ≡ read ++ rest = cc in
        let c = chunk u w read rest tail (inl is) in
        record {
          lifted = [];
          taken = u ∷ c.taken;
          below = c.below;
          is = ap (λ (l : List Tree). u ∷ l) c.is;
          extras = tt;
          filled = filling_tree u c.taken is ∙ ap (λ (l : List ℕ). symbol_of u ∷ l) c.filled ∙ ap (λ (n : ℕ). n ∷ read) head;
          top = is;
          bottom = c.bottom;
        }

all_extras : (w : List Tree) → filling w ≡ [] → AreExtras w
all_extras [] e = tt
all_extras (u ∷ w) e = by (is_extra_node u) refl (λ h. all_extras w h)
  where
    by : (b : Bool) → is_extra_node u ≡ b → (filling w ≡ [] → AreExtras w) → AreExtras (u ∷ w)
    by true is more = (is, more (sym (filling_extra u w is) ∙ e))
    by false is more = absurd (let h : symbol_of u ∷ filling w ≡ [] = sym (filling_tree u w is) ∙ e in cc)

-- the tree that fills the only step, with extras above and below it
record RootCut (w : List Tree) : Type 0 where
  pub lifted : List Tree
  pub root : Tree
  pub below : List Tree
  pub is : w ≡ lifted ++ root ∷ below
  pub extras : AreExtras lifted
  pub fills : is_extra_node root ≡ false
  pub below_extras : AreExtras below

root_cut : (w : List Tree) (x : ℕ) → filling w ≡ x ∷ [] → RootCut w
root_cut [] x e = absurd (let h : [] ≡ x ∷ [] = e in cc)
root_cut (u ∷ w) x e = by (is_extra_node u) refl (λ h. root_cut w x h)
  where
    by : (b : Bool) → is_extra_node u ≡ b → (filling w ≡ x ∷ [] → RootCut w) → RootCut (u ∷ w)
    by true is more =
        let c = more (sym (filling_extra u w is) ∙ e) in
        record { lifted = u ∷ c.lifted; root = c.root; below = c.below; is = ap (λ (l : List Tree). u ∷ l) c.is; extras = (is, c.extras); fills = c.fills; below_extras = c.below_extras }
    by false is more =
        let all : symbol_of u ∷ filling w ≡ x ∷ [] = sym (filling_tree u w is) ∙ e in
        let tail : filling w ≡ [] = cc in
        record { lifted = []; root = u; below = w; is = refl; extras = tt; fills = is; below_extras = all_extras w tail }

turned_extras : (xs : List Tree) → AreExtras xs → AreExtras (reverse xs)
turned_extras [] a = tt
turned_extras (x ∷ xs) a = subst (λ (l : List Tree). AreExtras l) (sym (reverse-append (x ∷ []) xs)) (extras_append (reverse xs) (x ∷ []) (turned_extras xs a.1) (a.0, tt))

-- ---- what a move comes to

module _ (laws : GraphLaws) (g : FlatGrammar) (fit : Fit g) where
  pub record Reduced (number : ℕ) (w : List Tree) : Type 0 where
    pub node : Tree
    pub after : List Tree
    pub is : IsReduction g number w node after

  pub reduction_there : (w : List Tree) (t number : ℕ) → Act g (filling w) t (reduce number) → Reduced number w
  reduction_there w t number act = by (reverse (step_symbols e.production)) refl
    where
      e : EndsWithProduction g (filling w) number
      e = laws.runs.reduces g (filling w) t number act

      counted : length (reverse (step_symbols e.production)) ≡ length e.production.steps
      counted = length-reverse (step_symbols e.production) ∙ length-map e.production.steps (λ (step : Step). step.symbol.0)

      by : (read : List ℕ) → reverse (step_symbols e.production) ≡ read → Reduced number w
      by [] is =
          let none : e.production.steps ≡ [] = none_of e.production.steps (let len : length (reverse (step_symbols e.production)) ≡ 0 = ap length is in omega (arith, counted, len)) in
          let read : filling w ≡ [] = laws.nothing g fit (filling w) t number e.left e.production act e.at none in
          record {
            node = bare (reduced g number 0 None []);
            after = w ++ bare (reduced g number 0 None []) ∷ [];
            is = record {
              left = e.left;
              production = e.production;
              at = e.at;
              lifted = w;
              children = [];
              below = [];
              stack_is = sym (append-nil w);
              extras = all_extras w read;
              all_lifted = tt;
              count = sym (ap length none);
              first_fills = tt;
              node_is = refl;
              after_is = refl;
            };
          }
        where
          none_of : {X : Type 0} (xs : List X) → length xs ≡ 0 → xs ≡ []
          none_of [] h = refl
          none_of (x ∷ xs) h = absurd (omega (arith, h))
      by (x ∷ read) is =
          let c = cut w x read e.earlier (e.read_is ∙ ap (λ (l : List ℕ). l ++ e.earlier) is) in
          let back : reverse (reverse c.taken) ≡ c.taken = reverse-reverse c.taken in
          let len : length (filling (reverse c.taken)) ≡ length (x ∷ read) = ap length (filling_turned c.taken) ∙ length-reverse (filling c.taken) ∙ ap length c.filled in
          record {
            node = bare (reduced g number 0 None (reverse c.taken));
            after = c.lifted ++ bare (reduced g number 0 None (reverse c.taken)) ∷ c.below;
            is = record {
              left = e.left;
              production = e.production;
              at = e.at;
              lifted = c.lifted;
              children = reverse c.taken;
              below = c.below;
              stack_is = c.is ∙ ap (λ (l : List Tree). c.lifted ++ (l ++ c.below)) (sym back);
              extras = c.extras;
              all_lifted = subst (λ (l : List Tree). BeginsFilled (l ++ c.below)) (sym back) c.top;
              count = len ∙ ap length (sym is) ∙ counted;
              first_fills = c.bottom;
              node_is = refl;
              after_is = refl;
            };
          }

  -- ---- each run ends

  module _ (text : Bytes) where
    abbrev pub IsEnd : Configuration → Type 0
    IsEnd d = ComesTooDeep g text d ⊎ (((u : Tree) × AcceptsTree g text d u) ⊎ ((q : ℕ) × StopsAt g text d q))

    accepted_there : (d : Configuration) → CanMove g text d accept → (u : Tree) × AcceptsTree g text d u
    accepted_there d move =
        let read : filling d.stack ≡ start_symbol g ∷ [] = (laws.runs.accepts g (filling d.stack) move.symbol.0 move.stays).1 in
        let c = root_cut d.stack (start_symbol g) read in (
          bare (accepted c.root (reverse c.below) (reverse c.lifted) 0),
          record {
            move = move;
            before = reverse c.below;
            root = c.root;
            after = reverse c.lifted;
            stack_is = c.is ∙ ap (λ (l : List Tree). l ++ c.root ∷ c.below) (sym (reverse-reverse c.lifted)) ∙ ap (λ (l : List Tree). reverse (reverse c.lifted) ++ c.root ∷ l) (sym (reverse-reverse c.below));
            before_extras = turned_extras c.below c.below_extras;
            root_fills = c.fills;
            after_extras = turned_extras c.lifted c.extras;
            tree_is = refl;
          },
        )

    -- a configuration is an end, or goes on by a step
    ends_or_on : (d : Configuration) → (IsEnd d → ⊥) → ((e : Configuration) → StepsOn g text d e → ⊥) → (found : Found) → NextIs g text d found → ⊥
    ends_or_on d never on (absent n) next = never (inr (inr (d.place + n, (n, next, refl))))
    ends_or_on d never on (token s pad size) next =
        ⊎_elim moved (λ x. on (pushed d (as_extra (token_tree s pad size))) (pass_extra s pad size next x moved))
        ((next.1 s).0 (valid_token g next.0 true (drop d.place text) (token s pad size) next.2 s pad size refl))
      where
        by_reduction : (number : ℕ) → Act g (filling d.stack) s.0 (reduce number) → ⊥
        by_reduction number act =
            let r = reduction_there d.stack s.0 number act in
            let move : CanMove g text d (reduce number) = record { symbol = s; pad = pad; size = size; next = next; stays = act } in
            ⊎_elim (λ deep. never (inl (record { number = number; move = move; node = r.node; after = r.after; reduction = r.is; deep = deep })))
            (λ shallow. on (record { stack = r.after; place = d.place }) (reduce_trees number r.node r.after move r.is shallow))
            (order_cases most_depth (tree_depth r.node))

        by_move : (move : Move) → Act g (filling d.stack) s.0 move → ⊥
        by_move shift act = on (pushed d (token_tree s pad size)) (shift_token s pad size next act)
        by_move (reduce number) act = by_reduction number act
        by_move accept act = never (inr (inl (accepted_there d (record { symbol = s; pad = pad; size = size; next = next; stays = act }))))

        moved : HasMove g (filling d.stack) s.0 → ⊥
        moved m = by_move m.0 m.1

    run_chain : (a b c : Configuration) → Run g text a b → StepsOn g text b c → Run g text a c
    run_chain a _ c (run_here _) s = run_on a c c s (run_here c)
    run_chain a b c (run_on _ d _ first rest) s = run_on a d c first (run_chain d b c rest s)

    module _ (c : Configuration) (weight : Configuration → ℕ) (falls : (d e : Configuration) → Run g text c d → StepsOn g text d e → weight e < weight d)
        (sees : (d : Configuration) → Run g text c d → ((found : Found) × NextIs g text d found → ⊥) → ⊥) (none : (d : Configuration) → Run g text c d → IsEnd d → ⊥) where
      goes_on : (k : ℕ) (d : Configuration) → Run g text c d → weight d < k → ⊥
      goes_on zero d run lt = omega (arith, lt)
      goes_on (suc k) d run lt =
          sees d run (λ w. ends_or_on d (none d run) (λ e s. goes_on k e (run_chain c d e run s) (let less = falls d e run s in omega (arith, lt, less))) w.0 w.1)

      pub some_end : ⊥
      some_end = goes_on (suc (weight c)) c (run_here c) (omega arith)
