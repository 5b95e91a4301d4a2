-- What is reached from a configuration is served from one that serves for it.
use Rattle.std.proofs.Common.{◌≡◌, ◌∙◌, sym, ap, refl, subst, ℕ, ◌+◌, ◌<◌, ◌≤◌, ◌⊎◌, inl, inr, ⊎_elim, false, List, [], ◌∷◌, ◌++◌, length, reverse, drop, None, arith}
use Rattle.std.proofs.lemmas.Bool.{cases_order}
use Rattle.std.proofs.lemmas.List.{reverse-append}
use Rattle.ts_base.specs.Bytes.{Bytes}
use Rattle.ts_core.specs.declared.flat.FlatGrammar.{FlatGrammar}
use Rattle.spec_grammar.specs.Symbols.{start_symbol}
use Rattle.spec_lexing.specs.Lexing.{Found, token, absent, Lex}
use Rattle.spec_tables.specs.Actions.{Move, Act, shift, reduce, accept}
use Rattle.spec_tables.specs.Fit.{Fit}
use Rattle.spec_trees.specs.declared.tree.Tree.{Tree}
use Rattle.spec_trees.specs.Trees.{symbol_of, is_extra_node, span_of, tree_depth, bare}
use Rattle.spec_trees.specs.Made.{as_extra, reduced, accepted, filling, BeginsFilled, most_depth}
use Rattle.spec_trees.specs.Choice.{Better}
use Rattle.spec_runs.specs.Configurations.{Configuration, stack_symbols, token_tree, pushed, HasMove, AreValidTokens, NextIs, AreExtras, IsReduction}
use Rattle.spec_runs.specs.Moves.{EndsWithProduction}
use Rattle.spec_runs.specs.Runs.{CanMove, StepsOn, shift_token, pass_extra, reduce_trees, Run, run_here, run_on, IsReached, ComesTooDeep, AcceptsTree, StopsAt}
use Rattle.spec_packing.specs.Replacing.{Replaces, AllReplace}
use Rattle.spec_packing.specs.Serving.{ServesFor, AllServe, ServesConfiguration, ComesToServe}
use Rattle.spec_packing.specs.Laws.{RunLaws}
use Rattle.spec_packing.proofs.RankLemmas.{serves_itself, serves_bare, unbared}
use Rattle.spec_packing.proofs.StackLemmas.{all_append, split, turned, same_symbols, same_extras, same_begins, serves_chain}
use Rattle.spec_packing.proofs.MadeLemmas.{IsMade, AllMade}
use Rattle.spec_packing.proofs.ReplaceLemmas.{same_symbols as replace_symbols, same_extras as replace_extras, split as replace_split, turned as replace_turned}
use Rattle.spec_packing.proofs.DepthLemmas.{all_replace, serves_reduced}
use Rattle.spec_packing.proofs.ReachedLemmas.{lawful, reduction_makes, made_step, made_reached, all_made_left, all_made_right, all_made_back, filling_extras}
use Rattle.spec_packing.proofs.RootLemmas.{accepted_replaces}

-- ---- what is seen, and which moves stay

module _ (g : FlatGrammar) (text : Bytes) (c d : Configuration) (same_place : d.place ≡ c.place) (symbols_same : stack_symbols c.stack ≡ stack_symbols d.stack) where
  pub next_alike : (f : Found) → NextIs g text c f → NextIs g text d f
  next_alike f n = (
    n.0,
    subst (λ (read : List ℕ). AreValidTokens g read n.0) symbols_same n.1,
    subst (λ (place : ℕ). Lex g n.0 (drop place text) f) (sym same_place) n.2,
  )

  pub act_alike : (t : ℕ) (move : Move) → Act g (stack_symbols c.stack) t move → Act g (stack_symbols d.stack) t move
  act_alike t move a = subst (λ (read : List ℕ). Act g read t move) symbols_same a

  pub none_alike : (t : ℕ) → (HasMove g (stack_symbols c.stack) t → ⊥) → HasMove g (stack_symbols d.stack) t → ⊥
  none_alike t none m = none (subst (λ (read : List ℕ). HasMove g read t) (sym symbols_same) m)

  pub move_alike : (move : Move) → CanMove g text c move → CanMove g text d move
  move_alike move m = record {
    symbol = m.symbol;
    pad = m.pad;
    size = m.size;
    next = next_alike (token m.symbol m.pad m.size) m.next;
    stays = act_alike m.symbol.0 move m.stays;
  }

  pub stops_alike : (place : ℕ) → StopsAt g text c place → StopsAt g text d place
  stops_alike place (n, next, is) = (n, next_alike (absent n) next, is ∙ ap (λ (p : ℕ). p + n) (sym same_place))

module _ (g : FlatGrammar) (text : Bytes) (c d : Configuration) (s : ServesConfiguration d c) where
  symbols_served : stack_symbols c.stack ≡ stack_symbols d.stack
  symbols_served = sym (same_symbols d.stack c.stack s.stack)

  pub next_served : (f : Found) → NextIs g text c f → NextIs g text d f
  next_served = next_alike g text c d s.place symbols_served

  pub act_served : (t : ℕ) (move : Move) → Act g (stack_symbols c.stack) t move → Act g (stack_symbols d.stack) t move
  act_served = act_alike g text c d s.place symbols_served

  pub none_served : (t : ℕ) → (HasMove g (stack_symbols c.stack) t → ⊥) → HasMove g (stack_symbols d.stack) t → ⊥
  none_served = none_alike g text c d s.place symbols_served

  pub move_served : (move : Move) → CanMove g text c move → CanMove g text d move
  move_served = move_alike g text c d s.place symbols_served

  pub stops_served : (place : ℕ) → StopsAt g text c place → StopsAt g text d place
  stops_served = stops_alike g text c d s.place symbols_served

  pub push_served : (t : Tree) → ServesConfiguration (pushed d t) (pushed c t)
  push_served t = record { place = ap (λ (p : ℕ). p + span_of t) s.place; stack = (serves_itself t, s.stack) }

-- ---- reductions

-- a reduction of a stack that serves for another, which is reduced
pub record ServedReduction (g : FlatGrammar) (number : ℕ) (stack : List Tree) (node : Tree) (after : List Tree) : Type 0 where
  pub made : Tree
  pub left : List Tree
  pub reduction : IsReduction g number stack made left
  pub node_serves : ServesFor made node
  pub left_serve : AllServe left after

module _ (laws : RunLaws) (g : FlatGrammar) (fit : Fit g) where
  pub reduction_served : (number : ℕ) (ds cs : List Tree) (node : Tree) (after : List Tree) → EndsWithProduction g (stack_symbols cs) number → AllMade g ds → AllMade g cs → AllServe ds cs → IsReduction g number cs node after → ServedReduction g number ds node after
  reduction_served number ds cs node after ends md mc a r =
      let s = split ds r.lifted (reverse r.children ++ r.below) (subst (λ (l : List Tree). AllServe ds l) r.stack_is a) in
      let b = split s.right (reverse r.children) r.below s.second in
      let k = turned b.left r.children b.first in
      let right_is : s.right ≡ reverse k.forth ++ b.right = b.is ∙ ap (λ (l : List Tree). l ++ b.right) k.is in
      let made : Tree = bare (reduced g number 0 None k.forth) in
      let reduction : IsReduction g number ds made (s.left ++ made ∷ b.right) = record {
        left = r.left;
        production = r.production;
        at = r.at;
        lifted = s.left;
        children = k.forth;
        below = b.right;
        stack_is = s.is ∙ ap (λ (l : List Tree). s.left ++ l) right_is;
        extras = same_extras s.left r.lifted s.first r.extras;
        all_lifted = subst (λ (l : List Tree). BeginsFilled l) right_is (same_begins s.right (reverse r.children ++ r.below) s.second r.all_lifted);
        count = ap (λ (l : List ℕ). length l) (same_symbols k.forth r.children k.serve) ∙ r.count;
        first_fills = same_begins k.forth r.children k.serve r.first_fills;
        node_is = refl;
        after_is = refl;
      } in
      let ends_d : EndsWithProduction g (stack_symbols ds) number = subst (λ (read : List ℕ). EndsWithProduction g read number) (sym (same_symbols ds cs a)) ends in
      let x = reduction_makes laws g fit number ds made (s.left ++ made ∷ b.right) ends_d md reduction in
      let y = reduction_makes laws g fit number cs node after ends mc r in
      let serves : ServesFor made node = subst (λ (t : Tree). ServesFor made t) (sym r.node_is)
      (serves_bare (reduced g number 0 None k.forth) (reduced g number 0 None r.children) (laws.keeps (reduced g number 0 None k.forth)) (laws.keeps (reduced g number 0 None r.children))
      (serves_reduced g number r.left r.production (lawful laws g fit number r.left r.production r.at) k.forth r.children x y k.serve)) in
      record {
        made = made;
        left = s.left ++ made ∷ b.right;
        reduction = reduction;
        node_serves = serves;
        left_serve = subst (λ (l : List Tree). AllServe (s.left ++ made ∷ b.right) l) (sym r.after_is)
            (all_append s.left r.lifted (made ∷ b.right) (node ∷ r.below) s.first (serves, b.second));
      }

  module _ (text : Bytes) where
    reduce_served : (c d : Configuration) → AllMade g c.stack → AllMade g d.stack → ServesConfiguration d c → (number : ℕ) (node : Tree) (after : List Tree) → CanMove g text c (reduce number) → IsReduction g number c.stack node after → ServedReduction g number d.stack node after
    reduce_served c d mc md s number node after move r =
        reduction_served number d.stack c.stack node after (laws.reduces g (stack_symbols c.stack) move.symbol.0 number move.stays) md mc s.stack r

    pub deep_served : (c d : Configuration) → IsReached g text c → IsReached g text d → ServesConfiguration d c → ComesTooDeep g text c → ComesTooDeep g text d
    deep_served c d rc rd s deep =
        let w = reduce_served c d (made_reached laws g fit text c rc) (made_reached laws g fit text d rd) s deep.number deep.node deep.after deep.move deep.reduction in
        record {
          number = deep.number;
          move = move_served g text c d s (reduce deep.number) deep.move;
          node = w.made;
          after = w.left;
          reduction = w.reduction;
          deep = omega (arith, deep.deep, w.node_serves.depth);
        }

    -- ---- one step

    -- the configuration takes a step to one that serves, or comes to a node that is too deep
    abbrev StepServed : Configuration → Configuration → Type 0
    StepServed d m = ComesTooDeep g text d ⊎ ((n : Configuration) × StepsOn g text d n × ServesConfiguration n m)

    step_served : (c d m : Configuration) → AllMade g c.stack → AllMade g d.stack → ServesConfiguration d c → StepsOn g text c m → StepServed d m
    step_served c d _ mc md s (shift_token symbol pad size next act) =
        let t = token_tree symbol pad size in
        inr (pushed d t, shift_token symbol pad size (next_served g text c d s (token symbol pad size) next) (act_served g text c d s symbol.0 shift act), push_served g text c d s t)
    step_served c d _ mc md s (pass_extra symbol pad size next is_one none) =
        let t = as_extra (token_tree symbol pad size) in
        inr (pushed d t, pass_extra symbol pad size (next_served g text c d s (token symbol pad size) next) is_one (none_served g text c d s symbol.0 none), push_served g text c d s t)
    step_served c d _ mc md s (reduce_trees number node after move r shallow) =
        by (reduce_served c d mc md s number node after move r)
      where
        by : ServedReduction g number d.stack node after → StepServed d (record { stack = after; place = c.place })
        by w = cases (cases_order most_depth (tree_depth w.made))
          where
            goes : tree_depth w.made ≤ most_depth → StepServed d (record { stack = after; place = c.place })
            goes low = inr (
              record { stack = w.left; place = d.place },
              reduce_trees number w.made w.left (move_served g text c d s (reduce number) move) w.reduction low,
              record { place = s.place; stack = w.left_serve },
            )

            cases : (most_depth ≡ tree_depth w.made) ⊎ ((most_depth < tree_depth w.made) ⊎ (tree_depth w.made < most_depth)) → StepServed d (record { stack = after; place = c.place })
            cases (inl e) = goes (omega (arith, e))
            cases (inr (inl more)) = inl (record {
              number = number;
              move = move_served g text c d s (reduce number) move;
              node = w.made;
              after = w.left;
              reduction = w.reduction;
              deep = more;
            })
            cases (inr (inr less)) = goes (omega (arith, less))

    pub step_from : (c d m : Configuration) → IsReached g text c → IsReached g text d → ServesConfiguration d c → StepsOn g text c m
        → ComesTooDeep g text d ⊎ ((n : Configuration) × StepsOn g text d n × ServesConfiguration n m)
    step_from c d m rc rd s step = step_served c d m (made_reached laws g fit text c rc) (made_reached laws g fit text d rd) s step

    -- ---- runs

    run_further : (d m e : Configuration) → AllMade g d.stack → ((n : Configuration) → AllMade g n.stack → ServesConfiguration n m → ComesToServe g text n e) → StepServed d m → ComesToServe g text d e
    run_further d m e md f (inl deep) = record { at = d; run = run_here d; serves = inl deep }
    run_further d m e md f (inr (n, step, s)) =
        let w = f n (made_step laws g fit text d n md step) s in
        record { at = w.at; run = run_on d n w.at step w.run; serves = w.serves }

    run_serves : (c d e : Configuration) → AllMade g c.stack → AllMade g d.stack → ServesConfiguration d c → Run g text c e → ComesToServe g text d e
    run_serves c d _ mc md s (run_here _) = record { at = d; run = run_here d; serves = inr s }
    run_serves c d e mc md s (run_on _ m _ step rest) =
        run_further d m e md (λ n mn sn. run_serves m n e (made_step laws g fit text c m mc step) mn sn rest) (step_served c d m mc md s step)

    pub run_served : (c d e : Configuration) → IsReached g text c → IsReached g text d → ServesConfiguration d c → Run g text c e → ComesToServe g text d e
    run_served c d e rc rd s run = run_serves c d e (made_reached laws g fit text c rc) (made_reached laws g fit text d rd) s run

    run_joined : (a b c : Configuration) → Run g text a b → Run g text b c → Run g text a c
    run_joined a _ c (run_here _) s = s
    run_joined a b c (run_on _ d _ first rest) s = run_on a d c first (run_joined d b c rest s)

    pub run_through : (c d e : Configuration) → IsReached g text c → IsReached g text d → ServesConfiguration d c → ComesToServe g text c e → ComesToServe g text d e
    run_through c d e rc rd s w = by (run_served c d w.at rc rd s w.run)
      where
        joined : (x : ComesToServe g text d w.at) → ServesConfiguration x.at w.at → ComesTooDeep g text w.at ⊎ ServesConfiguration w.at e → ComesTooDeep g text x.at ⊎ ServesConfiguration x.at e
        joined x serves (inl deep) = inl (deep_served w.at x.at (run_joined _ c w.at rc w.run) (run_joined _ d x.at rd x.run) serves deep)
        joined x serves (inr more) = inr (serves_chain x.at w.at e serves more)

        by : ComesToServe g text d w.at → ComesToServe g text d e
        by x = record { at = x.at; run = x.run; serves = ⊎_elim (λ deep. inl deep) (λ serves. joined x serves w.serves) x.serves }

    -- ---- acceptance

    -- what replaces a tree before others
    first_of : (ts : List Tree) (u : Tree) (us : List Tree) → AllReplace ts (u ∷ us) → (t : Tree) × (rest : List Tree) × (ts ≡ t ∷ rest) × Replaces t u × AllReplace rest us
    first_of [] u us a = absurd a
    first_of (t ∷ ts) u us a = (t, ts, refl, a.0, a.1)

    extras_append : (xs ys : List Tree) → AreExtras xs → AreExtras ys → AreExtras (xs ++ ys)
    extras_append [] ys a b = b
    extras_append (x ∷ xs) ys a b = (a.0, extras_append xs ys a.1 b)

    extras_turned : (xs : List Tree) → AreExtras xs → AreExtras (reverse xs)
    extras_turned [] a = tt
    extras_turned (x ∷ xs) a = subst (λ (l : List Tree). AreExtras l) (sym (reverse-append (x ∷ []) xs)) (extras_append (reverse xs) (x ∷ []) (extras_turned xs a.1) (a.0, tt))

    root_symbol : (stack : List Tree) (root : Tree) (before after : List Tree) → stack ≡ reverse after ++ root ∷ reverse before → AreExtras after → is_extra_node root ≡ false → filling stack ≡ start_symbol g ∷ [] → symbol_of root ≡ start_symbol g
    root_symbol stack root before after is extras fills read =
        let own : filling (root ∷ reverse before) ≡ symbol_of root ∷ filling (reverse before) = rw fills refl in
        let all : symbol_of root ∷ filling (reverse before) ≡ start_symbol g ∷ [] =
        sym own ∙ sym (filling_extras (reverse after) (root ∷ reverse before) (extras_turned after extras)) ∙ ap filling (sym is) ∙ read in
        let h : symbol_of root ≡ start_symbol g = cc in h

    -- what is made well between extras
    pub record RootMade (root : Tree) (before after : List Tree) : Type 0 where
      pub root_made : IsMade g root
      pub before_made : AllMade g before
      pub after_made : AllMade g after

    root_parts : (stack : List Tree) (root : Tree) (before after : List Tree) → stack ≡ reverse after ++ root ∷ reverse before → AllMade g stack → RootMade root before after
    root_parts stack root before after is made =
        let all : AllMade g (reverse after ++ root ∷ reverse before) = subst (λ (l : List Tree). AllMade g l) is made in
        let right : AllMade g (root ∷ reverse before) = all_made_right g (reverse after) (root ∷ reverse before) all in
        record {
          root_made = right.0;
          before_made = all_made_back g before right.1;
          after_made = all_made_back g after (all_made_left g (reverse after) (root ∷ reverse before) all);
        }

    pub accept_replaced : (c d : Configuration) (u : Tree) → IsReached g text c → IsReached g text d → d.place ≡ c.place → AllReplace d.stack c.stack → AcceptsTree g text c u → (t : Tree) × AcceptsTree g text d t × (Better u t → ⊥)
    accept_replaced c d u rc rd same_place a x =
        let k = replace_split d.stack (reverse x.after) (x.root ∷ reverse x.before) (subst (λ (l : List Tree). AllReplace d.stack l) x.stack_is a) in
        let r = first_of k.right x.root (reverse x.before) k.second in
        let after = replace_turned k.left x.after k.first in
        let before = replace_turned r.1 x.before r.4 in
        let stack_is : d.stack ≡ reverse after.forth ++ r.0 ∷ reverse before.forth =
        k.is ∙ ap (λ (l : List Tree). l ++ k.right) after.is ∙ ap (λ (l : List Tree). reverse after.forth ++ l) (r.2 ∙ ap (λ (l : List Tree). r.0 ∷ l) before.is) in
        let mc = root_parts c.stack x.root x.before x.after x.stack_is (made_reached laws g fit text c rc) in
        let md = root_parts d.stack r.0 before.forth after.forth stack_is (made_reached laws g fit text d rd) in
        let read = (laws.accepts g (stack_symbols c.stack) x.move.symbol.0 x.move.stays).1 in
        let start = root_symbol c.stack x.root x.before x.after x.stack_is x.after_extras x.root_fills read in
        let before_extras = replace_extras before.forth x.before before.replace x.before_extras in
        let after_extras = replace_extras after.forth x.after after.replace x.after_extras in
        let kept : Tree = accepted r.0 before.forth after.forth 0 in
        let dropped : Tree = accepted x.root x.before x.after 0 in (
          bare kept,
          record {
            move = move_alike g text c d same_place (sym (replace_symbols d.stack c.stack a)) accept x.move;
            before = before.forth;
            root = r.0;
            after = after.forth;
            stack_is = stack_is;
            before_extras = before_extras;
            root_fills = r.3.extra ∙ x.root_fills;
            after_extras = after_extras;
            tree_is = refl;
          },
          λ better. accepted_replaces g (laws.start_rule g fit) r.0 x.root before.forth after.forth x.before x.after md.root_made mc.root_made start r.3
              md.before_made mc.before_made md.after_made mc.after_made before_extras x.before_extras after_extras x.after_extras before.replace after.replace
              (unbared kept dropped (laws.keeps kept) (laws.keeps dropped) (subst (λ (v : Tree). Better v (bare kept)) x.tree_is better)),
        )

    pub accept_served : (c d : Configuration) (u : Tree) → IsReached g text c → IsReached g text d → ServesConfiguration d c → AcceptsTree g text c u → (t : Tree) × AcceptsTree g text d t × (Better u t → ⊥)
    accept_served c d u rc rd s x = accept_replaced c d u rc rd s.place (all_replace d.stack c.stack s.stack) x
