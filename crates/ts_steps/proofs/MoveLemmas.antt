-- The only move of the only stack: it is the only step of its configuration, or all runs end there.
use Rattle.std.proofs.Common.{◌≡◌, ◌∙◌, sym, ap, refl, subst, ℕ, ◌<◌, inl, inr, true, false, List, [], ◌∷◌, ◌++◌, reverse, drop, Some, None, arith}
use Rattle.std.proofs.lemmas.List.{reverse-reverse}
use Rattle.std.specs.Int.Signed.{<ℤ_irrefl}
use Rattle.ts_base.specs.Bytes.{Bytes}
use Rattle.ts_core.specs.declared.flat.FlatGrammar.{FlatGrammar}
use Rattle.ts_core.specs.declared.symbol.Symbol.{Symbol}
use Rattle.spec_grammar.specs.Symbols.{is_extra}
use Rattle.spec_lexing.specs.Lexing.{Found, token, absent}
use Rattle.spec_tables.specs.Actions.{Move, Act, shift, reduce, accept}
use Rattle.spec_trees.specs.declared.tree.Tree.{Tree}
use Rattle.spec_trees.specs.Trees.{is_extra_node, tree_depth, bare}
use Rattle.spec_trees.specs.Made.{as_extra, accepted}
use Rattle.spec_trees.specs.Choice.{code_of, ComesBefore, Better}
use Rattle.spec_runs.specs.Configurations.{Configuration, stack_symbols, token_tree, pushed, HasMove, NextIs, AreExtras}
use Rattle.spec_runs.specs.Runs.{CanMove, StepsOn, shift_token, pass_extra, reduce_trees, Run, run_here, run_on, ComesTooDeep, AcceptsTree, StopsAt}
use Rattle.spec_runs.specs.Outcomes.{tree_outcome, stuck_outcome}
use Rattle.spec_forced.specs.Forced.{IsDecided, IsOnlyMove}
use Rattle.spec_forced.specs.OnlyRuns.{IsOnlyStep, GoesTooDeep, GoesToTree, FreshFrom}
use Rattle.spec_packing.specs.Packing.{PackedStack, packed_trees, own_config, packed_with, PackedStepsOn, shift_packed, pass_packed, reduce_packed, PackedIsTooDeep}
use Rattle.ts_table.specs.declared.view.ParseTable.{ParseTable}
use Rattle.ts_gss.specs.declared.layer.Layer.{Layer}
use Rattle.ts_gss.specs.Stacks.{stack_at, trees_on}
use Rattle.ts_steps.specs.declared.head.StackHead.{StackHead}
use Rattle.ts_steps.specs.declared.found.FoundToken.{FoundToken}
use Rattle.ts_steps.specs.MoveLaws.{Laws}
use Rattle.ts_steps.specs.Laws.{OnlyLaws}
use Rattle.ts_steps.specs.LiveHeads.{config_of, packed_of, read_on, AreAlone, IsReducedTo, IsRootOf}
use Rattle.ts_steps.specs.Reparsing.{IsOnlyAccept}
use Rattle.ts_steps.proofs.LayerLemmas.{layers_trees, alone_append, alone_left, alone_right}
use Rattle.ts_steps.proofs.StackLemmas.{filling_bare, extras_turned}
use Rattle.ts_steps.specs.Looking.{IsTokenAhead}

-- ---- what is seen

next_is : (laws : Laws) (t : ParseTable) (text : Bytes) (stacks : List (List Layer)) (h : StackHead) (f : FoundToken) → IsDecided t.grammar (read_on stacks h) (drop h.place text) (token f.token f.pad f.size) f.extent
    → NextIs t.grammar text (config_of stacks h) (token f.token f.pad f.size)
next_is laws t text stacks h f d =
    subst (λ (read : List ℕ). IsDecided t.grammar read (drop h.place text) (token f.token f.pad f.size) f.extent → NextIs t.grammar text (config_of stacks h) (token f.token f.pad f.size)) (filling_bare laws (trees_on (stack_at stacks h.top)))
    (λ k. (k.0, k.1, k.2 (drop h.place text) (λ n lt. refl))) d

only_bare : (laws : Laws) (t : ParseTable) (stacks : List (List Layer)) (h : StackHead) (on : ℕ) (move : Move) → IsOnlyMove t.grammar (read_on stacks h) on move → IsOnlyMove t.grammar (stack_symbols (config_of stacks h).stack) on move
only_bare laws t stacks h on move o = subst (λ (read : List ℕ). IsOnlyMove t.grammar read on move) (sym (filling_bare laws (trees_on (stack_at stacks h.top)))) o

-- ---- findings and moves that differ

symbol_in : Found → ℕ
symbol_in (token s pad size) = s.0
symbol_in (absent n) = 0

stop_in : Found → ℕ
stop_in (token s pad size) = 0
stop_in (absent n) = n

IsFound : Found → Type 0
IsFound (token s pad size) = Unit {0}
IsFound (absent n) = ⊥

IsAccept : Move → Type 0
IsAccept shift = ⊥
IsAccept (reduce n) = ⊥
IsAccept accept = Unit {0}

pub shift_no : shift ≡ accept → ⊥
unfolding IsAccept
shift_no e = subst IsAccept (sym e) tt

pub reduce_no : (n : ℕ) → reduce n ≡ accept → ⊥
unfolding IsAccept
reduce_no n e = subst IsAccept (sym e) tt

pub found_no : (s : Symbol) (pad size n : ℕ) → token s pad size ≡ absent n → ⊥
unfolding IsFound
found_no s pad size n e = subst IsFound e tt

same_stop : (n m : ℕ) → absent n ≡ absent m → n ≡ m
unfolding stop_in
same_stop n m e = ap stop_in e

pub same_symbol : (s r : Symbol) (pad size p z : ℕ) → token r p z ≡ token s pad size → r.0 ≡ s.0
unfolding symbol_in
same_symbol s r pad size p z e = ap symbol_in e

-- ---- where no step leads on

module _ (g : FlatGrammar) (text : Bytes) (c : Configuration) (none : (e : Configuration) → StepsOn g text c e → ⊥) where
  pub stays_here : (a e : Configuration) → Run g text a e → a ≡ c → e ≡ c
  stays_here a _ (run_here _) is = is
  stays_here a e (run_on _ d _ step rest) is = absurd (none d (subst (λ (x : Configuration). StepsOn g text x d) is step))

  -- too deep only where the configuration is
  pub deep_here : GoesTooDeep g text c → ComesTooDeep g text c
  deep_here w = subst (λ (x : Configuration). ComesTooDeep g text x) (stays_here c w.0 w.1 refl) w.2

  pub tree_here : (t : Tree) → GoesToTree g text c t → AcceptsTree g text c t
  tree_here t w = subst (λ (x : Configuration). AcceptsTree g text x t) (stays_here c w.0 w.1 refl) w.2

-- ---- no token

module _ (laws : Laws) (g : FlatGrammar) (text : Bytes) (c : Configuration) (place : ℕ) (stop : StopsAt g text c place) where
  no_token : (s : Symbol) (pad size : ℕ) → NextIs g text c (token s pad size) → ⊥
  no_token s pad size next = found_no s pad size stop.0 (laws.one_sight g text c (token s pad size) (absent stop.0) next stop.1)

  no_step : (e : Configuration) → StepsOn g text c e → ⊥
  no_step _ (shift_token s pad size next act) = no_token s pad size next
  no_step _ (pass_extra s pad size next extra idle) = no_token s pad size next
  no_step _ (reduce_trees number node after move r low) = no_token move.symbol move.pad move.size move.next

  pub stuck_here : FreshFrom g text c (stuck_outcome place)
  stuck_here = record {
    shallow = λ w. let d = deep_here g text c no_step w in no_token d.move.symbol d.move.pad d.move.size d.move.next;
    none = λ t w. let a = tree_here g text c no_step t w in no_token a.move.symbol a.move.pad a.move.size a.move.next;
    stops = (c, run_here c, stop);
    greatest = λ other w.
        let there : StopsAt g text c other = subst (λ (x : Configuration). StopsAt g text x other) (stays_here g text c no_step c w.0 w.1 refl) w.2 in
        let same = same_stop there.0 stop.0 (laws.one_sight g text c (absent there.0) (absent stop.0) there.1 stop.1) in
        omega (arith, same, there.2, stop.2);
  }

-- ---- acceptance

-- where the first tree stands that is no extra
split_extras : (xs ys us vs : List Tree) (r s : Tree) → AreExtras xs → AreExtras ys → is_extra_node r ≡ false → is_extra_node s ≡ false → xs ++ r ∷ us ≡ ys ++ s ∷ vs → (xs ≡ ys) × (r ≡ s) × (us ≡ vs)
split_extras [] [] us vs r s a b f h e = (refl, (let q : r ≡ s = cc in q), (let q : us ≡ vs = cc in q))
split_extras [] (y ∷ ys) us vs r s a b f h e = absurd (let q : r ≡ y = cc in let m : is_extra_node y ≡ false = sym (ap is_extra_node q) ∙ f in let k : is_extra_node y ≡ true = b.0 in cc)
split_extras (x ∷ xs) [] us vs r s a b f h e = absurd (let q : x ≡ s = cc in let m : is_extra_node x ≡ false = ap is_extra_node q ∙ h in let k : is_extra_node x ≡ true = a.0 in cc)
split_extras (x ∷ xs) (y ∷ ys) us vs r s a b f h e =
    let q : x ≡ y = cc in
    let l : xs ++ r ∷ us ≡ ys ++ s ∷ vs = cc in
    let i = split_extras xs ys us vs r s a.1 b.1 f h l in
    let m : xs ≡ ys = i.0 in
    ((let z : x ∷ xs ≡ y ∷ ys = cc in z), i.1, i.2)

turned_back : (xs ys : List Tree) → reverse xs ≡ reverse ys → xs ≡ ys
turned_back xs ys e = sym (reverse-reverse xs) ∙ ap (λ (l : List Tree). reverse l) e ∙ reverse-reverse ys

one_root : (stack : List Tree) (u v : Tree) → IsRootOf stack u → IsRootOf stack v → u ≡ v
one_root stack u v a b =
    let s = split_extras (reverse a.after) (reverse b.after) (reverse a.before) (reverse b.before) a.root b.root (extras_turned a.after a.after_extras) (extras_turned b.after b.after_extras) a.root_fills b.root_fills (sym a.stack_is ∙ b.stack_is) in
    let before : a.before ≡ b.before = turned_back a.before b.before s.2 in
    let after : a.after ≡ b.after = turned_back a.after b.after s.0 in
    let root : a.root ≡ b.root = s.1 in
    a.tree_is ∙ ap (λ (x : Tree). bare (accepted x a.before a.after 0)) root ∙ ap (λ (x : List Tree). bare (accepted b.root x a.after 0)) before ∙ ap (λ (x : List Tree). bare (accepted b.root b.before x 0)) after ∙ sym b.tree_is

before_strict : (xs : List ℕ) → ComesBefore xs xs → ⊥
before_strict [] a = a
before_strict (x ∷ xs) (inl a) = omega (arith, a)
before_strict (x ∷ xs) (inr a) = before_strict xs a.1

better_strict : (t : Tree) → Better t t → ⊥
better_strict t (inl a) = <ℤ_irrefl a
better_strict t (inr a) = before_strict (code_of t) a.1

module _ (laws : Laws) (g : FlatGrammar) (text : Bytes) (c : Configuration) (s : Symbol) (pad size : ℕ) (next : NextIs g text c (token s pad size)) where
  moves : (move : Move) → CanMove g text c move → Act g (stack_symbols c.stack) s.0 move
  moves move m = subst (λ (n : ℕ). Act g (stack_symbols c.stack) n move)
      (same_symbol s m.symbol pad size m.pad m.size (laws.one_sight g text c (token m.symbol m.pad m.size) (token s pad size) m.next next)) m.stays

  module _ (only : IsOnlyMove g (stack_symbols c.stack) s.0 accept) where
    never : (e : Configuration) → StepsOn g text c e → ⊥
    never _ (shift_token r p z n act) = shift_no (only.only shift (moves shift (record { symbol = r; pad = p; size = z; next = n; stays = act })))
    never _ (pass_extra r p z n extra idle) =
        idle (accept, subst (λ (k : ℕ). Act g (stack_symbols c.stack) k accept) (sym (same_symbol s r pad size p z (laws.one_sight g text c (token r p z) (token s pad size) n next))) only.stays)
    never _ (reduce_trees number node after move r low) = reduce_no number (only.only (reduce number) (moves (reduce number) move))

    pub accepted_here : (u : Tree) → IsRootOf c.stack (bare u) → FreshFrom g text c (tree_outcome u)
    accepted_here u root = record {
      shallow = λ w. let d = deep_here g text c never w in reduce_no d.number (only.only (reduce d.number) (moves (reduce d.number) d.move));
      accepted = (
        c,
        run_here c,
        record {
          move = record { symbol = s; pad = pad; size = size; next = next; stays = only.stays };
          before = root.before;
          root = root.root;
          after = root.after;
          stack_is = root.stack_is;
          before_extras = root.before_extras;
          root_fills = root.root_fills;
          after_extras = root.after_extras;
          tree_is = root.tree_is;
        },
      );
      best = λ other w better.
          let a = tree_here g text c never other w in
          let theirs : IsRootOf c.stack other = record {
            before = a.before;
            root = a.root;
            after = a.after;
            stack_is = a.stack_is;
            before_extras = a.before_extras;
            root_fills = a.root_fills;
            after_extras = a.after_extras;
            tree_is = a.tree_is;
          } in
          let same : other ≡ bare u = one_root c.stack other (bare u) theirs root in
          better_strict (bare u) (subst (λ (x : Tree). Better x (bare u)) same better);
    }

-- ---- the steps of a head

module _ (laws : Laws) (alone : OnlyLaws) (t : ParseTable) (text : Bytes) (old new : List (List Layer)) (h k : StackHead) (f : FoundToken) (ahead : IsTokenAhead t text old h f) where
  abbrev c : Configuration
  c = config_of old h

  next : NextIs t.grammar text (config_of old h) (token f.token f.pad f.size)
  next = next_is laws t text old h f ahead.decided

  pub can_move : (move : Move) → Act t.grammar (read_on old h) f.token.0 move → CanMove t.grammar text (config_of old h) move
  can_move move act = record {
    symbol = f.token;
    pad = f.pad;
    size = f.size;
    next = next;
    stays = subst (λ (read : List ℕ). Act t.grammar read f.token.0 move) (sym (filling_bare laws (trees_on (stack_at old h.top)))) act;
  }

  pub shift_only : IsOnlyMove t.grammar (read_on old h) f.token.0 shift → config_of new k ≡ pushed (config_of old h) (token_tree f.token f.pad f.size) → IsOnlyStep t.grammar text (config_of old h) (config_of new k)
  shift_only only is =
      subst (λ (x : Configuration). IsOnlyStep t.grammar text (config_of old h) x) (sym is) (alone.shifted t.grammar text (config_of old h) f.token f.pad f.size next (only_bare laws t old h f.token.0 shift only))

  pub pass_only : is_extra t.grammar f.token.0 ≡ true → (HasMove t.grammar (read_on old h) f.token.0 → ⊥) → config_of new k ≡ pushed (config_of old h) (as_extra (token_tree f.token f.pad f.size))
      → IsOnlyStep t.grammar text (config_of old h) (config_of new k)
  pass_only extra idle is =
      let none : HasMove t.grammar (stack_symbols (config_of old h).stack) f.token.0 → ⊥ = λ m. idle (subst (λ (read : List ℕ). HasMove t.grammar read f.token.0) (filling_bare laws (trees_on (stack_at old h.top))) m) in
      subst (λ (x : Configuration). IsOnlyStep t.grammar text (config_of old h) x) (sym is) (alone.passed t.grammar text (config_of old h) f.token f.pad f.size next extra none)

  pub reduce_only : (size number : ℕ) → IsOnlyMove t.grammar (read_on old h) f.token.0 (reduce number) → IsReducedTo t size number old new h (Some k) → IsOnlyStep t.grammar text (config_of old h) (config_of new k)
  reduce_only size number only r =
      subst (λ (x : Configuration). IsOnlyStep t.grammar text (config_of old h) x) (sym r.done.2)
      (alone.reduced t.grammar text (config_of old h) f.token f.pad f.size number r.node r.after next (only_bare laws t old h f.token.0 (reduce number) only) r.reduction r.done.0)

  -- ---- the same steps of the layers

  own_is : own_config (packed_of old h) ≡ config_of old h
  own_is = ap {B = Configuration} (λ (ts : List Tree). record { stack = ts; place = h.place }) (layers_trees (stack_at old h.top))

  layers_move : (move : Move) → Act t.grammar (read_on old h) f.token.0 move → CanMove t.grammar text (own_config (packed_of old h)) move
  layers_move move act = subst (λ (x : Configuration). CanMove t.grammar text x move) (sym own_is) (can_move move act)

  layers_next : NextIs t.grammar text (own_config (packed_of old h)) (token f.token f.pad f.size)
  layers_next = subst (λ (x : Configuration). NextIs t.grammar text x (token f.token f.pad f.size)) (sym own_is) next

  layers_read : stack_symbols (packed_trees (packed_of old h).stack) ≡ read_on old h
  layers_read = ap stack_symbols (layers_trees (stack_at old h.top)) ∙ filling_bare laws (trees_on (stack_at old h.top))

  pub shift_steps : Act t.grammar (read_on old h) f.token.0 shift → packed_of new k ≡ packed_with (packed_of old h) (token_tree f.token f.pad f.size) → PackedStepsOn t.grammar text (packed_of old h) (packed_of new k)
  shift_steps act is =
      subst (λ (n : PackedStack). PackedStepsOn t.grammar text (packed_of old h) n) (sym is)
      (shift_packed f.token f.pad f.size layers_next (subst (λ (read : List ℕ). Act t.grammar read f.token.0 shift) (sym layers_read) act))

  pub pass_steps : is_extra t.grammar f.token.0 ≡ true → (HasMove t.grammar (read_on old h) f.token.0 → ⊥) → packed_of new k ≡ packed_with (packed_of old h) (as_extra (token_tree f.token f.pad f.size)) → PackedStepsOn t.grammar text (packed_of old h) (packed_of new k)
  pass_steps extra idle is =
      subst (λ (n : PackedStack). PackedStepsOn t.grammar text (packed_of old h) n) (sym is)
      (pass_packed f.token f.pad f.size layers_next extra (λ m. idle (subst (λ (read : List ℕ). HasMove t.grammar read f.token.0) layers_read m)))

  pub reduce_steps : (size number : ℕ) → IsOnlyMove t.grammar (read_on old h) f.token.0 (reduce number) → IsReducedTo t size number old new h (Some k) → PackedStepsOn t.grammar text (packed_of old h) (packed_of new k)
  reduce_steps size number only r =
      subst (λ (n : PackedStack). PackedStepsOn t.grammar text (packed_of old h) n) (sym r.done.4)
      (reduce_packed number r.layer r.layers (layers_move (reduce number) only.stays) r.packed r.done.3)

  pub pushed_exact : (tree : Tree) → packed_of new k ≡ packed_with (packed_of old h) tree → AreAlone (packed_of old h).stack → AreAlone (packed_of new k).stack
  pushed_exact tree is all = subst (λ (n : PackedStack). AreAlone n.stack) (sym is) (refl, all)

  pub reduced_exact : (size number : ℕ) → IsReducedTo t size number old new h (Some k) → AreAlone (packed_of old h).stack → AreAlone (packed_of new k).stack
  reduced_exact size number r all =
      let p = r.packed in
      let parts : AreAlone (p.lifted ++ (reverse p.children ++ p.below)) = subst AreAlone p.stack_is all in
      let low = alone_right (reverse p.children) p.below (alone_right p.lifted (reverse p.children ++ p.below) parts) in
      let one : r.layer.depth ≡ tree_depth r.layer.tree = r.exact all ∙ ap tree_depth (sym r.same) in
      subst (λ (n : PackedStack). AreAlone n.stack) (sym r.done.4)
      (subst AreAlone (sym p.after_is) (alone_append p.lifted (r.layer ∷ p.below) (alone_left p.lifted (reverse p.children ++ p.below) parts) (one, low)))

  pub reduce_deep : (size number : ℕ) → IsOnlyMove t.grammar (read_on old h) f.token.0 (reduce number) → IsReducedTo t size number old new h None
      → PackedIsTooDeep t.grammar text (packed_of old h) × (AreAlone (packed_of old h).stack → ComesTooDeep t.grammar text (config_of old h))
  reduce_deep size number only r = (
    record {
      number = number;
      move = layers_move (reduce number) only.stays;
      node = r.layer;
      after = r.layers;
      reduction = r.packed;
      deep = r.done;
    },
    λ all. record {
      number = number;
      move = can_move (reduce number) only.stays;
      node = r.node;
      after = r.after;
      reduction = r.reduction;
      deep = (let e = r.exact all in let d = r.done in omega (arith, e, d));
    },
  )

  -- a move that is the only one on the token is the only one that can be done
  pub only_accepts : IsOnlyMove t.grammar (read_on old h) f.token.0 accept → IsOnlyAccept t.grammar text (config_of old h)
  only_accepts only = record {
    here = can_move accept only.stays;
    only = λ move m.
        let same : token m.symbol m.pad m.size ≡ token f.token f.pad f.size = laws.one_sight t.grammar text (config_of old h) (token m.symbol m.pad m.size) (token f.token f.pad f.size) m.next next in
        let on : m.symbol.0 ≡ f.token.0 = same_symbol f.token m.symbol f.pad f.size m.pad m.size same in
        let stays : Act t.grammar (stack_symbols (config_of old h).stack) f.token.0 move = subst (λ (n : ℕ). Act t.grammar (stack_symbols (config_of old h).stack) n move) on m.stays in
        only.only move (subst (λ (read : List ℕ). Act t.grammar read f.token.0 move) (filling_bare laws (trees_on (stack_at old h.top))) stays);
  }

  pub accept_only : (u : Tree) → IsOnlyMove t.grammar (read_on old h) f.token.0 accept → IsRootOf (config_of old h).stack (bare u) → FreshFrom t.grammar text (config_of old h) (tree_outcome u)
  accept_only u only root = accepted_here laws t.grammar text (config_of old h) f.token f.pad f.size next (only_bare laws t old h f.token.0 accept only) u root
