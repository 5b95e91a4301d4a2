-- Where one move alone stays there is one step, and runs of such steps leave no other way.
use Rattle.std.proofs.Common.{◌≡◌, ◌∙◌, sym, ap, refl, subst, ℕ, ◌≤◌, ◌⊎◌, inl, inr, ⊎_elim, true, List, arith}
use Rattle.ts_base.specs.Bytes.{Bytes}
use Rattle.ts_core.specs.declared.flat.FlatGrammar.{FlatGrammar}
use Rattle.ts_core.specs.declared.symbol.Symbol.{Symbol}
use Rattle.spec_grammar.specs.Symbols.{is_extra}
use Rattle.spec_lexing.specs.Lexing.{Found, token, absent}
use Rattle.spec_tables.specs.Actions.{Move, Act, shift, reduce, accept}
use Rattle.spec_trees.specs.declared.tree.Tree.{Tree}
use Rattle.spec_trees.specs.Trees.{tree_depth}
use Rattle.spec_trees.specs.Made.{as_extra, most_depth}
use Rattle.spec_runs.specs.Configurations.{Configuration, stack_symbols, token_tree, pushed, HasMove, NextIs, IsReduction}
use Rattle.spec_runs.specs.Runs.{CanMove, StepsOn, shift_token, pass_extra, reduce_trees, Run, run_here, run_on, ComesTooDeep, AcceptsTree, StopsAt}
use Rattle.spec_forced.specs.Forced.{IsOnlyMove}
use Rattle.spec_forced.specs.Laws.{ForcedLaws}
use Rattle.spec_forced.specs.OnlyRuns.{IsOnlyStep, OnlyRun, only_here, only_on, Meet, IsFork, GoesTooDeep, GoesToTree, GoesToStop, EndAlike}

-- ---- what tells moves and findings apart

number_of : Move → ℕ
number_of shift = 0
number_of (reduce n) = n
number_of accept = 0

IsShift : Move → Type 0
IsShift shift = Unit {0}
IsShift (reduce n) = ⊥
IsShift accept = ⊥

IsReduce : Move → Type 0
IsReduce shift = ⊥
IsReduce (reduce n) = Unit {0}
IsReduce accept = ⊥

not_reduce : (n : ℕ) → reduce n ≡ shift → ⊥
unfolding IsShift
not_reduce n e = subst IsShift (sym e) tt

not_accept : accept ≡ shift → ⊥
unfolding IsShift
not_accept e = subst IsShift (sym e) tt

no_shift : (n : ℕ) → shift ≡ reduce n → ⊥
unfolding IsReduce
no_shift n e = subst IsReduce (sym e) tt

no_accept : (n : ℕ) → accept ≡ reduce n → ⊥
unfolding IsReduce
no_accept n e = subst IsReduce (sym e) tt

one_number : (n m : ℕ) → reduce n ≡ reduce m → n ≡ m
unfolding number_of
one_number n m e = ap number_of e

symbol_in : Found → ℕ
symbol_in (token s pad size) = s.0
symbol_in (absent n) = 0

shifted_by : Configuration → Found → Configuration
shifted_by c (token s pad size) = pushed c (token_tree s pad size)
shifted_by c (absent n) = c

passed_by : Configuration → Found → Configuration
passed_by c (token s pad size) = pushed c (as_extra (token_tree s pad size))
passed_by c (absent n) = c

IsToken : Found → Type 0
IsToken (token s pad size) = Unit {0}
IsToken (absent n) = ⊥

not_absent : (s : Symbol) (pad size n : ℕ) → token s pad size ≡ absent n → ⊥
unfolding IsToken
not_absent s pad size n e = subst IsToken e tt

-- ---- one step

module _ (laws : ForcedLaws) (g : FlatGrammar) (text : Bytes) (c : Configuration) (s : Symbol) (pad size : ℕ) (next : NextIs g text c (token s pad size)) where
  same : (r : Symbol) (p z : ℕ) → NextIs g text c (token r p z) → token r p z ≡ token s pad size
  same r p z n = laws.one_sight g text c (token r p z) (token s pad size) n next

  same_symbol : (r : Symbol) (p z : ℕ) → NextIs g text c (token r p z) → r.0 ≡ s.0
  unfolding symbol_in
  same_symbol r p z n = ap symbol_in (same r p z n)

  moves : (move : Move) → CanMove g text c move → Act g (stack_symbols c.stack) s.0 move
  moves move m = subst (λ (n : ℕ). Act g (stack_symbols c.stack) n move) (same_symbol m.symbol m.pad m.size m.next) m.stays

  never_stuck : (place : ℕ) → StopsAt g text c place → ⊥
  never_stuck place (n, none, is) = not_absent s pad size n (laws.one_sight g text c (token s pad size) (absent n) next none)

  pub shift_alone : IsOnlyMove g (stack_symbols c.stack) s.0 shift → IsOnlyStep g text c (pushed c (token_tree s pad size))
  unfolding shifted_by
  shift_alone o = record {
    step = shift_token s pad size next o.stays;
    only = only;
    one = λ a b p q. o.only a (moves a p) ∙ sym (o.only b (moves b q));
    shallow = λ d. not_reduce d.number (o.only (reduce d.number) (moves (reduce d.number) d.move));
    unaccepted = λ t a. not_accept (o.only accept (moves accept a.move));
    unstuck = never_stuck;
  }
    where
      only : (e : Configuration) → StepsOn g text c e → e ≡ pushed c (token_tree s pad size)
      only _ (shift_token r p z n act) = ap (shifted_by c) (same r p z n)
      only _ (pass_extra r p z n extra idle) = absurd (idle (shift, subst (λ (m : ℕ). Act g (stack_symbols c.stack) m shift) (sym (same_symbol r p z n)) o.stays))
      only _ (reduce_trees number node after move r shallow) = absurd (not_reduce number (o.only (reduce number) (moves (reduce number) move)))

  pub pass_alone : is_extra g s.0 ≡ true → (HasMove g (stack_symbols c.stack) s.0 → ⊥) → IsOnlyStep g text c (pushed c (as_extra (token_tree s pad size)))
  unfolding passed_by
  pass_alone extra idle = record {
    step = pass_extra s pad size next extra idle;
    only = only;
    one = λ a b p q. absurd (idle (a, moves a p));
    shallow = λ d. idle (reduce d.number, moves (reduce d.number) d.move);
    unaccepted = λ t a. idle (accept, moves accept a.move);
    unstuck = never_stuck;
  }
    where
      only : (e : Configuration) → StepsOn g text c e → e ≡ pushed c (as_extra (token_tree s pad size))
      only _ (shift_token r p z n act) = absurd (idle (shift, subst (λ (m : ℕ). Act g (stack_symbols c.stack) m shift) (same_symbol r p z n) act))
      only _ (pass_extra r p z n more none) = ap (passed_by c) (same r p z n)
      only _ (reduce_trees number node after move r shallow) = absurd (idle (reduce number, moves (reduce number) move))

  pub reduce_alone : (number : ℕ) (node : Tree) (after : List Tree) → IsOnlyMove g (stack_symbols c.stack) s.0 (reduce number) → IsReduction g number c.stack node after → tree_depth node ≤ most_depth → IsOnlyStep g text c (record { stack = after; place = c.place })
  reduce_alone number node after o r shallow = record {
    step = reduce_trees number node after (record { symbol = s; pad = pad; size = size; next = next; stays = o.stays }) r shallow;
    only = only;
    one = λ a b p q. o.only a (moves a p) ∙ sym (o.only b (moves b q));
    shallow = λ d.
        let n : d.number ≡ number = number_is d.number d.move in
        let one = laws.one_reduction g number c.stack d.node node d.after after (subst (λ (m : ℕ). IsReduction g m c.stack d.node d.after) n d.reduction) r in
        omega (arith, shallow, d.deep, ap tree_depth one.0);
    unaccepted = λ t a. no_accept number (o.only accept (moves accept a.move));
    unstuck = never_stuck;
  }
    where
      number_is : (n : ℕ) → CanMove g text c (reduce n) → n ≡ number
      number_is n m = one_number n number (o.only (reduce n) (moves (reduce n) m))

      only : (e : Configuration) → StepsOn g text c e → e ≡ record { stack = after; place = c.place }
      only _ (shift_token q p z n act) = absurd (no_shift number (o.only shift (subst (λ (m : ℕ). Act g (stack_symbols c.stack) m shift) (same_symbol q p z n) act)))
      only _ (pass_extra q p z n extra idle) = absurd (idle (reduce number, subst (λ (m : ℕ). Act g (stack_symbols c.stack) m (reduce number)) (sym (same_symbol q p z n)) o.stays))
      only _ (reduce_trees other made left move q low) =
          let n : other ≡ number = number_is other move in
          let one = laws.one_reduction g number c.stack made node left after (subst (λ (m : ℕ). IsReduction g m c.stack made left) n q) r in
          ap {B = Configuration} (λ (l : List Tree). record { stack = l; place = c.place }) one.1

-- ---- runs of such steps

module _ (g : FlatGrammar) (text : Bytes) where
  pub only_more : (c d e : Configuration) → OnlyRun g text c d → IsOnlyStep g text d e → OnlyRun g text c e
  only_more _ _ e (only_here c) s = only_on c e e s (only_here e)
  only_more _ _ e (only_on c x d q r) s = only_on c x e q (only_more x d e r s)

  pub only_chain : (c d e : Configuration) → OnlyRun g text c d → OnlyRun g text d e → OnlyRun g text c e
  only_chain _ _ e (only_here c) s = s
  only_chain _ _ e (only_on c x d q r) s = only_on c x e q (only_chain x d e r s)

  pub only_runs : (c d : Configuration) → OnlyRun g text c d → Run g text c d
  only_runs _ _ (only_here c) = run_here c
  only_runs _ _ (only_on c x d q r) = run_on c x d q.step (only_runs x d r)

  -- a run from where there is one step stays there, or takes it
  pub stays_or_goes : (c x e : Configuration) → IsOnlyStep g text c x → Run g text c e → (e ≡ c) ⊎ Run g text x e
  stays_or_goes c x _ s (run_here _) = inl refl
  stays_or_goes c x e s (run_on _ y _ step rest) = inr (subst (λ (z : Configuration). Run g text z e) (s.only y step) rest)

  -- of two such runs from one configuration, one goes on from the other
  pub one_way : (c d e : Configuration) → OnlyRun g text c d → OnlyRun g text c e → OnlyRun g text d e ⊎ OnlyRun g text e d
  one_way _ _ e (only_here c) s = inl s
  one_way _ d _ (only_on c x _ q r) (only_here _) = inr (only_on c x d q r)
  one_way _ d e (only_on c x _ q r) (only_on _ y _ p s) = one_way x d e r (subst (λ (z : Configuration). OnlyRun g text z e) (q.only y p.step) s)

  -- Each run from where such a run begins goes on from its end, or has not come there yet, and then it does not end.
  pub goes_through : (c d e : Configuration) → OnlyRun g text c d → Run g text c e → Run g text d e ⊎ OnlyRun g text e d
  goes_through _ _ e (only_here c) r = inl r
  goes_through _ d e (only_on c x _ s rest) r = ⊎_elim
      (λ is. inr (subst (λ (z : Configuration). OnlyRun g text z d) (sym is) (only_on c x d s rest)))
      (λ more. goes_through x d e rest more)
      (stays_or_goes c x e s r)

  -- ---- ends

  step_deep : (c x : Configuration) → IsOnlyStep g text c x → GoesTooDeep g text c → GoesTooDeep g text x
  step_deep c x s (e, r, h) = ⊎_elim (λ is. absurd (s.shallow (subst (λ (z : Configuration). ComesTooDeep g text z) is h))) (λ more. (e, more, h)) (stays_or_goes c x e s r)

  step_tree : (c x : Configuration) (t : Tree) → IsOnlyStep g text c x → GoesToTree g text c t → GoesToTree g text x t
  step_tree c x t s (e, r, h) = ⊎_elim (λ is. absurd (s.unaccepted t (subst (λ (z : Configuration). AcceptsTree g text z t) is h))) (λ more. (e, more, h)) (stays_or_goes c x e s r)

  step_stop : (c x : Configuration) (place : ℕ) → IsOnlyStep g text c x → GoesToStop g text c place → GoesToStop g text x place
  step_stop c x place s (e, r, h) = ⊎_elim (λ is. absurd (s.unstuck place (subst (λ (z : Configuration). StopsAt g text z place) is h))) (λ more. (e, more, h)) (stays_or_goes c x e s r)

  pub alike_self : (c : Configuration) → EndAlike g text c c
  alike_self c = record { deep = ((λ h. h), (λ h. h)); tree = λ t. ((λ h. h), (λ h. h)); stop = λ p. ((λ h. h), (λ h. h)) }

  pub alike_back : (c d : Configuration) → EndAlike g text c d → EndAlike g text d c
  alike_back c d a = record { deep = (a.deep.1, a.deep.0); tree = λ t. ((a.tree t).1, (a.tree t).0); stop = λ p. ((a.stop p).1, (a.stop p).0) }

  pub alike_chain : (c d e : Configuration) → EndAlike g text c d → EndAlike g text d e → EndAlike g text c e
  alike_chain c d e a b = record {
    deep = ((λ h. b.deep.0 (a.deep.0 h)), (λ h. a.deep.1 (b.deep.1 h)));
    tree = λ t. ((λ h. (b.tree t).0 ((a.tree t).0 h)), (λ h. (a.tree t).1 ((b.tree t).1 h)));
    stop = λ p. ((λ h. (b.stop p).0 ((a.stop p).0 h)), (λ h. (a.stop p).1 ((b.stop p).1 h)));
  }

  step_alike : (c x : Configuration) → IsOnlyStep g text c x → EndAlike g text c x
  step_alike c x s = record {
    deep = (step_deep c x s, (λ h. (h.0, run_on c x h.0 s.step h.1, h.2)));
    tree = λ t. (step_tree c x t s, (λ h. (h.0, run_on c x h.0 s.step h.1, h.2)));
    stop = λ p. (step_stop c x p s, (λ h. (h.0, run_on c x h.0 s.step h.1, h.2)));
  }

  pub only_alike : (c d : Configuration) → OnlyRun g text c d → EndAlike g text c d
  only_alike _ _ (only_here c) = alike_self c
  only_alike _ _ (only_on c x d s r) = alike_chain c x d (step_alike c x s) (only_alike x d r)

  -- ---- runs that meet

  pub meet_self : (c : Configuration) → Meet g text c c
  meet_self c = (c, only_here c, only_here c)

  pub meet_step : (c d : Configuration) → IsOnlyStep g text c d → Meet g text c d
  meet_step c d s = (d, only_on c d d s (only_here d), only_here d)

  pub meet_chain : (c d e : Configuration) → Meet g text c d → Meet g text d e → Meet g text c e
  meet_chain c d e (a, to_a, d_a) (b, d_b, to_b) = ⊎_elim
      (λ on. (b, only_chain c a b to_a on, to_b))
      (λ on. (a, to_a, only_chain e b a to_b on))
      (one_way d a b d_a d_b)

  pub meet_alike : (c d : Configuration) → Meet g text c d → EndAlike g text c d
  meet_alike c d (e, a, b) = alike_chain c e d (only_alike c e a) (alike_back d e (only_alike d e b))

  -- from where two moves can be done no such run leads on
  stays_there : (c e : Configuration) → IsFork g text c → OnlyRun g text c e → e ≡ c
  stays_there _ _ f (only_here c) = refl
  stays_there _ e f (only_on c x _ s r) = absurd (f.differ (s.one f.first f.second f.here f.there))

  pub meet_fork : (c d : Configuration) → Meet g text c d → IsFork g text d → OnlyRun g text c d
  meet_fork c d (e, a, b) f = subst (λ (x : Configuration). OnlyRun g text c x) (stays_there d e f b) a
