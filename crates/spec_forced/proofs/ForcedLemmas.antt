-- Forced runs are the same after the same items and on the same bytes, and join.
use Rattle.std.proofs.Common.{◌≡◌, ◌∙◌, sym, ap, subst, ℕ, ◌+◌, ◌<◌, ◌≤◌, List, [], ◌∷◌, ◌++◌, append_assoc, length, reverse, drop, Option, Some, arith}
use Rattle.std.proofs.lemmas.List.{drop-drop, length-reverse}
use Rattle.ts_base.specs.Bytes.{Bytes}
use Rattle.ts_core.specs.declared.flat.FlatGrammar.{FlatGrammar}
use Rattle.ts_core.specs.declared.flat.Production.{Production}
use Rattle.spec_lexing.specs.Lexing.{Found, token}
use Rattle.spec_lexing.specs.Seen.{Agree}
use Rattle.spec_tables.specs.Actions.{Move, shift, reduce}
use Rattle.spec_trees.specs.declared.tree.Tree.{Tree}
use Rattle.spec_trees.specs.Made.{as_extra, filling, BeginsFilled}
use Rattle.spec_runs.specs.Configurations.{stack_symbols, token_tree, HasMove, IsReduction}
use Rattle.spec_forced.proofs.StackLemmas.{filling_append}
use Rattle.spec_forced.specs.Forced.{HaveSameItems, IsOnlyMove, IsDecided, HasSteps, ForcedRun, run_begins, run_shifts, run_passes, run_reduces, IsForced, Stands}
use Rattle.spec_forced.proofs.ItemLemmas.{same_back, same_chain, same_front, only_same, has_same}
use Rattle.spec_forced.proofs.SeenLemmas.{agree_drop, agree_less, agree_chain, decided_same, decided_again}

-- ---- the same run elsewhere

pub rises : (g : FlatGrammar) (read : List ℕ) (rest : Bytes) (e f : ℕ) (stack : List Tree) (m : ℕ) → e ≤ f → ForcedRun g read rest e stack m → ForcedRun g read rest f stack m
rises g read rest e f _ _ le run_begins = run_begins
rises g read rest e f _ _ le (run_shifts stack m s pad size k d seen fits only) =
    run_shifts stack m s pad size k (rises g read rest e f stack m le d) seen (omega (arith, fits, le)) only
rises g read rest e f _ _ le (run_passes stack m s pad size k d seen fits extra idle) =
    run_passes stack m s pad size k (rises g read rest e f stack m le d) seen (omega (arith, fits, le)) extra idle
rises g read rest e f _ _ le (run_reduces stack m s pad size k number node after d seen fits only steps r shallow) =
    run_reduces stack m s pad size k number node after (rises g read rest e f stack m le d) seen (omega (arith, fits, le)) only steps r shallow

module _ (g : FlatGrammar) (read other : List ℕ) (rest text : Bytes) (extent : ℕ) (same : HaveSameItems g read other) (agree : Agree extent rest text) where
  alike : (stack : List Tree) → HaveSameItems g (stack_symbols stack ++ read) (stack_symbols stack ++ other)
  alike stack = same_front g (stack_symbols stack) read other same

  seen_again : (stack : List Tree) (m : ℕ) (f : Found) (e : ℕ) → m + e ≤ extent → IsDecided g (stack_symbols stack ++ read) (drop m rest) f e → IsDecided g (stack_symbols stack ++ other) (drop m text) f e
  seen_again stack m f e fits d =
      decided_again g (stack_symbols stack ++ other) (drop m rest) (drop m text) f e (agree_drop e m extent rest text fits agree)
      (decided_same g (stack_symbols stack ++ read) (stack_symbols stack ++ other) (drop m rest) f e (alike stack) d)

  idle_again : (stack : List Tree) (t : ℕ) → (HasMove g (stack_symbols stack ++ read) t → ⊥) → HasMove g (stack_symbols stack ++ other) t → ⊥
  idle_again stack t idle h = idle (has_same g (stack_symbols stack ++ other) (stack_symbols stack ++ read) t (same_back g (stack_symbols stack ++ read) (stack_symbols stack ++ other) (alike stack)) h)

  only_again : (stack : List Tree) (t : ℕ) (move : Move) → IsOnlyMove g (stack_symbols stack ++ read) t move → IsOnlyMove g (stack_symbols stack ++ other) t move
  only_again stack t move o = only_same g (stack_symbols stack ++ read) (stack_symbols stack ++ other) t move (alike stack) o

  pub run_again : (stack : List Tree) (m : ℕ) → ForcedRun g read rest extent stack m → ForcedRun g other text extent stack m
  run_again _ _ run_begins = run_begins
  run_again _ _ (run_shifts stack m s pad size e d seen fits only) =
      run_shifts stack m s pad size e (run_again stack m d) (seen_again stack m (token s pad size) e fits seen) fits (only_again stack s.0 shift only)
  run_again _ _ (run_passes stack m s pad size e d seen fits extra idle) =
      run_passes stack m s pad size e (run_again stack m d) (seen_again stack m (token s pad size) e fits seen) fits extra (idle_again stack s.0 idle)
  run_again _ _ (run_reduces stack m s pad size e number node after d seen fits only steps r shallow) =
      run_reduces stack m s pad size e number node after (run_again stack m d) (seen_again stack m (token s pad size) e fits seen) fits
      (only_again stack s.0 (reduce number) only) steps r shallow

pub forced_stands : (g : FlatGrammar) (read : List ℕ) (rest : Bytes) (t : Tree) (e : ℕ) → IsForced g read rest t e → Stands g read rest t e
forced_stands g read rest t e f other text same agree = record {
  extras = f.extras;
  all_extras = f.all_extras;
  bytes = f.bytes;
  run = run_again g read other rest text e same agree _ f.bytes f.run;
}

pub forced_rises : (g : FlatGrammar) (read : List ℕ) (rest : Bytes) (t : Tree) (e f : ℕ) → e ≤ f → IsForced g read rest t e → IsForced g read rest t f
forced_rises g read rest t e f le h = record {
  extras = h.extras;
  all_extras = h.all_extras;
  bytes = h.bytes;
  run = rises g read rest e f _ h.bytes le h.run;
}

pub stands_again : (g : FlatGrammar) (read other : List ℕ) (rest text : Bytes) (t : Tree) (e : ℕ) → HaveSameItems g read other → Agree e rest text → Stands g read rest t e → Stands g other text t e
stands_again g read other rest text t e same agree s more far alike seen =
    s more far (same_chain g read other more same alike) (agree_chain e rest text far agree seen)

pub stands_rises : (g : FlatGrammar) (read : List ℕ) (rest : Bytes) (t : Tree) (e f : ℕ) → e ≤ f → Stands g read rest t e → Stands g read rest t f
stands_rises g read rest t e f le s other text same agree =
    forced_rises g other text t e f le (s other text same (agree_less e f rest text le agree))

-- ---- a reduction above other trees

some_children : (ts : List Tree) → 0 < length (filling ts) → 0 < length ts
some_children [] h = h
some_children (t ∷ ts) h = omega arith

begins_more : (xs ys zs : List Tree) → 0 < length xs → BeginsFilled (xs ++ ys) → BeginsFilled (xs ++ zs)
begins_more [] ys zs some h = absurd (omega (arith, some))
begins_more (x ∷ xs) ys zs some h = h

pub children_are_some : (g : FlatGrammar) (number : ℕ) (stack : List Tree) (node : Tree) (after : List Tree) → HasSteps g number → (r : IsReduction g number stack node after) → 0 < length r.children
children_are_some g number stack node after (left, p, at, some) r =
    let both : ◌≡◌ {A = Option (ℕ × Production)} (Some (r.left, r.production)) (Some (left, p)) = sym r.at ∙ at in
    let same : r.production ≡ p = second_same r.left left r.production p both in
    some_children r.children (omega (arith, some, r.count, ap (λ (q : Production). length q.steps) same))
  where
    second_same : (a b : ℕ) (q p : Production) → ◌≡◌ {A = Option (ℕ × Production)} (Some (a, q)) (Some (b, p)) → q ≡ p
    second_same a b q p e = let both : ◌≡◌ {A = ℕ × Production} (a, q) (b, p) = cc in ap (λ (x : ℕ × Production). x.1) both

pub reduction_above : (g : FlatGrammar) (number : ℕ) (stack : List Tree) (node : Tree) (after low : List Tree) → HasSteps g number → IsReduction g number stack node after → IsReduction g number (stack ++ low) node (after ++ low)
reduction_above g number stack node after low steps r =
    let some : 0 < length r.children = children_are_some g number stack node after steps r in
    record {
      left = r.left;
      production = r.production;
      at = r.at;
      lifted = r.lifted;
      children = r.children;
      below = r.below ++ low;
      stack_is = ap (λ (l : List Tree). l ++ low) r.stack_is
          ∙ append_assoc r.lifted (reverse r.children ++ r.below) low
          ∙ ap (λ (l : List Tree). r.lifted ++ l) (append_assoc (reverse r.children) r.below low);
      extras = r.extras;
      all_lifted = begins_more (reverse r.children) r.below (r.below ++ low) (omega (arith, some, length-reverse r.children)) r.all_lifted;
      count = r.count;
      first_fills = r.first_fills;
      node_is = r.node_is;
      after_is = ap (λ (l : List Tree). l ++ low) r.after_is ∙ append_assoc r.lifted (node ∷ r.below) low;
    }

-- ---- one run above another

module _ (g : FlatGrammar) (read : List ℕ) (rest : Bytes) (extent : ℕ) (low : List Tree) (m : ℕ) (base : ForcedRun g read rest extent low m) where
  symbols_above : (up : List Tree) (over : List ℕ) → over ≡ stack_symbols low ++ read → stack_symbols up ++ over ≡ stack_symbols (up ++ low) ++ read
  symbols_above up over is =
      ap (λ (l : List ℕ). stack_symbols up ++ l) is ∙ sym (append_assoc (stack_symbols up) (stack_symbols low) read)
      ∙ ap (λ (l : List ℕ). l ++ read) (sym (filling_append up low))

  seen_above : (up : List Tree) (over : List ℕ) (far : Bytes) (j : ℕ) (f : Found) (e : ℕ) → over ≡ stack_symbols low ++ read → far ≡ drop m rest → IsDecided g (stack_symbols up ++ over) (drop j far) f e → IsDecided g (stack_symbols (up ++ low) ++ read) (drop (m + j) rest) f e
  seen_above up over far j f e is text d =
      subst (λ (x : Bytes). IsDecided g (stack_symbols (up ++ low) ++ read) x f e) (ap (λ (x : Bytes). drop j x) text ∙ drop-drop j m rest)
      (subst (λ (l : List ℕ). IsDecided g l (drop j far) f e) (symbols_above up over is) d)

  only_above : (up : List Tree) (over : List ℕ) (t : ℕ) (move : Move) → over ≡ stack_symbols low ++ read → IsOnlyMove g (stack_symbols up ++ over) t move → IsOnlyMove g (stack_symbols (up ++ low) ++ read) t move
  only_above up over t move is o = subst (λ (l : List ℕ). IsOnlyMove g l t move) (symbols_above up over is) o

  pub joins : (over : List ℕ) (far : Bytes) (k : ℕ) (up : List Tree) (j : ℕ) → over ≡ stack_symbols low ++ read → far ≡ drop m rest → m + k ≤ extent → ForcedRun g over far k up j → ForcedRun g read rest extent (up ++ low) (m + j)
  joins over far k _ _ is text le run_begins = subst (λ (i : ℕ). ForcedRun g read rest extent low i) (let e : m ≡ m + 0 = omega arith in e) base
  joins over far k _ _ is text le (run_shifts up j s pad size e d seen fits only) =
      subst (λ (i : ℕ). ForcedRun g read rest extent (token_tree s pad size ∷ (up ++ low)) i) (let e : m + j + (pad + size) ≡ m + (j + (pad + size)) = omega arith in e)
      (run_shifts (up ++ low) (m + j) s pad size e (joins over far k up j is text le d) (seen_above up over far j (token s pad size) e is text seen) (omega (arith, fits, le)) (only_above up over s.0 shift is only))
  joins over far k _ _ is text le (run_passes up j s pad size e d seen fits extra idle) =
      subst (λ (i : ℕ). ForcedRun g read rest extent (as_extra (token_tree s pad size) ∷ (up ++ low)) i) (let e : m + j + (pad + size) ≡ m + (j + (pad + size)) = omega arith in e)
      (run_passes (up ++ low) (m + j) s pad size e (joins over far k up j is text le d) (seen_above up over far j (token s pad size) e is text seen) (omega (arith, fits, le)) extra
      (λ h. idle (subst (λ (l : List ℕ). HasMove g l s.0) (sym (symbols_above up over is)) h)))
  joins over far k _ _ is text le (run_reduces up j s pad size e number node after d seen fits only steps r shallow) =
      run_reduces (up ++ low) (m + j) s pad size e number node (after ++ low) (joins over far k up j is text le d) (seen_above up over far j (token s pad size) e is text seen) (omega (arith, fits, le))
      (only_above up over s.0 (reduce number) is only) steps (reduction_above g number up node after low steps r) shallow
