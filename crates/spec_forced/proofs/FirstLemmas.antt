-- How a forced run begins, and the tree at its bottom.
use Rattle.std.proofs.Common.{◌≡◌, ◌∙◌, sym, ap, refl, subst, ℕ, ◌<◌, ◌≤◌, ◌⊎◌, inl, inr, ⊎_elim, true, false, true≢false, List, [], ◌∷◌, ◌++◌, length, length-append, reverse, drop, arith}
use Rattle.std.proofs.lemmas.List.{reverse-append, reverse-reverse, length-reverse}
use Rattle.ts_base.specs.Bytes.{Bytes}
use Rattle.ts_core.specs.declared.flat.FlatGrammar.{FlatGrammar}
use Rattle.ts_core.specs.declared.symbol.Symbol.{Symbol}
use Rattle.spec_grammar.specs.Symbols.{is_extra}
use Rattle.spec_lexing.specs.Lexing.{token}
use Rattle.spec_tables.specs.Actions.{Act, shift}
use Rattle.spec_trees.specs.declared.tree.Tree.{Tree}
use Rattle.spec_trees.specs.Trees.{is_extra_node}
use Rattle.spec_trees.specs.Made.{as_extra, BeginsFilled}
use Rattle.spec_runs.specs.Configurations.{stack_symbols, token_tree, HasMove, IsReduction}
use Rattle.spec_forced.specs.Forced.{IsDecided, HasSteps, ForcedRun, run_begins, run_shifts, run_passes, run_reduces}
use Rattle.spec_forced.specs.Laws.{ForcedLaws}
use Rattle.spec_forced.proofs.ForcedLemmas.{children_are_some}
use Rattle.spec_forced.proofs.SpanLemmas.{reads, token_says, as_extra_is}

-- What is seen first. If it has a move, the tree at the bottom is no extra. Else it is an extra that is passed, and lies at
-- the bottom.
pub record First (g : FlatGrammar) (read : List ℕ) (rest : Bytes) (extent : ℕ) (stack : List Tree) : Type 0 where
  pub symbol : Symbol
  pub pad : ℕ
  pub size : ℕ
  pub e : ℕ
  pub seen : IsDecided g read rest (token symbol pad size) e
  pub fits : e ≤ extent
  pub low : Tree
  pub others : List Tree
  pub turned : reverse stack ≡ low ∷ others
  pub kind : (HasMove g read symbol.0 × (is_extra_node low ≡ false))
      ⊎ ((low ≡ as_extra (token_tree symbol pad size)) × (is_extra g symbol.0 ≡ true) × (HasMove g read symbol.0 → ⊥))

first_push : (g : FlatGrammar) (read : List ℕ) (rest : Bytes) (extent : ℕ) (stack : List Tree) (t : Tree) → First g read rest extent stack → First g read rest extent (t ∷ stack)
first_push g read rest extent stack t f = record {
  symbol = f.symbol;
  pad = f.pad;
  size = f.size;
  e = f.e;
  seen = f.seen;
  fits = f.fits;
  low = f.low;
  others = f.others ++ t ∷ [];
  turned = reverse-append (t ∷ []) stack ∙ ap (λ (l : List Tree). l ++ t ∷ []) f.turned;
  kind = f.kind;
}

first_seen : (g : FlatGrammar) (read : List ℕ) (rest : Bytes) (stack : List Tree) (m : ℕ) (s : Symbol) (pad size e : ℕ) → stack ≡ [] → m ≡ 0 → IsDecided g (stack_symbols stack ++ read) (drop m rest) (token s pad size) e → IsDecided g read rest (token s pad size) e
first_seen g read rest stack m s pad size e none nought d =
    subst (λ (n : ℕ). IsDecided g read (drop n rest) (token s pad size) e) nought
    (subst (λ (l : List Tree). IsDecided g (stack_symbols l ++ read) (drop m rest) (token s pad size) e) none d)

-- a stack from which children were taken has trees
some_stack : (g : FlatGrammar) (number : ℕ) (stack : List Tree) (node : Tree) (after : List Tree) → HasSteps g number → IsReduction g number stack node after → stack ≡ [] → ⊥
some_stack g number stack node after steps r none =
    let some = children_are_some g number stack node after steps r in
    let e : 0 ≡ length (r.lifted ++ (reverse r.children ++ r.below)) = ap (λ (l : List Tree). length l) (sym none ∙ r.stack_is) in
    omega (arith, some, e, length-append r.lifted (reverse r.children ++ r.below), length-append (reverse r.children) r.below, length-reverse r.children)

heads : (a b : Tree) (xs ys : List Tree) → a ∷ xs ≡ b ∷ ys → a ≡ b
heads a b xs ys e = cc

-- after a reduction the tree at the bottom is the same, or the node is
first_reduced : (g : FlatGrammar) (read : List ℕ) (rest : Bytes) (extent number : ℕ) (stack : List Tree) (node : Tree) (after : List Tree) → (r : IsReduction g number stack node after) → 0 < length r.children → is_extra_node node ≡ false → First g read rest extent stack → First g read rest extent after
first_reduced g read rest extent number stack node after r kids fills f = by (reverse r.below) refl r.children refl
  where
    stack_turned : reverse stack ≡ (reverse r.below ++ r.children) ++ reverse r.lifted
    stack_turned =
        ap (λ (l : List Tree). reverse l) r.stack_is ∙ reverse-append r.lifted (reverse r.children ++ r.below)
        ∙ ap (λ (l : List Tree). l ++ reverse r.lifted) (reverse-append (reverse r.children) r.below ∙ ap (λ (l : List Tree). reverse r.below ++ l) (reverse-reverse r.children))

    after_turned : reverse after ≡ (reverse r.below ++ node ∷ []) ++ reverse r.lifted
    after_turned =
        ap (λ (l : List Tree). reverse l) r.after_is ∙ reverse-append r.lifted (node ∷ r.below)
        ∙ ap (λ (l : List Tree). l ++ reverse r.lifted) (reverse-append (node ∷ []) r.below)

    with_low : (low : Tree) (others : List Tree) → reverse after ≡ low ∷ others
        → (HasMove g read f.symbol.0 × (is_extra_node low ≡ false)) ⊎ ((low ≡ as_extra (token_tree f.symbol f.pad f.size)) × (is_extra g f.symbol.0 ≡ true) × (HasMove g read f.symbol.0 → ⊥))
        → First g read rest extent after
    with_low low others turned kind = record {
      symbol = f.symbol;
      pad = f.pad;
      size = f.size;
      e = f.e;
      seen = f.seen;
      fits = f.fits;
      low = low;
      others = others;
      turned = turned;
      kind = kind;
    }

    by : (bs : List Tree) → reverse r.below ≡ bs → (cs : List Tree) → r.children ≡ cs → First g read rest extent after
    by [] none [] is = absurd (omega (arith, kids, ap (λ (l : List Tree). length l) is))
    by [] none (c ∷ cs) is =
        let turned : f.low ∷ f.others ≡ c ∷ (cs ++ reverse r.lifted) = sym f.turned ∙ stack_turned ∙ ap (λ (l : List Tree). (l ++ r.children) ++ reverse r.lifted) none ∙ ap (λ (l : List Tree). l ++ reverse r.lifted) is in
        let same : f.low ≡ c = heads f.low c f.others (cs ++ reverse r.lifted) turned in
        let first : is_extra_node c ≡ false = subst (λ (l : List Tree). BeginsFilled l) is r.first_fills in
        let mine : reverse after ≡ node ∷ reverse r.lifted = after_turned ∙ ap (λ (l : List Tree). (l ++ node ∷ []) ++ reverse r.lifted) none in
        ⊎_elim
        (λ k. with_low node (reverse r.lifted) mine (inl (k.0, fills)))
        (λ k. absurd (true≢false (sym (extra_bottom k.0) ∙ ap is_extra_node same ∙ first)))
        f.kind
      where
        extra_bottom : f.low ≡ as_extra (token_tree f.symbol f.pad f.size) → is_extra_node f.low ≡ true
        extra_bottom e = ap is_extra_node e ∙ as_extra_is (token_tree f.symbol f.pad f.size)
    by (b ∷ bs) some cs is =
        let turned : f.low ∷ f.others ≡ b ∷ ((bs ++ r.children) ++ reverse r.lifted) = sym f.turned ∙ stack_turned ∙ ap (λ (l : List Tree). (l ++ r.children) ++ reverse r.lifted) some in
        let same : f.low ≡ b = heads f.low b f.others ((bs ++ r.children) ++ reverse r.lifted) turned in
        let mine : reverse after ≡ b ∷ ((bs ++ node ∷ []) ++ reverse r.lifted) = after_turned ∙ ap (λ (l : List Tree). (l ++ node ∷ []) ++ reverse r.lifted) some in
        with_low f.low ((bs ++ node ∷ []) ++ reverse r.lifted) (mine ∙ ap (λ (x : Tree). x ∷ ((bs ++ node ∷ []) ++ reverse r.lifted)) (sym same)) f.kind

pub first : (laws : ForcedLaws) (g : FlatGrammar) (read : List ℕ) (rest : Bytes) (extent : ℕ) (stack : List Tree) (m : ℕ) → ForcedRun g read rest extent stack m → ((stack ≡ []) × (m ≡ 0)) ⊎ First g read rest extent stack
first laws g read rest extent _ _ run_begins = inl (refl, refl)
first laws g read rest extent _ _ (run_shifts stack m s pad size e d seen fits only) =
    let t : Tree = token_tree s pad size in
    inr (⊎_elim
    (λ none. record {
      symbol = s;
      pad = pad;
      size = size;
      e = e;
      seen = first_seen g read rest stack m s pad size e none.0 none.1 seen;
      fits = omega (arith, fits);
      low = t;
      others = [];
      turned = ap (λ (l : List Tree). reverse (t ∷ l)) none.0;
      kind = inl ((shift, subst (λ (l : List Tree). Act g (stack_symbols l ++ read) s.0 shift) none.0 only.stays), (token_says laws s pad size).extra_is);
    })
    (λ f. first_push g read rest extent stack t f)
    (first laws g read rest extent stack m d))
first laws g read rest extent _ _ (run_passes stack m s pad size e d seen fits extra idle) =
    let t : Tree = as_extra (token_tree s pad size) in
    inr (⊎_elim
    (λ none. record {
      symbol = s;
      pad = pad;
      size = size;
      e = e;
      seen = first_seen g read rest stack m s pad size e none.0 none.1 seen;
      fits = omega (arith, fits);
      low = t;
      others = [];
      turned = ap (λ (l : List Tree). reverse (t ∷ l)) none.0;
      kind = inr (refl, extra, λ move. idle (subst (λ (l : List Tree). HasMove g (stack_symbols l ++ read) s.0) (sym none.0) move));
    })
    (λ f. first_push g read rest extent stack t f)
    (first laws g read rest extent stack m d))
first laws g read rest extent _ _ (run_reduces stack m s pad size e number node after d seen fits only steps r shallow) =
    let x = reads laws g number read stack node after r (laws.reduces g (stack_symbols stack ++ read) s.0 number only.stays) in
    ⊎_elim
    (λ none. absurd (some_stack g number stack node after steps r none.0))
    (λ f. inr (first_reduced g read rest extent number stack node after r (children_are_some g number stack node after steps r) x.fills f))
    (first laws g read rest extent stack m d)
