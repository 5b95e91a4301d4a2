-- Trees that may take the place of others, alone and one by one in lists.
use Rattle.std.proofs.Common.{◌≡◌, ◌∙◌, sym, ap, refl, subst, ℕ, suc, ◌≤◌, Bool, true, false, List, [], ◌∷◌, ◌++◌, length, reverse, arith}
use Rattle.std.proofs.lemmas.List.{reverse-append, reverse-reverse}
use Rattle.spec_trees.specs.declared.tree.Tree.{Tree}
use Rattle.spec_trees.specs.Trees.{symbol_of, is_extra_node, span_of, all_spans, first_pad, maximum, bare}
use Rattle.spec_trees.specs.Made.{Form, of_rule, of_first, of_next, filling, BeginsFilled}
use Rattle.spec_runs.specs.BareTrees.{KeepsAll}
use Rattle.spec_runs.specs.Configurations.{AreExtras}
use Rattle.spec_packing.proofs.RankLemmas.{better_strict, no_better_chains, unbared}
use Rattle.spec_packing.specs.Replacing.{Replaces, AllReplace, depth_over}

pub replaces_itself : (t : Tree) → Replaces t t
replaces_itself t = record {
  symbol = refl;
  extra = refl;
  pad = refl;
  size = refl;
  no_better = better_strict t;
}

pub replaces_chain : (t u v : Tree) → Replaces t u → Replaces u v → Replaces t v
replaces_chain t u v a b = record {
  symbol = a.symbol ∙ b.symbol;
  extra = a.extra ∙ b.extra;
  pad = a.pad ∙ b.pad;
  size = a.size ∙ b.size;
  no_better = no_better_chains t u v a.no_better b.no_better;
}

pub replaces_bare : (t u : Tree) → KeepsAll t → KeepsAll u → Replaces t u → Replaces (bare t) (bare u)
replaces_bare t u k l s = record {
  symbol = k.symbol ∙ s.symbol ∙ sym l.symbol;
  extra = k.extra ∙ s.extra ∙ sym l.extra;
  pad = k.pad ∙ s.pad ∙ sym l.pad;
  size = k.size ∙ s.size ∙ sym l.size;
  no_better = λ b. s.no_better (unbared t u k l b);
}

-- ---- pieces of such lists

pub all_append : (ts us vs ws : List Tree) → AllReplace ts us → AllReplace vs ws → AllReplace (ts ++ vs) (us ++ ws)
all_append [] [] vs ws a b = b
all_append [] (u ∷ us) vs ws a b = absurd a
all_append (t ∷ ts) [] vs ws a b = absurd a
all_append (t ∷ ts) (u ∷ us) vs ws a b = (a.0, all_append ts us vs ws a.1 b)

pub all_turned : (ts us : List Tree) → AllReplace ts us → AllReplace (reverse ts) (reverse us)
all_turned [] [] a = tt
all_turned [] (u ∷ us) a = absurd a
all_turned (t ∷ ts) [] a = absurd a
all_turned (t ∷ ts) (u ∷ us) a =
    subst (λ (l : List Tree). AllReplace l (reverse (u ∷ us))) (sym (reverse-append (t ∷ []) ts))
    (subst (λ (l : List Tree). AllReplace (reverse ts ++ t ∷ []) l) (sym (reverse-append (u ∷ []) us))
    (all_append (reverse ts) (reverse us) (t ∷ []) (u ∷ []) (all_turned ts us a.1) (a.0, tt)))

-- what may replace two lists in a row
pub record Split (ts us vs : List Tree) : Type 0 where
  pub left : List Tree
  pub right : List Tree
  pub is : ts ≡ left ++ right
  pub first : AllReplace left us
  pub second : AllReplace right vs

pub split : (ts us vs : List Tree) → AllReplace ts (us ++ vs) → Split ts us vs
split ts [] vs a = record { left = []; right = ts; is = refl; first = tt; second = a }
split [] (u ∷ us) vs a = absurd a
split (t ∷ ts) (u ∷ us) vs a =
    let s = split ts us vs a.1 in
    record {
      left = t ∷ s.left;
      right = s.right;
      is = ap (λ (l : List Tree). t ∷ l) s.is;
      first = (a.0, s.first);
      second = s.second;
    }

-- what may replace a list that is turned round
pub record Turned (ts us : List Tree) : Type 0 where
  pub forth : List Tree
  pub is : ts ≡ reverse forth
  pub replace : AllReplace forth us

pub turned : (ts us : List Tree) → AllReplace ts (reverse us) → Turned ts us
turned ts us a = record {
  forth = reverse ts;
  is = sym (reverse-reverse ts);
  replace = subst (λ (l : List Tree). AllReplace (reverse ts) l) (reverse-reverse us) (all_turned ts (reverse us) a);
}

-- ---- what such lists have in common

pub same_length : (ts us : List Tree) → AllReplace ts us → length ts ≡ length us
same_length [] [] a = refl
same_length [] (u ∷ us) a = absurd a
same_length (t ∷ ts) [] a = absurd a
same_length (t ∷ ts) (u ∷ us) a = ap suc (same_length ts us a.1)

pub same_symbols : (ts us : List Tree) → AllReplace ts us → filling ts ≡ filling us
same_symbols [] [] a = refl
same_symbols [] (u ∷ us) a = absurd a
same_symbols (t ∷ ts) [] a = absurd a
same_symbols (t ∷ ts) (u ∷ us) a = by (is_extra_node u) a.0.extra refl (same_symbols ts us a.1)
  where
    by : (b : Bool) → is_extra_node t ≡ b → is_extra_node u ≡ b → filling ts ≡ filling us → filling (t ∷ ts) ≡ filling (u ∷ us)
    by true x y h = rw (x, y) h
    by false x y h = rw (x, y) (let s : symbol_of t ≡ symbol_of u = a.0.symbol in let e : symbol_of t ∷ filling ts ≡ symbol_of u ∷ filling us = cc in e)

pub same_extras : (ts us : List Tree) → AllReplace ts us → AreExtras us → AreExtras ts
same_extras [] us a h = tt
same_extras (t ∷ ts) [] a h = absurd a
same_extras (t ∷ ts) (u ∷ us) a h = (a.0.extra ∙ h.0, same_extras ts us a.1 h.1)

pub same_begins : (ts us : List Tree) → AllReplace ts us → BeginsFilled us → BeginsFilled ts
same_begins [] us a h = tt
same_begins (t ∷ ts) [] a h = absurd a
same_begins (t ∷ ts) (u ∷ us) a h = a.0.extra ∙ h

pub same_span : (t u : Tree) → Replaces t u → span_of t ≡ span_of u
same_span t u s = omega (arith, s.pad, s.size)

pub same_spans : (ts us : List Tree) → AllReplace ts us → all_spans ts ≡ all_spans us
same_spans [] [] a = refl
same_spans [] (u ∷ us) a = absurd a
same_spans (t ∷ ts) [] a = absurd a
same_spans (t ∷ ts) (u ∷ us) a = omega (arith, same_span t u a.0, same_spans ts us a.1)

pub same_pad : (ts us : List Tree) → AllReplace ts us → first_pad ts ≡ first_pad us
same_pad [] [] a = refl
same_pad [] (u ∷ us) a = absurd a
same_pad (t ∷ ts) [] a = absurd a
same_pad (t ∷ ts) (u ∷ us) a = a.0.pad

-- ---- depths

-- as many depths, and each of the first is no less than the one in its place
abbrev pub AllDeeper : List ℕ → List ℕ → Type 0
AllDeeper [] [] = Unit {0}
AllDeeper [] (e ∷ es) = ⊥
AllDeeper (d ∷ ds) [] = ⊥
AllDeeper (d ∷ ds) (e ∷ es) = (e ≤ d) × AllDeeper ds es

pub deeper_maximum : (ds es : List ℕ) → AllDeeper ds es → maximum es ≤ maximum ds
deeper_maximum [] [] a = omega arith
deeper_maximum [] (e ∷ es) a = absurd a
deeper_maximum (d ∷ ds) [] a = absurd a
deeper_maximum (d ∷ ds) (e ∷ es) a = let h = a.0 in omega (arith, h, deeper_maximum ds es a.1)

pub deeper_over : (f : Form) (ds es : List ℕ) → AllDeeper ds es → depth_over f es ≤ depth_over f ds
deeper_over of_rule ds es a = omega (arith, deeper_maximum ds es a)
deeper_over (of_first k) ds es a = omega (arith, deeper_maximum ds es a)
deeper_over (of_next k) [] [] a = omega arith
deeper_over (of_next k) [] (e ∷ es) a = absurd a
deeper_over (of_next k) (d ∷ ds) [] a = absurd a
deeper_over (of_next k) (d ∷ ds) (e ∷ es) a = let h = a.0 in omega (arith, h, deeper_maximum ds es a.1)

pub deeper_append : (ds es bs cs : List ℕ) → AllDeeper ds es → AllDeeper bs cs → AllDeeper (ds ++ bs) (es ++ cs)
deeper_append [] [] bs cs a b = b
deeper_append [] (e ∷ es) bs cs a b = absurd a
deeper_append (d ∷ ds) [] bs cs a b = absurd a
deeper_append (d ∷ ds) (e ∷ es) bs cs a b = (a.0, deeper_append ds es bs cs a.1 b)

pub deeper_turned : (ds es : List ℕ) → AllDeeper ds es → AllDeeper (reverse ds) (reverse es)
deeper_turned [] [] a = tt
deeper_turned [] (e ∷ es) a = absurd a
deeper_turned (d ∷ ds) [] a = absurd a
deeper_turned (d ∷ ds) (e ∷ es) a =
    subst (λ (l : List ℕ). AllDeeper l (reverse (e ∷ es))) (sym (reverse-append (d ∷ []) ds))
    (subst (λ (l : List ℕ). AllDeeper (reverse ds ++ d ∷ []) l) (sym (reverse-append (e ∷ []) es))
    (deeper_append (reverse ds) (reverse es) (d ∷ []) (e ∷ []) (deeper_turned ds es a.1) (a.0, tt)))
