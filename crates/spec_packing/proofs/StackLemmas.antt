-- Lists of trees that serve for others, one by one.
use Rattle.std.proofs.Common.{◌≡◌, ◌∙◌, sym, ap, refl, subst, ℕ, suc, ◌≤◌, Bool, true, false, List, [], ◌∷◌, ◌++◌, length, reverse, arith}
use Rattle.std.proofs.lemmas.List.{reverse-append, reverse-reverse}
use Rattle.spec_trees.specs.declared.tree.Tree.{Tree}
use Rattle.spec_trees.specs.Trees.{symbol_of, is_extra_node, span_of, all_spans, first_pad, greatest_depth}
use Rattle.spec_trees.specs.Made.{filling, BeginsFilled}
use Rattle.spec_runs.specs.Configurations.{Configuration, AreExtras}
use Rattle.spec_packing.specs.Serving.{ServesFor, AllServe, ServesConfiguration}
use Rattle.spec_packing.proofs.RankLemmas.{serves_itself, serves_chains}

pub all_same : (ts : List Tree) → AllServe ts ts
all_same [] = tt
all_same (t ∷ ts) = (serves_itself t, all_same ts)

pub all_chain : (ts us vs : List Tree) → AllServe ts us → AllServe us vs → AllServe ts vs
all_chain [] [] [] a b = tt
all_chain [] [] (v ∷ vs) a b = b
all_chain [] (u ∷ us) vs a b = absurd a
all_chain (t ∷ ts) [] vs a b = absurd a
all_chain (t ∷ ts) (u ∷ us) [] a b = b
all_chain (t ∷ ts) (u ∷ us) (v ∷ vs) a b = (serves_chains t u v a.0 b.0, all_chain ts us vs a.1 b.1)

pub serves_same : (c : Configuration) → ServesConfiguration c c
serves_same c = record { place = refl; stack = all_same c.stack }

pub serves_chain : (c d e : Configuration) → ServesConfiguration c d → ServesConfiguration d e → ServesConfiguration c e
serves_chain c d e a b = record { place = a.place ∙ b.place; stack = all_chain c.stack d.stack e.stack a.stack b.stack }

pub serves_last : (t u : Tree) (stack : List Tree) (place : ℕ) → ServesFor t u → ServesConfiguration (record { stack = t ∷ stack; place = place }) (record { stack = u ∷ stack; place = place })
serves_last t u stack place s = record { place = refl; stack = (s, all_same stack) }

-- ---- pieces of such lists

pub all_append : (ts us vs ws : List Tree) → AllServe ts us → AllServe vs ws → AllServe (ts ++ vs) (us ++ ws)
all_append [] [] vs ws a b = b
all_append [] (u ∷ us) vs ws a b = absurd a
all_append (t ∷ ts) [] vs ws a b = absurd a
all_append (t ∷ ts) (u ∷ us) vs ws a b = (a.0, all_append ts us vs ws a.1 b)

pub all_turned : (ts us : List Tree) → AllServe ts us → AllServe (reverse ts) (reverse us)
all_turned [] [] a = tt
all_turned [] (u ∷ us) a = absurd a
all_turned (t ∷ ts) [] a = absurd a
all_turned (t ∷ ts) (u ∷ us) a =
    subst (λ (l : List Tree). AllServe l (reverse (u ∷ us))) (sym (reverse-append (t ∷ []) ts))
    (subst (λ (l : List Tree). AllServe (reverse ts ++ t ∷ []) l) (sym (reverse-append (u ∷ []) us))
    (all_append (reverse ts) (reverse us) (t ∷ []) (u ∷ []) (all_turned ts us a.1) (a.0, tt)))

-- what serves for two lists in a row
pub record Split (ts us vs : List Tree) : Type 0 where
  pub left : List Tree
  pub right : List Tree
  pub is : ts ≡ left ++ right
  pub first : AllServe left us
  pub second : AllServe right vs

pub split : (ts us vs : List Tree) → AllServe ts (us ++ vs) → Split ts us vs
split ts [] vs a = record { left = []; right = ts; is = refl; first = tt; second = a }
split [] (u ∷ us) vs a = absurd a
split (t ∷ ts) (u ∷ us) vs a =
    let s = split ts us vs a.1 in
    record {
      left = t ∷ s.left;
      right = s.right;
      is = ap (λ (l : List Tree). t ∷ l) s.is;
      first = (a.0, s.first);
      second = s.second;
    }

-- what serves for a list that is turned round
pub record Turned (ts us : List Tree) : Type 0 where
  pub forth : List Tree
  pub is : ts ≡ reverse forth
  pub serve : AllServe forth us

pub turned : (ts us : List Tree) → AllServe ts (reverse us) → Turned ts us
turned ts us a = record {
  forth = reverse ts;
  is = sym (reverse-reverse ts);
  serve = subst (λ (l : List Tree). AllServe (reverse ts) l) (reverse-reverse us) (all_turned ts (reverse us) a);
}

-- ---- what such lists have in common

pub same_length : (ts us : List Tree) → AllServe ts us → length ts ≡ length us
same_length [] [] a = refl
same_length [] (u ∷ us) a = absurd a
same_length (t ∷ ts) [] a = absurd a
same_length (t ∷ ts) (u ∷ us) a = ap suc (same_length ts us a.1)

pub same_symbols : (ts us : List Tree) → AllServe ts us → filling ts ≡ filling us
same_symbols [] [] a = refl
same_symbols [] (u ∷ us) a = absurd a
same_symbols (t ∷ ts) [] a = absurd a
same_symbols (t ∷ ts) (u ∷ us) a = by (is_extra_node u) a.0.extra refl (same_symbols ts us a.1)
  where
    by : (b : Bool) → is_extra_node t ≡ b → is_extra_node u ≡ b → filling ts ≡ filling us → filling (t ∷ ts) ≡ filling (u ∷ us)
    by true x y h = rw (x, y) h
    by false x y h = rw (x, y) (let s : symbol_of t ≡ symbol_of u = a.0.symbol in let e : symbol_of t ∷ filling ts ≡ symbol_of u ∷ filling us = cc in e)

pub same_extras : (ts us : List Tree) → AllServe ts us → AreExtras us → AreExtras ts
same_extras [] us a h = tt
same_extras (t ∷ ts) [] a h = absurd a
same_extras (t ∷ ts) (u ∷ us) a h = (a.0.extra ∙ h.0, same_extras ts us a.1 h.1)

pub same_begins : (ts us : List Tree) → AllServe ts us → BeginsFilled us → BeginsFilled ts
same_begins [] us a h = tt
same_begins (t ∷ ts) [] a h = absurd a
same_begins (t ∷ ts) (u ∷ us) a h = a.0.extra ∙ h

pub same_span : (t u : Tree) → ServesFor t u → span_of t ≡ span_of u
same_span t u s = omega (arith, s.pad, s.size)

pub same_spans : (ts us : List Tree) → AllServe ts us → all_spans ts ≡ all_spans us
same_spans [] [] a = refl
same_spans [] (u ∷ us) a = absurd a
same_spans (t ∷ ts) [] a = absurd a
same_spans (t ∷ ts) (u ∷ us) a = omega (arith, same_span t u a.0, same_spans ts us a.1)

pub same_pad : (ts us : List Tree) → AllServe ts us → first_pad ts ≡ first_pad us
same_pad [] [] a = refl
same_pad [] (u ∷ us) a = absurd a
same_pad (t ∷ ts) [] a = absurd a
same_pad (t ∷ ts) (u ∷ us) a = a.0.pad

pub no_shallower : (ts us : List Tree) → AllServe ts us → greatest_depth us ≤ greatest_depth ts
no_shallower [] [] a = omega arith
no_shallower [] (u ∷ us) a = absurd a
no_shallower (t ∷ ts) [] a = absurd a
no_shallower (t ∷ ts) (u ∷ us) a = omega (arith, a.0.depth, no_shallower ts us a.1)
