-- What layers stand for: trees with as many bytes and the same symbols, in parts too. So it is of readings.
use Rattle.std.proofs.Common.{◌≡◌, ◌∙◌, sym, ap, refl, subst, ℕ, ◌+◌, ◌<◌, ◌⊎◌, inl, inr, ⊎_elim, Bool, true, false, true≢false, List, [], ◌∷◌, ◌++◌, arith}
use Rattle.spec_trees.specs.declared.tree.Tree.{Tree}
use Rattle.spec_trees.specs.Trees.{symbol_of, is_extra_node, span_of, all_spans}
use Rattle.spec_trees.specs.Made.{filling, BeginsFilled}
use Rattle.spec_runs.specs.Configurations.{Configuration, AreExtras}
use Rattle.spec_runs.specs.Runs.{IsReached}
use Rattle.spec_packing.specs.Replacing.{Replaces as PackedReplaces, AllReplace as AllPackedReplace}
use Rattle.spec_packing.specs.Packing.{PackedTree, PackedStack, packed_trees, own_config, CoversTree, AllCover, Packs, WasMet}
use Rattle.spec_packing.proofs.ReplaceLemmas.{replaces_itself}
use Rattle.spec_packing.proofs.MadeLemmas.{all_spans_append}
use Rattle.spec_graph.specs.States.{LeadsTo}
use Rattle.spec_graph.specs.Laying.{Parsing, IsBegun, IsMet, HasRun, IsReading}
use Rattle.spec_graph.specs.Grounded.{HaveExtrasBytes, BeginsWithBytes, IsGrounded}
use Rattle.spec_graph.specs.Replacing.{AreAlike, Replaces}

-- ---- layers and trees, one by one

pub packed_append : (xs ys : List PackedTree) → packed_trees (xs ++ ys) ≡ packed_trees xs ++ packed_trees ys
packed_append [] ys = refl
packed_append (x ∷ xs) ys = ap (λ (l : List Tree). x.tree ∷ l) (packed_append xs ys)

pub cover_filling : (ls : List PackedTree) (ts : List Tree) → AllCover ls ts → filling (packed_trees ls) ≡ filling ts
cover_filling [] [] a = refl
cover_filling [] (t ∷ ts) a = absurd a
cover_filling (l ∷ ls) [] a = absurd a
cover_filling (l ∷ ls) (t ∷ ts) a = by (is_extra_node t) a.0.extra refl (cover_filling ls ts a.1)
  where
    by : (b : Bool) → is_extra_node l.tree ≡ b → is_extra_node t ≡ b → filling (packed_trees ls) ≡ filling ts → filling (packed_trees (l ∷ ls)) ≡ filling (t ∷ ts)
    by true x y h = rw (x, y) h
    by false x y h = rw (x, y) (let s : symbol_of l.tree ≡ symbol_of t = a.0.symbol in let e : symbol_of l.tree ∷ filling (packed_trees ls) ≡ symbol_of t ∷ filling ts = cc in e)

pub cover_spans : (ls : List PackedTree) (ts : List Tree) → AllCover ls ts → all_spans (packed_trees ls) ≡ all_spans ts
cover_spans [] [] a = refl
cover_spans [] (t ∷ ts) a = absurd a
cover_spans (l ∷ ls) [] a = absurd a
cover_spans (l ∷ ls) (t ∷ ts) a = let p = a.0.pad in let z = a.0.size in omega (arith, p, z, cover_spans ls ts a.1)

pub cover_extras : (ls : List PackedTree) (ts : List Tree) → AllCover ls ts → AreExtras (packed_trees ls) → AreExtras ts
cover_extras [] [] a h = tt
cover_extras [] (t ∷ ts) a h = absurd a
cover_extras (l ∷ ls) [] a h = absurd a
cover_extras (l ∷ ls) (t ∷ ts) a h = (sym a.0.extra ∙ h.0, cover_extras ls ts a.1 h.1)

-- the span of a tree that a layer covers
pub cover_span : (l : PackedTree) (t : Tree) → CoversTree l t → span_of l.tree ≡ span_of t
cover_span l t c = let p = c.pad in let z = c.size in omega (arith, p, z)

-- trees that layers in a row may stand for
pub record TreesFor (ls ms : List PackedTree) (ts : List Tree) : Type 0 where
  pub left : List Tree
  pub right : List Tree
  pub is : ts ≡ left ++ right
  pub first : AllCover ls left
  pub second : AllCover ms right

pub trees_for : (ls ms : List PackedTree) (ts : List Tree) → AllCover (ls ++ ms) ts → TreesFor ls ms ts
trees_for [] ms ts a = record { left = []; right = ts; is = refl; first = tt; second = a }
trees_for (l ∷ ls) ms [] a = absurd a
trees_for (l ∷ ls) ms (t ∷ ts) a =
    let s = trees_for ls ms ts a.1 in
    record { left = t ∷ s.left; right = s.right; is = ap (λ (x : List Tree). t ∷ x) s.is; first = (a.0, s.first); second = s.second }

-- layers that may stand for trees in a row
pub record LayersFor (ls : List PackedTree) (ts us : List Tree) : Type 0 where
  pub left : List PackedTree
  pub right : List PackedTree
  pub is : ls ≡ left ++ right
  pub second : AllCover right us

pub layers_for : (ls : List PackedTree) (ts us : List Tree) → AllCover ls (ts ++ us) → LayersFor ls ts us
layers_for ls [] us a = record { left = []; right = ls; is = refl; second = a }
layers_for [] (t ∷ ts) us a = absurd a
layers_for (l ∷ ls) (t ∷ ts) us a =
    let s = layers_for ls ts us a.1 in
    record { left = l ∷ s.left; right = s.right; is = ap (λ (x : List PackedTree). l ∷ x) s.is; second = s.second }

-- the layer of one of the trees
pub record LayerOf (ls : List PackedTree) (t : Tree) (below : List Tree) : Type 0 where
  pub over : List PackedTree
  pub layer : PackedTree
  pub under : List PackedTree
  pub is : ls ≡ over ++ layer ∷ under
  pub covers : CoversTree layer t
  pub rest : AllCover under below
  pub replaces : Replaces layer.tree t

as_graph : (t u : Tree) → PackedReplaces t u → Replaces t u
as_graph t u r = record { symbol = r.symbol; extra = r.extra; pad = r.pad; size = r.size; no_better = r.no_better }

layer_at : (ls : List PackedTree) (above : List Tree) (t : Tree) (below : List Tree) → AllCover ls (above ++ t ∷ below) → AllPackedReplace (packed_trees ls) (above ++ t ∷ below) → LayerOf ls t below
layer_at [] [] t below a r = absurd a
layer_at [] (x ∷ above) t below a r = absurd a
layer_at (l ∷ ls) [] t below a r = record {
  over = [];
  layer = l;
  under = ls;
  is = refl;
  covers = a.0;
  rest = a.1;
  replaces = as_graph l.tree t r.0;
}
layer_at (l ∷ ls) (x ∷ above) t below a r =
    let f = layer_at ls above t below a.1 r.1 in
    record {
      over = l ∷ f.over;
      layer = f.layer;
      under = f.under;
      is = ap (λ (m : List PackedTree). l ∷ m) f.is;
      covers = f.covers;
      rest = f.rest;
      replaces = f.replaces;
    }

-- trees with bytes at one place are covered by one layer, and so alike
one_layer : (ls : List PackedTree) (above below over under : List Tree) (t u : Tree) → AllCover ls (above ++ t ∷ below) → AllCover ls (over ++ u ∷ under) → all_spans below ≡ all_spans under → 0 < span_of t → 0 < span_of u → AreAlike t u
one_layer [] [] below over under t u a b same lt lt2 = absurd a
one_layer [] (x ∷ above) below over under t u a b same lt lt2 = absurd a
one_layer (l ∷ ls) [] below [] under t u a b same lt lt2 = record {
  symbol = sym a.0.symbol ∙ b.0.symbol;
  extra = sym a.0.extra ∙ b.0.extra;
  pad = sym a.0.pad ∙ b.0.pad;
  size = sym a.0.size ∙ b.0.size;
}
one_layer (l ∷ ls) [] below (y ∷ over) under t u a b same lt lt2 =
    let n = cover_spans ls below a.1 in
    let m = cover_spans ls (over ++ u ∷ under) b.1 in
    let k = all_spans_append over (u ∷ under) in
    absurd (omega (arith, n, m, k, same, lt2))
one_layer (l ∷ ls) (x ∷ above) below [] under t u a b same lt lt2 =
    let n = cover_spans ls under b.1 in
    let m = cover_spans ls (above ++ t ∷ below) a.1 in
    let k = all_spans_append above (t ∷ below) in
    absurd (omega (arith, n, m, k, same, lt))
one_layer (l ∷ ls) (x ∷ above) below (y ∷ over) under t u a b same lt lt2 = one_layer ls above below over under t u a.1 b.1 same lt lt2

-- ---- readings

pub reading_layer : (P : Parsing) (above below : List Tree) (t : Tree) → IsReading P (above ++ t ∷ below) → LayerOf P.layers t below
reading_layer P above below t r = layer_at P.layers above t below r.cover r.replace

pub readings_alike : (P : Parsing) (above below over under : List Tree) (t u : Tree) → IsReading P (above ++ t ∷ below) → IsReading P (over ++ u ∷ under) → all_spans below ≡ all_spans under → 0 < span_of t → 0 < span_of u → AreAlike t u
readings_alike P above below over under t u r s same lt lt2 = one_layer P.layers above below over under t u r.cover s.cover same lt lt2

-- over no layers nothing stood
no_cover : (stack : List Tree) → AllCover [] stack → stack ≡ []
no_cover [] a = refl
no_cover (t ∷ stack) a = absurd a

pub reading_empty : (P : Parsing) → P.layers ≡ [] → (stack : List Tree) → IsReading P stack → stack ≡ []
reading_empty P none stack r = no_cover stack (subst (λ (ls : List PackedTree). AllCover ls stack) none r.cover)

pub no_reading : (P : Parsing) → P.layers ≡ [] → (above below : List Tree) (t : Tree) → IsReading P (above ++ t ∷ below) → ⊥
no_reading P none above below t r = by above (reading_empty P none (above ++ t ∷ below) r)
  where
    by : (above : List Tree) → above ++ t ∷ below ≡ [] → ⊥
    by [] e = cc
    by (x ∷ above) e = let h : x ∷ (above ++ t ∷ below) ≡ [] = e in cc

-- ---- readings of a stack that is grounded

own_extra_some : (above : List PackedTree) (l : PackedTree) (below : List PackedTree) → HaveExtrasBytes (packed_trees (above ++ l ∷ below)) → is_extra_node l.tree ≡ true → 0 < span_of l.tree
own_extra_some [] l below a = a.0
own_extra_some (x ∷ above) l below a = own_extra_some above l below a.1

own_spans : (above below : List PackedTree) → all_spans (packed_trees (above ++ below)) ≡ all_spans (packed_trees above) + all_spans (packed_trees below)
own_spans above below = ap all_spans (packed_append above below) ∙ all_spans_append (packed_trees above) (packed_trees below)

module _ (P : Parsing) (ground : IsGrounded P) where
  low_layer : (above below : List PackedTree) (l : PackedTree) → P.layers ≡ above ++ l ∷ below → all_spans (packed_trees below) < P.place
  low_layer [] below l at =
      let b : 0 < span_of l.tree = subst (λ (ls : List PackedTree). BeginsWithBytes (packed_trees ls)) at ground.some in
      let e : all_spans (packed_trees P.layers) ≡ all_spans (packed_trees (l ∷ below)) = ap (λ (ls : List PackedTree). all_spans (packed_trees ls)) at in
      omega (arith, b, e, ground.spans)
  low_layer (f ∷ above) below l at =
      let b : 0 < span_of f.tree = subst (λ (ls : List PackedTree). BeginsWithBytes (packed_trees ls)) at ground.some in
      let e : all_spans (packed_trees P.layers) ≡ all_spans (packed_trees (f ∷ (above ++ l ∷ below))) = ap (λ (ls : List PackedTree). all_spans (packed_trees ls)) at in
      omega (arith, b, e, own_spans above (l ∷ below), ground.spans)

  extra_layer : (above below : List PackedTree) (l : PackedTree) → P.layers ≡ above ++ l ∷ below → is_extra_node l.tree ≡ true → all_spans (packed_trees below) + span_of l.tree < P.place
  extra_layer [] below l at e = absurd (true≢false (sym e ∙ subst (λ (ls : List PackedTree). BeginsFilled (packed_trees ls)) at ground.begins))
  extra_layer (f ∷ above) below l at e =
      let b : 0 < span_of f.tree = subst (λ (ls : List PackedTree). BeginsWithBytes (packed_trees ls)) at ground.some in
      let s : all_spans (packed_trees P.layers) ≡ all_spans (packed_trees (f ∷ (above ++ l ∷ below))) = ap (λ (ls : List PackedTree). all_spans (packed_trees ls)) at in
      omega (arith, b, s, own_spans above (l ∷ below), ground.spans)

  -- what stands below a tree of a reading ends before the stack does
  pub low_reading : (above below : List Tree) (t : Tree) → IsReading P (above ++ t ∷ below) → all_spans below < P.place
  low_reading above below t r =
      let f = reading_layer P above below t r in
      let h = low_layer f.over f.under f.layer f.is in
      omega (arith, h, cover_spans f.under below f.rest)

  pub extra_low : (above below : List Tree) (t : Tree) → IsReading P (above ++ t ∷ below) → is_extra_node t ≡ true → all_spans below + span_of t < P.place
  extra_low above below t r e =
      let f = reading_layer P above below t r in
      let h = extra_layer f.over f.under f.layer f.is (f.covers.extra ∙ e) in
      omega (arith, h, cover_spans f.under below f.rest, cover_span f.layer t f.covers)

  pub extra_some : (above below : List Tree) (t : Tree) → IsReading P (above ++ t ∷ below) → is_extra_node t ≡ true → 0 < span_of t
  extra_some above below t r e =
      let f = reading_layer P above below t r in
      let h = own_extra_some f.over f.layer f.under (subst (λ (ls : List PackedTree). HaveExtrasBytes (packed_trees ls)) f.is ground.some_extras) (f.covers.extra ∙ e) in
      omega (arith, h, cover_span f.layer t f.covers)

  pub read_states : (above below : List Tree) → IsReading P (above ++ below) → (n : ℕ) × LeadsTo P.goto (filling below) n
  read_states above below r =
      let f = layers_for P.layers above below r.cover in
      let n = ground.states f.left f.right f.is in
      (n.0, subst (λ (read : List ℕ). LeadsTo P.goto read n.0) (cover_filling f.right below f.second) n.1)

-- ---- where runs begin

-- what a stack stands for, whose layers are those from which runs go on, is a reading
module _ (P : Parsing) (k : PackedStack) (begun : IsBegun P k) (c : Configuration) (reached : IsReached P.grammar P.text c) (stands : Packs k c) where
  covered : AllCover (begun.extras ++ P.layers) c.stack
  covered = subst (λ (ls : List PackedTree). AllCover ls c.stack) begun.stack_is stands.covers.stack

  pub parts : TreesFor begun.extras P.layers c.stack
  parts = trees_for begun.extras P.layers c.stack covered

  pub replaced : AllPackedReplace (packed_trees begun.extras ++ packed_trees P.layers) (parts.left ++ parts.right)
  replaced =
      subst (λ (ts : List Tree). AllPackedReplace (packed_trees begun.extras ++ packed_trees P.layers) ts) parts.is
      (subst (λ (ts : List Tree). AllPackedReplace ts c.stack) (ap (λ (ls : List PackedTree). packed_trees ls) begun.stack_is ∙ packed_append begun.extras P.layers) stands.trees)

  pub rest_replaced : (ls : List PackedTree) (xs ys us vs : List Tree) → AllCover ls us → xs ≡ packed_trees ls → AllPackedReplace (xs ++ ys) (us ++ vs) → AllPackedReplace ys vs
  rest_replaced [] [] ys [] vs a e r = r
  rest_replaced [] [] ys (u ∷ us) vs a e r = absurd a
  rest_replaced [] (x ∷ xs) ys us vs a e r = absurd (let h : x ∷ xs ≡ [] = e in cc)
  rest_replaced (l ∷ ls) [] ys us vs a e r = absurd (let h : [] ≡ l.tree ∷ packed_trees ls = e in cc)
  rest_replaced (l ∷ ls) (x ∷ xs) ys [] vs a e r = absurd a
  rest_replaced (l ∷ ls) (x ∷ xs) ys (u ∷ us) vs a e r = rest_replaced ls xs ys us vs a.1 (let h : x ∷ xs ≡ l.tree ∷ packed_trees ls = e in let g : xs ≡ packed_trees ls = cc in g) r.1

  abbrev pub reading_stack : List Tree
  reading_stack = parts.right

  -- a run comes to it, with the rest on top
  abbrev pub reading_run : HasRun P reading_stack
  reading_run = record {
    config = c;
    reached = reached;
    extras = parts.left;
    stack_is = parts.is;
    all_extras = cover_extras begun.extras parts.left parts.first begun.all_extras;
  }

  pub reading_at : WasMet P.grammar P.text k → IsReading P reading_stack
  reading_at met = record {
    cover = parts.second;
    replace = rest_replaced begun.extras (packed_trees begun.extras) (packed_trees P.layers) parts.left parts.right parts.first refl replaced;
    from = inr (record { stack = k; begun = begun; met = met }, reading_run);
  }

own_replace : (ts : List Tree) → AllPackedReplace ts ts
own_replace [] = tt
own_replace (t ∷ ts) = (replaces_itself t, own_replace ts)

-- the own trees of layers are a reading
pub own_reading : (P : Parsing) → AllCover P.layers (packed_trees P.layers) → IsReading P (packed_trees P.layers)
own_reading P own = record { cover = own; replace = own_replace (packed_trees P.layers); from = inl refl }

-- where the layers were met, runs come to each reading
own_cover : (xs ys : List PackedTree) → AllCover (xs ++ ys) (packed_trees (xs ++ ys)) → AllCover ys (packed_trees ys)
own_cover [] ys a = a
own_cover (x ∷ xs) ys a = own_cover xs ys a.1

module _ (P : Parsing) (m : IsMet P) where
  pub met_cover : AllCover P.layers (packed_trees P.layers)
  met_cover = own_cover m.begun.extras P.layers (subst (λ (ls : List PackedTree). AllCover ls (packed_trees ls)) m.begun.stack_is m.met.own.stack)

  pub own_run : HasRun P (packed_trees P.layers)
  own_run = record {
    config = own_config m.stack;
    reached = m.met.reached;
    extras = packed_trees m.begun.extras;
    stack_is = ap (λ (ls : List PackedTree). packed_trees ls) m.begun.stack_is ∙ packed_append m.begun.extras P.layers;
    all_extras = m.begun.all_extras;
  }

  pub run_to : (stack : List Tree) → IsReading P stack → HasRun P stack
  run_to stack r = ⊎_elim (λ e. subst (λ (ts : List Tree). HasRun P ts) (sym e) own_run) (λ w. w.1) r.from
