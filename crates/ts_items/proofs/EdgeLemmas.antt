-- Edges that productions make, and what symbols can begin with.
use Rattle.std.proofs.Common.{◌≡◌, ◌∙◌, sym, ap, refl, subst, ℕ, suc, ◌+◌, ◌<◌, ◌≤◌, ◌⊎◌, inl, inr, ⊎_elim, List, [], ◌∷◌, ◌++◌, length, take, drop, get_or, slice_get, Option, Some, None, arith, ◌↔◌}
use Rattle.std.specs.Prelude.{MatchOption, ⊤}
use Rattle.std.specs.Global.{Vec}
use Rattle.std.specs.List.{Contains}
use Rattle.std.proofs.lemmas.List.{take_more, length-take-le}
use Rattle.std.proofs.lemmas.Option.{slice_get_within, slice_get-get_or}
use Rattle.ts_core.specs.declared.flat.FlatGrammar.{FlatGrammar}
use Rattle.spec_grammar.specs.Symbols.{symbol_count}
use Rattle.spec_tables.specs.Items.{CanBeginWith, itself, by_first, line_steps}
use Rattle.ts_bits.specs.declared.set.BitSet.{BitSet}
use Rattle.ts_items.specs.declared.flow.Edge.{Edge}
use Rattle.ts_items.specs.declared.plain.Plain.{Plain}
use Rattle.ts_items.specs.Productions.{ArePlainOf}
use Rattle.ts_items.specs.Rows.{RowHas, Puts, FromOne}
use Rattle.ts_items.specs.Sets.{HasAt, AreWide, GainsTokens}
use Rattle.ts_items.specs.Flow.{Spread, given, brought, Hands, Brings, Spreads, Queued, IsNet}
use Rattle.ts_items.specs.Edges.{IsFirstEdge, IsAskEdge, AreEdges, IsPlainInside, AreInside, AreFirstSets}
use Rattle.ts_items.specs.Tables.{IsLineOf, AreLines}
use Rattle.ts_items.proofs.ListLemmas.{written, none_in_nil, there, at_of, snoc_at, at_snoc, at_front}
use Rattle.ts_items.proofs.GainLemmas.{Selves}
use Rattle.ts_items.proofs.EachLemmas.{puts_none, puts_both, puts_same}
use Rattle.ts_items.proofs.PlainLemmas.{plain_at, at_plain, step_at, dot_of}

edge_of : (e f : Edge) → e.to ≡ f.to → e.behind ≡ f.behind → e ≡ f
edge_of e f a b = λ k. record { to = a k; behind = b k }

none_there : (xs ys : List ℕ) (k x : ℕ) → xs ≡ ys → length xs ≡ 0 → slice_get ys k ≡ Some x → ⊥
none_there xs ys k x same empty at = let w = slice_get_within ys k x at in let e = ap (λ (l : List ℕ). length l) same in omega (arith, w, e, empty)

first_at : (xs ys : List ℕ) (at : ℕ) → xs ≡ ys → 0 < length xs → at ≡ get_or xs 0 0 → slice_get ys 0 ≡ Some at
first_at xs ys at same some is = ap (λ (l : List ℕ). slice_get l 0) (sym same) ∙ slice_get-get_or xs 0 0 some ∙ ap Some (sym is)

one_some : (a b : ℕ) → ◌≡◌ {A = Option ℕ} (Some a) (Some b) → a ≡ b
one_some a b h = cc

pub first_empty : (p : Plain) (right : List ℕ) (edges : List (Vec Edge)) → right ≡ p.right.items → length right ≡ 0 → Puts (IsFirstEdge p) edges edges
first_empty p right edges same empty = puts_none (IsFirstEdge p) edges (λ y e h. none_there right p.right.items 0 y same empty h.from)

pub first_puts : (p : Plain) (right : List ℕ) (at : ℕ) (edge : Edge) (old new : List (Vec Edge)) → right ≡ p.right.items → 0 < length right → at ≡ get_or right 0 0 → edge.to ≡ p.left → edge.behind ≡ None
    → Puts (λ y e. (y ≡ at) × (e ≡ edge)) old new → Puts (IsFirstEdge p) old new
first_puts p right at edge old new same some is to behind puts =
    let here = first_at right p.right.items at same some is in
    puts_same (λ y e. (y ≡ at) × (e ≡ edge)) (IsFirstEdge p) old new puts
    (λ y e h. record { from = here ∙ ap Some (sym h.0); to = ap (λ (f : Edge). f.to) h.1 ∙ to; behind = ap (λ (f : Edge). f.behind) h.1 ∙ behind })
    (λ y e h. (one_some y at (sym h.from ∙ here), edge_of e edge (h.to ∙ sym to) (h.behind ∙ sym behind)))

pub ask_empty : (p : Plain) (right : List ℕ) (edges : List (Vec Edge)) → right ≡ p.right.items → length right ≡ 0 → Puts (IsAskEdge p) edges edges
ask_empty p right edges same empty = puts_none (IsAskEdge p) edges (λ y e h. none_there right p.right.items 0 e.to same empty h.to)

pub ask_puts : (p : Plain) (right : List ℕ) (at : ℕ) (edge : Edge) (old new : List (Vec Edge)) → right ≡ p.right.items → 0 < length right → at ≡ p.left → edge.to ≡ get_or right 0 0 → edge.behind ≡ slice_get right 1
    → Puts (λ y e. (y ≡ at) × (e ≡ edge)) old new → Puts (IsAskEdge p) old new
ask_puts p right at edge old new same some is to behind puts =
    let here = first_at right p.right.items edge.to same some to in
    let second : edge.behind ≡ slice_get p.right.items 1 = behind ∙ ap (λ (l : List ℕ). slice_get l 1) same in
    puts_same (λ y e. (y ≡ at) × (e ≡ edge)) (IsAskEdge p) old new puts
    (λ y e h. record { from = h.0 ∙ is; to = here ∙ ap Some (ap (λ (f : Edge). f.to) (sym h.1)); behind = ap (λ (f : Edge). f.behind) h.1 ∙ second })
    (λ y e h. (h.from ∙ sym is, edge_of e edge (one_some e.to edge.to (sym h.to ∙ here)) (h.behind ∙ sym second)))

-- the first symbol of a production is inside
pub first_inside : (p : Plain) (count : ℕ) (right : List ℕ) (at : ℕ) → IsPlainInside count p → right ≡ p.right.items → 0 < length right → at ≡ get_or right 0 0 → at < count
first_inside p count right at inside same some is = inside.right 0 at (first_at right p.right.items at same some is)

pub inside_of : (p : Plain) (m n : ℕ) → n ≡ m → IsPlainInside m p → IsPlainInside n p
inside_of p m n same i = subst (λ (k : ℕ). IsPlainInside k p) (sym same) i

-- edges that were put into empty rows
pub are_edges : (EdgeOf : Plain → ℕ → Edge → Type 0) (ps : List Plain) (count : ℕ) (rows edges : List (Vec Edge)) → length rows ≡ count → ((y : ℕ) (e : Edge) → RowHas rows y e → ⊥) → Puts (FromOne EdgeOf ps) rows edges → AreEdges EdgeOf ps count edges
are_edges EdgeOf ps count rows edges size none puts = record {
  count_is = puts.count ∙ size;
  members = λ y e. ((λ h. ⊎_elim (λ w. absurd (none y e w)) (λ w. w) ((puts.members y e).0 h)), (λ h. (puts.members y e).1 (inr h)));
}

-- ---- lines

pub lines_none : (ps : List Plain) (rows : List (Vec ℕ)) → Puts (IsLineOf (take 0 ps)) rows rows
lines_none ps rows = puts_none (IsLineOf (take 0 ps)) rows (λ y n h. let w = slice_get_within (take 0 ps) h.number h.production h.at in omega (arith, w))

pub lines_more : (ps : List Plain) (k at line : ℕ) (p : Plain) (a b c : List (Vec ℕ)) → k < length ps → p ≡ get_or ps k p → at ≡ p.left → line ≡ k + 1 → Puts (IsLineOf (take k ps)) a b → Puts (λ y n. (y ≡ at) × (n ≡ line)) b c → Puts (IsLineOf (take (k + 1) ps)) a c
lines_more ps k at line p a b c below is left next before one =
    puts_both (IsLineOf (take k ps)) (λ y n. (y ≡ at) × (n ≡ line)) (IsLineOf (take (k + 1) ps)) a b c before one
    (λ y n h. record { number = h.number; is = h.is; production = h.production; at = whole h.number ∙ at_front (take k ps) (p ∷ []) h.number (slice_get_within (take k ps) h.number h.production h.at) ∙ h.at; left = h.left })
    (λ y n h. record { number = k; is = h.1 ∙ next ∙ one_more; production = p; at = whole k ∙ ap (λ (m : ℕ). slice_get (take k ps ++ p ∷ []) m) (sym size) ∙ at_snoc (take k ps) p; left = h.0 ∙ left })
    (λ y n h. ⊎_elim (λ w. inl (record { number = h.number; is = h.is; production = h.production; at = w; left = h.left }))
    (λ w. inr (h.left ∙ ap (λ (q : Plain). q.left) (sym w.1) ∙ sym left, h.is ∙ ap suc (w.0 ∙ size) ∙ sym one_more ∙ sym next))
    (snoc_at (take k ps) p h.production h.number (sym (whole h.number) ∙ h.at)))
  where
    size : length (take k ps) ≡ k
    size = length-take-le k ps (omega (arith, below))

    one_more : k + 1 ≡ suc k
    one_more = omega arith

    whole : (m : ℕ) → slice_get (take (k + 1) ps) m ≡ slice_get (take k ps ++ p ∷ []) m
    whole m = ap (λ (l : List Plain). slice_get l m) (take_more ps k p below ∙ ap (λ (q : Plain). take k ps ++ q ∷ []) (sym is))

pub are_lines : (ps : List Plain) (count : ℕ) (rows lines : List (Vec ℕ)) → length rows ≡ count → ((y n : ℕ) → RowHas rows y n → ⊥) → Puts (IsLineOf ps) rows lines → AreLines ps count lines
are_lines ps count rows lines size none puts = record {
  count_is = puts.count ∙ size;
  members = λ y n. ((λ h. ⊎_elim (λ w. absurd (none y n w)) (λ w. w) ((puts.members y n).0 h)), (λ h. (puts.members y n).1 (inr h)));
}

pub lines_all : (ps : List Plain) (k : ℕ) (a b : List (Vec ℕ)) → take k ps ≡ ps → Puts (IsLineOf (take k ps)) a b → Puts (IsLineOf ps) a b
lines_all ps k a b e h = subst (λ (l : List Plain). Puts (IsLineOf l) a b) e h

-- ---- what symbols can begin with

module _ (g : FlatGrammar) (ps : List Plain) (count : ℕ) (edges : List (Vec Edge)) (gives old : List BitSet) (plain : ArePlainOf g ps) (are : AreEdges IsFirstEdge ps count edges) (selves : (y t : ℕ) → HasAt old y t ↔ Selves (length g.tokens) y t) where
  over : (e : Edge) (y t z u : ℕ) → FromOne IsFirstEdge ps y e → e.to ≡ z → Hands gives e.behind t u → CanBeginWith g y t → CanBeginWith g z u
  over e y t z u each to hands c =
      let p = each.by in
      let w = each.there in
      let at = plain_at g ps w.0 p plain (at_of ps p w) in
      let step = step_at (line_steps g (Some w.0)) 0 y (ap (λ (l : List ℕ). slice_get l 0) at.right ∙ each.gives.from) in
      let same : t ≡ u = subst (λ (o : Option ℕ). Hands gives o t u) each.gives.behind hands in
      subst (CanBeginWith g z) same (subst (λ (x : ℕ). CanBeginWith g x t) (sym each.gives.to ∙ to) (by_first p.left w.0 t step.0 at.production step.1 (subst (λ (x : ℕ). CanBeginWith g x t) (sym step.2) c)))

  begins_to : (y t : ℕ) → Spread (Brings edges gives) (HasAt old) y t → CanBeginWith g y t
  begins_to y t (given _ _ h) = let s = (selves y t).0 h in subst (λ (x : ℕ). CanBeginWith g x t) (sym s.2) (itself t (s.0, s.1))
  begins_to z u (brought y t _ _ s b) = over b.edge y t z u ((are.members y b.edge).0 b.there) b.to b.hands (begins_to y t s)

  begins_from : (y t : ℕ) → CanBeginWith g y t → Spread (Brings edges gives) (HasAt old) y t
  begins_from _ _ (itself t is) = given t t ((selves t t).1 (is.0, is.1, refl))
  begins_from _ _ (by_first x n t step is at c) =
      let p = at_plain g ps x n plain is in
      let pa = plain_at g ps n p.0 plain p.1 in
      let dot : slice_get p.0.right.items 0 ≡ Some step.symbol.0 = ap (λ (l : List ℕ). slice_get l 0) (sym pa.right) ∙ dot_of g (record { line = Some n; dot = 0; token = 0 }) step at in
      let edge : Edge = record { to = p.0.left; behind = None } in
      brought step.symbol.0 t x t (begins_from step.symbol.0 t c) (record {
        edge = edge;
        there = (are.members step.symbol.0 edge).1 (record { by = p.0; there = there ps n p.0 p.1; gives = record { from = dot; to = refl; behind = refl } });
        to = p.2;
        hands = refl;
      })

  pub begins_are : (sets : List BitSet) → Spreads edges gives old sets → (y t : ℕ) → HasAt sets y t ↔ CanBeginWith g y t
  begins_are sets s y t = ((λ h. begins_to y t ((s.members y t).0 h)), (λ h. (s.members y t).1 (begins_from y t h)))

-- ---- edges that serve a flow

pub first_net : (ps : List Plain) (count : ℕ) (edges : List (Vec Edge)) (gives : List BitSet) → AreInside count ps → AreEdges IsFirstEdge ps count edges → IsNet edges gives count
first_net ps count edges gives inside are = record {
  rows = are.count_is;
  each = λ y e h.
      let m = (are.members y e).0 h in
      record {
        to = subst (λ (k : ℕ). k < count) (sym m.gives.to) (inside m.by m.there).left;
        behind = subst (λ (o : Option ℕ). MatchOption o ⊤ (λ x. x < length gives)) (sym m.gives.behind) tt;
      };
}

pub ask_net : (ps : List Plain) (count : ℕ) (edges : List (Vec Edge)) (gives : List BitSet) → AreInside count ps → AreEdges IsAskEdge ps count edges → length gives ≡ count → IsNet edges gives count
ask_net ps count edges gives inside are size = record {
  rows = are.count_is;
  each = λ y e h.
      let m = (are.members y e).0 h in
      record {
        to = (inside m.by m.there).right 0 e.to m.gives.to;
        behind = subst (λ (o : Option ℕ). MatchOption o ⊤ (λ x. x < length gives)) (sym m.gives.behind) (within m.by (inside m.by m.there) (slice_get m.by.right.items 1) refl);
      };
}
  where
    within : (p : Plain) → IsPlainInside count p → (o : Option ℕ) → slice_get p.right.items 1 ≡ o → MatchOption o ⊤ (λ x. x < length gives)
    within p i None e = tt
    within p i (Some x) e = let lt = i.right 1 x e in omega (arith, lt, size)

-- the tokens stand in the queue
pub selves_queued : (k : ℕ) (sets old : List BitSet) (q r : List ℕ) → k < length old → ((y t : ℕ) → HasAt old y t → ⊥) → q ≡ [] → GainsTokens (Selves k) old sets → ((y : ℕ) → Contains r y ↔ (Contains q y ⊎ ((0 < y) × (y ≤ k)))) → Queued sets r
selves_queued k sets old q r few none empty gains queue = record {
  inside = λ y h. ⊎_elim (λ w. absurd (none_in_nil y (subst (λ (l : List ℕ). Contains l y) empty w))) (λ w. let le = w.1 in let e = gains.count in omega (arith, le, few, e)) ((queue y).0 h);
  begun = λ y t h. ⊎_elim (λ w. absurd (none y t w)) (λ w. let a = w.1.0 in let b = w.1.1 in let e = w.1.2 in (queue y).1 (inr (omega (arith, a, e), omega (arith, b, e)))) ((gains.members y t).0 h);
}

pub selves_are : (k : ℕ) (sets old : List BitSet) → k < length old → ((y t : ℕ) → HasAt old y t → ⊥) → GainsTokens (Selves k) old sets → (y t : ℕ) → HasAt sets y t ↔ Selves k y t
selves_are k sets old few none gains y t = (
  (λ h. ⊎_elim (λ w. absurd (none y t w)) (λ w. w.1) ((gains.members y t).0 h)),
  (λ h. (gains.members y t).1 (inr ((let a = h.1 in let e = h.2 in omega (arith, a, e, few)), h))),
)

pub inside_at : (ps : List Plain) (k m n : ℕ) (p : Plain) → AreInside m ps → k < length ps → p ≡ get_or ps k p → n ≡ m → IsPlainInside n p
inside_at ps k m n p inside below is same = inside_of p m n same (inside p (k, below, sym is))

-- the sets of first tokens, written through a slice
pub firsts_of : (g : FlatGrammar) (width count len : ℕ) (items now new : List BitSet) → now ≡ items → length now ≡ len → length new ≡ length now → length items ≡ count → count ≡ symbol_count g → AreWide width items → ((n : ℕ) → AreWide n now → AreWide n new)
    → ((y t : ℕ) → HasAt new y t ↔ CanBeginWith g y t) → AreFirstSets g width (take len (new ++ drop (length new) items))
firsts_of g width count len items now new same size kept all count_is wide keeps members = subst (AreFirstSets g width) (sym (written items now new len same size kept)) (record {
  count = let e = ap (λ (l : List BitSet). length l) same in omega (arith, kept, e, all, count_is);
  wide = keeps width (subst (AreWide width) (sym same) wide);
  members = members;
})
