-- The set past a symbol, and sets that stay while more are numbered.
use Rattle.std.proofs.Common.{◌≡◌, ◌∙◌, sym, ap, refl, subst, ℕ, suc, ◌+◌, inl, inr, ⊎_elim, List, [], ◌∷◌, ◌++◌, length-append, slice_get, Some, arith}
use Rattle.std.specs.Global.{Vec}
use Rattle.std.specs.List.{Contains}
use Rattle.std.proofs.lemmas.List.Elements.{Contains-get_or}
use Rattle.std.proofs.lemmas.Option.{slice_get_within}
use Rattle.ts_core.specs.declared.flat.FlatGrammar.{FlatGrammar}
use Rattle.spec_tables.specs.Items.{Line, Item, Valid, start_item}
use Rattle.ts_bits.specs.declared.set.BitSet.{BitSet}
use Rattle.ts_bits.specs.Members.{Has}
use Rattle.ts_items.specs.declared.part.Part.{Part}
use Rattle.ts_items.specs.declared.part.Goto.{Goto}
use Rattle.ts_items.specs.declared.part.State.{State}
use Rattle.ts_items.specs.Productions.{right_of}
use Rattle.ts_items.specs.Parts.{line_of, In}
use Rattle.ts_items.specs.Rows.{FromOne}
use Rattle.ts_items.specs.Sets.{HasAt}
use Rattle.ts_items.specs.Closing.{Begun, Closed, SameItems, MovesPast, AreLineParts, Closes, AddsSets}
use Rattle.ts_items.specs.Numbers.{MovesTo, IsOrdered, IsKernelOf, AreStates, HasRows, AreGotos, AreOnce, IsDone, Collecting}
use Rattle.ts_items.proofs.ListLemmas.{one_at, at_grown, snoc_at, some_at}
use Rattle.ts_items.proofs.AskLemmas.{in_grown, part_grown, asked_more}
use Rattle.ts_items.proofs.ClosureLemmas.{next_valid}

pub same_both : (P Q R : Item → Type 0) → SameItems P Q → SameItems Q R → SameItems P R
same_both P Q R a b i = ((λ h. (b i).0 ((a i).0 h)), (λ h. (a i).1 ((b i).1 h)))

pub same_back : (P Q : Item → Type 0) → SameItems P Q → SameItems Q P
same_back P Q a i = ((a i).1, (a i).0)

-- the closed sets of two kernels with the same items are the same
begun_more : (g : FlatGrammar) (K L : Item → Type 0) → SameItems K L → (i : Item) → Begun g K i → Begun g L i
begun_more g K L same i b = record { symbol = b.symbol; number = b.number; production = b.production; line = b.line; begins = b.begins; asked = asked_more g K L (λ j k. (same j).0 k) b.symbol i.token b.asked }

pub closed_same : (g : FlatGrammar) (K L : Item → Type 0) → SameItems K L → SameItems (Closed g K) (Closed g L)
closed_same g K L same i = (
  (λ h. ⊎_elim (λ k. inl ((same i).0 k)) (λ b. inr (begun_more g K L same i b)) h),
  (λ h. ⊎_elim (λ k. inl ((same i).1 k)) (λ b. inr (begun_more g L K (same_back K L same) i b)) h),
)

pub moves_same : (g : FlatGrammar) (S T : Item → Type 0) (x : ℕ) → SameItems S T → SameItems (MovesPast g S x) (MovesPast g T x)
moves_same g S T x same i = (
  (λ m. record { from = m.from; there = (same m.from).0 m.there; before = m.before; is = m.is }),
  (λ m. record { from = m.from; there = (same m.from).1 m.there; before = m.before; is = m.is }),
)

-- ---- the set past a symbol

module _ (g : FlatGrammar) (lines : ℕ) (pool : List BitSet) (parts : List Part) (rows : List (Vec Part)) (over : HasRows g lines pool parts rows) where
  -- from which part one past a symbol comes
  from_of : (x : ℕ) (row : Vec Part) (ks : List Part) → slice_get rows x ≡ Some row → IsOrdered row.items ks → (p : Part) → Contains ks p → FromOne (MovesTo g) parts x p
  from_of x row ks at order p h = (over.moved x p).0 (record { row = row; at = at; has = (order.members p).0 h })

  past_of : (x : ℕ) (row : Vec Part) (ks : List Part) → slice_get rows x ≡ Some row → IsOrdered row.items ks → (q : Part) → Contains parts q → slice_get (right_of g (line_of q.line)) q.dot ≡ Some x → Contains ks (record q { dot = q.dot + 1 })
  past_of x row ks at order q h dot =
      let p : Part = record q { dot = q.dot + 1 } in
      let w = (over.moved x p).1 (record { by = q; there = h; gives = (dot, refl) }) in
      (order.members p).1 (subst (λ (v : Vec Part). Contains v.items p) (one_at rows x w.row row w.at at) w.has)

  pub row_moves : (x : ℕ) (row : Vec Part) (ks : List Part) → slice_get rows x ≡ Some row → IsOrdered row.items ks → SameItems (In pool ks) (MovesPast g (In pool parts) x)
  row_moves x row ks at order j = (to, from)
    where
      to : In pool ks j → MovesPast g (In pool parts) x j
      to h =
          let e = from_of x row ks at order h.part h.there in
          let q = e.by in
          let i : Item = record { line = line_of q.line; dot = q.dot; token = j.token } in
          let tokens : h.part.tokens ≡ q.tokens = ap (λ (p : Part). p.tokens) e.gives.1 in
          let line : j.line ≡ line_of q.line = h.is.line ∙ ap (λ (p : Part). line_of p.line) e.gives.1 in
          let dot : j.dot ≡ suc q.dot = let a = h.is.dot in let b = ap (λ (p : Part). p.dot) e.gives.1 in omega (arith, a, b) in
          record {
            from = i;
            there = record { part = q; there = e.there; is = record { line = refl; dot = refl; set = h.is.set; at = subst (λ (k : ℕ). slice_get pool k ≡ Some h.is.set) tokens h.is.at; has = h.is.has } };
            before = e.gives.0;
            is = λ k. record { line = line k; dot = dot k; token = j.token };
          }

      from : MovesPast g (In pool parts) x j → In pool ks j
      from m =
          let q = m.there.part in
          let is = m.there.is in
          let dot : slice_get (right_of g (line_of q.line)) q.dot ≡ Some x = subst (λ (d : ℕ). slice_get (right_of g (line_of q.line)) d ≡ Some x) is.dot (subst (λ (l : Line). slice_get (right_of g l) m.from.dot ≡ Some x) is.line m.before) in
          record {
            part = record q { dot = q.dot + 1 };
            there = past_of x row ks at order q m.there.there dot;
            is = record {
              line = ap (λ (i : Item). i.line) m.is ∙ is.line;
              dot = let a = ap (λ (i : Item). i.dot) m.is in let b = is.dot in omega (arith, a, b);
              set = is.set;
              at = is.at;
              has = subst (Has is.set) (ap (λ (i : Item). i.token) (sym m.is)) is.has;
            };
          }

  pub row_state : (x : ℕ) (row : Vec Part) (ks : List Part) → slice_get rows x ≡ Some row → IsOrdered row.items ks → ((row.items ≡ []) → ⊥) → IsKernelOf g lines pool ks
  row_state x row ks at order some =
      let one = some_of row.items some in
      record {
        read = x ∷ over.read;
        valid = next_valid g (In pool parts) (In pool ks) over.read x over.valid (row_moves x row ks at order);
        one = one.0;
        has = (order.members one.0).1 one.1;
        parts = λ p h.
            let e = from_of x row ks at order p h in
            let q = over.are e.by e.there in
            let line = ap (λ (r : Part). r.line) e.gives.1 in
            let tokens = ap (λ (r : Part). r.tokens) e.gives.1 in
            record {
              line = (let le = q.line in omega (arith, le, line));
              tokens = (let lt = q.tokens in omega (arith, lt, tokens));
              some = (q.some.0, subst (λ (k : ℕ). HasAt pool k q.some.0) (sym tokens) q.some.1);
            };
        kernel_is = record {
          dot = λ p h. let e = from_of x row ks at order p h in let d = ap (λ (r : Part). r.dot) e.gives.1 in inl (omega (arith, d));
          apart = λ p r hp hr line dot.
              let e = from_of x row ks at order p hp in
              let f = from_of x row ks at order r hr in
              let a = ap (λ (z : Part). z.dot) e.gives.1 in
              let b = ap (λ (z : Part). z.dot) f.gives.1 in
              let same = over.apart e.by f.by e.there f.there (ap (λ (z : Part). z.line) (sym e.gives.1) ∙ line ∙ ap (λ (z : Part). z.line) f.gives.1) (omega (arith, a, b, dot)) in
              e.gives.1 ∙ ap (λ (q : Part). let z : Part = record q { dot = q.dot + 1 } in z) same ∙ sym f.gives.1;
        };
        order = order.order;
      }
    where
      some_of : (xs : List Part) → ((xs ≡ []) → ⊥) → (p : Part) × Contains xs p
      some_of [] f = absurd (f refl)
      some_of (p ∷ ps) f = (p, Contains-get_or (p ∷ ps) 0 p (omega arith))

-- ---- sets that stay

pub closes_grown : (g : FlatGrammar) (lines : ℕ) (old new : List BitSet) (kernel parts : List Part) → AddsSets old new → AreLineParts lines old kernel → Closes g lines old kernel parts → Closes g lines new kernel parts
closes_grown g lines old new kernel parts grows are c = record {
  parts_are = λ q h. part_grown old new lines q grows (c.parts_are q h);
  items = same_both (In new parts) (In old parts) (Closed g (In new kernel)) (in_grown old new lines parts grows c.parts_are)
      (same_both (In old parts) (Closed g (In old kernel)) (Closed g (In new kernel)) c.items (closed_same g (In old kernel) (In new kernel) (same_back (In new kernel) (In old kernel) (in_grown old new lines kernel grows are))));
  apart = c.apart;
}

pub state_grown : (g : FlatGrammar) (lines : ℕ) (old new : List BitSet) (kernel : List Part) → AddsSets old new → IsKernelOf g lines old kernel → IsKernelOf g lines new kernel
state_grown g lines old new kernel grows s = record {
  read = s.read;
  valid = same_both (Closed g (In new kernel)) (Closed g (In old kernel)) (Valid g s.read) (closed_same g (In new kernel) (In old kernel) (in_grown old new lines kernel grows s.parts)) s.valid;
  one = s.one;
  has = s.has;
  parts = λ q h. part_grown old new lines q grows (s.parts q h);
  kernel_is = s.kernel_is;
  order = s.order;
}

pub gotos_grown : (g : FlatGrammar) (lines below : ℕ) (old new : List BitSet) (kernels more : List (Vec Part)) (parts : List Part) (gotos : List Goto) → AddsSets old new → AddsSets kernels more → AreStates g lines old kernels → AreLineParts lines old parts → AreGotos g old kernels parts below gotos
    → AreGotos g new more parts below gotos
gotos_grown g lines below old new kernels more parts gotos grows wider states are a = record {
  leads = λ e h.
      let w = a.leads e h in
      let k = w.0 in
      let s = states e.state k w.1 in (
        k,
        at_grown kernels more wider.more e.state k wider.is w.1,
        same_both (In new k.items) (In old k.items) (MovesPast g (In new parts) e.symbol) (in_grown old new lines k.items grows s.parts)
            (same_both (In old k.items) (MovesPast g (In old parts) e.symbol) (MovesPast g (In new parts) e.symbol) w.2 (moves_same g (In old parts) (In new parts) e.symbol (same_back (In new parts) (In old parts) (in_grown old new lines parts grows are)))),
      );
  under = a.under;
  all = λ x i lt h at. a.all x i lt ((in_grown old new lines parts grows are i).0 h) at;
  rise = a.rise;
}

pub collecting_more : (g : FlatGrammar) (lines count : ℕ) (old new : List BitSet) (kernels more : List (Vec Part)) (states : List State) (next : ℕ) (k : Vec Part) (s : State) → Collecting g lines count old kernels states next → AddsSets old new → AddsSets kernels more → AreStates g lines new more
    → AreOnce more → slice_get kernels next ≡ Some k → IsDone g lines count new more k s → Collecting g lines count new more (states ++ s ∷ []) (next + 1)
collecting_more g lines count old new kernels more states next k s c grows wider are once here one = record {
  first = c.first;
  first_at = at_grown kernels more wider.more 0 c.first wider.is c.first_at;
  start = same_both (In new c.first.items) (In old c.first.items) (λ i. i ≡ start_item) (in_grown old new lines c.first.items grows (c.are 0 c.first c.first_at).parts) c.start;
  are = are;
  once = once;
  size = omega (arith, length-append states (s ∷ []), c.size);
  done = λ n t j a b. ⊎_elim
      (λ w.
      let lt = slice_get_within states n t w in
      let lt' = slice_get_within kernels next k here in
      let was = some_at kernels n (let e = c.size in omega (arith, lt, lt', e)) in
      let same = one_at more n was.0 j (at_grown kernels more wider.more n was.0 wider.is was.1) b in
      let d = c.done n t was.0 w was.1 in
      let state = c.are n was.0 was.1 in
      subst (λ (v : Vec Part). IsDone g lines count new more v t) same (record {
        closes = closes_grown g lines old new was.0.items t.parts.items grows state.parts d.closes;
        gotos = gotos_grown g lines count old new kernels more t.parts.items t.gotos.items grows wider c.are d.closes.parts_are d.gotos;
      }))
      (λ w.
      let at : slice_get more n ≡ Some k = subst (λ (m : ℕ). slice_get more m ≡ Some k) (sym (w.0 ∙ c.size)) (at_grown kernels more wider.more next k wider.is here) in
      subst (λ (v : Vec Part). IsDone g lines count new more v t) (one_at more n k j at b) (subst (λ (v : State). IsDone g lines count new more k v) w.1 one))
      (snoc_at states s t n a);
}
