-- The numbers stand for the sets of valid items.
use Rattle.std.proofs.Common.{◌≡◌, ◌∙◌, sym, ap, refl, subst, ℕ, zero, suc, ◌*◌, ◌^◌, ◌<◌, ◌≤◌, inl, ⊎_elim, List, [], ◌∷◌, length, slice_get, Option, Some, None, arith, ◌↔◌}
use Rattle.std.specs.Global.{Vec}
use Rattle.std.specs.List.{Contains}
use Rattle.std.proofs.lemmas.List.{length-map}
use Rattle.std.proofs.lemmas.Option.{slice_get_within}
use Rattle.ts_core.specs.declared.flat.FlatGrammar.{FlatGrammar}
use Rattle.spec_grammar.specs.Symbols.{all_productions, symbol_count}
use Rattle.spec_tables.specs.Items.{Line, Item, Valid, begun, asked, advanced_past}
use Rattle.ts_bits.specs.declared.set.BitSet.{BitSet}
use Rattle.ts_bits.specs.Members.{Has, IsWide}
use Rattle.ts_items.specs.declared.part.Part.{Part}
use Rattle.ts_items.specs.declared.part.Goto.{Goto}
use Rattle.ts_items.specs.declared.part.State.{State}
use Rattle.ts_items.specs.declared.part.Items.{Items}
use Rattle.ts_items.specs.declared.plain.Plain.{Plain}
use Rattle.ts_items.specs.declared.tables.Tables.{Tables}
use Rattle.ts_items.specs.Productions.{plain, right_of}
use Rattle.ts_items.specs.Parts.{line_of, In}
use Rattle.ts_items.specs.Sets.{HasAt}
use Rattle.ts_items.specs.Tables.{IsTables}
use Rattle.ts_items.specs.Edges.{AreFirstSets}
use Rattle.ts_items.specs.Closing.{AtDot, Begun, Closed, SameItems, AreLineParts, IsKernel, IsPool}
use Rattle.ts_items.specs.Numbers.{IsKernelOf, AreStates, AreOnce, IsDone, Collecting}
use Rattle.ts_items.specs.Collection.{most_states, HoldsItem, IsReachedBy, here, step, StandsFor, AreDifferent, AreTooManyStates}
use Rattle.ts_items.proofs.ListLemmas.{one_at, some_at}
use Rattle.ts_items.proofs.GainLemmas.{has_at}
use Rattle.ts_items.proofs.PlainLemmas.{dot_of}
use Rattle.ts_items.proofs.TableLemmas.{right_inside}
use Rattle.ts_items.proofs.OrderLemmas.{same_list}
use Rattle.ts_items.proofs.ClosureLemmas.{first_valid, next_valid}
use Rattle.ts_items.proofs.StateLemmas.{same_both, same_back}

-- a law of sets of tokens
abbrev pub SameWords : Type 0
SameWords = (n : ℕ) (a b : BitSet) → IsWide n a → IsWide n b → ((u : ℕ) → Has a u ↔ Has b u) → a.words.items ≡ b.words.items

-- ---- a set is known by its kernel

one_line : (a b : ℕ) → line_of a ≡ line_of b → a ≡ b
one_line zero zero e = refl
one_line zero (suc b) e = absurd (let f : ◌≡◌ {A = Option ℕ} None (Some b) = e in cc)
one_line (suc a) zero e = absurd (let f : ◌≡◌ {A = Option ℕ} (Some a) None = e in cc)
one_line (suc a) (suc b) e = let f : ◌≡◌ {A = Option ℕ} (Some a) (Some b) = e in let h : a ≡ b = cc in ap suc h

item_in : (pool : List BitSet) (k : List Part) (p : Part) (u : ℕ) → Contains k p → HasAt pool p.tokens u → In pool k (record { line = line_of p.line; dot = p.dot; token = u })
item_in pool k p u h has = record { part = p; there = h; is = record { line = refl; dot = refl; set = has.set; at = has.at; has = has.has } }

-- what an item of one kernel shows of the other
over : (pool : List BitSet) (k l : List Part) (p q : Part) (u : ℕ) → IsKernel l → ((i : Item) → In pool k i → In pool l i) → Contains k p → Contains l q → p.line ≡ q.line → p.dot ≡ q.dot → HasAt pool p.tokens u → HasAt pool q.tokens u
over pool k l p q u kernel to hp hq line dot has =
    let w = to (record { line = line_of p.line; dot = p.dot; token = u }) (item_in pool k p u hp has) in
    let same : w.part ≡ q = kernel.apart w.part q w.there hq (one_line w.part.line p.line (sym w.is.line) ∙ line) (sym w.is.dot ∙ dot) in
    subst (λ (z : Part). HasAt pool z.tokens u) same (record { set = w.is.set; at = w.is.at; has = w.is.has })

part_over : (law : SameWords) (width lines : ℕ) (pool : List BitSet) (k l : List Part) → IsPool width pool → AreLineParts lines pool k → AreLineParts lines pool l → IsKernel k → IsKernel l → SameItems (In pool k) (In pool l) → (p : Part) → Contains k p → Contains l p
part_over law width lines pool k l is ak al kk kl same p h =
    let some = (ak p h).some in
    let w = (same (record { line = line_of p.line; dot = p.dot; token = some.0 })).0 (item_in pool k p some.0 h some.1) in
    let q = w.part in
    let line : p.line ≡ q.line = one_line p.line q.line w.is.line in
    let dot : p.dot ≡ q.dot = w.is.dot in
    let s = some_at pool p.tokens (ak p h).tokens in
    let r = some_at pool q.tokens (al q w.there).tokens in
    let words = law width s.0 r.0 (is.wide p.tokens s.0 s.1) (is.wide q.tokens r.0 r.1) (λ u. (
      (λ a. (has_at pool q.tokens r.0 r.1 u).0 (over pool k l p q u kl (λ i. (same i).0) h w.there line dot ((has_at pool p.tokens s.0 s.1 u).1 a))),
      (λ b. (has_at pool p.tokens s.0 s.1 u).0 (over pool l k q p u kk (λ i. (same i).1) w.there h (sym line) (sym dot) ((has_at pool q.tokens r.0 r.1 u).1 b))),
    )) in
    let tokens : q.tokens ≡ p.tokens = is.one q.tokens p.tokens r.0 s.0 r.1 s.1 (sym words) in
    let whole : q ≡ p = λ j. record { line = sym line j; dot = sym dot j; tokens = tokens j } in
    subst (Contains l) whole w.there

-- an item of a kernel is no item that begins a production
kernel_items : (g : FlatGrammar) (pool : List BitSet) (k l : List Part) → IsKernel k → SameItems (Closed g (In pool k)) (Closed g (In pool l)) → (i : Item) → In pool k i → In pool l i
kernel_items g pool k l kk same i h = ⊎_elim (λ w. w) (λ b. absurd (apart b)) ((same i).0 (inl h))
  where
    apart : Begun g (In pool l) i → ⊥
    apart b = ⊎_elim (λ lt. let d = h.is.dot in let e = b.begins in omega (arith, lt, d, e))
        (λ z. let f : ◌≡◌ {A = Option ℕ} None (Some b.number) = sym (h.is.line ∙ ap line_of z) ∙ b.line in cc)
        (kk.dot h.part h.there)

pub kernels_tell : (law : SameWords) (g : FlatGrammar) (width lines : ℕ) (pool : List BitSet) (k l : List Part) → IsPool width pool → IsKernelOf g lines pool k → IsKernelOf g lines pool l → SameItems (Closed g (In pool k)) (Closed g (In pool l)) → k ≡ l
kernels_tell law g width lines pool k l is sk sl same =
    let one : SameItems (In pool k) (In pool l) = λ i. (kernel_items g pool k l sk.kernel_is same i, kernel_items g pool l k sl.kernel_is (same_back (Closed g (In pool k)) (Closed g (In pool l)) same) i) in
    same_list k l sk.order sl.order (λ p. (
      part_over law width lines pool k l is sk.parts sl.parts sk.kernel_is sl.kernel_is one p,
      part_over law width lines pool l k is sl.parts sk.parts sl.kernel_is sk.kernel_is (same_back (In pool k) (In pool l) one) p,
    ))

-- ---- too many

reads_of : (g : FlatGrammar) (lines : ℕ) (pool : List BitSet) (kernels : List (Vec Part)) → AreStates g lines pool kernels → List (List ℕ)
reads_of g lines pool [] are = []
reads_of g lines pool (k ∷ ks) are = (are 0 k refl).read ∷ reads_of g lines pool ks (λ n v at. are (suc n) v at)

record ReadAt (g : FlatGrammar) (lines : ℕ) (pool : List BitSet) (kernels : List (Vec Part)) (n : ℕ) (read : List ℕ) : Type 0 where
  kernel : Vec Part
  at : slice_get kernels n ≡ Some kernel
  state : IsKernelOf g lines pool kernel.items
  is : state.read ≡ read

read_at_of : (g : FlatGrammar) (lines : ℕ) (pool : List BitSet) (kernels : List (Vec Part)) (are : AreStates g lines pool kernels) (n : ℕ) (read : List ℕ) → slice_get (reads_of g lines pool kernels are) n ≡ Some read → ReadAt g lines pool kernels n read
unfolding reads_of
read_at_of g lines pool [] are n read h = absurd (let w = slice_get_within [] n read h in omega (arith, w))
read_at_of g lines pool (k ∷ ks) are zero read h = record { kernel = k; at = refl; state = are 0 k refl; is = (let e : Some (are 0 k refl).read ≡ Some read = h in cc) }
read_at_of g lines pool (k ∷ ks) are (suc n) read h =
    let r = read_at_of g lines pool ks (λ m v at. are (suc m) v at) n read h in
    record { kernel = r.kernel; at = r.at; state = r.state; is = r.is }

reads_length : (g : FlatGrammar) (lines : ℕ) (pool : List BitSet) (kernels : List (Vec Part)) (are : AreStates g lines pool kernels) → length (reads_of g lines pool kernels are) ≡ length kernels
unfolding reads_of
reads_length g lines pool [] are = refl
reads_length g lines pool (k ∷ ks) are = ap suc (reads_length g lines pool ks (λ n v at. are (suc n) v at))

pub are_too_many : (law : SameWords) (g : FlatGrammar) (width lines : ℕ) (pool : List BitSet) (kernels : List (Vec Part)) → IsPool width pool → AreStates g lines pool kernels → AreOnce kernels → most_states < length kernels → AreTooManyStates g
are_too_many law g width lines pool kernels is are once many = (reads_of g lines pool kernels are, different, let e = reads_length g lines pool kernels are in omega (arith, many, e))
  where
    valid_of : (n : ℕ) (read : List ℕ) → (r : ReadAt g lines pool kernels n read) → SameItems (Closed g (In pool r.kernel.items)) (Valid g read)
    valid_of n read r = subst (λ (w : List ℕ). SameItems (Closed g (In pool r.kernel.items)) (Valid g w)) r.is r.state.valid

    different : AreDifferent g (reads_of g lines pool kernels are)
    different = record {
      some = λ n read at.
          let r = read_at_of g lines pool kernels are n read at in
          let p = r.state.one in
          let some = (r.state.parts p r.state.has).some in
          let i : Item = record { line = line_of p.line; dot = p.dot; token = some.0 } in
          (i, (valid_of n read r i).0 (inl (item_in pool r.kernel.items p some.0 r.state.has some.1)));
      different = λ m n read other am an same.
          let r = read_at_of g lines pool kernels are m read am in
          let s = read_at_of g lines pool kernels are n other an in
          let both = same_both (Closed g (In pool r.kernel.items)) (Valid g read) (Closed g (In pool s.kernel.items)) (valid_of m read r)
          (same_both (Valid g read) (Valid g other) (Closed g (In pool s.kernel.items)) same (same_back (Closed g (In pool s.kernel.items)) (Valid g other) (valid_of n other s))) in
          once m n r.kernel s.kernel r.at s.at (kernels_tell law g width lines pool r.kernel.items s.kernel.items is r.state s.state both);
    }

-- ---- one to one

record Place (g : FlatGrammar) (items : Items) (read : List ℕ) : Type 0 where
  number : ℕ
  leads : IsReachedBy items read number
  state : State
  at : slice_get items.states.items number ≡ Some state
  valid : SameItems (In items.tokens.keys state.parts.items) (Valid g read)

module _ (law : SameWords) (g : FlatGrammar) (t : Tables) (tables : IsTables g t) (items : Items) (kernels : List (Vec Part)) (next : ℕ) (width : ℕ) (narrow : 64 * width < 2 ^ 64) (is_pool : IsPool width items.tokens.keys)
    (c : Collecting g (length t.productions.items) (symbol_count g) items.tokens.keys kernels items.states.items next) (past : length kernels ≤ next) (count : next ≤ length kernels) where
  -- a finished set with its kernel
  record Set (n : ℕ) (s : State) : Type 0 where
    kernel : Vec Part
    at : slice_get kernels n ≡ Some kernel
    state : IsKernelOf g (length t.productions.items) items.tokens.keys kernel.items
    done : IsDone g (length t.productions.items) (symbol_count g) items.tokens.keys kernels kernel s

  set_of : (n : ℕ) (s : State) → slice_get items.states.items n ≡ Some s → Set n s
  set_of n s at =
      let lt = slice_get_within items.states.items n s at in
      let k = some_at kernels n (let e = c.size in omega (arith, lt, e, count)) in
      record { kernel = k.0; at = k.1; state = c.are n k.0 k.1; done = c.done n s k.0 at k.1 }

  state_at : (n : ℕ) (k : Vec Part) → slice_get kernels n ≡ Some k → (s : State) × (slice_get items.states.items n ≡ Some s)
  state_at n k at = let lt = slice_get_within kernels n k at in some_at items.states.items n (let e = c.size in omega (arith, lt, e, past))

  -- the set at which a goto leads
  over_goto : (read : List ℕ) (n : ℕ) (s : State) → slice_get items.states.items n ≡ Some s → SameItems (In items.tokens.keys s.parts.items) (Valid g read) → (e : Goto) → Contains s.gotos.items e
      → (r : State) × (slice_get items.states.items e.state ≡ Some r) × SameItems (In items.tokens.keys r.parts.items) (Valid g (e.symbol ∷ read))
  over_goto read n s at valid e h =
      let set = set_of n s at in
      let w = set.done.gotos.leads e h in
      let r = state_at e.state w.0 w.1 in
      let d = c.done e.state r.0 w.0 r.1 w.1 in (
        r.0,
        r.1,
        same_both (In items.tokens.keys r.0.parts.items) (Closed g (In items.tokens.keys w.0.items)) (Valid g (e.symbol ∷ read)) d.closes.items
            (next_valid g (In items.tokens.keys s.parts.items) (In items.tokens.keys w.0.items) read e.symbol valid w.2),
      )

  first : (s : State) × (slice_get items.states.items 0 ≡ Some s) × SameItems (In items.tokens.keys s.parts.items) (Valid g [])
  first =
      let s = state_at 0 c.first c.first_at in
      let d = c.done 0 s.0 c.first s.1 c.first_at in
      (s.0, s.1, same_both (In items.tokens.keys s.0.parts.items) (Closed g (In items.tokens.keys c.first.items)) (Valid g []) d.closes.items (first_valid g (In items.tokens.keys c.first.items) c.start))

  led : (read : List ℕ) (n : ℕ) → IsReachedBy items read n → (s : State) × (slice_get items.states.items n ≡ Some s) × SameItems (In items.tokens.keys s.parts.items) (Valid g read)
  led _ _ here = first
  led _ _ (step read n symbol m before w) =
      let p = led read n before in
      let same = one_at items.states.items n w.0 p.0 w.1 p.1 in
      over_goto read n p.0 p.1 p.2 (record { symbol = symbol; state = m }) (subst (λ (s : State). Contains s.gotos.items (record { symbol = symbol; state = m })) same w.2)

  goes : (read : List ℕ) (i : Item) (x : ℕ) → Place g items read → Valid g read i → AtDot g i x → Place g items (x ∷ read)
  goes read i x p v at =
      let set = set_of p.number p.state p.at in
      let h = (p.valid i).1 v in
      let q = h.part in
      let lt = right_inside g t q.line q.dot x tables (set.done.closes.parts_are q h.there).line
      (subst (λ (d : ℕ). slice_get (right_of g (line_of q.line)) d ≡ Some x) h.is.dot (subst (λ (l : Line). slice_get (right_of g l) i.dot ≡ Some x) h.is.line at)) in
      let w = set.done.gotos.all x i lt h at in
      let e = w.0 in
      let r = over_goto read p.number p.state p.at p.valid e w.1 in
      let goto : Goto = record { symbol = x; state = e.state } in
      let same : e ≡ goto = λ k. record { symbol = w.2 k; state = e.state } in
      record {
        number = e.state;
        leads = step read p.number x e.state p.leads (p.state, p.at, subst (Contains p.state.gotos.items) same w.1);
        state = r.0;
        at = r.1;
        valid = subst (λ (z : ℕ). SameItems (In items.tokens.keys r.0.parts.items) (Valid g (z ∷ read))) w.2 r.2;
      }

  place : (read : List ℕ) (i : Item) → Valid g read i → Place g items read
  place _ _ begun = let f = first in record { number = 0; leads = here; state = f.0; at = f.1; valid = f.2 }
  place read _ (asked _ i _ v e) = place read i v
  place _ _ (advanced_past read i s v b) = goes read i s.symbol.0 (place read i v) v (dot_of g i s b)

  held : (n : ℕ) (s : State) → slice_get items.states.items n ≡ Some s → SameItems (HoldsItem items n) (In items.tokens.keys s.parts.items)
  held n s at i = ((λ h. subst (λ (r : State). In items.tokens.keys r.parts.items i) (one_at items.states.items n h.0 s h.1 at) h.2), (λ h. (s, at, h)))

  lines_are : length t.productions.items ≡ length (all_productions g)
  lines_are =
      let a = length-map {B = ℕ × List ℕ} t.productions.items (λ (p : Plain). (p.left, p.right.items)) in
      let b = ap (λ (l : List (ℕ × List ℕ)). length l) tables.plain in
      let d = length-map (all_productions g) plain in
      omega (arith, a, b, d)

  distinct : (m n : ℕ) → m < length items.states.items → n < length items.states.items → SameItems (HoldsItem items m) (HoldsItem items n) → m ≡ n
  distinct m n lm ln same =
      let r = some_at items.states.items m lm in
      let s = some_at items.states.items n ln in
      let a = set_of m r.0 r.1 in
      let b = set_of n s.0 s.1 in
      let both = same_both (Closed g (In items.tokens.keys a.kernel.items)) (HoldsItem items m) (Closed g (In items.tokens.keys b.kernel.items))
      (same_both (Closed g (In items.tokens.keys a.kernel.items)) (In items.tokens.keys r.0.parts.items) (HoldsItem items m) (same_back (In items.tokens.keys r.0.parts.items) (Closed g (In items.tokens.keys a.kernel.items)) a.done.closes.items) (same_back (HoldsItem items m) (In items.tokens.keys r.0.parts.items) (held m r.0 r.1)))
      (same_both (HoldsItem items m) (HoldsItem items n) (Closed g (In items.tokens.keys b.kernel.items)) same
      (same_both (HoldsItem items n) (In items.tokens.keys s.0.parts.items) (Closed g (In items.tokens.keys b.kernel.items)) (held n s.0 s.1) b.done.closes.items)) in
      c.once m n a.kernel b.kernel a.at b.at (kernels_tell law g width (length t.productions.items) items.tokens.keys a.kernel.items b.kernel.items is_pool a.state b.state both)

  reached : (n : ℕ) → n < length items.states.items → (read : List ℕ) × (i : Item) × IsReachedBy items read n × Valid g read i
  reached n lt =
      let s = some_at items.states.items n lt in
      let set = set_of n s.0 s.1 in
      let st = set.state in
      let p = st.one in
      let some = (st.parts p st.has).some in
      let i : Item = record { line = line_of p.line; dot = p.dot; token = some.0 } in
      let v = (st.valid i).0 (inl (item_in items.tokens.keys set.kernel.items p some.0 st.has some.1)) in
      let w = place st.read i v in
      let valid : SameItems (In items.tokens.keys s.0.parts.items) (Valid g st.read) = same_both (In items.tokens.keys s.0.parts.items) (Closed g (In items.tokens.keys set.kernel.items)) (Valid g st.read) set.done.closes.items st.valid in
      let same : SameItems (HoldsItem items w.number) (HoldsItem items n) = same_both (HoldsItem items w.number) (Valid g st.read) (HoldsItem items n)
      (same_both (HoldsItem items w.number) (In items.tokens.keys w.state.parts.items) (Valid g st.read) (held w.number w.state w.at) w.valid)
      (same_back (HoldsItem items n) (Valid g st.read) (same_both (HoldsItem items n) (In items.tokens.keys s.0.parts.items) (Valid g st.read) (held n s.0 s.1) valid)) in
      let one : w.number ≡ n = distinct w.number n (slice_get_within items.states.items w.number w.state w.at) lt same in
      (st.read, i, subst (IsReachedBy items st.read) one w.leads, v)

  pub stands_for : AreFirstSets g width items.firsts.items → length kernels ≤ most_states → StandsFor g items
  stands_for firsts few = record {
    complete = λ read i v. let p = place read i v in (p.number, p.leads);
    valid = λ read n l. let p = led read n l in same_both (HoldsItem items n) (In items.tokens.keys p.0.parts.items) (Valid g read) (held n p.0 p.1) p.2;
    reached = reached;
    distinct = distinct;
    laid_out = λ n s at.
        let set = set_of n s at in
        let closes = set.done.closes in
        record {
          parts = subst (λ (m : ℕ). AreLineParts m items.tokens.keys s.parts.items) lines_are closes.parts_are;
          apart = closes.apart set.state.kernel_is;
          rise = set.done.gotos.rise;
        };
    inside = λ n s e at h.
        let gotos = (set_of n s at).done.gotos in
        let w = gotos.leads e h in
        (gotos.under e h, let lt = slice_get_within kernels e.state w.0 w.1 in let size = c.size in omega (arith, lt, past, size));
    width = width;
    narrow = narrow;
    wide = is_pool.wide;
    firsts = firsts;
    few = let size = c.size in omega (arith, few, size, count);
  }
