-- The items that are valid after a list of symbols are the closed set of a kernel.
use Rattle.std.proofs.Common.{◌≡◌, sym, refl, subst, ℕ, suc, inl, inr, List, [], ◌∷◌, slice_get, Some}
use Rattle.ts_core.specs.declared.flat.FlatGrammar.{FlatGrammar}
use Rattle.spec_tables.specs.Items.{Line, Item, line_steps, IsProductionOf, AsksFor, start_item, advanced, Valid, begun, asked, advanced_past}
use Rattle.ts_items.specs.Productions.{right_of}
use Rattle.ts_items.specs.Flow.{given, brought}
use Rattle.ts_items.specs.Closing.{AtDot, Behind, Asked, Closed, SameItems, MovesPast}
use Rattle.ts_items.proofs.ListLemmas.{head_is, tail_is}
use Rattle.ts_items.proofs.PlainLemmas.{dot_of, step_at, follow_to, follow_from}

-- the item that begins a production
abbrev pub first_item : ℕ → ℕ → Item
first_item n t = record { line = Some n; dot = 0; token = t }

of_fields : (j : Item) (n : ℕ) → j.line ≡ Some n → j.dot ≡ 0 → first_item n j.token ≡ j
of_fields j n l d = λ k. record { line = sym l k; dot = sym d k; token = j.token }

asks : (g : FlatGrammar) (i : Item) (x n t : ℕ) → AtDot g i x → IsProductionOf g x n → Behind g (slice_get (right_of g i.line) (suc i.dot)) i.token t → AsksFor g i (first_item n t)
asks g i x n t at is follows =
    let s = step_at (line_steps g i.line) i.dot x at in
    record {
      step = s.0;
      before = s.1;
      number = n;
      production = subst (λ (k : ℕ). IsProductionOf g k n) (sym s.2) is;
      line = refl;
      begins = refl;
      follows = follow_from g i t follows;
    }

-- what is asked for is valid
pub asked_valid : (g : FlatGrammar) (K : Item → Type 0) (read : List ℕ) → ((i : Item) → K i → Valid g read i) → (y t : ℕ) → Asked g K y t → (n : ℕ) → IsProductionOf g y n → Valid g read (first_item n t)
asked_valid g K read valid y t (given _ _ w) n is = asked read w.item (first_item n t) (valid w.item w.there) (asks g w.item y n t w.before is w.follows)
asked_valid g K read valid z u (brought y t _ _ s w) n is =
    asked read (first_item w.number t) (first_item n u) (asked_valid g K read valid y t s w.number w.production) (asks g (first_item w.number t) z n u w.first is w.follows)

pub closed_valid : (g : FlatGrammar) (K : Item → Type 0) (read : List ℕ) → ((i : Item) → K i → Valid g read i) → (j : Item) → Closed g K j → Valid g read j
closed_valid g K read valid j (inl k) = valid j k
closed_valid g K read valid j (inr b) = subst (Valid g read) (of_fields j b.number b.line b.begins) (asked_valid g K read valid b.symbol j.token b.asked b.number b.production)

-- a closed set has what its items ask for
asked_of : (g : FlatGrammar) (K : Item → Type 0) (i : Item) → Closed g K i → (x t : ℕ) → AtDot g i x → Behind g (slice_get (right_of g i.line) (suc i.dot)) i.token t → Asked g K x t
asked_of g K i (inl k) x t at follows = given x t (record { item = i; there = k; before = at; follows = follows })
asked_of g K i (inr b) x t at follows = brought b.symbol i.token x t b.asked (record {
  number = b.number;
  production = b.production;
  first = subst (λ (d : ℕ). slice_get (right_of g (Some b.number)) d ≡ Some x) b.begins (subst (λ (l : Line). slice_get (right_of g l) i.dot ≡ Some x) b.line at);
  follows = subst (λ (d : ℕ). Behind g (slice_get (right_of g (Some b.number)) (suc d)) i.token t) b.begins (subst (λ (l : Line). Behind g (slice_get (right_of g l) (suc i.dot)) i.token t) b.line follows);
})

pub closed_more : (g : FlatGrammar) (K : Item → Type 0) (i j : Item) → Closed g K i → AsksFor g i j → Closed g K j
closed_more g K i j c e = inr (record {
  symbol = e.step.symbol.0;
  number = e.number;
  production = e.production;
  line = e.line;
  begins = e.begins;
  asked = asked_of g K i c e.step.symbol.0 j.token (dot_of g i e.step e.before) (follow_to g i j.token e.follows);
})

-- the items that are valid after no symbols
pub first_valid : (g : FlatGrammar) (K : Item → Type 0) → SameItems K (λ i. i ≡ start_item) → SameItems (Closed g K) (Valid g [])
first_valid g K start j = (closed_valid g K [] (λ i k. subst (Valid g []) (sym ((start i).0 k)) begun) j, (λ v. to [] j v refl))
  where
    to : (path : List ℕ) (i : Item) → Valid g path i → path ≡ [] → Closed g K i
    to _ _ begun e = inl ((start start_item).1 refl)
    to _ j (asked path i _ v a) e = closed_more g K i j (to path i v e) a
    to _ _ (advanced_past path i step v b) e = absurd (let x : ◌≡◌ {A = List ℕ} (step.symbol.0 ∷ path) [] = e in cc)

-- the items that are valid after one symbol more
pub next_valid : (g : FlatGrammar) (S K : Item → Type 0) (read : List ℕ) (x : ℕ) → SameItems S (Valid g read) → SameItems K (MovesPast g S x) → SameItems (Closed g K) (Valid g (x ∷ read))
next_valid g S K read x valid moves j = (closed_valid g K (x ∷ read) from j, (λ v. to (x ∷ read) j v refl))
  where
    from : (i : Item) → K i → Valid g (x ∷ read) i
    from i k =
        let m = (moves i).0 k in
        let s = step_at (line_steps g m.from.line) m.from.dot x m.before in
        subst (Valid g (x ∷ read)) (sym m.is) (subst (λ (z : ℕ). Valid g (z ∷ read) (advanced m.from)) s.2 (advanced_past read m.from s.0 ((valid m.from).0 m.there) s.1))

    to : (path : List ℕ) (i : Item) → Valid g path i → path ≡ x ∷ read → Closed g K i
    to _ _ begun e = absurd (let z : ◌≡◌ {A = List ℕ} [] (x ∷ read) = e in cc)
    to _ j (asked path i _ v a) e = closed_more g K i j (to path i v e) a
    to _ _ (advanced_past path i step v b) e =
        let one : step.symbol.0 ≡ x = head_is step.symbol.0 x path read e in
        let rest : path ≡ read = tail_is step.symbol.0 x path read e in
        inl ((moves (advanced i)).1 (record {
          from = i;
          there = (valid i).1 (subst (λ (p : List ℕ). Valid g p i) rest v);
          before = subst (λ (z : ℕ). AtDot g i z) one (dot_of g i step b);
          is = refl;
        }))
