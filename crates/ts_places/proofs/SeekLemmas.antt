-- The first of the keys that are sought, by heads and actions, one after another.
use Rattle.std.proofs.Common.{◌≡◌, ◌∙◌, sym, ap, refl, subst, ℕ, ◌+◌, ◌^◌, ◌<◌, ◌≤◌, ◌⊎◌, ◌↔◌, inl, inr, ⊎_elim, List, [], ◌∷◌, ◌++◌, length, take, get_or, Option, Some, None, arith}
use Rattle.std.specs.List.{Contains}
use Rattle.std.proofs.Math.Nat.{mul-le-mul_right}
use Rattle.std.proofs.lemmas.List.{take_more}
use Rattle.ts_core.specs.declared.flat.Production.{Production}
use Rattle.spec_graph.specs.declared.graph.Link.{Link}
use Rattle.ts_graph.specs.declared.view.GraphView.{GraphView}
use Rattle.ts_graph.specs.Ways.{TakesFilled, EndsBy, IsLatestEnd}
use Rattle.ts_table.specs.declared.view.ParseTable.{ParseTable}
use Rattle.ts_table.specs.Ranks.{unit_rank}
use Rattle.ts_reductions.specs.declared.batch.Batch.{Batch}
use Rattle.ts_reductions.specs.declared.setting.Wanted.{Wanted}
use Rattle.ts_reductions.specs.declared.top.Top.{Top}
use Rattle.ts_reductions.specs.Asking.{IsAsked, HasReduction, ByNumber, ByTops}
use Rattle.ts_reductions.specs.Lines.{HasProduction, IsWanted}
use Rattle.ts_places.specs.declared.seeking.Seek.{Seek}
use Rattle.ts_places.specs.declared.seeking.First.TheVariants.{Nothing, Is}
use Rattle.ts_places.specs.Turns.{turn_of, past, IsSooner}
use Rattle.ts_places.specs.Seeking.{batch_at, IsSought, Seeks, IsNext, IsFirst}

none_in : {X : Type 0} (x : X) → Contains [] x → ⊥
none_in x h = let low = h.1 in omega (arith, low)

one_taken : {X : Type 0} (all : List X) (i : ℕ) (x : X) → i < length all → x ≡ get_or all i x → take i all ++ x ∷ [] ≡ take (i + 1) all
one_taken {X = X} all i x low is = ap (λ (y : X). take i all ++ y ∷ []) is ∙ sym (take_more all i x low)

-- of keys of one rank, the one that begins later has the greater number
turn_up : (a b rank : ℕ) → a ≤ b → turn_of a rank ≤ turn_of b rank
turn_up a b rank low = let m = mul-le-mul_right (2 ^ 32) low in omega (arith, m)

module _ (t : ParseTable) (g : GraphView) (seek : Seek) where
  -- a key that is sought is one by a wider test
  sought_as : (A B : Top → ℕ → List Link → ℕ → Type 0) → ((k : Batch) (u : Top) (n : ℕ) (w : List Link) (b : ℕ) → A u n w b → IsAsked t g k u n w b → B u n w b)
      → (k : Batch) → IsSought t g seek A k → IsSought t g seek B k
  sought_as A B wider k s = record {
    top = s.top;
    number = s.number;
    way = s.way;
    b = s.b;
    means = wider k s.top s.number s.way s.b s.means s.asked;
    asked = s.asked;
    look_is = s.look_is;
    after = s.after;
  }

  pub seeks_none : (A : Top → ℕ → List Link → ℕ → Type 0) (old : Option Batch) → ((k : Batch) (u : Top) (n : ℕ) (w : List Link) (b : ℕ) → A u n w b → IsAsked t g k u n w b → ⊥) → Seeks t g seek A old old
  seeks_none A old none = record {
    more = omega arith;
    all = λ k s. absurd (none k s.top s.number s.way s.b s.means s.asked);
    each = λ k is. inl is;
  }

  pub seeks_as : (A B : Top → ℕ → List Link → ℕ → Type 0) (old new : Option Batch)
      → ((k : Batch) (u : Top) (n : ℕ) (w : List Link) (b : ℕ) → A u n w b → IsAsked t g k u n w b → B u n w b)
      → ((k : Batch) (u : Top) (n : ℕ) (w : List Link) (b : ℕ) → B u n w b → IsAsked t g k u n w b → A u n w b)
      → Seeks t g seek A old new → Seeks t g seek B old new
  seeks_as A B old new there back s = record {
    more = s.more;
    all = λ k h. s.all k (sought_as B A back k h);
    each = λ k is. ⊎_elim (λ e. inl e) (λ h. inr (sought_as A B there k h)) (s.each k is);
  }

  pub seeks_more : (A B C : Top → ℕ → List Link → ℕ → Type 0)
      → ((k : Batch) (u : Top) (n : ℕ) (w : List Link) (b : ℕ) → A u n w b → IsAsked t g k u n w b → C u n w b)
      → ((k : Batch) (u : Top) (n : ℕ) (w : List Link) (b : ℕ) → B u n w b → IsAsked t g k u n w b → C u n w b)
      → ((u : Top) (n : ℕ) (w : List Link) (b : ℕ) → C u n w b → A u n w b ⊎ B u n w b)
      → (old mid new : Option Batch) → Seeks t g seek A old mid → Seeks t g seek B mid new → Seeks t g seek C old new
  seeks_more A B C first second split old mid new a b = record {
    more = let x = a.more in let y = b.more in omega (arith, x, y);
    all = λ k h. by k h (split h.top h.number h.way h.b h.means);
    each = λ k is. ⊎_elim (λ e. ⊎_elim (λ f. inl f) (λ h. inr (sought_as A C first k h)) (a.each k e)) (λ h. inr (sought_as B C second k h)) (b.each k is);
  }
    where
      by : (k : Batch) → (h : IsSought t g seek C k) → A h.top h.number h.way h.b ⊎ B h.top h.number h.way h.b → turn_of k.begins k.rank < past new
      by k h (inl m) = let x = a.all k (record { top = h.top; number = h.number; way = h.way; b = h.b; means = m; asked = h.asked; look_is = h.look_is; after = h.after }) in let y = b.more in omega (arith, x, y)
      by k h (inr m) = b.all k (record { top = h.top; number = h.number; way = h.way; b = h.b; means = m; asked = h.asked; look_is = h.look_is; after = h.after })

  -- the first of all keys at the heads
  pub is_next : (tops : List Top) (new : Option Batch) → Seeks t g seek (ByTops tops) None new → IsNext t g seek tops new
  is_next tops new all = by new refl
    where
      none_some : (k : Batch) → None ≡ Some k → ⊥
      none_some k e = cc

      by : (o : Option Batch) → new ≡ o → IsNext t g seek tops o
      by None e = λ k s. let h = all.all k s in let z = ap past e in omega (arith, h, z)
      by (Some j) e = (
        ⊎_elim (λ f. absurd (none_some j f)) (λ s. s) (all.each j e),
        (λ k s. let h = all.all k s in let z = ap past e in omega (arith, h, z)),
      )

  -- ---- one reduction

  module _ (top : Top) (number : ℕ) (has : HasReduction t g top number) (left : ℕ) (p : Production) (is : HasProduction t number left p) (wanted : Wanted) (wants : IsWanted t left p wanted) where
    same_production : (k : Batch) (w : List Link) (c : ℕ) → (asked : IsAsked t g k top number w c) → (asked.left ≡ left) × (asked.production ≡ p)
    same_production k w c asked =
        let f : ◌≡◌ {A = Option (ℕ × Production)} (Some (asked.left, asked.production)) (Some (left, p)) = sym asked.is ∙ is in
        let both : ◌≡◌ {A = ℕ × Production} (asked.left, asked.production) (left, p) = cc in
        (ap (λ (x : ℕ × Production). x.0) both, ap (λ (x : ℕ × Production). x.1) both)

    own_asked : (k : Batch) (s : IsSought t g seek (ByNumber top number) k) → IsAsked t g k top number s.way s.b
    own_asked k s = subst (λ (m : ℕ). IsAsked t g k top m s.way s.b) s.means.1 (subst (λ (y : Top). IsAsked t g k y s.number s.way s.b) s.means.0 s.asked)

    own_rank : (k : Batch) → IsSought t g seek (ByNumber top number) k → k.rank ≡ wanted.rank
    own_rank k s =
        let asked = own_asked k s in
        sym asked.ranked ∙ ap (unit_rank t.grammar) (same_production k s.way s.b asked).0 ∙ sym wants.rank

    own_turn : (k : Batch) → IsSought t g seek (ByNumber top number) k → turn_of k.begins wanted.rank < seek.below
    own_turn k s = subst (λ (r : ℕ). turn_of k.begins r < seek.below) (own_rank k s) s.after

    -- no key of its rank is sought
    pub nothing_turn : ((begins : ℕ) → turn_of begins wanted.rank < seek.below → ⊥) → IsFirst t g seek top number Nothing
    nothing_turn none = λ k s. none k.begins (own_turn k s)

    pub no_turn : (old : Option Batch) → ((begins : ℕ) → turn_of begins wanted.rank < seek.below → ⊥) → Seeks t g seek (ByNumber top number) old old
    no_turn old none = record {
      more = omega arith;
      all = λ k s. absurd (none k.begins (own_turn k s));
      each = λ k e. inl e;
    }

    module _ (most : ℕ) (turns : (begins : ℕ) → (turn_of begins wanted.rank < seek.below) ↔ (begins ≤ most)) where
      -- each key that is sought begins where a way ends
      own_end : (k : Batch) → IsSought t g seek (ByNumber top number) k → EndsBy g.heads g.links top.head wanted.steps most k.begins
      own_end k s =
          let asked = own_asked k s in
          record {
            taken = s.way;
            below = s.b;
            takes = subst (λ (n : ℕ). TakesFilled g.links top.head n s.way s.b) (ap (λ (q : Production). length q.steps) (same_production k s.way s.b asked).1 ∙ sym wants.steps) asked.takes;
            at = asked.begins;
            low = (turns k.begins).0 (own_turn k s);
          }

      -- none of them comes before the one that was found
      pub none_first : (old : Option Batch) → turn_of most wanted.rank < past old → Seeks t g seek (ByNumber top number) old old
      none_first old late = record {
        more = omega arith;
        all = λ k s.
            let low = turn_up k.begins most wanted.rank ((turns k.begins).0 (own_turn k s)) in
            subst (λ (r : ℕ). turn_of k.begins r < past old) (sym (own_rank k s)) (omega (arith, late, low));
        each = λ k e. inl e;
      }

      pub nothing_end : ((place : ℕ) → EndsBy g.heads g.links top.head wanted.steps most place → ⊥) → IsFirst t g seek top number Nothing
      nothing_end none = λ k s. none k.begins (own_end k s)

      pub no_end : (old : Option Batch) → ((place : ℕ) → EndsBy g.heads g.links top.head wanted.steps most place → ⊥) → Seeks t g seek (ByNumber top number) old old
      no_end old none = record {
        more = omega arith;
        all = λ k s. absurd (none k.begins (own_end k s));
        each = λ k e. inl e;
      }

      -- the key of the latest end is sought
      end_sought : (place : ℕ) → IsLatestEnd g.heads g.links top.head wanted.steps most place → IsSought t g seek (ByNumber top number) (batch_at seek.look place wanted.rank)
      end_sought place latest = record {
        top = top;
        number = number;
        way = latest.ends.taken;
        b = latest.ends.below;
        means = (refl, refl);
        asked = record {
          head = has.head;
          at = has.at;
          acts = has.acts;
          left = left;
          production = p;
          is = is;
          ranked = sym wants.rank;
          takes = subst (λ (n : ℕ). TakesFilled g.links top.head n latest.ends.taken latest.ends.below) wants.steps latest.ends.takes;
          begins = latest.ends.at;
        };
        look_is = refl;
        after = (turns place).1 latest.ends.low;
      }

      -- the key of the latest end is the first of them
      pub latest_key : (place : ℕ) → IsLatestEnd g.heads g.links top.head wanted.steps most place → (old new : Option Batch) → IsSooner seek.below old (batch_at seek.look place wanted.rank) new → Seeks t g seek (ByNumber top number) old new
      latest_key place latest old new s = record {
        more = s.more;
        all = λ k h.
            let later = turn_up k.begins place wanted.rank (latest.latest k.begins (own_end k h)) in
            let own = s.own after in
            subst (λ (r : ℕ). turn_of k.begins r < past new) (sym (own_rank k h)) (omega (arith, later, own));
        each = λ k e. ⊎_elim (λ f. inl f) (λ r. inr (subst (λ (b : Batch). IsSought t g seek (ByNumber top number) b) (sym r.0) sought)) (s.each k e);
      }
        where
          after : turn_of place wanted.rank < seek.below
          after = (turns place).1 latest.ends.low

          sought : IsSought t g seek (ByNumber top number) (batch_at seek.look place wanted.rank)
          sought = end_sought place latest

      pub first_end : (place : ℕ) → IsLatestEnd g.heads g.links top.head wanted.steps most place → IsFirst t g seek top number (Is (batch_at seek.look place wanted.rank))
      first_end place latest = (
        end_sought place latest,
        λ k h. let later = turn_up k.begins place wanted.rank (latest.latest k.begins (own_end k h)) in subst (λ (r : ℕ). turn_of k.begins r ≤ turn_of place wanted.rank) (sym (own_rank k h)) later,
      )
