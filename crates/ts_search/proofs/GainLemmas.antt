-- Lists that have all elements of a kind but for what was left out.
use Rattle.std.proofs.Common.{◌≡◌, ◌∙◌, sym, ap, subst, ℕ, ◌+◌, ◌<◌, ◌≤◌, List, [], ◌∷◌, ◌++◌, length, ◌⊎◌, inl, inr, ⊎_elim, append_assoc, take, drop, get_or, Bool, true, false, ◌↔◌}
use Rattle.std.specs.List.{Contains}
use Rattle.std.proofs.lemmas.List.{append-nil, take_more, take_all, take-append-drop}
use Rattle.std.proofs.lemmas.List.Elements.{Contains-append_left, Contains-append_cases, Contains-push, Contains-push_cases}
use Rattle.ts_search.specs.Adding.{Adds, FindsMost, Gains, OfSome}
use Rattle.ts_search.proofs.PlaceLemmas.{none_in_nil}

pub not_both : (b : Bool) → b ≡ true → b ≡ false → ⊥
not_both b t f = let e : false ≡ true = sym f ∙ t in cc

-- what was left out stays left out
pub late : (was now : Bool) → now ≡ true → now ≡ false → was ≡ false
late was now t f = absurd (not_both now t f)

pub in_part : {X : Type 0} (n : ℕ) (xs : List X) (x : X) → Contains (take n xs) x → Contains xs x
in_part {X = X} n xs x h = subst (λ (l : List X). Contains l x) (take-append-drop n xs) (Contains-append_left (take n xs) (drop n xs) x h)

module _ {X : Type 0} where
  pub gains_exact : (P : X → Type 0) (w : Bool) (a b : List X) → Adds P a b → Gains P w w a b
  gains_exact P w a b p = record { more = p.more; is = p.is; only = p.only; earlier = λ e. e; added = λ e i h. p.added i h }

  pub gains_none : (P : X → Type 0) (u v : Bool) (a : List X) → (v ≡ false → u ≡ false) → (v ≡ false → (i : X) → P i → ⊥) → Gains P u v a a
  gains_none P u v a earlier none = record { more = []; is = sym (append-nil a); only = λ i h. absurd (none_in_nil i h); earlier = earlier; added = λ e i p. absurd (none e i p) }

  pub gains_empty : (P : X → Type 0) (w : Bool) (a : List X) → a ≡ [] → ((i : X) → P i → ⊥) → Gains P w w [] a
  gains_empty P w a e none = record { more = a; is = (λ k. a); only = λ i h. absurd (none_in_nil i (subst (λ (l : List X). Contains l i) e h)); earlier = λ f. f; added = λ f i p. absurd (none i p) }

  pub gains_cut : (P R : X → Type 0) (u v w : Bool) (a b : List X) → Gains P u v a b → w ≡ true → ((i : X) → P i → R i) → Gains R u w a b
  gains_cut P R u v w a b p cut to = record {
    more = p.more;
    is = p.is;
    only = λ i h. to i (p.only i h);
    earlier = late u w cut;
    added = λ e. absurd (not_both w cut e);
  }

  pub gains_both : (P Q R : X → Type 0) (u v w : Bool) (a b c : List X) → Gains P u v a b → Gains Q v w b c → ((i : X) → P i → R i) → ((i : X) → Q i → R i) → ((i : X) → R i → P i ⊎ Q i) → Gains R u w a c
  gains_both P Q R u v w a b c p q first second either = record {
    more = p.more ++ q.more;
    is = q.is ∙ ap (λ (l : List X). l ++ q.more) p.is ∙ append_assoc a p.more q.more;
    only = λ i h. ⊎_elim (λ n. first i (p.only i n)) (λ n. second i (q.only i n)) (Contains-append_cases p.more q.more i h);
    earlier = λ e. p.earlier (q.earlier e);
    added = λ e i r. ⊎_elim (λ n. subst (λ (l : List X). Contains l i) (sym q.is) (Contains-append_left b q.more i (p.added (q.earlier e) i n))) (λ n. q.added e i n) (either i r);
  }

  pub gains_same : (P Q : X → Type 0) (u v : Bool) (a b : List X) → Gains P u v a b → ((i : X) → P i → Q i) → ((i : X) → Q i → P i) → Gains Q u v a b
  gains_same P Q u v a b p to from = record { more = p.more; is = p.is; only = λ i h. to i (p.only i h); earlier = p.earlier; added = λ e i q. p.added e i (from i q) }

  -- from the empty list these are what is found
  pub gains_finds : (P : X → Type 0) (u v : Bool) (b : List X) → Gains P u v [] b → FindsMost P u v b
  gains_finds P u v b p = record { only = λ i h. p.only i (subst (λ (l : List X). Contains l i) p.is h); earlier = p.earlier; all = λ e i h. p.added e i h }

  pub finds_cut : (P R : X → Type 0) (u v w : Bool) (b : List X) → Gains P u v [] b → w ≡ true → ((i : X) → P i → R i) → FindsMost R u w b
  finds_cut P R u v w b p cut to = gains_finds R u w b (gains_cut P R u v w [] b p cut to)

  pub finds_exact : (P : X → Type 0) (w : Bool) (b : List X) → ((i : X) → Contains b i ↔ P i) → FindsMost P w w b
  finds_exact P w b are = record { only = λ i. (are i).0; earlier = λ e. e; all = λ e i. (are i).1 }

  pub finds_nothing : (P : X → Type 0) (w : Bool) (b : List X) → b ≡ [] → ((i : X) → P i → ⊥) → FindsMost P w w b
  finds_nothing P w b e none = record { only = λ i h. absurd (none_in_nil i (subst (λ (l : List X). Contains l i) e h)); earlier = λ f. f; all = λ f i p. absurd (none i p) }

  pub finds_same : (P Q : X → Type 0) (u v : Bool) (b : List X) → FindsMost P u v b → ((i : X) → P i → Q i) → ((i : X) → Q i → P i) → FindsMost Q u v b
  finds_same P Q u v b p to from = record { only = λ i h. to i (p.only i h); earlier = p.earlier; all = λ e i q. p.all e i (from i q) }

  -- the same elements in another list
  pub finds_each : (P : X → Type 0) (u v : Bool) (b c : List X) → FindsMost P u v b → ((i : X) → Contains c i ↔ Contains b i) → FindsMost P u v c
  finds_each P u v b c p each = record { only = λ i h. p.only i ((each i).0 h); earlier = p.earlier; all = λ e i q. (each i).1 (p.all e i q) }

  pub finds_later : (P : X → Type 0) (u v w : Bool) (b : List X) → FindsMost P u v b → (w ≡ false → v ≡ false) → FindsMost P w w b
  finds_later P u v w b p step = record { only = p.only; earlier = λ e. e; all = λ e. p.all (step e) }

-- one more of the elements that a loop goes over
module _ {X Y : Type 0} (S : Y → X → Type 0) where
  push_gain : (ys : List Y) (y : Y) (u v w : Bool) (a b c : List X) → Gains (OfSome S ys) u v a b → Gains (S y) v w b c → Gains (OfSome S (ys ++ y ∷ [])) u w a c
  push_gain ys y u v w a b c before one =
      gains_both (OfSome S ys) (S y) (OfSome S (ys ++ y ∷ [])) u v w a b c before one
      (λ i h. (h.0, Contains-append_left ys (y ∷ []) h.0 h.1, h.2))
      (λ i h. (y, Contains-push ys y, h))
      (λ i h. ⊎_elim (λ m. inl (h.0, m, h.2)) (λ e. inr (subst (λ (z : Y). S z i) (sym e) h.2)) (Contains-push_cases ys y h.0 h.1))

  pub gain_none : (w : Bool) (a : List X) → Gains (OfSome S []) w w a a
  gain_none w a = gains_none (OfSome S []) w w a (λ e. e) (λ e i h. none_in_nil h.0 h.1)

  pub gain_empty : (w : Bool) (a : List X) → a ≡ [] → Gains (OfSome S []) w w [] a
  gain_empty w a e = gains_empty (OfSome S []) w a e (λ i h. none_in_nil h.0 h.1)

  pub gain_more : (ys : List Y) (n : ℕ) (y : Y) (u v m w : Bool) (a b c : List X) → n < length ys → y ≡ get_or ys n y → m ≡ v → Gains (OfSome S (take n ys)) u v a b → Gains (S y) m w b c → Gains (OfSome S (take (n + 1) ys)) u w a c
  gain_more ys n y u v m w a b c below is same before one =
      let e : take (n + 1) ys ≡ take n ys ++ y ∷ [] = take_more ys n y below ∙ ap (λ (z : Y). take n ys ++ z ∷ []) (sym is) in
      subst (λ (l : List Y). Gains (OfSome S l) u w a c) (sym e) (push_gain (take n ys) y u v w a b c before (subst (λ (s : Bool). Gains (S y) s w b c) same one))

  pub gain_all : (ys : List Y) (n : ℕ) (u v : Bool) (a b : List X) → length ys ≤ n → Gains (OfSome S (take n ys)) u v a b → Gains (OfSome S ys) u v a b
  gain_all ys n u v a b past h = subst (λ (l : List Y). Gains (OfSome S l) u v a b) (take_all n ys past) h

  -- a loop that ends early
  pub gain_part : (ys : List Y) (n : ℕ) (u v w : Bool) (a b : List X) → Gains (OfSome S (take n ys)) u v a b → w ≡ true → Gains (OfSome S ys) u w a b
  gain_part ys n u v w a b h cut = gains_cut (OfSome S (take n ys)) (OfSome S ys) u v w a b h cut (λ i x. (x.0, in_part n ys x.0 x.1, x.2))
