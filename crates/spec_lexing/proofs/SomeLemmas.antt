-- Lexing always comes to something: of the matches at a place one is taken, or there is none.
use Rattle.std.proofs.Common.{◌≡◌, ◌∙◌, sym, ap, subst, refl, ℕ, zero, suc, ◌≤◌, ◌<◌, ◌<ℤ◌, ℤ, ◌⊎◌, inl, inr, ⊎_elim, Bool, true, false, List, length, drop, length-drop, slice_get, Some, arith}
use Rattle.std.specs.Cmp.{int_chain, int_ranks}
use Rattle.std.specs.Ordering.{MatchOrdering, int_cmp}
use Rattle.std.specs.declared.cmp.Ordering.{Ordering}
use Rattle.std.specs.declared.cmp.Ordering.TheVariants.{Less, Equal, Greater}
use Rattle.std.proofs.lemmas.Bool.{cases_order, cases_lt}
use Rattle.std.proofs.lemmas.Option.{slice_get_within}
use Rattle.ts_base.specs.Bytes.{Bytes}
use Rattle.ts_core.specs.declared.flat.FlatGrammar.{FlatGrammar}
use Rattle.ts_core.specs.declared.flat.TokenDef.{TokenDef}
use Rattle.ts_core.specs.declared.symbol.Symbol.{Symbol}
use Rattle.spec_lexing.specs.Matching.{IsTokenOf, MatchesSeparator}
use Rattle.spec_lexing.specs.Lexing.{end_symbol, Candidate, Beats, IsBest, NoneMatches, Found, token, absent, behind, Lexes, takes, ends, passes, stops}
use Rattle.spec_lexing.proofs.BeginLemmas.{candidate_within, separator_within}

-- ---- the first of some

module _ {X : Type 0} where
  -- one of those with a number below this one
  abbrev pub Below : (ℕ → X → Type 0) → ℕ → X → Type 0
  Below Has zero x = ⊥
  Below Has (suc n) x = Below Has n x ⊎ Has n x

  below_at : (Has : ℕ → X → Type 0) (k : ℕ) (x : X) → Has k x → (n : ℕ) → k < n → Below Has n x
  below_at Has k x here zero lt = absurd (omega (arith, lt))
  below_at Has k x here (suc n) lt = by (cases_order k n) (λ less. below_at Has k x here n less)
    where
      by : (k ≡ n) ⊎ ((k < n) ⊎ (n < k)) → (k < n → Below Has n x) → Below Has n x ⊎ Has n x
      by (inl e) again = inr (subst (λ (m : ℕ). Has m x) e here)
      by (inr (inl less)) again = inl (again less)
      by (inr (inr more)) again = absurd (omega (arith, lt, more))

  below_is : (Has : ℕ → X → Type 0) (P : X → Type 0) → ((k : ℕ) (x : X) → Has k x → P x) → (n : ℕ) (x : X) → Below Has n x → P x
  below_is Has P each zero x w = absurd w
  below_is Has P each (suc n) x (inl w) = below_is Has P each n x w
  below_is Has P each (suc n) x (inr w) = each n x w

module _ {X : Type 0} (R : X → X → Type 0) (either : (x y : X) → R x y ⊎ R y x) (through : (x y z : X) → R x y → R y z → R x z) where
  -- where none of them goes before all, there is none
  abbrev pub HasFirst : (X → Type 0) → Type 0
  HasFirst P = ((x : X) → P x → ((y : X) → P y → R x y) → ⊥) → (x : X) → P x → ⊥

  both_first : (P Q : X → Type 0) → HasFirst P → HasFirst Q → HasFirst (λ (x : X). P x ⊎ Q x)
  both_first P Q has also none x w = by w
    where
      beside : (p : X) → P p → ((y : X) → P y → R p y) → (q : X) → Q q → ⊥
      beside p at first = also (λ q here top. ⊎_elim
          (λ r. none p (inl at) (λ y v. ⊎_elim (λ a. first y a) (λ b. through p q y r (top y b)) v))
          (λ r. none q (inr here) (λ y v. ⊎_elim (λ a. through q p y r (first y a)) (λ b. top y b) v))
          (either p q))

      no_left : (y : X) → P y → ⊥
      no_left = has (λ p at first. none p (inl at) (λ y v. ⊎_elim (λ a. first y a) (λ b. absurd (beside p at first y b)) v))

      no_right : (y : X) → Q y → ⊥
      no_right = also (λ q here top. none q (inr here) (λ y v. ⊎_elim (λ a. absurd (no_left y a)) (λ b. top y b) v))

      by : P x ⊎ Q x → ⊥
      by (inl a) = no_left x a
      by (inr b) = no_right x b

  below_first : (Has : ℕ → X → Type 0) → ((k : ℕ) → HasFirst (Has k)) → (n : ℕ) → HasFirst (Below Has n)
  below_first Has each zero none x w = w
  below_first Has each (suc n) none x w = both_first (Below Has n) (Has n) (below_first Has each n) (each n) none x w

-- ---- the order of matches

three_ways : (x y : ℤ) → (x <ℤ y) ⊎ ((x ≡ y) ⊎ (y <ℤ x))
three_ways x y = by (int_cmp x y) (int_ranks x y)
  where
    by : (o : Ordering) → MatchOrdering o (x <ℤ y) (x ≡ y) (y <ℤ x) → (x <ℤ y) ⊎ ((x ≡ y) ⊎ (y <ℤ x))
    by Less h = inl h
    by Equal h = inr (inl h)
    by Greater h = inr (inr h)

abbrev Leads : Bool → ℕ → Bool → ℕ → Type 0
Leads x k y j = ((x ≡ true) × (y ≡ false)) ⊎ ((x ≡ y) × (k ≤ j))

leads_number : (x y : Bool) (k j : ℕ) → x ≡ y → Leads x k y j ⊎ Leads y j x k
leads_number x y k j e = by (cases_lt k j)
  where
    by : (k < j) ⊎ (j ≤ k) → Leads x k y j ⊎ Leads y j x k
    by (inl lt) = inl (inr (e, omega (arith, lt)))
    by (inr le) = inr (inr (sym e, le))

leads_either : (x y : Bool) (k j : ℕ) → Leads x k y j ⊎ Leads y j x k
leads_either true true k j = leads_number true true k j refl
leads_either false false k j = leads_number false false k j refl
leads_either true false k j = inl (inl (refl, refl))
leads_either false true k j = inr (inl (refl, refl))

leads_through : (x y z : Bool) (k j i : ℕ) → Leads x k y j → Leads y j z i → Leads x k z i
leads_through x y z k j i (inl (a, b)) (inl (c, d)) = let e : false ≡ true = sym b ∙ c in cc
leads_through x y z k j i (inl (a, b)) (inr (c, d)) = inl (a, sym c ∙ b)
leads_through x y z k j i (inr (a, b)) (inl (c, d)) = inl (a ∙ c, d)
leads_through x y z k j i (inr (a, b)) (inr (c, d)) = inr (a ∙ c, omega (arith, b, d))

-- a token, its symbol, and with how many bytes it matches
record Bid : Type 0 where
  token : TokenDef
  symbol : Symbol
  size : ℕ

abbrev Before : Bid → Bid → Type 0
Before a b = Beats a.token a.symbol a.size b.token b.symbol b.size

before_either : (a b : Bid) → Before a b ⊎ Before b a
before_either a b = by (three_ways a.token.prec b.token.prec)
  where
    by_lead : a.token.prec ≡ b.token.prec → a.size ≡ b.size → Leads a.token.literal a.symbol.0 b.token.literal b.symbol.0 ⊎ Leads b.token.literal b.symbol.0 a.token.literal a.symbol.0 → Before a b ⊎ Before b a
    by_lead e same (inl l) = inl (inr (e, inr (same, l)))
    by_lead e same (inr l) = inr (inr (sym e, inr (sym same, l)))

    by_size : a.token.prec ≡ b.token.prec → (a.size ≡ b.size) ⊎ ((a.size < b.size) ⊎ (b.size < a.size)) → Before a b ⊎ Before b a
    by_size e (inl same) = by_lead e same (leads_either a.token.literal b.token.literal a.symbol.0 b.symbol.0)
    by_size e (inr (inl lt)) = inr (inr (sym e, inl lt))
    by_size e (inr (inr gt)) = inl (inr (e, inl gt))

    by : (a.token.prec <ℤ b.token.prec) ⊎ ((a.token.prec ≡ b.token.prec) ⊎ (b.token.prec <ℤ a.token.prec)) → Before a b ⊎ Before b a
    by (inl lt) = inr (inl lt)
    by (inr (inl e)) = by_size e (cases_order a.size b.size)
    by (inr (inr gt)) = inl (inl gt)

beats_through : (a b c : TokenDef) (s t u : Symbol) (m n o : ℕ) → Beats a s m b t n → Beats b t n c u o → Beats a s m c u o
beats_through a b c s t u m n o (inl p) (inl q) = inl (int_chain c.prec b.prec a.prec q p)
beats_through a b c s t u m n o (inl p) (inr (e, q)) = inl (subst (λ (z : ℤ). z <ℤ a.prec) e p)
beats_through a b c s t u m n o (inr (e, p)) (inl q) = inl (subst (λ (z : ℤ). c.prec <ℤ z) (sym e) q)
beats_through a b c s t u m n o (inr (e, inl p)) (inr (f, inl q)) = inr (e ∙ f, inl (omega (arith, p, q)))
beats_through a b c s t u m n o (inr (e, inl p)) (inr (f, inr (same, q))) = inr (e ∙ f, inl (omega (arith, p, same)))
beats_through a b c s t u m n o (inr (e, inr (same, p))) (inr (f, inl q)) = inr (e ∙ f, inl (omega (arith, same, q)))
beats_through a b c s t u m n o (inr (e, inr (same, p))) (inr (f, inr (also, q))) = inr (e ∙ f, inr (same ∙ also, leads_through a.literal b.literal c.literal s.0 t.0 u.0 p q))

before_through : (a b c : Bid) → Before a b → Before b c → Before a c
before_through a b c p q = beats_through a.token b.token c.token a.symbol b.symbol c.symbol a.size b.size c.size p q

same_def : (s t : TokenDef) → ◌≡◌ {A = _} (Some s) (Some t) → s ≡ t
same_def s t e = cc

-- ---- one is taken, or there is none

module _ (g : FlatGrammar) (valid : List Symbol) (first : Bool) (rest : Bytes) where
  -- the token of this place matches with so many bytes
  record Matches (place size : ℕ) (b : Bid) : Type 0 where
    number : b.symbol.0 ≡ suc place
    long : b.size ≡ size
    candidate : Candidate g valid first rest b.token b.symbol b.size

  token_at : (place : ℕ) (t : TokenDef) (s : Symbol) → IsTokenOf g s t → s.0 ≡ suc place → slice_get g.tokens place ≡ Some t
  token_at place t s is e = let n = is.number in let same : is.place ≡ place = omega (arith, n, e) in subst (λ (k : ℕ). slice_get g.tokens k ≡ Some t) same is.at

  one_match : (place size : ℕ) (a b : Bid) → Matches place size a → Matches place size b → Before a b
  one_match place size a b x y =
      let same : a.token ≡ b.token = same_def a.token b.token (sym (token_at place a.token a.symbol x.candidate.is_token x.number) ∙ token_at place b.token b.symbol y.candidate.is_token y.number) in
      let k = x.number in
      let j = y.number in
      inr (ap (λ (t : TokenDef). t.prec) same, inr (x.long ∙ sym y.long, inr (ap (λ (t : TokenDef). t.literal) same, omega (arith, k, j))))

  abbrev OfPlace : ℕ → Bid → Type 0
  OfPlace place b = Below (Matches place) (suc (length rest)) b

  abbrev OfAny : Bid → Type 0
  OfAny b = Below OfPlace (length g.tokens) b

  any_first : HasFirst Before before_either before_through OfAny
  any_first = below_first Before before_either before_through OfPlace
      (λ place. below_first Before before_either before_through (Matches place) (λ size none x here. none x here (λ y there. one_match place size x y here there)) (suc (length rest)))
      (length g.tokens)

  any_of : (b : Bid) → Candidate g valid first rest b.token b.symbol b.size → OfAny b
  any_of b c =
      let is = c.is_token in
      let w = candidate_within g valid first rest b.token b.symbol b.size c in
      let le = w.1 in
      below_at OfPlace is.place b (below_at (Matches is.place) b.size b (record { number = is.number; long = refl; candidate = c }) (suc (length rest)) (omega (arith, le)))
      (length g.tokens) (slice_get_within g.tokens is.place b.token is.at)

  any_candidate : (b : Bid) → OfAny b → Candidate g valid first rest b.token b.symbol b.size
  any_candidate b w =
      below_is OfPlace (λ (x : Bid). Candidate g valid first rest x.token x.symbol x.size)
      (λ place x v. below_is (Matches place) (λ (y : Bid). Candidate g valid first rest y.token y.symbol y.size) (λ size y m. m.candidate) (suc (length rest)) x v)
      (length g.tokens) b w

  none_taken : ((s : Symbol) (n : ℕ) → IsBest g valid first rest s n → ⊥) → (t : TokenDef) (s : Symbol) (n : ℕ) → Candidate g valid first rest t s n → ⊥
  none_taken none t s n c = any_first no_first (record { token = t; symbol = s; size = n }) (any_of (record { token = t; symbol = s; size = n }) c)
    where
      no_first : (x : Bid) → OfAny x → ((y : Bid) → OfAny y → Before x y) → ⊥
      no_first x here before = none x.symbol x.size (record {
        token = x.token;
        candidate = any_candidate x here;
        best = λ other u m d. before (record { token = other; symbol = u; size = m }) (any_of (record { token = other; symbol = u; size = m }) d);
      })

-- ---- separators

abbrev Longer : ℕ → ℕ → Type 0
Longer m n = n ≤ m

longer_either : (m n : ℕ) → Longer m n ⊎ Longer n m
longer_either m n = by (cases_lt m n)
  where
    by : (m < n) ⊎ (n ≤ m) → Longer m n ⊎ Longer n m
    by (inl lt) = inr (omega (arith, lt))
    by (inr le) = inl le

module _ (g : FlatGrammar) (rest : Bytes) where
  record Separates (size n : ℕ) : Type 0 where
    long : n ≡ size
    separator : MatchesSeparator g rest n

  none_longest : ((n : ℕ) → MatchesSeparator g rest n → ((m : ℕ) → MatchesSeparator g rest m → m ≤ n) → ⊥) → (n : ℕ) → MatchesSeparator g rest n → ⊥
  none_longest none n s = below_first Longer longer_either (λ x y z p q. omega (arith, p, q)) Separates each (suc (length rest)) no_first n (among n s)
    where
      each : (size : ℕ) → HasFirst Longer longer_either (λ x y z p q. omega (arith, p, q)) (Separates size)
      each size lacks x here = lacks x here (λ y there. let a = here.long in let b = there.long in omega (arith, a, b))

      among : (m : ℕ) → MatchesSeparator g rest m → Below Separates (suc (length rest)) m
      among m t = let w = separator_within g rest m t in let le = w.1 in below_at Separates m m (record { long = refl; separator = t }) (suc (length rest)) (omega (arith, le))

      no_first : (x : ℕ) → Below Separates (suc (length rest)) x → ((y : ℕ) → Below Separates (suc (length rest)) y → Longer x y) → ⊥
      no_first x here before = none x (below_is Separates (MatchesSeparator g rest) (λ size m v. v.separator) (suc (length rest)) x here) (λ m t. before m (among m t))

-- ---- something is seen

module _ (g : FlatGrammar) (valid : List Symbol) where
  pub some_found : (k : ℕ) (first : Bool) (rest : Bytes) → length rest < k → ((f : Found) → Lexes g valid first rest f → ⊥) → ⊥
  some_found zero first rest lt none = omega (arith, lt)
  some_found (suc k) first rest lt none = here (λ other less lacks. some_found k false other less lacks)
    where
      nothing : NoneMatches g valid first rest
      nothing = record {
        tokens = none_taken g valid first rest (λ s n best. none (token s 0 n) (takes first rest s n best));
        end = λ e is. none (token end_symbol 0 0) (subst (λ (r : Bytes). Lexes g valid first r (token end_symbol 0 0)) (sym e) (ends first is));
      }

      here : ((other : Bytes) → length other < k → ((f : Found) → Lexes g valid false other f → ⊥) → ⊥) → ⊥
      here again = none (absent 0) (stops first rest nothing (none_longest g rest (λ n s longest.
          let w = separator_within g rest n s in
          let some = w.0 in
          let le = w.1 in
          let l = length-drop n rest in
          again (drop n rest) (omega (arith, lt, some, le, l)) (λ f deep. none (behind n f) (passes first rest n f (record { none = nothing; separator = s; longest = longest }) deep)))))
