-- What was found so far, with one character more.
use Rattle.std.proofs.Common.{◌≡◌, sym, refl, subst, ℕ, ◌≤◌, ◌<◌, ◌⊎◌, inl, inr, ⊎_elim, Bool, true, false, List, Option, Some, None, ◌↔◌, IsTrue, ℤ, ◌<ℤ◌, arith}
use Rattle.std.specs.Option.{MatchOption}
use Rattle.std.specs.Cmp.{int_chain}
use Rattle.std.proofs.Math.Dec.{leb}
use Rattle.std.proofs.lemmas.Bool.Decides.{leb_tells}
use Rattle.std.specs.Int.Signed.{<ℤ_irrefl}
use Rattle.ts_core.specs.declared.flat.FlatGrammar.{FlatGrammar}
use Rattle.ts_core.specs.declared.flat.TokenDef.{TokenDef}
use Rattle.ts_core.specs.declared.symbol.Symbol.{Symbol}
use Rattle.spec_lexing.specs.Lexing.{Beats}
use Rattle.ts_lexer.specs.declared.scanned.Match.{Match}
use Rattle.ts_lexer.specs.declared.scanned.Progress.{Progress}
use Rattle.ts_lexer.specs.declared.verdict.Verdict.{Verdict}
use Rattle.ts_lexer.specs.Rules.{kind_of, Over}
use Rattle.ts_lexer.specs.Judged.{Offered, IsTokenPart, IsPicked, IsPick, IsWordPart, IsSeparatorPart, JudgesParts}
use Rattle.ts_lexer.specs.Scanned.{IsFirstPlain, IsLonger, Sofar}
use Rattle.ts_lexer.proofs.OverLemmas.{three_ways}

-- at one length
same_length : (a b : TokenDef) (s t : Symbol) (n : ℕ) → Over (kind_of a) s (kind_of b) t → Beats a s n b t n
same_length a b s t n (inl more) = inl more
same_length a b s t n (inr (e, h)) = inr (e, inr (refl, h))

-- at no greater length
up_to : (a b : TokenDef) (s t : Symbol) (n m : ℕ) → n ≤ m → Over (kind_of a) s (kind_of b) t → Beats a s m b t n
up_to a b s t n m le over = by (leb_tells m n) over
  where
    by : ((leb m n ≡ true) × (m ≤ n)) ⊎ ((leb m n ≡ false) × (n < m)) → Over (kind_of a) s (kind_of b) t → Beats a s m b t n
    by (inl (_, same)) o = let e : m ≡ n = omega arith in subst (λ (x : ℕ). Beats a s m b t x) e (same_length a b s t m o)
    by (inr _) (inl more) = inl more
    by (inr (_, lt)) (inr (e, _)) = inr (e, inl lt)

-- what `longer` says
pub record Longer (g : FlatGrammar) (old : Option Match) (pick : Option Symbol) (size : ℕ) (result : Option Match) : Type 0 where
  pub none : pick ≡ None → result ≡ old
  pub first : (s : Symbol) → pick ≡ Some s → old ≡ None → result ≡ Some (record { symbol = s; size = size })
  pub more : (j k : ℕ) (m : Match) (s : Symbol) (a b : TokenDef) → old ≡ Some m → pick ≡ Some s → IsTokenPart g j m.symbol a → IsTokenPart g k s b
      → (n : Match) × (result ≡ Some n) × IsLonger a b m (record { symbol = s; size = size }) n

module _ (g : FlatGrammar) (valid : List Symbol) (first : Bool) (M : ℕ → ℕ → Type 0) (E : ℕ → Type 0) (bound next : ℕ) (rises : bound < next)
    (from : (k n : ℕ) → n ≤ next → M k n → (n ≤ bound) ⊎ E k) (now : (k : ℕ) → E k → M k next) where
  abbrev Plain : ℕ → Option Match → Type 0
  Plain b o = MatchOption o
      ((k n : ℕ) (s : Symbol) (t : TokenDef) → Offered g valid first false k s t → M k n → n ≤ b → ⊥)
      (IsFirstPlain g valid first M b)

  -- nothing new is taken
  plain_same : (old : Option Match) → IsPick g valid first false E None → Plain bound old → Plain next old
  plain_same None nothing h = λ k n s t o m le. ⊎_elim (λ low. h k n s t o m low) (λ e. nothing k s t o e) (from k n le m)
  plain_same (Some b) nothing h = record {
    part = h.part;
    token = h.token;
    offered = h.offered;
    matches = h.matches;
    within = (let w = h.within in omega arith);
    best = λ k n s t o m le. ⊎_elim (λ low. h.best k n s t o m low) (λ e. absurd (nothing k s t o e)) (from k n le m);
  }

  plain_first : (s : Symbol) → IsPicked g valid first false E s → Plain bound None → Plain next (Some (record { symbol = s; size = next }))
  plain_first s p h = record {
    part = p.part;
    token = p.token;
    offered = p.offered;
    matches = now p.part p.ends;
    within = omega arith;
    best = λ k n t other o m le. ⊎_elim (λ low. absurd (h k n t other o m low))
        (λ e. up_to p.token other s t n next le (p.best k t other o e)) (from k n le m);
  }

  -- the longer match is taken where its precedence is no lower
  plain_longer : (m : Match) (s : Symbol) → (x : IsFirstPlain g valid first M bound m) → (p : IsPicked g valid first false E s) → (p.token.prec <ℤ x.token.prec → ⊥)
      → IsFirstPlain g valid first M next (record { symbol = s; size = next })
  plain_longer m s x p lacks = record {
    part = p.part;
    token = p.token;
    offered = p.offered;
    matches = now p.part p.ends;
    within = omega arith;
    best = λ k n t other o h le. ⊎_elim (λ low. before n t other low (x.best k n t other o h low) (three_ways p.token.prec other.prec))
        (λ e. up_to p.token other s t n next le (p.best k t other o e)) (from k n le h);
  }
    where
      not_less : (other : TokenDef) → p.token.prec <ℤ other.prec → (other.prec <ℤ x.token.prec) ⊎ (x.token.prec ≡ other.prec) → ⊥
      not_less other lt (inl more) = lacks (int_chain p.token.prec other.prec x.token.prec lt more)
      not_less other lt (inr e) = lacks (subst (λ (z : ℤ). p.token.prec <ℤ z) (sym e) lt)

      order : (n : ℕ) (t : Symbol) (other : TokenDef) → Beats x.token m.symbol m.size other t n → (other.prec <ℤ x.token.prec) ⊎ (x.token.prec ≡ other.prec)
      order n t other (inl more) = inl more
      order n t other (inr (e, _)) = inr e

      before : (n : ℕ) (t : Symbol) (other : TokenDef) → n ≤ bound → Beats x.token m.symbol m.size other t n
          → (p.token.prec <ℤ other.prec) ⊎ ((p.token.prec ≡ other.prec) ⊎ (other.prec <ℤ p.token.prec)) → Beats p.token s next other t n
      before n t other low b (inl lt) = absurd (not_less other lt (order n t other b))
      before n t other low b (inr (inl e)) = inr (e, inl (omega arith))
      before n t other low b (inr (inr gt)) = inl gt

  -- the shorter match stays where its precedence is higher
  plain_stays : (m : Match) (s : Symbol) → (x : IsFirstPlain g valid first M bound m) → (p : IsPicked g valid first false E s) → p.token.prec <ℤ x.token.prec → IsFirstPlain g valid first M next m
  plain_stays m s x p lt = record {
    part = x.part;
    token = x.token;
    offered = x.offered;
    matches = x.matches;
    within = (let w = x.within in omega arith);
    best = λ k n t other o h le. ⊎_elim (λ low. x.best k n t other o h low) (λ e. inl (lower other t (p.best k t other o e))) (from k n le h);
  }
    where
      lower : (other : TokenDef) (t : Symbol) → Over (kind_of p.token) s (kind_of other) t → other.prec <ℤ x.token.prec
      lower other t (inl more) = int_chain other.prec p.token.prec x.token.prec more lt
      lower other t (inr (e, _)) = subst (λ (z : ℤ). z <ℤ x.token.prec) e lt

  more_not : (a b : ℤ) → (a ≡ b) ⊎ (b <ℤ a) → a <ℤ b → ⊥
  more_not a b (inl e) lt = <ℤ_irrefl (subst (λ (z : ℤ). z <ℤ b) e lt)
  more_not a b (inr gt) lt = <ℤ_irrefl (int_chain a b a lt gt)

  plain_which : (m : Match) (s : Symbol) (n : Match) → (h : IsFirstPlain g valid first M bound m) → (p : IsPicked g valid first false E s) → IsLonger h.token p.token m (record { symbol = s; size = next }) n
      → (p.token.prec <ℤ h.token.prec) ⊎ ((p.token.prec ≡ h.token.prec) ⊎ (h.token.prec <ℤ p.token.prec)) → IsFirstPlain g valid first M next n
  plain_which m s n h p r (inl lt) = subst (λ (x : Match). IsFirstPlain g valid first M next x) (sym (r.kept lt)) (plain_stays m s h p lt)
  plain_which m s n h p r (inr other) =
      let less = more_not p.token.prec h.token.prec other in
      subst (λ (x : Match). IsFirstPlain g valid first M next x) (sym (r.changed less)) (plain_longer m s h p less)

  plain_next : (old result : Option Match) (pick : Option Symbol) → Longer g old pick next result → IsPick g valid first false E pick → Plain bound old → Plain next result
  plain_next old result None l p h = subst (λ (o : Option Match). Plain next o) (sym (l.none refl)) (plain_same old p h)
  plain_next None result (Some s) l p h = subst (λ (o : Option Match). Plain next o) (sym (l.first s refl refl)) (plain_first s p h)
  plain_next (Some m) result (Some s) l p h =
      let r = l.more h.part p.part m s h.token p.token refl refl h.offered.is_token p.offered.is_token in
      subst (λ (o : Option Match). Plain next o) (sym r.1) (plain_which m s r.0 h p r.2 (three_ways p.token.prec h.token.prec))

  -- what `size_of` says
  pub record Sized (there : Bool) (old result : ℕ) : Type 0 where
    pub yes : there ≡ true → result ≡ next
    pub no : there ≡ false → result ≡ old

  -- the longest of one kind
  record LongestOf (P : ℕ → Type 0) (b size : ℕ) : Type 0 where
    pub matches : 0 < size → (k : ℕ) × P k × M k size
    pub within : size ≤ b
    pub longest : (k n : ℕ) → P k → M k n → n ≤ b → n ≤ size

  longest_next : (P : ℕ → Type 0) (there : Bool) (old result : ℕ) → Sized there old result → IsTrue there ↔ ((k : ℕ) × P k × E k) → LongestOf P bound old → LongestOf P next result
  longest_next P true old result s there h = subst (λ (n : ℕ). LongestOf P next n) (sym (s.yes refl)) (record {
    matches = λ _. let w = there.0 refl in (w.0, w.1, now w.0 w.2);
    within = omega arith;
    longest = λ k n _ _ le. le;
  })
  longest_next P false old result s there h = subst (λ (n : ℕ). LongestOf P next n) (sym (s.no refl)) (record {
    matches = h.matches;
    within = (let w = h.within in omega arith);
    longest = λ k n p m le. ⊎_elim (λ low. h.longest k n p m low) (λ e. absurd (let f : false ≡ true = there.1 (k, p, e) in cc)) (from k n le m);
  })

  pick_by : (F G : ℕ → Type 0) (pick : Option Symbol) → ((k : ℕ) → F k → G k) → ((k : ℕ) → G k → F k) → IsPick g valid first true F pick → IsPick g valid first true G pick
  pick_by F G None to back h = λ k s t o x. h k s t o (back k x)
  pick_by F G (Some p) to back h = record { part = h.part; token = h.token; offered = h.offered; ends = to h.part h.ends; best = λ k s t o x. h.best k s t o (back k x) }

  -- what `keyword_of` says
  pub record Kept (there : Bool) (fresh old result : Option Symbol) : Type 0 where
    pub yes : there ≡ true → result ≡ fresh
    pub no : there ≡ false → result ≡ old

  keyword_next : (there : Bool) (fresh old result : Option Symbol) (word size : ℕ) → Kept there fresh old result → Sized there word size
      → IsPick g valid first true E fresh → IsPick g valid first true (λ k. (0 < word) × M k word) old → IsPick g valid first true (λ k. (0 < size) × M k size) result
  keyword_next true fresh old result word size kept sized p h =
      subst (λ (o : Option Symbol). IsPick g valid first true (λ k. (0 < size) × M k size) o) (sym (kept.yes refl))
      (subst (λ (n : ℕ). IsPick g valid first true (λ k. (0 < n) × M k n) fresh) (sym (sized.yes refl))
      (pick_by E (λ k. (0 < next) × M k next) fresh (λ k e. ((omega arith), now k e))
      (λ k w. ⊎_elim (λ low. absurd (omega arith)) (λ e. e) (from k next (omega arith) w.1)) p))
  keyword_next false fresh old result word size kept sized p h =
      subst (λ (o : Option Symbol). IsPick g valid first true (λ k. (0 < size) × M k size) o) (sym (kept.no refl))
      (subst (λ (n : ℕ). IsPick g valid first true (λ k. (0 < n) × M k n) old) (sym (sized.no refl)) h)

  pub sofar_next : (L : ℕ → Type 0) (v : Verdict) (old : Progress) (plain : Option Match) (word : ℕ) (keyword : Option Symbol) (separator : ℕ)
      → JudgesParts g valid first E L v → Longer g old.plain v.plain next plain → Sized v.word old.word word → Kept v.word v.keyword old.keyword keyword → Sized v.separator old.separator separator
      → Sofar g valid first M bound old → Sofar g valid first M next (record { plain = plain; word = word; keyword = keyword; separator = separator })
  sofar_next L v old plain word keyword separator j longer sized kept parted h =
      let w = longest_next (IsWordPart g) v.word old.word word sized j.word (record { matches = h.word_matches; within = h.word_within; longest = h.word_longest }) in
      let s = longest_next (IsSeparatorPart g) v.separator old.separator separator parted j.separator (record { matches = h.separator_matches; within = h.separator_within; longest = h.separator_longest }) in
      record {
        plain = plain_next old.plain plain v.plain longer j.plain h.plain;
        word_matches = w.matches;
        word_within = w.within;
        word_longest = w.longest;
        keyword = keyword_next v.word v.keyword old.keyword keyword old.word word kept sized j.keyword h.keyword;
        separator_matches = s.matches;
        separator_within = s.within;
        separator_longest = s.longest;
      }

-- nothing was found in no bytes
pub sofar_none : (g : FlatGrammar) (valid : List Symbol) (first : Bool) (M : ℕ → ℕ → Type 0) → ((k n : ℕ) → M k n → 0 < n)
    → Sofar g valid first M 0 (record { plain = None; word = 0; keyword = None; separator = 0 })
sofar_none g valid first M some = record {
  plain = λ k n s t o m le. (let lt = some k n m in omega arith);
  word_matches = λ lt. absurd (omega arith);
  word_within = omega arith;
  word_longest = λ k n p m le. le;
  keyword = λ k s t o x. (let lt = x.0 in omega arith);
  separator_matches = λ lt. absurd (omega arith);
  separator_within = omega arith;
  separator_longest = λ k n p m le. le;
}
