-- The token that is taken at a place, of what was found there.
use Rattle.std.proofs.Common.{◌≡◌, ◌∙◌, sym, ap, refl, subst, ℕ, suc, ◌≤◌, ◌<◌, ◌⊎◌, inl, inr, Bool, true, false, List, map, slice_get, Option, Some, None, ℤ, ◌<ℤ◌, arith}
use Rattle.std.specs.Option.{option_map, MatchOption}
use Rattle.std.specs.Cmp.{int_chain}
use Rattle.std.specs.Int.Signed.{<ℤ_irrefl}
use Rattle.std.proofs.lemmas.List.{length-map}
use Rattle.std.proofs.lemmas.Option.{slice_get_within, slice_get-map}
use Rattle.std.proofs.Math.Dec.{leb}
use Rattle.std.proofs.lemmas.Bool.Decides.{leb_tells}
use Rattle.ts_base.specs.Bytes.{Bytes}
use Rattle.ts_base.proofs.PlaceLemmas.{in_prefix}
use Rattle.ts_core.specs.declared.flat.FlatGrammar.{FlatGrammar}
use Rattle.ts_core.specs.declared.flat.TokenDef.{TokenDef}
use Rattle.ts_core.specs.declared.symbol.Symbol.{Symbol}
use Rattle.spec_lexing.specs.Words.{Regular, regular_of}
use Rattle.spec_lexing.specs.Matching.{MatchesRe, IsTokenOf, MatchesToken, plainly, as_keyword}
use Rattle.spec_lexing.specs.Lexing.{Candidate, Beats, IsBest}
use Rattle.spec_lexing.specs.Seen.{HasKeyword}
use Rattle.ts_automata.specs.Automata.{parts_of}
use Rattle.ts_lexer.specs.declared.rules.Kind.{Kind}
use Rattle.ts_lexer.specs.declared.scanned.Match.{Match}
use Rattle.ts_lexer.specs.declared.scanned.Progress.{Progress}
use Rattle.ts_lexer.specs.Rules.{kind_of, Over}
use Rattle.ts_lexer.specs.Judged.{Offered, IsTokenPart, Wanted, valid_token, word_token, IsWordPart, IsPicked, IsPick}
use Rattle.ts_lexer.specs.Scanned.{PartMatches, IsFirstPlain, Sofar, BeatsBy, IsBetterMatch}
use Rattle.ts_lexer.proofs.OverLemmas.{Lead, lead_decides, lead_then, three_ways}

-- ---- the order of matches

module _ (a b : Kind) (s t : Symbol) (m n : ℕ) where
  abbrev Decided : Type 0
  Decided = BeatsBy a s m b t n ⊎ ((BeatsBy a s m b t n → ⊥) × BeatsBy b t n a s m)

  less_not : a.prec <ℤ b.prec → BeatsBy a s m b t n → ⊥
  less_not lt (inl more) = <ℤ_irrefl (int_chain a.prec b.prec a.prec lt more)
  less_not lt (inr (e, _)) = <ℤ_irrefl (subst (λ (z : ℤ). z <ℤ b.prec) e lt)

  shorter_not : a.prec ≡ b.prec → m < n → BeatsBy a s m b t n → ⊥
  shorter_not e lt (inl more) = <ℤ_irrefl (subst (λ (z : ℤ). b.prec <ℤ z) e more)
  shorter_not e lt (inr (_, inl gt)) = omega arith
  shorter_not e lt (inr (_, inr (same, _))) = omega arith

  lead_not : a.prec ≡ b.prec → m ≡ n → (Lead a.literal s.0 b.literal t.0 → ⊥) → BeatsBy a s m b t n → ⊥
  lead_not e same lacks (inl more) = <ℤ_irrefl (subst (λ (z : ℤ). b.prec <ℤ z) e more)
  lead_not e same lacks (inr (_, inl gt)) = omega arith
  lead_not e same lacks (inr (_, inr (_, l))) = lacks l

  by_lead : a.prec ≡ b.prec → m ≡ n → Lead a.literal s.0 b.literal t.0 ⊎ ((Lead a.literal s.0 b.literal t.0 → ⊥) × Lead b.literal t.0 a.literal s.0) → Decided
  by_lead e same (inl l) = inl (inr (e, inr (same, l)))
  by_lead e same (inr (lacks, l)) = inr ((λ h. lead_not e same lacks h), inr (sym e, inr (sym same, l)))

  by_size : a.prec ≡ b.prec → ((leb m n ≡ true) × (m ≤ n)) ⊎ ((leb m n ≡ false) × (n < m)) → ((leb n m ≡ true) × (n ≤ m)) ⊎ ((leb n m ≡ false) × (m < n)) → Decided
  by_size e (inr (_, gt)) other = inl (inr (e, inl gt))
  by_size e (inl (_, le)) (inr (_, lt)) = inr ((λ h. shorter_not e lt h), inr (sym e, inl lt))
  by_size e (inl (_, le)) (inl (_, ge)) = by_lead e (omega arith) (lead_decides a.literal b.literal s.0 t.0)

  pub beats_decides : Decided
  beats_decides = by (three_ways a.prec b.prec)
    where
      by : (a.prec <ℤ b.prec) ⊎ ((a.prec ≡ b.prec) ⊎ (b.prec <ℤ a.prec)) → Decided
      by (inl lt) = inr ((λ h. less_not lt h), inl lt)
      by (inr (inl e)) = by_size e (leb_tells m n) (leb_tells n m)
      by (inr (inr gt)) = inl (inl gt)

pub beats_then : (a b c : Kind) (s t u : Symbol) (m n o : ℕ) → BeatsBy a s m b t n → BeatsBy b t n c u o → BeatsBy a s m c u o
beats_then a b c s t u m n o (inl p) (inl q) = inl (int_chain c.prec b.prec a.prec q p)
beats_then a b c s t u m n o (inl p) (inr (e, q)) = inl (subst (λ (z : ℤ). z <ℤ a.prec) e p)
beats_then a b c s t u m n o (inr (e, p)) (inl q) = inl (subst (λ (z : ℤ). c.prec <ℤ z) (sym e) q)
beats_then a b c s t u m n o (inr (e, inl p)) (inr (f, inl q)) = inr (e ∙ f, inl (omega arith))
beats_then a b c s t u m n o (inr (e, inl p)) (inr (f, inr (same, q))) = inr (e ∙ f, inl (omega arith))
beats_then a b c s t u m n o (inr (e, inr (same, p))) (inr (f, inl q)) = inr (e ∙ f, inl (omega arith))
beats_then a b c s t u m n o (inr (e, inr (same, p))) (inr (f, inr (also, q))) = inr (e ∙ f, inr (same ∙ also, lead_then a.literal b.literal c.literal s.0 t.0 u.0 p q))

-- ---- parts

pub part_of_token : (g : FlatGrammar) (k : ℕ) (t : TokenDef) → slice_get g.tokens k ≡ Some t → slice_get (parts_of g) k ≡ Some (regular_of t.re)
part_of_token g k t at =
    in_prefix (map (λ (x : TokenDef). regular_of x.re) g.tokens) (map regular_of g.separators) k
    (let w = slice_get_within g.tokens k t at in let e = length-map g.tokens (λ (x : TokenDef). regular_of x.re) in omega arith)
    ∙ slice_get-map (λ (x : TokenDef). regular_of x.re) g.tokens k ∙ ap (option_map (λ (x : TokenDef). regular_of x.re)) at

-- a match of a token's part is one of its expression
pub token_matches : (g : FlatGrammar) (rest : Bytes) (k n : ℕ) (t : TokenDef) → slice_get g.tokens k ≡ Some t → PartMatches g rest k n → MatchesRe (regular_of t.re) rest n
token_matches g rest k n t at m =
    let e : Some m.expression ≡ Some (regular_of t.re) = sym m.at ∙ part_of_token g k t at in
    let f : m.expression ≡ regular_of t.re = cc in
    subst (λ (p : Regular). MatchesRe p rest n) f m.matches

pub matches_token : (g : FlatGrammar) (rest : Bytes) (k n : ℕ) (t : TokenDef) → slice_get g.tokens k ≡ Some t → MatchesRe (regular_of t.re) rest n → PartMatches g rest k n
matches_token g rest k n t at m = record { expression = regular_of t.re; at = part_of_token g k t at; matches = m }

module _ (g : FlatGrammar) (valid : List Symbol) (first : Bool) (rest : Bytes) (bound : ℕ) (p : Progress) (sofar : Sofar g valid first (PartMatches g rest) bound p)
    (all : (k n : ℕ) → Wanted g valid k → PartMatches g rest k n → n ≤ bound) where
  -- a candidate is a token that is no keyword, or a keyword with the longest match of the word
  -- token
  data Sort (t : TokenDef) (s : Symbol) (n : ℕ) : Type 0 where
    plain : (k : ℕ) → Offered g valid first false k s t → PartMatches g rest k n → n ≤ bound → Sort t s n
    keyword : (k : ℕ) → Offered g valid first true k s t → (0 < p.word) × PartMatches g rest k p.word → n ≡ p.word → Sort t s n

  same_word : (k j : ℕ) (t : TokenDef) → IsWordPart g k → (s : Symbol) → g.word ≡ Some s → s.0 ≡ suc j → slice_get g.tokens j ≡ Some t → k ≡ j
  same_word k j t w s word number at =
      let e : Some w.symbol ≡ Some s = sym w.word ∙ word in
      let f : w.symbol ≡ s = cc in
      let h = ap (λ (x : Symbol). x.0) f in
      let i = w.is_token.number in
      omega arith

  sort : (t : TokenDef) (s : Symbol) (n : ℕ) → Candidate g valid first rest t s n → Sort t s n
  sort t s n c = by c.matches
    where
      here : IsTokenPart g c.is_token.place s t
      here = record { number = c.is_token.number; at = c.is_token.at }

      by : MatchesToken g t rest n → Sort t s n
      by (plainly no_keyword m) =
          let x = matches_token g rest c.is_token.place n t c.is_token.at m in
          plain c.is_token.place (record { is_valid = c.is_valid; is_token = here; immediate = c.immediate; kind = no_keyword }) x
          (all c.is_token.place n (valid_token s t c.is_valid here) x)
      by (as_keyword is_keyword word is_word longest m) =
          let has : HasKeyword g valid = record { symbol = s; token = t; is_valid = c.is_valid; is_token = c.is_token; keyword = is_keyword } in
          let j = is_word.is_token.place in
          let named : IsTokenPart g j is_word.symbol word = record { number = is_word.is_token.number; at = is_word.is_token.at } in
          let matched = matches_token g rest j n word is_word.is_token.at longest.matches in
          let low = all j n (word_token has is_word.symbol word is_word.word named) matched in
          let le = sofar.word_longest j n (record { symbol = is_word.symbol; token = word; word = is_word.word; is_token = named }) matched low in
          let some = longest.matches.some in
          let w = sofar.word_matches (omega arith) in
          let same = same_word w.0 j word w.1 is_word.symbol is_word.word is_word.is_token.number is_word.is_token.at in
          let ge = longest.longest p.word (token_matches g rest j p.word word is_word.is_token.at (subst (λ (i : ℕ). PartMatches g rest i p.word) same w.2)) in
          let size : n ≡ p.word = omega arith in
          keyword c.is_token.place (record { is_valid = c.is_valid; is_token = here; immediate = c.immediate; kind = is_keyword })
          ((omega arith), subst (λ (i : ℕ). PartMatches g rest c.is_token.place i) size (matches_token g rest c.is_token.place n t c.is_token.at m)) size

  plain_candidate : (k n : ℕ) (s : Symbol) (t : TokenDef) → Offered g valid first false k s t → PartMatches g rest k n → Candidate g valid first rest t s n
  plain_candidate k n s t o m = record {
    is_valid = o.is_valid;
    is_token = record { place = k; number = o.is_token.number; at = o.is_token.at };
    immediate = o.immediate;
    matches = plainly o.kind (token_matches g rest k n t o.is_token.at m);
  }

  keyword_candidate : (k : ℕ) (s : Symbol) (t : TokenDef) → Offered g valid first true k s t → (0 < p.word) × PartMatches g rest k p.word → Candidate g valid first rest t s p.word
  keyword_candidate k s t o m =
      let is_token : IsTokenOf g s t = record { place = k; number = o.is_token.number; at = o.is_token.at } in
      let has : HasKeyword g valid = record { symbol = s; token = t; is_valid = o.is_valid; is_token = is_token; keyword = o.kind } in
      let w = sofar.word_matches m.0 in
      record {
        is_valid = o.is_valid;
        is_token = is_token;
        immediate = o.immediate;
        matches = as_keyword o.kind w.1.token
            (record { symbol = w.1.symbol; word = w.1.word; is_token = record { place = w.0; number = w.1.is_token.number; at = w.1.is_token.at } })
            (record {
              matches = token_matches g rest w.0 p.word w.1.token w.1.is_token.at w.2;
              longest = λ n h.
                  let x = matches_token g rest w.0 n w.1.token w.1.is_token.at h in
                  sofar.word_longest w.0 n w.1 x (all w.0 n (word_token has w.1.symbol w.1.token w.1.word w.1.is_token) x);
            })
            (token_matches g rest k p.word t o.is_token.at m.1);
      }

  abbrev Words : ℕ → Type 0
  Words k = (0 < p.word) × PartMatches g rest k p.word

  pub none_chosen : p.plain ≡ None → p.keyword ≡ None → (t : TokenDef) (s : Symbol) (n : ℕ) → Candidate g valid first rest t s n → ⊥
  none_chosen no_plain no_keyword t s n c = by (sort t s n c)
    where
      by : Sort t s n → ⊥
      by (plain k o m le) = subst (λ (o : Option Match). MatchOption o ((k n : ℕ) (s : Symbol) (t : TokenDef) → Offered g valid first false k s t → PartMatches g rest k n → n ≤ bound → ⊥) (IsFirstPlain g valid first (PartMatches g rest) bound)) no_plain sofar.plain k n s t o m le
      by (keyword k o m e) = subst (λ (o : Option Symbol). IsPick g valid first true Words o) no_keyword sofar.keyword k s t o m

  module _ (m : Match) (x : IsFirstPlain g valid first (PartMatches g rest) bound m) where
    pub plain_best : p.keyword ≡ None → IsBest g valid first rest m.symbol m.size
    plain_best no_keyword = record {
      token = x.token;
      candidate = plain_candidate x.part m.size m.symbol x.token x.offered x.matches;
      best = λ t s n c. by t s n (sort t s n c);
    }
      where
        by : (t : TokenDef) (s : Symbol) (n : ℕ) → Sort t s n → Beats x.token m.symbol m.size t s n
        by t s n (plain k o h le) = x.best k n s t o h le
        by t s n (keyword k o h e) = absurd (subst (λ (o : Option Symbol). IsPick g valid first true Words o) no_keyword sofar.keyword k s t o h)

  module _ (s : Symbol) (y : IsPicked g valid first true Words s) where
    keyword_beats : (t : TokenDef) (u : Symbol) (n k : ℕ) → Offered g valid first true k u t → Words k → n ≡ p.word → Beats y.token s p.word t u n
    keyword_beats t u n k o h e = subst (λ (i : ℕ). Beats y.token s p.word t u i) (sym e) (by (y.best k u t o h))
      where
        by : Over (kind_of y.token) s (kind_of t) u → Beats y.token s p.word t u p.word
        by (inl more) = inl more
        by (inr (same, l)) = inr (same, inr (refl, l))

    pub keyword_best : p.plain ≡ None → IsBest g valid first rest s p.word
    keyword_best no_plain = record {
      token = y.token;
      candidate = keyword_candidate y.part s y.token y.offered y.ends;
      best = λ t u n c. by t u n (sort t u n c);
    }
      where
        by : (t : TokenDef) (u : Symbol) (n : ℕ) → Sort t u n → Beats y.token s p.word t u n
        by t u n (plain k o h le) = absurd (subst (λ (o : Option Match). MatchOption o ((k n : ℕ) (s : Symbol) (t : TokenDef) → Offered g valid first false k s t → PartMatches g rest k n → n ≤ bound → ⊥) (IsFirstPlain g valid first (PartMatches g rest) bound)) no_plain sofar.plain k n u t o h le)
        by t u n (keyword k o h e) = keyword_beats t u n k o h e

    pub both_best : (m r : Match) → (x : IsFirstPlain g valid first (PartMatches g rest) bound m) → IsBetterMatch (kind_of x.token) m (kind_of y.token) (record { symbol = s; size = p.word }) r → IsBest g valid first rest r.symbol r.size
    both_best m r x better = by (beats_decides (kind_of x.token) (kind_of y.token) m.symbol s m.size p.word)
      where
        by : BeatsBy (kind_of x.token) m.symbol m.size (kind_of y.token) s p.word ⊎ ((BeatsBy (kind_of x.token) m.symbol m.size (kind_of y.token) s p.word → ⊥) × BeatsBy (kind_of y.token) s p.word (kind_of x.token) m.symbol m.size) → IsBest g valid first rest r.symbol r.size
        by (inl over) = subst (λ (z : Match). IsBest g valid first rest z.symbol z.size) (sym (better.kept over)) (record {
          token = x.token;
          candidate = plain_candidate x.part m.size m.symbol x.token x.offered x.matches;
          best = λ t u n c. each t u n (sort t u n c);
        })
          where
            each : (t : TokenDef) (u : Symbol) (n : ℕ) → Sort t u n → Beats x.token m.symbol m.size t u n
            each t u n (plain k o h le) = x.best k n u t o h le
            each t u n (keyword k o h e) = beats_then (kind_of x.token) (kind_of y.token) (kind_of t) m.symbol s u m.size p.word n over (keyword_beats t u n k o h e)
        by (inr (lacks, under)) = subst (λ (z : Match). IsBest g valid first rest z.symbol z.size) (sym (better.changed lacks)) (record {
          token = y.token;
          candidate = keyword_candidate y.part s y.token y.offered y.ends;
          best = λ t u n c. each t u n (sort t u n c);
        })
          where
            each : (t : TokenDef) (u : Symbol) (n : ℕ) → Sort t u n → Beats y.token s p.word t u n
            each t u n (plain k o h le) = beats_then (kind_of y.token) (kind_of x.token) (kind_of t) s m.symbol u p.word m.size n under (x.best k n u t o h le)
            each t u n (keyword k o h e) = keyword_beats t u n k o h e
