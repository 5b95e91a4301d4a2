-- All that is to be known of a place, once its characters have been read.
use Rattle.std.proofs.Common.{◌≡◌, ◌∙◌, sym, ap, refl, subst, ℕ, ◌+◌, ◌≤◌, ◌<◌, ◌&&◌, Bool, true, false, List, [], ◌∷◌, ◌++◌, length, slice_get, Option, Some, None, length-append, arith}
use Rattle.std.specs.Char.{IsScalar, len_utf8}
use Rattle.std.specs.Str.{IsUtf8}
use Rattle.std.proofs.Math.Utf8.{encode, encodes, scalar, scalars}
use Rattle.std.proofs.lemmas.Str.{encode_same, length-encode, len_utf8_bounds}
use Rattle.std.specs.Option.{MatchOption}
use Rattle.ts_base.specs.Bytes.{Bytes}
use Rattle.ts_core.specs.declared.flat.FlatGrammar.{FlatGrammar}
use Rattle.ts_core.specs.declared.flat.TokenDef.{TokenDef}
use Rattle.ts_core.specs.declared.symbol.Symbol.{Symbol}
use Rattle.spec_lexing.specs.Words.{Regular, regular_of}
use Rattle.spec_lexing.specs.Matching.{MatchesRe, MatchesSeparator}
use Rattle.spec_lexing.specs.Lexing.{Candidate, IsBest}
use Rattle.spec_lexing.specs.Seen.{HasFront, one_character}
use Rattle.ts_automata.specs.Automata.{parts_of}
use Rattle.ts_lexer.specs.declared.scanned.Match.{Match}
use Rattle.ts_lexer.specs.declared.scanned.Progress.{Progress}
use Rattle.ts_lexer.specs.Judged.{Offered, Wanted, IsPick, IsSeparatorPart, Knows}
use Rattle.ts_lexer.specs.Judged as judged
use Rattle.ts_lexer.specs.declared.verdict.Verdict.{Verdict}
use Rattle.ts_lexer.specs.Scanned.{PartMatches, IsFirstPlain, IsStep, Sofar, IsScanned}
use Rattle.ts_lexer.specs.Runs.{Chosen, Reading, Running}
use Rattle.ts_lexer.proofs.ChooseLemmas.{none_chosen, plain_best, keyword_best, both_best}
use Rattle.ts_lexer.proofs.FrontLemmas.{part_of_separator}
use Rattle.ts_lexer.proofs.RunLemmas.{Laws, all_seen, reach_is, end_longest, end_far, step, dead_longest, far, read_more}

module _ (laws : Laws) (g : FlatGrammar) (valid : List Symbol) (first : Bool) (rest : Bytes) (R : List ℕ → Type 0) (tail : Bytes) (size : ℕ) (p : Progress)
    (run : Running R g valid first rest tail size p) (longest : (n : ℕ) → HasFront g valid rest n → n ≤ size) where
  all : (k n : ℕ) → Wanted g valid k → PartMatches g rest k n → n ≤ size
  all = all_seen laws g valid first rest tail size run.characters run.reading longest

  separator_of : (k n : ℕ) → IsSeparatorPart g k → PartMatches g rest k n → MatchesSeparator g rest n
  separator_of k n s x =
      let e : Some x.expression ≡ Some (regular_of s.separator) = sym x.at ∙ ap (λ (i : ℕ). slice_get (parts_of g) i) s.number ∙ part_of_separator g s.place s.separator s.at in
      let same : x.expression ≡ regular_of s.separator = cc in
      record { place = s.place; separator = s.separator; at = s.at; matches = subst (λ (q : Regular). MatchesRe q rest n) same x.matches }

  separators : (n : ℕ) → MatchesSeparator g rest n → n ≤ p.separator
  separators n x =
      let part : PartMatches g rest (length g.tokens + x.place) n = record { expression = regular_of x.separator; at = part_of_separator g x.place x.separator x.at; matches = x.matches } in
      run.sofar.separator_longest (length g.tokens + x.place) n (record { place = x.place; separator = x.separator; number = refl; at = x.at }) part
      (all (length g.tokens + x.place) n (judged.a_separator x.place x.separator refl x.at) part)

  best_is : (best : Option Match) (plain : Option Match) (keyword : Option Symbol) → Chosen g p best → p.plain ≡ plain → p.keyword ≡ keyword → MatchOption best ((t : TokenDef) (s : Symbol) (n : ℕ) → Candidate g valid first rest t s n → ⊥) (λ b. IsBest g valid first rest b.symbol b.size)
  best_is best None None c e f =
      subst (λ (o : Option Match). MatchOption o ((t : TokenDef) (s : Symbol) (n : ℕ) → Candidate g valid first rest t s n → ⊥) (λ b. IsBest g valid first rest b.symbol b.size)) (sym (c.plain f ∙ e))
      (none_chosen g valid first rest size p run.sofar all e f)
  best_is best (Some b) None c e f =
      let x = subst (λ (o : Option Match). MatchOption o ((k n : ℕ) (s : Symbol) (t : TokenDef) → Offered g valid first false k s t → PartMatches g rest k n → n ≤ size → ⊥) (IsFirstPlain g valid first (PartMatches g rest) size)) e run.sofar.plain in
      subst (λ (o : Option Match). MatchOption o ((t : TokenDef) (s : Symbol) (n : ℕ) → Candidate g valid first rest t s n → ⊥) (λ b. IsBest g valid first rest b.symbol b.size)) (sym (c.plain f ∙ e))
      (plain_best g valid first rest size p run.sofar all b x f)
  best_is best None (Some s) c e f =
      let y = subst (λ (o : Option Symbol). IsPick g valid first true (λ k. (0 < p.word) × PartMatches g rest k p.word) o) f run.sofar.keyword in
      subst (λ (o : Option Match). MatchOption o ((t : TokenDef) (s : Symbol) (n : ℕ) → Candidate g valid first rest t s n → ⊥) (λ b. IsBest g valid first rest b.symbol b.size)) (sym (c.keyword s f e))
      (keyword_best g valid first rest size p run.sofar all s y e)
  best_is best (Some b) (Some s) c e f =
      let x = subst (λ (o : Option Match). MatchOption o ((k n : ℕ) (s : Symbol) (t : TokenDef) → Offered g valid first false k s t → PartMatches g rest k n → n ≤ size → ⊥) (IsFirstPlain g valid first (PartMatches g rest) size)) e run.sofar.plain in
      let y = subst (λ (o : Option Symbol). IsPick g valid first true (λ k. (0 < p.word) × PartMatches g rest k p.word) o) f run.sofar.keyword in
      let r = c.both x.part y.part b s x.token y.token f e x.offered.is_token y.offered.is_token in
      subst (λ (o : Option Match). MatchOption o ((t : TokenDef) (s : Symbol) (n : ℕ) → Candidate g valid first rest t s n → ⊥) (λ b. IsBest g valid first rest b.symbol b.size)) (sym r.1)
      (both_best g valid first rest size p run.sofar all s y b r.0 x r.2)

  pub scanned : (best : Option Match) (far : ℕ) → Chosen g p best → far ≡ one_character tail → IsScanned g valid first rest (record { best = best; separator = p.separator; reach = size + far })
  scanned best far c is = record {
    best = best_is best p.plain p.keyword c refl refl;
    separator = λ lt. let w = run.sofar.separator_matches lt in separator_of w.0 p.separator w.1 w.2;
    longest = separators;
    reach = reach_is laws g valid first rest tail size run.characters run.reading longest far is;
  }

split_and : (a b : Bool) → a && b ≡ true → (a ≡ true) × (b ≡ true)
split_and true b e = (refl, e)
split_and false b e = cc

-- the character that a text begins with, and what follows it
pub scalar_of : (tail later : List ℕ) (c : ℕ) → IsUtf8 tail → tail ≡ encode c ++ later → IsScalar c × IsUtf8 later
scalar_of tail later c ([], (good, spells)) is =
    let e = ap (λ (l : List ℕ). length l) (spells ∙ is) in
    let f = length-append (encode c) later in
    let g = length-encode c in
    let b = len_utf8_bounds c in
    absurd (omega arith)
scalar_of tail later c (d ∷ ds, (good, spells)) is =
    let both = split_and (scalar d) (scalars ds) good in
    let same = encode_same d c (encodes ds) later (spells ∙ is) in
    (subst IsScalar same.0 both.0, (ds, (both.1, same.1)))

module _ (laws : Laws) (g : FlatGrammar) (valid : List Symbol) (first : Bool) (rest tail : Bytes) (size : ℕ) (u : List ℕ) (run : Reading g valid rest tail size u)
    (c : ℕ) (later : Bytes) (is : tail ≡ encode c ++ later) (len : ℕ) (len_is : len ≡ len_utf8 c) where
  both_of : IsScalar c × IsUtf8 later
  both_of = scalar_of tail later c run.utf8 is

  next_is : size + length (encode c) ≡ size + len
  next_is = ap (λ (n : ℕ). size + n) (length-encode c ∙ sym len_is)

  pub step_on : IsStep g rest size (size + len) (u ++ c ∷ [])
  step_on = subst (λ (n : ℕ). IsStep g rest size n (u ++ c ∷ [])) next_is (step laws g valid first rest tail size u run c later is both_of.0 both_of.1)

  pub read_on : (v : Verdict) → Knows g valid first (u ++ c ∷ []) v → v.lives ≡ true → Reading g valid rest later (size + len) (u ++ c ∷ [])
  read_on v knows alive = subst (λ (n : ℕ). Reading g valid rest later n (u ++ c ∷ [])) next_is (read_more laws g valid first rest tail size u run c later is both_of.0 both_of.1 v knows alive)

module _ (laws : Laws) (g : FlatGrammar) (valid : List Symbol) (first : Bool) (rest : Bytes) (R : List ℕ → Type 0) (tail : Bytes) (size : ℕ) (p : Progress)
    (run : Running R g valid first rest tail size p) where
  pub end_at : length tail ≡ 0 → (best : Option Match) → Chosen g p best → IsScanned g valid first rest (record { best = best; separator = p.separator; reach = size + 1 })
  end_at none best c =
      scanned laws g valid first rest R tail size p run (end_longest laws g valid first rest tail size run.characters run.reading none) best 1 c (end_far laws g valid first rest tail size run.characters run.reading tail none)

  module _ (c : ℕ) (later : Bytes) (is : tail ≡ encode c ++ later) (len : ℕ) (len_is : len ≡ len_utf8 c) where
    abbrev pub read : List ℕ
    read = run.characters ++ c ∷ []

    pub step_at : IsStep g rest size (size + len) read
    step_at = step_on laws g valid first rest tail size run.characters run.reading c later is len len_is

    pub dead_at : (v : Verdict) → Knows g valid first read v → v.lives ≡ false → (best : Option Match) → Chosen g p best → IsScanned g valid first rest (record { best = best; separator = p.separator; reach = size + len })
    dead_at v knows dead best chosen =
        let both = scalar_of tail later c run.reading.utf8 is in
        scanned laws g valid first rest R tail size p run (dead_longest laws g valid first rest tail size run.characters run.reading c later is both.0 both.1 v knows dead) best len chosen
        (len_is ∙ far laws g valid first rest tail size run.characters run.reading c later is both.0 both.1)

    pub more_at : (v : Verdict) (S : List ℕ → Type 0) (after : Progress) → Knows g valid first read v → v.lives ≡ true → S read → Sofar g valid first (PartMatches g rest) (size + len) after
        → Running S g valid first rest later (size + len) after
    more_at v S after knows alive reads sofar = record {
      characters = read;
      read = reads;
      reading = read_on laws g valid first rest tail size run.characters run.reading c later is len len_is v knows alive;
      sofar = sofar;
    }
