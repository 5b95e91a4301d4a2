-- A text that has the same bytes where lexing looks is lexed the same.
use Rattle.std.proofs.Common.{◌≡◌, ◌∙◌, sym, ap, subst, refl, ℕ, suc, ◌+◌, ◌≤◌, ◌<◌, ◌⊎◌, inl, inr, ⊎_elim, Bool, true, false, List, [], ◌∷◌, ◌++◌, length, get_or, drop, max, slice_get, Some, None, append_assoc, length-append, arith}
use Rattle.std.proofs.Math.Nat.{le-max_left, le-max_right}
use Rattle.std.proofs.Math.Seq.{drop-cons}
use Rattle.std.proofs.Math.ListN.{drop_of_length-le}
use Rattle.std.proofs.lemmas.List.{append-nil}
use Rattle.std.proofs.lemmas.List.Elements.{Contains-append_right, Contains-push_cases}
use Rattle.std.specs.List.{Contains}
use Rattle.std.specs.Char.{IsScalar, len_utf8}
use Rattle.std.specs.Str.{IsUtf8}
use Rattle.std.proofs.Math.Utf8.{encode, encodes}
use Rattle.std.proofs.Math.Dec.{leb}
use Rattle.std.proofs.lemmas.Bool.Decides.{leb_tells}
use Rattle.std.proofs.lemmas.Str.{encode_same, length-encode, len_utf8_bounds, IsUtf8-drop, IsUtf8-nil}
use Rattle.ts_base.specs.Bytes.{Bytes}
use Rattle.ts_core.specs.declared.flat.FlatGrammar.{FlatGrammar}
use Rattle.ts_core.specs.declared.flat.TokenDef.{TokenDef}
use Rattle.ts_core.specs.declared.symbol.Symbol.{Symbol}
use Rattle.spec_lexing.specs.Words.{Regular, Front, regular_of}
use Rattle.spec_lexing.specs.Matching.{BeginsSpelled, MatchesRe, IsTokenOf, MatchesToken, plainly, as_keyword, MatchesSeparator}
use Rattle.spec_lexing.specs.Lexing.{end_symbol, Candidate, IsBest, NoneMatches, Passes, Found, token, Lexes, takes, ends, passes, stops}
use Rattle.spec_lexing.specs.Seen.{CanBegin, a_token, the_word, a_separator, HasFront, is_inner, one_character, IsReach, IsSeen, last, more, Agree}
use Rattle.spec_lexing.proofs.WordLemmas.{word_front}
use Rattle.spec_lexing.proofs.OneLemmas.{one_pass}
use Rattle.spec_lexing.proofs.CharacterLemmas.{Ways, on, within, ways, longer_by, encodes_append, scalar_of, first_of, one_character_is, inner_begins, not_inner}
use Rattle.spec_lexing.proofs.BeginLemmas.{begins_nothing, tail_is, agree_less, agree_back, agree_append, same_begins, agree_drop, can_prefix, one_character_some}
use Rattle.spec_lexing.proofs.WithinLemmas.{seen_reach, reach_some}

-- what follows a place of a text: characters, or the rest of one and more
pub data Ending (rest : Bytes) : Type 0 where
  whole : IsUtf8 rest → Ending rest
  inside : (b : ℕ) (bs : Bytes) → rest ≡ b ∷ bs → is_inner b ≡ true → Ending rest

pub ending : (text : Bytes) (place : ℕ) → IsUtf8 text → Ending (drop place text)
ending text place utf8 = by (leb_tells (length text) place)
  where
    on_byte : place < length text → (b : Bool) → is_inner (get_or text place 0) ≡ b → Ending (drop place text)
    on_byte lt true is = inside (get_or text place 0) (drop (suc place) text) (drop-cons text place 0 lt) is
    on_byte lt false is = whole (IsUtf8-drop text place utf8 ((omega arith), (λ _ low. not_inner (get_or text place 0) is low)))

    by : ((leb (length text) place ≡ true) × (length text ≤ place)) ⊎ ((leb (length text) place ≡ false) × (place < length text)) → Ending (drop place text)
    by (inl (_, le)) = whole (subst IsUtf8 (sym (drop_of_length-le text le)) IsUtf8-nil)
    by (inr (_, lt)) = on_byte lt (is_inner (get_or text place 0)) refl

tail_utf8 : (w rest tail : List ℕ) → IsUtf8 rest → rest ≡ encodes w ++ tail → IsUtf8 tail
tail_utf8 [] rest tail utf8 is = subst IsUtf8 is utf8
tail_utf8 (c ∷ w) rest tail utf8 is = tail_utf8 w (encodes w ++ tail) tail (scalar_of rest (encodes w ++ tail) c utf8 (is ∙ append_assoc (encode c) (encodes w) tail)).1 refl

-- nothing begins inside a character
inside_none : (rest : Bytes) (b : ℕ) (bs : Bytes) (w : List ℕ) (n : ℕ) → rest ≡ b ∷ bs → is_inner b ≡ true → BeginsSpelled rest w n → n ≡ 0
inside_none rest b bs [] n is inner x = x.size
inside_none rest b bs (c ∷ w) n is inner x =
    absurd (inner_begins b c bs (encodes w ++ x.tail) inner (x.scalar c (0, (omega arith), refl)) (sym is ∙ x.is ∙ append_assoc (encode c) (encodes w) x.tail))

pub ending_drop : (rest : Bytes) (w : List ℕ) (n : ℕ) → Ending rest → BeginsSpelled rest w n → 0 < n → Ending (drop n rest)
ending_drop rest w n (whole utf8) x above = whole (subst IsUtf8 (sym (tail_is rest w n x)) (tail_utf8 w rest x.tail utf8 x.is))
ending_drop rest w n (inside b bs is inner) x above = let e = inside_none rest b bs w n is inner x in absurd (omega arith)

-- a text that begins with a character does not agree with what begins inside one
inside_apart : (b c : ℕ) (other tail : Bytes) → is_inner b ≡ true → IsScalar c → other ≡ encode c ++ tail → Some b ≡ slice_get other 0 → ⊥
inside_apart b c [] tail inner scalar_c is same = cc
inside_apart b c (y ∷ ys) tail inner scalar_c is same =
    let e : b ≡ y = cc in
    inner_begins b c ys tail inner scalar_c (ap (λ (z : ℕ). z ∷ ys) e ∙ is)

-- texts that agree on one character begin with the same one
next_same : (tail other : Bytes) (c : ℕ) (later : Bytes) → IsUtf8 tail → Agree (one_character tail) tail other → other ≡ encode c ++ later → (t : Bytes) × (tail ≡ encode c ++ t)
next_same [] other c later utf8 agree is = absurd (some other is (agree 0 (omega arith)))
  where
    some : (o : Bytes) → o ≡ encode c ++ later → None ≡ slice_get o 0 → ⊥
    some [] e none = let a = ap (λ (l : List ℕ). length l) e in let b = length-append (encode c) later in let d = length-encode c in let l = len_utf8_bounds c in omega arith
    some (y ∷ ys) e none = cc
next_same (y ∷ ys) other c later utf8 agree is =
    let f = first_of (y ∷ ys) utf8 (omega arith) in
    let n : one_character (encode f.0 ++ f.1) ≡ len_utf8 f.0 = one_character_is f.0 f.1 f.2 f.3 in
    let far : one_character (y ∷ ys) ≡ length (encode f.0) = ap one_character f.4 ∙ n ∙ sym (length-encode f.0) in
    let there : Agree (length (encode f.0)) (encode f.0 ++ f.1) other = subst (λ (l : List ℕ). Agree (length (encode f.0)) l other) f.4 (subst (λ (k : ℕ). Agree k (y ∷ ys) other) far agree) in
    let same = encode_same f.0 c (drop (length (encode f.0)) other) later (sym (agree_append (encode f.0) f.1 other there) ∙ is) in
    (f.1, f.4 ∙ ap (λ (d : ℕ). encode d ++ f.1) same.0)

module _ (g : FlatGrammar) (valid : List Symbol) (rest other : Bytes) (reach : ℕ) (x : IsReach g valid rest reach) (agree : Agree reach rest other) (at : Ending rest) where
  abbrev pub far : ℕ
  far = one_character (drop x.size rest)

  -- the longest front, as characters
  record Longest : Type 0 where
    characters : List ℕ
    begins : BeginsSpelled rest characters x.size

  longest : Longest
  longest = by x.front
    where
      by : (x.size ≡ 0) ⊎ HasFront g valid rest x.size → Longest
      by (inl e) = record { characters = []; begins = subst (λ (n : ℕ). BeginsSpelled rest [] n) (sym e) (begins_nothing rest) }
      by (inr h) = record { characters = h.characters; begins = h.begins }

  pub forth : (w : List ℕ) (n : ℕ) → BeginsSpelled rest w n → CanBegin g valid w → BeginsSpelled other w n
  forth w n b can =
      let le = x.longest n (record { characters = w; begins = b; front = can }) in
      let e = x.is in
      same_begins rest other w n reach b (omega arith) agree

  -- a character more than the longest front does not begin the other text
  grows_not : (c : ℕ) (v tail : List ℕ) → Ending rest → drop x.size other ≡ encode c ++ tail → IsScalar c → CanBegin g valid (longest.characters ++ c ∷ v) → ⊥
  grows_not c v tail (inside b bs is inner) next scalar_c can =
      let none = inside_none rest b bs longest.characters x.size is inner longest.begins in
      let some = one_character_some (drop x.size rest) in
      let e = x.is in
      inside_apart b c other tail inner scalar_c (subst (λ (k : ℕ). drop k other ≡ encode c ++ tail) none next) (ap (λ (l : Bytes). slice_get l 0) (sym is) ∙ agree 0 (omega arith))
  grows_not c v tail (whole utf8) next scalar_c can =
      let after = tail_is rest longest.characters x.size longest.begins in
      let utf = subst IsUtf8 (sym after) (tail_utf8 longest.characters rest longest.begins.tail utf8 longest.begins.is) in
      let e = x.is in
      let same = next_same (drop x.size rest) (drop x.size other) c tail utf (agree_drop x.size far reach rest other (omega arith) agree) next in
      let is : rest ≡ encodes (longest.characters ++ c ∷ []) ++ same.0 =
      longest.begins.is ∙ ap (λ (l : Bytes). encodes longest.characters ++ l) (sym after ∙ same.1)
      ∙ sym (append_assoc (encodes longest.characters) (encode c) same.0)
      ∙ ap (λ (l : Bytes). l ++ same.0) (ap (λ (l : Bytes). encodes longest.characters ++ l) (sym (append-nil (encode c))) ∙ sym (encodes_append longest.characters (c ∷ []))) in
      let begins : BeginsSpelled rest (longest.characters ++ c ∷ []) (length (encodes (longest.characters ++ c ∷ []))) = record {
        scalar = λ d there. ⊎_elim (λ old. longest.begins.scalar d old) (λ e. subst IsScalar e scalar_c) (Contains-push_cases longest.characters c d there);
        tail = same.0;
        is = is;
        size = refl;
      } in
      let front = can_prefix g valid (longest.characters ++ c ∷ []) v (subst (λ (l : List ℕ). CanBegin g valid l) (sym (append_assoc longest.characters (c ∷ []) v)) can) in
      let le = x.longest (length (encodes (longest.characters ++ c ∷ []))) (record { characters = longest.characters ++ c ∷ []; begins = begins; front = front }) in
      let l = longer_by longest.characters c [] in
      let h = longest.begins.size in
      omega arith

  pub back : (w : List ℕ) (n : ℕ) → BeginsSpelled other w n → CanBegin g valid w → BeginsSpelled rest w n
  back w n b can = by (ways longest.characters w there.tail b.tail (sym there.is ∙ b.is))
    where
      there : BeginsSpelled other longest.characters x.size
      there = same_begins rest other longest.characters x.size reach longest.begins (let e = x.is in omega arith) agree

      short : n ≤ x.size → BeginsSpelled rest w n
      short le = same_begins other rest w n reach b (let e = x.is in omega arith) (agree_back reach rest other agree)

      by : Ways longest.characters w there.tail b.tail → BeginsSpelled rest w n
      by (within c v is) = short (let l = longer_by w c v in let e = ap (λ (l : List ℕ). length (encodes l)) is in let f = longest.begins.size in let h = b.size in omega arith)
      by (on [] is tails) = short (let e = ap (λ (l : List ℕ). length (encodes l)) (is ∙ append-nil longest.characters) in let f = longest.begins.size in let h = b.size in omega arith)
      by (on (c ∷ v) is tails) = absurd (grows_not c v (encodes v ++ b.tail) at (tail_is other longest.characters x.size there ∙ tails ∙ append_assoc (encode c) (encodes v) b.tail)
          (b.scalar c (subst (λ (l : List ℕ). Contains l c) (sym is) (Contains-append_right longest.characters (c ∷ v) c (0, (omega arith), refl)))) (subst (λ (l : List ℕ). CanBegin g valid l) is can))

  -- ---- what matches is the same

  -- each front of the expression can begin what is looked for
  abbrev pub Counts : Regular → Type 0
  Counts p = (w : List ℕ) → Front p w → CanBegin g valid w

  re_forth : (p : Regular) (n : ℕ) → Counts p → MatchesRe p rest n → MatchesRe p other n
  re_forth p n counts m = record { some = m.some; characters = m.characters; begins = forth m.characters n m.begins (counts m.characters (word_front p m.characters m.word)); word = m.word }

  re_back : (p : Regular) (n : ℕ) → Counts p → MatchesRe p other n → MatchesRe p rest n
  re_back p n counts m = record { some = m.some; characters = m.characters; begins = back m.characters n m.begins (counts m.characters (word_front p m.characters m.word)); word = m.word }

  token_forth : (s : Symbol) (t : TokenDef) (n : ℕ) → Contains valid s → IsTokenOf g s t → MatchesToken g t rest n → MatchesToken g t other n
  token_forth s t n is_valid is (plainly no_keyword m) = plainly no_keyword (re_forth (regular_of t.re) n (λ w f. a_token s t is_valid is f) m)
  token_forth s t n is_valid is (as_keyword keyword word is_word longest m) =
      let counts : Counts (regular_of word.re) = λ w f. the_word (record { symbol = s; token = t; is_valid = is_valid; is_token = is; keyword = keyword }) word is_word f in
      as_keyword keyword word is_word
      (record { matches = re_forth (regular_of word.re) n counts longest.matches; longest = λ k h. longest.longest k (re_back (regular_of word.re) k counts h) })
      (re_forth (regular_of t.re) n (λ w f. a_token s t is_valid is f) m)

  token_back : (s : Symbol) (t : TokenDef) (n : ℕ) → Contains valid s → IsTokenOf g s t → MatchesToken g t other n → MatchesToken g t rest n
  token_back s t n is_valid is (plainly no_keyword m) = plainly no_keyword (re_back (regular_of t.re) n (λ w f. a_token s t is_valid is f) m)
  token_back s t n is_valid is (as_keyword keyword word is_word longest m) =
      let counts : Counts (regular_of word.re) = λ w f. the_word (record { symbol = s; token = t; is_valid = is_valid; is_token = is; keyword = keyword }) word is_word f in
      as_keyword keyword word is_word
      (record { matches = re_back (regular_of word.re) n counts longest.matches; longest = λ k h. longest.longest k (re_forth (regular_of word.re) k counts h) })
      (re_back (regular_of t.re) n (λ w f. a_token s t is_valid is f) m)

  separator_forth : (n : ℕ) → MatchesSeparator g rest n → MatchesSeparator g other n
  separator_forth n m = record { place = m.place; separator = m.separator; at = m.at; matches = re_forth (regular_of m.separator) n (λ w f. a_separator m.place m.separator m.at f) m.matches }

  pub separator_back : (n : ℕ) → MatchesSeparator g other n → MatchesSeparator g rest n
  separator_back n m = record { place = m.place; separator = m.separator; at = m.at; matches = re_back (regular_of m.separator) n (λ w f. a_separator m.place m.separator m.at f) m.matches }

  candidate_forth : (first : Bool) (t : TokenDef) (s : Symbol) (n : ℕ) → Candidate g valid first rest t s n → Candidate g valid first other t s n
  candidate_forth first t s n c = record { is_valid = c.is_valid; is_token = c.is_token; immediate = c.immediate; matches = token_forth s t n c.is_valid c.is_token c.matches }

  candidate_back : (first : Bool) (t : TokenDef) (s : Symbol) (n : ℕ) → Candidate g valid first other t s n → Candidate g valid first rest t s n
  candidate_back first t s n c = record { is_valid = c.is_valid; is_token = c.is_token; immediate = c.immediate; matches = token_back s t n c.is_valid c.is_token c.matches }

  pub best_forth : (first : Bool) (s : Symbol) (n : ℕ) → IsBest g valid first rest s n → IsBest g valid first other s n
  best_forth first s n b = record { token = b.token; candidate = candidate_forth first b.token s n b.candidate; best = λ t u m c. b.best t u m (candidate_back first t u m c) }

  empty_back : (a b : Bytes) → slice_get a 0 ≡ slice_get b 0 → b ≡ [] → a ≡ []
  empty_back [] b same e = refl
  empty_back (y ∷ ys) b same e = let f = ap (λ (l : Bytes). slice_get l 0) e in cc

  first_byte : slice_get rest 0 ≡ slice_get other 0
  first_byte = agree 0 (let s = reach_some g valid rest reach x in omega arith)

  pub empty_forth : rest ≡ [] → other ≡ []
  empty_forth e = empty_back other rest (sym first_byte) e

  pub none_forth : (first : Bool) → NoneMatches g valid first rest → NoneMatches g valid first other
  none_forth first none = record {
    tokens = λ t s n c. none.tokens t s n (candidate_back first t s n c);
    end = λ e is. none.end (empty_back rest other first_byte e) is;
  }

  pub passes_forth : (first : Bool) (n : ℕ) → Passes g valid first rest n → Passes g valid first other n
  passes_forth first n p = record { none = none_forth first p.none; separator = separator_forth n p.separator; longest = λ m h. p.longest m (separator_back m h) }

module _ (g : FlatGrammar) (valid : List Symbol) where
  pub found_same : (first : Bool) (rest : Bytes) (f : Found) → Lexes g valid first rest f → (other : Bytes) (n : ℕ) → Ending rest → IsSeen g valid first rest n → Agree n rest other → Lexes g valid first other f
  found_same _ _ _ (takes first rest s size b) other n at seen agree =
      let r = seen_reach g valid first rest n seen in
      takes first other s size (best_forth g valid rest other r.0 r.1 (agree_less r.0 n rest other r.2 agree) at first s size b)
  found_same _ _ _ (ends first is) other n at seen agree =
      let r = seen_reach g valid first [] n seen in
      subst (λ (l : Bytes). Lexes g valid first l (token end_symbol 0 0)) (sym (empty_forth g valid [] other r.0 r.1 (agree_less r.0 n [] other r.2 agree) at refl)) (ends first is)
  found_same _ _ _ (stops first rest none lack) other n at seen agree =
      let r = seen_reach g valid first rest n seen in
      let less = agree_less r.0 n rest other r.2 agree in
      stops first other (none_forth g valid rest other r.0 r.1 less at first none) (λ m h. lack m (separator_back g valid rest other r.0 r.1 less at m h))
  found_same _ _ _ (passes first rest m f pass deep) other _ at (last _ _ r lack x) agree = absurd (lack m pass)
  found_same _ _ _ (passes first rest m f pass deep) other _ at (more _ _ k r s way x low) agree =
      let less = agree_less r (max r (k + s)) rest other (le-max_left r (k + s)) agree in
      let same = one_pass g valid first rest k m way pass in
      let seen = subst (λ (j : ℕ). IsSeen g valid false (drop j rest) s) same low in
      let fits : m + s ≤ max r (k + s) = (let l = le-max_right r (k + s) in omega arith) in
      let next = ending_drop rest pass.separator.matches.characters m at pass.separator.matches.begins pass.separator.matches.some in
      passes first other m f (passes_forth g valid rest other r x less at first m pass)
      (found_same false (drop m rest) f deep (drop m other) s next seen (agree_drop m s (max r (k + s)) rest other fits agree))
