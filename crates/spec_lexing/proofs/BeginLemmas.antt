-- What begins a text, and how much of it is looked at.
use Rattle.std.proofs.Common.{◌≡◌, ◌∙◌, sym, ap, subst, refl, ℕ, zero, suc, ◌+◌, ◌≤◌, ◌<◌, Bool, List, [], ◌∷◌, ◌++◌, length, drop, slice_get, Some, length-append, arith}
use Rattle.std.proofs.Math.Utf8.{encodes}
use Rattle.std.proofs.Math.Seq.{drop-append_seam}
use Rattle.ts_base.specs.Bytes.{Bytes}
use Rattle.ts_core.specs.declared.flat.FlatGrammar.{FlatGrammar}
use Rattle.ts_core.specs.declared.flat.TokenDef.{TokenDef}
use Rattle.ts_core.specs.declared.symbol.Symbol.{Symbol}
use Rattle.spec_lexing.specs.Words.{regular_of}
use Rattle.spec_lexing.specs.Matching.{BeginsSpelled, MatchesRe, MatchesToken, plainly, as_keyword, MatchesSeparator}
use Rattle.spec_lexing.specs.Lexing.{Candidate}
use Rattle.spec_lexing.specs.Seen.{CanBegin, a_token, the_word, a_separator, HasFront, one_character, Agree}
use Rattle.spec_lexing.proofs.WordLemmas.{word_front}
use Rattle.spec_lexing.proofs.FrontLemmas.{front_prefix}

pub begins_within : (rest : Bytes) (w : List ℕ) (n : ℕ) → BeginsSpelled rest w n → n ≤ length rest
begins_within rest w n b =
    let e = ap (λ (l : List ℕ). length l) b.is in
    let f = length-append (encodes w) b.tail in
    let h = b.size in
    omega arith

pub begins_nothing : (rest : Bytes) → BeginsSpelled rest [] 0
begins_nothing rest = record { scalar = λ c h. (let lt = h.1 in absurd (omega arith)); tail = rest; is = refl; size = refl }

-- what follows a beginning
pub tail_is : (rest : Bytes) (w : List ℕ) (n : ℕ) → (b : BeginsSpelled rest w n) → drop n rest ≡ b.tail
tail_is rest w n b =
    ap (λ (m : ℕ). drop m rest) b.size ∙ ap (λ (l : List ℕ). drop (length (encodes w)) l) b.is ∙ drop-append_seam (encodes w) b.tail

-- ---- texts that agree

pub agree_less : (m n : ℕ) (a b : Bytes) → m ≤ n → Agree n a b → Agree m a b
agree_less m n a b le agree k lt = agree k (omega arith)

pub agree_back : (n : ℕ) (a b : Bytes) → Agree n a b → Agree n b a
agree_back n a b agree k lt = sym (agree k lt)

-- what a text begins with, where the other text has the same bytes
pub agree_append : (xs ys b : Bytes) → Agree (length xs) (xs ++ ys) b → b ≡ xs ++ drop (length xs) b
agree_append [] ys b agree = refl
agree_append (x ∷ xs) ys [] agree = let e = agree 0 (omega arith) in cc
agree_append (x ∷ xs) ys (y ∷ b) agree =
    let e : Some x ≡ Some y = agree 0 (omega arith) in
    let h : x ≡ y = cc in
    let t = agree_append xs ys b (λ k lt. agree (suc k) (omega arith)) in
    ap (λ (z : ℕ). z ∷ b) (sym h) ∙ ap (λ (l : List ℕ). x ∷ l) t

pub same_begins : (a b : Bytes) (w : List ℕ) (n m : ℕ) → BeginsSpelled a w n → n ≤ m → Agree m a b → BeginsSpelled b w n
same_begins a b w n m begins le agree =
    let cut = subst (λ (l : List ℕ). Agree (length (encodes w)) l b) begins.is (agree_less (length (encodes w)) m a b (let e = begins.size in omega arith) agree) in
    record { scalar = begins.scalar; tail = drop (length (encodes w)) b; is = agree_append (encodes w) begins.tail b cut; size = begins.size }

slice_get_drop : (n k : ℕ) (xs : Bytes) → slice_get (drop n xs) k ≡ slice_get xs (n + k)
slice_get_drop zero k xs = ap (λ (i : ℕ). slice_get xs i) (let e : k ≡ 0 + k = omega arith in e)
slice_get_drop (suc n) k [] = refl
slice_get_drop (suc n) k (x ∷ xs) = slice_get_drop n k xs ∙ ap (λ (i : ℕ). slice_get (x ∷ xs) i) (let e : suc (n + k) ≡ suc n + k = omega arith in e)

pub agree_drop : (n m s : ℕ) (a b : Bytes) → n + m ≤ s → Agree s a b → Agree m (drop n a) (drop n b)
agree_drop n m s a b le agree k lt = slice_get_drop n k a ∙ agree (n + k) (omega arith) ∙ sym (slice_get_drop n k b)

-- ---- fronts

-- what begins something that can begin what is looked for
pub can_prefix : (g : FlatGrammar) (valid : List Symbol) (u v : List ℕ) → CanBegin g valid (u ++ v) → CanBegin g valid u
can_prefix g valid u v (a_token s t is_valid is f) = a_token s t is_valid is (front_prefix (regular_of t.re) u v f)
can_prefix g valid u v (the_word has word is f) = the_word has word is (front_prefix (regular_of word.re) u v f)
can_prefix g valid u v (a_separator place separator at f) = a_separator place separator at (front_prefix (regular_of separator) u v f)

pub one_character_some : (bytes : Bytes) → 1 ≤ one_character bytes
one_character_some [] = omega arith
one_character_some (b ∷ bs) = omega arith

re_of : (g : FlatGrammar) (t : TokenDef) (rest : Bytes) (n : ℕ) → MatchesToken g t rest n → MatchesRe (regular_of t.re) rest n
re_of g t rest n (plainly is m) = m
re_of g t rest n (as_keyword is word is_word longest m) = m

-- a match is a front
pub candidate_front : (g : FlatGrammar) (valid : List Symbol) (first : Bool) (rest : Bytes) (t : TokenDef) (s : Symbol) (n : ℕ) → Candidate g valid first rest t s n → HasFront g valid rest n
candidate_front g valid first rest t s n x =
    let m = re_of g t rest n x.matches in
    record { characters = m.characters; begins = m.begins; front = a_token s t x.is_valid x.is_token (word_front (regular_of t.re) m.characters m.word) }

pub candidate_within : (g : FlatGrammar) (valid : List Symbol) (first : Bool) (rest : Bytes) (t : TokenDef) (s : Symbol) (n : ℕ) → Candidate g valid first rest t s n → (0 < n) × (n ≤ length rest)
candidate_within g valid first rest t s n x = let m = re_of g t rest n x.matches in (m.some, begins_within rest m.characters n m.begins)

pub separator_within : (g : FlatGrammar) (rest : Bytes) (n : ℕ) → MatchesSeparator g rest n → (0 < n) × (n ≤ length rest)
separator_within g rest n x = (x.matches.some, begins_within rest x.matches.characters n x.matches.begins)
