-- The pass over the characters at one place.
use Rattle.std.proofs.Common.{◌≡◌, ◌∙◌, sym, ap, refl, subst, ℕ, ◌+◌, ◌≤◌, ◌<◌, ◌⊎◌, inl, inr, Bool, true, false, List, [], ◌∷◌, ◌++◌, length, drop, encode_utf8, encode_utf8_all, append_assoc, length-drop, arith}
use Rattle.std.specs.Char.{IsScalar, len_utf8}
use Rattle.std.specs.Str.{IsUtf8}
use Rattle.std.proofs.lemmas.List.{append-nil, drop-drop}
use Rattle.std.proofs.Math.Seq.{drop-append_seam}
use Rattle.std.proofs.lemmas.Str.{length-encode}
use Rattle.std.proofs.Math.Dec.{leb}
use Rattle.std.proofs.lemmas.Bool.Decides.{leb_tells}
use Rattle.ts_base.specs.Bytes.{Bytes}
use Rattle.ts_core.specs.declared.flat.FlatGrammar.{FlatGrammar}
use Rattle.ts_core.specs.declared.symbol.Symbol.{Symbol}
use Rattle.spec_lexing.specs.Words.{Regular, Word, Front}
use Rattle.spec_lexing.specs.Matching.{BeginsSpelled}
use Rattle.spec_lexing.specs.Seen.{CanBegin, HasFront, one_character, IsReach}
use Rattle.ts_lexer.specs.declared.scanned.Progress.{Progress}
use Rattle.ts_lexer.specs.declared.verdict.Verdict.{Verdict}
use Rattle.ts_lexer.specs.Judged.{Wanted, Knows, PartWord}
use Rattle.ts_lexer.specs.Scanned.{PartMatches, IsStep, Sofar}
use Rattle.ts_lexer.specs.Runs.{Reading, Running}
use Rattle.ts_lexer.proofs.FrontLemmas.{can_begin, begin_part}

-- the laws of words and characters
pub record Laws : Type 0 where
  pub front_prefix : (p : Regular) (u v : List ℕ) → Front p (u ++ v) → Front p u
  pub word_front : (p : Regular) (w : List ℕ) → Word p w → Front p w
  pub nothing : (rest : Bytes) → BeginsSpelled rest [] 0
  pub prefix : (rest : Bytes) (u w : List ℕ) (n m : ℕ) → BeginsSpelled rest u n → BeginsSpelled rest w m → n ≤ m → (v : List ℕ) × (w ≡ u ++ v)
  pub longer : (rest : Bytes) (u v : List ℕ) (c n m : ℕ) → BeginsSpelled rest u n → BeginsSpelled rest (u ++ c ∷ v) m → n < m
  pub more : (rest tail : Bytes) (u : List ℕ) (c n : ℕ) → IsScalar c → BeginsSpelled rest u n → drop n rest ≡ encode_utf8 c ++ tail → BeginsSpelled rest (u ++ c ∷ []) (n + length (encode_utf8 c))
  pub follows : (rest tail : Bytes) (u v : List ℕ) (c d n m : ℕ) → BeginsSpelled rest u n → drop n rest ≡ encode_utf8 c ++ tail → BeginsSpelled rest (u ++ d ∷ v) m → d ≡ c
  pub within : (rest : Bytes) (u : List ℕ) (n : ℕ) → BeginsSpelled rest u n → n ≤ length rest
  pub one : (c : ℕ) (more : Bytes) → IsScalar c → IsUtf8 more → one_character (encode_utf8 c ++ more) ≡ length (encode_utf8 c)

module _ (laws : Laws) (g : FlatGrammar) (valid : List Symbol) (first : Bool) (rest : Bytes) where
  can_prefix : (u v : List ℕ) → CanBegin g valid (u ++ v) → CanBegin g valid u
  can_prefix u v can =
      let b = begin_part g valid (u ++ v) can in
      can_begin g valid u b.0 b.1 (record { expression = b.2.expression; at = b.2.at; front = laws.front_prefix b.2.expression u v b.2.front })

  same_size : (u w : List ℕ) (n k : ℕ) → BeginsSpelled rest u n → BeginsSpelled rest w k → u ≡ w → n ≡ k
  same_size u w n k a b e = a.size ∙ ap (λ (l : List ℕ). length (encode_utf8_all l)) e ∙ sym b.size

  module _ (tail : Bytes) (size : ℕ) (u : List ℕ) (run : Reading g valid rest tail size u) where
    -- nothing that can begin so is longer: every wanted match has been seen
    pub all_seen : ((n : ℕ) → HasFront g valid rest n → n ≤ size) → (k n : ℕ) → Wanted g valid k → PartMatches g rest k n → n ≤ size
    all_seen longest k n wanted x = longest n (record {
      characters = x.matches.characters;
      begins = x.matches.begins;
      front = can_begin g valid x.matches.characters k wanted (record { expression = x.expression; at = x.at; front = laws.word_front x.expression x.matches.characters x.matches.word });
    })

    front_here : (size ≡ 0) ⊎ HasFront g valid rest size
    front_here = by run.front
      where
        by : (u ≡ []) ⊎ CanBegin g valid u → (size ≡ 0) ⊎ HasFront g valid rest size
        by (inl none) = inl (same_size u [] size 0 run.begins (laws.nothing rest) none)
        by (inr can) = inr (record { characters = u; begins = run.begins; front = can })

    pub reach_is : ((n : ℕ) → HasFront g valid rest n → n ≤ size) → (far : ℕ) → far ≡ one_character tail → IsReach g valid rest (size + far)
    reach_is longest far is = record {
      size = size;
      front = front_here;
      longest = longest;
      is = ap (λ (n : ℕ). size + n) (is ∙ ap one_character (sym run.rest_is));
    }

    -- ---- the end of the text

    pub end_longest : length tail ≡ 0 → (n : ℕ) → HasFront g valid rest n → n ≤ size
    end_longest none n f =
        let w = laws.within rest f.characters n f.begins in
        let l = length-drop size rest in
        let e = ap (λ (x : Bytes). length x) run.rest_is in
        omega arith

    pub end_far : (bytes : Bytes) → length bytes ≡ 0 → 1 ≡ one_character bytes
    end_far [] e = refl
    end_far (b ∷ bs) e = absurd (omega arith)

    -- ---- one character more

    module _ (c : ℕ) (later : Bytes) (is : tail ≡ encode_utf8 c ++ later) (scalar_c : IsScalar c) (utf8 : IsUtf8 later) where
      here : drop size rest ≡ encode_utf8 c ++ later
      here = run.rest_is ∙ is

      abbrev pub next : ℕ
      next = size + length (encode_utf8 c)

      abbrev pub w : List ℕ
      w = u ++ c ∷ []

      begins_next : BeginsSpelled rest w next
      begins_next = laws.more rest later u c size scalar_c run.begins here

      rises : size < next
      rises = laws.longer rest u [] c size next run.begins begins_next

      -- another beginning is no longer than what was read, or goes on with the character
      data Other (x : List ℕ) (n : ℕ) : Type 0 where
        short : n ≤ size → Other x n
        long : (v : List ℕ) → x ≡ w ++ v → Other x n

      other : (x : List ℕ) (n : ℕ) → BeginsSpelled rest x n → Other x n
      other x n b = by (leb_tells n size)
        where
          goes_on : size < n → (v : List ℕ) → x ≡ u ++ v → Other x n
          goes_on lt [] e = absurd (let s = same_size x u n size b run.begins (e ∙ append-nil u) in omega arith)
          goes_on lt (d ∷ v) e =
              let same = laws.follows rest later u v c d size n run.begins here (subst (λ (l : List ℕ). BeginsSpelled rest l n) e b) in
              long v (e ∙ ap (λ (y : ℕ). u ++ y ∷ v) same ∙ sym (append_assoc u (c ∷ []) v))

          by : ((leb n size ≡ true) × (n ≤ size)) ⊎ ((leb n size ≡ false) × (size < n)) → Other x n
          by (inl (_, le)) = short le
          by (inr (_, lt)) = let v = laws.prefix rest u x size n run.begins b (omega arith) in goes_on lt v.0 v.1

      pub step : IsStep g rest size next w
      step = record { rises = rises; from = from; now = now }
        where
          from : (k n : ℕ) → n ≤ next → PartMatches g rest k n → (n ≤ size) ⊎ PartWord g w k
          from k n le x = by (other x.matches.characters n x.matches.begins)
            where
              exact : (v : List ℕ) → x.matches.characters ≡ w ++ v → (n ≤ size) ⊎ PartWord g w k
              exact [] e = inr (record { expression = x.expression; at = x.at; word = subst (λ (l : List ℕ). Word x.expression l) (e ∙ append-nil w) x.matches.word })
              exact (d ∷ v) e = absurd (let l = laws.longer rest w v d next n begins_next (subst (λ (y : List ℕ). BeginsSpelled rest y n) e x.matches.begins) in omega arith)

              by : Other x.matches.characters n → (n ≤ size) ⊎ PartWord g w k
              by (short low) = inl low
              by (long v e) = exact v e

          now : (k : ℕ) → PartWord g w k → PartMatches g rest k next
          now k x = record {
            expression = x.expression;
            at = x.at;
            matches = record { some = (let r = rises in omega arith); characters = w; begins = begins_next; word = x.word };
          }

      pub dead_longest : (v : Verdict) → Knows g valid first w v → v.lives ≡ false → (n : ℕ) → HasFront g valid rest n → n ≤ size
      dead_longest v knows dead n f = by (other f.characters n f.begins)
        where
          by : Other f.characters n → n ≤ size
          by (short le) = le
          by (long x e) =
              let can = can_prefix w x (subst (λ (l : List ℕ). CanBegin g valid l) e f.front) in
              let y = knows.lives.1 (begin_part g valid w can) in
              let h : false ≡ true = sym dead ∙ y in
              cc

      pub far : len_utf8 c ≡ one_character tail
      far = sym (length-encode c) ∙ sym (laws.one c later scalar_c utf8) ∙ ap one_character (sym is)

      pub read_more : (v : Verdict) → Knows g valid first w v → v.lives ≡ true → Reading g valid rest later next w
      read_more v knows alive = record {
        begins = begins_next;
        rest_is = drops;
        utf8 = utf8;
        front = inr (let x = knows.lives.0 alive in can_begin g valid w x.0 x.1 x.2);
      }
        where
          drops : drop next rest ≡ later
          drops =
              sym (drop-drop (length (encode_utf8 c)) size rest) ∙ ap (λ (l : Bytes). drop (length (encode_utf8 c)) l) here
              ∙ drop-append_seam (encode_utf8 c) later

-- nothing has been read
pub read_begins : Laws → (g : FlatGrammar) (valid : List Symbol) (rest : Bytes) → IsUtf8 rest → Reading g valid rest rest 0 []
read_begins laws g valid rest utf8 = record {
  begins = laws.nothing rest;
  rest_is = refl;
  utf8 = utf8;
  front = inl refl;
}

-- the same, and nothing has been found
pub run_begins : Laws → (R : List ℕ → Type 0) (g : FlatGrammar) (valid : List Symbol) (first : Bool) (rest : Bytes) (p : Progress) → IsUtf8 rest → R []
    → Sofar g valid first (PartMatches g rest) 0 p → Running R g valid first rest rest 0 p
run_begins laws R g valid first rest p utf8 read sofar = record {
  characters = [];
  read = read;
  reading = read_begins laws g valid rest utf8;
  sofar = sofar;
}
