-- Characters over which a set of nodes leads to itself: what is known of them is told at their end.
use Rattle.std.proofs.Common.{◌≡◌, ◌∙◌, sym, subst, refl, ℕ, ◌+◌, ◌<◌, ◌≤◌, ◌⊎◌, inl, inr, ⊎_elim, Bool, true, List, ◌∷◌, [], ◌++◌, Some, ap, append_assoc, length, length-append, length-drop, drop, get_or, slice_get, arith}
use Rattle.std.specs.Char.{len_utf8}
use Rattle.std.proofs.Math.Utf8.{encode}
use Rattle.std.specs.Str.{IsUtf8}
use Rattle.std.proofs.lemmas.Str.{encode_ascii, length-encode, len_utf8_bounds}
use Rattle.std.proofs.lemmas.List.{drop-drop, drop_more}
use Rattle.std.proofs.Math.Seq.{drop-append_seam}
use Rattle.ts_base.specs.Bytes.{Bytes}
use Rattle.ts_core.specs.declared.flat.FlatGrammar.{FlatGrammar}
use Rattle.ts_core.specs.declared.symbol.Symbol.{Symbol}
use Rattle.ts_automata.specs.declared.tables.SetTables.{SetTables}
use Rattle.ts_automata.specs.Automata.{IsAutomaton}
use Rattle.ts_automata.specs.Machine.{HasRead}
use Rattle.ts_lexer.specs.declared.scanned.Progress.{Progress}
use Rattle.ts_lexer.specs.declared.verdict.Verdict.{Verdict}
use Rattle.ts_lexer.specs.Ahead.{AreVerdicts}
use Rattle.ts_lexer.specs.Judged.{Knows, PartWord}
use Rattle.ts_lexer.specs.Scanned.{PartMatches, IsStep, Sofar, Stays, unread, past}
use Rattle.ts_lexer.specs.Runs.{Reading, Running}
use Rattle.ts_lexer.proofs.KnowLemmas.{row_knows, same_words}
use Rattle.ts_lexer.proofs.RunLemmas.{Laws}
use Rattle.ts_lexer.proofs.ScannedLemmas.{scalar_of, step_on, read_on}

-- characters have been read that lead to a set; what it says is not told of those behind the bound
pub record Going (g : FlatGrammar) (valid : List Symbol) (first : Bool) (m : SetTables) (state bound : ℕ) (rest tail : Bytes) (size : ℕ) : Type 0 where
  pub characters : List ℕ
  pub read : HasRead m characters state
  pub reading : Reading g valid rest tail size characters
  pub step : IsStep g rest bound size characters

-- an ASCII byte is a character
pub ascii_next : (bytes : Bytes) (place : ℕ) → place < length bytes → get_or bytes place 0 < 128 → drop place bytes ≡ encode (get_or bytes place 0) ++ drop (place + 1) bytes
ascii_next bytes place lt small = drop_more bytes place 0 lt ∙ ap (λ (l : Bytes). l ++ drop (place + 1) bytes) (sym (encode_ascii (get_or bytes place 0) small))

pub ascii_len : (c : ℕ) → c < 128 → 1 ≡ len_utf8 c
ascii_len c small = ap (λ (l : Bytes). length l) (sym (encode_ascii c small)) ∙ length-encode c

-- what is left is a text
pub stays_utf8 : (m : SetTables) (set : ℕ) (text later : Bytes) → Stays m set text later → IsUtf8 text → IsUtf8 later
stays_utf8 m set text later (unread t) utf8 = utf8
stays_utf8 m set text later (past t tail after c stays spells on) utf8 = (scalar_of tail later c (stays_utf8 m set text tail stays utf8) spells).1

-- a character that a piece begins with begins all that the piece begins
pub spelled_before : (text later tail : Bytes) (c : ℕ) → text ≡ encode c ++ later → text ++ tail ≡ encode c ++ (later ++ tail)
spelled_before text later tail c spells = ap (λ (l : Bytes). l ++ tail) spells ∙ append_assoc (encode c) later tail

-- nor does it matter to what stays what follows the piece
pub stays_before : (m : SetTables) (set : ℕ) (text later tail : Bytes) → Stays m set text later → Stays m set (text ++ tail) (later ++ tail)
stays_before m set text later tail (unread t) = unread (text ++ tail)
stays_before m set text later tail (past t before after c stays spells on) =
    past (text ++ tail) (before ++ tail) (later ++ tail) c (stays_before m set text before tail stays) (spelled_before before later tail c spells) on

-- what has been read and what is left of a piece are as many bytes at each place of it
pub same_sum : (piece tail : Bytes) (size from to : ℕ) → from ≤ length piece → to ≤ length piece → size + to + length (drop to piece ++ tail) ≡ size + from + length (drop from piece ++ tail)
same_sum piece tail size from to low high =
    let a = length-append (drop to piece) tail in
    let b = length-append (drop from piece) tail in
    let d = length-drop to piece in
    let e = length-drop from piece in
    omega arith

-- a character that is read at a place of a text ends in it, and what follows it is a text
pub record Passes (rest : Bytes) (size len : ℕ) (later : Bytes) : Type 0 where
  pub some : 0 < len
  pub within : size + len ≤ length rest
  pub is : later ≡ drop (size + len) rest
  pub utf8 : IsUtf8 later

pub passes : (rest : Bytes) (size c len : ℕ) (later : Bytes) → size ≤ length rest → IsUtf8 (drop size rest) → drop size rest ≡ encode c ++ later → len ≡ len_utf8 c → Passes rest size len later
passes rest size c len later le utf8 spells is =
    let e = ap (λ (l : Bytes). length l) spells in
    let f = length-append (encode c) later in
    let h = length-encode c in
    let b = len_utf8_bounds c in
    let d = length-drop size rest in
    let same : length (encode c) ≡ len = h ∙ sym is in
    record {
      some = omega arith;
      within = omega arith;
      is = sym (ap (λ (k : ℕ). drop (size + k) rest) (sym same) ∙ sym (drop-drop (length (encode c)) size rest) ∙ ap (λ (l : Bytes). drop (length (encode c)) l) spells ∙ drop-append_seam (encode c) later);
      utf8 = (scalar_of (drop size rest) later c utf8 spells).1;
    }

module _ (laws : Laws) (g : FlatGrammar) (valid : List Symbol) (first : Bool) (m : SetTables) (is : IsAutomaton g m.automaton) (row : List Verdict) (rows : AreVerdicts g valid first m row)
    (state : ℕ) (v : Verdict) (at : slice_get row state ≡ Some v) (alive : v.lives ≡ true) (rest : Bytes) where
  knows_of : (w : List ℕ) → HasRead m w state → Knows g valid first w v
  knows_of w read = row_knows g valid first m is row rows w state v read at

  module _ (bound : ℕ) (tail : Bytes) (size : ℕ) (going : Going g valid first m state bound rest tail size) (c : ℕ) (later : Bytes) (spells : tail ≡ encode c ++ later) where
    abbrev w : List ℕ
    w = going.characters ++ c ∷ []

    -- the set stays over one character more
    stayed : HasRead m w state → Going g valid first m state bound rest later (size + len_utf8 c)
    stayed read = record {
      characters = w;
      read = read;
      reading = read_on laws g valid first rest tail size going.characters going.reading c later spells (len_utf8 c) refl v (knows_of w read) alive;
      step = record { rises = (let r = going.step.rises in let t = next.rises in omega arith); from = from; now = next.now };
    }
      where
        next : IsStep g rest size (size + len_utf8 c) w
        next = step_on laws g valid first rest tail size going.characters going.reading c later spells (len_utf8 c) refl

        from : (k n : ℕ) → n ≤ size + len_utf8 c → PartMatches g rest k n → (n ≤ bound) ⊎ PartWord g w k
        from k n le y = ⊎_elim
            (λ low. ⊎_elim (λ before. inl before) (λ word. inr (same_words g m is going.characters w state going.read read k word)) (going.step.from k n low y))
            (λ word. inr word) (next.from k n le y)

  -- the set stays
  stayed_on : (bound : ℕ) (tail later : Bytes) (size : ℕ) → Stays m state tail later → Going g valid first m state bound rest tail size
      → (n : ℕ) × (n + length later ≡ size + length tail) × Going g valid first m state bound rest later n
  stayed_on bound tail later size (unread text) going = (size, refl, going)
  stayed_on bound tail later size (past text before after c stays spells on) going =
      let x = stayed_on bound tail before size stays going in
      let sum = x.1 in
      let e = ap (λ (l : Bytes). length l) spells in
      let f = length-append (encode c) later in
      let h = length-encode c in
      (x.0 + len_utf8 c, omega arith, stayed bound before x.0 x.2 c later spells (on x.2.characters x.2.read))

  module _ (tail : Bytes) (size : ℕ) (R : List ℕ → Type 0) (p : Progress) (run : Running R g valid first rest tail size p) (c : ℕ) (later : Bytes) (spells : tail ≡ encode c ++ later) where
    -- the set is reached
    reached : HasRead m (run.characters ++ c ∷ []) state → Going g valid first m state size rest later (size + len_utf8 c)
    reached read = record {
      characters = run.characters ++ c ∷ [];
      read = read;
      reading = read_on laws g valid first rest tail size run.characters run.reading c later spells (len_utf8 c) refl v (knows_of (run.characters ++ c ∷ []) read) alive;
      step = step_on laws g valid first rest tail size run.characters run.reading c later spells (len_utf8 c) refl;
    }

    -- the set is reached and stays, and what it says is told
    pub turned : HasRead m (run.characters ++ c ∷ []) state → (end : Bytes) → Stays m state later end → (n : ℕ) → n + length end ≡ size + length tail → (after : Progress)
        → ((w : List ℕ) → IsStep g rest size n w → Knows g valid first w v → Sofar g valid first (PartMatches g rest) size p → Sofar g valid first (PartMatches g rest) n after)
        → Running (λ w. HasRead m w state) g valid first rest end n after
    turned read end stays n sum after told =
        let x = stayed_on size later end (size + len_utf8 c) stays (reached read) in
        let total = x.1 in
        let e = ap (λ (l : Bytes). length l) spells in
        let f = length-append (encode c) later in
        let h = length-encode c in
        let same : x.0 ≡ n = omega arith in
        let going = subst (λ (k : ℕ). Going g valid first m state size rest end k) same x.2 in
        record {
          characters = going.characters;
          read = going.read;
          reading = going.reading;
          sofar = told going.characters going.step (knows_of going.characters going.read) run.sofar;
        }
