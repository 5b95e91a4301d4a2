-- Lists of lines, and the bytes of each list.
use Rattle.std.proofs.Common.{◌≡◌, ◌∙◌, refl, sym, ap, subst, ℕ, ◌+◌, ◌<◌, List, [], ◌∷◌, ◌++◌, append_assoc, append-nil, length, get_or, take}
use Rattle.std.proofs.lemmas.List.{take_more}
use Rattle.ts_base.specs.Bytes.{Bytes}
use Rattle.ts_core.specs.declared.flat.FlatGrammar.{FlatGrammar}
use Rattle.ts_transcript.specs.declared.line.RunLine.{RunLine}
use Rattle.ts_transcript.specs.Told.{TellsLine, AreLines, AddsLines}

-- ---- the bytes of lines

-- lines of two lists: their bytes are those of the one and then those of the other
pub in_two : (g : FlatGrammar) (xs ys : List RunLine) (bytes : Bytes) → AreLines g (xs ++ ys) bytes
    → (a : Bytes) × (b : Bytes) × AreLines g xs a × AreLines g ys b × (bytes ≡ a ++ b)
in_two g [] ys bytes h = ([], bytes, refl, h, refl)
in_two g (x ∷ xs) ys bytes h =
    let s = in_two g xs ys h.1 h.3 in
    (h.0 ++ s.0, s.1, (h.0, s.0, h.2, s.2, refl), s.3, h.4 ∙ ap (λ (rest : Bytes). h.0 ++ rest) s.4 ∙ sym (append_assoc h.0 s.0 s.1))

pub line_more : (g : FlatGrammar) (xs : List RunLine) (x : RunLine) (bytes more : Bytes) → AreLines g xs bytes → TellsLine g x more
    → AreLines g (xs ++ x ∷ []) (bytes ++ more)
line_more g [] x bytes more h tells = (more, [], tells, refl, ap (λ (start : Bytes). start ++ more) h ∙ sym (append-nil more))
line_more g (y ∷ ys) x bytes more h tells =
    (h.0, h.1 ++ more, h.2, line_more g ys x h.1 more h.3 tells, ap (λ (start : Bytes). start ++ more) h.4 ∙ append_assoc h.0 h.1 more)

pub line_next : (g : FlatGrammar) (xs : List RunLine) (i : ℕ) (x : RunLine) (bytes more : Bytes) → i < length xs → x ≡ get_or xs i x → TellsLine g x more
    → AreLines g (take i xs) bytes → AreLines g (take (i + 1) xs) (bytes ++ more)
line_next g xs i x bytes more lt is tells h =
    let next : take (i + 1) xs ≡ take i xs ++ x ∷ [] = take_more xs i x lt ∙ ap (λ (y : RunLine). take i xs ++ y ∷ []) (sym is) in
    subst (λ (ls : List RunLine). AreLines g ls (bytes ++ more)) (sym next) (line_more g (take i xs) x bytes more h tells)

-- ---- lines that were added

pub tells_as_well : (P Q : FlatGrammar → Bytes → Type 0) (before after : List RunLine) → ((g : FlatGrammar) (bytes : Bytes) → P g bytes → Q g bytes)
    → AddsLines P before after → AddsLines Q before after
tells_as_well P Q before after as_well so = record {
  added = so.added;
  tell = λ g bytes are. as_well g bytes (so.tell g bytes are);
  after_is = so.after_is;
}

-- bytes that are first such bytes and then others
abbrev pub Then : (FlatGrammar → Bytes → Type 0) → (FlatGrammar → Bytes → Type 0) → FlatGrammar → Bytes → Type 0
Then P Q g bytes = (a : Bytes) × (b : Bytes) × P g a × Q g b × (bytes ≡ a ++ b)

pub added_then : (P Q : FlatGrammar → Bytes → Type 0) (start before after : List RunLine) → AddsLines P start before → AddsLines Q before after
    → AddsLines (Then P Q) start after
added_then P Q start before after p q = record {
  added = p.added ++ q.added;
  tell = λ g bytes are.
      let s = in_two g p.added q.added bytes are in
      (s.0, s.1, p.tell g s.0 s.2, q.tell g s.1 s.3, s.4);
  after_is = q.after_is ∙ ap (λ (ls : List RunLine). ls ++ q.added) p.after_is ∙ append_assoc start p.added q.added;
}
