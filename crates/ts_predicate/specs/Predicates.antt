-- What predicates ask of a match: of the texts of the nodes that its captures name.
use Rattle.std.specs.Prelude.{◌≡◌, ℕ, ◌<◌, ◌≤◌, nat_eq, Bool, true, false, List, map, filter, length, Some, is_some, slice_get}
use Rattle.std.specs.List.{Contains, slice_range}
use Rattle.std.specs.Str.{IsCharBoundary}
use Rattle.regex.specs.Patterns.{find_str}
use Rattle.regex.specs.Strings.{regex_pattern}
use Rattle.ts_base.specs.Bytes.{Bytes}
use Rattle.ts_query_syntax.specs.declared.read_query.Asked.{Asked}
use Rattle.ts_query_syntax.specs.declared.read_query.Asked.TheVariants as asked
use Rattle.ts_query_syntax.specs.declared.read_query.Pattern.{Pattern}
use Rattle.ts_query_syntax.specs.declared.read_query.Predicate.{Predicate}
use Rattle.ts_query_syntax.specs.declared.read_query.ReadQuery.{ReadQuery}
use Rattle.spec_matches.specs.declared.found.Capture.{Capture}
use Rattle.spec_matches.specs.declared.found.Match.{Match}

-- ---- texts

-- the text of a node
abbrev pub capture_text : Bytes → Capture → Bytes
capture_text text capture = slice_range text capture.start capture.end

-- the nodes that a capture names, in order
abbrev pub named_by : ℕ → List Capture → List Capture
named_by name captures = filter (λ capture. nat_eq capture.name name) captures

-- their texts
abbrev pub texts_of : Bytes → ℕ → List Capture → List Bytes
texts_of text name captures = map (capture_text text) (named_by name captures)

-- ---- what is asked

-- a host has a predicate of this number, and it accepts the text
abbrev pub AnswersOf : List Bytes → (ℕ → Bytes → Type 0) → ℕ → Bytes → Type 0
AnswersOf names Accepts number text = (number < length names) × Accepts number text

-- What one text is asked to be. The texts of another capture's nodes are asked for in pairs.
abbrev pub IsAs : (ℕ → Bytes → Type 0) → Asked → Bytes → Type 0
IsAs host (asked.Text wanted) text = text ≡ wanted
IsAs host (asked.Capture other) text = ⊥
IsAs host (asked.OneOf all) text = Contains all text
IsAs host (asked.Found search) text = is_some (find_str (regex_pattern search) text 0) ≡ true
IsAs host (asked.Host number) text = host number text

-- Of all texts, or of some text, it is so, or is not so where it is negated.
abbrev pub OfTexts : Bool → Bool → (Bytes → Type 0) → List Bytes → Type 0
OfTexts false false Is texts = (text : Bytes) → Contains texts text → Is text
OfTexts false true Is texts = (text : Bytes) → Contains texts text → Is text → ⊥
OfTexts true false Is texts = (text : Bytes) × Contains texts text × Is text
OfTexts true true Is texts = (text : Bytes) × Contains texts text × (Is text → ⊥)

-- the texts at a place of two lists
pub record IsPair (texts others : List Bytes) (k : ℕ) (text other : Bytes) : Type 0 where
  pub first : slice_get texts k ≡ Some text
  pub second : slice_get others k ≡ Some other

-- The lists of texts are equal. Negated, or of some pair: pairs up to the shorter list.
abbrev pub OfPairs : Bool → Bool → List Bytes → List Bytes → Type 0
OfPairs false false texts others = texts ≡ others
OfPairs false true texts others =
    (k : ℕ) (text other : Bytes) → IsPair texts others k text other → text ≡ other → ⊥
OfPairs true false texts others =
    (k : ℕ) × (text : Bytes) × (other : Bytes) × IsPair texts others k text other
    × (text ≡ other)
OfPairs true true texts others =
    (k : ℕ) × (text : Bytes) × (other : Bytes) × IsPair texts others k text other
    × (text ≡ other → ⊥)

-- What the predicate asks, of all texts or of some one, or in pairs.
abbrev pub AsksBy : (ℕ → Bytes → Type 0) → Bytes → List Capture → Predicate → Asked → Type 0
AsksBy host text captures p (asked.Capture other) =
    OfPairs p.some p.negated (texts_of text p.capture captures) (texts_of text other captures)
AsksBy host text captures p (asked.Text wanted) =
    OfTexts p.some p.negated (IsAs host (asked.Text wanted)) (texts_of text p.capture captures)
AsksBy host text captures p (asked.OneOf all) =
    OfTexts p.some p.negated (IsAs host (asked.OneOf all)) (texts_of text p.capture captures)
AsksBy host text captures p (asked.Found search) =
    OfTexts p.some p.negated (IsAs host (asked.Found search)) (texts_of text p.capture captures)
AsksBy host text captures p (asked.Host number) =
    OfTexts p.some p.negated (IsAs host (asked.Host number)) (texts_of text p.capture captures)

-- the predicate holds of the captures
abbrev pub Holds : (ℕ → Bytes → Type 0) → Bytes → List Capture → Predicate → Type 0
Holds host text captures p = AsksBy host text captures p p.asked

-- ---- matches

-- the capture is one of the query's, and its range lies in the text and on characters
pub record IsCaptureIn (query : ReadQuery) (text : Bytes) (capture : Capture) : Type 0 where
  pub named : capture.name < length query.captures
  pub ordered : capture.start ≤ capture.end
  pub start_on : IsCharBoundary text capture.start
  pub end_on : IsCharBoundary text capture.end

-- The match is of a pattern of the query, its captures are, and the pattern's predicates hold.
pub record IsKept (host : ℕ → Bytes → Type 0) (query : ReadQuery) (text : Bytes)
    (found : Match) : Type 0 where
  pub pattern : Pattern
  pub is_pattern : slice_get query.patterns found.pattern ≡ Some pattern
  pub captures : (capture : Capture) → Contains found.captures capture
      → IsCaptureIn query text capture
  pub predicates : (p : Predicate) → Contains pattern.predicates p
      → Holds host text found.captures p
