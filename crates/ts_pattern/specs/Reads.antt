-- What is read from which text, and what each refusal says.
use Rattle.std.specs.Prelude.{◌≡◌, ℕ, Bool, true, false, ◌&&◌, ◌==◌, List, [], ◌∷◌, ◌++◌, length, take, chars, encode_utf8_all, Some, None, if◌then◌else◌, ◌⊎◌, ⊤}
use Rattle.ts_base.specs.Bytes.{Bytes}
use Rattle.ts_core.specs.declared.re.Re.{Re}
use Rattle.ts_pattern.specs.declared.fault.PFault.{PFault}
use Rattle.ts_pattern.specs.declared.fault.PFault.TheVariants as fault
use Rattle.ts_pattern.specs.declared.outcome.Outcome.{Outcome}
use Rattle.ts_pattern.specs.declared.outcome.Outcome.TheVariants as outcome
use Rattle.ts_pattern.specs.declared.sight.Flaw.{Flaw}
use Rattle.ts_pattern.specs.declared.sight.Flaw.TheVariants.{Syntax, Unsupported, EmptyClass, UnknownProperty}
use Rattle.ts_pattern.specs.declared.sign.Sign.{Sign}
use Rattle.ts_pattern.specs.declared.sign.Sign.TheVariants as sign
use Rattle.ts_pattern.specs.Characters.{Text, question, peek}
use Rattle.ts_pattern.specs.Sets.{InSet, AreRangesOf}
use Rattle.ts_pattern.specs.Signs.{IsSign, IsNoSign}
use Rattle.ts_pattern.specs.Trees.{Token, one_of, opening, closing, bar, quantifier, Pattern, spelling, re_of, passed_limit}

-- the token for a sign, of which a set is given by its ranges
abbrev pub Means : Bool → Sign → Token → Type 0
Means ignore_case (sign.Set s) t =
    (ranges : List (ℕ × ℕ)) × (t ≡ one_of ranges) × AreRangesOf ranges (InSet ignore_case s)
Means ignore_case sign.Open t = t ≡ opening
Means ignore_case sign.Close t = t ≡ closing
Means ignore_case sign.Bar t = t ≡ bar
Means ignore_case (sign.Times n m) t = t ≡ quantifier n m

-- from place i to place j stands this token
abbrev pub IsTokenAt : Bool → Text → ℕ → Token → ℕ → Type 0
IsTokenAt ignore_case w i t j = (s : Sign) × IsSign w i s j × Means ignore_case s t

-- from place i to place j stand these tokens
abbrev pub Tokens : Bool → Text → ℕ → List Token → ℕ → Type 0
Tokens ignore_case w i [] j = i ≡ j
Tokens ignore_case w i (t ∷ ts) j =
    (k : ℕ) × IsTokenAt ignore_case w i t k × Tokens ignore_case w k ts j

-- the text spells the tree
abbrev pub IsTree : Bool → Text → Pattern → Type 0
IsTree ignore_case w p = Tokens ignore_case w 0 (spelling p) (length w)

-- the source is a pattern within the limits, and stands for this regular expression
abbrev pub Reads : Bytes → Bool → Re → Type 0
Reads source ignore_case r =
    (p : Pattern) × IsTree ignore_case (chars source) p × (passed_limit p ≡ None) × (r ≡ re_of p)

-- some pattern begins with these tokens
abbrev pub Begins : List Token → Type 0
Begins ts = (rest : List Token) × (p : Pattern) × (spelling p ≡ ts ++ rest)

-- the token is a quantifier
abbrev pub is_quantifier : Token → Bool
is_quantifier (one_of ranges) = false
is_quantifier opening = false
is_quantifier closing = false
is_quantifier bar = false
is_quantifier (quantifier n m) = true

-- whether the last token, or else what stands before, is a quantifier
abbrev pub ends_quantified : Bool → List Token → Bool
ends_quantified before [] = before
ends_quantified before (t ∷ ts) = ends_quantified (is_quantifier t) ts

-- A token that no pattern has there is a fault of syntax, but for the `?` of a lazy form.
abbrev pub flaw_at : Bool → ℕ → Flaw
flaw_at quantified code = if quantified && (code == question) then Unsupported else Syntax

-- the flaw of a token at place i that no pattern has after the tokens ts
abbrev pub misplaced : List Token → Text → ℕ → Flaw
misplaced ts w i = flaw_at (ends_quantified false ts) (peek w i)

-- after the tokens ts stands at place i a token that no pattern has there
abbrev pub IsMisplaced : Bool → Text → List Token → ℕ → Flaw → ℕ → Type 0
IsMisplaced ignore_case w ts i flaw p =
    (t : Token)
    × (j : ℕ)
    × IsTokenAt ignore_case w i t j
    × (Begins (ts ++ t ∷ []) → ⊥)
    × (flaw ≡ misplaced ts w i)
    × (p ≡ i)

-- after the tokens ts the text ends at place i, and they are no pattern
abbrev pub EndsEarly : Text → List Token → ℕ → Flaw → ℕ → Type 0
EndsEarly w ts i flaw p =
    (i ≡ length w) × ((q : Pattern) → spelling q ≡ ts → ⊥) × (flaw ≡ Syntax) × (p ≡ i)

-- the tokens ts lead to place i, and the text does not go on there as a pattern can
abbrev pub GoesWrong : Bool → Text → List Token → ℕ → Flaw → ℕ → Type 0
GoesWrong ignore_case w ts i flaw p =
    IsNoSign w i flaw p ⊎ (IsMisplaced ignore_case w ts i flaw p ⊎ EndsEarly w ts i flaw p)

-- some pattern begins with the tokens before a place, and there the text goes wrong, with this
-- flaw at this place
pub record Stops (ignore_case : Bool) (w : Text) (flaw : Flaw) (place : ℕ) : Type 0 where
  pub before : List Token
  pub here : ℕ
  pub tokens : Tokens ignore_case w 0 before here
  pub begins : Begins before
  pub wrong : GoesWrong ignore_case w before here flaw place

-- the bytes before a place in characters
abbrev pub bytes_before : Text → ℕ → ℕ
bytes_before w i = length (encode_utf8_all (take i w))

-- the source has this flaw, at a place in bytes
abbrev pub IsFlawed : Bytes → Bool → Flaw → ℕ → Type 0
IsFlawed source ignore_case flaw place =
    (at : ℕ) × Stops ignore_case (chars source) flaw at × (place ≡ bytes_before (chars source) at)

-- the cause of each refusal; running out of memory has none
abbrev pub IsFault : Bytes → Bool → PFault → Type 0
IsFault source ignore_case (fault.Syntax p) = IsFlawed source ignore_case Syntax p
IsFault source ignore_case (fault.Unsupported p) = IsFlawed source ignore_case Unsupported p
IsFault source ignore_case (fault.EmptyClass p) = IsFlawed source ignore_case EmptyClass p
IsFault source ignore_case (fault.UnknownProperty p) = IsFlawed source ignore_case UnknownProperty p
IsFault source ignore_case (fault.Limit n) =
    (p : Pattern) × IsTree ignore_case (chars source) p × (passed_limit p ≡ Some n)
IsFault source ignore_case fault.Memory = ⊤

-- the fault of a source that has this flaw at this place
abbrev pub fault_of : Flaw → ℕ → PFault
fault_of Syntax p = fault.Syntax p
fault_of Unsupported p = fault.Unsupported p
fault_of EmptyClass p = fault.EmptyClass p
fault_of UnknownProperty p = fault.UnknownProperty p

-- what a text is, by its places in characters
abbrev pub IsOutcome : Bool → Text → Outcome → Type 0
IsOutcome ignore_case w (outcome.Whole r) =
    (p : Pattern) × IsTree ignore_case w p × (passed_limit p ≡ None) × (r ≡ re_of p)
IsOutcome ignore_case w (outcome.Flawed flaw at) = Stops ignore_case w flaw at
IsOutcome ignore_case w (outcome.Over n) =
    (p : Pattern) × IsTree ignore_case w p × (passed_limit p ≡ Some n)
