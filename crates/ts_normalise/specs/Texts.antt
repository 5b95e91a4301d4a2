-- The texts that tokens are made of.
use Rattle.std.specs.Prelude.{◌<◌, ◌^◌, suc, length, All}
use Rattle.std.specs.Str.{IsUtf8}
use Rattle.ts_core.specs.declared.rule.Grammar.{Grammar}
use Rattle.ts_core.specs.declared.rule.Rule.{Rule}
use Rattle.ts_core.specs.declared.rule.Rule.TheOpen.{Rule-F}
use Rattle.ts_core.specs.declared.rule.Rule.TheViews.{out-Rule}
use Rattle.ts_rules.specs.Sights.{Sight, walk}

-- a literal is a text in UTF-8, and a pattern is shorter than 2 ^ 32 - 1 bytes: its branches, one
-- more than its bars, can then be counted in 32 bits
abbrev pub IsFitText : Rule-F Rule → Type 0
IsFitText Rule-F.Blank = Unit {0}
IsFitText (Rule-F.Literal text) = IsUtf8 text
IsFitText (Rule-F.Pattern value ignore_case) = suc (length value) < 2 ^ 32
IsFitText (Rule-F.Symbol name) = Unit {0}
IsFitText (Rule-F.Seq members) = Unit {0}
IsFitText (Rule-F.Choice members) = Unit {0}
IsFitText (Rule-F.Repeat content) = Unit {0}
IsFitText (Rule-F.Repeat1 content) = Unit {0}
IsFitText (Rule-F.Token content) = Unit {0}
IsFitText (Rule-F.ImmediateToken content) = Unit {0}
IsFitText (Rule-F.Field name content) = Unit {0}
IsFitText (Rule-F.Alias content named value) = Unit {0}
IsFitText (Rule-F.Prec value content) = Unit {0}
IsFitText (Rule-F.PrecLeft value content) = Unit {0}
IsFitText (Rule-F.PrecRight value content) = Unit {0}
IsFitText (Rule-F.PrecDynamic value content) = Unit {0}

-- so is the text of a tree that is seen, where it is a literal or a pattern
abbrev pub HasFitText : Sight → Type 0
HasFitText sight = IsFitText (out-Rule sight.tree)

-- so are all texts that are seen in the rules and extras
abbrev pub HasFitTexts : Grammar → Type 0
HasFitTexts g = All HasFitText (walk g)
