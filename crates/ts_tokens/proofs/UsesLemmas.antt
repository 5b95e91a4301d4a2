-- The rules that a rule tree steps to, by its type.
use Rattle.std.proofs.Common.{◌≡◌, ◌∙◌, sym, ap, Bool, List, [], ◌∷◌, map}
use lib.IntN.{ℤ}
use Rattle.ts_base.specs.Bytes.{Bytes}
use Rattle.ts_core.specs.declared.rule.PrecValue.{PrecValue}
use Rattle.ts_core.specs.declared.rule.Rule.{Rule}
use Rattle.ts_core.specs.declared.rule.Rule.TheOpen.{Rule-F}
use Rattle.ts_core.specs.declared.rule.Rule.TheVariants as rule
use Rattle.ts_core.specs.declared.rule.Rule.TheVariants.{rolls-Blank, rolls-Literal, rolls-Pattern, rolls-Symbol, rolls-Seq, rolls-Choice, rolls-Repeat, rolls-Repeat1, rolls-Token, rolls-ImmediateToken, rolls-Field, rolls-Alias, rolls-Prec, rolls-PrecLeft, rolls-PrecRight, rolls-PrecDynamic}
use Rattle.ts_core.specs.declared.rule.Rule.TheFolds.{fold-roll-Rule}
use Rattle.ts_rules.specs.Causes.{uses, uses_step, merged}

pub uses_blank : uses (rule.Blank) ≡ []
uses_blank = ap uses (sym rolls-Blank) ∙ fold-roll-Rule (List Bytes) uses_step (Rule-F.Blank)

pub uses_literal : (text : Bytes) → uses (rule.Literal text) ≡ []
uses_literal text = ap uses (sym (rolls-Literal text)) ∙ fold-roll-Rule (List Bytes) uses_step (Rule-F.Literal text)

pub uses_pattern : (value : Bytes) (ignore_case : Bool) → uses (rule.Pattern value ignore_case) ≡ []
uses_pattern value ignore_case = ap uses (sym (rolls-Pattern value ignore_case)) ∙ fold-roll-Rule (List Bytes) uses_step (Rule-F.Pattern value ignore_case)

pub uses_symbol : (name : Bytes) → uses (rule.Symbol name) ≡ name ∷ []
uses_symbol name = ap uses (sym (rolls-Symbol name)) ∙ fold-roll-Rule (List Bytes) uses_step (Rule-F.Symbol name)

pub uses_seq : (ts : List Rule) → uses (rule.Seq ts) ≡ merged (map uses ts)
uses_seq ts = ap uses (sym (rolls-Seq ts)) ∙ fold-roll-Rule (List Bytes) uses_step (Rule-F.Seq ts)

pub uses_choice : (ts : List Rule) → uses (rule.Choice ts) ≡ merged (map uses ts)
uses_choice ts = ap uses (sym (rolls-Choice ts)) ∙ fold-roll-Rule (List Bytes) uses_step (Rule-F.Choice ts)

pub uses_repeat : (t : Rule) → uses (rule.Repeat t) ≡ []
uses_repeat t = ap uses (sym (rolls-Repeat t)) ∙ fold-roll-Rule (List Bytes) uses_step (Rule-F.Repeat t)

pub uses_repeat1 : (t : Rule) → uses (rule.Repeat1 t) ≡ []
uses_repeat1 t = ap uses (sym (rolls-Repeat1 t)) ∙ fold-roll-Rule (List Bytes) uses_step (Rule-F.Repeat1 t)

pub uses_token : (t : Rule) → uses (rule.Token t) ≡ []
uses_token t = ap uses (sym (rolls-Token t)) ∙ fold-roll-Rule (List Bytes) uses_step (Rule-F.Token t)

pub uses_immediate_token : (t : Rule) → uses (rule.ImmediateToken t) ≡ []
uses_immediate_token t = ap uses (sym (rolls-ImmediateToken t)) ∙ fold-roll-Rule (List Bytes) uses_step (Rule-F.ImmediateToken t)

pub uses_field : (name : Bytes) (t : Rule) → uses (rule.Field name t) ≡ uses t
uses_field name t = ap uses (sym (rolls-Field name t)) ∙ fold-roll-Rule (List Bytes) uses_step (Rule-F.Field name t)

pub uses_alias : (t : Rule) (named : Bool) (value : Bytes) → uses (rule.Alias t named value) ≡ uses t
uses_alias t named value = ap uses (sym (rolls-Alias t named value)) ∙ fold-roll-Rule (List Bytes) uses_step (Rule-F.Alias t named value)

pub uses_prec : (value : PrecValue) (t : Rule) → uses (rule.Prec value t) ≡ uses t
uses_prec value t = ap uses (sym (rolls-Prec value t)) ∙ fold-roll-Rule (List Bytes) uses_step (Rule-F.Prec value t)

pub uses_prec_left : (value : PrecValue) (t : Rule) → uses (rule.PrecLeft value t) ≡ uses t
uses_prec_left value t = ap uses (sym (rolls-PrecLeft value t)) ∙ fold-roll-Rule (List Bytes) uses_step (Rule-F.PrecLeft value t)

pub uses_prec_right : (value : PrecValue) (t : Rule) → uses (rule.PrecRight value t) ≡ uses t
uses_prec_right value t = ap uses (sym (rolls-PrecRight value t)) ∙ fold-roll-Rule (List Bytes) uses_step (Rule-F.PrecRight value t)

pub uses_prec_dynamic : (value : ℤ) (t : Rule) → uses (rule.PrecDynamic value t) ≡ uses t
uses_prec_dynamic value t = ap uses (sym (rolls-PrecDynamic value t)) ∙ fold-roll-Rule (List Bytes) uses_step (Rule-F.PrecDynamic value t)

pub ruleset uses_laws = (uses_blank, uses_literal, uses_pattern, uses_symbol, uses_seq, uses_choice, uses_repeat, uses_repeat1, uses_token, uses_immediate_token, uses_field, uses_alias, uses_prec, uses_prec_left, uses_prec_right, uses_prec_dynamic)
