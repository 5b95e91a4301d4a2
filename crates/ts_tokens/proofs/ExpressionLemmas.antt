-- What a rule tree is as a regular expression, by its type.
use Rattle.std.proofs.Common.{◌≡◌, ◌∙◌, sym, ap, Bool, List, map, None}
use Rattle.std.specs.Str.{chars}
use lib.IntN.{ℤ}
use Rattle.ts_base.specs.Bytes.{Bytes}
use Rattle.ts_core.specs.declared.re.Re.{Re}
use Rattle.ts_core.specs.declared.re.Re.TheVariants as re
use Rattle.ts_core.specs.declared.rule.PrecValue.{PrecValue}
use Rattle.ts_core.specs.declared.rule.Rule.{Rule}
use Rattle.ts_core.specs.declared.rule.Rule.TheOpen.{Rule-F}
use Rattle.ts_core.specs.declared.rule.Rule.TheVariants as rule
use Rattle.ts_core.specs.declared.rule.Rule.TheVariants.{rolls-Blank, rolls-Literal, rolls-Pattern, rolls-Symbol, rolls-Seq, rolls-Choice, rolls-Repeat, rolls-Repeat1, rolls-Token, rolls-ImmediateToken, rolls-Field, rolls-Alias, rolls-Prec, rolls-PrecLeft, rolls-PrecRight, rolls-PrecDynamic}
use Rattle.ts_core.specs.declared.rule.Rule.TheFolds.{fold-roll-Rule}
use Rattle.ts_rules.specs.Tokens.{Patterns, re_step, tree_re, cat_of, alt_of, one_char}

pub re_blank : (p : Patterns) → tree_re p (rule.Blank) ≡ re.Empty
re_blank p = ap (tree_re p) (sym rolls-Blank) ∙ fold-roll-Rule Re (re_step p) (Rule-F.Blank)

pub re_literal : (p : Patterns) (text : Bytes) → tree_re p (rule.Literal text) ≡ cat_of (map one_char (chars text))
re_literal p text = ap (tree_re p) (sym (rolls-Literal text)) ∙ fold-roll-Rule Re (re_step p) (Rule-F.Literal text)

pub re_pattern : (p : Patterns) (value : Bytes) (ignore_case : Bool) → tree_re p (rule.Pattern value ignore_case) ≡ p value ignore_case
re_pattern p value ignore_case = ap (tree_re p) (sym (rolls-Pattern value ignore_case)) ∙ fold-roll-Rule Re (re_step p) (Rule-F.Pattern value ignore_case)

pub re_symbol : (p : Patterns) (name : Bytes) → tree_re p (rule.Symbol name) ≡ re.Empty
re_symbol p name = ap (tree_re p) (sym (rolls-Symbol name)) ∙ fold-roll-Rule Re (re_step p) (Rule-F.Symbol name)

pub re_seq : (p : Patterns) (ts : List Rule) → tree_re p (rule.Seq ts) ≡ cat_of (map (tree_re p) ts)
re_seq p ts = ap (tree_re p) (sym (rolls-Seq ts)) ∙ fold-roll-Rule Re (re_step p) (Rule-F.Seq ts)

pub re_choice : (p : Patterns) (ts : List Rule) → tree_re p (rule.Choice ts) ≡ alt_of (map (tree_re p) ts)
re_choice p ts = ap (tree_re p) (sym (rolls-Choice ts)) ∙ fold-roll-Rule Re (re_step p) (Rule-F.Choice ts)

pub re_repeat : (p : Patterns) (t : Rule) → tree_re p (rule.Repeat t) ≡ re.Repeat (tree_re p t) 0 None
re_repeat p t = ap (tree_re p) (sym (rolls-Repeat t)) ∙ fold-roll-Rule Re (re_step p) (Rule-F.Repeat t)

pub re_repeat1 : (p : Patterns) (t : Rule) → tree_re p (rule.Repeat1 t) ≡ re.Repeat (tree_re p t) 1 None
re_repeat1 p t = ap (tree_re p) (sym (rolls-Repeat1 t)) ∙ fold-roll-Rule Re (re_step p) (Rule-F.Repeat1 t)

pub re_token : (p : Patterns) (t : Rule) → tree_re p (rule.Token t) ≡ tree_re p t
re_token p t = ap (tree_re p) (sym (rolls-Token t)) ∙ fold-roll-Rule Re (re_step p) (Rule-F.Token t)

pub re_immediate_token : (p : Patterns) (t : Rule) → tree_re p (rule.ImmediateToken t) ≡ tree_re p t
re_immediate_token p t = ap (tree_re p) (sym (rolls-ImmediateToken t)) ∙ fold-roll-Rule Re (re_step p) (Rule-F.ImmediateToken t)

pub re_field : (p : Patterns) (name : Bytes) (t : Rule) → tree_re p (rule.Field name t) ≡ tree_re p t
re_field p name t = ap (tree_re p) (sym (rolls-Field name t)) ∙ fold-roll-Rule Re (re_step p) (Rule-F.Field name t)

pub re_alias : (p : Patterns) (t : Rule) (named : Bool) (value : Bytes) → tree_re p (rule.Alias t named value) ≡ tree_re p t
re_alias p t named value = ap (tree_re p) (sym (rolls-Alias t named value)) ∙ fold-roll-Rule Re (re_step p) (Rule-F.Alias t named value)

pub re_prec : (p : Patterns) (value : PrecValue) (t : Rule) → tree_re p (rule.Prec value t) ≡ tree_re p t
re_prec p value t = ap (tree_re p) (sym (rolls-Prec value t)) ∙ fold-roll-Rule Re (re_step p) (Rule-F.Prec value t)

pub re_prec_left : (p : Patterns) (value : PrecValue) (t : Rule) → tree_re p (rule.PrecLeft value t) ≡ tree_re p t
re_prec_left p value t = ap (tree_re p) (sym (rolls-PrecLeft value t)) ∙ fold-roll-Rule Re (re_step p) (Rule-F.PrecLeft value t)

pub re_prec_right : (p : Patterns) (value : PrecValue) (t : Rule) → tree_re p (rule.PrecRight value t) ≡ tree_re p t
re_prec_right p value t = ap (tree_re p) (sym (rolls-PrecRight value t)) ∙ fold-roll-Rule Re (re_step p) (Rule-F.PrecRight value t)

pub re_prec_dynamic : (p : Patterns) (value : ℤ) (t : Rule) → tree_re p (rule.PrecDynamic value t) ≡ tree_re p t
re_prec_dynamic p value t = ap (tree_re p) (sym (rolls-PrecDynamic value t)) ∙ fold-roll-Rule Re (re_step p) (Rule-F.PrecDynamic value t)

pub ruleset re_laws = (re_blank, re_literal, re_pattern, re_symbol, re_seq, re_choice, re_repeat, re_repeat1, re_token, re_immediate_token, re_field, re_alias, re_prec, re_prec_left, re_prec_right, re_prec_dynamic)
