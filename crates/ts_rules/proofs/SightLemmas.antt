-- What stands in a rule tree, by its type.
use Rattle.std.proofs.Common.{◌≡◌, ◌∙◌, sym, ap, refl, Bool, true, List, [], ◌∷◌, map, ◌++◌}
use Rattle.std.proofs.lemmas.List.{append-nil}
use lib.IntN.{ℤ}
use Rattle.ts_base.specs.Bytes.{Bytes}
use Rattle.ts_core.specs.declared.rule.PrecValue.{PrecValue}
use Rattle.ts_core.specs.declared.rule.Rule.{Rule}
use Rattle.ts_core.specs.declared.rule.Rule.TheOpen.{Rule-F}
use Rattle.ts_core.specs.declared.rule.Rule.TheVariants as rule
use Rattle.ts_core.specs.declared.rule.Rule.TheVariants.{rolls-Blank, rolls-Literal, rolls-Pattern, rolls-Symbol, rolls-Seq, rolls-Choice, rolls-Repeat, rolls-Repeat1, rolls-Token, rolls-ImmediateToken, rolls-Field, rolls-Alias, rolls-Prec, rolls-PrecLeft, rolls-PrecRight, rolls-PrecDynamic}
use Rattle.ts_core.specs.declared.rule.Rule.TheFolds.{para-roll-Rule}
use Rattle.ts_rules.specs.Sights.{Sight, seen_all, below_step, below, sights_within, all_seen}

abbrev Below : Type 0
Below = Bool → List Sight

pub below_blank : (inside : Bool) → below (rule.Blank) inside ≡ []
below_blank inside = ap (λ (f : Below). f inside) (ap {B = Below} below (sym rolls-Blank) ∙ para-roll-Rule Below below_step (Rule-F.Blank))

pub below_literal : (text : Bytes) (inside : Bool) → below (rule.Literal text) inside ≡ []
below_literal text inside = ap (λ (f : Below). f inside) (ap {B = Below} below (sym (rolls-Literal text)) ∙ para-roll-Rule Below below_step (Rule-F.Literal text))

pub below_pattern : (value : Bytes) (ignore_case : Bool) (inside : Bool) → below (rule.Pattern value ignore_case) inside ≡ []
below_pattern value ignore_case inside = ap (λ (f : Below). f inside) (ap {B = Below} below (sym (rolls-Pattern value ignore_case)) ∙ para-roll-Rule Below below_step (Rule-F.Pattern value ignore_case))

pub below_symbol : (name : Bytes) (inside : Bool) → below (rule.Symbol name) inside ≡ []
below_symbol name inside = ap (λ (f : Below). f inside) (ap {B = Below} below (sym (rolls-Symbol name)) ∙ para-roll-Rule Below below_step (Rule-F.Symbol name))

pub below_repeat : (t : Rule) (inside : Bool) → below (rule.Repeat t) inside ≡ sights_within t inside
below_repeat t inside = ap (λ (f : Below). f inside) (ap {B = Below} below (sym (rolls-Repeat t)) ∙ para-roll-Rule Below below_step (Rule-F.Repeat t))

pub below_repeat1 : (t : Rule) (inside : Bool) → below (rule.Repeat1 t) inside ≡ sights_within t inside
below_repeat1 t inside = ap (λ (f : Below). f inside) (ap {B = Below} below (sym (rolls-Repeat1 t)) ∙ para-roll-Rule Below below_step (Rule-F.Repeat1 t))

pub below_token : (t : Rule) (inside : Bool) → below (rule.Token t) inside ≡ sights_within t true
below_token t inside = ap (λ (f : Below). f inside) (ap {B = Below} below (sym (rolls-Token t)) ∙ para-roll-Rule Below below_step (Rule-F.Token t))

pub below_immediate_token : (t : Rule) (inside : Bool) → below (rule.ImmediateToken t) inside ≡ sights_within t true
below_immediate_token t inside = ap (λ (f : Below). f inside) (ap {B = Below} below (sym (rolls-ImmediateToken t)) ∙ para-roll-Rule Below below_step (Rule-F.ImmediateToken t))

pub below_field : (name : Bytes) (t : Rule) (inside : Bool) → below (rule.Field name t) inside ≡ sights_within t inside
below_field name t inside = ap (λ (f : Below). f inside) (ap {B = Below} below (sym (rolls-Field name t)) ∙ para-roll-Rule Below below_step (Rule-F.Field name t))

pub below_alias : (t : Rule) (named : Bool) (value : Bytes) (inside : Bool) → below (rule.Alias t named value) inside ≡ sights_within t inside
below_alias t named value inside = ap (λ (f : Below). f inside) (ap {B = Below} below (sym (rolls-Alias t named value)) ∙ para-roll-Rule Below below_step (Rule-F.Alias t named value))

pub below_prec : (value : PrecValue) (t : Rule) (inside : Bool) → below (rule.Prec value t) inside ≡ sights_within t inside
below_prec value t inside = ap (λ (f : Below). f inside) (ap {B = Below} below (sym (rolls-Prec value t)) ∙ para-roll-Rule Below below_step (Rule-F.Prec value t))

pub below_prec_left : (value : PrecValue) (t : Rule) (inside : Bool) → below (rule.PrecLeft value t) inside ≡ sights_within t inside
below_prec_left value t inside = ap (λ (f : Below). f inside) (ap {B = Below} below (sym (rolls-PrecLeft value t)) ∙ para-roll-Rule Below below_step (Rule-F.PrecLeft value t))

pub below_prec_right : (value : PrecValue) (t : Rule) (inside : Bool) → below (rule.PrecRight value t) inside ≡ sights_within t inside
below_prec_right value t inside = ap (λ (f : Below). f inside) (ap {B = Below} below (sym (rolls-PrecRight value t)) ∙ para-roll-Rule Below below_step (Rule-F.PrecRight value t))

pub below_prec_dynamic : (value : ℤ) (t : Rule) (inside : Bool) → below (rule.PrecDynamic value t) inside ≡ sights_within t inside
below_prec_dynamic value t inside = ap (λ (f : Below). f inside) (ap {B = Below} below (sym (rolls-PrecDynamic value t)) ∙ para-roll-Rule Below below_step (Rule-F.PrecDynamic value t))

all_map : (ts : List Rule) (inside : Bool) → seen_all (map (λ (t : Rule). (t, below t)) ts) inside ≡ all_seen ts inside
all_map [] inside = refl
all_map (t ∷ ts) inside = ap (λ (rest : List Sight). sights_within t inside ++ rest) (all_map ts inside)

pub below_seq : (ts : List Rule) (inside : Bool) → below (rule.Seq ts) inside ≡ all_seen ts inside
below_seq ts inside = ap (λ (f : Below). f inside) (ap {B = Below} below (sym (rolls-Seq ts)) ∙ para-roll-Rule Below below_step (Rule-F.Seq ts)) ∙ all_map ts inside

pub below_choice : (ts : List Rule) (inside : Bool) → below (rule.Choice ts) inside ≡ all_seen ts inside
below_choice ts inside = ap (λ (f : Below). f inside) (ap {B = Below} below (sym (rolls-Choice ts)) ∙ para-roll-Rule Below below_step (Rule-F.Choice ts)) ∙ all_map ts inside

-- ---- lists

pub ruleset below_laws = (below_blank, below_literal, below_pattern, below_symbol, below_repeat, below_repeat1, below_token, below_immediate_token, below_field, below_alias, below_prec, below_prec_left, below_prec_right, below_prec_dynamic, below_seq, below_choice)

-- a tree with nothing below it
pub nothing_below : (start : List Sight) (tree whole : Rule) (inside : Bool) → whole ≡ tree → below tree inside ≡ [] → start ≡ start ++ below whole inside
nothing_below start tree whole inside is none =
    sym (append-nil start) ∙ ap (λ (xs : List Sight). start ++ xs) (sym none ∙ ap (λ (t : Rule). below t inside) (sym is))
