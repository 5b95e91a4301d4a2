-- The names of a normal form are short.
use Rattle.std.proofs.Common.{◌≡◌, sym, subst, ℕ, ◌≤◌, ⊎_elim, List, [], ◌∷◌, length, slice_get, Some, All, arith}
use Rattle.std.specs.List.{Contains, flat_map}
use Rattle.std.proofs.lemmas.List.Elements.{All-contains, Contains-append_cases}
use Rattle.ts_base.specs.Bytes.{Bytes}
use Rattle.ts_core.specs.declared.flat.FlatGrammar.{FlatGrammar}
use Rattle.ts_core.specs.declared.flat.FlatRule.{FlatRule}
use Rattle.ts_core.specs.declared.rule.Grammar.{Grammar}
use Rattle.ts_core.specs.declared.rule.PrecValue.{PrecValue}
use Rattle.ts_core.specs.declared.rule.Ranked.{Ranked}
use Rattle.ts_core.specs.declared.rule.Rule.{Rule}
use Rattle.ts_core.specs.declared.rule.Rule.TheOpen.{Rule-F}
use Rattle.ts_core.specs.declared.rule.Rule.TheViews.{out-Rule}
use Rattle.spec_tables.specs.Fit.{IsShort, AreShort}
use Rattle.ts_pattern.specs.Reads.{Reads}
use Rattle.ts_rules.specs.FileGrammar.{IsFileGrammar, IsSmallLayer, IsSmallSight, HasShortName, HasShortEntry}
use Rattle.ts_rules.specs.Normal.{IsNormal}
use Rattle.ts_rules.specs.Numbers.{HasSymbol}
use Rattle.ts_rules.specs.Sights.{NamedRule, Sight, walk, fields_in, field_layer, name_in, precs_in, prec_layer, ranked_name, ranked_names}
use Rattle.ts_normalise.proofs.ListLemmas.{there, none_in, member_cases, in_flat, picked}
use Rattle.ts_normalise.proofs.FitLimitLemmas.{few_fields, few_precs}
use Rattle.ts_normalise.proofs.FitPlaceLemmas.{rule_cases}
use Rattle.ts_normalise.proofs.FitRefusalLemmas.{IsUnrefused}
use Rattle.ts_normalise.proofs.FitStepLemmas.{all_of}

pub few_short : {X : Type 0} (xs : List X) → length xs ≤ 16384 → IsShort xs
few_short xs few = omega arith

only_short : (name other : Bytes) → IsShort name → Contains (name ∷ []) other → IsShort other
only_short name other h w = ⊎_elim (λ e. subst (λ (z : Bytes). IsShort z) (sym e) h) (λ none. absurd (none_in other none)) (member_cases name other [] w)

short_value : (value : PrecValue) (name : Bytes) → HasShortName value → Contains (name_in value) name → IsShort name
short_value (PrecValue.Number value) name h w = absurd (none_in name w)
short_value (PrecValue.Name text) name h w = only_short text name h w

short_field : (layer : Rule-F Rule) (name : Bytes) → IsSmallLayer layer → Contains (field_layer layer) name → IsShort name
short_field (Rule-F.Field text content) name h w = only_short text name h w
short_field Rule-F.Blank name h w = absurd (none_in name w)
short_field (Rule-F.Literal a) name h w = absurd (none_in name w)
short_field (Rule-F.Pattern a b) name h w = absurd (none_in name w)
short_field (Rule-F.Symbol a) name h w = absurd (none_in name w)
short_field (Rule-F.Seq a) name h w = absurd (none_in name w)
short_field (Rule-F.Choice a) name h w = absurd (none_in name w)
short_field (Rule-F.Repeat a) name h w = absurd (none_in name w)
short_field (Rule-F.Repeat1 a) name h w = absurd (none_in name w)
short_field (Rule-F.Token a) name h w = absurd (none_in name w)
short_field (Rule-F.ImmediateToken a) name h w = absurd (none_in name w)
short_field (Rule-F.Alias a b c) name h w = absurd (none_in name w)
short_field (Rule-F.Prec a b) name h w = absurd (none_in name w)
short_field (Rule-F.PrecLeft a b) name h w = absurd (none_in name w)
short_field (Rule-F.PrecRight a b) name h w = absurd (none_in name w)
short_field (Rule-F.PrecDynamic a b) name h w = absurd (none_in name w)

short_prec : (layer : Rule-F Rule) (name : Bytes) → IsSmallLayer layer → Contains (prec_layer layer) name → IsShort name
short_prec (Rule-F.Prec value content) name h w = short_value value name h w
short_prec (Rule-F.PrecLeft value content) name h w = short_value value name h w
short_prec (Rule-F.PrecRight value content) name h w = short_value value name h w
short_prec Rule-F.Blank name h w = absurd (none_in name w)
short_prec (Rule-F.Literal a) name h w = absurd (none_in name w)
short_prec (Rule-F.Pattern a b) name h w = absurd (none_in name w)
short_prec (Rule-F.Symbol a) name h w = absurd (none_in name w)
short_prec (Rule-F.Seq a) name h w = absurd (none_in name w)
short_prec (Rule-F.Choice a) name h w = absurd (none_in name w)
short_prec (Rule-F.Repeat a) name h w = absurd (none_in name w)
short_prec (Rule-F.Repeat1 a) name h w = absurd (none_in name w)
short_prec (Rule-F.Token a) name h w = absurd (none_in name w)
short_prec (Rule-F.ImmediateToken a) name h w = absurd (none_in name w)
short_prec (Rule-F.Field a b) name h w = absurd (none_in name w)
short_prec (Rule-F.Alias a b c) name h w = absurd (none_in name w)
short_prec (Rule-F.PrecDynamic a b) name h w = absurd (none_in name w)

short_entry : (entry : Ranked) (name : Bytes) → HasShortEntry entry → Contains (ranked_name entry) name → IsShort name
short_entry (Ranked.Name text) name h w = only_short text name h w
short_entry (Ranked.Rule text) name h w = absurd (none_in name w)

module _ (g : Grammar) (file : IsFileGrammar g) where
  small_at : (s : Sight) → Contains (walk g) s → IsSmallLayer (out-Rule s.tree)
  small_at s w = All-contains IsSmallSight (walk g) s file.small w

  field_short : (name : Bytes) → Contains (fields_in (walk g)) name → IsShort name
  field_short name w =
      let r = in_flat (λ (s : Sight). field_layer (out-Rule s.tree)) (walk g) name w in
      short_field (out-Rule r.0.tree) name (small_at r.0 r.1) r.2

  prec_short : (name : Bytes) → Contains (precs_in (walk g)) name → IsShort name
  prec_short name w =
      let r = in_flat (λ (s : Sight). prec_layer (out-Rule s.tree)) (walk g) name w in
      short_prec (out-Rule r.0.tree) name (small_at r.0 r.1) r.2

  ranked_short : (name : Bytes) → Contains (ranked_names g) name → IsShort name
  ranked_short name w =
      let r = in_flat (λ (entries : List Ranked). flat_map ranked_name entries) g.precedences name w in
      let q = in_flat ranked_name r.0 name r.2 in
      let h = All-contains (λ (entries : List Ranked). IsShort entries × All HasShortEntry entries) g.precedences r.0 file.precedences.1 r.1 in
      short_entry q.0 name (All-contains HasShortEntry r.0 q.0 h.1 q.1) q.2

module _ (g : Grammar) (f : FlatGrammar) (normal : IsNormal Reads g f) (file : IsFileGrammar g) where
  pub name_short : IsShort f.name
  name_short = subst (λ (name : Bytes). IsShort name) (sym normal.name) file.name

  pub rule_name_short : (k : ℕ) (r : FlatRule) → slice_get f.rules k ≡ Some r → IsShort r.name
  rule_name_short k r at = ⊎_elim
      (λ h.
      let p = picked (HasSymbol g) g.rules normal.lists.rules h.0 normal.are_lists.rules (there normal.lists.rules k h.0 h.1) in
      subst (λ (name : Bytes). IsShort name) (sym h.2.name) (All-contains (λ (rule : NamedRule). IsShort rule.0) g.rules h.0 file.names p.0))
      (λ h. let is = h.4 in subst (λ (name : Bytes). IsShort name) (sym is.name) (few_short {X = ℕ} [] (omega arith)))
      (rule_cases g f normal k r at)

  module _ (sane : IsUnrefused g) where
    pub fields_short : AreShort f.fields
    fields_short = (
      few_short f.fields (few_fields g f normal sane),
      subst (λ (names : List Bytes). All (λ (xs : Bytes). IsShort xs) names) (sym normal.fields)
          (all_of (λ (xs : Bytes). IsShort xs) normal.lists.fields (λ name w. field_short g file name (normal.are_lists.fields.only name w))),
    )

    pub precs_short : AreShort f.precs
    precs_short = (
      few_short f.precs (few_precs g f normal sane),
      subst (λ (names : List Bytes). All (λ (xs : Bytes). IsShort xs) names) (sym normal.precs)
          (all_of (λ (xs : Bytes). IsShort xs) normal.lists.precs (λ name w. ⊎_elim
          (λ h. prec_short g file name h)
          (λ h. ranked_short g file name h)
          (Contains-append_cases (precs_in (walk g)) (ranked_names g) name (normal.are_lists.precs.only name w)))),
    )
