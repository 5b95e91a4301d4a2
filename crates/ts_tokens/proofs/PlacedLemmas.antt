-- The sources of the patterns of a grammar are those of its walk, and are short in a grammar file.
use Rattle.std.proofs.Common.{◌≡◌, ◌∙◌, sym, ap, subst, refl, ℕ, ◌<◌, ◌⊎◌, inl, inr, List, [], ◌∷◌, ◌++◌, map, All}
use Rattle.std.specs.List.{Contains, flat_map}
use Rattle.std.proofs.lemmas.List.{map-append}
use Rattle.std.proofs.lemmas.List.Concat.{flat_map-append}
use Rattle.std.proofs.lemmas.List.Elements.{All-contains}
use Rattle.ts_base.specs.Bytes.{Bytes}
use Rattle.ts_core.specs.declared.rule.Grammar.{Grammar}
use Rattle.ts_core.specs.declared.rule.Rule.{Rule}
use Rattle.ts_core.specs.declared.rule.Rule.TheOpen.{Rule-F}
use Rattle.ts_core.specs.declared.rule.Rule.TheViews.{out-Rule}
use Rattle.spec_tables.specs.Fit.{IsShort}
use Rattle.ts_rules.specs.FileGrammar.{IsSmallLayer, IsSmallSight}
use Rattle.ts_rules.specs.Sights.{NamedRule, Sight, Source, sights, seen_rules, walk, patterns_in, pattern_layer}
use Rattle.ts_tokens.specs.Patterns.{PlacedPattern, placed, placed_sources, placed_in, rule_patterns, extra_patterns, placed_patterns, AreShortSources}
use Rattle.ts_tokens.proofs.MemberLemmas.{map_in, in_map, in_flat_map, none_in, member_cases}

abbrev source_of : PlacedPattern → Source
source_of p = p.source

sources_same : (rule : Bytes) (sources : List Source) → map source_of (placed_sources rule sources) ≡ sources
sources_same rule [] = refl
sources_same rule (s ∷ sources) = ap (λ (xs : List Source). s ∷ xs) (sources_same rule sources)

patterns_append : (xs ys : List Sight) → patterns_in (xs ++ ys) ≡ patterns_in xs ++ patterns_in ys
patterns_append xs ys = flat_map-append (λ (sight : Sight). pattern_layer (out-Rule sight.tree)) xs ys

both : (xs ys : List PlacedPattern) (us vs : List Sight) → map source_of xs ≡ patterns_in us → map source_of ys ≡ patterns_in vs → map source_of (xs ++ ys) ≡ patterns_in (us ++ vs)
both xs ys us vs e d =
    map-append source_of xs ys
    ∙ ap (λ (zs : List Source). zs ++ map source_of ys) e
    ∙ ap (λ (zs : List Source). patterns_in us ++ zs) d
    ∙ sym (patterns_append us vs)

rule_sources : (rules : List NamedRule) → map source_of (rule_patterns rules) ≡ patterns_in (seen_rules rules)
rule_sources [] = refl
rule_sources (rule ∷ rules) = both (placed_in rule.0 (sights rule.1)) (rule_patterns rules) (sights rule.1) (seen_rules rules) (sources_same rule.0 (patterns_in (sights rule.1))) (rule_sources rules)

extra_sources : (extras : List Rule) → map source_of (extra_patterns extras) ≡ patterns_in (flat_map sights extras)
extra_sources [] = refl
extra_sources (tree ∷ extras) = both (placed_in [] (sights tree)) (extra_patterns extras) (sights tree) (flat_map sights extras) (sources_same [] (patterns_in (sights tree))) (extra_sources extras)

all_sources : (g : Grammar) → map source_of (placed_patterns g) ≡ patterns_in (walk g)
all_sources g = both (rule_patterns g.rules) (extra_patterns g.extras) (seen_rules g.rules) (flat_map sights g.extras) (rule_sources g.rules) (extra_sources g.extras)

-- each source of the walk is that of a pattern
pub placed_of : (g : Grammar) (s : Source) → Contains (patterns_in (walk g)) s → (p : PlacedPattern) × Contains (placed_patterns g) p × (p.source ≡ s)
placed_of g s w = in_map source_of (placed_patterns g) s (subst (λ (xs : List Source). Contains xs s) (sym (all_sources g)) w)

short_layer : (layer : Rule-F Rule) (s : Source) → IsSmallLayer layer → Contains (pattern_layer layer) s → IsShort s.0
short_layer (Rule-F.Pattern value ignore_case) s small w = by (member_cases (value, ignore_case) s [] w)
  where
    by : (s ≡ (value, ignore_case)) ⊎ Contains [] s → IsShort s.0
    by (inl e) = subst (λ (x : Source). IsShort x.0) (sym e) small
    by (inr v) = absurd (none_in s v)
short_layer Rule-F.Blank s small w = absurd (none_in s w)
short_layer (Rule-F.Literal text) s small w = absurd (none_in s w)
short_layer (Rule-F.Symbol name) s small w = absurd (none_in s w)
short_layer (Rule-F.Seq ts) s small w = absurd (none_in s w)
short_layer (Rule-F.Choice ts) s small w = absurd (none_in s w)
short_layer (Rule-F.Repeat t) s small w = absurd (none_in s w)
short_layer (Rule-F.Repeat1 t) s small w = absurd (none_in s w)
short_layer (Rule-F.Token t) s small w = absurd (none_in s w)
short_layer (Rule-F.ImmediateToken t) s small w = absurd (none_in s w)
short_layer (Rule-F.Field name t) s small w = absurd (none_in s w)
short_layer (Rule-F.Alias t named value) s small w = absurd (none_in s w)
short_layer (Rule-F.Prec value t) s small w = absurd (none_in s w)
short_layer (Rule-F.PrecLeft value t) s small w = absurd (none_in s w)
short_layer (Rule-F.PrecRight value t) s small w = absurd (none_in s w)
short_layer (Rule-F.PrecDynamic value t) s small w = absurd (none_in s w)

-- in a grammar file the sources are short
pub short_sources : (g : Grammar) → All IsSmallSight (walk g) → AreShortSources (placed_patterns g)
short_sources g small p w =
    let there = subst (λ (xs : List Source). Contains xs p.source) (all_sources g) (map_in source_of (placed_patterns g) p w) in
    let sight = in_flat_map (λ (sight : Sight). pattern_layer (out-Rule sight.tree)) (walk g) p.source there in
    short_layer (out-Rule sight.0.tree) p.source (All-contains IsSmallSight (walk g) sight.0 small sight.1) sight.2
