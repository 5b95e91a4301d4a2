use Rattle.std.proofs.Common.{◌≡◌, ◌∙◌, sym, ap, subst, List}
use Rattle.std.specs.List.{Contains}
use Rattle.ts_pattern.specs.Reads.{Reads}
use Rattle.ts_rules.specs.Normal.{ArePatterns}
use Rattle.ts_tokens.specs.declared.table.PatternTable.{PatternTable}
use Rattle.ts_tokens.specs.Patterns.{PlacedPattern, AreShortSources, placed_patterns, IsSound, WasRead, meaning}
use Rattle.ts_tokens.specs.Placed.{told_patterns}
use Rattle.ts_tokens.proofs.PlacedLemmas.{short_sources}
use Rattle.ts_tokens.proofs.TableLemmas.{all_mean, if_ok_both}
use Rattle.ts_tokens.proofs.table.read_patterns.Goals as goal

pub read_all-requires : goal.read_all-requires
read_all-requires c =
    let same : told_patterns c.as_slice.result.now ≡ placed_patterns c.args.grammar.now = ap told_patterns c.as_slice.ensures.value ∙ c.in_ok-placed.ensures in
    subst (λ (xs : List PlacedPattern). AreShortSources xs) (sym same) (short_sources c.args.grammar.now c.requires.small)

pub returns-clause-read : goal.returns-clause-read
returns-clause-read c =
    let g = c.args.grammar.now in
    let same : told_patterns c.as_slice.result.now ≡ placed_patterns g = ap told_patterns c.as_slice.ensures.value ∙ c.in_ok-placed.ensures in
    if_ok_both c.read_all.result IsSound (λ (t : PatternTable). (p : PlacedPattern) → Contains (told_patterns c.as_slice.result.now) p → WasRead t p.source) (λ (t : PatternTable). ArePatterns Reads g (meaning t))
    (λ t sound all. all_mean g t sound (λ p w. all p (subst (λ (xs : List PlacedPattern). Contains xs p) (sym same) w)))
    c.read_all.ensures.sound c.read_all.ensures.all
