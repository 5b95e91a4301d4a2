use Rattle.std.proofs.Common.{◌&&◌, not, ap, ◌∙◌}
use Rattle.regex_class.specs.Ranges.{in_ranges}
use Rattle.ts_pattern.proofs.SetLemmas.{HasExactly-within, scalar_or_not}
use Rattle.ts_pattern.proofs.sets.characters.Goals as goal

pub returns : goal.returns
returns c =
    let rs = c.args.class.ranges.items in
    HasExactly-within _ _ _ (λ x le. ap (λ b. in_ranges rs x && b) (ap not (c.in_ok-surrogates.ensures x le) ∙ scalar_or_not x le)) c.difference.ensures
