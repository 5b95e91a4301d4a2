use Rattle.std.proofs.Common.{◌≡◌, true, sym, subst}
use Rattle.std.proofs.lemmas.Result.{IfOk-weaker}
use Rattle.ucd_sets.specs.Sets.{in_set}
use Rattle.ts_pattern.specs.declared.item.Base.{Base}
use Rattle.ts_pattern.specs.Sets.{in_base}
use Rattle.ts_pattern.specs.Classify.{Have}
use Rattle.ts_pattern.proofs.SetLemmas.{have_table}
use Rattle.ts_pattern.proofs.sets.base_ranges.Goals as goal

pub returns-in-Property : goal.returns-in-Property
returns-in-Property c =
    IfOk-weaker c.ranges-in-Property.result _ _ (λ v h. subst (λ (b : Base). Have v.items (λ x. in_base b x ≡ true)) (sym c.in-Property.is) (have_table v.items (in_set c.in-Property.set) h)) c.ranges-in-Property.ensures.members
