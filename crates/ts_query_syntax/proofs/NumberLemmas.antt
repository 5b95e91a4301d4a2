-- Names by their numbers, put together of their lists.
use Rattle.std.proofs.Common.{◌≡◌, ◌∙◌, ap, List}
use Rattle.ts_base.specs.Bytes.{Bytes}
use Rattle.ts_query_names.specs.Mentions.{KindName}
use Rattle.ts_query_names.specs.Numbers.{Names}

abbrev made : List KindName → List Bytes → List Bytes → Names
made kinds captures fields = record { kinds = kinds; captures = captures; fields = fields }

pub names_made : (n m : Names) → n.kinds ≡ m.kinds → n.captures ≡ m.captures → n.fields ≡ m.fields → n ≡ m
names_made n m a b c =
    ap (λ (x : List KindName). made x n.captures n.fields) a
    ∙ ap (λ (x : List Bytes). made m.kinds x n.fields) b
    ∙ ap (λ (x : List Bytes). made m.kinds m.captures x) c
