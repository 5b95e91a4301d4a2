-- Mentions that are lent, as the code has them.
use Rattle.std.specs.Prelude.{List, map}
use Rattle.ts_query_names.specs.declared.mention.Mention.{Mention as Lent}
use Rattle.ts_query_names.specs.declared.mention.Mention.TheVariants as lent
use Rattle.ts_query_names.specs.Mentions.{Mention, kind, field, capture, predicate, nested}

-- a mention itself
abbrev pub mention_told : Lent → Mention
mention_told (lent.Kind name named) = kind name.now named
mention_told (lent.Field name) = field name.now
mention_told (lent.Capture name) = capture name.now
mention_told (lent.Predicate name operands) = predicate name.now operands.now
mention_told (lent.Nested at) = nested at

-- the mentions themselves
abbrev pub mentions_told : List Lent → List Mention
mentions_told = map mention_told
