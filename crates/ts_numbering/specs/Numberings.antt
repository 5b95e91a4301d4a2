-- The lists and the numbers that a numbering stands for.
use Rattle.std.specs.Prelude.{List}
use Rattle.ts_base.specs.Bytes.{Bytes}
use Rattle.ts_rules.specs.Names.{told}
use Rattle.ts_rules.specs.Numbers.{Lists, Numbers}
use Rattle.ts_numbering.specs.Keys.{trees, rules_told, aliases_told}
use Rattle.ts_numbering.specs.Places.{numbers_by}
use Rattle.ts_numbering.specs.declared.numbering.Numbering.{Numbering}
use Rattle.ts_numbering.specs.declared.survey.Survey.{Survey}

-- what has a number in the rules, and the names
abbrev pub lists_with : Survey → List Bytes → List Bytes → Lists
lists_with survey fields precs = record {
  tokens = trees survey.tokens.keys;
  rules = rules_told survey.rules.entries;
  contents = trees survey.contents.keys;
  inlined = rules_told survey.inlined.entries;
  fields = fields;
  precs = precs;
}

-- the lists that a numbering stands for
abbrev pub lists_of : Numbering → Lists
lists_of n = lists_with n.survey (told n.fields.keys) (told n.precs.keys)

-- the numbers that a numbering stands for
abbrev pub numbers_of : Numbering → Numbers
numbers_of n = numbers_by (lists_of n) (rules_told n.survey.named.entries)
    (aliases_told n.aliases.keys)
