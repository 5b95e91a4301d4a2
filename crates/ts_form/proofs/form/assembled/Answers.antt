use Rattle.std.proofs.Common.{◌∙◌}
use Rattle.ts_numbering.specs.Numberings.{lists_of, numbers_of}
use Rattle.ts_tokens.specs.Patterns.{meaning}
use Rattle.ts_form.proofs.form.assembled.Goals as goal

pub returns : goal.returns
returns c =
    let are = c.requires.numbering in
    let rules = c.requires.rules in
    record {
      numbers = numbers_of c.args.numbering.now;
      lists = lists_of c.args.numbering.now;
      pattern = meaning c.args.patterns.now;
      are_lists = are.lists;
      are_numbers = are.numbers;
      are_patterns = c.requires.patterns;
      own = rules.own;
      repetitions = rules.repetitions;
      name = c.in_ok-name.ensures ∙ c.text.ensures;
      tokens = c.in_ok-tokens.ensures;
      rules = rules.is;
      are_own = rules.are_own;
      are_repetitions = rules.are_repetitions;
      separators = c.in_ok-separators.ensures;
      extras = c.in_ok-extras.ensures;
      word = c.word_symbol.ensures;
      fields = c.in_ok-fields.ensures;
      precs = c.in_ok-precs.ensures;
      conflicts = c.in_ok-conflicts.ensures;
      precedences = c.in_ok-precedences.ensures;
      supertypes = c.in_ok-supertypes.ensures.all;
      supertypes_rise = c.in_ok-supertypes.ensures.rise;
    }
