use Rattle.std.proofs.Common.{◌≡◌, ◌++◌}
use Rattle.std.specs.Str.Iter.{chars_rest}
use Rattle.std.proofs.Math.Utf8.{encode}
use Rattle.ts_lexer.proofs.scanning.wide_turn.Goals as goal

pub returns : goal.returns
returns c = record {
  character = c.in-Some.c;
  later = chars_rest c.next.new.self;
  spells = (let e : c.args.text.now ≡ encode c.in-Some.c ++ chars_rest c.next.new.self = rw c.chars.ensures.rest at c.in-Some.ensures.steps.0 in e);
  len = c.len_utf8.ensures.value;
  within = c.next-2.ensures.within;
  leads = c.next-2.ensures.stands;
}
