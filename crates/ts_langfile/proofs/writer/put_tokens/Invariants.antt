use Rattle.std.proofs.Common.{◌≡◌, ◌++◌, length, take}
use Rattle.std.specs.List.{flat_map}
use Rattle.ts_langfile.specs.Spelling.{number32, token}
use Rattle.ts_langfile.proofs.writer.put_tokens.Given as goal

abbrev pub invariant-loop-token : goal.invariant-loop-token
invariant-loop-token l = l.out.items ≡ (l.fn.out.items ++ number32 (length l.tokens)) ++ flat_map token (take l.token-index l.tokens)
