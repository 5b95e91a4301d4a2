use Rattle.std.proofs.Common.{◌≡◌, ◌∷◌, string_bytes}
use Rattle.std.specs.Str.{encode_utf8_all}
use Rattle.ts_grammar_json.specs.Pointer.{escaped}
use Rattle.ts_grammar_json.proofs.pointer.step_text.Given as goal

abbrev pub invariant-loop-c : goal.invariant-loop-c
invariant-loop-c l = string_bytes l.text ≡ 47 ∷ escaped (encode_utf8_all l.yielded)
