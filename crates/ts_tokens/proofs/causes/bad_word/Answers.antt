use Rattle.std.proofs.Common.{◌≡◌, ◌∙◌, sym, subst, true, false, Some}
use Rattle.std.specs.List.{Contains}
use Rattle.ts_base.specs.Bytes.{Bytes}
use Rattle.ts_rules.specs.Names.{told}
use Rattle.ts_tokens.proofs.causes.bad_word.Goals as goal

pub returns-then-is_among : goal.returns-then-is_among
returns-then-is_among c = λ names name is.
    let e : Some c.in-Some.word ≡ Some name = sym c.in-Some.is ∙ is in
    let same : c.in-Some.word ≡ name = cc in
    (names name).0 (subst (λ (n : Bytes). Contains (told c.args.token_names.now.keys) n) same (c.is_among.ensures.0 c.if-is_among.true))

pub returns-else-is_among : goal.returns-else-is_among
returns-else-is_among c = λ names. (
  c.in-Some.is,
  λ some. let e : true ≡ false = sym (c.is_among.ensures.1 ((names c.in-Some.word).1 some)) ∙ c.if-is_among.false in cc,
)
