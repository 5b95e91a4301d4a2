use Rattle.std.proofs.Common.{◌≡◌, ◌∙◌, sym, refl, subst, ℕ, suc, drop, arith}
use Rattle.std.specs.List.{prefix_len}
use Rattle.ts_base.specs.Bytes.{Bytes}
use Rattle.spec_lexing.specs.Lexing.{absent, Lex}
use Rattle.spec_lexing.specs.Seen.{is_inner, Seen}
use Rattle.ts_lexer.proofs.InsideLemmas.{inside, inside_lex, inside_seen, inside_extent}
use Rattle.ts_lexer.proofs.answering.inside.Goals as goal

pub returns-clause-answer : goal.returns-clause-answer
returns-clause-answer c g valid =
    let text = c.args.text.now in
    let place = c.args.place in
    let i = inside text place c.requires.within c.requires.inner in
    let e : c.inner_bytes.result ≡ suc (prefix_len is_inner i.bytes) =
    c.inner_bytes.ensures ∙ inside_extent text place i in
    record {
      found = absent 0;
      lex = subst (λ (l : Bytes). Lex g valid l (absent 0)) (sym i.rest) (inside_lex g valid i.byte i.bytes i.inner);
      says = (0, (omega arith), refl);
      seen = subst (λ (n : ℕ). Seen g valid (drop place text) n) (sym e)
          (subst (λ (l : Bytes). Seen g valid l (suc (prefix_len is_inner i.bytes))) (sym i.rest) (inside_seen g valid i.byte i.bytes i.inner));
    }
