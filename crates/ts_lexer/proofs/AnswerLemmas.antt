-- Answers, and what they say.
use Rattle.std.proofs.Common.{◌≡◌, ◌∙◌, sym, ap, subst, ℕ, List, drop, arith}
use Rattle.std.specs.Str.{IsUtf8}
use Rattle.ts_base.specs.Bytes.{Bytes}
use Rattle.ts_core.specs.declared.flat.FlatGrammar.{FlatGrammar}
use Rattle.ts_core.specs.declared.symbol.Symbol.{Symbol}
use Rattle.ts_table.specs.declared.view.ParseTable.{ParseTable}
use Rattle.spec_lexing.specs.Lexing.{Found, token, absent, Lex}
use Rattle.spec_lexing.specs.Seen.{Seen, Agree}
use Rattle.ts_lexer.specs.declared.lexed.Lexed.{Lexed}
use Rattle.ts_lexer.specs.declared.lexed.Lexed.TheVariants.{Token, Absent}
use Rattle.ts_lexer.specs.Answers.{SaysFound, extent_of, LexesIn, IsLexedAt}
use Rattle.ts_lexer.specs.States.{HaveSameSymbols}

-- an answer says one thing
pub says_once : (start : ℕ) (a : Lexed) (f h : Found) → SaysFound start a f → SaysFound start a h → f ≡ h
says_once start (Token s pad size extent) f h x y = x ∙ sym y
says_once start (Absent place extent) f h (n, p, e) (m, q, d) = let same : n ≡ m = omega arith in e ∙ ap absent same ∙ sym d

-- what says one thing, and looked as far, is one answer
pub said_once : (start : ℕ) (a b : Lexed) (f : Found) → SaysFound start a f → SaysFound start b f → extent_of a ≡ extent_of b → a ≡ b
said_once start (Token s p z e) (Token t q y d) f u v far =
    let both : token s p z ≡ token t q y = sym u ∙ v in
    let symbol : s ≡ t = cc in
    let pad : p ≡ q = cc in
    let size : z ≡ y = cc in
    cc
said_once start (Token s p z e) (Absent place d) f u (n, at, v) far = absurd (let both : token s p z ≡ absent n = sym u ∙ v in cc)
said_once start (Absent place e) (Token t q y d) f (n, at, u) v far = absurd (let both : absent n ≡ token t q y = sym u ∙ v in cc)
said_once start (Absent place e) (Absent other d) f (n, at, u) (m, it, v) far =
    let both : absent n ≡ absent m = sym u ∙ v in
    let same : n ≡ m = cc in
    let one : place ≡ other = omega arith in
    cc

-- the laws of lexing that answers rest on
pub record AnswerLaws : Type 0 where
  pub one_found : (g : FlatGrammar) (valid : List Symbol) (rest : Bytes) (f h : Found) → Lex g valid rest f → Lex g valid rest h → f ≡ h
  pub one_seen : (g : FlatGrammar) (valid : List Symbol) (rest : Bytes) (n m : ℕ) → Seen g valid rest n → Seen g valid rest m → n ≡ m
  pub same_found : (g : FlatGrammar) (valid other : List Symbol) (rest : Bytes) (f : Found) → HaveSameSymbols valid other → Lex g valid rest f → Lex g other rest f
  pub same_seen : (g : FlatGrammar) (valid other : List Symbol) (rest : Bytes) (n : ℕ) → HaveSameSymbols valid other → Seen g valid rest n → Seen g other rest n

-- for a state there is one answer at a place
pub one_lexed : AnswerLaws → (t : ParseTable) (state : ℕ) (text : Bytes) (place : ℕ) (a b : Lexed) → IsLexedAt t state text place a → IsLexedAt t state text place b → a ≡ b
one_lexed laws t state text place a b x y =
    let g = t.grammar in
    let same : HaveSameSymbols x.valid y.valid = λ s. ((λ h. (y.are_valid s).1 ((x.are_valid s).0 h)), (λ h. (x.are_valid s).1 ((y.are_valid s).0 h))) in
    let found = laws.one_found g y.valid (drop place text) x.answer.found y.answer.found (laws.same_found g x.valid y.valid (drop place text) x.answer.found same x.answer.lex) y.answer.lex in
    let far = laws.one_seen g y.valid (drop place text) (extent_of a) (extent_of b) (laws.same_seen g x.valid y.valid (drop place text) (extent_of a) same x.answer.seen) y.answer.seen in
    said_once place a b y.answer.found (subst (λ (f : Found). SaysFound place a f) found x.answer.says) y.answer.says far

-- where another text agrees as far as was looked at, lexing comes to the same
pub settled : ((g : FlatGrammar) (valid : List Symbol) (text other : Bytes) (place at n : ℕ) (f : Found) → IsUtf8 text → Seen g valid (drop place text) n → Agree n (drop place text) (drop at other)
    → Lex g valid (drop place text) f → Lex g valid (drop at other) f)
    → (t : ParseTable) (state : ℕ) (text other : Bytes) (place at : ℕ) (lexed : Lexed) (f : Found) → IsUtf8 text → IsLexedAt t state text place lexed → SaysFound place lexed f
    → Agree (extent_of lexed) (drop place text) (drop at other) → LexesIn t state (drop at other) f
settled decides t state text other place at lexed f utf8 x says agree =
    let same = says_once place lexed x.answer.found f x.answer.says says in
    record {
      valid = x.valid;
      are_valid = x.are_valid;
      lex = decides t.grammar x.valid text other place at (extent_of lexed) f utf8 x.answer.seen agree
          (subst (λ (h : Found). Lex t.grammar x.valid (drop place text) h) same x.answer.lex);
    }
